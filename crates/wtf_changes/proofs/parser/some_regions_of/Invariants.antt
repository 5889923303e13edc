use Rattle.std.proofs.Common.{◌≡◌, ◌-◌}
use Rattle.wtf_overlay.specs.Reading.{many_at}
use Rattle.wtf_spillfmt.proofs.Many.{with_front}
use Rattle.wtf_changes.specs.Rows.{region_rows}
use Rattle.wtf_changes.specs.Reading.{region_change_at}
use Rattle.wtf_changes.proofs.parser.some_regions_of.Given as goal

abbrev pub invariant-loop : goal.invariant-loop
invariant-loop l = with_front (region_rows l.regions.items) (many_at region_change_at (l.count - l.counter) l.rest) ≡ many_at region_change_at l.count l.bytes
