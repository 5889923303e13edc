use Rattle.std.proofs.Common.{◌≡◌, ◌-◌}
use Rattle.wtf_overlay.specs.Clips.{Within}
use Rattle.wtf_overlay.specs.Rows.{entry_rows}
use Rattle.wtf_overlay.specs.Reading.{many_at, entry_at}
use Rattle.wtf_spillfmt.proofs.Many.{with_front}
use Rattle.wtf_spillfmt.proofs.entries.entries_of.Given as goal

abbrev pub invariant-loop : goal.invariant-loop
invariant-loop l =
    (with_front (entry_rows l.list.items) (many_at (entry_at l.end) (l.count - l.counter) l.rest) ≡ many_at (entry_at l.end) l.count l.bytes)
    × Within l.end l.list.items
