use Rattle.std.proofs.Common.{◌≡◌, ◌-◌}
use Rattle.wtf_overlay.specs.Reading.{many_at}
use Rattle.wtf_spillfmt.proofs.Many.{with_front}
use Rattle.wtf_changes.specs.Reading.{file_at}
use Rattle.wtf_changes.proofs.parser.some_files_of.Given as goal

abbrev pub invariant-loop : goal.invariant-loop
invariant-loop l = with_front l.files.items (many_at file_at (l.count - l.counter) l.rest) ≡ many_at file_at l.count l.bytes
