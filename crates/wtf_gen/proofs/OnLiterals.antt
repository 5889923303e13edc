-- What an answer unfolds to compute the line of a number that is written out.
use Rattle.std.specs.Prelude.{⊤}
use Rattle.std.specs.Fmt.{digits}
use Rattle.hex.proofs.OnLiterals.{hex_on_literals}
use Rattle.wtf_gen.specs.Lines.{next_state, drawn, put, number, handle, file, label, job, amount, byte, some_bytes, bytes, verb_of, call, asked, client_line, system_line, line_draft, generated_lines, generated_script}

unfoldable pub lines_on_literals : ⊤
unfolding next_state drawn put number handle file label job amount byte some_bytes bytes verb_of call asked client_line system_line line_draft generated_lines generated_script digits hex_on_literals
lines_on_literals = tt
