use Rattle.std.proofs.Common.{map, string_bytes}
use Rattle.wtf_file.specs.Program.{streams}
use Rattle.wtf_file.specs.Words.{task_asked}
use Rattle.wtf_file.proofs.OutcomeLaws.{no-memory}
use Rattle.wtf_file.proofs.carry_over.Goals as goal

pub returns-in-Err-clause-over : goal.returns-in-Err-clause-over
returns-in-Err-clause-over g c =
    no-memory (task_asked (map string_bytes c.args.words.now)) (streams (g.I.Source.view c.args.from.now) (g.O.Sink.view c.args.out.now))
