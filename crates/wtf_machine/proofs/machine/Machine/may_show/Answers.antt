use Rattle.wtf_model.specs.Tree.{rows_of}
use Rattle.wtf_machine.proofs.RowLaws.{shows_rows}
use Rattle.wtf_machine.proofs.machine.Machine.may_show.Goals as goal

pub returns : goal.returns
returns c = shows_rows c.args.answer.now c.in-Tree.shown c.in_ok-rows.rows
    (rows_of c.args.self.now.tree) c.eq.result c.in-Tree.is c.in_ok-rows.ensures c.eq.ensures
