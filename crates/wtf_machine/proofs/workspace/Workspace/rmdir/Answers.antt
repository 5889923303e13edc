use Rattle.std.proofs.Common.{sym}
use Rattle.wtf_machine.specs.Sessions.{session_in}
use Rattle.wtf_model.proofs.NameLaws.{rmdir-root, rmdir-refused, rmdir-not_empty, rmdir-done, none_left, some_left}
use Rattle.wtf_machine.proofs.workspace.Workspace.rmdir.Goals as goal

pub returns-then-is_root : goal.returns-then-is_root
returns-then-is_root c = λ cap. rmdir-root cap (session_in c.args.self.now) c.args.p.now (sym c.if-is_root.ensures)

pub returns-in-Err : goal.returns-in-Err
returns-in-Err c = λ cap. rmdir-refused cap (session_in c.args.self.now) c.args.p.now (sym c.if-is_root.ensures) _ (sym c.in-Err.ensures)

pub returns-then-not-is_empty_in : goal.returns-then-not-is_empty_in
returns-then-not-is_empty_in c =
    λ cap. rmdir-not_empty cap (session_in c.args.self.now) c.args.p.now (sym c.if-is_root.ensures) (sym c.in_default.ensures)
    (some_left c.args.self.now.tree c.args.p.now _ c.is_empty_in.ensures c.if-not-is_empty_in.true)

pub returns : goal.returns
returns c = λ cap. rmdir-done cap (session_in c.args.self.now) c.args.p.now (sym c.if-is_root.ensures) _ (sym c.in_default.ensures)
    (none_left c.args.self.now.tree c.args.p.now _ c.is_empty_in.ensures c.if-not-is_empty_in.false) c.take.ensures
