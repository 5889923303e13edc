use Rattle.std.proofs.Common.{length, sym}
use Rattle.std.proofs.lemmas.Bool.{eqb-true}
use Rattle.wtf_model.proofs.ByteLaws.{write-none, write-nothing, write-big}
use Rattle.wtf_machine.specs.Sessions.{session_in}
use Rattle.wtf_machine.proofs.HandleWays.{some_bytes, write_in}
use Rattle.wtf_machine.proofs.workspace.Workspace.write.Goals as goal

pub returns-in_default : goal.returns-in_default
returns-in_default c = write-none c.args.cap (session_in c.args.self.now) c.args.f c.args.bytes.now (sym c.in_default.ensures)

pub returns-then-is_empty : goal.returns-then-is_empty
returns-then-is_empty c =
    write-nothing c.args.cap (session_in c.args.self.now) c.args.f _ (sym c.in-Some.ensures)
    c.args.bytes.now (eqb-true (length c.args.bytes.now) 0 (sym c.if-is_empty.ensures))

pub returns-in_default-end_within : goal.returns-in_default-end_within
returns-in_default-end_within c =
    write-big c.args.cap (session_in c.args.self.now) c.args.f _ (sym c.in-Some.ensures)
    c.args.bytes.now (some_bytes c.args.bytes.now c.if-is_empty.ensures) c.in_default-end_within.ensures.none

pub returns : goal.returns
returns c =
    write_in c.args.cap (session_in c.args.self.now) c.args.f _ c.in-Some.ensures _ c.bytes_on.ensures
    c.args.bytes.now _ _ _ _ _ _ (some_bytes c.args.bytes.now c.if-is_empty.ensures) c.in-Some-end_within.ensures.some c.in_ok-made.ensures
    c.in_ok-path.ensures c.in_ok-file.ensures c.in_ok-set.ensures.ok c.in_ok-put_bytes.ensures
