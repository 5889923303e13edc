use Rattle.std.proofs.Common.{refl, sym, ◌∙◌}
use Rattle.wtf_model.proofs.SliceLaws.{peek-none}
use Rattle.wtf_machine.specs.Sessions.{session_in}
use Rattle.wtf_machine.proofs.SliceWays.{peek-outside, peek-inside}
use Rattle.wtf_machine.proofs.workspace.Workspace.peek.Goals as goal

pub returns-in_default : goal.returns-in_default
returns-in_default c cap = peek-none cap (session_in c.args.self.now) c.args.from c.args.off c.args.len (sym c.in_default.ensures)

pub returns-then-not-is_within : goal.returns-then-not-is_within
returns-then-not-is_within c cap =
    peek-outside cap (session_in c.args.self.now) c.args.from c.args.off c.args.len
    (sym c.in-Some.ensures) c.as_slice-bytes.ensures.value c.if-not-is_within.ensures.1

pub returns : goal.returns
returns c cap =
    peek-inside cap (session_in c.args.self.now) c.args.from c.args.off c.args.len (sym c.in-Some.ensures) c.as_slice-bytes.ensures.value
    (c.if-not-is_within.ensures.0 refl) c.part.ensures (c.of.ensures ∙ c.in_ok-shown.ensures.items)
