use Rattle.std.proofs.Common.{List, Option, length, ◌∙◌, ap, arith}
use Rattle.wtf_meta.specs.declared.session.Handle.{Handle}
use Rattle.wtf_meta.specs.declared.session.Held.{Held}
use Rattle.wtf_meta.specs.Sessions.{SessionView, handle_in}
use Rattle.wtf_meta.proofs.Labels.{at_label_within}
use Rattle.wtf_meta.proofs.session.Session.holds.Goals as goal

pub returns-clause-off : goal.returns-clause-off
returns-clause-off c = λ _ f h there.
    let here = ap (λ (s : SessionView). handle_in s f) c.self.view_is ∙ there in
    let all = ap (λ (l : List (Option Handle)). length l) c.as_slice-handles.ensures in
    let inner = ap (λ (l : Held). length l.handles) c.deref.ensures in
    c.loop-handle.invariant f h (omega (arith, all, inner, at_label_within c.self.inside.held.value.handles f h here, c.loop-handle-test.false)) there
