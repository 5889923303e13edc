use Rattle.std.proofs.Common.{length, ap, arith, ◌∙◌}
use Rattle.wtf_meta.specs.declared.session.Held.{Held}
use Rattle.wtf_meta.specs.Sessions.{session_view}
use Rattle.wtf_meta.proofs.Labels.{slice_set_alone}
use Rattle.wtf_meta.proofs.session.Session.put_slice.Goals as goal

pub returns : goal.returns
returns c =
    let held = c.deref_mut.result.now in
    let long = ap (λ (h : Held). length h.slices) c.deref_mut.ensures.value in
    let seen = ap (λ (h : Held). session_view h.handles h.slices) c.deref_mut.ensures.value ∙ c.self.view_is in
    slice_set_alone held.handles held.slices c.args.s c.of.result c.args.pieces c.args.self.now seen
    (omega (arith, c.requires, c.self.invariant, long)) c.of.ensures
