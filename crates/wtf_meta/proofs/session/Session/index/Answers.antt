use Rattle.std.proofs.Common.{length, Some, Vec, Global, Option, ap, ◌∙◌, sym, arith}
use Rattle.std.specs.Option.{option_map}
use Rattle.wtf_overlay.specs.declared.part.Piece.{Piece}
use Rattle.wtf_meta.specs.declared.kept.Kept.{Kept}
use Rattle.wtf_meta.specs.declared.session.Held.{Held}
use Rattle.wtf_meta.specs.Sessions.{items_of, session_view}
use Rattle.wtf_meta.proofs.Labels.{slice_same}
use Rattle.wtf_meta.proofs.session.Session.index.Goals as goal

pub returns : goal.returns
returns c =
    let held = c.deref_mut.result.now in
    let long = ap (λ (h : Held). length h.slices) c.deref_mut.ensures.value in
    slice_same held.handles held.slices c.args.s c.index-deref_mut-s.result _ (omega (arith, c.requires, c.self.invariant, long)) c.index-deref_mut-s.is
    (ap (λ (v : Vec Piece Global). Some v.items) c.index.ensures
    ∙ ap (λ (k : Option Kept). option_map items_of k) (sym c.in-Some.is ∙ sym c.index-deref_mut-s.is))
    ∙ ap (λ (h : Held). session_view h.handles h.slices) c.deref_mut.ensures.value ∙ c.self.view_is
