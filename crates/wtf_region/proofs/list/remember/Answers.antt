use Rattle.std.proofs.Common.{refl, sym, subst, inl, inr, List}
use Rattle.std.specs.List.{Contains}
use Rattle.wtf_base.specs.declared.slice.Slice.{Slice}
use Rattle.wtf_overlay.specs.declared.part.Entry.{Entry}
use Rattle.wtf_region.specs.Cached.{Remembered, list_fact}
use Rattle.wtf_region.specs.Devs.{remembered}
use Rattle.wtf_region.specs.Reads.{IsTrueList}
use Rattle.wtf_region.proofs.Spans.{goes_cached}
use Rattle.wtf_region.proofs.Recalling.{recalled_only}
use Rattle.wtf_region.proofs.list.remember.Goals as goal

pub returns-in-Ok-clause-dev : goal.returns-in-Ok-clause-dev
returns-in-Ok-clause-dev g c = goes_cached g.met.S.SliceStore.laws c.args.dev.now _ refl c.requires.sound c.keep.ensures.places
    (λ e there. elim (recalled_only (list_fact c.args.slice.now c.args.list.now) (remembered c.args.dev.now) e
    (subst (λ (l : Remembered). Contains l e) c.in-Ok.ensures.ok there)) [
      | inl was ↦ inl was
      | inr same ↦ inr (subst (λ (p : Slice × List Entry). IsTrueList g.S.SliceStore.kind c.args.dev.now p.0 p.1) (sym same) c.requires.is_true)
    ])

pub returns-in-Err-clause-dev : goal.returns-in-Err-clause-dev
returns-in-Err-clause-dev g c = goes_cached g.met.S.SliceStore.laws c.args.dev.now _ refl c.requires.sound c.keep.ensures.places
    (λ e there. inl (subst (λ (l : Remembered). Contains l e) c.in-Err.ensures.err there))
