use Rattle.std.proofs.Common.{refl, inl, subst}
use Rattle.std.specs.List.{Contains}
use Rattle.wtf_region.specs.Cached.{Remembered}
use Rattle.wtf_region.specs.Devs.{remembered}
use Rattle.wtf_region.proofs.Spans.{goes_cached}
use Rattle.wtf_region.proofs.Recalling.{looked_up_only}
use Rattle.wtf_region.proofs.list.recall.Goals as goal

pub returns-in-Ok-clause-dev : goal.returns-in-Ok-clause-dev
returns-in-Ok-clause-dev g c = goes_cached g.met.S.SliceStore.laws c.args.dev.now _ refl c.requires.sound c.look_up.ensures.places
    (λ e there. inl (looked_up_only c.args.slice.now c.in-Ok.known (remembered c.args.dev.now) _ c.in-Ok.ensures.value c.in-Ok.ensures.ok e there))

pub returns-in-Err-clause-dev : goal.returns-in-Err-clause-dev
returns-in-Err-clause-dev g c = goes_cached g.met.S.SliceStore.laws c.args.dev.now _ refl c.requires.sound c.look_up.ensures.places
    (λ e there. inl (subst (λ (l : Remembered). Contains l e) c.in-Err.ensures.err there))
