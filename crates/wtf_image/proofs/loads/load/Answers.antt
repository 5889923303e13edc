use Rattle.std.proofs.Common.{ℕ, Bool, subst}
use Rattle.std.specs.Prelude.{IfOk, IfErr}
use Rattle.wtf_image.specs.Rules.{size_in}
use Rattle.wtf_image.specs.Loading.{IsRefusalWithout}
use Rattle.wtf_image.specs.Outcome.{IsLoadWithout}
use Rattle.wtf_image.proofs.LostLaws.{none_in_zero}
use Rattle.wtf_image.proofs.loads.load.Goals as goal

pub returns-clause-loaded : goal.returns-clause-loaded
returns-clause-loaded g c =
    subst (λ (lost : ℕ → Bool). IfOk c.load_without.result (IsLoadWithout lost (size_in g.S.SliceStore.kind c.args.shelf.now) c.args.bytes.now))
    none_in_zero c.load_without.ensures.loaded

pub returns-clause-cause : goal.returns-clause-cause
returns-clause-cause g c =
    subst (λ (lost : ℕ → Bool). IfErr c.load_without.result (IsRefusalWithout lost (size_in g.S.SliceStore.kind c.args.shelf.now) c.args.bytes.now))
    none_in_zero c.load_without.ensures.cause
