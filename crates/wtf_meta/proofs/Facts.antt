-- Facts, one list after another.
use Rattle.std.proofs.Common.{Bool, List, [], ◌∷◌, ◌++◌}
use Rattle.wtf_overlay.specs.Origin.{Place}
use Rattle.wtf_meta.specs.Contents.{Told}
use Rattle.wtf_meta.specs.Calls.{Fact, TellFacts, FactsBytes}

pub TellFacts-append : (told : Told) (es fs : List Fact) → TellFacts told es → TellFacts told fs → TellFacts told (es ++ fs)
TellFacts-append told [] fs front back = back
TellFacts-append told (e ∷ es) fs front back = (front.0, TellFacts-append told es fs front.1 back)

pub TellFacts-parts : (told : Told) (es fs : List Fact) → TellFacts told (es ++ fs) → TellFacts told es × TellFacts told fs
TellFacts-parts told [] fs h = (tt, h)
TellFacts-parts told (e ∷ es) fs h = let parts = TellFacts-parts told es fs h.1 in ((h.0, parts.0), parts.1)

pub FactsBytes-append : (P : List Place → Bool) (es fs : List Fact) → FactsBytes P es → FactsBytes P fs → FactsBytes P (es ++ fs)
FactsBytes-append P [] fs front back = back
FactsBytes-append P (e ∷ es) fs front back = (front.0, FactsBytes-append P es fs front.1 back)
