use Rattle.std.proofs.Common.{◌≡◌, ◌≤◌, ◌++◌, ℕ, zero, suc, List, [], Option, Some, take, ◌∙◌, ap, arith}
use Rattle.std.proofs.lemmas.List.{append-nil}
use Rattle.wtf_journaled.proofs.ends.finish.Goals as goal

-- no byte is taken of none
none_more : (n : ℕ) (old : List ℕ) (new : Option (List ℕ)) → n ≤ 0 → new ≡ Some (old ++ take n []) → new ≡ Some old
none_more zero old new few is = is ∙ ap (λ (l : List ℕ). Some l) (append-nil old)
none_more (suc n) old new few is = absurd (omega (arith, few))

pub returns-in-Ok-clause-told : goal.returns-in-Ok-clause-told
returns-in-Ok-clause-told g c = λ old e. none_more c.in-Ok.field-0 old _ c.in-Ok.ensures.count (c.in-Ok.ensures.told old e)
