use Rattle.std.proofs.Common.{◌≡◌, ◌≤◌, ◌++◌, ℕ, zero, suc, List, [], Option, Some, take, refl, ◌∙◌, ap, arith, inl}
use Rattle.std.proofs.lemmas.List.{append-nil}
use Rattle.wtf_file.proofs.brought_out.Goals as goal

-- no byte is taken of none
none_more : (n : ℕ) (old : List ℕ) (new : Option (List ℕ)) → n ≤ 0 → new ≡ Some (old ++ take n []) → new ≡ Some old
none_more zero old new few is = is ∙ ap (λ (l : List ℕ). Some l) (append-nil old)
none_more (suc n) old new few is = absurd (omega (arith, few))

pub returns-in-Ok-clause-out : goal.returns-in-Ok-clause-out
returns-in-Ok-clause-out g c = record {
  taken = λ bytes e. none_more c.in-Ok.field-0 bytes _ c.in-Ok.ensures.count (c.in-Ok.ensures.told bytes e);
  ended = inl (refl, c.in-Ok.ensures.steady);
}
