use Rattle.std.proofs.Common.{◌≡◌, ◌≤◌, ◌++◌, ℕ, zero, suc, List, [], Option, Some, take, refl, ◌∙◌, ap, arith, inl, inr}
use Rattle.std.proofs.lemmas.List.{append-nil}
use Rattle.wtf_check.proofs.check_over.Goals as goal

-- no byte is taken of none
none_more : (n : ℕ) (old : List ℕ) (new : Option (List ℕ)) → n ≤ 0 → new ≡ Some (old ++ take n []) → new ≡ Some old
none_more zero old new few is = is ∙ ap (λ (l : List ℕ). Some l) (append-nil old)
none_more (suc n) old new few is = absurd (omega (arith, few))

pub returns-in-Ok : goal.returns-in-Ok
returns-in-Ok g c = record {
  found = c.wtf_check-status.result;
  sink = g.O.Sink.view c.wtf_check-status.new.out;
  checked = c.wtf_check-status.ensures.checked;
  taken = λ bytes e. none_more c.in-Ok.field-0 bytes _ c.in-Ok.ensures.count (c.in-Ok.ensures.told bytes e);
  ended = inl (refl, c.in-Ok.ensures.steady);
}

pub returns-in-Err : goal.returns-in-Err
returns-in-Err g c = record {
  found = c.wtf_check-status.result;
  sink = g.O.Sink.view c.wtf_check-status.new.out;
  checked = c.wtf_check-status.ensures.checked;
  taken = c.in-Err.ensures.told;
  ended = inr (refl, c.in-Err.ensures.cause);
}
