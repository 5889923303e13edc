-- What a run promises once what its sink held back was brought out.
use Rattle.std.proofs.Common.{◌≡◌, ◌≢◌, ◌⊎◌, ◌≤◌, ℕ, List, sym, ◌∙◌, subst, arith, inl, inr}
use Rattle.wtf_dev.specs.Counts.{Rose}
use Rattle.wtf_dev.specs.Store.{StoreKind}
use Rattle.wtf_dev.specs.Streams.{SinkView}
use Rattle.wtf_healer.specs.Ends.{RunSpan, sink_span}
use Rattle.wtf_healer.specs.Heals.{Heals}
use Rattle.wtf_healer.specs.Runs.{IsUntouched}
use Rattle.wtf_model.specs.Tree.{Tree}
use Rattle.wtf_heal.specs.Program.{IsBroughtOut}

-- the statuses of a run in which nothing failed
abbrev IsFine : ℕ → Type 0
IsFine status = (status ≡ 0) ⊎ (status ≡ 2) ⊎ (status ≡ 6) ⊎ (status ≡ 7)

not_four : (status : ℕ) → IsFine status → status ≢ 4
not_four status (inl zero) four = omega (arith, zero, four)
not_four status (inr (inl two)) four = omega (arith, two, four)
not_four status (inr (inr (inl six))) four = omega (arith, six, four)
not_four status (inr (inr (inr seven))) four = omega (arith, seven, four)

module _ {O : Type 0} (view : O → SinkView) (old mid new : O) (found status : ℕ) (out : IsBroughtOut found status (view mid) (view new)) where
  pub found_zero : status ≡ 0 → found ≡ 0
  found_zero zero = elim out.ended [ inl same ↦ sym same.0 ∙ zero | inr four ↦ absurd (let is = four.0 in omega (arith, is, zero)) ]

  -- what a status says of a run that did not fail in writing is so of the run behind it
  pub found_untouched : IsUntouched status → IsUntouched found
  found_untouched h = elim out.ended [ inl same ↦ subst IsUntouched same.0 h | inr four ↦ absurd (touched h four.0) ]
    where
      touched : IsUntouched status → status ≡ 4 → ⊥
      touched (inl two) four = omega (arith, two, four)
      touched (inr (inl six)) four = omega (arith, six, four)
      touched (inr (inr eight)) four = omega (arith, eight, four)

  pub healed_out : {S : Type 0} (kind : StoreKind S) (ks : List ℕ) (t : RunSpan S) (tree : Tree) (held : List ℕ)
      → Heals kind ks t (sink_span view old mid) tree held → Heals kind ks t (sink_span view old new) tree held
  healed_out kind ks t tree held h = record {
    kept = h.kept;
    held = h.held;
    image = h.image;
    regions = h.regions;
    anew = h.anew;
    counted = h.counted;
    wrote = λ text taken. out.taken _ (h.wrote text taken);
    installs = h.installs;
    grew = h.grew;
  }

  module _ (grows : (view mid).faults ≤ (view new).faults) (none : Rose (view old).faults (view new).faults → ⊥) where
    pub none_before : Rose (view old).faults (view mid).faults → ⊥
    none_before rose = none (λ low. let more = rose (omega (arith, low, grows)) in omega (arith, more, grows))

    pub fine_out : (found ≢ 4 → (view mid).faults ≡ (view old).faults) → IsFine found → IsFine status
    fine_out still fine = elim out.ended [
      | inl same ↦ subst IsFine (sym same.0) fine
      | inr four ↦ absurd (none (λ low. let same = still (not_four found fine) in let more = four.1 low in omega (arith, more, same)))
    ]
