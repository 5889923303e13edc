-- The machine's open transactions and jobs where one has gone, and its answers to the first calls.
use Rattle.wtf_core.proofs.Common.{eq-eqb, ne_eqb, cond-true, cond-false, FinMap, get, remove, get-remove, nat_cmp, nat_cmp_total, unsigned_tied, MAX_REGIONS}
use Rattle.wtf_core.proofs.Common.{Answer, Op, fresh, Tree, answers_of, Machine, cap_of, answers_from-take, ◌≡◌, ◌≢◌, suc, zero, ℕ, ◌*◌, List, [], ◌∷◌, take}
use Rattle.wtf_core.proofs.Common.{None, refl, sym, ap, ◌∙◌, slice_get}

-- what was taken out is there no more
pub gone_here : {X : Type 0} (ones : FinMap nat_cmp X) (c : ℕ) → get (remove ones c) c ≡ None
gone_here ones c = get-remove nat_cmp_total ones c c ∙ cond-true _ _ _ (unsigned_tied c c ∙ eq-eqb c c refl)

-- and the others stay
pub gone_there : {X : Type 0} (ones : FinMap nat_cmp X) (c d : ℕ) → d ≢ c → get (remove ones c) d ≡ get ones d
gone_there ones c d other = get-remove nat_cmp_total ones c d ∙ cond-false _ _ _ (unsigned_tied d c ∙ ne_eqb d c other)

-- the greatest length of a file, by the bytes of a region
pub cap_is : (m : Machine) (size : ℕ) → m.settings.region ≡ size → cap_of m ≡ MAX_REGIONS * size
cap_is m size region = ap (λ b. MAX_REGIONS * b) region

-- the last of the first elements
last_of_first : {A : Type 0} (xs : List A) (k : ℕ) → slice_get (take (suc k) xs) k ≡ slice_get xs k
last_of_first [] zero = refl
last_of_first [] (suc k) = refl
last_of_first (x ∷ xs) zero = refl
last_of_first (x ∷ xs) (suc k) = last_of_first xs k

-- where the first calls answer what was shown, so does the last of them
pub answer_shown : (cap : ℕ) (t : Tree) (ops : List (Op (List ℕ))) (shown : List Answer) (k : ℕ) → answers_of cap t (take (suc k) ops) ≡ take (suc k) shown
    → slice_get (answers_of cap t ops) k ≡ slice_get shown k
answer_shown cap t ops shown k same =
    sym (last_of_first (answers_of cap t ops) k)
    ∙ ap (λ l. slice_get l k) (answers_from-take cap (fresh t) ops (suc k) ∙ same)
    ∙ last_of_first shown k
