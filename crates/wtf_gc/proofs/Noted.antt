-- The lengths that were noted.
use Rattle.std.proofs.Common.{◌≡◌, ℕ, ◌+◌, ◌*◌, cond, nat_lt, List, length, Option, sym, ap, ◌∙◌, ⊎_elim, arith}
use Rattle.std.specs.Prelude.{slice_index_or}
use Rattle.std.specs.Option.{option_map, unwrap_or}
use Rattle.std.proofs.lemmas.Bool.{cases_Bool, ltb-true, cases_lt}
use Rattle.std.proofs.lemmas.Option.{slice_get_past}
use Rattle.std.proofs.lemmas.List.{get_or_past}
use Rattle.wtf_dev.specs.Store.{StoreKind}
use Rattle.wtf_replica.specs.Inside.{size_in}
use Rattle.wtf_gc.specs.Views.{mark_in, length_in, MarksUpto}

pub marks_all : {S : Type 0} (kind : StoreKind S) (shelf : List S) (n : ℕ) (marks : List ℕ) → MarksUpto kind shelf (n * 8) marks → n ≡ length shelf → (k f : ℕ)
    → mark_in marks k f ≡ length_in kind shelf k f
marks_all {S} kind shelf n marks noted all k f = ⊎_elim
    (λ t. let lt = ltb-true f 8 t in
    ap (λ b. cond b (slice_index_or marks (k * 8 + f) 0) 0) t
    ∙ ⊎_elim
    (λ inside. noted.are k f lt inside)
    (λ past. let long = noted.len in
    get_or_past marks (k * 8 + f) 0 (omega (arith, long, past))
    ∙ sym (ap (λ (o : Option S). unwrap_or (option_map (λ s. (kind.view s).size f) o) 0) (slice_get_past shelf k (omega (arith, past, all, lt)))))
    (cases_lt (k * 8 + f) (n * 8))
    ∙ sym (ap (λ b. cond b (size_in kind shelf k f) 0) t))
    (λ e. ap (λ b. cond b (slice_index_or marks (k * 8 + f) 0) 0) e ∙ sym (ap (λ b. cond b (size_in kind shelf k f) 0) e))
    (cases_Bool (nat_lt f 8))
