-- Where nothing is open and only the number has an image or is watched, nothing but the number can be read.
use Rattle.wtf_clients.proofs.Common.{IsTrue, if◌then◌else◌, list_any, cases_Bool, or_cases, cases_lt, false≢true, eq-eqb, eqb-true, sum_by-cons, is_live}
use Rattle.wtf_clients.proofs.Common.{any-count, count-any, TxnView, RunView, all_owned, planned, all_planned, all_seen, all_watched, AreSound, Clients, Jobs}
use Rattle.wtf_clients.proofs.Common.{TablesView, of_client, of_label, ◌≡◌, ℕ, zero, suc, ◌<◌, true, false, cond, nat_eq, count_by, [], ◌∷◌, Option, None, Some}
use Rattle.wtf_clients.proofs.Common.{refl, sym, ap, ◌∙◌, ⊎_elim, arith}
use Rattle.wtf_clients.proofs.Lives.{live_cases}

-- ---- where no transaction and no job is open, and only the number has an image, is seen by a scan and is watched, nothing else can be read
pub none_owned : (n : ℕ) (clients : Clients) → ((c : ℕ) → of_client clients c ≡ None) → all_owned n clients ≡ 0
none_owned n [] none = refl
none_owned n ((k, x) ∷ es) none =
    let there : of_client ((k, x) ∷ es) k ≡ Some x = ap (λ b. cond b (Some x) (of_client es k)) (eq-eqb k k refl) in
    let bad : ◌≡◌ {A = Option TxnView} None (Some x) = sym (none k) ∙ there in
    absurd (cc)

pub none_planned : (n : ℕ) (jobs : Jobs) → ((j : ℕ) → of_label jobs j ≡ None) → all_planned n jobs ≡ 0
none_planned n [] none = refl
none_planned n (o ∷ os) none =
    let whole = sum_by-cons (planned n) o os in
    let here : planned n o ≡ 0 = ap (planned n) (none zero) in
    let rest = none_planned n os (λ j. none (suc j)) in
    omega (arith, whole, here, rest)

pub rests_alone : (tables : TablesView) → AreSound tables → ((c : ℕ) → of_client tables.clients c ≡ None) → ((j : ℕ) → of_label tables.beside.jobs j ≡ None)
    → tables.beside.images ≡ tables.kv.number ∷ []
    → ((r : RunView) → tables.beside.gc.running ≡ Some r → (n : ℕ) → list_any (nat_eq n) r.seen ≡ true → n ≡ tables.kv.number)
    → ((n : ℕ) → tables.beside.watched ≡ Some n → n ≡ tables.kv.number) → (n : ℕ) → IsTrue (is_live tables.kv n) → n ≡ tables.kv.number
rests_alone tables sound clients jobs images seen watched n live = ⊎_elim
    (λ now. now)
    (λ pinned.
    let some = count-any n tables.kv.pins pinned in
    let pins = sound.pins n in
    let owned = none_owned n tables.clients clients in
    let idle = none_planned n tables.beside.jobs jobs in
    let image : count_by (nat_eq n) tables.beside.images ≡ count_by (nat_eq n) (tables.kv.number ∷ []) = ap (count_by (nat_eq n)) images in
    ⊎_elim
    (λ scanned. by tables.beside.gc.running refl scanned)
    (λ none.
    ⊎_elim
    (λ some. watches tables.beside.watched refl some)
    (λ unwatched.
    let one : list_any (nat_eq n) (tables.kv.number ∷ []) ≡ true =
    any-count n (tables.kv.number ∷ []) (omega (arith, some, pins, owned, idle, image, none, unwatched)) in
    ⊎_elim (λ same. eqb-true n tables.kv.number same) (λ never. absurd (false≢true never)) (or_cases (nat_eq n tables.kv.number) false one))
    (cases_lt 0 (all_watched n tables.beside.watched))) (cases_lt 0 (all_seen n tables.beside.gc.running))) (live_cases tables.kv n live)
  where
    by : (o : Option RunView) → tables.beside.gc.running ≡ o → 0 < all_seen n o → n ≡ tables.kv.number
    by None is some = absurd (omega (arith, some))
    by (Some r) is some = seen r is n (any-count n r.seen some)

    watches : (o : Option ℕ) → tables.beside.watched ≡ o → 0 < all_watched n o → n ≡ tables.kv.number
    watches None is some = absurd (omega (arith, some))
    watches (Some w) is some = ⊎_elim
        (λ here. eqb-true n w here ∙ watched w is)
        (λ other. let none : all_watched n (Some w) ≡ 0 = ap (λ b. if b then 1 else 0) other in absurd (omega (arith, some, none)))
        (cases_Bool (nat_eq n w))
