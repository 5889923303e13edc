-- The pins of the open transactions, and the clients that they are of.
use Rattle.wtf_clients.proofs.Common.{IsTrue, if◌then◌else◌, cases_Bool, eqb-true, eq-eqb, sum_by-cons, Store, is_pinned, times_pinned, any-count, Key, Value}
use Rattle.wtf_clients.proofs.Common.{TxnView, Clients, BesideView, of_client, owned, all_owned, all_kept, ◌≡◌, ◌≢◌, ◌<◌, ℕ, ◌+◌, true, false, nat_eq, cond, []}
use Rattle.wtf_clients.proofs.Common.{◌∷◌, Option, Some, refl, sym, ap, ◌∙◌, ◌⊎◌, inl, inr, ⊎_elim, arith}

-- two numbers are one, or they are not
pub number_cases : (a b : ℕ) → (a ≡ b) ⊎ (a ≢ b)
number_cases a b = ⊎_elim
    (λ same. inl (eqb-true a b same))
    (λ apart. inr (λ e. let hit : nat_eq a b ≡ true = eq-eqb a b e in let bad : true ≡ false = sym hit ∙ apart in cc))
    (cases_Bool (nat_eq a b))

-- one transaction more
all_owned-cons : (n k : ℕ) (x : TxnView) (es : Clients) → all_owned n ((k, x) ∷ es) ≡ owned n (Some x) + all_owned n es
all_owned-cons n k x es = sum_by-cons (λ (e : ℕ × TxnView). owned n (Some e.1)) (k, x) es

-- a transaction owns one pin of its base
owned_base : (x : TxnView) → owned x.at.base (Some x) ≡ 1
owned_base x = ap (λ b. if b then 1 else 0) (eq-eqb x.at.base x.at.base refl)

-- the base of an open transaction is owned
base_owned : (clients : Clients) (c : ℕ) (x : TxnView) → of_client clients c ≡ Some x → 0 < all_owned x.at.base clients
base_owned [] c x is = absurd (cc)
base_owned ((k, y) ∷ es) c x is = ⊎_elim
    (λ here.
    let found : Some y ≡ Some x = sym (ap (λ b. cond b (Some y) (of_client es c)) here) ∙ is in
    let same : y ≡ x = cc in
    let whole : all_owned x.at.base ((k, y) ∷ es) ≡ owned x.at.base (Some y) + all_owned x.at.base es = all_owned-cons x.at.base k y es in
    let own : owned x.at.base (Some y) ≡ 1 = ap (λ z. owned x.at.base (Some z)) same ∙ owned_base x in
    omega (arith, whole, own))
    (λ past.
    let later : of_client es c ≡ Some x = sym (ap (λ b. cond b (Some y) (of_client es c)) past) ∙ is in
    let whole : all_owned x.at.base ((k, y) ∷ es) ≡ owned x.at.base (Some y) + all_owned x.at.base es = all_owned-cons x.at.base k y es in
    let more = base_owned es c x later in
    omega (arith, whole, more))
    (cases_Bool (nat_eq c k))

-- so it is pinned, where each number is pinned as often as a transaction or an image owns it
pub base_pinned : (kv : Store Key Value) (clients : Clients) (beside : BesideView) (c : ℕ) (x : TxnView)
    → ((n : ℕ) → times_pinned kv n ≡ all_owned n clients + all_kept n beside) → of_client clients c ≡ Some x → IsTrue (is_pinned kv x.at.base)
base_pinned kv clients beside c x pins is =
    let some = base_owned clients c x is in
    let same : times_pinned kv x.at.base ≡ all_owned x.at.base clients + all_kept x.at.base beside = pins x.at.base in
    any-count x.at.base kv.pins (omega (arith, some, same))

-- a client has one transaction
pub one_some : (o : Option TxnView) (x y : TxnView) → o ≡ Some x → o ≡ Some y → x ≡ y
one_some o x y a b = let both : Some x ≡ Some y = sym a ∙ b in cc
