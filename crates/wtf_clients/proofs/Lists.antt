-- The list of the open transactions, where that of one client is written, taken out, or new.
use Rattle.wtf_clients.proofs.Common.{option_map, unwrap_or, sum_by, HashMap, WritesThrough, set_value, remove_entry, values_of, sum_by-cons, sum_by-append}
use Rattle.wtf_clients.proofs.Common.{cases_Bool, sum_by-set_value, sum_by-remove_entry, set_value_same, TxnView, Clients, of_client, set_client, without_hand}
use Rattle.wtf_clients.proofs.Common.{without_hands, owned, all_owned, Sets, ◌≡◌, ℕ, ◌+◌, cond, nat_eq, [], ◌∷◌, ◌++◌, Option, None, Some, is_some}
use Rattle.wtf_clients.proofs.Common.{if◌then◌else◌, refl, sym, ap, ◌∙◌, ⊎_elim, arith, ne_eqb, eq-eqb}

-- the pins are those of the values
owned_values : (n : ℕ) (clients : Clients) → all_owned n clients ≡ sum_by (λ x. owned n (Some x)) (values_of clients)
owned_values n [] = refl
owned_values n (e ∷ es) =
    sum_by-cons (λ (p : ℕ × TxnView). owned n (Some p.1)) e es
    ∙ ap (λ k. owned n (Some e.1) + k) (owned_values n es)
    ∙ sym (sum_by-cons (λ x. owned n (Some x)) e.1 (values_of es))

-- ---- the list, where a client's transaction is written in place, comes last, is what it was, or goes
pub set_there : (c : ℕ) (clients : Clients) (x y : TxnView) → of_client clients c ≡ Some x → set_client c (Some y) clients ≡ set_value (nat_eq c) clients y
set_there c clients x y there = ap (λ b. if b then set_value (nat_eq c) clients y else clients ++ (c, y) ∷ []) (ap is_some there)

pub set_new : (c : ℕ) (clients : Clients) (x : TxnView) → of_client clients c ≡ None → set_client c (Some x) clients ≡ clients ++ (c, x) ∷ []
set_new c clients x none = ap (λ b. if b then set_value (nat_eq c) clients x else clients ++ (c, x) ∷ []) (ap is_some none)

-- no entry goes where there is none
remove_none : (c : ℕ) (clients : Clients) → of_client clients c ≡ None → remove_entry (nat_eq c) clients ≡ clients
remove_none c [] none = refl
remove_none c ((k, x) ∷ es) none = ⊎_elim
    (λ here. absurd (let e : Some x ≡ None = sym (ap (λ b. cond b (Some x) (of_client es c)) here) ∙ none in cc))
    (λ past.
    let rest : of_client es c ≡ None = sym (ap (λ b. cond b (Some x) (of_client es c)) past) ∙ none in
    ap (λ b. cond b es ((k, x) ∷ remove_entry (nat_eq c) es)) past ∙ ap (λ l. (k, x) ∷ l) (remove_none c es rest)) (cases_Bool (nat_eq c k))

pub set_same : (c : ℕ) (clients : Clients) → set_client c (of_client clients c) clients ≡ clients
set_same c clients = by (of_client clients c) refl
  where
    by : (o : Option TxnView) → of_client clients c ≡ o → set_client c o clients ≡ clients
    by None is = remove_none c clients is
    by (Some x) is = set_there c clients x x is ∙ set_value_same (nat_eq c) clients x is

-- an entry that was written goes as the one did that was there
remove_written : (c : ℕ) (clients : Clients) (y : TxnView) → remove_entry (nat_eq c) (set_value (nat_eq c) clients y) ≡ remove_entry (nat_eq c) clients
remove_written c [] y = refl
remove_written c ((k, x) ∷ es) y = ⊎_elim
    (λ here.
    ap (λ b. remove_entry (nat_eq c) (cond b ((k, y) ∷ es) ((k, x) ∷ set_value (nat_eq c) es y))) here
    ∙ ap (λ b. cond b es ((k, y) ∷ remove_entry (nat_eq c) es)) here
    ∙ sym (ap (λ b. cond b es ((k, x) ∷ remove_entry (nat_eq c) es)) here))
    (λ past.
    ap (λ b. remove_entry (nat_eq c) (cond b ((k, y) ∷ es) ((k, x) ∷ set_value (nat_eq c) es y))) past
    ∙ ap (λ b. cond b (set_value (nat_eq c) es y) ((k, x) ∷ remove_entry (nat_eq c) (set_value (nat_eq c) es y))) past
    ∙ ap (λ l. (k, x) ∷ l) (remove_written c es y)
    ∙ sym (ap (λ b. cond b es ((k, x) ∷ remove_entry (nat_eq c) es)) past))
    (cases_Bool (nat_eq c k))

-- and so does one that came last
remove_last : (c : ℕ) (clients : Clients) (y : TxnView) → of_client clients c ≡ None → remove_entry (nat_eq c) (clients ++ (c, y) ∷ []) ≡ clients
remove_last c [] y none = ap (λ b. cond b [] ((c, y) ∷ [])) (eq-eqb c c refl)
remove_last c ((k, x) ∷ es) y none = ⊎_elim
    (λ here. absurd (let e : Some x ≡ None = sym (ap (λ b. cond b (Some x) (of_client es c)) here) ∙ none in cc))
    (λ past.
    let rest : of_client es c ≡ None = sym (ap (λ b. cond b (Some x) (of_client es c)) past) ∙ none in
    ap (λ b. cond b (es ++ (c, y) ∷ []) ((k, x) ∷ remove_entry (nat_eq c) (es ++ (c, y) ∷ []))) past ∙ ap (λ l. (k, x) ∷ l) (remove_last c es y rest))
    (cases_Bool (nat_eq c k))

set_then : (c : ℕ) (clients : Clients) (y : TxnView) → remove_entry (nat_eq c) (set_client c (Some y) clients) ≡ remove_entry (nat_eq c) clients
set_then c clients y = by (of_client clients c) refl
  where
    by : (o : Option TxnView) → of_client clients c ≡ o → remove_entry (nat_eq c) (set_client c (Some y) clients) ≡ remove_entry (nat_eq c) clients
    by None is = ap (remove_entry (nat_eq c)) (set_new c clients y is) ∙ remove_last c clients y is ∙ sym (remove_none c clients is)
    by (Some x) is = ap (remove_entry (nat_eq c)) (set_there c clients x y is) ∙ remove_written c clients y

-- ---- a transaction that is written in the place of one that is the same but for what it has in hand
alike_set : (c : ℕ) (clients : Clients) (x y : TxnView) → of_client clients c ≡ Some x → without_hand y ≡ without_hand x
    → without_hands (set_value (nat_eq c) clients y) ≡ without_hands clients
alike_set c [] x y there same = refl
alike_set c ((k, z) ∷ es) x y there same = ⊎_elim
    (λ here.
    let found : Some z ≡ Some x = sym (ap (λ b. cond b (Some z) (of_client es c)) here) ∙ there in
    let is : z ≡ x = cc in
    ap (λ b. without_hands (cond b ((k, y) ∷ es) ((k, z) ∷ set_value (nat_eq c) es y))) here
    ∙ ap (λ v. (k, v) ∷ without_hands es) (same ∙ ap without_hand (sym is)))
    (λ past.
    let rest : of_client es c ≡ Some x = sym (ap (λ b. cond b (Some z) (of_client es c)) past) ∙ there in
    ap (λ b. without_hands (cond b ((k, y) ∷ es) ((k, z) ∷ set_value (nat_eq c) es y))) past
    ∙ ap (λ l. (k, without_hand z) ∷ l) (alike_set c es x y rest same))
    (cases_Bool (nat_eq c k))

-- look-ups that differ at one client alone
sets_from : (c : ℕ) (now : Option TxnView) (old new : Clients) → ((q : ℕ) → of_client new q ≡ cond (nat_eq c q) now (of_client old q))
    → ((n : ℕ) → all_owned n new + owned n (of_client old c) ≡ all_owned n old + owned n now) → new ≡ set_client c now old → Sets c now old new
sets_from c now old new seen pins order = record {
  is = seen c ∙ ap (λ b. cond b now (of_client old c)) (eq-eqb c c refl);
  others = λ d ne. seen d ∙ ap (λ b. cond b now (of_client old d)) (ne_eqb c d (λ e. ne (sym e)));
  pins = pins;
  order = order;
}

-- what a transaction that is there owns
owned_there : (n : ℕ) (o : Option TxnView) → unwrap_or (option_map (λ x. owned n (Some x)) o) 0 ≡ owned n o
owned_there n None = refl
owned_there n (Some x) = refl

-- another transaction is written in the place of one
pub sets_written : (c : ℕ) (old new : Clients) (x y : TxnView) → of_client old c ≡ Some x → new ≡ set_value (nat_eq c) old y
    → ((q : ℕ) → of_client new q ≡ cond (nat_eq c q) (Some y) (of_client old q)) → Sets c (Some y) old new
sets_written c old new x y there is seen = sets_from c (Some y) old new seen (λ n.
    let before = owned_values n old in
    let after = ap (all_owned n) is ∙ owned_values n (set_value (nat_eq c) old y) in
    let sums = sum_by-set_value (λ z. owned n (Some z)) (nat_eq c) old x y there in
    let gone : owned n (of_client old c) ≡ owned n (Some x) = ap (owned n) there in
    omega (arith, before, after, sums, gone))
    (is ∙ sym (set_there c old x y there))

-- it is taken out
pub sets_taken : (c : ℕ) (old new : Clients) → new ≡ remove_entry (nat_eq c) old
    → ((q : ℕ) → of_client new q ≡ cond (nat_eq c q) None (of_client old q)) → Sets c None old new
sets_taken c old new is seen = sets_from c None old new seen (λ n.
    let before = owned_values n old in
    let after = ap (all_owned n) is ∙ owned_values n (remove_entry (nat_eq c) old) in
    let sums = sum_by-remove_entry (λ z. owned n (Some z)) (nat_eq c) old in
    let gone = owned_there n (of_client old c) in
    omega (arith, before, after, sums, gone))
    is

-- one comes last
pub sets_added : (c : ℕ) (old new : Clients) (x : TxnView) → of_client old c ≡ None → new ≡ old ++ (c, x) ∷ []
    → ((q : ℕ) → of_client new q ≡ cond (nat_eq c q) (Some x) (of_client old q)) → Sets c (Some x) old new
sets_added c old new x none is seen = sets_from c (Some x) old new seen (λ n.
    let sums = sum_by-append (λ (p : ℕ × TxnView). owned n (Some p.1)) old ((c, x) ∷ []) in
    let more = ap (all_owned n) is in
    let last : all_owned n ((c, x) ∷ []) ≡ owned n (Some x) + 0 = sum_by-cons (λ (p : ℕ × TxnView). owned n (Some p.1)) (c, x) [] in
    let gone : owned n (of_client old c) ≡ 0 = ap (owned n) none in
    omega (arith, sums, more, last, gone))
    (is ∙ sym (set_new c old x none))

-- all stays
pub sets_same : (c : ℕ) (old new : Clients) → new ≡ old → Sets c (of_client old c) old new
sets_same c old new is = record {
  is = ap (λ l. of_client l c) is;
  others = λ d ne. ap (λ l. of_client l d) is;
  pins = λ n. let same : all_owned n new ≡ all_owned n old = ap (all_owned n) is in omega (arith, same);
  order = is ∙ sym (set_same c old);
}

-- a client's transaction that was lent, and given back as it was left
pub record Writes (c : ℕ) (old : Clients) (x y : TxnView) (new : Clients) : Type 0 where
  pub there : of_client old c ≡ Some x
  pub sets : Sets c (Some y) old new
  -- where memory was short it is the same but for what it has in hand
  pub alike : without_hand y ≡ without_hand x → without_hands new ≡ without_hands old

pub written : {S : Type 0} (c : ℕ) (m n : HashMap ℕ TxnView S) (x y : TxnView) → of_client m.entries c ≡ Some x → WritesThrough nat_eq (nat_eq c) m y n
    → Writes c m.entries x y n.entries
written c m n x y there h = record {
  there = there;
  sets = sets_written c m.entries n.entries x y there h.0 (h.3 (ap is_some there)).0;
  alike = λ same. ap without_hands h.0 ∙ alike_set c m.entries x y there same;
}

-- one is written and then taken out
pub sets_then : (c : ℕ) (old mid new : Clients) (y : TxnView) → Sets c (Some y) old mid → Sets c None mid new → Sets c None old new
sets_then c old mid new y first last = record {
  is = last.is;
  others = λ d ne. last.others d ne ∙ first.others d ne;
  pins = λ n.
      let one = first.pins n in
      let two = last.pins n in
      let gone : owned n (of_client mid c) ≡ owned n (Some y) = ap (owned n) first.is in
      omega (arith, one, two, gone);
  order = last.order ∙ ap (remove_entry (nat_eq c)) first.order ∙ set_then c old y;
}
