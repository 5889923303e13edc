-- What holds a scan back is what the definitions say.
use Rattle.wtf_clients.proofs.Common.{cases_Bool, cases_lt, and_parts, lt-ltb, le-ltb, true≢false, ranked, tied_itself, nat_cmp_total, if◌then◌else◌, get}
use Rattle.wtf_clients.proofs.Common.{entries, entries_sorted, get-entries, find, is_sorted, below_all, filter, unwrap_or, nat_cmp, eq_by_cmp, is_eq, is_lt}
use Rattle.wtf_clients.proofs.Common.{Ordering, Less, Equal, Greater, Holder, Machine, was_open, earlier, lowest, client_or_job, held_by, Transaction, Job}
use Rattle.wtf_clients.proofs.Common.{Told, TxnView, JobView, TablesView, of_client, of_label, was_job, AreSound, StandsForSlot, StandsForLabel, TablesStand}
use Rattle.wtf_clients.proofs.Common.{StampsStand, NoneOld, NoOldJob, HoldsBack, IsScanHolder, is_old_job, ◌≡◌, ◌≢◌, ◌<◌, ℕ, ◌&&◌, Bool, true, false, cond, T}
use Rattle.wtf_clients.proofs.Common.{nat_lt, List, [], ◌∷◌, Option, None, Some, is_some, refl, sym, ap, ◌∙◌, subst, ⊎_elim, arith}
use Rattle.wtf_model.specs.Scans.{first_begun}

-- ---- entries in the order of their keys
first_part : (a b : Bool) → T (a && b) → T a
first_part true b h = tt
first_part false b h = absurd h

rest_part : (a b : Bool) → T (a && b) → T b
rest_part true b h = h
rest_part false b h = absurd h

less_is : (o : Ordering) → T (is_lt o) → Less ≡ o
less_is Less h = refl
less_is Equal h = absurd h
less_is Greater h = absurd h

equal_is : (o : Ordering) → is_eq o ≡ true → Equal ≡ o
equal_is Less h = absurd (true≢false (sym h))
equal_is Equal h = refl
equal_is Greater h = absurd (true≢false (sym h))

-- an order of numbers is theirs
lower : (a b : ℕ) → T (is_lt (nat_cmp a b)) → a < b
lower a b h = ranked a b Less (less_is (nat_cmp a b) h)

same_key : (a b : ℕ) → eq_by_cmp nat_cmp a b ≡ true → a ≡ b
same_key a b h = ranked a b Equal (equal_is (nat_cmp a b) h)

pub some_same : {X : Type 0} (x y : X) → Some x ≡ Some y → x ≡ y
some_same x y e = ap (λ o. unwrap_or o x) e

module _ {X : Type 0} where
  -- what is found behind a key has one above it
  above : (q : ℕ) (es : List (ℕ × X)) → T (below_all nat_cmp q es) → (d : ℕ) (u : X) → find nat_cmp d es ≡ Some u → q < d
  above q [] h d u is = absurd (cc)
  above q (e ∷ es) h d u is = ⊎_elim
      (λ here.
      let at : d ≡ e.0 = same_key d e.0 here in
      let lt : q < e.0 = lower q e.0 (first_part (is_lt (nat_cmp q e.0)) (below_all nat_cmp q es) h) in
      omega (arith, at, lt))
      (λ past.
      above q es (rest_part (is_lt (nat_cmp q e.0)) (below_all nat_cmp q es) h) d u (sym (ap (λ b. cond b (Some e.1) (find nat_cmp d es)) past) ∙ is))
      (cases_Bool (eq_by_cmp nat_cmp d e.0))

  below_of : (e : ℕ × X) (es : List (ℕ × X)) → T (is_sorted nat_cmp (e ∷ es)) → T (below_all nat_cmp e.0 es)
  below_of e es sorted = first_part (below_all nat_cmp e.0 es) (is_sorted nat_cmp es) sorted

  pub tail_of : (e : ℕ × X) (es : List (ℕ × X)) → T (is_sorted nat_cmp (e ∷ es)) → T (is_sorted nat_cmp es)
  tail_of e es sorted = rest_part (below_all nat_cmp e.0 es) (is_sorted nat_cmp es) sorted

  pub at_front : (e : ℕ × X) (es : List (ℕ × X)) → find nat_cmp e.0 (e ∷ es) ≡ Some e.1
  at_front e es = ap (λ b. cond b (Some e.1) (find nat_cmp e.0 es)) (ap is_eq (tied_itself nat_cmp_total e.0))

  -- and is found in the whole
  pub behind : (e : ℕ × X) (es : List (ℕ × X)) → T (is_sorted nat_cmp (e ∷ es)) → (d : ℕ) (u : X) → find nat_cmp d es ≡ Some u
      → find nat_cmp d (e ∷ es) ≡ Some u
  behind e es sorted d u is = ⊎_elim
      (λ here.
      let at : d ≡ e.0 = same_key d e.0 here in
      let lt : e.0 < d = above e.0 es (below_of e es sorted) d u is in
      absurd (omega (arith, at, lt)))
      (λ past. ap (λ b. cond b (Some e.1) (find nat_cmp d es)) past ∙ is)
      (cases_Bool (eq_by_cmp nat_cmp d e.0))

  module _ (p : ℕ × X → Bool) where
    kept_front : (e : ℕ × X) (es : List (ℕ × X)) (b : Bool) → p e ≡ b → filter p (e ∷ es) ≡ cond b (e ∷ filter p es) (filter p es)
    kept_front e es b is = ap (λ c. cond c (e ∷ filter p es) (filter p es)) is

    -- none passes a test that none of those passes that are found
    none_left : (es : List (ℕ × X)) → T (is_sorted nat_cmp es) → ((d : ℕ) (u : X) → find nat_cmp d es ≡ Some u → p (d, u) ≡ false) → filter p es ≡ []
    none_left [] sorted none = refl
    none_left (e ∷ es) sorted none =
        kept_front e es false (none e.0 e.1 (at_front e es))
        ∙ none_left es (tail_of e es sorted) (λ d u is. none d u (behind e es sorted d u is))

-- ---- the client that began first
module _ (p : ℕ × Transaction → Bool) where
  one_first : (e : ℕ × Transaction) (es : List (ℕ × Transaction)) → p e ≡ true → first_begun (filter p (e ∷ es)) ≡ Some (earlier e (first_begun (filter p es)))
  unfolding first_begun
  one_first e es is = ap (λ b. first_begun (cond b (e ∷ filter p es) (filter p es))) is

  -- it is one of the entries that pass
  first_of : (es : List (ℕ × Transaction)) → T (is_sorted nat_cmp es) → (f : ℕ × Transaction) → first_begun (filter p es) ≡ Some f
      → (find nat_cmp f.0 es ≡ Some f.1) × (p f ≡ true)
  unfolding first_begun
  first_of [] sorted f is = absurd (cc)
  first_of (e ∷ es) sorted f is =
      let rest : first_begun (filter p es) ≡ Some f → (find nat_cmp f.0 (e ∷ es) ≡ Some f.1) × (p f ≡ true) = λ at.
      let h = first_of es (tail_of e es sorted) f at in (behind e es sorted f.0 f.1 h.0, h.1) in
      ⊎_elim
      (λ here. by here rest (first_begun (filter p es)) refl (some_same _ f (sym (one_first e es here) ∙ is)))
      (λ past. rest (sym (ap first_begun (kept_front p e es false past)) ∙ is))
      (cases_Bool (p e))
    where
      of_front : p e ≡ true → e ≡ f → (find nat_cmp f.0 (e ∷ es) ≡ Some f.1) × (p f ≡ true)
      of_front here same = subst (λ (g : ℕ × Transaction). (find nat_cmp g.0 (e ∷ es) ≡ Some g.1) × (p g ≡ true)) same (at_front e es, here)

      by : p e ≡ true → (first_begun (filter p es) ≡ Some f → (find nat_cmp f.0 (e ∷ es) ≡ Some f.1) × (p f ≡ true)) → (o : Option (ℕ × Transaction))
          → first_begun (filter p es) ≡ o → earlier e o ≡ f → (find nat_cmp f.0 (e ∷ es) ≡ Some f.1) × (p f ≡ true)
      by here rest None at same = of_front here same
      by here rest (Some g) at same = ⊎_elim
          (λ less.
          let hit : g ≡ f = sym (ap (λ b. if b then g else e) less) ∙ same in
          rest (at ∙ ap Some hit))
          (λ more. of_front here (sym (ap (λ b. if b then g else e) more) ∙ same))
          (cases_Bool (nat_lt g.1.stamp e.1.stamp))

  -- one that passes, and has a lower stamp than each other that does
  pub first_found : (es : List (ℕ × Transaction)) → T (is_sorted nat_cmp es) → (c : ℕ) (t : Transaction) → find nat_cmp c es ≡ Some t → p (c, t) ≡ true
      → ((d : ℕ) (u : Transaction) → find nat_cmp d es ≡ Some u → p (d, u) ≡ true → d ≢ c → t.stamp < u.stamp) → first_begun (filter p es) ≡ Some (c, t)
  first_found [] sorted c t is passes low = absurd (cc)
  first_found (e ∷ es) sorted c t is passes low = ⊎_elim
      (λ here.
      let key : c ≡ e.0 = same_key c e.0 here in
      let value : e.1 ≡ t = some_same e.1 t (sym (ap (λ b. cond b (Some e.1) (find nat_cmp c es)) here) ∙ is) in
      let pair : ◌≡◌ {A = ℕ × Transaction} e (c, t) = ap (λ n. (n, e.1)) (sym key) ∙ ap (λ v. (c, v)) value in
      one_first e es (ap p pair ∙ passes)
      ∙ ap Some (front (first_begun (filter p es)) refl key (ap (λ (v : Transaction). v.stamp) value) ∙ pair))
      (λ past.
      let there : find nat_cmp c es ≡ Some t = sym (ap (λ b. cond b (Some e.1) (find nat_cmp c es)) past) ∙ is in
      let rest : first_begun (filter p es) ≡ Some (c, t) =
      first_found es (tail_of e es sorted) c t there passes (λ d u found q apart. low d u (behind e es sorted d u found) q apart) in
      ⊎_elim
      (λ one.
      let lt = low e.0 e.1 (at_front e es) one (λ same.
      true≢false (sym (ap is_eq (tied_itself nat_cmp_total c)) ∙ ap (eq_by_cmp nat_cmp c) (sym same) ∙ past)) in
      one_first e es one ∙ ap (λ o. Some (earlier e o)) rest
      ∙ ap (λ b. Some (if b then (c, t) else e)) (lt-ltb t.stamp e.1.stamp lt))
      (λ none. ap first_begun (kept_front p e es false none) ∙ rest)
      (cases_Bool (p e))) (cases_Bool (eq_by_cmp nat_cmp c e.0))
    where
      front : (o : Option (ℕ × Transaction)) → first_begun (filter p es) ≡ o → c ≡ e.0 → e.1.stamp ≡ t.stamp → earlier e o ≡ e
      front None at key stamp = refl
      front (Some g) at key stamp =
          let found = first_of es (tail_of e es sorted) g at in
          let up : e.0 < g.0 = above e.0 es (below_of e es sorted) g.0 g.1 found.0 in
          let lt = low g.0 g.1 (behind e es sorted g.0 g.1 found.0) found.1 (λ same. omega (arith, up, key, same)) in
          ap (λ b. if b then g else e) (le-ltb g.1.stamp e.1.stamp (omega (arith, lt, stamp)))

-- ---- the job of the lowest label
module _ (p : ℕ × Job → Bool) where
  pub lowest_found : (es : List (ℕ × Job)) → T (is_sorted nat_cmp es) → (j : ℕ) (x : Job) → find nat_cmp j es ≡ Some x → p (j, x) ≡ true
      → ((d : ℕ) (u : Job) → find nat_cmp d es ≡ Some u → d < j → p (d, u) ≡ false) → lowest (filter p es) ≡ Some (Holder.Job j)
  lowest_found [] sorted j x is passes low = absurd (cc)
  lowest_found (e ∷ es) sorted j x is passes low = ⊎_elim
      (λ here.
      let key : j ≡ e.0 = same_key j e.0 here in
      let value : e.1 ≡ x = some_same e.1 x (sym (ap (λ b. cond b (Some e.1) (find nat_cmp j es)) here) ∙ is) in
      let pair : ◌≡◌ {A = ℕ × Job} e (j, x) = ap (λ n. (n, e.1)) (sym key) ∙ ap (λ v. (j, v)) value in
      ap lowest (kept_front p e es true (ap p pair ∙ passes)) ∙ ap (λ n. Some (Holder.Job n)) (sym key))
      (λ past.
      let there : find nat_cmp j es ≡ Some x = sym (ap (λ b. cond b (Some e.1) (find nat_cmp j es)) past) ∙ is in
      let up : e.0 < j = above e.0 es (below_of e es sorted) j x there in
      ap lowest (kept_front p e es false (low e.0 e.1 (at_front e es) up))
      ∙ lowest_found es (tail_of e es sorted) j x there passes (λ d u found lt. low d u (behind e es sorted d u found) lt))
      (cases_Bool (eq_by_cmp nat_cmp j e.0))

no_first : first_begun [] ≡ None
unfolding first_begun
no_first = refl

-- ---- whoever is open is so in the machine
module _ (size : ℕ) (told : Told) (tables : TablesView) (m : Machine) (stand : TablesStand size told tables m) where
  pub txn_of : (c : ℕ) (t : Transaction) → get m.transactions c ≡ Some t → (x : TxnView) × (of_client tables.clients c ≡ Some x)
  txn_of c t is = by (of_client tables.clients c) (get m.transactions c) refl (stand.each c) is
    where
      by : (s : Option TxnView) (o : Option Transaction) → of_client tables.clients c ≡ s → StandsForSlot size told tables.kv m.now s o → o ≡ Some t
          → (x : TxnView) × (of_client tables.clients c ≡ Some x)
      by None None at h e = absurd (cc)
      by None (Some u) at h e = absurd h
      by (Some x) o at h e = (x, at)

  pub open_of : (c : ℕ) (x : TxnView) → of_client tables.clients c ≡ Some x → (t : Transaction) × (get m.transactions c ≡ Some t)
  open_of c x is = by (of_client tables.clients c) (get m.transactions c) refl (stand.each c) is
    where
      by : (s : Option TxnView) (o : Option Transaction) → get m.transactions c ≡ o → StandsForSlot size told tables.kv m.now s o → s ≡ Some x
          → (t : Transaction) × (get m.transactions c ≡ Some t)
      by None None at h e = absurd (cc)
      by (Some y) None at h e = absurd h
      by s (Some t) at h e = (t, at)

  pub label_of : (j : ℕ) (t : Job) → get m.jobs j ≡ Some t → (x : JobView) × (of_label tables.beside.jobs j ≡ Some x)
  label_of j t is = by (of_label tables.beside.jobs j) (get m.jobs j) refl (stand.jobs j) is
    where
      by : (s : Option JobView) (o : Option Job) → of_label tables.beside.jobs j ≡ s → StandsForLabel size told tables.kv s o → o ≡ Some t
          → (x : JobView) × (of_label tables.beside.jobs j ≡ Some x)
      by None None at h e = absurd (cc)
      by None (Some u) at h e = absurd h
      by (Some x) o at h e = (x, at)

  pub job_of : (j : ℕ) (x : JobView) → of_label tables.beside.jobs j ≡ Some x → (t : Job) × (get m.jobs j ≡ Some t)
  job_of j x is = by (of_label tables.beside.jobs j) (get m.jobs j) refl (stand.jobs j) is
    where
      by : (s : Option JobView) (o : Option Job) → get m.jobs j ≡ o → StandsForLabel size told tables.kv s o → s ≡ Some x → (t : Job) × (get m.jobs j ≡ Some t)
      by None None at h e = absurd (cc)
      by (Some y) None at h e = absurd h
      by s (Some t) at h e = (t, at)

  -- ---- what holds a scan back
  module _ (sound : AreSound tables) (st : StampsStand tables m) where
    abbrev is_old : ℕ × Transaction → Bool
    is_old e = was_open m e.1.stamp

    abbrev is_old_one : ℕ × Job → Bool
    is_old_one e = was_open m e.1.stamp

    first_back : (c : ℕ) (h : HoldsBack tables c) → (t : Transaction) → get m.transactions c ≡ Some t
        → first_begun (filter is_old (entries m.transactions)) ≡ Some (c, t)
    first_back c h t is = first_found is_old (entries m.transactions) (entries_sorted m.transactions) c t (sym (get-entries m.transactions c) ∙ is)
        ((st.txns c h.txn t h.there is).1 ∙ lt-ltb h.txn.tx tables.beside.scan_tx h.old)
        (λ d u found marked apart.
        let at : get m.transactions d ≡ Some u = get-entries m.transactions d ∙ found in
        let y = txn_of d u at in
        let le = h.first d y.0 y.1 in
        ⊎_elim
        (λ lt. st.order c d h.txn y.0 t u h.there is y.1 at lt)
        (λ ge. absurd (apart (sound.apart d c y.0 h.txn y.1 h.there (omega (arith, le, ge)))))
        (cases_lt h.txn.tx y.0.tx))

    none_first : NoneOld tables → first_begun (filter is_old (entries m.transactions)) ≡ None
    none_first none =
        ap first_begun (none_left is_old (entries m.transactions) (entries_sorted m.transactions) (λ d u found.
        let at : get m.transactions d ≡ Some u = get-entries m.transactions d ∙ found in
        let y = txn_of d u at in
        (st.txns d y.0 u y.1 at).1 ∙ le-ltb y.0.tx tables.beside.scan_tx (none d y.0 y.1)))
        ∙ no_first

    -- a job that was open then is one that is marked
    job_marked : (j : ℕ) (u : Job) → find nat_cmp j (entries m.jobs) ≡ Some u → (b : Bool) → is_old_job tables.beside j ≡ b → was_open m u.stamp ≡ b
    job_marked j u found b is =
        let at : get m.jobs j ≡ Some u = get-entries m.jobs j ∙ found in
        let x = label_of j u at in
        (st.jobs j x.0 u x.1 at).1 ∙ sym (ap (λ (o : Option JobView). is_some o && was_job tables.beside j) x.1) ∙ is

    pub held_is : (h : Holder) → IsScanHolder tables h → held_by m ≡ Some h
    held_is (Holder.Client c) h =
        let t = open_of c h.txn h.there in
        ap (λ o. client_or_job o (lowest (filter is_old_one (entries m.jobs)))) (first_back c h t.0 t.1)
    held_is (Holder.Job j) h =
        let old = and_parts (is_some (of_label tables.beside.jobs j)) (was_job tables.beside j) h.1.old in
        let u = by_label (of_label tables.beside.jobs j) refl old.0 in
        ap (λ o. client_or_job o (lowest (filter is_old_one (entries m.jobs)))) (none_first h.0)
        ∙ lowest_found is_old_one (entries m.jobs) (entries_sorted m.jobs) j u.0 (sym (get-entries m.jobs j) ∙ u.1)
        (job_marked j u.0 (sym (get-entries m.jobs j) ∙ u.1) true h.1.old)
        (λ d v found lt. job_marked d v found false (h.1.lowest d lt))
      where
        by_label : (o : Option JobView) → of_label tables.beside.jobs j ≡ o → is_some o ≡ true → (t : Job) × (get m.jobs j ≡ Some t)
        by_label None at some = absurd (true≢false (sym some))
        by_label (Some x) at some = job_of j x at

    pub none_held : NoneOld tables → NoOldJob tables.beside → held_by m ≡ None
    none_held none no_job =
        ap (λ o. client_or_job o (lowest (filter is_old_one (entries m.jobs)))) (none_first none)
        ∙ ap lowest (none_left is_old_one (entries m.jobs) (entries_sorted m.jobs) (λ d v found. job_marked d v found false (no_job d)))
