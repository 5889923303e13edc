-- The stamps of the machine over a line that begins no scan: whoever is open had its stamp before, or gets the next one.
use Rattle.wtf_clients.proofs.Common.{Contains, list_any, get, ne_eqb, le-ltb, Contains-push, Contains-append_left, Contains-append_right, Machine, was_open}
use Rattle.wtf_clients.proofs.Common.{Transaction, Job, TxnView, JobView, TablesView, of_client, of_label, was_job, StampsStand, ◌≡◌, ◌⊎◌, ℕ, ◌<◌, ◌≤◌, false}
use Rattle.wtf_clients.proofs.Common.{◌||◌, ◌==◌, nat_lt, List, [], ◌∷◌, Some, refl, sym, ap, ◌∙◌, subst, inl, inr, arith}

-- a transaction is of the age that it had, or the line began it
pub record KeptTxn (old : TablesView) (m : Machine) (c : ℕ) (y : TxnView) (u : Transaction) : Type 0 where
  pub was : TxnView
  pub had : Transaction
  pub there : of_client old.clients c ≡ Some was
  pub is : get m.transactions c ≡ Some had
  pub number : y.tx ≡ was.tx
  pub stamp : u.stamp ≡ had.stamp

pub record FreshTxn (old : TablesView) (m after : Machine) (y : TxnView) (u : Transaction) : Type 0 where
  pub number : y.tx ≡ old.next_tx
  pub stamp : u.stamp ≡ m.next_stamp
  pub later : m.next_stamp < after.next_stamp

-- and so is a job
pub record KeptJob (old new : TablesView) (m : Machine) (j : ℕ) (u : Job) : Type 0 where
  pub was : JobView
  pub had : Job
  pub there : of_label old.beside.jobs j ≡ Some was
  pub is : get m.jobs j ≡ Some had
  pub stamp : u.stamp ≡ had.stamp
  pub label : was_job new.beside j ≡ was_job old.beside j

pub record FreshJob (new : TablesView) (m after : Machine) (j : ℕ) (u : Job) : Type 0 where
  pub stamp : u.stamp ≡ m.next_stamp
  pub later : m.next_stamp < after.next_stamp
  pub label : was_job new.beside j ≡ false

-- what a line that begins no scan does to the ages of what is open
pub record Ages (old new : TablesView) (m after : Machine) : Type 0 where
  pub up : m.next_stamp ≤ after.next_stamp
  pub list : after.scan_list ≡ m.scan_list
  pub next_tx : old.next_tx ≤ new.next_tx
  pub scan_tx : new.beside.scan_tx ≡ old.beside.scan_tx
  pub txns : (c : ℕ) (y : TxnView) (u : Transaction) → of_client new.clients c ≡ Some y → get after.transactions c ≡ Some u
      → KeptTxn old m c y u ⊎ FreshTxn old m after y u
  pub jobs : (j : ℕ) (y : JobView) (u : Job) → of_label new.beside.jobs j ≡ Some y → get after.jobs j ≡ Some u
      → KeptJob old new m j u ⊎ FreshJob new m after j u

-- a number above all of a list is not in it
pub none_listed : (n : ℕ) (xs : List ℕ) → ((x : ℕ) → Contains xs x → x < n) → list_any (λ s. s == n) xs ≡ false
none_listed n [] low = refl
none_listed n (x ∷ xs) low =
    let first = low x (Contains-append_left (x ∷ []) xs x (Contains-push [] x)) in
    ap (λ b. b || list_any (λ s. s == n) xs) (ne_eqb x n (λ e. omega (arith, first, e)))
    ∙ none_listed n xs (λ y there. low y (Contains-append_right (x ∷ []) xs y there))

module _ (old new : TablesView) (m after : Machine) (older : (c : ℕ) (x : TxnView) → of_client old.clients c ≡ Some x → x.tx < old.next_tx)
    (ages : Ages old new m after) (st : StampsStand old m) where
  -- the next stamp was not there when the last scan began
  fresh_open : (s : ℕ) → s ≡ m.next_stamp → was_open after s ≡ false
  fresh_open s is = ap (λ l. list_any (λ x. x == s) l) ages.list ∙ none_listed s m.scan_list (λ x there. let low = st.listed x there in omega (arith, low, is))

  kept_open : (s t : ℕ) → s ≡ t → was_open after s ≡ was_open m t
  kept_open s t same = ap (λ l. list_any (λ x. x == s) l) ages.list ∙ ap (was_open m) same

  txn_age : (y : TxnView) (u : Transaction) (c : ℕ) → KeptTxn old m c y u ⊎ FreshTxn old m after y u
      → (u.stamp < after.next_stamp) × (was_open after u.stamp ≡ nat_lt y.tx new.beside.scan_tx)
  txn_age y u c (inl k) =
      let had = st.txns c k.was k.had k.there k.is in
      let low = had.0 in
      let same = k.stamp in
      let up = ages.up in (
        omega (arith, low, same, up),
        kept_open u.stamp k.had.stamp k.stamp ∙ had.1 ∙ ap (λ n. nat_lt n old.beside.scan_tx) (sym k.number) ∙ ap (nat_lt y.tx) (sym ages.scan_tx),
      )
  txn_age y u c (inr f) =
      let same = f.stamp in
      let later = f.later in
      let begun = st.begun in
      let number = f.number in
      let bound = ages.scan_tx in
      (omega (arith, same, later), fresh_open u.stamp f.stamp ∙ sym (le-ltb y.tx new.beside.scan_tx (omega (arith, begun, number, bound))))

  pub stamps_on : StampsStand new after
  stamps_on = record {
    listed = λ s there.
        let low = st.listed s (subst (λ l. Contains l s) ages.list there) in
        let up = ages.up in
        omega (arith, low, up);
    begun = let was = st.begun in let next = ages.next_tx in let same = ages.scan_tx in omega (arith, was, next, same);
    txns = λ c y u there is. txn_age y u c (ages.txns c y u there is);
    order = λ c d y z u v yc uc zd vd low. by c d y z u v low (ages.txns c y u yc uc) (ages.txns d z v zd vd);
    jobs = λ j y u there is. job_age j u (ages.jobs j y u there is);
  }
    where
      job_age : (j : ℕ) (u : Job) → KeptJob old new m j u ⊎ FreshJob new m after j u
          → (u.stamp < after.next_stamp) × (was_open after u.stamp ≡ was_job new.beside j)
      job_age j u (inl k) =
          let had = st.jobs j k.was k.had k.there k.is in
          let low = had.0 in
          let same = k.stamp in
          let up = ages.up in
          (omega (arith, low, same, up), kept_open u.stamp k.had.stamp k.stamp ∙ had.1 ∙ sym k.label)
      job_age j u (inr f) =
          let same = f.stamp in
          let later = f.later in
          (omega (arith, same, later), fresh_open u.stamp f.stamp ∙ sym f.label)

      by : (c d : ℕ) (y z : TxnView) (u v : Transaction) → y.tx < z.tx → KeptTxn old m c y u ⊎ FreshTxn old m after y u
          → KeptTxn old m d z v ⊎ FreshTxn old m after z v → u.stamp < v.stamp
      by c d y z u v low (inl k) (inl l) =
          let a = k.number in
          let b = l.number in
          let was = st.order c d k.was l.was k.had l.had k.there k.is l.there l.is (omega (arith, low, a, b)) in
          let s = k.stamp in
          let t = l.stamp in
          omega (arith, was, s, t)
      by c d y z u v low (inl k) (inr f) =
          let was = (st.txns c k.was k.had k.there k.is).0 in
          let s = k.stamp in
          let t = f.stamp in
          omega (arith, was, s, t)
      by c d y z u v low (inr f) (inl l) =
          let was = older d l.was l.there in
          let a = f.number in
          let b = l.number in
          absurd (omega (arith, low, was, a, b))
      by c d y z u v low (inr f) (inr g) =
          let a = f.number in
          let b = g.number in
          absurd (omega (arith, low, a, b))
