use Rattle.wtf_clients.proofs.Common.{TablesView, ◌≡◌, length, ap, arith, cases_Bool, eqb-true, TxnView, Clients, of_client, NoneOld, HoldsBack, IsLeast}
use Rattle.wtf_clients.proofs.Common.{SeesUpto, ℕ, suc, ◌<◌, ◌≤◌, cond, nat_eq, [], ◌∷◌, Option, None, Some, MatchOption, slice_get, sym, ◌∙◌, ⊎_elim}
use Rattle.wtf_clients.proofs.tables.Tables.first_old.Goals as goal

-- ---- the transaction that began first of those that were open when the last scan began
-- a client that has a transaction stands in the list
found_at : (clients : Clients) (d : ℕ) (y : TxnView) → of_client clients d ≡ Some y
    → (j : ℕ) × (x : TxnView) × (j < length clients) × (slice_get clients j ≡ Some (d, x))
found_at [] d y is = absurd (cc)
found_at ((k, z) ∷ es) d y is = ⊎_elim
    (λ here. (0, z, omega arith, ap (λ n. Some (n, z)) (sym (eqb-true d k here))))
    (λ past.
    let later = found_at es d y (sym (ap (λ b. cond b (Some z) (of_client es d)) past) ∙ is) in
    let below = later.2 in
    (suc later.0, later.1, omega (arith, below), later.3)) (cases_Bool (nat_eq d k))

-- once all were seen
sees_all : (tables : TablesView) (first : Option ℕ) (least i : ℕ) → SeesUpto tables.clients tables.beside.scan_tx first least i
    → length tables.clients ≤ i → MatchOption first (NoneOld tables) (HoldsBack tables)
sees_all tables first least i seen all = by first seen.which
  where
    low : (d : ℕ) (y : TxnView) → of_client tables.clients d ≡ Some y → least ≤ y.tx
    low d y there =
        let at = found_at tables.clients d y there in
        let below = at.2 in
        seen.low at.0 d at.1 y (omega (arith, below, all)) at.3 there

    by : (o : Option ℕ) → IsLeast tables.clients tables.beside.scan_tx o least → MatchOption o (NoneOld tables) (HoldsBack tables)
    by None is = λ c x there. let le = low c x there in omega (arith, le, is)
    by (Some c) is =
        let lt = is.3 in
        let same = is.2 in
        record { txn = is.0; there = is.1; old = omega (arith, lt, same); first = λ d y there. let le = low d y there in omega (arith, le, same) }

-- ---- what it answers
pub returns : goal.returns
returns c =
    let all = c.loop-i-test.false in
    let len = c.len.ensures.len in
    let same : length c.self.inside.clients.entries ≡ length c.args.self.now.clients = ap (λ (t : TablesView). length t.clients) c.self.view_is in
    sees_all c.args.self.now c.loop-i.first c.loop-i.least c.loop-i.i c.loop-i.invariant (omega (arith, all, len, same))
