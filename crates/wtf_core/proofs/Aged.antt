-- Lines that begin no scan, and do no part of one, leave the scans standing for the machine's.
use Rattle.wtf_core.proofs.Common.{⊤, get, option_map, InodeId, Key, Path, Inode, Region, Links, Value, Answer, Event, Machine, Transaction, Job, path_count}
use Rattle.wtf_core.proofs.Common.{Tree, TreeNode, File, Told, IsLast, HasFile, Map, metadata_at, count_of, NodeAt, NamesAt, Stands, some_value, TxnView}
use Rattle.wtf_core.proofs.Common.{JobView, RunView, GcView, TablesView, of_client, of_label, was_job, metadata_now, AreSound, HasKinds, is_region_key}
use Rattle.wtf_core.proofs.Common.{StandsForSlot, StandsForLabel, TablesStand, ScansStand, live_cases, KeptTxn, FreshTxn, KeptJob, FreshJob, Ages, stamps_on}
use Rattle.wtf_core.proofs.Common.{◌≡◌, ◌⊎◌, ℕ, ◌-◌, ◌^◌, true, false, cond, nat_le, min, List, Option, None, Some, refl, sym, ap, ◌∙◌, subst, inl, inr, ⊎_elim}
use Rattle.wtf_values.specs.declared.key.Key.TheVariants.{Dir as DirKey}
use Rattle.wtf_values.specs.declared.value.Node.TheVariants.{File as FileNode}
use Rattle.wtf_model.specs.Tree.{Dir}
use Rattle.wtf_core.proofs.Moves.{KeepsAge, KeepsMark, Aged, Moves}
use Rattle.wtf_core.proofs.Stamped.{HasStamp, Stamped, txn_stamp, job_stamp, IsOther}

-- ---- keys and their kinds
-- a value that is no region's
abbrev IsNoRegion : Option Value → Type 0
IsNoRegion (Some (Value.Region v)) = ⊥
IsNoRegion o = ⊤

count_none : (n : ℕ) → IsNoRegion (count_of n)
count_none n = elim (nat_le 2 n) as (λ b. IsNoRegion (cond b (Some (Value.Count n)) None)) [ true ↦ tt | false ↦ tt ]

-- in a map that stands for a tree only regions have a region's value
pub kinds_of : (size : ℕ) (told : Told) (tx k : ℕ) (w : Map) (t : Tree) → Stands size told tx k w t → HasKinds w
kinds_of size told tx k w t st q v is = by q is
  where
    body : (i : InodeId) (o : Option TreeNode) → NodeAt size told w (Some (Value.Node (FileNode i))) o → HasFile i w
    body i None h = absurd h
    body i (Some Dir) h = absurd h
    body i (Some (File paths bytes)) h = h.body.has

    count : (i : InodeId) (o : Option TreeNode) → NodeAt size told w (Some (Value.Node (FileNode i))) o → IsNoRegion (w (Links i))
    count i None h = absurd h
    count i (Some Dir) h = absurd h
    count i (Some (File paths bytes)) h = subst IsNoRegion (sym h.count) (count_none (path_count paths))

    no_node : (o : Option TreeNode) → NodeAt size told w (Some (Value.Region v)) o → ⊥
    no_node None h = h
    no_node (Some Dir) h = h
    no_node (Some (File paths bytes)) h = h

    no_names : (p : List ℕ) (o : Option TreeNode) → NamesAt t p (Some (Value.Region v)) o → ⊥
    no_names p None h = h
    no_names p (Some Dir) h = h
    no_names p (Some (File paths bytes)) h = h

    by : (r : Key) → w r ≡ Some (Value.Region v) → is_region_key r ≡ true
    by (Path p) there = absurd (no_node (get t p) (subst (λ o. NodeAt size told w o (get t p)) there (st.nodes p)))
    by (DirKey p) there = absurd (no_names p (get t p) (subst (λ o. NamesAt t p o (get t p)) there (st.names p)))
    by (Inode i) there =
        let led = st.led i (some_value (w (Inode i)) (Value.Region v) there) in
        let has = body i (get t led.0) (subst (λ o. NodeAt size told w o (get t led.0)) led.1 (st.nodes led.0)) in
        absurd (subst IsLast there has.inode)
    by (Links i) there =
        let led = st.led i (st.counted i (some_value (w (Links i)) (Value.Region v) there)) in
        let none = count i (get t led.0) (subst (λ o. NodeAt size told w o (get t led.0)) led.1 (st.nodes led.0)) in
        absurd (subst IsNoRegion there none)
    by (Region i r) there = refl

-- ---- the scans stand for the machine's as before
module _ (size : ℕ) (told : Told) (old new : TablesView) (e : Event) (a : Answer) (m next : Machine) (sound : AreSound old)
    (st : TablesStand size told old m) (moves : Moves old new e a) (other : IsOther e) {P : Type 0} (stamped : Stamped P m next) where
  abbrev aged : Aged old new
  aged = moves.aged other

  txn_age : (c : ℕ) (y : TxnView) (u : Transaction) (o : Option TxnView) (t : Option Transaction) → of_client old.clients c ≡ o
      → get m.transactions c ≡ t → StandsForSlot size told old.kv m.now o t → KeepsAge old.next_tx o y
      → HasStamp txn_stamp m.next_stamp next.next_stamp t u.stamp → KeptTxn old m c y u ⊎ FreshTxn old m next y u
  txn_age c y u None None there is slot age stamp = inr (record { number = age; stamp = stamp.0; later = stamp.1 })
  txn_age c y u (Some x) (Some t) there is slot age stamp = inl (record { was = x; had = t; there = there; is = is; number = age; stamp = stamp })
  txn_age c y u None (Some t) there is slot age stamp = absurd slot
  txn_age c y u (Some x) None there is slot age stamp = absurd slot

  job_age : (j : ℕ) (u : Job) (o : Option JobView) (t : Option Job) → of_label old.beside.jobs j ≡ o → get m.jobs j ≡ t
      → StandsForLabel size told old.kv o t → KeepsMark (was_job old.beside j) o (was_job new.beside j)
      → HasStamp job_stamp m.next_stamp next.next_stamp t u.stamp → KeptJob old new m j u ⊎ FreshJob new m next j u
  job_age j u None None there is slot mark stamp = inr (record { stamp = stamp.0; later = stamp.1; label = mark })
  job_age j u (Some x) (Some t) there is slot mark stamp = inl (record { was = x; had = t; there = there; is = is; stamp = stamp; label = mark })
  job_age j u None (Some t) there is slot mark stamp = absurd slot
  job_age j u (Some x) None there is slot mark stamp = absurd slot

  ages : Ages old new m next
  ages = record {
    up = stamped.up;
    list = stamped.list;
    next_tx = moves.rises.no_earlier;
    scan_tx = aged.scan_tx;
    txns = λ c y u there is.
        txn_age c y u (of_client old.clients c) (get m.transactions c) refl refl (st.each c) (aged.txns c y there) (stamped.txns c u is);
    jobs = λ j y u there is.
        job_age j u (of_label old.beside.jobs j) (get m.jobs j) refl refl (st.jobs j) (aged.jobs j y there) (stamped.jobs j u is);
  }

  pub scans_on : HasKinds (metadata_now new.kv) → ScansStand old m → ScansStand new next
  scans_on kinds scans = record {
    stamps = stamps_on old new m next (λ c x is. (sound.each c x is).older) ages scans.stamps;
    parts = stamped.parts ∙ scans.parts ∙ ap (λ (g : GcView). option_map (λ (r : RunView). r.left) g.running) (sym aged.gc);
    some = λ r is. scans.some r (ap (λ (g : GcView). g.running) (sym aged.gc) ∙ is);
    scans = ap (λ (g : GcView). g.finished) aged.gc ∙ scans.scans ∙ ap (λ n. min n (2 ^ 64 - 1)) (sym stamped.scans);
    kinds = λ n live. ⊎_elim
        (λ now. subst (λ k. HasKinds (metadata_at new.kv k)) (sym now) kinds)
        (λ pinned.
        let was = aged.reach n pinned in
        subst HasKinds (sym (moves.maps n was)) (scans.kinds n was)) (live_cases new.kv n live);
  }
