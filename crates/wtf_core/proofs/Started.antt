-- The core before the first line.
use Rattle.wtf_core.proofs.Common.{slice_index_or, Contains-push, Path, same_or_other, is_down-start, stands-first, metadata_now, StandsForSlot, StandsForLabel}
use Rattle.wtf_core.proofs.Common.{option_map, root_alone, ValueBytes, metadata_at, BesideView, TablesView, TablesBytes, TablesStand, some_of_none, bytes_alone}
use Rattle.wtf_core.proofs.Common.{get-empty, Contains, Settings, no_names, of_client, empty_scan, is_pinned, ScansStand, StandsFor, live_cases, [], true≢false}
use Rattle.wtf_core.proofs.Common.{nat_cmp, is_down, Key, IsFirst, Clients, unsaved, no_jobs, of_label, CoreView, RunView, mark_of, HasKinds, AreSound, none_in}
use Rattle.wtf_core.proofs.Common.{start, Slice, Dir, Inode, Region, Links, Folder, Value, GcView, new_gc, LieIn, no_job, nat_lt, false, Option, IsTrue, ⊎_elim}
use Rattle.wtf_core.proofs.Common.{Tree, root, Told, Map, ◌≡◌, ◌≤◌, ℕ, ◌+◌, ◌*◌, cond, Bool, List, true, None, Some, sym, ap, subst, ◌∙◌, arith}
use Rattle.wtf_overlay.specs.Origin.{Place}
use Rattle.wtf_core.proofs.Aged.{kinds_of}

-- nothing is in an empty list
pub nothing_in : {A : Type 0} (x : A) → Contains [] x → ⊥
nothing_in x here = let below = here.1 in absurd (omega (arith, below))

pub none_of : (clients : Clients) (c : ℕ) → clients ≡ [] → of_client clients c ≡ None
none_of clients c is = ap (λ l. of_client l c) is

-- there is no job
pub idle_of : (beside : BesideView) (j : ℕ) → beside.jobs ≡ no_jobs → of_label beside.jobs j ≡ None
idle_of beside j is = ap (λ l. of_label l j) is ∙ no_job j

-- before the first scan the marks are 0, and nothing was freed
no_mark : (b : Bool) (i m : ℕ) → cond b (slice_index_or [] i 0) 0 ≤ m
no_mark true i m = omega arith
no_mark false i m = omega arith

pub lie_first : (gc : GcView) (length : ℕ → ℕ → ℕ) → gc ≡ new_gc → LieIn gc length
lie_first gc length is =
    let none : (k f : ℕ) → mark_of empty_scan k f ≤ length k f = λ k f. no_mark (nat_lt f 8) (k * 8 + f) (length k f) in
    subst (λ (g : GcView). LieIn g length) (sym is)
    (record { older = none; newer = none; last = none; freed = λ p here. absurd (true≢false (sym here)) })

-- nothing is open, no scan has begun, and the number alone can be read
pub scans_first : (settings : Settings) (number : ℕ) (t : Tree) (tables : TablesView) → tables.beside.gc ≡ new_gc → tables.beside.scan_tx ≡ 0
    → ((c : ℕ) → of_client tables.clients c ≡ None) → ((j : ℕ) → of_label tables.beside.jobs j ≡ None)
    → ((n : ℕ) → IsTrue (is_pinned tables.kv n) → n ≡ tables.kv.number) → HasKinds (metadata_now tables.kv) → ScansStand tables (start settings number t)
scans_first settings number t tables gc scan_tx clients jobs alone kinds = record {
  stamps = record {
    listed = λ s there. absurd (nothing_in s there);
    begun = omega (arith, scan_tx);
    txns = λ c x u there is. absurd (some_none (clients c) there);
    order = λ c d x y u v here is there its low. absurd (some_none (clients c) here);
    jobs = λ j x u there is. absurd (some_none (jobs j) there);
  };
  parts = sym (ap (λ (g : GcView). option_map (λ (r : RunView). r.left) g.running) gc);
  some = λ r is. absurd (some_none (ap (λ (g : GcView). g.running) gc) is);
  scans = ap (λ (g : GcView). g.finished) gc;
  kinds = λ n live. subst (λ k. HasKinds (metadata_at tables.kv k)) (sym (⊎_elim (λ now. now) (λ pinned. alone n pinned) (live_cases tables.kv n live))) kinds;
}
  where
    some_none : {A : Type 0} {o : Option A} {x : A} → o ≡ None → o ≡ Some x → ⊥
    some_none none some = cc

pub stands_first : (told : Told) (settings : Settings) (tables : TablesView) (core : CoreView) → core.settings ≡ settings → core.tables ≡ tables
    → tables.kv.number ≡ 0 → tables.clients ≡ [] → tables.beside ≡ unsaved → IsFirst (metadata_now tables.kv)
    → ((k : ℕ) → is_down core.replicas k ≡ false) → AreSound tables → StandsFor told core (start settings 0 root_alone)
stands_first told settings tables core is_settings is_tables number clients saved first up sound = record {
  settings = sym is_settings;
  tables = subst (λ t. TablesStand core.settings.region told t (start settings 0 root_alone)) (sym is_tables) (record {
    number = sym number;
    each = λ c. subst (λ t. StandsForSlot core.settings.region told tables.kv root_alone (of_client tables.clients c) t) (sym (get-empty nat_cmp c))
        (subst (λ s. StandsForSlot core.settings.region told tables.kv root_alone s None) (sym (none_of tables.clients c clients)) tt);
    jobs = λ j. subst (λ t. StandsForLabel core.settings.region told tables.kv (of_label tables.beside.jobs j) t) (sym (get-empty nat_cmp j))
        (subst (λ s. StandsForLabel core.settings.region told tables.kv s None) (sym (idle_of tables.beside j (ap (λ (b : BesideView). b.jobs) saved))) tt);
    later = λ tx le. stands-first core.settings.region told tx 0 (metadata_now tables.kv) first;
    before = λ i some. absurd (some_of_none (metadata_now tables.kv (Inode i)) (first.inodes i) some);
    none = λ is. Contains-push [] root_alone;
    images = λ n there. absurd (none_in n (subst (λ (s : BesideView). Contains s.images n) saved there));
  });
  down = λ k. up k ∙ sym (is_down-start settings 0 root_alone k);
  scans = subst (λ t. ScansStand t (start settings 0 root_alone)) (sym is_tables)
      (scans_first settings 0 root_alone tables (ap (λ (b : BesideView). b.gc) saved) (ap (λ (b : BesideView). b.scan_tx) saved)
      (λ c. none_of tables.clients c clients) (λ j. idle_of tables.beside j (ap (λ (b : BesideView). b.jobs) saved))
      (λ n pinned. let le = sound.upto n pinned in omega (arith, le, number))
      (kinds_of core.settings.region told 0 0 (metadata_now tables.kv) root_alone (stands-first core.settings.region told 0 0 (metadata_now tables.kv) first)));
}

-- it names no byte
module _ (P : List Place → Bool) (Q : Slice → Bool) (w : Map) (first : IsFirst w) where
  value_first : (q : Key) → ValueBytes P Q (w q)
  value_first (Path q) = ⊎_elim
      (λ same. subst (λ v. ValueBytes P Q v) (sym (subst (λ x. w (Path x) ≡ Some (Value.Node Folder)) (sym same) first.top)) tt)
      (λ other. subst (λ v. ValueBytes P Q v) (sym (first.paths q other)) tt)
      (same_or_other q root)
  value_first (Dir q) = ⊎_elim
      (λ same. subst (λ v. ValueBytes P Q v) (sym (subst (λ x. w (Dir x) ≡ Some (Value.Names no_names)) (sym same) first.names)) tt)
      (λ other. subst (λ v. ValueBytes P Q v) (sym (first.dirs q other)) tt)
      (same_or_other q root)
  value_first (Inode i) = subst (λ v. ValueBytes P Q v) (sym (first.inodes i)) tt
  value_first (Region i r) = subst (λ v. ValueBytes P Q v) (sym (first.regions i r)) tt
  value_first (Links i) = subst (λ v. ValueBytes P Q v) (sym (first.counts i)) tt

pub bytes_first : (P : List Place → Bool) (Q : Slice → Bool) (tables : TablesView) → AreSound tables → tables.kv.number ≡ 0 → tables.clients ≡ []
    → tables.beside ≡ unsaved → IsFirst (metadata_now tables.kv) → TablesBytes P Q tables
bytes_first P Q tables sound number clients beside first =
    bytes_alone P Q tables (λ c. none_of tables.clients c clients)
    (λ j. idle_of tables.beside j (ap (λ (b : BesideView). b.jobs) beside)) (λ n pinned. let le = sound.upto n pinned in omega (arith, le, number))
    (value_first P Q (metadata_now tables.kv) first)
