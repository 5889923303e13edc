-- What writes within a range leave a store that tells its settled bytes.
use Rattle.std.specs.Prelude.{◌≡◌, ◌⊎◌, ◌<◌, ◌≤◌, ◌+◌, ◌^◌, ◌-◌, ◌&&◌, ℕ, Bool, true, false, min, nat_lt, if◌then◌else◌, Option, None, Some, List, [], ◌∷◌}
use Rattle.std.specs.Prelude.{length, slice_get, refl, Result, Ok, Err, OnOk, OnErr}
use Rattle.wtf_dev.specs.Counts.{Rose}
use Rattle.std.proofs.Common.{arith, ◌∙◌, sym, ap, subst, inl, inr}
use Rattle.std.proofs.lemmas.Bool.{and_from, cases_eq, cases_lt, lt-ltb}
use Rattle.std.proofs.lemmas.Option.{slice_get-get_or, slice_get_within}
use Rattle.wtf_dev.specs.Store.{Range, Outside}
use Rattle.wtf_dev.specs.Disk.{DiskView, DiskKind, DiskFileView, DiskLaws, DiskSyncs, IsSettled, Remains}
use Rattle.wtf_journal.specs.Moments.{weaker}
use Rattle.wtf_journal.specs.Through.{TornFrom, WritesWithin}
use Rattle.wtf_journal.specs.Follows.{SyncedState, is_there, there, where_true, view_of, KeepsTold, SyncedFollows, synced_on}
use Rattle.wtf_journal.proofs.Within.{within_none, within_sync, sync_ends}

-- the place is in the file
pub is_in : (v : DiskView) (f i : ℕ) → v.tells ≡ true → f < 8 → i < min (v.size f) (2 ^ 61 - 1) → is_there v f i ≡ true
is_in v f i tells file below = and_from v.tells (nat_lt f 8 && nat_lt i (min (v.size f) (2 ^ 61 - 1))) tells
    (and_from (nat_lt f 8) (nat_lt i (min (v.size f) (2 ^ 61 - 1))) (lt-ltb f 8 file) (lt-ltb i (min (v.size f) (2 ^ 61 - 1)) below))

pub where_is : (t : Bool) (x : Option ℕ) (b : ℕ) → t ≡ true → x ≡ Some b → (if t then x else None) ≡ Some b
where_is true x b here is = is
where_is false x b here is = absurd (cc here)

-- each place that was in a file still is
stays_in : (a b : DiskView) (f i : ℕ) → b.tells ≡ a.tells → a.size f ≤ b.size f → is_there a f i ≡ true → is_there b f i ≡ true
stays_in a b f i same le here = let was = there a f i here in is_in b f i (same ∙ was.tells) was.file (omega (arith, was.below, le))

-- so a byte that is kept of the files is one that the store keeps
kept_there : (a b : DiskView) (f i v : ℕ) (x y : Option ℕ) → b.tells ≡ a.tells → a.size f ≤ b.size f
    → (a.tells ≡ true → x ≡ Some v → y ≡ Some v) → (if is_there a f i then x else None) ≡ Some v → (if is_there b f i then y else None) ≡ Some v
kept_there a b f i v x y same le step told =
    let was = where_true (is_there a f i) x v told in
    where_is (is_there b f i) y v (stays_in a b f i same le was.0) (step (there a f i was.0).tells was.1)

unshown_of : (s t : Bool) (x y : Option ℕ) → (t ≡ true → s ≡ true) → (s ≡ true → x ≡ None → ⊥) → (if s then x else None) ≡ None → (if t then y else None) ≡ None
unshown_of s false x y back some none = refl
unshown_of true true x y back some none = absurd (some refl none)
unshown_of false true x y back some none = absurd (cc (back refl))

-- the place lies outside of the written range: past the end of the file, or elsewhere in it
abbrev pub Misses : ℕ → ℕ → ℕ → List Range → List ℕ → Type 0
Misses file at n punched seen = (i b : ℕ) → Outside file i punched → slice_get seen i ≡ Some b → (i < at) ⊎ (at + n ≤ i)

module _ {D : Type 0} (kind : DiskKind D) (laws : DiskLaws kind) (old new : SyncedState D) (file at n : ℕ) (punched : List Range) where
  abbrev before : DiskView
  before = kind.view old.disk

  abbrev after : DiskView
  after = kind.view new.disk

  module _ (w : WritesWithin kind file at n old.disk new.disk) (misses : before.tells ≡ true → Misses file at n punched (before.file file).seen) where
    told_on : before.tells ≡ true → (f i b : ℕ) → Outside f i punched → (before.file f).told i ≡ Some b → (after.file f).told i ≡ Some b
    told_on tells f i b out told = elim (cases_eq f file) [
      | inl e ↦ subst (λ (k : ℕ). (after.file k).told i ≡ Some b) (sym e)
          (let here = subst (λ (k : ℕ). (before.file k).told i ≡ Some b) e told in
          (w.pending tells).told i b (misses tells i b (subst (λ (k : ℕ). Outside k i punched) e out) ((laws.reads old.disk tells file).bytes i b here)) here)
      | inr ne ↦ ap (λ (v : DiskFileView). v.told i) (w.elsewhere tells f ne) ∙ told
    ]

    seen_on : before.tells ≡ true → (f i b : ℕ) → Outside f i punched → slice_get (before.file f).seen i ≡ Some b → slice_get (after.file f).seen i ≡ Some b
    seen_on tells f i b out seen = elim (cases_eq f file) [
      | inl e ↦ subst (λ (k : ℕ). slice_get (after.file k).seen i ≡ Some b) (sym e)
          (let here = subst (λ (k : ℕ). slice_get (before.file k).seen i ≡ Some b) e seen in
          (w.pending tells).seen i b (misses tells i b (subst (λ (k : ℕ). Outside k i punched) e out) here) here)
      | inr ne ↦ ap (λ (v : DiskFileView). slice_get v.seen i) (w.elsewhere tells f ne) ∙ seen
    ]

    -- below the old length all is shown, or nothing of the file is
    unshown_on : (f i : ℕ) → i < min (before.size f) (2 ^ 61 - 1) → (if is_there before f i then slice_get (before.file f).seen i else None) ≡ None
        → (if is_there after f i then slice_get (after.file f).seen i else None) ≡ None
    unshown_on f i below none = unshown_of (is_there before f i) (is_there after f i) (slice_get (before.file f).seen i) (slice_get (after.file f).seen i)
        (λ is. let now = there after f i is in is_in before f i (sym w.goes_on.tells ∙ now.tells) now.file below)
        (λ is gone. let lengths = laws.lengths old.disk f (there before f i is).tells in
        let held = slice_get-get_or (before.file f).seen i 0 (omega (arith, below, lengths)) in absurd (cc (held, gone)))
        none

    pub follows_within : old.syncs ≤ new.syncs → SyncedFollows kind old new punched
    follows_within syncs = record {
      kept = record {
        faults = w.goes_on.faults;
        syncs = syncs;
        size = λ f. let le = w.goes_on.size f in omega (arith, le);
        tells = w.goes_on.tells;
        bytes = λ f i b out told. kept_there before after f i b ((before.file f).told i) ((after.file f).told i) w.goes_on.tells (w.goes_on.size f)
            (λ tells is. told_on tells f i b out is) told;
        shown = λ f i b out shown. kept_there before after f i b (slice_get (before.file f).seen i) (slice_get (after.file f).seen i) w.goes_on.tells
            (w.goes_on.size f)
            (λ tells is. seen_on tells f i b out is) shown;
        unshown = λ f i out below none. unshown_on f i below none;
      };
      moments = λ tells. weaker kind old.disk new.disk (TornFrom before file at n) (KeepsTold (view_of kind old) punched) (w.moments tells)
          (λ x torn f i b out told.
          let was = (where_true (is_there before f i) ((before.file f).told i) b told).1 in
          elim (cases_eq f file) [
            | inl e ↦ subst (λ (k : ℕ). slice_get (x k) i ≡ Some b) (sym e)
                (let here = subst (λ (k : ℕ). (before.file k).told i ≡ Some b) e was in
                torn.here.bytes i b (torn.pends.told i b
                (misses tells i b (subst (λ (k : ℕ). Outside k i punched) e out) ((laws.reads old.disk tells file).bytes i b here)) here))
            | inr ne ↦ (torn.others f ne).bytes i b was
          ]);
    }

-- an append misses all that a read gave
pub misses_end : (file at n : ℕ) (seen : List ℕ) → at ≡ length seen → Misses file at n [] seen
misses_end file at n seen is i b out got = let within = slice_get_within seen i b got in inl (omega (arith, within, is))

-- a punch misses what lies outside of its range
pub misses_range : (file at n : ℕ) (seen : List ℕ) → Misses file at n (record { file = file; at = at; len = n } ∷ []) seen
misses_range file at n seen i b out got = elim (cases_lt i at) [ inl lt ↦ inl lt | inr ge ↦ inr (out.0 refl ge) ]

-- a sync misses everything
pub misses_none : (file at : ℕ) (seen : List ℕ) → Misses file at 0 [] seen
misses_none file at seen i b out got = elim (cases_lt i at) [ inl lt ↦ inl lt | inr ge ↦ inr (omega (arith, ge)) ]

pub on_err : {T E : Type 0} (r : Result T E) (X : Type 0) → X → OnErr r X
on_err (Ok y) X x = tt
on_err (Err e) X x = x

pub rose_later : (a b c : ℕ) → a ≤ b → Rose b c → Rose a c
rose_later a b c le rose = λ below. let more = rose below in omega (arith, le, more)

-- the first k files were synced
pub record SyncedTo {D : Type 0} (kind : DiskKind D) (k : ℕ) (old new : D) : Type 0 where
  pub settled : (kind.view old).tells ≡ true → (f : ℕ) → f < k → IsSettled ((kind.view old).file f).seen ((kind.view new).file f)
  pub same : (kind.view old).tells ≡ true → (f : ℕ) → k ≤ f → (kind.view new).file f ≡ (kind.view old).file f
  pub sizes : (f : ℕ) → (kind.view new).size f ≡ (kind.view old).size f
  pub follows : (s t : ℕ) → s ≤ t → SyncedFollows kind (record { disk = old; syncs = s }) (record { disk = new; syncs = t }) []

module _ {D : Type 0} (kind : DiskKind D) (laws : DiskLaws kind) where
  pub synced_none : (d : D) → SyncedTo kind 0 d d
  synced_none d = record {
    settled = λ tells f lt. absurd (omega (arith, lt));
    same = λ tells f le. refl;
    sizes = λ f. refl;
    follows = λ s t le. follows_within kind laws (record { disk = d; syncs = s }) (record { disk = d; syncs = t }) 0 0 0 [] (within_none kind 0 0 d)
        (λ tells. misses_none 0 0 ((kind.view d).file 0).seen) le;
  }

  module _ {T E : Type 0} (r : Result T E) (file : ℕ) (a b c : D) (so_far : SyncedTo kind file a b) (s : DiskSyncs kind file b c)
      (ok : OnOk r ((kind.view b).tells ≡ true → IsSettled ((kind.view b).file file).seen ((kind.view c).file file)))
      (err : OnErr r ((kind.view b).tells ≡ true → Remains ((kind.view b).file file) ((kind.view c).file file))) where
    -- one file more, done or failed
    pub follows_sync : (x y : ℕ) → x ≤ y → SyncedFollows kind (record { disk = a; syncs = x }) (record { disk = c; syncs = y }) []
    follows_sync x y le =
        synced_on kind (record { disk = a; syncs = x }) (record { disk = b; syncs = x }) (record { disk = c; syncs = y }) [] []
        (so_far.follows x x (omega arith))
        (follows_within kind laws (record { disk = b; syncs = x }) (record { disk = c; syncs = y }) file 0 0 []
        (within_sync kind file r 0 0 b b c (within_none kind file 0 b) s (λ tells. sync_ends kind file r b c laws tells ok err))
        (λ tells. misses_none file 0 ((kind.view b).file file).seen) le)

    pub synced_more : (((kind.view b).tells ≡ true → IsSettled ((kind.view b).file file).seen ((kind.view c).file file))) → SyncedTo kind (file + 1) a c
    synced_more settles = record {
      settled = λ tells f lt.
          let still = (so_far.follows 0 0 (omega arith)).kept.tells ∙ tells in
          elim (cases_eq f file) [
            | inl e ↦ subst (λ (k : ℕ). IsSettled ((kind.view a).file k).seen ((kind.view c).file k)) (sym e)
                (subst (λ (v : DiskFileView). IsSettled v.seen ((kind.view c).file file)) (so_far.same tells file (omega arith)) (settles still))
            | inr ne ↦ subst (λ (v : DiskFileView). IsSettled ((kind.view a).file f).seen v) (sym (s.elsewhere still f ne))
                (so_far.settled tells f (omega (arith, lt, ne)))
          ];
      same = λ tells f le. s.elsewhere ((so_far.follows 0 0 (omega arith)).kept.tells ∙ tells) f (omega (arith, le)) ∙ so_far.same tells f (omega (arith, le));
      sizes = λ f. s.sizes f ∙ so_far.sizes f;
      follows = follows_sync;
    }
