-- A store over a disk whose every call is brought to where it lasts. Its `impl` gives the proof of the laws, so that stands beside the
-- definitions.
use Rattle.std.specs.Prelude.{◌≡◌, ◌<◌, ◌^◌, ◌-◌, ◌&&◌, ℕ, Bool, true, false, min, nat_lt, if◌then◌else◌, Option, None, Some, List, [], ◌++◌, slice_get, refl}
use Rattle.std.proofs.Common.{arith, ◌∙◌}
use Rattle.std.proofs.lemmas.Bool.{and_parts, ltb-true}
use Rattle.wtf_dev.specs.Store.{Range, StoreView, StoreKind, KindLaws, Kept, Outside}
use Rattle.wtf_dev.specs.MemoryLaws.{outside_parts, kept_same, kept_on}
use Rattle.wtf_dev.specs.Disk.{DiskView, DiskKind, DiskContent, DiskLeaves, DiskLaws}
use Rattle.wtf_journal.specs.Moments.{stays, joins}

pub record SyncedState (D : Type 0) : Type 0 where
  pub disk : D
  pub syncs : ℕ

-- the place lies in one of the eight files of a disk that tells its content, below the length
abbrev pub is_there : DiskView → ℕ → ℕ → Bool
is_there v f i = v.tells && (nat_lt f 8 && nat_lt i (min (v.size f) (2 ^ 61 - 1)))

-- It tells the bytes that are not pending, and shows what a read of the disk gives.
abbrev pub synced_view : DiskView → ℕ → StoreView
synced_view v syncs = record {
  faults = v.faults;
  syncs = syncs;
  size = λ f. min (v.size f) (2 ^ 61 - 1);
  told = λ f i. if is_there v f i then (v.file f).told i else None;
  shown = λ f i. if is_there v f i then slice_get (v.file f).seen i else None;
  tells = v.tells;
}

abbrev pub view_of : {D : Type 0} → DiskKind D → SyncedState D → StoreView
view_of kind s = synced_view (kind.view s.disk) s.syncs

-- the files have what was told outside of these ranges
abbrev pub KeepsTold : StoreView → List Range → DiskContent → Type 0
KeepsTold v punched c = (f i b : ℕ) → Outside f i punched → v.told f i ≡ Some b → slice_get (c f) i ≡ Some b

-- What it says more than a store has to: a stop at any moment between the two states leaves every byte that the earlier one told,
-- outside of the punched ranges.
pub record SyncedFollows {D : Type 0} (kind : DiskKind D) (old new : SyncedState D) (punched : List Range) : Type 0 where
  pub kept : Kept (view_of kind old) (view_of kind new) punched
  pub moments : (kind.view old.disk).tells ≡ true → DiskLeaves kind old.disk new.disk (KeepsTold (view_of kind old) punched)

abbrev pub synced_kind : {D : Type 0} → DiskKind D → StoreKind (SyncedState D)
synced_kind kind = record { view = view_of kind; follows = SyncedFollows kind }

pub synced_on : {D : Type 0} (kind : DiskKind D) (a b c : SyncedState D) (xs ys : List Range)
    → SyncedFollows kind a b xs → SyncedFollows kind b c ys → SyncedFollows kind a c (xs ++ ys)
synced_on kind a b c xs ys p q = record {
  kept = kept_on (view_of kind a) (view_of kind b) (view_of kind c) xs ys p.kept q.kept;
  moments = λ tells. joins kind a.disk b.disk c.disk _ _ (KeepsTold (view_of kind a) (xs ++ ys))
      (p.moments tells) (q.moments (p.kept.tells ∙ tells))
      (λ x keeps f i v out told. keeps f i v (outside_parts f i xs ys out).0 told)
      (λ x keeps f i v out told. let parts = outside_parts f i xs ys out in keeps f i v parts.1 (p.kept.bytes f i v parts.0 told));
}

pub synced_itself : {D : Type 0} (kind : DiskKind D) (s : SyncedState D) → SyncedFollows kind s s []
synced_itself kind s = record { kept = kept_same (view_of kind s); moments = λ tells. stays kind s.disk _ }

pub where_true : (t : Bool) (x : Option ℕ) (b : ℕ) → (if t then x else None) ≡ Some b → (t ≡ true) × (x ≡ Some b)
where_true true x b h = (refl, h)
where_true false x b h = absurd (cc)

-- where such a place is
pub record IsThere (v : DiskView) (f i : ℕ) : Type 0 where
  pub tells : v.tells ≡ true
  pub file : f < 8
  pub below : i < min (v.size f) (2 ^ 61 - 1)

pub there : (v : DiskView) (f i : ℕ) → is_there v f i ≡ true → IsThere v f i
there v f i h =
    let outer = and_parts v.tells (nat_lt f 8 && nat_lt i (min (v.size f) (2 ^ 61 - 1))) h in
    let inner = and_parts (nat_lt f 8) (nat_lt i (min (v.size f) (2 ^ 61 - 1))) outer.1 in
    record { tells = outer.0; file = ltb-true f 8 inner.0; below = ltb-true i (min (v.size f) (2 ^ 61 - 1)) inner.1 }

where_set : (t : Bool) (x y : Option ℕ) (b : ℕ) → (if t then x else None) ≡ Some b → (t ≡ true → x ≡ Some b → y ≡ Some b) → (if t then y else None) ≡ Some b
where_set true x y b h step = step refl h
where_set false x y b h step = h

pub synced_laws : {D : Type 0} (kind : DiskKind D) → DiskLaws kind → KindLaws (synced_kind kind)
synced_laws kind laws = record {
  follows_itself = synced_itself kind;
  follows_on = synced_on kind;
  keeps = λ a b xs f. f.kept;
  fits = λ s f. omega arith;
  within = λ s f i b shown.
      let at = there (kind.view s.disk) f i (where_true (is_there (kind.view s.disk) f i) _ b shown).0 in (at.file, at.below);
  shows = λ s f i b told. where_set (is_there (kind.view s.disk) f i) (((kind.view s.disk).file f).told i) (slice_get ((kind.view s.disk).file f).seen i) b told
      (λ here is. (laws.reads s.disk (there (kind.view s.disk) f i here).tells f).bytes i b is);
}
