-- What can be read stays, and the stores tell the lists of its bases as before: so what the versions that are kept name stays, and what scans found
-- of it, and how far a quiet ending has come.
use Rattle.wtf_core.proofs.Common.{IsTrue, Place, Entry, Store, Region, Spill, Value, Lists, own_has, RunView, Scanned, IsBegun, nat_eq, nat_lt, length, Option}
use Rattle.wtf_core.proofs.Common.{list_any, unwrap_or, cases_lt, StoreKind, Key, under_has, length_in, KeptNames, PartsName, ScansAgain, IsKeptByte, IsScanned}
use Rattle.wtf_core.proofs.Common.{option_map, slice_get_past, InodeId, SameLengths, size_in-at, RegionValue, metadata_at, region_has, HasScanned, ScannedTwice}
use Rattle.wtf_core.proofs.Common.{Settings, element, byte_at, size_in, is_live, lists_in, or_none, list_has, ScanView, MapNames, HasBegun, HasScans, CoreView}
use Rattle.wtf_core.proofs.Common.{Told, Map, Stage, Saved, Scans, ◌≡◌, ℕ, Bool, ◌||◌, cond, List, None, Some, refl, sym, ◌∙◌, ap, subst, ◌-◌, inl, inr, arith}
use Rattle.wtf_core.proofs.Idling.{kept_same}

-- ---- what a map names, over stores that tell the lists of its bases as others do
abbrev pub SameBases : ℕ → Told → Told → Map → Type 0
SameBases size told later w =
    (i : InodeId) (r : ℕ) (v : RegionValue) (s : Spill) → w (Region i r) ≡ Some (Value.Region v) → v.base ≡ Some s
    → lists_in size later s.slice ≡ lists_in size told s.slice

under_same : (lists others : Lists) (base : Option Spill) (p : Place) → ((s : Spill) → base ≡ Some s → others s.slice ≡ lists s.slice)
    → under_has others base p ≡ under_has lists base p
under_same lists others None p same = refl
under_same lists others (Some s) p same = ap (λ (o : Option (List Entry)). list_has (or_none o) p) (same s refl)

region_same : (lists others : Lists) (v : RegionValue) (p : Place) → ((s : Spill) → v.base ≡ Some s → others s.slice ≡ lists s.slice)
    → region_has others v p ≡ region_has lists v p
region_same lists others v p same = ap (λ (b : Bool). own_has v p || b) (under_same lists others v.base p same)

module _ (size : ℕ) (told later : Told) (w v : Map) (is : v ≡ w) (same : SameBases size told later w) where
  pub names_on : (p : Place) → MapNames size told w p → MapNames size later v p
  names_on p h = record {
    inode = h.inode;
    region = h.region;
    row = h.row;
    there = ap (λ (m : Map). m (Region h.inode h.region)) is ∙ h.there;
    names = region_same (lists_in size told) (lists_in size later) h.row p (λ s base. same h.inode h.region h.row s h.there base) ∙ h.names;
  }

  pub names_back : (p : Place) → MapNames size later v p → MapNames size told w p
  names_back p h =
      let there : w (Region h.inode h.region) ≡ Some (Value.Region h.row) = ap (λ (m : Map). m (Region h.inode h.region)) (sym is) ∙ h.there in
      record {
        inode = h.inode;
        region = h.region;
        row = h.row;
        there = there;
        names = sym (region_same (lists_in size told) (lists_in size later) h.row p (λ s base. same h.inode h.region h.row s there base)) ∙ h.names;
      }

-- ---- what the versions that are kept name
-- what could be read can be read and nothing else, and shows the same map
pub record ReadsSame (old new : Store Key Value) : Type 0 where
  pub on : (n : ℕ) → IsTrue (is_live old n) → IsTrue (is_live new n)
  pub back : (n : ℕ) → IsTrue (is_live new n) → IsTrue (is_live old n)
  pub maps : (n : ℕ) → IsTrue (is_live old n) → metadata_at new n ≡ metadata_at old n

-- a store of the same number and pins
pub reads_same : (old new : Store Key Value) → new.number ≡ old.number → new.pins ≡ old.pins
    → ((n : ℕ) → IsTrue (is_live old n) → metadata_at new n ≡ metadata_at old n) → ReadsSame old new
reads_same old new number pins maps = record { on = λ n live. same n ∙ live; back = λ n live. sym (same n) ∙ live; maps = maps }
  where
    same : (n : ℕ) → is_live new n ≡ is_live old n
    same n =
        ap (λ (m : ℕ). nat_eq n m || list_any (nat_eq n) new.pins) number ∙ ap (λ (ps : List ℕ). nat_eq n old.number || list_any (nat_eq n) ps) pins

abbrev pub AllSameBases : ℕ → Told → Told → Store Key Value → Type 0
AllSameBases size told later kv = (n : ℕ) → IsTrue (is_live kv n) → SameBases size told later (metadata_at kv n)

module _ (size : ℕ) (told later : Told) (old new : Store Key Value) (reads : ReadsSame old new) (same : AllSameBases size told later old) where
  kept_on : (p : Place) → KeptNames size told old p → KeptNames size later new p
  kept_on p h = record {
    number = h.number;
    live = reads.on h.number h.live;
    named = names_on size told later (metadata_at old h.number) (metadata_at new h.number) (reads.maps h.number h.live) (same h.number h.live) p h.named;
  }

  kept_back : (p : Place) → KeptNames size later new p → KeptNames size told old p
  kept_back p h =
      let live = reads.back h.number h.live in
      record {
        number = h.number;
        live = live;
        named = names_back size told later (metadata_at old h.number) (metadata_at new h.number) (reads.maps h.number live) (same h.number live) p h.named;
      }

  pub parts_on : (n : ℕ) (p : Place) → PartsName size told old n p → PartsName size later new n p
  unfolding kept_on names_on
  parts_on n p h = record { kept = kept_on p h.kept; part = h.part }

  pub parts_back : (n : ℕ) (p : Place) → PartsName size later new n p → PartsName size told old n p
  unfolding kept_back names_back
  parts_back n p h = record { kept = kept_back p h.kept; part = h.part }

-- ---- files that are as long as they were
pub size_same : {S : Type 0} (kind : StoreKind S) (old new : List S) → length new ≡ length old → SameLengths kind old new → (k f : ℕ)
    → size_in kind new k f ≡ size_in kind old k f
size_same {S} kind old new same lengths k f = elim (cases_lt k (length old)) [
  | inl below ↦
      let d : S = element old k below in
      size_in-at kind new k f d (omega (arith, below, same)) ∙ lengths k d below f ∙ sym (size_in-at kind old k f d below)
  | inr past ↦
      let was : size_in kind old k f ≡ 0 = ap (λ (o : Option S). unwrap_or (option_map (λ s. (kind.view s).size f) o) 0) (slice_get_past old k past) in
      let is : size_in kind new k f ≡ 0 =
      ap (λ (o : Option S). unwrap_or (option_map (λ s. (kind.view s).size f) o) 0) (slice_get_past new k (omega (arith, past, same))) in
      is ∙ sym was
]

pub length_same : {S : Type 0} (kind : StoreKind S) (old new : List S) → length new ≡ length old → SameLengths kind old new → (k f : ℕ)
    → length_in kind new k f ≡ length_in kind old k f
length_same kind old new same lengths k f = ap (λ (n : ℕ). cond (nat_lt f 8) n 0) (size_same kind old new same lengths k f)

-- ---- how far a quiet ending has come
module _ {S : Type 0} (kind : StoreKind S) (before after : List S) (old new : CoreView) (settings : new.settings ≡ old.settings)
    (lengths : (k f : ℕ) → length_in kind after k f ≡ length_in kind before k f) (reads : ReadsSame old.tables.kv new.tables.kv)
    (same : AllSameBases old.settings.region (byte_at kind before) (byte_at kind after) old.tables.kv) where
  abbrev told : Told
  told = byte_at kind before

  abbrev later : Told
  later = byte_at kind after

  abbrev was : Store Key Value
  was = old.tables.kv

  abbrev now : Store Key Value
  now = new.tables.kv

  -- what is said of the size of a region is said of it later
  size_on : (P : ℕ → Type 0) → P old.settings.region → P new.settings.region
  size_on P h = subst (λ (s : Settings). P s.region) (sym settings) h

  pub names_later : (p : Place) → IsKeptByte kind before old p → IsKeptByte kind after new p
  names_later p h = size_on (λ size. KeptNames size later now p) (kept_on old.settings.region told later was now reads same p h)

  pub names_before : (p : Place) → IsKeptByte kind after new p → IsKeptByte kind before old p
  names_before p h =
      kept_back old.settings.region told later was now reads same p (subst (λ (s : Settings). KeptNames s.region later now p) settings h)

  pub scanned_later : (s : ScanView) → IsScanned kind before old s → IsScanned kind after new s
  scanned_later s h = size_on (λ size. HasScanned size later (length_in kind after) now s) (record {
    marks = λ k f. h.marks k f ∙ sym (lengths k f);
    all = λ p n. h.all p (kept_back old.settings.region told later was now reads same p n);
    only = λ p here. kept_on old.settings.region told later was now reads same p (h.only p here);
  })

  -- nor does what is kept move
  module _ (number : new.tables.kv.number ≡ old.tables.kv.number) (images : new.tables.beside.images ≡ old.tables.beside.images)
      (watched : new.tables.beside.watched ≡ old.tables.beside.watched) where
    begun_later : (o : Option RunView) → IsBegun kind before old o → IsBegun kind after new o
    begun_later None h = h
    begun_later (Some r) h = size_on (λ size. HasBegun size later (length_in kind after) new.tables r) (record {
      marks = λ k f. h.marks k f ∙ sym (lengths k f);
      left = h.left;
      all = λ p n. h.all p (parts_back old.settings.region told later was now reads same (64 - r.left) p n);
      only = λ p here. parts_on old.settings.region told later was now reads same (64 - r.left) p (h.only p here);
      seen = λ n here. kept_same old.tables new.tables number images watched n ∙ h.seen n here;
    })

    -- nor the scans
    module _ (running : new.tables.beside.gc.running ≡ old.tables.beside.gc.running) (older : new.tables.beside.gc.older ≡ old.tables.beside.gc.older)
        (newer : new.tables.beside.gc.newer ≡ old.tables.beside.gc.newer) where
      older_later : IsScanned kind before old old.tables.beside.gc.older → IsScanned kind after new new.tables.beside.gc.older
      older_later h = subst (λ (s : ScanView). IsScanned kind after new s) (sym older) (scanned_later old.tables.beside.gc.older h)

      newer_later : IsScanned kind before old old.tables.beside.gc.newer → IsScanned kind after new new.tables.beside.gc.newer
      newer_later h = subst (λ (s : ScanView). IsScanned kind after new s) (sym newer) (scanned_later old.tables.beside.gc.newer h)

      run_later : IsBegun kind before old old.tables.beside.gc.running → IsBegun kind after new new.tables.beside.gc.running
      run_later h = subst (λ (o : Option RunView). IsBegun kind after new o) (sym running) (begun_later old.tables.beside.gc.running h)

      pub stage_later : (s : Stage) → HasScans kind before old s → HasScans kind after new s
      stage_later Saved h = tt
      stage_later Scans h = run_later h
      stage_later Scanned h = (running ∙ h.0, newer_later h.1)
      stage_later ScansAgain h = (run_later h.0, newer_later h.1)
      stage_later ScannedTwice h = (running ∙ h.0, older_later h.1, newer_later h.2)
