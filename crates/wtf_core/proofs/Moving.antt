-- What a line does of a quiet ending, and a line that leaves it where it is.
use Rattle.wtf_core.proofs.Common.{Settings, Place, StoreKind, byte_at, SameLengths, Span, Answer, Event, Told, metadata_at, extents_cover, GcView, length_in}
use Rattle.wtf_core.proofs.Common.{TablesView, metadata_now, number_live, MapNames, AreIdle, IsAtRest, Stage, ScannedTwice, next_stage, HasScans, IsAtStage}
use Rattle.wtf_core.proofs.Common.{FoundOnlyKept, LeavesKept, HasCollected, GoesOnQuietly, CoreView, ◌≡◌, ℕ, true, length, Option, None, Some, sym, ◌∙◌, ap}
use Rattle.wtf_core.proofs.Common.{subst, inl, inr, ⊎_elim, arith, BesideView}
use Rattle.wtf_core.proofs.Carried.{AllSameBases, ReadsSame, reads_same, names_on, size_same, length_same, stage_later}
use Rattle.wtf_core.proofs.Idling.{idle_on, rests_on}

pub some_is : {A : Type 0} (x y : A) → Some x ≡ Some y → x ≡ y
some_is x y is = cc

pub none_some : {A : Type 0} (o : Option A) (x : A) → o ≡ None → o ≡ Some x → ⊥
none_some o x none some = cc

-- ---- a line of a quiet ending
abbrev pub IsCollection : Event → Answer → Type 0
IsCollection (Event.Collect k) (Answer.Collected n) = Unit {0}
IsCollection e a = ⊥

pub collects : (e : Event) (a : Answer) (k n : ℕ) → e ≡ Event.Collect k → a ≡ Answer.Collected n → IsCollection e a
collects e a k n is said = subst (λ (x : Event). IsCollection x a) (sym is) (subst (λ (b : Answer). IsCollection (Event.Collect k) b) (sym said) tt)

-- tables in which nothing began, the same may be on the keeper, and the same is watched
pub record SameRest (old new : TablesView) : Type 0 where
  pub clients : new.clients ≡ old.clients
  pub jobs : new.beside.jobs ≡ old.beside.jobs
  pub images : new.beside.images ≡ old.beside.images
  pub none : new.beside.none ≡ old.beside.none
  pub watched : new.beside.watched ≡ old.beside.watched
  pub number : new.kv.number ≡ old.kv.number

pub rest_of : (old new : TablesView) (b : BesideView) → new.clients ≡ old.clients
    → new.beside ≡ record old.beside { gc = b.gc; scan_tx = b.scan_tx; scan_jobs = b.scan_jobs } → new.kv.number ≡ old.kv.number → SameRest old new
rest_of old new b clients beside number = record {
  clients = clients;
  jobs = ap (λ (x : BesideView). x.jobs) beside;
  images = ap (λ (x : BesideView). x.images) beside;
  none = ap (λ (x : BesideView). x.none) beside;
  watched = ap (λ (x : BesideView). x.watched) beside;
  number = number;
}

-- stores and a core over a line that leaves files as long as they were, and the lists that bases are decoded to
pub record InPlace {S : Type 0} (kind : StoreKind S) (t : Span S) (old new : CoreView) : Type 0 where
  pub settings : new.settings ≡ old.settings
  pub many : length t.after ≡ length t.before
  pub lengths : SameLengths kind t.before t.after
  pub same : AllSameBases old.settings.region (byte_at kind t.before) (byte_at kind t.after) old.tables.kv

-- the same scan runs, and the same two have finished last
pub record SameScans (old new : GcView) : Type 0 where
  pub running : new.running ≡ old.running
  pub older : new.older ≡ old.older
  pub newer : new.newer ≡ old.newer

-- what a line does of a quiet ending, but for what a collection leaves
pub record Moves {S : Type 0} (kind : StoreKind S) (t : Span S) (old new : CoreView) (e : Event) (a : Answer) : Type 0 where
  pub rest : SameRest old.tables new.tables
  pub scans : (s next : Stage) → next_stage s e a ≡ Some next → AreIdle old.tables → HasScans kind t.before old s → HasScans kind t.after new next
  pub stays : (k : ℕ) → HasCollected kind t.before old k → HasCollected kind t.after new k

-- what a collection leaves
pub record Leaves {S : Type 0} (kind : StoreKind S) (t : Span S) (old new : CoreView) (k : ℕ) : Type 0 where
  pub kept : FoundOnlyKept kind t.before old → LeavesKept kind t.after new k
  pub collected : IsAtStage kind t.before old ScannedTwice → HasCollected kind t.after new k

pub rest_later : (old new : TablesView) → SameRest old new → IsAtRest old → IsAtRest new
rest_later old new rest = rests_on old new rest.clients rest.jobs rest.images rest.none rest.watched rest.number

module _ {S : Type 0} (kind : StoreKind S) (t : Span S) (old new : CoreView) (e : Event) (a : Answer) (m : Moves kind t old new e a) where
  pub moves_quietly : ((k n : ℕ) → e ≡ Event.Collect k → a ≡ Answer.Collected n → Leaves kind t old new k) → GoesOnQuietly kind t old new e a
  moves_quietly leaves = record {
    on = λ s next is at. record { rests = rest_later old.tables new.tables m.rest at.rests; scans = m.scans s next is at.rests.idle at.scans };
    idle = λ s next is at.
        record { idle = idle_on old.tables new.tables m.rest.clients m.rest.jobs at.idle; scans = m.scans s next is at.idle at.scans };
    kept = λ k n is said found. (leaves k n is said).kept found;
    collected = λ k n is said at. (leaves k n is said).collected at;
    stays = λ k s next is had. m.stays k had;
  }

  pub plainly : (IsCollection e a → ⊥) → GoesOnQuietly kind t old new e a
  plainly other = moves_quietly (λ k n is said. absurd (other (collects e a k n is said)))

module _ {S : Type 0} (kind : StoreKind S) (t : Span S) (old new : CoreView) (place : InPlace kind t old new) where
  abbrev told : Told
  told = byte_at kind t.before

  abbrev later : Told
  later = byte_at kind t.after

  pub long_on : (k f : ℕ) → length_in kind t.after k f ≡ length_in kind t.before k f
  long_on = length_same kind t.before t.after place.many place.lengths

  -- what the map now names of a server, and what counts as freed there, stays
  module _ (rest : SameRest old.tables new.tables) (now : metadata_now new.tables.kv ≡ metadata_now old.tables.kv)
      (freed : (p : Place) → extents_cover old.tables.beside.gc.freed p ≡ true → extents_cover new.tables.beside.gc.freed p ≡ true) where
    now_later : (p : Place) → MapNames old.settings.region told (metadata_now old.tables.kv) p
        → MapNames new.settings.region later (metadata_now new.tables.kv) p
    now_later p h = subst (λ (s : Settings). MapNames s.region later (metadata_now new.tables.kv) p) (sym place.settings)
        (names_on old.settings.region told later (metadata_now old.tables.kv) (metadata_now new.tables.kv) now
        (place.same old.tables.kv.number (number_live old.tables.kv)) p h)

    pub still_collected : (k : ℕ) → HasCollected kind t.before old k → HasCollected kind t.after new k
    still_collected k had = record {
      rests = rest_later old.tables new.tables rest had.rests;
      left = λ p on file below. ⊎_elim
          (λ gone. inl (freed p gone))
          (λ h. inr (now_later p h))
          (had.left p on file (omega (arith, below, size_same kind t.before t.after place.many place.lengths k p.file)));
    }

  -- a line that leaves the scans leaves the stage
  pub steady : (e : Event) (a : Answer) → ((s next : Stage) → next_stage s e a ≡ Some next → s ≡ next) → ReadsSame old.tables.kv new.tables.kv
      → SameRest old.tables new.tables → SameScans old.tables.beside.gc new.tables.beside.gc
      → ((p : Place) → extents_cover old.tables.beside.gc.freed p ≡ true → extents_cover new.tables.beside.gc.freed p ≡ true) → Moves kind t old new e a
  steady e a stage reads rest scans freed = record {
    rest = rest;
    scans = λ s next is idle h. subst (λ (x : Stage). HasScans kind t.after new x) (stage s next is)
        (stage_later kind t.before t.after old new place.settings long_on reads place.same rest.number rest.images rest.watched scans.running
        scans.older scans.newer s h);
    stays = still_collected rest
        (ap (λ (n : ℕ). metadata_at new.tables.kv n) rest.number ∙ reads.maps old.tables.kv.number (number_live old.tables.kv)) freed;
  }

  -- one that leaves the tables
  pub still : (e : Event) (a : Answer) → ((s next : Stage) → next_stage s e a ≡ Some next → s ≡ next) → new.tables ≡ old.tables → Moves kind t old new e a
  still e a stage is = steady e a stage
      (reads_same old.tables.kv new.tables.kv (ap (λ (x : TablesView). x.kv.number) is) (ap (λ (x : TablesView). x.kv.pins) is)
      (λ n live. ap (λ (x : TablesView). metadata_at x.kv n) is))
      (rest_of old.tables new.tables old.tables.beside (ap (λ (x : TablesView). x.clients) is) (ap (λ (x : TablesView). x.beside) is)
      (ap (λ (x : TablesView). x.kv.number) is))
      (record {
        running = ap (λ (x : TablesView). x.beside.gc.running) is;
        older = ap (λ (x : TablesView). x.beside.gc.older) is;
        newer = ap (λ (x : TablesView). x.beside.gc.newer) is;
      })
      (λ p here. ap (λ (x : TablesView). extents_cover x.beside.gc.freed p) is ∙ here)
