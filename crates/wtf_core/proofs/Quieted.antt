-- Dropping versions that no one sees leaves collection safe, the images' trees, and a quiet ending where it is.
use Rattle.wtf_core.proofs.Common.{Contains, list_any, ⊤, is_pinned, any-count, count-any, Place, StoreKind, byte_at, Span, Told, is_told, Map, metadata_at}
use Rattle.wtf_core.proofs.Common.{Stands, extents_cover, RunView, mark_of, ListedBytes, IsSafe, LieIn, AreSound, IsTidied, all_seen, BesideView, TablesView}
use Rattle.wtf_core.proofs.Common.{metadata_now, number_live, pinned_live, AreIdle, IsAtRest, MapNames, Stage, HasScans, IsIdleAt, IsAtStage, LeavesKept}
use Rattle.wtf_core.proofs.Common.{HasCollected, KeepsImages, CoreView, kept_pinned, went_safe, tidy_went, ◌≡◌, ◌⊎◌, ◌<◌, ℕ, nat_eq, count_by, Bool, true, List}
use Rattle.wtf_core.proofs.Common.{Some, IsTrue, refl, sym, ◌∙◌, ap, subst, arith}
use Rattle.wtf_core.proofs.{Carried.AllSameBases, Carried.ReadsSame, Carried.reads_same, Carried.names_later, Carried.names_before, Carried.stage_later}
use Rattle.wtf_core.proofs.{Idling.idle_on, Idling.rests_on, Naming.tidied_bytes}

-- a number that the scan has pinned which runs is pinned
pub seen_pinned : (tables : TablesView) (r : RunView) (n : ℕ) → AreSound tables → tables.beside.gc.running ≡ Some r → list_any (nat_eq n) r.seen ≡ true
    → IsTrue (is_pinned tables.kv n)
seen_pinned tables r n sound runs seen =
    let some = count-any n r.seen seen in
    let same : all_seen n tables.beside.gc.running ≡ count_by (nat_eq n) r.seen = ap (all_seen n) runs in
    let pins = sound.pins n in
    any-count n tables.kv.pins (omega (arith, some, same, pins))

pub tidied_safe : (size : ℕ) (told : Told) (length : ℕ → ℕ → ℕ) (old new : TablesView) → AreSound old → IsTidied old new → LieIn old.beside.gc length
    → ListedBytes size told (is_told told) old → IsSafe size told old → IsSafe size told new
tidied_safe size told length old new sound tidy lie names safe =
    let Added : (List Place → Bool) → Type 0 = λ P. ⊤ in
    went_safe size told told Added length old new (λ p byte is. is) names lie (λ X low. tt)
    (λ r runs n seen.
    let pinned = seen_pinned old r n sound runs seen in
    (pinned_live old.kv n pinned, subst (λ l. IsTrue (is_pinned (record old.kv { pins = l }) n)) (sym tidy.pins) pinned))
    (tidy_went size told told (λ p byte is. is) Added old new sound names (λ P Q hole h. tidied_bytes P Q old new sound tidy h) tidy) safe

-- the map now is what it was
now_same : (old new : TablesView) → IsTidied old new → metadata_now new.kv ≡ metadata_now old.kv
now_same old new tidy = ap (λ (n : ℕ). metadata_at new.kv n) tidy.number ∙ tidy.maps old.kv.number (number_live old.kv)

pub tidied_images : {S : Type 0} (kind : StoreKind S) (t : Span S) (old answered : CoreView) (tables : TablesView) → AreSound answered.tables
    → IsTidied answered.tables tables → KeepsImages kind t old answered → KeepsImages kind t old (record answered { tables = tables })
tidied_images kind t old answered tables sound tidy h n was is tx tree stands =
    let there : Contains answered.tables.beside.images n = subst (λ (b : BesideView). Contains b.images n) tidy.beside is in
    subst (λ (w : Map). Stands old.settings.region (byte_at kind t.after) tx 0 w tree)
    (sym (tidy.maps n (pinned_live answered.tables.kv n (kept_pinned answered.tables n sound there)))) (h n was there tx tree stands)

module _ {S : Type 0} (kind : StoreKind S) (shelf : List S) (answered : CoreView) (tables : TablesView) (tidy : IsTidied answered.tables tables) where
  -- the core as it is left
  abbrev tidied : CoreView
  tidied = record answered { tables = tables }

  images_same : tables.beside.images ≡ answered.tables.beside.images
  images_same = ap (λ (b : BesideView). b.images) tidy.beside

  jobs_same : tables.beside.jobs ≡ answered.tables.beside.jobs
  jobs_same = ap (λ (b : BesideView). b.jobs) tidy.beside

  watched_same : tables.beside.watched ≡ answered.tables.beside.watched
  watched_same = ap (λ (b : BesideView). b.watched) tidy.beside

  idle_tidied : AreIdle answered.tables → AreIdle tables
  idle_tidied = idle_on answered.tables tables tidy.clients jobs_same

  rests_tidied : IsAtRest answered.tables → IsAtRest tables
  rests_tidied = rests_on answered.tables tables tidy.clients jobs_same images_same (ap (λ (b : BesideView). b.none) tidy.beside) watched_same tidy.number

  reads : ReadsSame answered.tables.kv tables.kv
  reads = reads_same answered.tables.kv tables.kv tidy.number tidy.pins tidy.maps

  bases : AllSameBases answered.settings.region (byte_at kind shelf) (byte_at kind shelf) answered.tables.kv
  bases n live i r v s there base = refl

  scans_tidied : (s : Stage) → HasScans kind shelf answered s → HasScans kind shelf tidied s
  scans_tidied = stage_later kind shelf shelf answered tidied refl (λ k f. refl) reads bases tidy.number images_same watched_same
      (ap (λ (b : BesideView). b.gc.running) tidy.beside) (ap (λ (b : BesideView). b.gc.older) tidy.beside) (ap (λ (b : BesideView). b.gc.newer) tidy.beside)

  pub tidied_idle : (s : Stage) → IsIdleAt kind shelf answered s → IsIdleAt kind shelf tidied s
  tidied_idle s h = record { idle = idle_tidied h.idle; scans = scans_tidied s h.scans }

  pub tidied_stage : (s : Stage) → IsAtStage kind shelf answered s → IsAtStage kind shelf tidied s
  tidied_stage s h = record { rests = rests_tidied h.rests; scans = scans_tidied s h.scans }

  pub tidied_kept : (k : ℕ) → LeavesKept kind shelf answered k → LeavesKept kind shelf tidied k
  tidied_kept k h p on below =
      let was = h p on (subst (λ (b : BesideView). p.at < mark_of b.gc.older p.server p.file) tidy.beside below) in
      let freed : extents_cover tables.beside.gc.freed p ≡ extents_cover answered.tables.beside.gc.freed p =
      ap (λ (b : BesideView). extents_cover b.gc.freed p) tidy.beside in (
        λ free. names_later kind shelf shelf answered tidied refl (λ j f. refl) reads bases p (was.0 (sym freed ∙ free)),
        λ kept. freed ∙ was.1 (names_before kind shelf shelf answered tidied refl (λ j f. refl) reads bases p kept),
      )

  pub tidied_collected : (k : ℕ) → HasCollected kind shelf answered k → HasCollected kind shelf tidied k
  tidied_collected k h = record {
    rests = rests_tidied h.rests;
    left = λ p on file below. subst (λ (b : BesideView). (extents_cover b.gc.freed p ≡ true) ⊎ MapNames answered.settings.region (byte_at kind shelf)
        (metadata_now tables.kv) p) (sym tidy.beside)
        (subst (λ (w : Map). (extents_cover answered.tables.beside.gc.freed p ≡ true) ⊎ MapNames answered.settings.region (byte_at kind shelf) w p)
        (sym (now_same answered.tables tables tidy)) (h.left p on file below));
  }
