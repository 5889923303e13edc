-- A collection of a quiet ending: of what lies below the marks of the first of the last two scans it leaves just what is named.
use Rattle.wtf_core.proofs.Common.{and_from, or_left, or_right, eq-eqb, lt-ltb, Place, Range, StoreKind, byte_at, size_in, Span, Store, Key, Value, Answer}
use Rattle.wtf_core.proofs.Common.{Event, Told, Map, metadata_at, extents_cover, AreGarbage, CountsFreed, lie_in, ScanView, GcView, mark_of, is_garbage}
use Rattle.wtf_core.proofs.Common.{length_in, NamesNone, KeepsStore, AreSound, metadata_now, rests_alone, MapNames, IsAtRest, ScannedTwice, IsKeptByte}
use Rattle.wtf_core.proofs.Common.{IsAtStage, FoundOnlyKept, LeavesKept, HasCollected, CoreView, ◌≡◌, ◌⊎◌, ◌<◌, ℕ, Bool, true, false, not, ◌||◌, ◌&&◌, cond}
use Rattle.wtf_core.proofs.Common.{nat_eq, nat_lt, List, None, refl, sym, ◌∙◌, ap, subst, inl, inr, ⊎_elim, true≢false, arith, with_gc}
use Rattle.wtf_core.proofs.Carried.{ReadsSame, reads_same, size_same, names_later, names_before}
use Rattle.wtf_core.proofs.Unnamed.{map_none}
use Rattle.wtf_core.proofs.Moving.{some_is, none_some, InPlace, SameRest, rest_of, long_on, Moves, Leaves, rest_later, steady}

module _ {S : Type 0} (kind : StoreKind S) (t : Span S) (old new : CoreView) (place : InPlace kind t old new) where
  abbrev told : Told
  told = byte_at kind t.before

  abbrev later : Told
  later = byte_at kind t.after

  -- ---- garbage is freed, or some of it
  module _ (keeps : KeepsStore old.tables new.tables) {counted : List (ℕ × Range)}
      (scans : CountsFreed old.tables.beside.gc new.tables.beside.gc counted) where
    abbrev gc : GcView
    gc = old.tables.beside.gc

    free_rest : SameRest old.tables new.tables
    free_rest = rest_of old.tables new.tables (with_gc old.tables.beside new.tables.beside.gc) keeps.keeps.clients keeps.keeps.beside
        (ap (λ (s : Store Key Value). s.number) keeps.kv)

    free_same : ReadsSame old.tables.kv new.tables.kv
    free_same = reads_same old.tables.kv new.tables.kv (ap (λ (s : Store Key Value). s.number) keeps.kv) (ap (λ (s : Store Key Value). s.pins) keeps.kv)
        (λ n live. ap (λ (s : Store Key Value). metadata_at s n) keeps.kv)

    pub frees_move : (k : ℕ) (a : Answer) → Moves kind t old new (Event.Collect k) a
    frees_move k a = steady kind t old new place (Event.Collect k) a (λ s next is. some_is s next is) free_same free_rest
        (record { running = scans.running; older = scans.older; newer = scans.newer })
        (λ p here. scans.freed p ∙ or_left (extents_cover gc.freed p) (lie_in counted p) here)

    kept_later : (p : Place) → IsKeptByte kind t.before old p → IsKeptByte kind t.after new p
    kept_later = names_later kind t.before t.after old new place.settings (long_on kind t old new place) free_same place.same

    kept_before : (p : Place) → IsKeptByte kind t.after new p → IsKeptByte kind t.before old p
    kept_before = names_before kind t.before t.after old new place.settings (long_on kind t old new place) free_same place.same

    -- all of it is
    module _ (sound : AreSound old.tables) (k : ℕ) (ranges : List (ℕ × Range)) (are : AreGarbage gc k ranges)
        (counts : (p : Place) → extents_cover new.tables.beside.gc.freed p ≡ (extents_cover gc.freed p || lie_in ranges p))
        (unnamed : NamesNone old.settings.region told (is_garbage gc) old.tables)
        (gone : NamesNone old.settings.region told (extents_cover gc.freed) old.tables) where
      three_false : (a b c : Bool) → a ≡ false → b ≡ false → c ≡ false → not (a || (b || c)) ≡ true
      three_false a b c one two three = ap (λ (x : Bool). not (x || (b || c))) one ∙ ap (λ (x : Bool). not (x || c)) two ∙ ap not three

      -- a byte below the marks that no scan has found was freed before, or is garbage
      left_by : FoundOnlyKept kind t.before old → (p : Place) → p.server ≡ k → nat_lt p.at (mark_of gc.older p.server p.file) ≡ true → (a b c : Bool)
          → extents_cover gc.older.found p ≡ a → extents_cover gc.newer.found p ≡ b → extents_cover gc.freed p ≡ c
          → (extents_cover new.tables.beside.gc.freed p ≡ true) ⊎ IsKeptByte kind t.before old p
      left_by found p on below true b c one two three = inr (found.older p one)
      left_by found p on below false true c one two three = inr (found.newer p two)
      left_by found p on below false false true one two three = inl (counts p ∙ or_left (extents_cover gc.freed p) (lie_in ranges p) three)
      left_by found p on below false false false one two three =
          let garbage : is_garbage gc p ≡ true =
          and_from (nat_lt p.at (mark_of gc.older p.server p.file))
          (not (extents_cover gc.older.found p || (extents_cover gc.newer.found p || extents_cover gc.freed p))) below
          (three_false (extents_cover gc.older.found p) (extents_cover gc.newer.found p) (extents_cover gc.freed p) one two three) in
          inl (counts p ∙ or_right (extents_cover gc.freed p) (lie_in ranges p)
          (are.exact p ∙ and_from (nat_eq p.server k) (is_garbage gc p) (eq-eqb p.server k on) garbage))

      left_of : FoundOnlyKept kind t.before old → (p : Place) → p.server ≡ k → p.at < mark_of gc.older p.server p.file
          → (extents_cover new.tables.beside.gc.freed p ≡ true) ⊎ IsKeptByte kind t.before old p
      left_of found p on below =
          left_by found p on (lt-ltb p.at (mark_of gc.older p.server p.file) below) (extents_cover gc.older.found p) (extents_cover gc.newer.found p)
          (extents_cover gc.freed p) refl refl refl

      -- no byte that is named was freed, and none is garbage
      kept_stays : (p : Place) → IsKeptByte kind t.before old p → extents_cover new.tables.beside.gc.freed p ≡ false
      kept_stays p h =
          let w : Map = metadata_at old.tables.kv h.number in
          let was : extents_cover gc.freed p ≡ false = map_none (extents_cover gc.freed) old.settings.region told w (gone.live h.number h.live) p h.named in
          let garbage : is_garbage gc p ≡ false = map_none (is_garbage gc) old.settings.region told w (unnamed.live h.number h.live) p h.named in
          counts p ∙ ap (λ (b : Bool). b || lie_in ranges p) was ∙ are.exact p ∙ neither (nat_eq p.server k) (is_garbage gc p) garbage
        where
          neither : (a b : Bool) → b ≡ false → (a && b) ≡ false
          neither true b none = none
          neither false b none = refl

      leaves_kept : FoundOnlyKept kind t.before old → LeavesKept kind t.after new k
      leaves_kept found p on below = (
        λ free. ⊎_elim
            (λ freed. absurd (true≢false (sym freed ∙ free)))
            (λ h. kept_later p h)
            (left_of found p on (subst (λ (s : ScanView). p.at < mark_of s p.server p.file) scans.older below)),
        λ h. kept_stays p (kept_before p h),
      )

      -- where no other number can be read, what is named is named by the map now
      alone : (rests : IsAtRest old.tables) → gc.running ≡ None → (p : Place) → IsKeptByte kind t.after new p
          → MapNames new.settings.region later (metadata_now new.tables.kv) p
      alone rests none p h =
          let number : h.number ≡ new.tables.kv.number =
          rests_alone old.tables sound rests.idle.clients rests.idle.jobs rests.image (λ r is. absurd (none_some gc.running r none is)) rests.watched h.number
          (free_same.back h.number h.live) ∙ sym free_rest.number in
          subst (λ (n : ℕ). MapNames new.settings.region later (metadata_at new.tables.kv n) p) number h.named

      collect_on : IsAtStage kind t.before old ScannedTwice → HasCollected kind t.after new k
      collect_on at = record {
        rests = rest_later old.tables new.tables free_rest at.rests;
        left = λ p on file below.
            let mark : mark_of gc.older p.server p.file ≡ size_in kind t.after k p.file =
            at.scans.1.marks p.server p.file ∙ ap (λ (j : ℕ). length_in kind t.before j p.file) on
            ∙ ap (λ (b : Bool). cond b (size_in kind t.before k p.file) 0) (lt-ltb p.file 8 file)
            ∙ sym (size_same kind t.before t.after place.many place.lengths k p.file) in
            ⊎_elim
            (λ freed. inl freed)
            (λ h. inr (alone at.rests at.scans.0 p (kept_later p h)))
            (left_of (record { older = at.scans.1.only; newer = at.scans.2.only }) p on (omega (arith, below, mark)));
      }

      pub leaves : Leaves kind t old new k
      leaves = record { kept = leaves_kept; collected = collect_on }
