-- What later states of the stores leave of slices, of what these decode to, and of the lists that are remembered.
use Rattle.std.proofs.Common.{◌≡◌, ℕ, ◌+◌, ◌<◌, ◌≤◌, ◌&&◌, Bool, true, false, cond, nat_eq, nat_le, nat_lt, List, [], ◌∷◌, length, refl, sym}
use Rattle.std.proofs.Common.{ap, ◌∙◌, subst, inl, inr}
use Rattle.std.specs.Prelude.{not}
use Rattle.std.specs.List.{All, list_all}
use Rattle.std.proofs.lemmas.Bool.{and_parts, and_from, cases_eq, cases_lt, eq-eqb, ne_eqb, le-leb, lt-ltb}
use Rattle.std.proofs.lemmas.List.Elements.{All-nil, All-cons, All-head, All-tail, All-weaker}
use Rattle.std.proofs.lemmas.List.Sums.{AllPass-from_list_all}
use Rattle.wtf_base.specs.declared.settings.Settings.{Settings}
use Rattle.wtf_base.specs.declared.slice.Slice.{Slice}
use Rattle.wtf_base.specs.Slices.{len_of}
use Rattle.wtf_base.specs.Places.{places_of}
use Rattle.wtf_dev.specs.Store.{Range, Outside, StoreKind, KindLaws}
use Rattle.wtf_dev.specs.Each.{on_server, EachFollows}
use Rattle.wtf_overlay.specs.Origin.{Place}
use Rattle.wtf_overlay.specs.Meaning.{meaning, tell_the_same}
use Rattle.wtf_overlay.specs.declared.part.Entry.{Entry}
use Rattle.wtf_overlay.specs.declared.part.Part.TheVariants.{Held}
use Rattle.wtf_replica.specs.Bytes.{byte_at, shown_byte, IsPlaceInside}
use Rattle.wtf_replica.proofs.Bytes.{byte_at-kept, shown_byte-told, shown_byte-same}
use Rattle.wtf_meta.specs.Bytes.{EntryBytes, SliceBytes}
use Rattle.wtf_meta.specs.Contents.{Told, SliceTells}
use Rattle.wtf_meta.proofs.Telling.{TellsOn}
use Rattle.wtf_meta.proofs.Weaker.{part_stays, entries_stay}
use Rattle.wtf_region.specs.Apart.{lies_in, lies_apart, are_apart, with_ranges}
use Rattle.wtf_region.specs.Cached.{Remembered, CacheInside, CacheTrue}
use Rattle.wtf_region.specs.Inside.{is_inside}
use Rattle.wtf_region.proofs.InsideLaws.{places_from, inside_stays}

All-both : {X : Type 0} (P Q R : X → Type 0) → ((x : X) → P x → Q x → R x) → (xs : List X) → All P xs → All Q xs → All R xs
All-both P Q R step [] p q = All-nil R
All-both P Q R step (x ∷ xs) p q =
    All-cons R x xs (step x (All-head P x xs p) (All-head Q x xs q)) (All-both P Q R step xs (All-tail P x xs p) (All-tail Q x xs q))

-- a place that does not lie in a range of its server and file lies before or behind it
missed : (p : Place) (r : ℕ × Range) → not (lies_in p r) ≡ true → p.server ≡ r.0 → p.file ≡ r.1.file → r.1.at ≤ p.at → r.1.at + r.1.len ≤ p.at
missed p r h server file from = elim (cases_lt p.at (r.1.at + r.1.len)) [
  | inl within ↦
      let there : lies_in p r ≡ true =
      and_from (nat_eq p.server r.0) (nat_eq p.file r.1.file && (nat_le r.1.at p.at && nat_lt p.at (r.1.at + r.1.len))) (eq-eqb p.server r.0 server)
      (and_from (nat_eq p.file r.1.file) (nat_le r.1.at p.at && nat_lt p.at (r.1.at + r.1.len)) (eq-eqb p.file r.1.file file)
      (and_from (nat_le r.1.at p.at) (nat_lt p.at (r.1.at + r.1.len)) (le-leb r.1.at p.at from) (lt-ltb p.at (r.1.at + r.1.len) within))) in
      let bad : false ≡ true = sym (ap not there) ∙ h in absurd (cc)
  | inr past ↦ past
]

-- a place apart from ranges lies outside of those of its server
outside_from : (p : Place) (ranges : List (ℕ × Range)) → lies_apart ranges p ≡ true → Outside p.file p.at (on_server p.server ranges)
outside_from p [] h = tt
outside_from p (r ∷ rs) h =
    let both = and_parts (not (lies_in p r)) (lies_apart rs p) h in
    elim (cases_eq r.0 p.server) [
      | inl is ↦ subst (λ b. Outside p.file p.at (cond b (r.1 ∷ on_server p.server rs) (on_server p.server rs))) (sym (eq-eqb r.0 p.server is))
          ((λ same from. missed p r both.0 (sym is) same from), outside_from p rs both.1)
      | inr ne ↦ subst (λ b. Outside p.file p.at (cond b (r.1 ∷ on_server p.server rs) (on_server p.server rs))) (sym (ne_eqb r.0 p.server ne))
          (outside_from p rs both.1)
    ]

all_outside : (ranges : List (ℕ × Range)) (qs : List Place) → are_apart ranges qs ≡ true
    → All (λ (q : Place). Outside q.file q.at (on_server q.server ranges)) qs
all_outside ranges qs h =
    All-weaker (λ (q : Place). lies_apart ranges q ≡ true) (λ (q : Place). Outside q.file q.at (on_server q.server ranges)) (λ q. outside_from q ranges) qs
    (AllPass-from_list_all (lies_apart ranges) qs h)

place_parts : (before ranges : List (ℕ × Range)) (p : Place) → lies_apart (with_ranges before ranges) p ≡ true
    → (lies_apart before p ≡ true) × (lies_apart ranges p ≡ true)
place_parts before [] p h = (h, refl)
place_parts before (r ∷ rs) p h =
    let parts = place_parts (r ∷ before) rs p h in
    let here = and_parts (not (lies_in p r)) (lies_apart before p) parts.0 in
    (here.1, and_from (not (lies_in p r)) (lies_apart rs p) here.0 parts.1)

places_parts : (before ranges : List (ℕ × Range)) (qs : List Place) → are_apart (with_ranges before ranges) qs ≡ true
    → (are_apart before qs ≡ true) × (are_apart ranges qs ≡ true)
places_parts before ranges [] h = (refl, refl)
places_parts before ranges (q ∷ qs) h =
    let both = and_parts (lies_apart (with_ranges before ranges) q) (are_apart (with_ranges before ranges) qs) h in
    let here = place_parts before ranges q both.0 in
    let rest = places_parts before ranges qs both.1 in
    (and_from (lies_apart before q) (are_apart before qs) here.0 rest.0, and_from (lies_apart ranges q) (are_apart ranges qs) here.1 rest.1)

-- a slice that lies apart from ranges and from more lies apart from each
pub apart_parts : (before ranges : List (ℕ × Range)) (s : Slice) → SliceBytes (are_apart (with_ranges before ranges)) s
    → SliceBytes (are_apart before) s × SliceBytes (are_apart ranges) s
apart_parts before ranges s h =
    (λ i below. (places_parts before ranges (places_of s i) (h i below)).0, λ i below. (places_parts before ranges (places_of s i) (h i below)).1)

none_apart : (qs : List Place) → are_apart [] qs ≡ true
none_apart [] = refl
none_apart (q ∷ qs) = and_from (lies_apart [] q) (are_apart [] qs) refl (none_apart qs)

-- and each slice apart from none
pub apart_none : (s : Slice) → SliceBytes (are_apart []) s
apart_none s = λ i below. none_apart (places_of s i)

-- bytes mean the same where each place tells the same
all_same : (f g : Place → Bool) (qs : List Place) → All (λ q. g q ≡ f q) qs → list_all g qs ≡ list_all f qs
all_same f g [] h = refl
all_same f g (q ∷ qs) h = rw (All-head (λ q. g q ≡ f q) q qs h, all_same f g qs (All-tail (λ q. g q ≡ f q) q qs h)) refl

meaning_same : (told now : Told) (qs : List Place) → All (λ q. now q ≡ told q) qs → meaning now qs ≡ meaning told qs
meaning_same told now [] h = refl
meaning_same told now (q ∷ qs) h =
    let first : now q ≡ told q = All-head (λ q. now q ≡ told q) q qs h in
    let rest : list_all (λ p. tell_the_same (now q) (now p)) qs ≡ list_all (λ p. tell_the_same (told q) (told p)) qs =
    all_same (λ p. tell_the_same (told q) (told p)) (λ p. tell_the_same (now q) (now p)) qs
    (All-weaker (λ p. now p ≡ told p) (λ p. tell_the_same (now q) (now p) ≡ tell_the_same (told q) (told p)) (λ p e. rw (first, e) refl) qs
    (All-tail (λ q. now q ≡ told q) q qs h)) in
    rw (rest, first) refl

-- what was told is told still while nothing is punched
pub tells_on : {S : Type 0} {kind : StoreKind S} → KindLaws kind → {old new : List S} → EachFollows kind old new []
    → TellsOn (byte_at kind old) (byte_at kind new)
tells_on laws each p byte told = byte_at-kept laws each p byte tt told

-- and what is told is what a read gives
pub shows_told : {S : Type 0} {kind : StoreKind S} → KindLaws kind → (shelf : List S) → TellsOn (byte_at kind shelf) (shown_byte kind shelf)
shows_told laws shelf p byte told = shown_byte-told laws shelf p byte told

module _ {S : Type 0} {kind : StoreKind S} (laws : KindLaws kind) {old new : List S} {punched : List (ℕ × Range)} (follows : EachFollows kind old new punched)
    (settings : Settings) (enough : settings.servers ≤ length old) where
  -- each byte of a slice that lies inside the stores and was not punched is read as it was
  shown_same : (s : Slice) → SliceBytes (is_inside kind old settings) s → SliceBytes (are_apart punched) s → (i : ℕ) → i < len_of s
      → meaning (shown_byte kind new) (places_of s i) ≡ meaning (shown_byte kind old) (places_of s i)
  shown_same s inside apart i below = meaning_same (shown_byte kind old) (shown_byte kind new) (places_of s i)
      (All-both (IsPlaceInside kind old) (λ (q : Place). Outside q.file q.at (on_server q.server punched)) (λ q. shown_byte kind new q ≡ shown_byte kind old q)
      (λ q within out. shown_byte-same laws follows q out within) (places_of s i)
      (places_from kind old settings (places_of s i) enough (inside i below)) (all_outside punched (places_of s i) (apart i below)))

  -- so what a read of it gives now, one gave
  pub SliceShows-back : (s : Slice) (bytes : List ℕ) → SliceBytes (is_inside kind old settings) s → SliceBytes (are_apart punched) s
      → SliceTells (shown_byte kind new) s bytes → SliceTells (shown_byte kind old) s bytes
  SliceShows-back s bytes inside apart h = record { len = h.len; tells = λ i below. sym (shown_same s inside apart i below) ∙ h.tells i below }

  -- what lies inside the stores does so still
  pub slice_stays : (s : Slice) → SliceBytes (is_inside kind old settings) s → SliceBytes (is_inside kind new settings) s
  slice_stays s h = part_stays (is_inside kind old settings) (is_inside kind new settings) (inside_stays laws follows settings enough) (len_of s) (Held s) h

  pub entries_inside : (es : List Entry) → All (EntryBytes (is_inside kind old settings)) es → All (EntryBytes (is_inside kind new settings)) es
  entries_inside es h = entries_stay (is_inside kind old settings) (is_inside kind new settings) (inside_stays laws follows settings enough) es h

  pub CacheInside-on : (es : Remembered) → CacheInside (is_inside kind old settings) es → CacheInside (is_inside kind new settings) es
  CacheInside-on es h x there = (slice_stays x.0 (h x there).0, entries_inside x.1 (h x there).1)

  -- a cache that was true is true, whatever was appended, and what was punched counts from now on
  pub CacheTrue-on : (b : ℕ) (before : List (ℕ × Range)) (es : Remembered) → CacheInside (is_inside kind old settings) es
      → CacheTrue (shown_byte kind old) b before es
      → CacheTrue (shown_byte kind new) b (with_ranges before punched) es
  CacheTrue-on b before es inside was x there apart bytes tells =
      let parts = apart_parts before punched x.0 apart in
      was x there parts.0 bytes (SliceShows-back x.0 bytes (inside x there).0 parts.1 tells)
