-- Reading slices of which copies may be lost.
use Rattle.std.proofs.Common.{◌≡◌, ℕ, ◌+◌, ◌-◌, ◌<◌, ◌≤◌, ◌⊎◌, ◌&&◌, ◌||◌, Bool, true, false, nat_lt, nat_le, List, [], ◌∷◌, length, get_or, map, Some, refl}
use Rattle.std.proofs.Common.{sym, ap, ◌∙◌, subst, arith}
use Rattle.std.proofs.Common.{inl, inr}
use Rattle.std.specs.List.{All, list_all}
use Rattle.std.proofs.lemmas.Bool.{and_parts, and_from, or_cases, or_left, or_right, ltb-true, lt-ltb, leb-true, cases_Bool}
use Rattle.std.proofs.lemmas.Grind.{same_number_lists}
use Rattle.std.proofs.lemmas.List.Elements.{All-nil, All-cons, All-head, All-tail, All-weaker}
use Rattle.std.proofs.lemmas.List.Sums.{AllPass-from_list_all}
use Rattle.wtf_base.specs.declared.pointer.Pointer.{Pointer}
use Rattle.wtf_base.specs.declared.settings.Settings.{Settings}
use Rattle.wtf_base.specs.declared.slice.Slice.{Slice}
use Rattle.wtf_base.specs.Slices.{pointers_of, len_of}
use Rattle.wtf_base.specs.Places.{Place, place_in, places_of}
use Rattle.wtf_base.proofs.Elements.{All-unmap}
use Rattle.wtf_base.proofs.Pointers.{pointers-len}
use Rattle.wtf_base.specs.declared.fault.Fault.{Fault}
use Rattle.wtf_base.specs.declared.fault.Fault.TheVariants as fault
use Rattle.wtf_dev.specs.Store.{StoreKind, KindLaws}
use Rattle.wtf_overlay.specs.declared.part.Part.{Part}
use Rattle.wtf_overlay.specs.declared.part.Part.TheVariants.{Zero, Held}
use Rattle.wtf_overlay.specs.declared.part.Entry.{Entry}
use Rattle.wtf_overlay.specs.Lengths.{HasLength}
use Rattle.wtf_overlay.specs.Spilled.{decoded}
use Rattle.wtf_replica.specs.Bytes.{byte_at, HasByteUp, ShowsUp}
use Rattle.wtf_replica.specs.Copies.{IsCopyInside, IsFetched, IsReadable}
use Rattle.wtf_replica.specs.Spans.{Span}
use Rattle.wtf_replica.proofs.Bytes.{fetched_up}
use Rattle.wtf_replica.specs.Inside.{size_in}
use Rattle.wtf_replica.proofs.InsideLaws.{size_in-at}
use Rattle.wtf_meta.specs.Bytes.{PartBytes, EntryBytes, SliceBytes}
use Rattle.wtf_region.specs.declared.dev.Dev.{Dev}
use Rattle.wtf_region.specs.Devs.{GoesOn, stores, is_down_in, between}
use Rattle.wtf_region.specs.Inside.{IsOnServers}
use Rattle.wtf_region.proofs.ListReads.{some_bytes}
use Rattle.wtf_image.specs.Rules.{lies_inside_without}
use Rattle.wtf_healer.specs.Bases.{is_place_left, part_lies, list_lies, UpTells, IsListIn, IsNoListIn, IsListRead, IsListFault}

module _ {S : Type 0} (kind : StoreKind S) (shelf : List S) (settings : Settings) (down : ℕ → Bool) (enough : settings.servers ≤ length shelf) where
  -- a place on a server that is up lies before its end
  place_inside : (q : Place) → is_place_left kind shelf settings down q ≡ true → down q.server ≡ false
      → (q.server < settings.servers) × (q.file < 8) × (q.at < size_in kind shelf q.server q.file)
  place_inside q h up =
      let size : ℕ = size_in kind shelf q.server q.file in
      let a = and_parts (nat_lt q.server settings.servers) (nat_lt q.file 8 && (down q.server || nat_lt q.at size)) h in
      let b = and_parts (nat_lt q.file 8) (down q.server || nat_lt q.at size) a.1 in
      (ltb-true q.server settings.servers a.0, ltb-true q.file 8 b.0, ltb-true q.at size (sym (ap (λ x. x || nat_lt q.at size) up) ∙ b.1))

  copy_readable : (n : ℕ) (p : Pointer) → p.len ≡ n → 0 < n → is_place_left kind shelf settings down (place_in (n - 1) p) ≡ true
      → (down p.server.0 ≡ true) ⊎ IsCopyInside kind shelf p
  copy_readable n p len some h = elim (cases_Bool (down p.server.0)) [
    | inl is ↦ inl is
    | inr up ↦
        let at = place_inside (place_in (n - 1) p) h up in
        let there : p.server.0 < length shelf = omega (arith, at.0, enough) in
        inr (there, at.1, λ d. omega (arith, at.2, size_in-at kind shelf p.server.0 p.file d there, len, some))
  ]

  -- a slice whose bytes lie inside the stores, but for those on servers that are down, can be read
  pub left_readable : (s : Slice) → SliceBytes (λ places. list_all (is_place_left kind shelf settings down) places) s → IsReadable kind down shelf s
  left_readable s h = λ k d below.
      let n = len_of s in
      let some = some_bytes s in
      let P : Place → Bool = is_place_left kind shelf settings down in
      let all = AllPass-from_list_all P (places_of s (n - 1)) (h (n - 1) (omega (arith, some))) in
      let here = All-unmap (λ q. P q ≡ true) (place_in (n - 1)) (pointers_of s) all k d below
      in copy_readable n (get_or (pointers_of s) k d) (pointers-len s k d below) some here

  -- and its copies are on servers of the settings
  pub left_known : (s : Slice) → SliceBytes (λ places. list_all (is_place_left kind shelf settings down) places) s → IsOnServers settings.servers s
  left_known s h =
      let P : Place → Bool = is_place_left kind shelf settings down in
      All-unmap (λ (q : Place). q.server < settings.servers) (place_in 0) (pointers_of s)
      (All-weaker (λ (q : Place). P q ≡ true) (λ (q : Place). q.server < settings.servers)
      (λ q at. ltb-true q.server settings.servers
      (and_parts (nat_lt q.server settings.servers) (nat_lt q.file 8 && (down q.server || nat_lt q.at (size_in kind shelf q.server q.file))) at).0)
      (places_of s 0) (AllPass-from_list_all P (places_of s 0) (h 0 (some_bytes s))))

  -- what passes the test of a whole extent passes it byte by byte
  place_left : (i : ℕ) (p : Pointer) → i < p.len → lies_inside_without down settings.servers (size_in kind shelf) p ≡ true
      → is_place_left kind shelf settings down (place_in i p) ≡ true
  place_left i p below h =
      let size : ℕ = size_in kind shelf p.server.0 p.file in
      let a = and_parts (nat_lt p.server.0 settings.servers) (nat_lt p.file 8 && (down p.server.0 || nat_le (p.at + p.len) size)) h in
      let b = and_parts (nat_lt p.file 8) (down p.server.0 || nat_le (p.at + p.len) size) a.1 in
      and_from (nat_lt p.server.0 settings.servers) (nat_lt p.file 8 && (down p.server.0 || nat_lt (p.at + i) size)) a.0
      (and_from (nat_lt p.file 8) (down p.server.0 || nat_lt (p.at + i) size) b.0
      (elim (or_cases (down p.server.0) (nat_le (p.at + p.len) size) b.1) [
        | inl is ↦ or_left (down p.server.0) (nat_lt (p.at + i) size) is
        | inr fits ↦ or_right (down p.server.0) (nat_lt (p.at + i) size)
            (let le = leb-true (p.at + p.len) size fits in lt-ltb (p.at + i) size (omega (arith, le, below)))
      ]))

  places_left : (i n : ℕ) (ps : List Pointer) → i < n → All (λ (p : Pointer). p.len ≡ n) ps
      → list_all (lies_inside_without down settings.servers (size_in kind shelf)) ps ≡ true
      → list_all (is_place_left kind shelf settings down) (map (place_in i) ps) ≡ true
  places_left i n [] below lens h = refl
  places_left i n (p ∷ ps) below lens h =
      let both = and_parts (lies_inside_without down settings.servers (size_in kind shelf) p)
      (list_all (lies_inside_without down settings.servers (size_in kind shelf)) ps) h in
      let len : p.len ≡ n = All-head (λ (q : Pointer). q.len ≡ n) p ps lens in
      and_from (is_place_left kind shelf settings down (place_in i p)) (list_all (is_place_left kind shelf settings down) (map (place_in i) ps))
      (place_left i p (omega (arith, below, len)) both.0)
      (places_left i n ps below (All-tail (λ (q : Pointer). q.len ≡ n) p ps lens) both.1)

  part_left : (n : ℕ) (part : Part) → HasLength n part → part_lies down settings.servers (size_in kind shelf) part ≡ true
      → PartBytes (λ places. list_all (is_place_left kind shelf settings down) places) n part
  part_left n Zero len h = λ i below. refl
  part_left n (Held s) len h = λ i below. places_left i (len_of s) (pointers_of s) (omega (arith, below, len)) (pointers-len s) h

  pub list_left : (es : List Entry) → list_lies down settings.servers (size_in kind shelf) es ≡ true
      → All (EntryBytes (λ places. list_all (is_place_left kind shelf settings down) places)) es
  list_left [] h = All-nil (EntryBytes (λ places. list_all (is_place_left kind shelf settings down) places))
  list_left (e ∷ es) h =
      let both = and_parts (part_lies down settings.servers (size_in kind shelf) e.part) (list_lies down settings.servers (size_in kind shelf) es) h in
      All-cons (EntryBytes (λ places. list_all (is_place_left kind shelf settings down) places)) e es (part_left e.len e.part e.held both.0)
      (list_left es both.1)

module _ {S : Type 0} {kind : StoreKind S} (laws : KindLaws kind) where
  -- all bytes of a slice that were read are those that its copies on servers that are up tell
  pub fetched_left : {t : Span S} {s : Slice} {out : List ℕ} {k : ℕ} → IsFetched kind t s 0 out k → length out ≡ len_of s
      → (bytes : List ℕ) → UpTells t.down (byte_at kind t.before) s bytes → out ≡ bytes
  fetched_left {t = t} {s = s} {out = out} f whole bytes h =
      let shows : ShowsUp t.down (byte_at kind t.before) s 0 out = fetched_up laws f in
      same_number_lists out bytes (whole ∙ h.len) (λ i below.
      let here : i < len_of s = omega (arith, below, whole) in
      let same : i ≡ 0 + i = omega arith in
      shows i (get_or bytes i 0) below (subst (λ j. HasByteUp t.down (byte_at kind t.before) s j (get_or bytes i 0)) same (h.tells i here)))

  -- a list that bytes are which were read of a slice was read
  pub read_left : {old new : Dev S} → GoesOn kind old new [] → (s : Slice) (out : List ℕ) (k : ℕ) → IsFetched kind (between old new) s 0 out k
      → length out ≡ len_of s → (es : List Entry) → IsListIn kind new out es → IsListRead kind old new s es
  read_left {old = old} {new = new} g s out k f whole es h = record {
    decodes = λ bytes tells. subst (λ (x : List ℕ). decoded old.settings.region x ≡ Some es) (fetched_left f whole bytes tells)
        (subst (λ (st : Settings). decoded st.region out ≡ Some es) g.settings h.decodes);
    inside = list_left kind (stores new) new.settings (is_down_in new) g.sound.shelf es h.lies;
  }

  -- and why it was not
  pub damaged_left : (old new : Dev S) (s : Slice) (out : List ℕ) (k : ℕ) → IsFetched kind (between old new) s 0 out k
      → length out ≡ len_of s → (why : Fault) → IsNoListIn kind new out k why → IsListFault kind old new s why
  damaged_left old new s out k f whole (fault.Damaged j) h = record {
    bytes = out;
    whole = whole;
    read = subst (λ n. IsFetched kind (between old new) s 0 out n) (sym h.0) f;
    bad = h.1;
  }
  damaged_left old new s out k f whole fault.Memory h = tt
  damaged_left old new s out k f whole (fault.Read j) h = absurd h
  damaged_left old new s out k f whole fault.Write h = absurd h
  damaged_left old new s out k f whole (fault.Punch j) h = absurd h
