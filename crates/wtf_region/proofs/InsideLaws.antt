-- Laws of bytes that lie inside the stores: they stay there, their slices can be read, and what is stored lies there.
use Rattle.std.proofs.Common.{◌≡◌, ◌≢◌, ℕ, ◌+◌, ◌<◌, ◌≤◌, ◌&&◌, Bool, true, false, nat_lt, List, [], ◌∷◌, length, get_or, take, map, Option, Some, refl, sym}
use Rattle.std.proofs.Common.{ap, ◌∙◌, subst, arith, inl, inr, zero, suc}
use Rattle.std.specs.Prelude.{slice_get}
use Rattle.std.specs.List.{All, Contains, list_all}
use Rattle.std.proofs.lemmas.Bool.{and_parts, and_from, ltb-true, lt-ltb}
use Rattle.std.proofs.lemmas.List.Elements.{All-nil, All-cons, All-head, All-tail, All-weaker}
use Rattle.std.proofs.lemmas.List.Sums.{AllPass-from_list_all}
use Rattle.std.proofs.lemmas.List.{length-map, get_or-map}
use Rattle.std.proofs.lemmas.Option.{slice_get-get_or, slice_get_within, get_or_from_slice_get}
use Rattle.std.proofs.lemmas.List.Folds.{list_all_more, list_all_at}
use Rattle.wtf_base.specs.declared.pointer.Pointer.{Pointer}
use Rattle.wtf_base.specs.declared.settings.Settings.{Settings}
use Rattle.wtf_base.specs.declared.slice.Slice.{Slice}
use Rattle.wtf_base.specs.Slices.{pointers_of, len_of}
use Rattle.wtf_base.specs.Places.{places_of, place_in}
use Rattle.wtf_dev.specs.Each.{EachFollows}
use Rattle.wtf_dev.specs.Store.{Range, StoreKind, KindLaws}
use Rattle.wtf_overlay.specs.declared.part.Part.{Part}
use Rattle.wtf_overlay.specs.declared.part.Part.TheVariants.{Zero, Held}
use Rattle.wtf_overlay.specs.declared.part.Piece.{Piece}
use Rattle.wtf_overlay.specs.Lengths.{HasLength}
use Rattle.wtf_overlay.specs.Origin.{Place}
use Rattle.wtf_replica.specs.Bytes.{IsPlaceInside}
use Rattle.wtf_replica.specs.Copies.{IsInside, IsReadable, IsStored, SameBeside, servers_of}
use Rattle.wtf_replica.specs.Outs.{LeavesOut, SameFrom}
use Rattle.wtf_replica.specs.Spans.{Span}
use Rattle.wtf_replica.proofs.Bytes.{inside_places, place_inside_stays, places_inside}
use Rattle.wtf_ring.specs.Orders.{IsOrder}
use Rattle.wtf_ring.specs.Points.{PlaceView}
use Rattle.wtf_overlay.specs.declared.part.Entry.{Entry}
use Rattle.wtf_base.proofs.Elements.{All-unmap}
use Rattle.wtf_replica.specs.Inside.{size_in as length_in}
use Rattle.wtf_replica.proofs.InsideLaws.{slice_from, slice_to}
use Rattle.wtf_meta.specs.Bytes.{PartBytes, EntryBytes, PiecesBytes, SliceBytes}
use Rattle.wtf_region.specs.declared.dev.Dev.{Dev}
use Rattle.wtf_region.specs.Devs.{IsSoundDev, stores, inside_of}
use Rattle.wtf_region.specs.Inside.{size_in, is_place_inside, is_inside, IsOnServers, part_lies_inside, list_lies_inside}
use Rattle.wtf_region.specs.Showing.{IsReadablePart, AreReadable}

-- a place that passes the test lies inside
pub place_from : {S : Type 0} (kind : StoreKind S) (shelf : List S) (settings : Settings) (p : Place) → settings.servers ≤ length shelf
    → is_place_inside kind shelf settings p ≡ true
    → (p.server < settings.servers) × IsPlaceInside kind shelf p
place_from {S} kind shelf settings p enough h =
    let a = and_parts (nat_lt p.server settings.servers) (nat_lt p.file 8 && nat_lt p.at (size_in kind (slice_get shelf p.server) p.file)) h in
    let b = and_parts (nat_lt p.file 8) (nat_lt p.at (size_in kind (slice_get shelf p.server) p.file)) a.1 in
    let known : p.server < settings.servers = ltb-true p.server settings.servers a.0 in
    let there : p.server < length shelf = omega (arith, known, enough) in (
      known,
      (
        there,
        ltb-true p.file 8 b.0,
        λ d.
            subst (λ (o : Option S). p.at < size_in kind o p.file) (slice_get-get_or shelf p.server d there)
            (ltb-true p.at (size_in kind (slice_get shelf p.server) p.file) b.1),
      ),
    )

-- and one that lies inside, on a server of the settings, passes it
pub place_to : {S : Type 0} (kind : StoreKind S) (shelf : List S) (settings : Settings) (p : Place) (d : S) → p.server < settings.servers
    → IsPlaceInside kind shelf p
    → is_place_inside kind shelf settings p ≡ true
place_to {S} kind shelf settings p d known inside =
    and_from (nat_lt p.server settings.servers) (nat_lt p.file 8 && nat_lt p.at (size_in kind (slice_get shelf p.server) p.file))
    (lt-ltb p.server settings.servers known)
    (and_from (nat_lt p.file 8) (nat_lt p.at (size_in kind (slice_get shelf p.server) p.file)) (lt-ltb p.file 8 inside.1)
    (lt-ltb p.at (size_in kind (slice_get shelf p.server) p.file)
    (subst (λ (o : Option S). p.at < size_in kind o p.file) (sym (slice_get-get_or shelf p.server d inside.0)) (inside.2 d))))

someone : {S : Type 0} (xs : List S) (k : ℕ) → k < length xs → S
someone [] k h = absurd (omega (arith, h))
someone (x ∷ xs) k h = x

-- the places of a byte
pub places_from : {S : Type 0} (kind : StoreKind S) (shelf : List S) (settings : Settings) (qs : List Place) → settings.servers ≤ length shelf
    → is_inside kind shelf settings qs ≡ true
    → All (IsPlaceInside kind shelf) qs
places_from kind shelf settings [] enough h = All-nil (IsPlaceInside kind shelf)
places_from kind shelf settings (q ∷ qs) enough h =
    let both = and_parts (is_place_inside kind shelf settings q) (list_all (is_place_inside kind shelf settings) qs) h in
    All-cons (IsPlaceInside kind shelf) q qs (place_from kind shelf settings q enough both.0).1 (places_from kind shelf settings qs enough both.1)

-- what lies inside the stores lies inside later
pub inside_stays : {S : Type 0} {kind : StoreKind S} → KindLaws kind → {old new : List S} {punched : List (ℕ × Range)} → EachFollows kind old new punched
    → (settings : Settings)
    → settings.servers ≤ length old → (qs : List Place) → is_inside kind old settings qs ≡ true → is_inside kind new settings qs ≡ true
inside_stays laws e settings enough [] h = refl
inside_stays {kind = kind} laws {old = old} {new = new} e settings enough (q ∷ qs) h =
    let both = and_parts (is_place_inside kind old settings q) (list_all (is_place_inside kind old settings) qs) h in
    let was = place_from kind old settings q enough both.0 in
    let there : q.server < length new = omega (arith, was.1.0, e.same_length) in
    and_from (is_place_inside kind new settings q) (list_all (is_place_inside kind new settings) qs)
    (place_to kind new settings q (someone new q.server there) was.0 (place_inside_stays laws e q was.1)) (inside_stays laws e settings enough qs both.1)

-- the servers of places that lie inside the stores, and of a slice whose bytes do, are those of the settings
places_known : {S : Type 0} (kind : StoreKind S) (shelf : List S) (settings : Settings) → settings.servers ≤ length shelf → (qs : List Place)
    → is_inside kind shelf settings qs ≡ true → All (λ (q : Place). q.server < settings.servers) qs
places_known kind shelf settings enough qs h =
    All-weaker (λ (q : Place). is_place_inside kind shelf settings q ≡ true) (λ (q : Place). q.server < settings.servers)
    (λ q at. (place_from kind shelf settings q enough at).0) qs
    (AllPass-from_list_all (is_place_inside kind shelf settings) qs h)

pub slice_known : {S : Type 0} (kind : StoreKind S) (shelf : List S) (settings : Settings) (s : Slice) → settings.servers ≤ length shelf → 0 < len_of s
    → SliceBytes (is_inside kind shelf settings) s → IsOnServers settings.servers s
slice_known kind shelf settings s enough some h =
    All-unmap (λ (q : Place). q.server < settings.servers) (place_in 0) (pointers_of s) (places_known kind shelf settings enough (places_of s 0) (h 0 some))

-- what leaves the servers that have no copy of such a slice leaves those that are not of the settings
pub past_beside : {S : Type 0} (n : ℕ) (s : Slice) (old new : List S) → IsOnServers n s → SameBeside (pointers_of s) old new → SameFrom n old new
past_beside n s old new known beside k d low = beside k d
    (All-weaker (λ (p : Pointer). p.server.0 < n) (λ (p : Pointer). p.server.0 ≢ k)
    (λ p below same. omega (arith, below, same, low)) (pointers_of s) known)

pub part_past : {S : Type 0} (kind : StoreKind S) (dev : Dev S) (part : Part) (s : Slice) (new : List S) → part ≡ Held s → IsReadablePart kind dev part
    → SameBeside (pointers_of s) (stores dev) new → SameFrom dev.settings.servers (stores dev) new
part_past kind dev part s new held readable beside =
    past_beside dev.settings.servers s (stores dev) new (subst (λ (x : Part). IsReadablePart kind dev x) held readable).1 beside

part_readable : {S : Type 0} (kind : StoreKind S) (dev : Dev S) (n : ℕ) (part : Part) → IsSoundDev kind dev → 0 < n → HasLength n part
    → PartBytes (inside_of kind dev) n part → IsReadablePart kind dev part
part_readable kind dev n Zero sound some len h = tt
part_readable kind dev n (Held s) sound some len h =
    let has : 0 < len_of s = omega (arith, some, len) in
    let bytes : SliceBytes (inside_of kind dev) s = λ i within. h i (omega (arith, within, len)) in (
      λ k d below. inr (inside_places kind (stores dev) s has
          (λ i within. places_from kind (stores dev) dev.settings (places_of s i) sound.shelf (bytes i within)) k d below),
      slice_known kind (stores dev) dev.settings s sound.shelf has bytes,
    )

-- pieces whose bytes lie inside the stores can be read
pub readable_from : {S : Type 0} (kind : StoreKind S) (dev : Dev S) (ps : List Piece) → IsSoundDev kind dev → PiecesBytes (inside_of kind dev) ps
    → AreReadable kind dev ps
readable_from kind dev ps sound h = λ k d below. let p = get_or ps k d in part_readable kind dev p.len p.part sound p.positive p.held (h k d below)

places_to : {S : Type 0} (kind : StoreKind S) (shelf : List S) (settings : Settings) (i : ℕ) (ps : List Pointer)
    → All (λ (p : Pointer). p.server.0 < settings.servers) ps
    → All (IsPlaceInside kind shelf) (map (place_in i) ps) → is_inside kind shelf settings (map (place_in i) ps) ≡ true
places_to kind shelf settings i [] known inside = refl
places_to kind shelf settings i (p ∷ ps) known inside =
    let here = All-head (IsPlaceInside kind shelf) (place_in i p) (map (place_in i) ps) inside in
    and_from (is_place_inside kind shelf settings (place_in i p)) (is_inside kind shelf settings (map (place_in i) ps))
    (place_to kind shelf settings (place_in i p) (someone shelf p.server.0 here.0) (All-head (λ (q : Pointer). q.server.0 < settings.servers) p ps known) here)
    (places_to kind shelf settings i ps (All-tail (λ (q : Pointer). q.server.0 < settings.servers) p ps known)
    (All-tail (IsPlaceInside kind shelf) (place_in i p) (map (place_in i) ps) inside))

-- the bytes of a slice that was stored lie inside the stores
pub slice_inside : {S : Type 0} (kind : StoreKind S) (shelf : List S) (settings : Settings) (s : Slice) → IsInside kind shelf s → IsOnServers settings.servers s
    → PartBytes (is_inside kind shelf settings) (len_of s) (Held s)
slice_inside kind shelf settings s inside known = λ i below. places_to kind shelf settings i (pointers_of s) known (places_inside kind shelf s i inside below)

-- an order of so many servers names none behind them
pub unnamed : (n : ℕ) (servers : List ℕ) (k : ℕ) → IsOrder n servers → n ≤ k → Contains servers k → ⊥
unnamed n servers k order low c = omega (arith, subst (λ (m : ℕ). m < n) c.2 (order.known c.0 k c.1), low)

-- of an order without some servers each was in it
leaves_within : (Out : ℕ → Type 0) (P : ℕ → Type 0) (order taken : List ℕ) → LeavesOut Out order taken → All P order → All P taken
leaves_within Out P [] [] h all = All-nil P
leaves_within Out P [] (k ∷ taken) h all = absurd h
leaves_within Out P (j ∷ order) [] h all = All-nil P
leaves_within Out P (j ∷ order) (k ∷ taken) h all = elim h [
  | inl same ↦ All-cons P k taken (subst P same.0 (All-head P j order all)) (leaves_within Out P order taken same.1 (All-tail P j order all))
  | inr out ↦ leaves_within Out P order (k ∷ taken) out.1 (All-tail P j order all)
]

take_within : (P : ℕ → Type 0) (n : ℕ) (xs : List ℕ) → All P xs → All P (take n xs)
take_within P zero xs all = All-nil P
take_within P (suc n) [] all = All-nil P
take_within P (suc n) (x ∷ xs) all = All-cons P x (take n xs) (All-head P x xs all) (take_within P n xs (All-tail P x xs all))

-- a slice that was stored lies on servers of its place
pub stored_on : {S : Type 0} {kind : StoreKind S} {t : Span S} {replicas : ℕ} {place : PlaceView} {bytes : List ℕ} {s : Slice} (n : ℕ)
    → IsStored kind t replicas place bytes s
    → All (λ k. k < n) place.servers → IsOnServers n s
stored_on {place = place} {s = s} n stored all = λ j d below.
    let server : Pointer → ℕ = λ p. p.server.0 in
    let k = server (get_or (pointers_of s) j d) in
    let inside : j < length (servers_of s) = omega (arith, below, length-map (pointers_of s) server) in
    let named : Contains (servers_of s) k = (j, inside, get_or-map server (pointers_of s) j d k below) in
    let took = (stored.servers k).0 named in
    subst (λ (m : ℕ). m < n) took.2
    (leaves_within _ (λ m. m < n) (take stored.tried place.servers) stored.took stored.written (take_within (λ m. m < n) stored.tried place.servers all) took.0
    k took.1)

-- a slice that lies inside the stores can be read
pub slice_readable : {S : Type 0} (kind : StoreKind S) (down : ℕ → Bool) (shelf : List S) (s : Slice) → IsInside kind shelf s
    → IsReadable kind down shelf s
slice_readable kind down shelf s inside = λ k d below. inr (inside k d below)

module _ {S : Type 0} (kind : StoreKind S) (shelf : List S) (settings : Settings) (enough : settings.servers ≤ length shelf) where
  abbrev size : ℕ → ℕ → ℕ
  size = length_in kind shelf

  part_inside-from : (n : ℕ) (p : Part) → HasLength n p → part_lies_inside settings.servers size p ≡ true → PartBytes (is_inside kind shelf settings) n p
  part_inside-from n Zero len h = λ i below. refl
  part_inside-from n (Held s) len h =
      let was = slice_from kind shelf settings.servers s enough h in
      subst (λ (m : ℕ). PartBytes (is_inside kind shelf settings) m (Held s)) len (slice_inside kind shelf settings s was.1 was.0)

  -- a list that passes the test names only bytes inside the stores
  pub list_inside-from : (es : List Entry) → list_lies_inside settings.servers size es ≡ true → All (EntryBytes (is_inside kind shelf settings)) es
  list_inside-from [] h = All-nil (EntryBytes (is_inside kind shelf settings))
  list_inside-from (e ∷ es) h =
      let both = and_parts (part_lies_inside settings.servers size e.part) (list_lies_inside settings.servers size es) h in
      All-cons (EntryBytes (is_inside kind shelf settings)) e es (part_inside-from e.len e.part e.held both.0) (list_inside-from es both.1)

  part_inside-to : (n : ℕ) (p : Part) → 0 < n → HasLength n p → PartBytes (is_inside kind shelf settings) n p → part_lies_inside settings.servers size p ≡ true
  part_inside-to n Zero some len h = refl
  part_inside-to n (Held s) some len h =
      slice_to kind shelf settings.servers s
      (All-unmap (λ (q : Place). q.server < settings.servers) (place_in 0) (pointers_of s)
      (places_known kind shelf settings enough (places_of s 0) (h 0 some)))
      (inside_places kind shelf s (omega (arith, some, len))
      (λ i within. places_from kind shelf settings (places_of s i) enough (h i (omega (arith, within, len)))))

  -- and one that names only such bytes passes it
  pub list_inside-to : (es : List Entry) → All (EntryBytes (is_inside kind shelf settings)) es → list_lies_inside settings.servers size es ≡ true
  list_inside-to [] h = refl
  list_inside-to (e ∷ es) h =
      and_from (part_lies_inside settings.servers size e.part) (list_lies_inside settings.servers size es)
      (part_inside-to e.len e.part e.positive e.held (All-head (EntryBytes (is_inside kind shelf settings)) e es h))
      (list_inside-to es (All-tail (EntryBytes (is_inside kind shelf settings)) e es h))

-- one entry more, in a loop over them
pub list_lies-more : (servers : ℕ) (size : ℕ → ℕ → ℕ) (es : List Entry) (i : ℕ) (e : Entry) → slice_get es i ≡ Some e
    → part_lies_inside servers size e.part ≡ true
    → list_lies_inside servers size (take i es) ≡ true → list_lies_inside servers size (take (i + 1) es) ≡ true
list_lies-more servers size es i e is good so_far =
    list_all_more (λ (x : Entry). part_lies_inside servers size x.part) es i e (slice_get_within es i e is)
    ∙ ap (λ b. b && part_lies_inside servers size (get_or es i e).part) so_far
    ∙ ap (λ (x : Entry). part_lies_inside servers size x.part) (get_or_from_slice_get es i e e is) ∙ good

-- and one that is outside
pub list_lies-not : (servers : ℕ) (size : ℕ → ℕ → ℕ) (es : List Entry) (i : ℕ) (e : Entry) → slice_get es i ≡ Some e
    → part_lies_inside servers size e.part ≡ false → list_lies_inside servers size es ≡ false
list_lies-not servers size es i e is bad =
    list_all_at (λ (x : Entry). part_lies_inside servers size x.part) es i e (slice_get_within es i e is)
    (ap (λ (x : Entry). part_lies_inside servers size x.part) (get_or_from_slice_get es i e e is) ∙ bad)
