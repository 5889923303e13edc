-- Where no store failed, a pass over an image of which enough is left does not end with a fault.
use Rattle.std.proofs.Common.{◌≡◌, ◌≢◌, ◌⊎◌, ℕ, zero, suc, ◌+◌, ◌-◌, ◌<◌, ◌≤◌, ◌&&◌, ◌||◌, Bool, true, false, nat_lt, nat_le, nat_eq, cond, List, [], ◌∷◌}
use Rattle.std.proofs.Common.{length, take, get_or, map, Option, None, Some, is_some, refl, sym, ap, ◌∙◌, subst, arith, inl, inr}
use Rattle.std.specs.Prelude.{not, if◌then◌else◌}
use Rattle.std.specs.List.{All, Contains, filter, list_all}
use Rattle.std.proofs.lemmas.Bool.{and_from, or_cases, or_left, or_right, cond-false, lt-ltb, le-leb, eqb-true, false≢true}
use Rattle.std.proofs.lemmas.List.{length-take, get_or-take}
use Rattle.std.proofs.lemmas.List.Elements.{All-head, All-tail, All-weaker, All-contains}
use Rattle.wtf_base.specs.declared.fault.Fault.{Fault}
use Rattle.wtf_base.specs.declared.fault.Fault.TheVariants as fault
use Rattle.wtf_base.specs.declared.pointer.Pointer.{Pointer}
use Rattle.wtf_base.specs.declared.settings.Settings.{Settings}
use Rattle.wtf_base.specs.declared.slice.Slice.{Slice}
use Rattle.wtf_base.specs.Slices.{pointers_of, len_of}
use Rattle.wtf_base.specs.Places.{Place, place_in, places_of}
use Rattle.wtf_base.proofs.Elements.{All-unmap, contains_cons, element, in_tail}
use Rattle.wtf_base.proofs.Pointers.{pointers-len}
use Rattle.wtf_dev.specs.Store.{StoreKind, KindLaws}
use Rattle.wtf_model.specs.Tree.{Tree}
use Rattle.wtf_overlay.specs.declared.part.Part.{Part}
use Rattle.wtf_overlay.specs.declared.part.Part.TheVariants.{Zero, Held}
use Rattle.wtf_overlay.specs.declared.part.Entry.{Entry}
use Rattle.wtf_overlay.specs.Lengths.{HasLength}
use Rattle.wtf_overlay.specs.Origin.{part_origin}
use Rattle.wtf_overlay.specs.Spilled.{decoded}
use Rattle.wtf_overlay.proofs.Meanings.{All-meaning}
use Rattle.wtf_replica.specs.Bytes.{byte_at}
use Rattle.wtf_replica.specs.Downs.{is_down}
use Rattle.wtf_replica.specs.Faults.{AreAllOut, AreTooFew}
use Rattle.wtf_replica.specs.Inside.{size_in}
use Rattle.wtf_replica.specs.Outs.{HasRisen, IsOut}
use Rattle.wtf_replica.specs.declared.replicas.Replicas.{Replicas}
use Rattle.wtf_replica.proofs.Bytes.{byte_at-told, byte_at-within, told_inside}
use Rattle.wtf_replica.proofs.InsideLaws.{size_in-at}
use Rattle.wtf_values.specs.declared.key.Key.{Key}
use Rattle.wtf_values.specs.declared.key.Key.TheVariants.{Region}
use Rattle.wtf_values.specs.declared.region.RegionValue.{RegionValue}
use Rattle.wtf_values.specs.declared.region.Spill.{Spill}
use Rattle.wtf_meta.specs.Bytes.{EntryBytes, RegionBytes, ValueBytes, MapBytes}
use Rattle.wtf_meta.specs.Contents.{Told, is_told, is_listed}
use Rattle.wtf_meta.specs.Maps.{Map, metadata_at}
use Rattle.wtf_meta.proofs.Telling.{TellsOn, told_byte}
use Rattle.wtf_image.specs.declared.loads.Loaded.{Loaded}
use Rattle.wtf_image.specs.Rules.{lies_inside_without}
use Rattle.wtf_region.specs.declared.dev.Dev.{Dev}
use Rattle.wtf_region.specs.Devs.{GoesOn, stores, is_down_in, told_in, between}
use Rattle.wtf_region.specs.Showing.{told_by_some}
use Rattle.wtf_region.proofs.ListReads.{some_bytes}
use Rattle.wtf_healer.specs.Bases.{part_lies, list_lies, list_lies_lent}
use Rattle.wtf_healer.specs.Ends.{RunSpan, WasStopped}
use Rattle.wtf_healer.specs.Live.{is_left, HasCopiesLeft, IsLeftPart, AreLeft, IsLeftList, IsLeftBase, IsLiveRegion, IsLiveMap, IsLiveTree}
use Rattle.wtf_healer.specs.Regions.{HealLacksBase, LacksBytes, HasDamage, IsRegionFault, IsHealFault}
use Rattle.wtf_healer.specs.Restored.{NoneRose}
use Rattle.wtf_healer.specs.Runs.{IsLiveTreeIn}
use Rattle.wtf_healer.specs.Spared.{left_of}
use Rattle.wtf_healer.specs.Words.{is_server_in}
use Rattle.wtf_healer.specs.declared.ends.Stop.TheVariants as stop
use Rattle.wtf_healer.proofs.Anew.{short_up}
use Rattle.wtf_healer.proofs.Inward.{sizes_grow}
use Rattle.wtf_healer.proofs.Leaving.{left, is_up_told}
use Rattle.wtf_healer.proofs.Loads.{IsLiveLoad, live_load}
use Rattle.wtf_healer.proofs.Mended.{read_as}
use Rattle.wtf_healer.proofs.Mending.{live_is}
use Rattle.wtf_healer.proofs.Reading.{fetched_left}
use Rattle.wtf_healer.proofs.Rereading.{read_under, left_later, entries_on, live_later}
use Rattle.wtf_healer.proofs.Restoring.{copies_of, down_same}

-- ---- how many servers are left

-- the others of a list, one fewer
abbrev Others : List ℕ → ℕ → Type 0
Others rest n = (others : List ℕ) × (length rest ≡ length others + 1) × ((k : ℕ) → k ≢ n → Contains rest k → Contains others k)

without : (rest : List ℕ) (n : ℕ) → Contains rest n → Others rest n
without [] n c = absurd (omega (arith, c.1))
without (x ∷ xs) n c = elim (contains_cons x xs n c) [
  | inl e ↦ (
    xs,
    omega arith,
    λ k ne d. elim (contains_cons x xs k d) [ inl f ↦ absurd (ne (sym f ∙ e)) | inr f ↦ f ],
  )
  | inr there ↦
      let (others, less, keep) = without xs n there in (
        x ∷ others,
        omega (arith, less),
        λ k ne d. elim (contains_cons x xs k d) [ inl f ↦ (0, omega arith, f) | inr f ↦ in_tail x others k (keep k ne f) ],
      )
]

abbrev one_left : Bool → ℕ
one_left d = if d then 0 else 1

one_most : (d : Bool) → one_left d ≤ 1
one_most true = omega arith
one_most false = omega arith

one_none : (d : Bool) → d ≡ true → one_left d ≡ 0
one_none true e = refl
one_none false e = absurd (cc)

-- where each of n servers is in a list or lost, no more are left than the list has
covered : (lost : ℕ → Bool) (n : ℕ) (rest : List ℕ) → ((k : ℕ) → k < n → Contains rest k ⊎ (lost k ≡ true)) → left_of lost n ≤ length rest
covered lost zero rest cover = omega arith
covered lost (suc n) rest cover = elim (cover n (omega arith)) [
  | inl c ↦
      let (others, less, keep) = without rest n c in
      let most = one_most (lost n) in
      omega (
        arith,
        less,
        most,
        covered lost n others (λ k h. elim (cover k (omega (arith, h)))
            [ inl d ↦ inl (keep k (λ e. absurd (omega (arith, e, h))) d) | inr d ↦ inr d ]),
      )
  | inr d ↦
      let no = one_none (lost n) d in
      omega (arith, no, covered lost n rest (λ k h. cover k (omega (arith, h))))
]

-- ---- slices all of whose copies are lost

module _ (lost : ℕ → Bool) where
  abbrev Lost : Pointer → Type 0
  Lost p = lost p.server.0 ≡ true

  not_left : (d : Bool) → d ≡ true → not d ≡ false
  not_left true e = refl
  not_left false e = absurd (cc)

  none_left : (ps : List Pointer) → All Lost ps → filter (is_left lost) ps ≡ []
  none_left [] h = refl
  none_left (p ∷ ps) h =
      cond-false (not (lost p.server.0)) (p ∷ filter (is_left lost) ps) (filter (is_left lost) ps) (not_left (lost p.server.0) (All-head Lost p ps h))
      ∙ none_left ps (All-tail Lost p ps h)

  no_places : (i : ℕ) (ps : List Pointer) → All Lost ps → left lost (map (place_in i) ps) ≡ []
  no_places i [] h = refl
  no_places i (p ∷ ps) h =
      cond-false (not (lost p.server.0)) (place_in i p ∷ left lost (map (place_in i) ps)) (left lost (map (place_in i) ps))
      (not_left (lost p.server.0) (All-head Lost p ps h))
      ∙ no_places i ps (All-tail Lost p ps h)

  -- nothing is left of one
  not_all : (s u : Slice) → HasCopiesLeft lost s u → All Lost (pointers_of s) → ⊥
  not_all s u h all =
      let some = copies_of u.len u.extents in
      let none : pointers_of u ≡ [] = h.copies ∙ none_left (pointers_of s) all in
      let len : length (pointers_of u) ≡ 0 = ap length none in
      absurd (omega (arith, some, len))

  -- and no byte of it is told
  no_byte : (told : Told) (i : ℕ) (ps : List Pointer) → 0 < length ps → All Lost ps → is_up_told lost told (map (place_in i) ps) ≡ false
  no_byte told i [] some h = absurd (omega (arith, some))
  no_byte told i (p ∷ ps) some h = ap (λ (qs : List Place). is_some (told_by_some told qs)) (no_places i (p ∷ ps) h)

  not_told : (told : Told) (e : Entry) (s : Slice) → e.part ≡ Held s → EntryBytes (is_up_told lost told) e → All Lost (pointers_of s) → ⊥
  not_told told e s held bytes all =
      let one : is_up_told lost told (part_origin (Held s) 0) ≡ true = subst (λ (p : Part). is_up_told lost told (part_origin p 0) ≡ true) held
      (bytes 0 e.positive) in
      false≢true (sym (no_byte told 0 (pointers_of s) (copies_of s.len s.extents) all) ∙ one)

-- ---- lists of which enough is left lie inside the stores

module _ (lost : ℕ → Bool) (servers : ℕ) (size : ℕ → ℕ → ℕ) (known : (k : ℕ) → lost k ≡ true → k < servers) where
  -- an extent on a server that is left lies inside its store
  abbrev Lies : Pointer → Type 0
  Lies p = (p.server.0 < servers) × (p.at + p.len ≤ size p.server.0 p.file)

  abbrev Filed : Pointer → Type 0
  Filed p = p.file < 8

  lies_one : (p : Pointer) → Filed p → (lost p.server.0 ≡ true) ⊎ Lies p → lies_inside_without lost servers size p ≡ true
  lies_one p file h = elim h [
    | inl is ↦ and_from (nat_lt p.server.0 servers) (nat_lt p.file 8 && (lost p.server.0 || nat_le (p.at + p.len) (size p.server.0 p.file)))
        (lt-ltb p.server.0 servers (known p.server.0 is))
        (and_from (nat_lt p.file 8) (lost p.server.0 || nat_le (p.at + p.len) (size p.server.0 p.file)) (lt-ltb p.file 8 file)
        (or_left (lost p.server.0) (nat_le (p.at + p.len) (size p.server.0 p.file)) is))
    | inr at ↦ and_from (nat_lt p.server.0 servers) (nat_lt p.file 8 && (lost p.server.0 || nat_le (p.at + p.len) (size p.server.0 p.file)))
        (lt-ltb p.server.0 servers at.0)
        (and_from (nat_lt p.file 8) (lost p.server.0 || nat_le (p.at + p.len) (size p.server.0 p.file)) (lt-ltb p.file 8 file)
        (or_right (lost p.server.0) (nat_le (p.at + p.len) (size p.server.0 p.file)) (le-leb (p.at + p.len) (size p.server.0 p.file) at.1)))
  ]

  lies_each : (ps : List Pointer) → All Filed ps → All Lies (filter (is_left lost) ps) → list_all (lies_inside_without lost servers size) ps ≡ true
  lies_each [] files h = refl
  lies_each (p ∷ ps) files h =
      and_from (lies_inside_without lost servers size p) (list_all (lies_inside_without lost servers size) ps)
      (lies_one p (All-head Filed p ps files) (first (lost p.server.0) refl h)) (lies_each ps (All-tail Filed p ps files) (rest (lost p.server.0) h))
    where
      first : (d : Bool) → lost p.server.0 ≡ d → All Lies (cond (not d) (p ∷ filter (is_left lost) ps) (filter (is_left lost) ps))
          → (lost p.server.0 ≡ true) ⊎ Lies p
      first true is all = inl is
      first false is all = inr (All-head Lies p (filter (is_left lost) ps) all)

      rest : (d : Bool) → All Lies (cond (not d) (p ∷ filter (is_left lost) ps) (filter (is_left lost) ps)) → All Lies (filter (is_left lost) ps)
      rest true all = all
      rest false all = All-tail Lies p (filter (is_left lost) ps) all

  part_lies_in : (p q : Part) → IsLeftPart lost p q → ((u : Slice) → q ≡ Held u → All Lies (pointers_of u)) → part_lies lost servers size p ≡ true
  part_lies_in Zero Zero h lies = refl
  part_lies_in (Held s) (Held u) h lies = lies_each (pointers_of s) h.files (subst (All Lies) h.copies (lies u refl))
  part_lies_in Zero (Held u) h lies = absurd h
  part_lies_in (Held s) Zero h lies = absurd h

  -- an entry has only slices that lie inside
  abbrev EntryLies : Entry → Type 0
  EntryLies e = (u : Slice) → e.part ≡ Held u → All Lies (pointers_of u)

  list_lies_in : (es fs : List Entry) → AreLeft lost es fs → All EntryLies fs → list_lies lost servers size es ≡ true
  list_lies_in [] [] h lies = refl
  list_lies_in (e ∷ es) (f ∷ fs) h lies =
      and_from (part_lies lost servers size e.part) (list_lies lost servers size es) (part_lies_in e.part f.part h.0.part (All-head EntryLies f fs lies))
      (list_lies_in es fs h.1 (All-tail EntryLies f fs lies))
  list_lies_in [] (f ∷ fs) h lies = absurd h
  list_lies_in (e ∷ es) [] h lies = absurd h

held_len : (n : ℕ) (p : Part) → HasLength n p → (u : Slice) → p ≡ Held u → len_of u ≡ n
held_len n p len u is = subst (HasLength n) is len

-- ---- a pass

module _ {S : Type 0} {kind : StoreKind S} (laws : KindLaws kind) (before after : Dev S) (goes : GoesOn kind before after [])
    (none : NoneRose kind (between before after)) (known : (k : ℕ) → is_down_in before k ≡ true → k < before.settings.servers)
    (told : Told) (on : TellsOn told (told_in kind before)) (within : (p : Place) (byte : ℕ) → told p ≡ Some byte → p.server < before.settings.servers)
    (enough : before.settings.replicas ≤ left_of (is_down_in before) before.settings.servers) where
  abbrev b : ℕ
  b = before.settings.region

  -- what the stores tell: what is told is part of it
  abbrev all_told : Told
  all_told = told_in kind before

  abbrev lost : ℕ → Bool
  lost = is_down_in before

  lost_if_out : (k : ℕ) → IsOut kind (between before after) k → lost k ≡ true
  lost_if_out k out = elim out [ inl is ↦ is | inr rise ↦ absurd (none k rise) ]

  all_lost : (s : Slice) (k : ℕ) → AreAllOut kind (between before after) s k → All (Lost lost) (pointers_of s)
  all_lost s k h = All-weaker (λ (p : Pointer). IsOut kind (between before after) p.server.0) (Lost lost) (λ p. lost_if_out p.server.0) (pointers_of s) h.out

  -- enough servers are left to store bytes
  no_write : AreTooFew kind (between before after) before.settings.servers before.settings.replicas → ⊥
  no_write h =
      let most = covered lost before.settings.servers h.rest (λ k below. elim (h.out k below) [ inl there ↦ inl there | inr out ↦ inr (lost_if_out k out) ]) in
      let few = h.few in
      absurd (omega (arith, most, few, enough))

  -- the list of a base can be read
  no_base : (base : Option Spill) (under : List Entry) (k : ℕ) → IsLeftBase b told lost base under → HealLacksBase kind (between before after) base k → ⊥
  no_base None under k h lacks = absurd lacks
  no_base (Some s) under k h lacks =
      let r : IsLeftList b told lost s.slice h.0 = h.1 in not_all lost s.slice r.slice r.left (all_lost s.slice k lacks)

  -- each byte that is told lies inside the stores
  lies_told : (u : Slice) → ((i : ℕ) → i < len_of u → is_told told (places_of u i) ≡ true)
      → All (Lies lost before.settings.servers (size_in kind (stores after)) known) (pointers_of u)
  lies_told u bytes k d below =
      let n = len_of u in
      let some = some_bytes u in
      let i : ℕ = n - 1 in
      let p : Pointer = get_or (pointers_of u) k d in
      let tells = told_byte told (places_of u i) (bytes i (omega (arith, some))) in
      let all = All-meaning told (places_of u i) tells.0 tells.1 in
      let here : told (place_in i p) ≡ Some tells.0 = All-unmap (λ q. told q ≡ Some tells.0) (place_in i) (pointers_of u) all k d below in
      let inside = told_inside laws (stores before) (place_in i p) tells.0 (on (place_in i p) tells.0 here) in
      let x = element (stores before) p.server.0 inside.0 in
      let at = inside.2 x in
      let size = size_in-at kind (stores before) p.server.0 p.file x inside.0 in
      let grows = sizes_grow laws goes.each p.server.0 p.file in
      let len = pointers-len u k d below in
      (within (place_in i p) tells.0 here, omega (arith, at, size, grows, len, some))

  entry_lies : (f : Entry) → EntryBytes (is_told told) f → EntryLies lost before.settings.servers (size_in kind (stores after)) known f
  entry_lies f bytes u is =
      let len = held_len f.len f.part f.held u is
      in lies_told u (λ i below. subst (λ (p : Part). is_told told (part_origin p i) ≡ true) is (bytes i (omega (arith, below, len))))

  -- so the list that a base has is taken for one
  no_damage : (base : Option Spill) (under : List Entry) (k : ℕ) → IsLeftBase b told lost base under → HasDamage kind before after base k → ⊥
  no_damage None under k h bad = absurd bad
  no_damage (Some s) under k h bad =
      let whole = h.0 in
      let r : IsLeftList b told lost s.slice whole = h.1 in
      let was = read_under b all_told lost s.slice whole (left_later b told all_told lost on s.slice whole r) in
      let same : bad.bytes ≡ was.0 = fetched_left laws bad.read bad.whole was.0 was.1 in
      let is : decoded after.settings.region bad.bytes ≡ Some r.list =
      ap (λ (st : Settings). decoded st.region bad.bytes) goes.settings ∙ ap (decoded b) same ∙ was.2 in
      let outside : list_lies_lent kind after r.list ≡ false = bad.bad r.list is in
      let inside : list_lies lost before.settings.servers (size_in kind (stores after)) r.list ≡ true =
      list_lies_in lost before.settings.servers (size_in kind (stores after)) known r.list whole r.entries
      (All-weaker (EntryBytes (is_told told)) (EntryLies lost before.settings.servers (size_in kind (stores after)) known) entry_lies whole r.bytes) in
      let here : list_lies_lent kind after r.list ≡ true =
      ap (λ (f : ℕ → Bool). list_lies f after.settings.servers (size_in kind (stores after)) r.list) (down_same laws goes)
      ∙ ap (λ (st : Settings). list_lies lost st.servers (size_in kind (stores after)) r.list) goes.settings ∙ inside in
      false≢true (sym outside ∙ here)

  module _ (v u : RegionValue) (h : IsLiveRegion b told lost v u) (bytes : All (EntryBytes (is_told told)) u.list) where
    -- and its sparse entries can be read
    no_bytes : (k : ℕ) → LacksBytes kind before after v k → ⊥
    no_bytes k lacks =
        let all = short_up b 0 all_told all_told lost v u (live_later b told all_told lost on v u h) lacks.under lacks.short
        (read_as kind before after v.base lacks.under lacks.read) lacks.short_is (entries_on b told all_told lost on u.list bytes) in
        let entry = lacks.lacks.entry in
        let one = All-contains (EntryBytes (is_up_told lost all_told)) lacks.short entry all lacks.lacks.there in
        let part = lacks.lacks.lacks in not_told lost all_told entry part.slice part.held one (all_lost part.slice k part.out)

    no_region_fault : (why : Fault) → why ≢ fault.Memory → IsRegionFault kind before after v why → ⊥
    no_region_fault (fault.Read k) ne f = elim f [ inl base ↦ no_base v.base h.under k.0 h.base_is base | inr lacks ↦ no_bytes k.0 lacks ]
    no_region_fault (fault.Damaged k) ne f = no_damage v.base h.under k.0 h.base_is f
    no_region_fault fault.Write ne f = no_write f.lacks.few
    no_region_fault fault.Memory ne f = ne refl
    no_region_fault (fault.Punch k) ne f = f

  -- where what was left of a map stands for a tree none of its regions has a fault
  pub no_heal_fault : (w live : Map) → IsLiveMap b told lost w live → MapBytes (is_told told) (is_listed b told) live → (why : Fault) → why ≢ fault.Memory
      → IsHealFault kind before after w why → ⊥
  no_heal_fault w live left bytes why ne f = elim f [
    | inl memory ↦ ne memory
    | inr lacks ↦
        let q : Key = Region lacks.inode lacks.region in
        let u = live_is b told lost (w q) (live q) lacks.value_is lacks.there (left.regions lacks.inode lacks.region) in
        let all : RegionBytes (is_told told) (is_listed b told) u.0 = subst (ValueBytes (is_told told) (is_listed b told)) u.1 (bytes q) in
        no_region_fault lacks.value_is u.0 u.2 all.entries why ne lacks.cause
  ]

-- a server that is one of these has what all of these have
among_below : (n : ℕ) (ks : List ℕ) → All (λ k. k < n) ks → (k : ℕ) → is_server_in ks k ≡ true → k < n
among_below n [] all k is = absurd (cc)
among_below n (j ∷ ks) all k is = elim (or_cases (nat_eq k j) (is_server_in ks k) is) [
  | inl here ↦ let same = eqb-true k j here in let first : j < n = All-head (λ k. k < n) j ks all in omega (arith, same, first)
  | inr later ↦ among_below n ks (All-tail (λ k. k < n) j ks all) k later
]

-- a byte that one of the first stores tells they all tell
first_byte : {S : Type 0} (kind : StoreKind S) (n : ℕ) (shelf : List S) (p : Place) (byte : ℕ) → byte_at kind (take n shelf) p ≡ Some byte
    → (p.server < n) × (byte_at kind shelf p ≡ Some byte)
first_byte kind n shelf p byte is =
    let below = byte_at-within kind (take n shelf) p byte is in
    let len = length-take n shelf in
    let d = element (take n shelf) p.server below in
    let first : p.server < n = omega (arith, below, len) in
    let there : p.server < length shelf = omega (arith, below, len) in (
      first,
      byte_at-told kind shelf p d there
          ∙ ap (λ x. (kind.view x).told p.file p.at) (sym (get_or-take n shelf p.server d first)) ∙ sym (byte_at-told kind (take n shelf) p d below) ∙ is,
    )

-- a run does not end with a fault where no store failed, and the image has a tree that is left in the stores of its servers
pub no_fault : {S : Type 0} {kind : StoreKind S} → KindLaws kind → (ks bytes : List ℕ) (run : RunSpan S) (why : Fault)
    → WasStopped kind ks bytes run (stop.Unhealed why) → (t : Tree) → IsLiveTreeIn kind run.old (is_server_in ks) bytes t
    → ((k : ℕ) → HasRisen kind run.old run.new k → ⊥) → ⊥
no_fault {S = S} {kind = kind} laws ks bytes run why stopped t tree none =
    let replicas : Replicas = stopped.began.replicas in
    let l : Loaded = stopped.began.loaded in
    let load = stopped.began.is_loaded.load in
    let spared = stopped.began.is_loaded.spared in
    let passed = stopped.cause.2 in
    let before : Dev S = passed.before in
    let after : Dev S = passed.after in
    let lost : ℕ → Bool = is_down_in before in
    let n : ℕ = load.rows.header.servers in
    let told : Told = byte_at kind (take n run.old) in
    let old : stores before ≡ run.old = passed.before_is.stores_are in
    let new : stores after ≡ run.new = passed.after_is.stores_are in
    let settings : before.settings ≡ l.settings = passed.before_is.settings_are in
    let servers : before.settings.servers ≡ l.settings.servers = ap (λ (s : Settings). s.servers) settings in
    let same : lost ≡ is_server_in ks = λ i k. (ap (λ (r : Replicas). is_down r k) passed.before_is.replicas_are ∙ stopped.began.down k) i in
    let here : IsLiveTree told lost bytes t = subst (λ (f : ℕ → Bool). IsLiveTree told f bytes t) (sym same) (tree load.rows load.taken.text) in
    let on : TellsOn told (told_in kind before) = λ p byte tells.
    subst (λ sh. byte_at kind sh p ≡ Some byte) (sym old) (first_byte kind n run.old p byte tells).1 in
    let live : IsLiveLoad told lost l t = live_load told lost (is_server_in ks) (size_in kind run.old) bytes l t load here in
    let region : l.settings.region ≡ before.settings.region = sym (ap (λ (s : Settings). s.region) settings) in
    let left = subst (λ r. IsLiveMap r told lost (metadata_at l.kv l.kv.number) live.live) region live.is_live in
    let stands = live.stands l.next_tx (omega arith) in
    let named : MapBytes (is_told told) (is_listed before.settings.region told) live.live =
    subst (λ r. MapBytes (is_told told) (is_listed r told) live.live) region stands.bytes in
    let risen : NoneRose kind (between before after) = λ k rise.
    none k (subst (λ sh. HasRisen kind sh run.new k) old (subst (λ sh. HasRisen kind (stores before) sh k) new rise)) in
    let known : (k : ℕ) → lost k ≡ true → k < before.settings.servers = λ k is.
    subst (λ n. k < n) (sym servers) (among_below l.settings.servers ks spared.known k (sym (ap (λ (f : ℕ → Bool). f k) same) ∙ is)) in
    let within : (p : Place) (byte : ℕ) → told p ≡ Some byte → p.server < before.settings.servers = λ p byte tells.
    let at = (first_byte kind n run.old p byte tells).0 in
    omega (arith, at, servers, load.settings.servers) in
    let enough : before.settings.replicas ≤ left_of lost before.settings.servers =
    subst (λ (f : ℕ → Bool). before.settings.replicas ≤ left_of f before.settings.servers) (sym same)
    (subst (λ (s : Settings). s.replicas ≤ left_of (is_server_in ks) s.servers) (sym settings) spared.left)
    in no_heal_fault laws before after passed.goes risen known told on within enough (metadata_at l.kv l.kv.number) live.live left named why
    stopped.cause.0 passed.did
