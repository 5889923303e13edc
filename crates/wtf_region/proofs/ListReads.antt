-- Lists of slices that were read, from the cache and from the stores, and what is read with them.
use Rattle.std.proofs.Common.{◌≡◌, ◌⊎◌, ℕ, ◌+◌, ◌*◌, ◌<◌, ◌≤◌, ◌++◌, Bool, true, false, List, [], length, get_or, Option, None, Some, refl, sym, ap}
use Rattle.std.proofs.Common.{◌∙◌, subst, arith, inl, inr}
use Rattle.std.specs.List.{All}
use Rattle.std.proofs.lemmas.Grind.{same_number_lists}
use Rattle.std.proofs.lemmas.List.Elements.{All-nil, All-cons, All-weaker, All-append}
use Rattle.wtf_base.specs.declared.fault.Fault.{Fault}
use Rattle.wtf_base.specs.declared.fault.Fault.TheVariants as fault
use Rattle.wtf_base.specs.declared.settings.Settings.{Settings}
use Rattle.wtf_base.specs.declared.slice.Slice.{Slice}
use Rattle.wtf_base.specs.declared.slice.Extents.{Extents}
use Rattle.wtf_base.specs.declared.slice.Extents.TheVariants.{One, Two, Three}
use Rattle.wtf_base.specs.Extents.{IsSound}
use Rattle.wtf_base.specs.Slices.{len_of}
use Rattle.wtf_base.specs.Places.{places_of}
use Rattle.wtf_dev.specs.Store.{StoreKind, KindLaws}
use Rattle.wtf_overlay.specs.Origin.{Place, Plans, origin}
use Rattle.wtf_overlay.specs.Meaning.{meaning}
use Rattle.wtf_overlay.proofs.Meanings.{All-meaning}
use Rattle.wtf_overlay.specs.Clips.{clip_list}
use Rattle.wtf_overlay.specs.Spilled.{decoded}
use Rattle.wtf_overlay.specs.declared.part.Entry.{Entry}
use Rattle.wtf_overlay.specs.declared.part.Piece.{Piece}
use Rattle.wtf_values.specs.declared.region.RegionValue.{RegionValue}
use Rattle.wtf_values.specs.declared.region.Spill.{Spill}
use Rattle.wtf_replica.specs.Bytes.{shown_byte, ShowsSlice}
use Rattle.wtf_replica.specs.Copies.{IsFetched, IsReadable}
use Rattle.wtf_replica.proofs.Bytes.{inside_places, fetched_shown, shows_up-shows}
use Rattle.wtf_replica.specs.Faults.{IsReadFault}
use Rattle.wtf_replica.specs.Inside.{size_in}
use Rattle.wtf_replica.specs.Spans.{Span}
use Rattle.wtf_meta.specs.Lists.{ListFact, TellLists, or_none, seen_list, base_facts}
use Rattle.wtf_meta.specs.Files.{FileView}
use Rattle.wtf_meta.specs.Contents.{SliceTells, is_told, lists_in}
use Rattle.wtf_meta.specs.Bytes.{EntryBytes, SliceBytes, FileBytes, PiecesBytes, ListSlices, any_slice}
use Rattle.wtf_meta.proofs.ListFacts.{TellLists-append, ListSlices-parts, ListsBytes-all}
use Rattle.wtf_meta.proofs.ReadLaws.{ReadsRegion-none, ReadsRegion-list, ReadsFile-none, ReadsFile-part}
use Rattle.wtf_meta.proofs.Telling.{tell_all, told_byte, told_from, lists_in-is, lists_in-later, TellLists-later, TellBytes-later}
use Rattle.wtf_meta.proofs.Weaker.{slices_stay, file_bytes_stay}
use Rattle.wtf_region.specs.declared.dev.Dev.{Dev}
use Rattle.wtf_region.specs.Apart.{are_apart}
use Rattle.wtf_region.specs.Bases.{base_slices, region_slices}
use Rattle.wtf_region.specs.Cached.{Remembered, cached, list_fact, recalled_one}
use Rattle.wtf_region.specs.Inside.{is_inside, list_lies_inside}
use Rattle.wtf_region.specs.Devs.{IsSoundDev, GoesOn, stores, remembered, told_in, shown_in, inside_of, between}
use Rattle.wtf_region.specs.Reads.{IsTrueList, IsListFetched, Recalls, IsSliceRead, IsListRead, IsPartRead, IsFileRead, TellsFacts, AreInsideLists}
use Rattle.wtf_region.specs.Reads.{IsSliceFault, IsBaseFault, IsRegionFault, IsDamaged, MayRecall, LeavesLists, LeavesRegion, RecallsFirst}
use Rattle.wtf_region.proofs.Frames.{apart_none, tells_on, shows_told, SliceShows-back, slice_stays, entries_inside}
use Rattle.wtf_region.proofs.InsideLaws.{inside_stays, places_from, slice_readable, list_inside-from}
use Rattle.wtf_region.proofs.ShowLaws.{told_stays}
use Rattle.wtf_region.proofs.SliceKeys.{cached_entry}
use Rattle.wtf_region.proofs.BaseLaws.{base_wants, wants_more}
use Rattle.wtf_region.proofs.Recalling.{recalled_first}
use Rattle.wtf_region.proofs.Recalls.{recalls_same, recalls_on, recalls_later}

-- all bytes of a slice that were read are those that a read of its places gives
pub fetched_is : {S : Type 0} (kind : StoreKind S) (t : Span S) (s : Slice) (out : List ℕ) (k : ℕ) → IsFetched kind t s 0 out k → length out ≡ len_of s
    → (bytes : List ℕ) → SliceTells (shown_byte kind t.before) s bytes → out ≡ bytes
fetched_is kind t s out k f whole bytes h =
    let shows : ShowsSlice (shown_byte kind t.before) s 0 out = shows_up-shows t.down (shown_byte kind t.before) s 0 out (fetched_shown f) in
    same_number_lists out bytes (whole ∙ h.len)
    (λ i below.
    let here : i < len_of s = omega (arith, below, whole) in
    let same : 0 + i ≡ i = omega arith in
    let gives : meaning (shown_byte kind t.before) (places_of s (0 + i)) ≡ Some (get_or bytes i 0) =
    ap (λ j. meaning (shown_byte kind t.before) (places_of s j)) same ∙ h.tells i here in
    shows i (get_or bytes i 0) below (All-meaning (shown_byte kind t.before) (places_of s (0 + i)) (get_or bytes i 0) gives))

some_extents : (n : ℕ) (e : Extents) → IsSound n e → 0 < n
some_extents n (One a) h = h.0
some_extents n (Two a b) h = h.0
some_extents n (Three a b c) h = h.0

-- a slice has a byte
pub some_bytes : (s : Slice) → 0 < len_of s
some_bytes s = some_extents s.len s.extents s.sound

-- a slice whose bytes lie inside the stores can be read
pub slice_inside_readable : {S : Type 0} (kind : StoreKind S) (down : ℕ → Bool) (shelf : List S) (settings : Settings) (s : Slice)
    → settings.servers ≤ length shelf
    → SliceBytes (is_inside kind shelf settings) s → IsReadable kind down shelf s
slice_inside_readable kind down shelf settings s enough h =
    slice_readable kind down shelf s (inside_places kind shelf s (some_bytes s) (λ i below. places_from kind shelf settings (places_of s i) enough (h i below)))

-- a slice that was not remembered and could not be read
pub read_fault : {S : Type 0} (kind : StoreKind S) (old new : Dev S) (s : Slice) → cached (remembered old) s ≡ None → (why : Fault)
    → IsReadFault kind (between old new) s why
    → IsSliceFault kind old new s why
read_fault kind old new s uncached (fault.Read k) h = record { uncached = uncached; out = h }
read_fault kind old new s uncached (fault.Damaged k) h = absurd h
read_fault kind old new s uncached fault.Memory h = absurd h
read_fault kind old new s uncached fault.Write h = absurd h
read_fault kind old new s uncached (fault.Punch k) h = absurd h

module _ {S : Type 0} {kind : StoreKind S} (laws : KindLaws kind) where
  -- what lies inside the stores and is told goes on to be so
  pub slice_later : {old new : Dev S} → IsSoundDev kind old → GoesOn kind old new [] → (s : Slice) → SliceBytes (inside_of kind old) s
      → SliceBytes (inside_of kind new) s
  slice_later {old = old} {new = new} sound g s h =
      subst (λ (st : Settings). SliceBytes (is_inside kind (stores new) st) s) (sym g.settings) (slice_stays laws g.each old.settings sound.shelf s h)

  pub entries_later : {old new : Dev S} → IsSoundDev kind old → GoesOn kind old new [] → (es : List Entry) → All (EntryBytes (inside_of kind old)) es
      → All (EntryBytes (inside_of kind new)) es
  entries_later {old = old} {new = new} sound g es h =
      subst (λ (st : Settings). All (EntryBytes (is_inside kind (stores new) st)) es) (sym g.settings)
      (entries_inside laws g.each old.settings sound.shelf es h)

  pub places_later : {old new : Dev S} → IsSoundDev kind old → GoesOn kind old new [] → (qs : List Place) → inside_of kind old qs ≡ true
      → inside_of kind new qs ≡ true
  places_later {old = old} {new = new} sound g qs h =
      subst (λ (st : Settings). is_inside kind (stores new) st qs ≡ true) (sym g.settings) (inside_stays laws g.each old.settings sound.shelf qs h)

  pub file_later : {old new : Dev S} → IsSoundDev kind old → GoesOn kind old new [] → (file : FileView) → FileBytes (inside_of kind old) any_slice file
      → FileBytes (inside_of kind new) any_slice file
  file_later {old = old} {new = new} sound g file h = file_bytes_stay (inside_of kind old) (inside_of kind new) (places_later sound g) any_slice any_slice
      (λ s is. is) file h

  pub still_told : {old new : Dev S} → GoesOn kind old new [] → (qs : List Place) → is_told (told_in kind old) qs ≡ true → is_told (told_in kind new) qs ≡ true
  still_told {old = old} {new = new} g qs h =
      let was = told_byte (told_in kind old) qs h in
      told_from (told_in kind new) qs was.0 (told_stays laws g.each qs was.0 was.1)

  list_later : {old new : Dev S} → GoesOn kind old new [] → (s : Slice) (es : List Entry)
      → lists_in old.settings.region (told_in kind old) s ≡ Some es → lists_in new.settings.region (told_in kind new) s ≡ Some es
  list_later {old = old} {new = new} g s es is =
      ap (λ (st : Settings). lists_in st.region (told_in kind new) s) g.settings
      ∙ lists_in-later (told_in kind old) (told_in kind new) old.settings.region s es (tells_on laws g.each) is

  -- facts that were told still are
  pub facts_later : {old new : Dev S} → GoesOn kind old new [] → (fs : List ListFact)
      → TellLists (lists_in old.settings.region (told_in kind old)) fs → TellLists (lists_in new.settings.region (told_in kind new)) fs
  facts_later {old = old} {new = new} g fs tell =
      subst (λ (st : Settings). TellLists (lists_in st.region (told_in kind new)) fs) (sym g.settings)
      (TellLists-later (told_in kind old) (told_in kind new) old.settings.region fs (tells_on laws g.each) tell)

  -- a slice that is told is read so
  slice_shown : (dev : Dev S) (s : Slice) (bytes : List ℕ) → SliceTells (told_in kind dev) s bytes → SliceTells (shown_in kind dev) s bytes
  slice_shown dev s bytes h = TellBytes-later (told_in kind dev) (shown_in kind dev) (len_of s) (places_of s) bytes (shows_told laws (stores dev)) h

  -- a list that was read from the stores may be remembered
  pub read_true : {old new : Dev S} → IsSoundDev kind old → GoesOn kind old new [] → (s : Slice) → SliceBytes (inside_of kind old) s → (bytes : List ℕ) (k : ℕ)
      → IsFetched kind (between old new) s 0 bytes k → length bytes ≡ len_of s → (es : List Entry) → decoded new.settings.region bytes ≡ Some es
      → list_lies_inside new.settings.servers (size_in kind (stores new)) es ≡ true → IsTrueList kind new s es
  read_true {old = old} {new = new} sound g s inside bytes k f whole es is lies = record {
    lies = slice_later sound g s inside;
    inside = list_inside-from kind (stores new) new.settings g.sound.shelf es lies;
    decodes = λ other tells. subst (λ (bs : List ℕ). decoded new.settings.region bs ≡ Some es)
        (fetched_is kind (between old new) s bytes k f whole other (SliceShows-back laws g.each old.settings sound.shelf s other inside (apart_none s) tells))
        is;
  }

  -- it is what was read
  pub list_fetched : {old new : Dev S} → GoesOn kind old new [] → (s : Slice) (bytes : List ℕ) (k : ℕ) → cached (remembered old) s ≡ None
      → length bytes ≡ len_of s → IsFetched kind (between old new) s 0 bytes k → (es : List Entry) → decoded new.settings.region bytes ≡ Some es
      → IsListFetched kind (between old new) old.settings.region (remembered old) s es
  list_fetched {old = old} {new = new} g s bytes k uncached whole f es is = record {
    uncached = uncached;
    bytes = bytes;
    server = k;
    whole = whole;
    fetched = f;
    decodes = ap (λ (st : Settings). decoded st.region bytes) (sym g.settings) ∙ is;
  }

  -- what was read of a slice is no list
  pub damaged_none : {old new : Dev S} → GoesOn kind old new [] → (s : Slice) (bytes : List ℕ) (k : ℕ) → cached (remembered old) s ≡ None
      → length bytes ≡ len_of s
      → IsFetched kind (between old new) s 0 bytes k → decoded new.settings.region bytes ≡ None → IsDamaged kind old new s k
  damaged_none {old = old} {new = new} g s bytes k uncached whole f none = record {
    uncached = uncached;
    bytes = bytes;
    whole = whole;
    read = f;
    bad = λ es is. let both : None ≡ Some es = sym none ∙ (ap (λ (st : Settings). decoded st.region bytes) g.settings ∙ is) in absurd (cc);
  }

  -- or one that names bytes outside the stores
  pub damaged_outside : {old new : Dev S} → GoesOn kind old new [] → (s : Slice) (bytes : List ℕ) (k : ℕ) → cached (remembered old) s ≡ None
      → length bytes ≡ len_of s
      → IsFetched kind (between old new) s 0 bytes k → (list : List Entry) → decoded new.settings.region bytes ≡ Some list
      → list_lies_inside new.settings.servers (size_in kind (stores new)) list ≡ false → IsDamaged kind old new s k
  damaged_outside {old = old} {new = new} g s bytes k uncached whole f list read outside = record {
    uncached = uncached;
    bytes = bytes;
    whole = whole;
    read = f;
    bad = λ es is.
        let both : Some list ≡ Some es = sym read ∙ (ap (λ (st : Settings). decoded st.region bytes) g.settings ∙ is) in
        let same : list ≡ es = cc in
        subst (λ (l : List Entry). list_lies_inside old.settings.servers (size_in kind (stores new)) l ≡ false) same
        (ap (λ (st : Settings). list_lies_inside st.servers (size_in kind (stores new)) list) (sym g.settings) ∙ outside);
  }

  -- a list that was asked for is remembered
  recalled_stands : (old new : Dev S) (s : Slice) (es : List Entry) → remembered new ≡ recalled_one (list_fact s es) (remembered old)
      → cached (remembered new) s ≡ Some es
  recalled_stands old new s es is = ap (λ (l : Remembered). cached l s) is ∙ recalled_first (list_fact s es) (remembered old)

  -- a list that was remembered
  pub read_cached : {old new : Dev S} → IsSoundDev kind old → GoesOn kind old new [] → (s : Slice) (es : List Entry) → cached (remembered old) s ≡ Some es
      → remembered new ≡ recalled_one (list_fact s es) (remembered old) → IsSliceRead kind old new s es
  read_cached {old = old} {new = new} sound g s es value recalls =
      let there = cached_entry (remembered old) s es value in
      let lies = sound.lists (s, es) there in
      record {
        recalls = record { got = (inl value, tt); left = recalls };
        stands = recalled_stands old new s es recalls;
        inside = entries_later sound g es lies.1;
        told = λ ranges h told apart.
            let tells = tell_all (told_in kind old) (len_of s) (places_of s) told in
            list_later g s es (lists_in-is old.settings.region (told_in kind old) s tells.0 tells.1
            ∙ h (s, es) there apart tells.0 (slice_shown old s tells.0 tells.1));
      }

  -- one that was read, and is remembered now
  pub read_anew : {old mid new : Dev S} → GoesOn kind old mid [] → GoesOn kind mid new [] → (s : Slice)
      → (es : List Entry) → IsTrueList kind mid s es
      → IsListFetched kind (between old new) old.settings.region (remembered old) s es
      → remembered new ≡ recalled_one (list_fact s es) (remembered old) → IsSliceRead kind old new s es
  read_anew {old = old} {mid = mid} {new = new} g h s es is got recalls = record {
    recalls = record { got = (inr got, tt); left = recalls };
    stands = recalled_stands old new s es recalls;
    inside = entries_later g.sound h es is.inside;
    told = λ ranges was told apart.
        let tells = tell_all (told_in kind old) (len_of s) (places_of s) told in
        let now = TellBytes-later (told_in kind old) (told_in kind mid) (len_of s) (places_of s) tells.0 (tells_on laws g.each) tells.1 in
        list_later h s es (lists_in-is mid.settings.region (told_in kind mid) s tells.0 now ∙ is.decodes tells.0 (slice_shown mid s tells.0 now));
  }

  -- the list of a region without a base
  pub list_alone : (dev : Dev S) (v : RegionValue) → v.base ≡ None → IsListRead kind dev dev v v.list
  list_alone dev v none = record {
    under = [];
    is = λ lists tell. sym (ap (λ (b : Option Spill). seen_list lists b ++ v.list) none);
    recalls = subst (λ (b : Option Spill). Recalls kind dev dev (base_facts b [])) (sym none) (recalls_same kind dev dev refl);
    stands = subst (λ (b : Option Spill). All (λ (f : ListFact). cached (remembered dev) f.slice ≡ Some f.list) (base_facts b [])) (sym none)
        (All-nil (λ (f : ListFact). cached (remembered dev) f.slice ≡ Some f.list));
    inside = subst (λ (b : Option Spill). AreInsideLists kind dev (base_facts b [])) (sym none)
        (All-nil (λ (f : ListFact). All (EntryBytes (inside_of kind dev)) f.list));
    told = λ ranges h told apart. subst (λ (b : Option Spill). TellLists (lists_in dev.settings.region (told_in kind dev)) (base_facts b [])) (sym none) tt;
  }

  -- and of one whose base was read
  pub list_over : (old new : Dev S) (v : RegionValue) (base : Spill) (under : List Entry) → v.base ≡ Some base → IsSliceRead kind old new base.slice under
      → IsListRead kind old new v (clip_list base.visible under ++ v.list)
  list_over old new v base under is read =
      let fact : ListFact = record { slice = base.slice; list = under } in
      record {
        under = under;
        is = λ lists tell.
            let here : TellLists lists (base_facts (Some base) under) = subst (λ (b : Option Spill). TellLists lists (base_facts b under)) is tell in
            ap (λ (o : Option (List Entry)). clip_list base.visible (or_none o) ++ v.list) (sym here.0)
            ∙ ap (λ (b : Option Spill). seen_list lists b ++ v.list) (sym is);
        recalls = subst (λ (b : Option Spill). Recalls kind old new (base_facts b under)) (sym is) read.recalls;
        stands = subst (λ (b : Option Spill). All (λ (f : ListFact). cached (remembered new) f.slice ≡ Some f.list) (base_facts b under)) (sym is)
            (All-cons (λ (f : ListFact). cached (remembered new) f.slice ≡ Some f.list) fact [] read.stands
            (All-nil (λ (f : ListFact). cached (remembered new) f.slice ≡ Some f.list)));
        inside = subst (λ (b : Option Spill). AreInsideLists kind new (base_facts b under)) (sym is)
            (All-cons (λ (f : ListFact). All (EntryBytes (inside_of kind new)) f.list) fact [] read.inside
            (All-nil (λ (f : ListFact). All (EntryBytes (inside_of kind new)) f.list)));
        told = λ ranges h told apart.
            let own : ListSlices (is_told (told_in kind old)) any_slice (base_facts (Some base) under) =
            subst (λ (b : Option Spill). ListSlices (is_told (told_in kind old)) any_slice (base_facts b under)) is told in
            let away : ListSlices (are_apart ranges) any_slice (base_facts (Some base) under) =
            subst (λ (b : Option Spill). ListSlices (are_apart ranges) any_slice (base_facts b under)) is apart in
            subst (λ (b : Option Spill). TellLists (lists_in new.settings.region (told_in kind new)) (base_facts b under)) (sym is)
            (read.told ranges h own.0.0 away.0.0, tt);
      }

  -- a part of a region whose list was read
  pub part_read : (old new : Dev S) (v : RegionValue) (list : List Entry) (off n : ℕ) (ps : List Piece) → IsListRead kind old new v list
      → Plans ps n (λ i. origin list (off + i))
      → IsPartRead kind old new (Some v) off n ps
  part_read old new v list off n ps r p = record {
    facts = base_facts v.base r.under;
    wants = base_wants v.base r.under;
    recalls = r.recalls;
    reads = ReadsRegion-list v r.under list off n ps r.is p;
    inside = r.inside;
    told = r.told;
  }

  -- and of one that is missing
  pub part_hole : (dev : Dev S) (off n : ℕ) (ps : List Piece) → Plans ps n (λ i. []) → IsPartRead kind dev dev None off n ps
  part_hole dev off n ps p = record {
    facts = [];
    wants = refl;
    recalls = recalls_same kind dev dev refl;
    reads = ReadsRegion-none off n ps p;
    inside = All-nil (λ (f : ListFact). All (EntryBytes (inside_of kind dev)) f.list);
    told = λ ranges h told apart. tt;
  }

  -- no byte of a file
  pub file_none : (dev : Dev S) (file : FileView) (off : ℕ) (ps : List Piece) → ps ≡ [] → IsFileRead kind dev dev file off 0 ps
  file_none dev file off ps none = record {
    facts = [];
    wants = refl;
    recalls = recalls_same kind dev dev refl;
    reads = ReadsFile-none dev.settings.region file off ps none;
    inside = All-nil (λ (f : ListFact). All (EntryBytes (inside_of kind dev)) f.list);
    told = λ ranges h told apart. tt;
  }

  -- facts that were told, and then others
  pub facts_on : {old mid new : Dev S} → GoesOn kind old mid [] → GoesOn kind mid new [] → (fs gs : List ListFact)
      → TellsFacts kind old mid fs → TellsFacts kind mid new gs → TellsFacts kind old new (fs ++ gs)
  facts_on {old = old} {mid = mid} {new = new} g h fs gs first next = λ ranges was told apart.
      let tells = ListSlices-parts (is_told (told_in kind old)) any_slice fs gs told in
      let away = ListSlices-parts (are_apart ranges) any_slice fs gs apart in
      TellLists-append (lists_in new.settings.region (told_in kind new)) fs gs (facts_later h fs (first ranges was tells.0 away.0))
      (next ranges (g.lists ranges was)
      (slices_stay (is_told (told_in kind old)) (is_told (told_in kind mid)) (still_told g) any_slice any_slice (λ s is. is) gs tells.1) away.1)

  -- one part more of a file, which begins the range or a region
  pub file_on : {old mid new : Dev S} → GoesOn kind old mid [] → GoesOn kind mid new [] → (file : FileView) → (off done n r y : ℕ) (ps qs : List Piece)
      → 0 < n → r * old.settings.region + y ≡ off + done → y + n ≤ old.settings.region → (done ≡ 0) ⊎ (y ≡ 0)
      → IsFileRead kind old mid file off done ps → IsPartRead kind mid new (file.region r) y n qs → IsFileRead kind old new file off (done + n) (ps ++ qs)
  file_on {old = old} {mid = mid} {new = new} g h file off done n r y ps qs some at within start first next =
      let Names : ListFact → Type 0 = λ f. All (EntryBytes (inside_of kind new)) f.list in
      record {
        facts = first.facts ++ next.facts;
        wants = wants_more old.settings.region off done n r y file first.facts next.facts (omega (arith, some, within)) some at within start
            first.wants next.wants;
        recalls = recalls_on laws g h first.facts next.facts first.recalls next.recalls;
        reads = ReadsFile-part old.settings.region off done r y n file first.facts next.facts ps qs at within first.reads next.reads;
        inside = All-append Names first.facts next.facts
            (All-weaker (λ (f : ListFact). All (EntryBytes (inside_of kind mid)) f.list) Names (λ f names. entries_later g.sound h f.list names)
            first.facts first.inside) next.inside;
        told = facts_on g h first.facts next.facts first.told next.told;
      }

  -- the pieces that were read name only bytes inside the stores
  pub pieces_inside : {old mid : Dev S} → IsSoundDev kind old → GoesOn kind old mid [] → (file : FileView) → FileBytes (inside_of kind old) any_slice file
      → (off n : ℕ) (ps : List Piece)
      → IsFileRead kind old mid file off n ps → PiecesBytes (inside_of kind mid) ps
  pieces_inside {mid = mid} sound g file inside off n ps read =
      read.reads.names (inside_of kind mid) any_slice refl (file_later sound g file inside)
      (ListsBytes-all (inside_of kind mid) any_slice read.facts read.inside)

  -- what was read of a file stays so while other bytes are read
  pub file_read_later : {old mid new : Dev S} → GoesOn kind old mid [] → GoesOn kind mid new [] → remembered new ≡ remembered mid → (file : FileView)
      → (off n : ℕ) (ps : List Piece) → IsFileRead kind old mid file off n ps → IsFileRead kind old new file off n ps
  file_read_later {old = old} {mid = mid} {new = new} g h same file off n ps read = record {
    facts = read.facts;
    wants = read.wants;
    recalls = recalls_later laws g h read.facts read.recalls same;
    reads = read.reads;
    inside = All-weaker (λ (f : ListFact). All (EntryBytes (inside_of kind mid)) f.list) (λ (f : ListFact). All (EntryBytes (inside_of kind new)) f.list)
        (λ f names. entries_later g.sound h f.list names) read.facts read.inside;
    told = λ ranges was told apart. facts_later h read.facts (read.told ranges was told apart);
  }

  -- the lists of the bases under the bytes up to one part were asked for, and of that part if its list was
  pub recalls_first : {old mid new : Dev S} → GoesOn kind old mid [] → GoesOn kind mid new [] → (file : FileView) (off len done n r y : ℕ) (ps : List Piece)
      → 0 < n → done + n ≤ len → r * old.settings.region + y ≡ off + done → y + n ≤ old.settings.region → (done ≡ 0) ⊎ (y ≡ 0)
      → IsFileRead kind old mid file off done ps → MayRecall kind (region_slices (file.region r)) mid new → RecallsFirst kind old new file off len
  recalls_first {old = old} g h file off len done n r y ps some fits at within start first may = elim may [
    | inl same ↦ record {
      upto = done;
      within = omega (arith, fits);
      facts = first.facts;
      wants = first.wants;
      recalls = recalls_later laws g h first.facts first.recalls same;
    }
    | inr next ↦ record {
      upto = done + n;
      within = fits;
      facts = first.facts ++ next.0;
      wants = wants_more old.settings.region off done n r y file first.facts next.0 (omega (arith, some, within)) some at within start first.wants next.1;
      recalls = recalls_on laws g h first.facts next.0 first.recalls next.2;
    }
  ]

-- a fault leaves the lists that are remembered
pub leaves_lists : {S : Type 0} (kind : StoreKind S) (wants : List Slice) (old new : Dev S) (why : Fault) → remembered new ≡ remembered old
    → LeavesLists kind wants old new why
leaves_lists kind wants old new fault.Memory same = inl same
leaves_lists kind wants old new fault.Write same = same
leaves_lists kind wants old new (fault.Read k) same = same
leaves_lists kind wants old new (fault.Punch k) same = same
leaves_lists kind wants old new (fault.Damaged k) same = same

-- or they were read before it came
pub may_recall : {S : Type 0} (kind : StoreKind S) (wants : List Slice) (old new : Dev S) (why : Fault) → LeavesLists kind wants old new why
    → MayRecall kind wants old new
may_recall kind wants old new fault.Memory left = left
may_recall kind wants old new fault.Write left = inl left
may_recall kind wants old new (fault.Read k) left = inl left
may_recall kind wants old new (fault.Punch k) left = inl left
may_recall kind wants old new (fault.Damaged k) left = inl left

-- the base of a region was read, and then memory was short
pub base_recalled : {S : Type 0} {kind : StoreKind S} (old new : Dev S) (o : Option Spill) (base : Spill) (under : List Entry) → o ≡ Some base
    → IsSliceRead kind old new base.slice under → MayRecall kind (base_slices o) old new
base_recalled {kind = kind} old new o base under is read = subst (λ (b : Option Spill). MayRecall kind (base_slices b) old new) (sym is)
    (inr (base_facts (Some base) under, base_wants (Some base) under, read.recalls))

lacks_memory : {S : Type 0} (kind : StoreKind S) (old new : Dev S) (now : Option RegionValue) → IsRegionFault kind old new now fault.Memory
lacks_memory kind old new None = refl
lacks_memory kind old new (Some v) = base v.base
  where
    base : (o : Option Spill) → IsBaseFault kind old new o fault.Memory
    base None = refl
    base (Some s) = tt

-- memory may be short at any time
pub leaves_memory : {S : Type 0} (kind : StoreKind S) (old new : Dev S) (now : Option RegionValue) (why : Fault) → why ≡ fault.Memory
    → MayRecall kind (region_slices now) old new → LeavesRegion kind old new now why
leaves_memory kind old new now why is left = subst (λ (f : Fault). LeavesRegion kind old new now f) (sym is) (record {
  cause = lacks_memory kind old new now;
  left = left;
})
