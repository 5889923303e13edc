-- Lines over stores that tell their content.
use Rattle.wtf_core.proofs.Common.{slice_get, slice_index_or, All, and_from, le-ltb, All-nil, All-head, All-tail, slice_get-get_or, slice_get_within, element}
use Rattle.wtf_core.proofs.Common.{Settings, Slice, EachFollows, StoreKind, KindLaws, TellsAll, All-meaning, RegionValue, Spill, Value, told_by, byte_at}
use Rattle.wtf_core.proofs.Common.{shown_byte, Span, span, byte_at-within, byte_at-kept, told_inside, Answer, Event, InTx, NoTx, extents_cover, GcView}
use Rattle.wtf_core.proofs.Common.{is_garbage, new_gc, off, NamesNone, is_below, last_scan, OwnBytes, LieIn, IsSafe, Went, are_apart, Tree, BaseBytes}
use Rattle.wtf_core.proofs.Common.{MaybeBytes, ValueBytes, any_slice, Told, is_told, TellsOn, is_told-later, told_byte, Remembered, CacheTrue, is_place_inside}
use Rattle.wtf_core.proofs.Common.{is_inside, place_to, inside_stays, lists_have, PutTurn, DropTurn, any_byte, no_slice, has_copies, SaveTurn, NamesTables}
use Rattle.wtf_core.proofs.Common.{IsPlain, AreSound, IsTidied, TellsTables, HoldsOfAdded, ServesTold, Refuses, Begins, TryTurn, Drops, TablesView, BesideView}
use Rattle.wtf_core.proofs.Common.{of_client, of_label, metadata_now, now_bytes, bytes_alone, save_names, tables_weaker, tables_later, begin_went, attempt_went}
use Rattle.wtf_core.proofs.Common.{abort_went, put_went, drop_went, save_went, IsCoreOf, CoreBytes, IsImageOfTree, IsBareImage, TellsCore, IsWide, IsWithin}
use Rattle.wtf_core.proofs.Common.{IsToldLine, stores_of, CoreView, ◌≡◌, ◌<◌, ◌≤◌, ◌+◌, ◌*◌, ◌&&◌, ℕ, zero, suc, nat_lt, cond, not, Bool, true, false, List, []}
use Rattle.wtf_core.proofs.Common.{◌∷◌, length, get_or, take, Option, None, Some, MatchOption, refl, sym, ap, ◌∙◌, subst, true≢false, arith}
use Rattle.wtf_overlay.specs.Origin.{Place}
use Rattle.wtf_image.specs.Rules.{size_in}
use Rattle.wtf_clients.specs.Telling.{ListedBytes}
use Rattle.wtf_core.proofs.{Quieted.tidied_safe, Quieted.tidied_idle, Quieted.tidied_kept, Answering.put_plain, Answering.drop_plain, Restored.bare_loaded}
use Rattle.wtf_core.proofs.{Quieted.tidied_images, Quieted.tidied_stage, Quieted.tidied_collected, Restored.pinned_alone, Restored.inside_loaded}
use Rattle.wtf_core.proofs.{Naming.put_names, Naming.drop_names, Naming.tidied_bytes, Restored.stands_now, Started.nothing_in, Started.none_of, Started.idle_of}

-- an answer that is not that of a read that failed
abbrev pub IsUnfailed : Answer → Type 0
IsUnfailed (Answer.FaultRead k) = ⊥
IsUnfailed (Answer.Damaged k) = ⊥
IsUnfailed a = Unit {0}

pub plain_unfailed : (a : Answer) → IsPlain a → IsUnfailed a
plain_unfailed (Answer.FaultRead k) h = h
plain_unfailed (Answer.Damaged k) h = h
plain_unfailed a h = tt

save_unfailed : (Up : Type 0) (old new : TablesView) (a : Answer) → SaveTurn Up old new a → IsUnfailed a
save_unfailed Up old new (Answer.Saved n) turn = tt
save_unfailed Up old new Answer.FaultSave turn = tt
save_unfailed Up old new a turn = absurd turn

-- what tables name where they name nothing new goes on passing a test that more pass, also by the lists of bases
pub listed_on : (told later : Told) → TellsOn told later → (b : ℕ) (P R : List Place → Bool) → ((qs : List Place) → P qs ≡ true → R qs ≡ true)
    → (old new : TablesView) → NamesTables old new → R [] ≡ true → ListedBytes b told P old → ListedBytes b later R new
listed_on told later on b P R places old new names hole h =
    names R (lists_have b later R) hole (tables_later b told later R on old (tables_weaker b told P R places old h))

-- a line that names nothing new, over stores that go on to tell
module _ {S : Type 0} (kind : StoreKind S) (t : Span S) (settings : Settings) (on : TellsOn (byte_at kind t.before) (byte_at kind t.after))
    (stay : (qs : List Place) → is_inside kind t.before settings qs ≡ true → is_inside kind t.after settings qs ≡ true) where
  -- what goes on to where this is so
  abbrev Goes : TablesView → TablesView → Type 0
  Goes old new = Went settings.region (byte_at kind t.before) (byte_at kind t.after) (HoldsOfAdded kind t settings) old new

  names_told : (lists : Remembered) (old new : TablesView) (a : Answer) → NamesTables old new
      → (ListedBytes settings.region (byte_at kind t.before) (is_told (byte_at kind t.before)) old → Goes old new) → IsUnfailed a
      → TellsTables kind t.before settings lists old → ServesTold kind t settings (old, new) a
  names_told lists old new a names went unfailed tells =
      let size : ℕ = settings.region in
      let told : Told = byte_at kind t.before in
      let later : Told = byte_at kind t.after in
      let P : List Place → Bool = has_copies settings.replicas in
      record {
        went = went tells.names;
        names = listed_on told later on size (is_told told) (is_told later) (λ qs is. is_told-later told later qs on is) old new names refl tells.names;
        wide = listed_on told later on size P P (λ qs is. is) old new names refl;
        within = listed_on told later on size (is_inside kind t.before settings) (is_inside kind t.after settings) stay old new names refl;
        undamaged = λ within k is. subst IsUnfailed is unfailed;
        unread = λ wide k is. absurd (subst IsUnfailed is unfailed);
      }

-- one that is lent no store
module _ {S : Type 0} (kind : StoreKind S) (down : ℕ → Bool) (shelf : List S) (settings : Settings) (lists : Remembered) where
  abbrev told : Told
  told = byte_at kind shelf

  abbrev Added : (List Place → Bool) → Type 0
  Added P = HoldsOfAdded kind (span down shelf shelf) settings P

  abbrev Known : TablesView → Type 0
  Known old = ListedBytes settings.region told (is_told told) old

  pub still_on : TellsOn told told
  still_on p byte is = is

  pub still_told : (old new : TablesView) (a : Answer) → NamesTables old new → (Known old → Went settings.region told told Added old new) → IsPlain a
      → TellsTables kind shelf settings lists old → ServesTold kind (span down shelf shelf) settings (old, new) a
  still_told old new a names went plain = names_told kind (span down shelf shelf) settings still_on (λ qs is. is) lists old new a names went
      (plain_unfailed a plain)

  -- one of a client that begins, attempts or aborts
  pub begun_told : (old new : TablesView) (c : ℕ) (a : Answer) → AreSound old → NamesTables old new → IsPlain a
      → MatchOption (of_client old.clients c) (Begins old new c a) (λ x. Refuses old new c InTx a) → TellsTables kind shelf settings lists old
      → ServesTold kind (span down shelf shelf) settings (old, new) a
  begun_told old new c a sound names plain turn =
      still_told old new a names (λ known. begin_went settings.region told told still_on Added old new sound known names c a turn) plain

  pub tried_told : (old new : TablesView) (c : ℕ) (a : Answer) → AreSound old → NamesTables old new → IsPlain a
      → MatchOption (of_client old.clients c) (Refuses old new c NoTx a) (λ x. TryTurn old new c x a) → TellsTables kind shelf settings lists old
      → ServesTold kind (span down shelf shelf) settings (old, new) a
  tried_told old new c a sound names plain turn =
      still_told old new a names (λ known. attempt_went settings.region told told still_on Added old new sound known names c a turn) plain

  pub aborted_told : (old new : TablesView) (c : ℕ) (a : Answer) → AreSound old → NamesTables old new → IsPlain a
      → MatchOption (of_client old.clients c) (Refuses old new c NoTx a) (λ x. Drops old new c x a) → TellsTables kind shelf settings lists old
      → ServesTold kind (span down shelf shelf) settings (old, new) a
  aborted_told old new c a sound names plain turn =
      still_told old new a names (λ known. abort_went settings.region told told still_on Added old new sound known names c a turn) plain

  -- a put, and a drop, of a job
  pub put_told : (old new : TablesView) (j : ℕ) (a : Answer) → AreSound old → PutTurn old new j a → TellsTables kind shelf settings lists old
      → ServesTold kind (span down shelf shelf) settings (old, new) a
  put_told old new j a sound turn =
      let names = put_names old new j sound a turn in
      still_told old new a names (λ known. put_went settings.region told told still_on Added old new sound known names j a turn) (put_plain old new j a turn)

  pub drop_told : (old new : TablesView) (j : ℕ) (a : Answer) → AreSound old → DropTurn old new j a → TellsTables kind shelf settings lists old
      → ServesTold kind (span down shelf shelf) settings (old, new) a
  drop_told old new j a sound turn =
      let names = drop_names old new j sound a turn in
      still_told old new a names (λ known. drop_went settings.region told told still_on Added old new sound known names j a turn) (drop_plain old new j a turn)

-- and a save
module _ {S : Type 0} {kind : StoreKind S} (laws : KindLaws kind) (down : ℕ → Bool) (before after : List S) (goes : EachFollows kind before after []) where
  tells_on : TellsOn (byte_at kind before) (byte_at kind after)
  tells_on p byte is = byte_at-kept laws goes p byte tt is

  pub save_told : (settings : Settings) → settings.servers ≤ length before → (lists : Remembered) (Up : Type 0) (old new : TablesView) (a : Answer)
      → AreSound old → SaveTurn Up old new a → TellsTables kind before settings lists old → ServesTold kind (span down before after) settings (old, new) a
  save_told settings enough lists Up old new a sound turn =
      let names = save_names Up old new a sound turn in
      names_told kind (span down before after) settings tells_on (inside_stays laws goes settings enough) lists old new a names
      (λ known. save_went settings.region (byte_at kind before) (byte_at kind after) tells_on (HoldsOfAdded kind (span down before after) settings) old new
      sound known names Up a turn) (save_unfailed Up old new a turn)

-- ---- dropping versions that no one sees
-- the core behind the answer, and then with tables of which such versions were dropped
abbrev with_tables : CoreView → TablesView → CoreView
with_tables core tables = record core { tables = tables }

module _ {S : Type 0} (kind : StoreKind S) (t : Span S) (old answered : CoreView) (tables : TablesView) (sound : AreSound answered.tables)
    (tidy : IsTidied answered.tables tables) (lie : LieIn answered.tables.beside.gc (size_in kind t.after)) where
  -- what passes a test that holds of all that was named, also by the lists of bases
  listed_tidied : (size : ℕ) (told : Told) (P : List Place → Bool) → ListedBytes size told P answered.tables → ListedBytes size told P tables
  listed_tidied size told P h = tidied_bytes P (lists_have size told P) answered.tables tables sound tidy h

  tells_tidied : TellsCore kind t.after answered → TellsCore kind t.after (with_tables answered tables)
  tells_tidied h = record {
    tables = record {
      all = h.tables.all;
      punched = h.tables.punched;
      lie = h.tables.lie;
      cache = h.tables.cache;
      names = listed_tidied answered.settings.region (byte_at kind t.after) (is_told (byte_at kind t.after)) h.tables.names;
      away = listed_tidied answered.settings.region (byte_at kind t.after) (are_apart h.tables.punched) h.tables.away;
    };
    safe = tidied_safe answered.settings.region (byte_at kind t.after) (size_in kind t.after) answered.tables tables sound tidy lie h.tables.names h.safe;
  }

  pub tidied_told : (e : Event) (a : Answer) → IsToldLine kind t old answered e a → IsToldLine kind t old (with_tables answered tables) e a
  tidied_told e a h = record {
    next = tells_tidied h.next;
    unnamed = subst (λ (b : BesideView). NamesNone answered.settings.region (byte_at kind t.after) (is_garbage b.gc) tables) (sym tidy.beside)
        (listed_tidied answered.settings.region (byte_at kind t.after) (off (is_garbage answered.tables.beside.gc)) h.unnamed);
    never = λ X low none. listed_tidied old.settings.region (byte_at kind t.after) (off X) (h.never X low none);
    images = tidied_images kind t old answered tables sound tidy h.images;
    wide = λ wide. listed_tidied answered.settings.region (byte_at kind t.after) (has_copies answered.settings.replicas) (h.wide wide);
    within = λ within. listed_tidied answered.settings.region (byte_at kind t.after) (is_inside kind t.after answered.settings) (h.within within);
    undamaged = h.undamaged;
    unread = h.unread;
    quiet = record {
      on = λ s next moves was. tidied_stage kind t.after answered tables tidy next (h.quiet.on s next moves was);
      idle = λ s next moves was. tidied_idle kind t.after answered tables tidy next (h.quiet.idle s next moves was);
      kept = λ k n is said found. tidied_kept kind t.after answered tables tidy k (h.quiet.kept k n is said found);
      collected = λ k n is said was. tidied_collected kind t.after answered tables tidy k (h.quiet.collected k n is said was);
      stays = λ k s next moves was. tidied_collected kind t.after answered tables tidy k (h.quiet.stays k s next moves was);
    };
  }

-- ---- the core before the first line

true_none : (shown : Told) (size : ℕ) (lists : Remembered) → lists ≡ [] → CacheTrue shown size [] lists
true_none shown size lists none = subst (CacheTrue shown size []) (sym none) (λ e there. absurd (nothing_in e there))

-- what a job's value names it has of the slice of its base too
own_bytes : (P : List Place → Bool) (v : Option RegionValue) → MaybeBytes P any_slice v → OwnBytes P v
own_bytes P None h = tt
own_bytes P (Some v) h = h.base

-- one that names no byte
pub told_first : {S : Type 0} (kind : StoreKind S) (shelf : List S) (core : CoreView) → ((P : List Place → Bool) (Q : Slice → Bool) → CoreBytes P Q core)
    → core.lists ≡ [] → TellsAll kind shelf → TellsCore kind shelf core × IsWide kind shelf core × IsWithin kind shelf core
told_first kind shelf core named none all =
    let told : Told = byte_at kind shelf in
    let size : ℕ = core.settings.region in
    let gc : GcView = core.tables.beside.gc in
    let listed : (P : List Place → Bool) → ListedBytes size told P core.tables = λ P. (named P (lists_have size told P)).tables in
    let Last : List Place → Bool = off (is_below (last_scan gc)) in (
      record {
        tables = record {
          all = all;
          punched = [];
          lie = All-nil _;
          cache = true_none (shown_byte kind shelf) size core.lists none;
          names = listed (is_told told);
          away = listed (are_apart []);
        };
        safe = record {
          gone = listed (off (extents_cover gc.freed));
          done = listed (off (λ p. is_below gc.older p && not (extents_cover gc.newer.found p)));
          going = λ r runs X missed. listed (off X);
          since_txns = λ c x there late. ((named Last any_slice).tables.each c x there).log;
          since_jobs = λ j x there unmarked. own_bytes Last x.value ((named Last any_slice).tables.planned j x there);
          own_txns = λ c x there P hole base log. (listed P).each c x there;
          own_jobs = λ j x there P hole base stored. (listed P).planned j x there;
        };
      },
      listed (has_copies core.settings.replicas),
      listed (is_inside kind shelf core.settings),
    )

-- what one names that was loaded of the image of a tree
names_image : (size_at : ℕ → ℕ → ℕ) (bytes : List ℕ) (core : CoreView) → AreSound core.tables → IsCoreOf size_at bytes core → (told : Told) (t : Tree)
    → IsImageOfTree told bytes t → ListedBytes core.settings.region told (is_told told) core.tables
names_image size_at bytes core sound of_it told t image =
    bytes_alone (is_told told) (lists_have core.settings.region told (is_told told)) core.tables (λ c. none_of core.tables.clients c of_it.clients)
    (λ j. idle_of core.tables.beside j (ap (λ (b : BesideView). b.jobs) of_it.beside)) (pinned_alone core sound of_it.clients of_it.beside)
    (stands_now size_at bytes core of_it told t image core.tables.next_tx (omega arith)).bytes

-- places all lie apart from no range, and off a set that has none
apart_none : (qs : List Place) → are_apart [] qs ≡ true
apart_none [] = refl
apart_none (q ∷ qs) = apart_none qs

off_none : (X : Place → Bool) → ((p : Place) → X p ≡ false) → (qs : List Place) → off X qs ≡ true
off_none X none [] = refl
off_none X none (q ∷ qs) = and_from (not (X q)) (off X qs) (ap not (none q)) (off_none X none qs)

-- before the first scan collection is safe, where nothing is open
safe_first : (size : ℕ) (told : Told) (tables : TablesView) → tables.beside.gc ≡ new_gc → ((c : ℕ) → of_client tables.clients c ≡ None)
    → ((j : ℕ) → of_label tables.beside.jobs j ≡ None) → ListedBytes size told (is_told told) tables → IsSafe size told tables
safe_first size told tables gc clients jobs names = record {
  gone = none_of_set (extents_cover tables.beside.gc.freed) (λ p. ap (λ (g : GcView). extents_cover g.freed p) gc);
  done = none_of_set (λ p. is_below tables.beside.gc.older p && not (extents_cover tables.beside.gc.newer.found p))
      (λ p. ap (λ (g : GcView). is_below g.older p && not (extents_cover g.newer.found p)) gc ∙ ap (λ b. b && true) (below_none (nat_lt p.file 8) p));
  going = λ r runs X missed. absurd (some_none (ap (λ (g : GcView). g.running) gc) runs);
  since_txns = λ c x there late. absurd (some_none (clients c) there);
  since_jobs = λ j x there unmarked. absurd (some_none (jobs j) there);
  own_txns = λ c x there. absurd (some_none (clients c) there);
  own_jobs = λ j x there. absurd (some_none (jobs j) there);
}
  where
    none_of_set : (X : Place → Bool) → ((p : Place) → X p ≡ false) → NamesNone size told X tables
    none_of_set X none = tables_weaker size told (is_told told) (off X) (λ qs is. off_none X none qs) tables names

    below_none : (b : Bool) (p : Place) → nat_lt p.at (cond b (slice_index_or [] (p.server * 8 + p.file) 0) 0) ≡ false
    below_none true p = le-ltb p.at 0 (omega arith)
    below_none false p = le-ltb p.at 0 (omega arith)

    some_none : {A : Type 0} {o : Option A} {x : A} → o ≡ None → o ≡ Some x → ⊥
    some_none none some = cc

pub told_loaded : {S : Type 0} (kind : StoreKind S) (shelf : List S) (bytes : List ℕ) (core : CoreView) → AreSound core.tables
    → IsCoreOf (size_in kind shelf) bytes core → TellsAll kind shelf → (t : Tree) → IsImageOfTree (byte_at kind shelf) bytes t → TellsCore kind shelf core
told_loaded kind shelf bytes core sound of_it all t image =
    let told : Told = byte_at kind shelf in
    let size : ℕ = core.settings.region in
    let names : ListedBytes size told (is_told told) core.tables = names_image (size_in kind shelf) bytes core sound of_it told t image in
    record {
      tables = record {
        all = all;
        punched = [];
        lie = All-nil _;
        cache = true_none (shown_byte kind shelf) size core.lists of_it.lists;
        names = names;
        away = tables_weaker size told (is_told told) (are_apart []) (λ qs is. apart_none qs) core.tables names;
      };
      safe = safe_first size told core.tables (ap (λ (b : BesideView). b.gc) of_it.beside) (λ c. none_of core.tables.clients c of_it.clients)
          (λ j. idle_of core.tables.beside j (ap (λ (b : BesideView). b.jobs) of_it.beside)) names;
    }

-- where the image gives no region a list in a slice, each byte that it names lies inside the stores
base_plain : (P : List Place → Bool) (Q : Slice → Bool) (base : Option Spill) → BaseBytes any_byte no_slice base → BaseBytes P Q base
base_plain P Q None none = tt
base_plain P Q (Some s) none = absurd (true≢false (sym none.1))

value_plain : (P : List Place → Bool) (Q : Slice → Bool) (v : Option Value) → ValueBytes P any_slice v → ValueBytes any_byte no_slice v → ValueBytes P Q v
value_plain P Q None h none = tt
value_plain P Q (Some (Value.Node n)) h none = tt
value_plain P Q (Some (Value.Names ns)) h none = tt
value_plain P Q (Some (Value.Count n)) h none = tt
value_plain P Q (Some (Value.Last r)) h none = tt
value_plain P Q (Some (Value.Region v)) h none = record { base = base_plain P Q v.base none.base; entries = h.entries }

pub within_loaded : {S : Type 0} (kind : StoreKind S) (shelf : List S) (bytes : List ℕ) (core : CoreView) → AreSound core.tables
    → IsCoreOf (size_in kind shelf) bytes core → IsBareImage bytes → IsWithin kind shelf core
within_loaded kind shelf bytes core sound of_it bare =
    let P : List Place → Bool = is_inside kind shelf core.settings in
    let Q : Slice → Bool = lists_have core.settings.region (byte_at kind shelf) P in
    let inside = now_bytes P any_slice core.tables (inside_loaded kind shelf bytes core sound of_it).tables in
    let none = now_bytes any_byte no_slice core.tables (bare_loaded (size_in kind shelf) bytes core sound of_it bare) in
    bytes_alone P Q core.tables (λ c. none_of core.tables.clients c of_it.clients)
    (λ j. idle_of core.tables.beside j (ap (λ (b : BesideView). b.jobs) of_it.beside)) (pinned_alone core sound of_it.clients of_it.beside)
    (λ q. value_plain P Q (metadata_now core.tables.kv q) (inside q) (none q))

-- ---- bytes that the stores of the settings' servers tell

-- a store among the first is there, at the same index
first_stores : {S : Type 0} (n : ℕ) (xs : List S) (k : ℕ) (x : S) → slice_get (take n xs) k ≡ Some x → (k < n) × (slice_get xs k ≡ Some x)
first_stores zero xs k x is = absurd (let below = slice_get_within [] k x is in omega (arith, below))
first_stores (suc n) [] k x is = absurd (let below = slice_get_within [] k x is in omega (arith, below))
first_stores (suc n) (y ∷ ys) zero x is = (omega arith, is)
first_stores (suc n) (y ∷ ys) (suc k) x is = let both = first_stores n ys k x is in (omega (arith, both.0), both.1)

-- a byte that one of the first tells they all tell
first_byte : {S : Type 0} (kind : StoreKind S) (n : ℕ) (shelf : List S) (p : Place) (byte : ℕ) → byte_at kind (take n shelf) p ≡ Some byte
    → (p.server < n) × (byte_at kind shelf p ≡ Some byte)
first_byte {S} kind n shelf p byte is =
    let below : p.server < length (take n shelf) = byte_at-within kind (take n shelf) p byte is in
    let d : S = element (take n shelf) p.server below in
    let here : slice_get (take n shelf) p.server ≡ Some (get_or (take n shelf) p.server d) = slice_get-get_or (take n shelf) p.server d below in
    let both = first_stores n shelf p.server (get_or (take n shelf) p.server d) here in
    (both.0, ap (λ (s : Option S). told_by kind s p) (both.1 ∙ sym here) ∙ is)

module _ {S : Type 0} {kind : StoreKind S} (laws : KindLaws kind) (shelf : List S) (settings : Settings) where
  abbrev first_told : Told
  first_told = byte_at kind (stores_of settings shelf)

  pub first_on : TellsOn first_told (byte_at kind shelf)
  first_on p byte is = (first_byte kind settings.servers shelf p byte is).1

  -- the places of such a byte lie inside
  first_places : (qs : List Place) (byte : ℕ) → All (λ q. first_told q ≡ Some byte) qs → is_inside kind shelf settings qs ≡ true
  first_places [] byte all = refl
  first_places (q ∷ qs) byte all =
      let both = first_byte kind settings.servers shelf q byte (All-head (λ p. first_told p ≡ Some byte) q qs all) in
      let inside = told_inside laws shelf q byte both.1 in
      and_from (is_place_inside kind shelf settings q) (is_inside kind shelf settings qs)
      (place_to kind shelf settings q (element shelf q.server inside.0) both.0 inside)
      (first_places qs byte (All-tail (λ p. first_told p ≡ Some byte) q qs all))

  first_inside : (qs : List Place) → is_told first_told qs ≡ true → is_inside kind shelf settings qs ≡ true
  first_inside qs is =
      let byte = told_byte first_told qs is in
      first_places qs byte.0 (All-meaning first_told qs byte.0 byte.1)

-- so all that a core names lies inside, also what the lists of its bases name, where these stores tell the tree of its image
pub within_from : {S : Type 0} {kind : StoreKind S} → KindLaws kind → (shelf : List S) (bytes : List ℕ) (core : CoreView) → AreSound core.tables
    → IsCoreOf (size_in kind shelf) bytes core → (t : Tree) → IsImageOfTree (byte_at kind (stores_of core.settings shelf)) bytes t → IsWithin kind shelf core
within_from {kind = kind} laws shelf bytes core sound of_it t image =
    let size : ℕ = core.settings.region in
    let told : Told = byte_at kind (stores_of core.settings shelf) in
    let P : List Place → Bool = is_inside kind shelf core.settings in
    let named : ListedBytes size told (is_told told) core.tables = names_image (size_in kind shelf) bytes core sound of_it told t image in
    tables_later size told (byte_at kind shelf) P (first_on laws shelf core.settings) core.tables
    (tables_weaker size told (is_told told) P (first_inside laws shelf core.settings) core.tables named)
