-- What opening a durable store gives, and what a stop in it leaves.
use Rattle.std.proofs.Common.{◌≡◌, ◌≢◌, ◌⊎◌, ◌++◌, ◌∙◌, ◌<◌, ℕ, Bool, true, false, List, [], ◌∷◌, None, Some, refl, sym, ap, subst, inl, inr, ⊎_elim, arith}
use Rattle.std.specs.Bool.{MatchBool}
use Rattle.std.specs.Option.{option_map}
use Rattle.wtf_base.specs.declared.settings.Settings.{Settings}
use Rattle.wtf_dev.specs.Disk.{DiskGoesOn, DiskKind, DiskLaws, DiskLeaves, MayLeave}
use Rattle.wtf_dev.specs.Each.{EachFollows}
use Rattle.wtf_dev.specs.Keep.{KeeperView}
use Rattle.wtf_dev.specs.Store.{KindLaws}
use Rattle.wtf_dev.specs.Sums.{TellsAll}
use Rattle.wtf_dev.proofs.Each.{each_same}
use Rattle.wtf_imagefmt.specs.Images.{HasText}
use Rattle.wtf_imagefmt.specs.Lookups.{plain}
use Rattle.wtf_imagefmt.specs.Rows.{ImageRows}
use Rattle.wtf_imagefmt.specs.Savable.{IsSavable}
use Rattle.wtf_imagefmt.specs.Saving.{IsSaveOf, Says, header_of}
use Rattle.wtf_imagefmt.specs.Shown.{shown, shown_at}
use Rattle.wtf_image.specs.Rules.{AreGoodSettings, IsGoodTree}
use Rattle.wtf_journal.specs.Follows.{SyncedState, synced_kind, synced_laws}
use Rattle.wtf_journal.specs.Held.{Held, IsJournalOpened, IsTextOf, ends_in_changes, held_by, renewal}
use Rattle.wtf_journal.specs.Keeper.{StandsAt}
use Rattle.wtf_journal.specs.Meant.{MeansOneOf, StandsForImage, means_on}
use Rattle.wtf_journal.specs.Moments.{weaker}
use Rattle.wtf_journal.specs.Records.{RestsAt}
use Rattle.wtf_journal.specs.Scan.{JournalGives, KeepsMeaning}
use Rattle.wtf_journal.proofs.Scans.{same_bytes}
use Rattle.wtf_replica.specs.Bytes.{byte_at}
use Rattle.wtf_meta.specs.Contents.{Told}
use Rattle.wtf_meta.specs.Maps.{Map}
use Rattle.wtf_meta.proofs.Telling.{TellsOn}
use Rattle.wtf_model.specs.declared.answer.Answer.TheVariants as answer
use Rattle.wtf_model.specs.declared.event.Event.TheVariants as event
use Rattle.wtf_model.specs.Tree.{Tree, root_alone}
use Rattle.wtf_clients.specs.Keeping.{IsHeldBy, IsImageAt}
use Rattle.wtf_clients.specs.Views.{metadata_now}
use Rattle.wtf_clients.proofs.Later.{Stands-later}
use Rattle.wtf_clients.proofs.Punched.{tells_punched}
use Rattle.wtf_core.specs.Promises.{CoreHasRoom, Watches, span_of}
use Rattle.wtf_core.specs.Standing.{StandsFor}
use Rattle.wtf_core.specs.Views.{CoreView}
use Rattle.wtf_core.proofs.Taking.{same_rows}
use Rattle.wtf_serve.specs.Beginnings.{CanBegin}
use Rattle.wtf_serve.specs.Openings.{IsOpeningOf, IsTakenOver, Opening, Opens, StartsFrom, first, new_opening}
use Rattle.wtf_serve.proofs.Keeping.{text_some}
use Rattle.wtf_serve.proofs.Picturing.{starts_on}
use Rattle.wtf_durable.specs.Found.{IsBegun, IsFoundBy}
use Rattle.wtf_durable.specs.Handled.{Handled, HandsImages}
use Rattle.wtf_durable.specs.Journaled.{IsJournaled}
use Rattle.wtf_durable.specs.Opened.{IsGivenBy, IsNewlySaved, LeavesRecords, OpeningSurvives, OpensDurable}
use Rattle.wtf_durable.specs.Sound.{durable_engine}
use Rattle.wtf_durable.specs.Stops.{FindsTree, Leftover, LeavesTree, StoresLeft, left_at}
use Rattle.wtf_durable.specs.Views.{DurableScene, DurableView, ReachesGate, core_scene, durable_scene}
use Rattle.wtf_durable.proofs.Cores.{now_savable, now_stands, same_map}
use Rattle.wtf_durable.proofs.Finding.{no_bodies}
use Rattle.wtf_durable.proofs.Lasting.{watches_carry}
use Rattle.wtf_durable.proofs.Ready.{begun_engine, ready_same, ready_saved, ready_watched}
use Rattle.wtf_durable.proofs.Pictures.{HavePicture, have_same, image_gives, image_have, journaled_has, save_picture}
use Rattle.wtf_durable.proofs.Stores.{stores_since}
use Rattle.wtf_durable.proofs.Trees.{picture_starts, tree_found}

-- ---- trees that are found
finds_on : (told later : Told) (c : List ℕ) (t : Tree) → TellsOn told later → FindsTree told c t → FindsTree later c t
finds_on told later c t on f =
    record { held = f.held; gives = f.gives; image = f.image; text = f.text; tree = starts_on told later f.image t on f.tree }

finds_kept : (told : Told) (before c : List ℕ) (t : Tree) → ((held : Held) → JournalGives held_by None before held → JournalGives held_by None c held)
    → FindsTree told before t → FindsTree told c t
finds_kept told before c t keeps f = record { held = f.held; gives = keeps f.held f.gives; image = f.image; text = f.text; tree = f.tree }

-- what has the text of an image is that
held_rows : (held : Held) (image : List ℕ) (x : ImageRows) → IsTextOf held image → HasText x image → held ≡ Some x
held_rows None image x text has = absurd (text_some x image has text)
held_rows (Some y) image x text has = ap (λ (z : ImageRows). Some z) (same_rows y x image text has)

held_none : (held : Held) (image : List ℕ) → IsTextOf held image → image ≡ [] → held ≡ None
held_none None image text none = refl
held_none (Some y) image text none = absurd (text_some y image text none)

opening_of : (asked : Settings) (bytes : List ℕ) (o : Opening) → (bytes ≡ [] → ⊥) → Opens asked bytes o → IsOpeningOf bytes o
opening_of asked [] o some opens = absurd (some refl)
opening_of asked (b ∷ bytes) o some opens = opens

-- and is taken where such an image is
record IsTakenAs (x : ImageRows) : Type 0 where
  good : AreGoodSettings x
  tree : IsGoodTree x

taken_as : (size : ℕ → ℕ → ℕ) (x : ImageRows) (bytes : List ℕ) → HasText x bytes → IsTakenOver size bytes → IsTakenAs x
taken_as size x [] text taken = absurd (text_some x [] text refl)
taken_as size x (b ∷ bytes) text (y, taken) =
    subst IsTakenAs (same_rows y x (b ∷ bytes) taken.text text) (record { good = taken.good; tree = taken.tree })

some_bytes : (a b : List ℕ) → Some a ≡ Some b → a ≡ b
some_bytes a b e = cc

-- ---- the image that the journal gave
module _ {S D : Type 0} (stores : DiskKind S) (kind : DiskKind D) (asked : Settings) (shelf : List (SyncedState S)) (disk : D × D) (d : DurableView) where
  found_given : (fresh : Bool) (is : IsFoundBy stores kind asked shelf disk d fresh) → IsGivenBy kind disk.0 is.image
  found_given fresh is tells =
      let opened = is.journal tells in
      record {
        held = opened.held;
        gives = record { bodies = opened.bodies; has = opened.has; held_is = opened.held_is };
        text = opened.text;
      }

  -- none where it is fresh
  pub none_given : (fresh : Bool) → IsFoundBy stores kind asked shelf disk d fresh → fresh ≡ true → IsGivenBy kind disk.0 []
  none_given fresh found is =
      let f : IsFoundBy stores kind asked shelf disk d true = subst (IsFoundBy stores kind asked shelf disk d) is found in
      subst (λ (b : List ℕ). IsGivenBy kind disk.0 b) f.fresh_is (found_given true f)

module _ {S D : Type 0} (stores : DiskKind S) (kind : DiskKind D) (store_laws : DiskLaws stores) (disk_laws : DiskLaws kind) where
  laws : KindLaws (synced_kind stores)
  laws = synced_laws stores store_laws

  abbrev told_at : List (SyncedState S) → Told
  told_at shelf = byte_at (synced_kind stores) shelf

  -- ---- a stop leaves one of these
  module _ (asked : Settings) (shelf shelf' : List (SyncedState S)) (follows : EachFollows (synced_kind stores) shelf shelf' []) (before : D)
      (left : Leftover) (stopped : StoresLeft stores shelf shelf' left.stores) where
    on : TellsAll (synced_kind stores) shelf → TellsOn (told_at shelf) (left_at left.stores)
    on tells p b is = stores_since stores store_laws shelf shelf' [] follows tells left.stores stopped p b refl is

    as_meant : KeepsMeaning held_by None (kind.view before) left.journal → OpeningSurvives stores kind asked shelf before left
    as_meant (c, could, keeps) = record {
      before = c;
      could = could;
      map = inl keeps;
      tree = λ tells t found. finds_on (told_at shelf) (left_at left.stores) (left.journal 0) t (on tells)
          (finds_kept (told_at shelf) c (left.journal 0) t (λ held gives. (keeps.same held).0 gives) found);
    }

    as_before : MayLeave (kind.view before) left.journal → OpeningSurvives stores kind asked shelf before left
    as_before may = as_meant (left.journal 0, may 0, same_bytes held_by None (left.journal 0) (left.journal 0) refl)

    -- the root alone, where there was no record
    module _ (tells : (kind.view before).tells ≡ true)
        (only : (held : Held) → JournalGives held_by None ((kind.view before).file 0).seen held → held ≡ None)
        (saved : IsNewlySaved asked (told_at shelf) ((kind.view before).file 0).seen (left.journal 0)) where
      root_is : (t : Tree) → FindsTree (told_at shelf) ((kind.view before).file 0).seen t → t ≡ root_alone
      root_is t f =
          let empty : f.image ≡ [] = subst (λ (h : Held). IsTextOf h f.image) (only f.held f.gives) f.text in
          subst (λ (b : List ℕ). StartsFrom (told_at shelf) b t) empty f.tree

      as_saved : OpeningSurvives stores kind asked shelf before left
      as_saved = record {
        before = ((kind.view before).file 0).seen;
        could = disk_laws.reads before tells 0;
        map = inr saved;
        tree = λ tell t found.
            subst (λ (u : Tree). LeavesTree left u) (sym (root_is t found))
            (finds_on (told_at shelf) (left_at left.stores) (left.journal 0) root_alone (on tell) saved.tree);
      }

    either : (kind.view before).tells ≡ true
        → kind.left_since before (kind.view before).moment left.journal ⊎ KeepsMeaning held_by None (kind.view before) left.journal
        → OpeningSurvives stores kind asked shelf before left
    either tells (inl was) = as_before (disk_laws.only_now before left.journal tells was)
    either tells (inr means) = as_meant means

  -- a journal that opened no store
  pub unfound_survives : (asked : Settings) (shelf : List (SyncedState S)) (before after : D) → (kind.view before).tells ≡ true
      → DiskLeaves kind before after (KeepsMeaning held_by None (kind.view before)) → (left : Leftover) → StoresLeft stores shelf shelf left.stores
      → kind.left_since after (kind.view before).moment left.journal → OpeningSurvives stores kind asked shelf before left
  unfound_survives asked shelf before after tells moments left stopped late =
      either asked shelf shelf (each_same laws shelf) before left stopped tells (moments.since (kind.view before).moment left.journal (omega arith) late)

  -- one that did, and was saved where it was fresh
  module _ (asked : Settings) (shelf shelf' : List (SyncedState S)) (before after last : D) (found begun : DurableView) (fresh : Bool)
      (is : IsFoundBy stores kind asked shelf (before, after) found fresh) (goes : DiskGoesOn kind before after)
      (hands : HandsImages kind after last found.journal.end found.core) where
    abbrev opening : Opening
    opening = is.core.opening

    abbrev core : CoreView
    core = found.core

    -- what its records stand for
    module _ (tells : (kind.view before).tells ≡ true) where
      abbrev opened : IsJournalOpened kind before after found.journal.end is.image
      opened = is.journal tells

      abbrev had : List (List ℕ)
      had = opened.bodies ++ renewal (ends_in_changes false opened.bodies) is.image

      still_tells : (kind.view after).tells ≡ true
      still_tells = goes.tells ∙ tells

      stood : StandsAt kind after found.journal.end
      stood = record { bodies = had; rests = opened.rests; held = opened.held; held_is = opened.still }

    -- ---- the first save
    module _ (empty : is.image ≡ []) where
      from_root : (told : Told) → StartsFrom told opening.bytes root_alone
      from_root told = subst (λ (b : List ℕ). StartsFrom told b root_alone) (sym (is.core.bytes_are ∙ empty)) refl

      root_stands : StandsFor (told_at shelf) core (first opening root_alone)
      root_stands = is.core.ready.stands root_alone (from_root (told_at shelf))

      root_savable : IsSavable core.settings.region core.tables.next_tx (shown core.tables.kv)
      root_savable = now_savable (told_at shelf) core (first opening root_alone) is.core.ready.sound.tables root_stands

      is_new : opening ≡ new_opening asked
      is_new = subst (λ (b : List ℕ). Opens asked b opening) (is.core.bytes_are ∙ empty) is.core.opens

      new_room : CoreHasRoom core
      new_room = (
        let number = is.core.ready.number in let none = ap (λ (o : Opening). o.number) is_new in omega (arith, number, none),
        let next = is.core.ready.next_tx in let one = ap (λ (o : Opening). o.next_tx) is_new in omega (arith, next, one),
      )

      header_is : header_of core.settings core.tables.kv.number core.tables.next_tx ≡ header_of asked 0 1
      header_is =
          ap (λ s. header_of s core.tables.kv.number core.tables.next_tx) (is.core.ready.settings ∙ ap (λ (o : Opening). o.settings) is_new)
          ∙ ap (λ n. header_of asked n core.tables.next_tx) (is.core.ready.number ∙ ap (λ (o : Opening). o.number) is_new)
          ∙ ap (λ n. header_of asked 0 n) (is.core.ready.next_tx ∙ ap (λ (o : Opening). o.next_tx) is_new)

      gave_none : (kind.view before).tells ≡ true → JournalGives held_by None ((kind.view before).file 0).seen None
      gave_none tells =
          subst (λ (h : Held). JournalGives held_by None ((kind.view before).file 0).seen h)
          (held_none (opened tells).held is.image (opened tells).text empty)
          (record { bodies = (opened tells).bodies; has = (opened tells).has; held_is = (opened tells).held_is })

      newly_saved : (kind.view before).tells ≡ true → (image c : List ℕ) → IsSaveOf core.tables.kv core.settings core.tables.next_tx image
          → StandsForImage c image → IsNewlySaved asked (told_at shelf) ((kind.view before).file 0).seen c
      newly_saved tells image c save stands =
          record {
            none = gave_none tells;
            rows = stands.rows;
            gives = stands.gives;
            header = ap (λ (x : ImageRows). x.header) (same_rows stands.rows save.rows image stands.text save.text) ∙ save.header ∙ header_is;
            tree = tree_found core.tables.kv core.settings c (told_at shelf) core.tables.next_tx root_alone
                (image_gives core new_room root_savable image c save stands) (now_stands (told_at shelf) core (first opening root_alone) root_stands);
          }

      module _ (tells : (kind.view before).tells ≡ true)
          (moments : DiskLeaves kind before after (KeepsMeaning held_by None (kind.view before))) where
        spanned : DiskLeaves kind before last (MeansOneOf (kind.view before) hands.images)
        spanned =
            means_on kind disk_laws before after [] hands.images tells (still_tells tells)
            (weaker kind before after (KeepsMeaning held_by None (kind.view before)) (MeansOneOf (kind.view before) []) moments (λ c keeps. inl keeps))
            last (hands.moments (still_tells tells) (stood tells))

        fresh_survives : EachFollows (synced_kind stores) shelf shelf' [] → (left : Leftover) → StoresLeft stores shelf shelf' left.stores
            → kind.left_since last (kind.view before).moment left.journal → OpeningSurvives stores kind asked shelf before left
        fresh_survives follows left stopped late =
            ⊎_elim
            (λ was. either asked shelf shelf' follows before left stopped tells (inl was))
            (λ means. ⊎_elim
            (λ keeps. either asked shelf shelf' follows before left stopped tells (inr keeps))
            (λ one. as_saved asked shelf shelf' follows before left stopped tells
            (λ held gives. (opened tells).only held gives ∙ held_none (opened tells).held is.image (opened tells).text empty)
            (newly_saved tells one.0 (left.journal 0) (hands.each one.0 one.1) one.2))
            means)
            (spanned.since (kind.view before).moment left.journal (omega arith) late)

    pub found_survives : (fresh ≡ false → last ≡ after) → EachFollows (synced_kind stores) shelf shelf' [] → (kind.view before).tells ≡ true
        → DiskLeaves kind before after (KeepsMeaning held_by None (kind.view before)) → (left : Leftover) → StoresLeft stores shelf shelf' left.stores
        → kind.left_since last (kind.view before).moment left.journal → OpeningSurvives stores kind asked shelf before left
    found_survives still follows tells moments left stopped late = by fresh refl is.fresh_is
      where
        by : (b : Bool) → fresh ≡ b → MatchBool b (is.image ≡ []) (is.image ≢ []) → OpeningSurvives stores kind asked shelf before left
        by true is_fresh empty = fresh_survives empty tells moments follows left stopped late
        by false is_not some =
            either asked shelf shelf' follows before left stopped tells
            (moments.since (kind.view before).moment left.journal (omega arith)
            (subst (λ (d : D). kind.left_since d (kind.view before).moment left.journal) (still is_not) late))

    -- ---- what it is then
    abbrev Leaves : DurableScene S D → Type 0
    Leaves s = (kind.view before).tells ≡ true → LeavesRecords kind asked (told_at s.shelf) before s.disk s.durable.journal.end is.image

    record Begins (s : DurableScene S D) : Type 0 where
      records : Leaves s
      ready : CanBegin (begun_engine (synced_kind stores)) opening s.shelf s.durable.core
      whole : s.durable.journal.failed ≡ false
      reach : ReachesGate kind s.disk s.durable
      journaled : (kind.view before).tells ≡ true → TellsAll (synced_kind stores) s.shelf → (t : Tree)
          → StartsFrom (told_at s.shelf) opening.bytes t → IsJournaled kind s.disk s.durable

    -- the image that was opened is one of the map now
    module _ (some : is.image ≢ []) (tells : (kind.view before).tells ≡ true) (t : Tree) (from : StartsFrom (told_at shelf) opening.bytes t) where
      abbrev keeper : KeeperView
      keeper = record { faults = 0; held = Some opening.bytes; tells = true }

      savable : IsSavable core.settings.region core.tables.next_tx (shown core.tables.kv)
      savable = now_savable (told_at shelf) core (first opening t) is.core.ready.sound.tables (is.core.ready.stands t from)

      image_is : (n : ℕ) → IsImageAt core.tables core.settings n is.image
          → HavePicture (shown core.tables.kv) core.settings core.tables.kv.number core.tables.next_tx (had tells)
      image_is n at =
          let text : HasText at.rows opening.bytes = subst (λ (b : List ℕ). HasText at.rows b) (sym is.core.bytes_are) at.text in
          let o : IsOpeningOf opening.bytes opening = opening_of asked opening.bytes opening (λ none. some (sym is.core.bytes_are ∙ none)) is.core.opens in
          let same : o.rows ≡ at.rows = same_rows o.rows at.rows opening.bytes o.text text in
          let number : core.tables.kv.number ≡ n =
          is.core.ready.number ∙ o.number ∙ ap (λ (x : ImageRows). x.header.installs) same ∙ ap (λ h. h.installs) at.header in
          let next : core.tables.next_tx ≡ at.next =
          is.core.ready.next_tx ∙ o.next_tx ∙ ap (λ (x : ImageRows). x.header.next_tx) same ∙ ap (λ h. h.next_tx) at.header in
          record {
            rows = at.rows;
            gives = (opened tells).still ∙ ap (λ (h : Held). Some h) (held_rows (opened tells).held is.image at.rows (opened tells).text at.text);
            next = core.tables.next_tx;
            picture = record {
              savable = savable;
              shape = at.text.shape;
              says = subst (λ k. Says (shown_at core.tables.kv k) at.rows) (sym number) at.says;
              header = subst (λ k. at.rows.header ≡ header_of core.settings k core.tables.next_tx) (sym number)
                  (subst (λ k. at.rows.header ≡ header_of core.settings n k) (sym next) at.header);
            };
            good = (taken_as _ at.rows opening.bytes text is.core.ready.taken).good;
            tree = (taken_as _ at.rows opening.bytes text is.core.ready.taken).tree;
            begun = omega arith;
          }

      held_is : (bytes : List ℕ) → Some opening.bytes ≡ Some bytes → IsHeldBy core.tables core.settings bytes
          → HavePicture (shown core.tables.kv) core.settings core.tables.kv.number core.tables.next_tx (had tells)
      held_is bytes same (inl nothing) = absurd (some (sym is.core.bytes_are ∙ some_bytes opening.bytes bytes same ∙ nothing.0))
      held_is bytes same (inr (n, there, at)) =
          image_is n (subst (λ (b : List ℕ). IsImageAt core.tables core.settings n b) (sym (some_bytes opening.bytes bytes same) ∙ is.core.bytes_are) at)

      loaded_have : HavePicture (shown core.tables.kv) core.settings core.tables.kv.number core.tables.next_tx (had tells)
      loaded_have = let kept = is.core.ready.kept keeper refl in held_is kept.0 kept.1 kept.2

    with_records : (image : List ℕ) → image ≢ [] → IsJournalOpened kind before after found.journal.end image
        → LeavesRecords kind asked (told_at shelf) before after found.journal.end image
    with_records [] some o = absurd (some refl)
    with_records (b ∷ image) some o = o

    begins_loaded : is.image ≢ [] → Begins (durable_scene shelf after found)
    begins_loaded some = record {
      records = λ tells. with_records is.image some (opened tells);
      ready = ready_same (synced_kind stores) opening shelf core is.core.ready;
      whole = is.whole;
      reach = is.reach;
      journaled = λ tells all t from.
          let have = loaded_have some tells t from in
          record {
            bodies = had tells;
            rests = (opened tells).rests;
            rows = have.rows;
            gives = have.gives;
            next = have.next;
            picture = have.picture;
            good = have.good;
            tree = have.tree;
            begun = have.begun;
          };
    }

    module _ (empty : is.image ≡ []) (n : ℕ) (follows : EachFollows (synced_kind stores) shelf shelf' [])
        (saved : Handled stores kind (durable_scene shelf after found) (durable_scene shelf' last begun) event.Save (answer.Saved n)) where
      map_is : metadata_now begun.core.tables.kv ≡ metadata_now core.tables.kv
      map_is = same_map (synced_kind stores) (span_of (core_scene kind (durable_scene shelf after found)) (core_scene kind (durable_scene shelf' last begun)))
          core begun.core event.Save (answer.Saved n) is.core.ready.sound.tables saved.line (saved.goes_on.same_number refl)

      saved_have : (tells : (kind.view before).tells ≡ true)
          → HavePicture (shown begun.core.tables.kv) begun.core.settings begun.core.tables.kv.number begun.core.tables.next_tx (had tells ++ saved.saved)
      saved_have tells =
          let image = saved.saved_is.0 in
          let have = image_have core (new_room empty) (root_savable empty) (opened tells).held (had tells) (opened tells).still image saved.saved_is.1 in
          have_same (had tells ++ saved.saved) (ap (λ (w : Map). λ q. option_map plain (w q)) map_is) saved.stays.settings (saved.goes_on.same_number refl)
          saved.goes_on.next_tx
          (subst (λ (bs : List (List ℕ)). HavePicture (shown core.tables.kv) core.settings core.tables.kv.number core.tables.next_tx (had tells ++ bs))
          (sym saved.saved_is.2) have)

      -- the image of the root is the one record
      save : IsSaveOf core.tables.kv core.settings core.tables.next_tx saved.saved_is.0
      save = saved.saved_is.1

      first_header : save.rows.header ≡ header_of asked 0 1
      first_header =
          save.header
          ∙ ap (λ (o : Settings). header_of o core.tables.kv.number core.tables.next_tx)
          (is.core.ready.settings ∙ ap (λ (o : Opening). o.settings) (is_new empty))
          ∙ ap (λ k. header_of asked k core.tables.next_tx) (is.core.ready.number ∙ ap (λ (o : Opening). o.number) (is_new empty))
          ∙ ap (header_of asked 0) (is.core.ready.next_tx ∙ ap (λ (o : Opening). o.next_tx) (is_new empty))

      root_starts : StartsFrom (told_at shelf') saved.saved_is.0 root_alone
      root_starts =
          subst (λ (b : List ℕ). StartsFrom (told_at shelf') b root_alone) (sym save.text.text)
          (picture_starts core.tables.kv core.settings (told_at shelf') core.tables.next_tx root_alone
          (Stands-later (told_at shelf) (told_at shelf') (λ p b is. tells_punched laws follows p b refl is) core.settings.region core.tables.next_tx 0
          (metadata_now core.tables.kv) root_alone (now_stands (told_at shelf) core (first opening root_alone) (root_stands empty)))
          core.tables.next_tx save.rows (save_picture core.tables.kv core.settings core.tables.next_tx saved.saved_is.0 save (root_savable empty)))

      none_had : (tells : (kind.view before).tells ≡ true) → had tells ≡ []
      none_had tells =
          no_bodies (had tells) ((opened tells).still ∙ ap (λ (h : Held). Some h) (held_none (opened tells).held is.image (opened tells).text empty))

      first_left : Leaves (durable_scene shelf' last begun)
      first_left tells =
          subst (λ (b : List ℕ). LeavesRecords kind asked (told_at shelf') before last begun.journal.end b) (sym empty) (record {
            image = saved.saved_is.0;
            rows = save.rows;
            text = save.text;
            header = first_header;
            root = root_starts;
            rests = subst (λ (bs : List (List ℕ)). RestsAt kind last begun.journal.end bs)
                (ap (λ (bs : List (List ℕ)). bs ++ saved.saved) (none_had tells) ∙ saved.saved_is.2)
                (saved.added (still_tells tells) (had tells) (opened tells).rests);
          })

      begins_saved : Begins (durable_scene shelf' last begun)
      begins_saved = record {
        records = first_left;
        ready = ready_saved stores kind laws opening shelf shelf' after last found begun n (is.core.bytes_are ∙ empty) is.core.ready saved;
        whole = saved.whole;
        reach = saved.reach;
        journaled = λ tells all t from.
            let have = saved_have tells in
            record {
              bodies = had tells ++ saved.saved;
              rests = saved.added (still_tells tells) (had tells) (opened tells).rests;
              rows = have.rows;
              gives = have.gives;
              next = have.next;
              picture = have.picture;
              good = have.good;
              tree = have.tree;
              begun = have.begun;
            };
      }

    begins : EachFollows (synced_kind stores) shelf shelf' []
        → IsBegun stores kind fresh (durable_scene shelf after found) (durable_scene shelf' last begun) → Begins (durable_scene shelf' last begun)
    begins follows saved = by fresh is.fresh_is saved
      where
        by : (b : Bool) → MatchBool b (is.image ≡ []) (is.image ≢ [])
            → IsBegun stores kind b (durable_scene shelf after found) (durable_scene shelf' last begun) → Begins (durable_scene shelf' last begun)
        by true empty done = begins_saved empty done.0 follows done.1
        by false some same = subst Begins (sym same) (begins_loaded some)

    module _ (follows : EachFollows (synced_kind stores) shelf shelf' [])
        (saved : IsBegun stores kind fresh (durable_scene shelf after found) (durable_scene shelf' last begun)) (new : DurableView)
        (watches : Watches begun.core new.core) (journal : new.journal ≡ begun.journal) where
      begin : Begins (durable_scene shelf' last begun)
      begin = begins follows saved

      whole_then : new.journal.failed ≡ false
      whole_then = ap (λ j. j.failed) journal ∙ begin.whole

      ready_then : CanBegin (durable_engine stores) opening shelf' new
      ready_then = ready_watched stores opening shelf' begun.core new watches whole_then begin.ready

      end_is : new.journal.end ≡ begun.journal.end
      end_is = ap (λ j. j.end) journal

      journaled_then : (kind.view before).tells ≡ true → TellsAll (synced_kind stores) shelf' → (t : Tree) → StartsFrom (told_at shelf') opening.bytes t
          → IsJournaled kind last new
      journaled_then tells all t from =
          let j = begin.journaled tells all t from in
          let carry = watches_carry stores shelf' begun.core new.core begin.ready.sound.tables begin.ready.sound.inside.scans watches in
          let have : HavePicture (shown new.core.tables.kv) new.core.settings new.core.tables.kv.number new.core.tables.next_tx j.bodies =
          have_same j.bodies carry.shown_is carry.settings carry.number (let same = carry.next_tx in omega (arith, same)) (journaled_has kind last begun j) in
          record {
            bodies = j.bodies;
            rests = subst (λ k. RestsAt kind last k j.bodies) (sym end_is) j.rests;
            rows = have.rows;
            gives = have.gives;
            next = have.next;
            picture = have.picture;
            good = have.good;
            tree = have.tree;
            begun = have.begun;
          }

      from_image : (t : Tree) → StartsFrom (told_at shelf') is.image t → StartsFrom (told_at shelf') opening.bytes t
      from_image t from = subst (λ (b : List ℕ). StartsFrom (told_at shelf') b t) (sym is.core.bytes_are) from

      records_then : Leaves (durable_scene shelf' last new)
      records_then tells =
          subst (λ k. LeavesRecords kind asked (told_at shelf') before last k is.image) (sym end_is) (begin.records tells)

    pub opens_durable : EachFollows (synced_kind stores) shelf shelf' []
        → IsBegun stores kind fresh (durable_scene shelf after found) (durable_scene shelf' last begun) → (new : DurableView)
        → Watches begun.core new.core → new.journal ≡ begun.journal → OpensDurable stores kind asked before (durable_scene shelf' last new)
    opens_durable follows saved new watches journal =
        record {
          image = is.image;
          given = found_given stores kind asked shelf (before, after) found fresh is;
          opened = record { opening = opening; bytes_are = is.core.bytes_are; opens = is.core.opens; ready = ready_then follows saved new watches journal };
          reach = subst (λ k. k < (kind.view last).size 0) (sym (end_is follows saved new watches journal)) (begin follows saved new watches journal).reach;
          records = records_then follows saved new watches journal;
          stands = λ all tells t from.
              let from_opening = from_image follows saved new watches journal t from in
              let ready = ready_then follows saved new watches journal in
              record {
                shelf = (ready.told all).tells t from_opening;
                machine = ready.stands t from_opening all;
                disk = hands.goes_on.tells ∙ still_tells tells;
                journaled = journaled_then follows saved new watches journal tells all t from_opening;
              };
        }
