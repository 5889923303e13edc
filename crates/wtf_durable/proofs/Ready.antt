-- A durable store that was opened is one that a run can begin with.
use Rattle.std.proofs.Common.{◌≡◌, ◌⊎◌, ◌≤◌, ◌<◌, ◌^◌, ◌||◌, ℕ, Bool, false, List, [], length, Some, refl, sym, ap, ◌∙◌, subst, inl, inr}
use Rattle.std.proofs.Common.{⊎_elim, arith}
use Rattle.std.proofs.Math.Path.{fun_ext}
use Rattle.std.specs.List.{Contains}
use Rattle.std.specs.FinMap.{len}
use Rattle.std.specs.Option.{option_map}
use Rattle.std.specs.Prelude.{⊤}
use Rattle.wtf_base.specs.declared.settings.Settings.{Settings}
use Rattle.wtf_base.specs.Places.{Place}
use Rattle.wtf_dev.specs.Disk.{DiskKind}
use Rattle.wtf_dev.specs.Each.{EachFollows}
use Rattle.wtf_dev.specs.Keep.{KeeperView}
use Rattle.wtf_dev.specs.Store.{KindLaws, StoreKind}
use Rattle.wtf_dev.specs.Sums.{TellsAll}
use Rattle.wtf_dev.proofs.Each.{each_kept}
use Rattle.wtf_journal.specs.Follows.{SyncedState, synced_kind}
use Rattle.wtf_journal.specs.Views.{JournalView}
use Rattle.wtf_replica.specs.Bytes.{byte_at}
use Rattle.wtf_replica.specs.Downs.{is_down}
use Rattle.wtf_replica.specs.Inside.{size_in}
use Rattle.wtf_imagefmt.specs.Lookups.{plain}
use Rattle.wtf_imagefmt.specs.Saving.{Says}
use Rattle.wtf_meta.specs.Maps.{Map}
use Rattle.wtf_meta.specs.Contents.{Told}
use Rattle.wtf_region.specs.Inside.{is_inside}
use Rattle.wtf_clients.specs.Named.{has_copies}
use Rattle.wtf_gc.specs.Extents.{extents_cover}
use Rattle.wtf_gc.specs.Frees.{lie_in}
use Rattle.wtf_model.specs.declared.answer.Answer.TheVariants as answer
use Rattle.wtf_model.specs.declared.event.Event.TheVariants as event
use Rattle.wtf_model.specs.Tree.{Tree, root_alone}
use Rattle.wtf_model.proofs.Sizes.{len-root}
use Rattle.wtf_clients.specs.Keeping.{HoldsKept, IsHeldBy}
use Rattle.wtf_clients.specs.Saves.{Saves}
use Rattle.wtf_clients.specs.Sounds.{AreSound}
use Rattle.wtf_clients.specs.Views.{BesideView, TablesView, watching}
use Rattle.wtf_clients.proofs.Soundness.{watched_sound}
use Rattle.wtf_core.specs.Named.{IsBased, IsFull, IsInside}
use Rattle.wtf_core.specs.Promises.{Watches, span_of}
use Rattle.wtf_core.specs.Standing.{StandsFor, IsSmall}
use Rattle.wtf_core.specs.Telling.{IsToldLine, IsWide, IsWithin, TellsCore, stores_of}
use Rattle.wtf_core.specs.Views.{CoreView}
use Rattle.wtf_serve.specs.Beginnings.{CanBegin}
use Rattle.wtf_serve.specs.Cores.{engine}
use Rattle.wtf_serve.specs.Engines.{Engine}
use Rattle.wtf_serve.specs.Openings.{IsTakenOver, Opening, StartsFrom, first}
use Rattle.wtf_durable.specs.Handled.{Handled}
use Rattle.wtf_durable.specs.Sound.{durable_engine}
use Rattle.wtf_durable.specs.Views.{DurableView, core_scene, durable_scene}
use Rattle.wtf_durable.proofs.Behind.{listed_behind}
use Rattle.wtf_durable.proofs.Recorded.{bare_behind, full_behind, inside_behind, stands_behind, tells_behind}

-- ---- what a keeper may hold goes on being that where the number is watched
module _ (old new : TablesView) (sound : AreSound old) (saves : Saves old new (watching old.beside old.kv.number)) (settings : Settings) where
  held_behind : (bytes : List ℕ) → IsHeldBy old settings bytes → IsHeldBy new settings bytes
  held_behind bytes (inl nothing) = inl (nothing.0, ap (λ (b : BesideView). b.none) saves.beside ∙ nothing.1)
  held_behind bytes (inr (n, there, at)) = inr (
    n,
    subst (λ (b : BesideView). Contains b.images n) (sym saves.beside) there,
    record {
      rows = at.rows;
      next = at.next;
      begun = let le = at.begun in let same = saves.next_tx in omega (arith, le, same);
      text = at.text;
      header = at.header;
      says = subst (λ (w : Map). Says (λ q. option_map plain (w q)) at.rows) (sym (saves.maps n (sound.kept n there))) at.says;
    },
  )

  pub kept_behind : (keeper : KeeperView) → HoldsKept keeper settings old → HoldsKept keeper settings new
  kept_behind keeper (bytes, held, is) = (bytes, held, held_behind bytes is)

-- ---- a core that a run can begin with, but for what is watched
pub record IsWholeCore {S : Type 0} (kind : StoreKind S) (shelf : List S) (core : CoreView) : Type 0 where
  pub not_closed : core.closed ≡ false
  pub tables : AreSound core.tables
  pub servers : core.settings.servers ≤ length shelf
  pub inside : IsInside kind shelf core

abbrev pub begun_engine : {S : Type 0} → StoreKind S → Engine S CoreView
begun_engine kind = record {
  kind = kind;
  settings = λ core. core.settings;
  down = λ core. is_down core.replicas;
  number = λ core. core.tables.kv.number;
  next_tx = λ core. core.tables.next_tx;
  sound = IsWholeCore kind;
  stands = λ shelf core m. TellsAll kind shelf → StandsFor (byte_at kind shelf) core m;
  based = IsBased;
  full = IsFull;
  tells = TellsCore kind;
  wide = IsWide kind;
  within = IsWithin kind;
  kept = λ keeper core. HoldsKept keeper core.settings core.tables ⊎ (keeper.held ≡ Some []);
  freed = λ core. extents_cover core.tables.beside.gc.freed;
  quiet = λ s shelf core. ⊤;
  collected = λ k shelf core. ⊤;
}

module _ {S : Type 0} (kind : StoreKind S) (opening : Opening) where
  -- one that was loaded or is new
  pub ready_same : (shelf : List S) (core : CoreView) → CanBegin (engine kind) opening shelf core → CanBegin (begun_engine kind) opening shelf core
  ready_same shelf core r = record {
    sound = record { not_closed = r.sound.not_closed; tables = r.sound.tables; servers = r.sound.servers; inside = r.sound.inside };
    settings = r.settings;
    number = r.number;
    next_tx = r.next_tx;
    up = r.up;
    unfreed = r.unfreed;
    kept = λ keeper held. inl (r.kept keeper held);
    given = record { full = r.given.full; bare = r.given.bare };
    told = λ tells.
        let is = r.told tells in
        record { tells = is.tells; wide = is.wide; within = is.within; within_from = is.within_from };
    stands = λ t from tells. r.stands t from;
    enough = r.enough;
    taken = r.taken;
  }

-- and behind the first save of one that had nothing
module _ {S D : Type 0} (stores : DiskKind S) (kind : DiskKind D) (laws : KindLaws (synced_kind stores)) (opening : Opening)
    (shelf shelf' : List (SyncedState S)) (disk disk' : D) (old new : DurableView) (n : ℕ) (empty : opening.bytes ≡ [])
    (r : CanBegin (engine (synced_kind stores)) opening shelf old.core)
    (saved : Handled stores kind (durable_scene shelf disk old) (durable_scene shelf' disk' new) event.Save (answer.Saved n)) where
  abbrev k : StoreKind (SyncedState S)
  k = synced_kind stores

  unpunched : EachFollows k shelf shelf' []
  unpunched = subst (EachFollows k shelf shelf') saved.punched.punches.are.0 saved.punched.punches.follows

  tells_back : TellsAll k shelf' → TellsAll k shelf
  tells_back tells j d below =
      let there : j < length shelf' = let same = unpunched.same_length in omega (arith, below, same) in
      sym ((each_kept laws unpunched j d below).tells) ∙ tells j d there

  root_is : (told : Told) (t : Tree) → StartsFrom told opening.bytes t → t ≡ root_alone
  root_is told t from = subst (λ (b : List ℕ). StartsFrom told b t) empty from

  from_root : (told : Told) (t : Tree) → t ≡ root_alone → StartsFrom told opening.bytes t
  from_root told t is = subst (λ (b : List ℕ). StartsFrom told b t) (sym empty) is

  started : (t : Tree) → t ≡ root_alone → StandsFor (byte_at k shelf) old.core (first opening t)
  started t is = r.stands t (from_root (byte_at k shelf) t is)

  root_small : (t : Tree) → t ≡ root_alone → IsSmall (first opening t)
  root_small t is = subst (λ (u : Tree). len u < 2 ^ 61) (sym is) (omega (arith, len-root))

  telling : TellsAll k shelf' → (t : Tree) → t ≡ root_alone → TellsCore k shelf old.core
  telling tells t is = (r.told (tells_back tells)).tells t (from_root (byte_at k shelf) t is)

  line_told : TellsAll k shelf' → (t : Tree) → t ≡ root_alone
      → IsToldLine k (span_of (core_scene kind (durable_scene shelf disk old)) (core_scene kind (durable_scene shelf' disk' new))) old.core new.core event.Save
      (answer.Saved n)
  line_told tells t is = saved.told (telling tells t is) (first opening t) (started t is)

  unfreed_then : (p : Place) → extents_cover new.core.tables.beside.gc.freed p ≡ false
  unfreed_then p =
      saved.punched.punches.counts p ∙ ap (λ b. b || lie_in saved.punched.punches.ranges p) (r.unfreed p)
      ∙ ap (λ l. lie_in l p) saved.punched.punches.are.0

  pub ready_saved : CanBegin (begun_engine k) opening shelf' new.core
  ready_saved = record {
    sound = record {
      not_closed = saved.goes_on.not_closed;
      tables = saved.stays.sound;
      servers =
          let one = ap (λ (s : Settings). s.servers) saved.stays.settings in
          let enough = r.sound.servers in
          let same = unpunched.same_length in
          omega (arith, one, enough, same);
      inside = saved.goes_on.inside;
    };
    settings = saved.stays.settings ∙ r.settings;
    number = saved.goes_on.same_number refl ∙ r.number;
    next_tx = saved.goes_on.same_next_tx refl ∙ r.next_tx;
    up = fun_ext (λ j. saved.goes_on.down j ∙ ap (λ (f : ℕ → Bool). f j) r.up);
    unfreed = unfreed_then;
    kept = λ keeper held. inr (held ∙ ap (λ (b : List ℕ). Some b) empty);
    given = record { full = λ free none. saved.goes_on.full refl (r.given.full tt none); bare = λ free bare. saved.goes_on.bare refl (r.given.bare tt bare) };
    told = λ tells.
        let was = r.told (tells_back tells) in
        record {
          tells = λ t from. (line_told tells t (root_is (byte_at k shelf') t from)).next;
          wide = λ none. (line_told tells root_alone refl).wide (was.wide none);
          within = λ t from bare.
              let is = root_is (byte_at k shelf') t from in
              (line_told tells t is).within (was.within t (from_root (byte_at k shelf) t is) bare);
          within_from = λ t from.
              let is = root_is (byte_at k (stores_of opening.settings shelf')) t from in
              (line_told tells t is).within (was.within_from t (from_root (byte_at k (stores_of opening.settings shelf)) t is));
        };
    stands = λ t from tells.
        let is = root_is (byte_at k shelf') t from in
        (saved.lawful (telling tells t is) (first opening t) (root_small t is) (started t is)).event.stands;
    enough = let some = r.enough in let same = unpunched.same_length in omega (arith, some, same);
    taken = subst (λ (b : List ℕ). IsTakenOver (size_in k shelf') b) (sym empty) tt;
  }

-- ---- watched then
module _ {S : Type 0} (stores : DiskKind S) (opening : Opening) (shelf : List (SyncedState S)) (core : CoreView) (tables : TablesView)
    (saves : Saves core.tables tables (watching core.tables.beside core.tables.kv.number)) (journal : JournalView) (whole : journal.failed ≡ false)
    (r : CanBegin (begun_engine (synced_kind stores)) opening shelf core) where
  abbrev kind : StoreKind (SyncedState S)
  kind = synced_kind stores

  abbrev told : Told
  told = byte_at kind shelf

  ready_behind : CanBegin (durable_engine stores) opening shelf (record { core = record core { tables = tables }; journal = journal })
  ready_behind = record {
    sound = record {
      not_closed = r.sound.not_closed;
      tables = watched_sound core.tables tables r.sound.tables saves;
      watched = ap (λ (b : BesideView). b.watched) saves.beside ∙ ap (λ j. Some j) (sym saves.number);
      servers = r.sound.servers;
      inside = inside_behind kind shelf core tables r.sound.tables saves r.sound.inside;
      whole = whole;
    };
    settings = r.settings;
    number = saves.number ∙ r.number;
    next_tx = saves.next_tx ∙ r.next_tx;
    up = r.up;
    unfreed = λ p. ap (λ (b : BesideView). extents_cover b.gc.freed p) saves.beside ∙ r.unfreed p;
    kept = λ keeper held. ⊎_elim
        (λ kept. inl (kept_behind core.tables tables r.sound.tables saves core.settings keeper kept))
        (λ none. inr none)
        (r.kept keeper held);
    given = record {
      full = λ free none. full_behind kind shelf core tables r.sound.tables saves (r.given.full free none);
      bare = λ free bare. bare_behind kind shelf core tables r.sound.tables saves (r.given.bare free bare);
    };
    told = λ tells.
        let is = r.told tells in
        record {
          tells = λ t from. tells_behind kind shelf core tables r.sound.tables saves r.sound.inside.scans (is.tells t from);
          wide = λ none.
              listed_behind core.tables tables r.sound.tables saves core.settings.region told (has_copies core.settings.replicas) refl (is.wide none);
          within = λ t from bare.
              listed_behind core.tables tables r.sound.tables saves core.settings.region told (is_inside kind shelf core.settings) refl (is.within t from bare);
          within_from = λ t from.
              listed_behind core.tables tables r.sound.tables saves core.settings.region told (is_inside kind shelf core.settings) refl (is.within_from t from);
        };
    stands = λ t from tells. stands_behind kind shelf core tables r.sound.tables saves told (first opening t) (r.stands t from tells);
    enough = r.enough;
    taken = r.taken;
  }

pub ready_watched : {S : Type 0} (stores : DiskKind S) (opening : Opening) (shelf : List (SyncedState S)) (core : CoreView) (new : DurableView)
    → Watches core new.core → new.journal.failed ≡ false → CanBegin (begun_engine (synced_kind stores)) opening shelf core
    → CanBegin (durable_engine stores) opening shelf new
ready_watched stores opening shelf core new watches whole r =
    subst (λ (c : CoreView). CanBegin (durable_engine stores) opening shelf (record { core = c; journal = new.journal })) (sym watches.rest)
    (ready_behind stores opening shelf core new.core.tables watches.tables new.journal whole r)
