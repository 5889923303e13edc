-- What a core promises of a line goes on holding where its number is watched from then on.
use Rattle.std.proofs.Common.{◌≡◌, ◌≢◌, ℕ, true, List, Some, refl, sym, ap, ◌∙◌, subst, arith}
use Rattle.std.specs.List.{Contains}
use Rattle.wtf_dev.specs.Keep.{KeeperView}
use Rattle.wtf_dev.specs.Store.{StoreKind}
use Rattle.wtf_replica.specs.Bytes.{byte_at}
use Rattle.wtf_replica.specs.Inside.{size_in}
use Rattle.wtf_replica.specs.Spans.{Span}
use Rattle.wtf_region.specs.Apart.{are_apart}
use Rattle.wtf_region.specs.declared.dev.Dev.{Dev}
use Rattle.wtf_region.specs.Inside.{is_inside}
use Rattle.wtf_meta.specs.Bytes.{any_slice}
use Rattle.wtf_meta.specs.Contents.{Told, is_told}
use Rattle.wtf_meta.specs.Maps.{Map}
use Rattle.wtf_meta.specs.Trees.{Stands}
use Rattle.wtf_model.specs.declared.answer.Answer.{Answer}
use Rattle.wtf_model.specs.declared.answer.Answer.TheVariants as answer
use Rattle.wtf_model.specs.declared.answer.Word.TheVariants.{NoScan, NoServer, ScanBusy}
use Rattle.wtf_model.specs.declared.event.Event.{Event}
use Rattle.wtf_model.specs.declared.event.Event.TheVariants as event
use Rattle.wtf_model.specs.Machines.{Machine}
use Rattle.wtf_model.specs.Steps.{after}
use Rattle.wtf_clients.specs.Named.{any_byte, has_copies, no_slice}
use Rattle.wtf_clients.specs.Safe.{LieIn, off}
use Rattle.wtf_clients.specs.Saves.{Saves}
use Rattle.wtf_clients.specs.ScanTurns.{CollectTurn, PieceTurn, ScanTurn}
use Rattle.wtf_clients.specs.Sounds.{AreSound}
use Rattle.wtf_clients.specs.Views.{BesideView, TablesView, watching}
use Rattle.wtf_clients.proofs.SafeLaws.{garbage_unnamed}
use Rattle.wtf_core.specs.Named.{IsBareCore, IsFull, IsInside}
use Rattle.wtf_core.specs.Promises.{CoreGoesOn, HasPunched, IsCoreLawful, Scene, scene, span_of}
use Rattle.wtf_core.specs.Quiet.{Stage, next_stage}
use Rattle.wtf_core.specs.Standing.{StandsFor}
use Rattle.wtf_core.specs.Telling.{GoesOnQuietly, IsToldLine, KeepsImages, TellsCore}
use Rattle.wtf_core.specs.Turns.{IsLine, LineTurn}
use Rattle.wtf_core.specs.Views.{CoreView}
use Rattle.wtf_durable.proofs.Behind.{listed_behind, names_behind, safe_behind, scans_behind, tables_behind}

-- ---- scans, parts of them and collections install nothing
all_number : (old new : TablesView) → new ≡ old → new.kv.number ≡ old.kv.number
all_number old new is = ap (λ (t : TablesView). t.kv.number) is

module _ {S : Type 0} (kind : StoreKind S) (old new : TablesView) where
  scan_number : (shelf : List S) (a : Answer) → ScanTurn kind shelf old new a → new.kv.number ≡ old.kv.number
  scan_number shelf (answer.Refused ScanBusy) turn = all_number old new turn.0
  scan_number shelf (answer.Held h) turn = all_number old new turn.0
  scan_number shelf answer.Scanning turn = turn.starts.pins.number
  scan_number shelf a turn = absurd turn

  piece_number : (before after : Dev S) (n : ℕ) (a : Answer) → PieceTurn kind before after old new n a → new.kv.number ≡ old.kv.number
  piece_number before after n (answer.Refused NoScan) turn = all_number old new turn.0
  piece_number before after n (answer.More left) turn = turn.1.prunes.number
  piece_number before after n answer.Done turn = turn.prunes.number
  piece_number before after n a turn = turn.pruned.kv.number

  collect_number : (before after : Dev S) (k : ℕ) (a : Answer) → CollectTurn kind before after old new k a → new.kv.number ≡ old.kv.number
  collect_number before after k (answer.Refused NoServer) turn = all_number old new turn.0
  collect_number before after k (answer.Refused NoScan) turn = all_number old new turn.0
  collect_number before after k (answer.Collected n) turn = ap (λ s. s.number) turn.1.keeps.kv
  collect_number before after k (answer.FaultPunch j) turn = ap (λ s. s.number) turn.1.keeps.kv
  collect_number before after k a turn = absurd turn

module _ {S : Type 0} (kind : StoreKind S) (t : Span S) (old new : CoreView) where
  staged_turn : (s next : Stage) (e : Event) (a : Answer) → next_stage s e a ≡ Some next → LineTurn kind t old new e a
      → new.tables.kv.number ≡ old.tables.kv.number
  staged_turn s next event.Scan a is turn = scan_number kind old.tables new.tables t.before a turn.0
  staged_turn s next (event.Piece n) a is turn = piece_number kind old.tables new.tables turn.0.before turn.0.after n a turn.0.did
  staged_turn s next (event.Collect k) a is turn = collect_number kind old.tables new.tables turn.0.before turn.0.after k a turn.0.did
  staged_turn s next e a is turn = absurd (cc)

pub staged_number : {S : Type 0} (kind : StoreKind S) (t : Span S) (old new : CoreView) (s next : Stage) (e : Event) (a : Answer)
    → next_stage s e a ≡ Some next → IsLine kind t old new e a → new.tables.kv.number ≡ old.tables.kv.number
staged_number kind t old new s next e a is line = line.tidied.number ∙ staged_turn kind t old line.answered s next e a is line.turn

pub collected_number : {S : Type 0} (kind : StoreKind S) (t : Span S) (old new : CoreView) (k : ℕ) (e : Event) (a : Answer) → e ≡ event.Collect k
    → IsLine kind t old new e a → new.tables.kv.number ≡ old.tables.kv.number
collected_number kind t old new k e a is line =
    let it : IsLine kind t old new (event.Collect k) a = subst (λ (f : Event). IsLine kind t old new f a) is line in
    it.tidied.number ∙ collect_number kind old.tables it.answered.tables it.turn.0.before it.turn.0.after k a it.turn.0.did

-- ---- the core
module _ {S : Type 0} (kind : StoreKind S) (shelf : List S) (mid : CoreView) (tables : TablesView) (sound : AreSound mid.tables)
    (saves : Saves mid.tables tables (watching mid.tables.beside mid.tables.kv.number)) where
  abbrev pub behind : CoreView
  behind = record mid { tables = tables }

  lie_behind : (length : ℕ → ℕ → ℕ) → LieIn mid.tables.beside.gc length → LieIn tables.beside.gc length
  lie_behind length h = subst (λ (b : BesideView). LieIn b.gc length) (sym saves.beside) h

  pub inside_behind : IsInside kind shelf mid → IsInside kind shelf behind
  inside_behind h = record {
    tables = names_behind mid.tables tables sound saves (is_inside kind shelf mid.settings) any_slice refl h.tables;
    lists = h.lists;
    scans = lie_behind (size_in kind shelf) h.scans;
  }

  pub bare_behind : IsBareCore mid → IsBareCore behind
  bare_behind h = names_behind mid.tables tables sound saves any_byte no_slice refl h

  pub full_behind : IsFull mid → IsFull behind
  full_behind h = names_behind mid.tables tables sound saves (has_copies mid.settings.replicas) no_slice refl h

  pub stands_behind : (told : Told) (m : Machine) → StandsFor told mid m → StandsFor told behind m
  stands_behind told m st = record {
    settings = st.settings;
    tables = tables_behind mid.tables tables sound saves mid.settings.region told m st.tables;
    down = st.down;
    scans = scans_behind mid.tables tables sound saves m st.scans;
  }

  pub tells_behind : LieIn mid.tables.beside.gc (size_in kind shelf) → TellsCore kind shelf mid → TellsCore kind shelf behind
  tells_behind lie h = record {
    tables = record {
      all = h.tables.all;
      punched = h.tables.punched;
      lie = h.tables.lie;
      cache = h.tables.cache;
      names = listed_behind mid.tables tables sound saves mid.settings.region (byte_at kind shelf) (is_told (byte_at kind shelf)) refl h.tables.names;
      away = listed_behind mid.tables tables sound saves mid.settings.region (byte_at kind shelf) (are_apart h.tables.punched) refl h.tables.away;
    };
    safe = safe_behind mid.tables tables sound saves mid.settings.region (byte_at kind shelf) (size_in kind shelf) lie h.tables.names h.safe;
  }

  -- ---- what it promised
  module _ (old : Scene S) (keeper : KeeperView) (e : Event) (a : Answer) where
    pub goes_behind : CoreGoesOn kind old (scene shelf keeper mid) e a → CoreGoesOn kind old (scene shelf keeper behind) e a
    goes_behind on = record {
      not_closed = on.not_closed;
      inside = inside_behind on.inside;
      bare = λ unspilled h. bare_behind (on.bare unspilled h);
      full = λ unspilled h. full_behind (on.full unspilled h);
      down = on.down;
      number = let same = saves.number in let le = on.number in omega (arith, same, le);
      next_tx = let same = saves.next_tx in let le = on.next_tx in omega (arith, same, le);
      same_number = λ is. saves.number ∙ on.same_number is;
      same_next_tx = λ is. saves.next_tx ∙ on.same_next_tx is;
    }

    pub punched_behind : HasPunched kind old (scene shelf keeper mid) e a → HasPunched kind old (scene shelf keeper behind) e a
    punched_behind h =
        subst (λ (b : BesideView). HasPunched kind old (scene shelf keeper (record mid { tables = record tables { beside = b } })) e a) (sym saves.beside)
        (record {
          punches = record { ranges = h.punches.ranges; are = h.punches.are; counts = h.punches.counts; follows = h.punches.follows };
          freed = record { up = h.freed.up; zeros = h.freed.zeros };
          lists = record { inside = h.lists.inside; true_still = h.lists.true_still };
        })

    -- a line behind which something was installed is no part of a quiet ending
    module _ (line : IsLine kind (span_of old (scene shelf keeper mid)) old.core mid e a) (moved : mid.tables.kv.number ≢ old.core.tables.kv.number) where
      abbrev t : Span S
      t = span_of old (scene shelf keeper mid)

      unstaged : (s next : Stage) → next_stage s e a ≡ Some next → ⊥
      unstaged s next is = moved (staged_number kind t old.core mid s next e a is line)

      uncollected : (k : ℕ) → e ≡ event.Collect k → ⊥
      uncollected k is = moved (collected_number kind t old.core mid k e a is line)

      quiet_behind : GoesOnQuietly kind t old.core behind e a
      quiet_behind = record {
        on = λ s next is had. absurd (unstaged s next is);
        idle = λ s next is had. absurd (unstaged s next is);
        kept = λ k n is said had. absurd (uncollected k is);
        collected = λ k n is said had. absurd (uncollected k is);
        stays = λ k s next is had. absurd (unstaged s next is);
      }

      images_behind : KeepsImages kind t old.core mid → KeepsImages kind t old.core behind
      images_behind h n was is tx tree stands =
          let there : Contains mid.tables.beside.images n = subst (λ (b : BesideView). Contains b.images n) saves.beside is in
          subst (λ (w : Map). Stands old.core.settings.region (byte_at kind shelf) tx 0 w tree) (sym (saves.maps n (sound.kept n there)))
          (h n was there tx tree stands)

      pub told_behind : mid.settings ≡ old.core.settings → LieIn mid.tables.beside.gc (size_in kind shelf) → IsToldLine kind t old.core mid e a
          → IsToldLine kind t old.core behind e a
      told_behind same lie h =
          let next : TellsCore kind shelf behind = tells_behind lie h.next in
          record {
            next = next;
            unnamed = garbage_unnamed mid.settings.region (byte_at kind shelf) tables next.safe;
            never = λ X low none.
                listed_behind mid.tables tables sound saves old.core.settings.region (byte_at kind shelf) (off X) refl (h.never X low none);
            images = images_behind h.images;
            wide = λ was.
                listed_behind mid.tables tables sound saves mid.settings.region (byte_at kind shelf) (has_copies mid.settings.replicas) refl (h.wide was);
            within = λ was.
                listed_behind mid.tables tables sound saves mid.settings.region (byte_at kind shelf) (is_inside kind shelf mid.settings) refl (h.within was);
            undamaged = h.undamaged;
            unread = h.unread;
            quiet = quiet_behind;
          }

      -- over a keeper that does not tell what it holds
      pub lawful_behind : (m : Machine) → (e ≡ event.Save → mid.tables.kv.number ≡ old.core.tables.kv.number) → (old.keeper.tells ≡ true → ⊥)
          → IsCoreLawful kind old (scene shelf keeper mid) m e a → IsCoreLawful kind old (scene shelf keeper behind) m e a
      lawful_behind m unsaved blind h = record {
        rests = λ idle none n is said. absurd (moved (unsaved is));
        left = λ k n had is said tells. absurd (blind tells);
        event = record { may = h.event.may; stands = stands_behind (byte_at kind shelf) (after m e a) h.event.stands };
        trees = λ tells room kept holds. absurd (blind tells);
        taken = λ tells room holds. absurd (blind tells);
        saved = λ tells room. absurd (blind tells);
      }
