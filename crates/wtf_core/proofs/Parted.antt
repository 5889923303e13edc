-- Parts of a scan of a quiet ending: it has then found just what is named in the parts that are done, and with no part left all that is.
use Rattle.wtf_core.proofs.Common.{IsTrue, list_any, and_parts, and_from, cases_lt, eq-eqb, le-leb, lt-ltb, ltb-true, ne_eqb, false≢true, mod_below, InodeId}
use Rattle.wtf_core.proofs.Common.{Settings, Place, StoreKind, byte_at, Span, Store, is_live, kept_value, value_among, pruned_kept, Key, RegionValue, Value}
use Rattle.wtf_core.proofs.Common.{key_cmp, Told, lists_in, Lists, TellLists, metadata_at, Dev, extents_cover, part_of, key_stands_in, IsIn, NamedIn, Finds}
use Rattle.wtf_core.proofs.Common.{next_parts, run_on, with_finished, ScanView, RunView, GcView, length_in, DoesTurn, AreSound, number_live, does_reads}
use Rattle.wtf_core.proofs.Common.{does_sound, PartsName, AreIdle, HasScanned, HasBegun, Stage, Saved, Scans, Scanned, ScansAgain, ScannedTwice, stage_done}
use Rattle.wtf_core.proofs.Common.{IsScanned, IsBegun, HasScans, HasCollected, CoreView, ◌≡◌, ◌<◌, ◌≤◌, ℕ, ◌+◌, ◌-◌, min, Bool, true, false, ◌||◌, ◌&&◌, cond}
use Rattle.wtf_core.proofs.Common.{nat_eq, nat_le, nat_lt, Option, None, Some, refl, sym, ◌∙◌, ap, subst, ⊎_elim, arith, with_gc}
use Rattle.wtf_core.proofs.{Carried.ReadsSame, Carried.parts_on, Carried.parts_back, Carried.scanned_later, Idling.live_kept, Idling.kept_live}
use Rattle.wtf_core.proofs.{Idling.kept_same, Moving.none_some, Moving.InPlace, Moving.SameRest, Moving.rest_of, Moving.long_on, Moving.still_collected}

module _ {S : Type 0} (kind : StoreKind S) (t : Span S) (old new : CoreView) (place : InPlace kind t old new) where
  abbrev told : Told
  told = byte_at kind t.before

  abbrev later : Told
  later = byte_at kind t.after

  -- ---- parts are done
  module _ (sound : AreSound old.tables) (before after : Dev S) (n left : ℕ) (turn : DoesTurn kind before after old.tables new.tables n left)
      (tell : TellLists (lists_in old.settings.region later) turn.does.reads.facts) where
    abbrev run : RunView
    run = turn.does.run

    abbrev then_run : RunView
    then_run = run_on run n turn.does.found

    abbrev lists : Lists
    lists = lists_in old.settings.region later

    pub part_rest : SameRest old.tables new.tables
    part_rest = rest_of old.tables new.tables (with_gc old.tables.beside new.tables.beside.gc) turn.keeps.clients turn.keeps.beside turn.prunes.number

    part_freed : (p : Place) → extents_cover old.tables.beside.gc.freed p ≡ true → extents_cover new.tables.beside.gc.freed p ≡ true
    part_freed p here = ap (λ (g : GcView). extents_cover g.freed p) turn.does.is ∙ by (nat_eq (run.left - n) 0)
      where
        by : (b : Bool) → extents_cover (cond b (with_finished old.tables.beside.gc then_run.scan)
            (record old.tables.beside.gc { running = Some then_run })).freed p ≡ true
        by true = here
        by false = here

    -- a server that was collected stays so
    pub part_stays : (k : ℕ) → HasCollected kind t.before old k → HasCollected kind t.after new k
    part_stays = still_collected kind t old new place part_rest
        (ap (λ (m : ℕ). metadata_at new.tables.kv m) turn.prunes.number ∙ turn.prunes.maps old.tables.kv.number (number_live old.tables.kv)) part_freed

    not_idle : old.tables.beside.gc.running ≡ None → ⊥
    not_idle none = none_some old.tables.beside.gc.running run none turn.does.was

    finds : Finds lists new.tables.kv (next_parts run.left n) (extents_cover run.scan.found) (extents_cover turn.does.found)
    finds = turn.does.reads.finds lists tell

    -- a value of a region that stands is that of a map that could be read
    stands_live : (v : RegionValue) (there : IsIn new.tables.kv (next_parts run.left n) v)
        → (m : ℕ) × IsTrue (is_live old.tables.kv m) × (metadata_at new.tables.kv m there.at ≡ Some (Value.Region v))
    stands_live v there =
        let mid : Store Key Value = record new.tables.kv { pins = old.tables.kv.pins } in
        let prunes = turn.prunes in
        let seen =
        kept_value key_cmp mid there.at there.number (Value.Region v) prunes.ascends (pruned_kept key_cmp old.tables.kv mid prunes.order refl prunes.kept)
        there.among in
        (seen.number, subst (λ (m : ℕ). nat_eq seen.number m || list_any (nat_eq seen.number) old.tables.kv.pins ≡ true) prunes.number seen.live, seen.is)

    module _ (idle : AreIdle old.tables) (begun : IsBegun kind t.before old old.tables.beside.gc.running) where
      had_begun : HasBegun old.settings.region told (length_in kind t.before) old.tables run
      had_begun = subst (λ (o : Option RunView). IsBegun kind t.before old o) turn.does.was begun

      part_same : ReadsSame old.tables.kv new.tables.kv
      part_same = record {
        on = λ m live. kept_live new.tables (does_sound kind before after old.tables new.tables n left sound turn) m
            (kept_same old.tables new.tables part_rest.number part_rest.images part_rest.watched m
            ∙ live_kept old.tables sound idle
            (λ r is. (subst (λ (o : Option RunView). IsBegun kind t.before old o) is begun).seen) m live);
        back = does_reads kind before after old.tables new.tables n left sound turn;
        maps = turn.prunes.maps;
      }

      -- what is named in these parts, and in those before them
      abbrev Named : ℕ → Place → Type 0
      Named parts p = PartsName old.settings.region later new.tables.kv parts p

      -- where parts are counted from those before these
      part_in : (x : ℕ) → 64 - run.left ≤ x → x < 64 - (run.left - n) → (nat_le (64 - run.left) x && nat_lt x ((64 - run.left) + min run.left n)) ≡ true
      part_in x from below =
          let most = had_begun.left in
          and_from (nat_le (64 - run.left) x) (nat_lt x ((64 - run.left) + min run.left n)) (le-leb (64 - run.left) x from)
          (lt-ltb x ((64 - run.left) + min run.left n) (omega (arith, below, most)))

      part_end : (x : ℕ) → x < (64 - run.left) + min run.left n → x < 64 - (run.left - n)
      part_end x below = let most = had_begun.left in omega (arith, below, most)

      part_wider : (x : ℕ) → x < 64 - run.left → x < 64 - (run.left - n)
      part_wider x below = omega (arith, below)

      all_found : (p : Place) → Named (64 - (run.left - n)) p → extents_cover turn.does.found p ≡ true
      all_found p h = ⊎_elim
          (λ (early : part_of h.kept.named.inode < 64 - run.left). finds.keeps p (had_begun.all p
          (parts_back old.settings.region told later old.tables.kv new.tables.kv part_same place.same (64 - run.left) p
          (record { kept = h.kept; part = early }))))
          (λ (from : 64 - run.left ≤ part_of h.kept.named.inode).
          let named = h.kept.named in
          let among = value_among key_cmp new.tables.kv h.kept.number (Key.Region named.inode named.region) (Value.Region named.row) named.there in
          finds.finds p (record {
            region = named.row;
            there = record { at = Key.Region named.inode named.region; stands = part_in (part_of named.inode) from h.part; number = among.0; among = among.1 };
            names = named.names;
          }))
          (cases_lt (part_of h.kept.named.inode) (64 - run.left))

      only_found : (p : Place) → extents_cover turn.does.found p ≡ true → Named (64 - (run.left - n)) p
      only_found p here = ⊎_elim
          (λ had.
          let h = parts_on old.settings.region told later old.tables.kv new.tables.kv part_same place.same (64 - run.left) p (had_begun.only p had) in
          record { kept = h.kept; part = part_wider (part_of h.kept.named.inode) h.part })
          (λ named. let seen = stands_live named.region named.there in by named named.there.at named.there.stands seen.0 seen.1 seen.2)
          (finds.only p here)
        where
          by : (named : NamedIn lists new.tables.kv (next_parts run.left n) p) (q : Key) → key_stands_in (next_parts run.left n) q ≡ true → (m : ℕ)
              → IsTrue (is_live old.tables.kv m) → metadata_at new.tables.kv m q ≡ Some (Value.Region named.region) → Named (64 - (run.left - n)) p
          by named (Key.Path r) stands m live is = absurd (false≢true stands)
          by named (Key.Dir r) stands m live is = absurd (false≢true stands)
          by named (Key.Inode i) stands m live is = absurd (false≢true stands)
          by named (Key.Links i) stands m live is = absurd (false≢true stands)
          by named (Key.Region i r) stands m live is = record {
            kept = record {
              number = m;
              live = part_same.on m live;
              named = record { inode = i; region = r; row = named.region; there = is; names = named.names };
            };
            part = part_end (part_of i) (ltb-true (part_of i) ((64 - run.left) + min run.left n)
                (and_parts (nat_le (64 - run.left) (part_of i)) (nat_lt (part_of i) ((64 - run.left) + min run.left n)) stands).1);
          }

      -- the scan goes on, or it has found what is named
      size_on : (P : ℕ → Type 0) → P old.settings.region → P new.settings.region
      size_on P h = subst (λ (s : Settings). P s.region) (sym place.settings) h

      begun_on : HasBegun new.settings.region later (length_in kind t.after) new.tables then_run
      begun_on = size_on (λ size. HasBegun size later (length_in kind t.after) new.tables then_run) (record {
        marks = λ k f. had_begun.marks k f ∙ sym (long_on kind t old new place k f);
        left = let most = had_begun.left in omega (arith, most);
        all = all_found;
        only = only_found;
        seen = λ m here. kept_same old.tables new.tables part_rest.number part_rest.images part_rest.watched m ∙ had_begun.seen m here;
      })

      in_all : (i : InodeId) → run.left - n ≡ 0 → part_of i < 64 - (run.left - n)
      in_all i none = by (part_of i) (mod_below i.tx.0 64 (omega arith))
        where
          by : (x : ℕ) → x < 64 → x < 64 - (run.left - n)
          by x below = omega (arith, below, none)

      scanned_on : run.left - n ≡ 0 → IsScanned kind t.after new then_run.scan
      scanned_on none = size_on (λ size. HasScanned size later (length_in kind t.after) new.tables.kv then_run.scan) (record {
        marks = λ k f. had_begun.marks k f ∙ sym (long_on kind t old new place k f);
        all = λ p h. all_found p (record { kept = h; part = in_all h.named.inode none });
        only = λ p here. (only_found p here).kept;
      })

      newer_on : IsScanned kind t.before old old.tables.beside.gc.newer → IsScanned kind t.after new old.tables.beside.gc.newer
      newer_on h = scanned_later kind t.before t.after old new place.settings (long_on kind t old new place) part_same place.same old.tables.beside.gc.newer h

    -- some are left
    module _ (some : 0 < left) where
      goes_on : new.tables.beside.gc ≡ record old.tables.beside.gc { running = Some then_run }
      goes_on =
          let left_is = turn.does.left_is in
          turn.does.is ∙ ap (λ (b : Bool). cond b (with_finished old.tables.beside.gc then_run.scan)
          (record old.tables.beside.gc { running = Some then_run })) (ne_eqb (run.left - n) 0 (λ none. omega (arith, left_is, some, none)))

      run_on_is : AreIdle old.tables → IsBegun kind t.before old old.tables.beside.gc.running → IsBegun kind t.after new new.tables.beside.gc.running
      run_on_is idle h = subst (λ (o : Option RunView). IsBegun kind t.after new o) (sym (ap (λ (g : GcView). g.running) goes_on)) (begun_on idle h)

      pub more : AreIdle old.tables → (s : Stage) → HasScans kind t.before old s → HasScans kind t.after new s
      more idle Saved h = tt
      more idle Scans h = run_on_is idle h
      more idle Scanned h = absurd (not_idle h.0)
      more idle ScansAgain h =
          (run_on_is idle h.0, subst (λ (s : ScanView). IsScanned kind t.after new s) (sym (ap (λ (g : GcView). g.newer) goes_on)) (newer_on idle h.0 h.1))
      more idle ScannedTwice h = absurd (not_idle h.0)

    -- none is
    module _ (over : run.left - n ≡ 0) where
      finished : new.tables.beside.gc ≡ with_finished old.tables.beside.gc then_run.scan
      finished = turn.does.is ∙ ap (λ (b : Bool). cond b (with_finished old.tables.beside.gc then_run.scan)
          (record old.tables.beside.gc { running = Some then_run })) (eq-eqb (run.left - n) 0 over)

      none_left : new.tables.beside.gc.running ≡ None
      none_left = ap (λ (g : GcView). g.running) finished

      newer_is : AreIdle old.tables → IsBegun kind t.before old old.tables.beside.gc.running → IsScanned kind t.after new new.tables.beside.gc.newer
      newer_is idle h = subst (λ (s : ScanView). IsScanned kind t.after new s) (sym (ap (λ (g : GcView). g.newer) finished)) (scanned_on idle h over)

      pub done : AreIdle old.tables → (s : Stage) → HasScans kind t.before old s → HasScans kind t.after new (stage_done s)
      done idle Saved h = tt
      done idle Scans h = (none_left, newer_is idle h)
      done idle Scanned h = absurd (not_idle h.0)
      done idle ScansAgain h = (
        none_left,
        subst (λ (s : ScanView). IsScanned kind t.after new s) (sym (ap (λ (g : GcView). g.older) finished)) (newer_on idle h.0 h.1),
        newer_is idle h.0,
      )
      done idle ScannedTwice h = absurd (not_idle h.0)
