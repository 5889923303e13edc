-- The tables stay sound where a scan begins, does its parts, or ends, and where garbage is freed.
use Rattle.wtf_clients.proofs.Common.{IsTrue, is_live, map_at, key_cmp, AllFit, TxnView, undone, run_on, RunView, AreSound, DoesTurn, of_label, false, count_by}
use Rattle.wtf_clients.proofs.Common.{Contains, StoreKind, cases_lt, is_pinned, any-count, count-any, Value, with_run, of_client, all_owned, all_kept, all_seen}
use Rattle.wtf_clients.proofs.Common.{Store, times_pinned, metadata_at, with_finished, BesideView, TablesView, all_planned, all_watched, StartsTurn, KeepsStore}
use Rattle.wtf_clients.proofs.Common.{Key, Map, Dev, GcView, ◌≡◌, ℕ, ◌+◌, Bool, true, cond, nat_eq, List, Some, sym, ap, ◌∙◌, subst, ⊎_elim, arith}
use Rattle.wtf_clients.proofs.{Lives.live_cases, Lives.live_upto, Lives.pinned_live, Lives.number_live, Pins.base_pinned}

-- Tables of which only the scans and the store differ: the number stays, each number that is pinned is owned, and the map at each that is
-- pinned is what it was.
pub sound_scanned : (old new : TablesView) → AreSound old → new.kv.number ≡ old.kv.number → ((n : ℕ) → IsTrue (is_pinned new.kv n) → IsTrue (is_live old.kv n))
    → ((n : ℕ) → IsTrue (is_live old.kv n) → metadata_at new.kv n ≡ metadata_at old.kv n)
    → ((n : ℕ) → times_pinned new.kv n ≡ all_owned n new.clients + all_kept n new.beside)
    → new.clients ≡ old.clients → new.next_tx ≡ old.next_tx → new.beside.images ≡ old.beside.images → new.beside.jobs ≡ old.beside.jobs → AreSound new
sound_scanned old new sound number reach maps pins clients next images jobs =
    let was : (c : ℕ) (x : TxnView) → of_client new.clients c ≡ Some x → of_client old.clients c ≡ Some x =
    λ c x there. ap (λ l. of_client l c) (sym clients) ∙ there in
    record {
      begun = let b = sound.begun in omega (arith, b, next);
      each = λ c x there.
          let is = sound.each c x (was c x there) in
          let pinned : IsTrue (is_pinned new.kv x.at.base) = base_pinned new.kv new.clients new.beside c x pins there in
          let based = is.based in
          let older = is.older in
          record {
            going = is.going;
            fit = record {
              pinned = pinned;
              fits = subst (λ (w : Map). AllFit x.at.changes w) (sym (maps x.at.base (pinned_live old.kv x.at.base is.fit.pinned))) is.fit.fits;
              log = is.fit.log;
              most = is.fit.most;
            };
            based = omega (arith, based, number);
            older = omega (arith, older, next);
          };
      pins = pins;
      upto = λ n pinned. let le = live_upto old n sound (reach n pinned) in omega (arith, le, number);
      kept = λ n here. let le = sound.kept n (subst (λ l. Contains l n) images here) in omega (arith, le, number);
      apart = λ c d x y is its same. sound.apart c d x y (was c x is) (was d y its) same;
      formed = λ j x is. sound.formed j x (ap (λ l. of_label l j) (sym jobs) ∙ is);
    }

-- a store of which the pins alone differ shows the same maps
pub same_maps : (old new : Store Key Value) → new.number ≡ old.number → new.cells ≡ old.cells → (n : ℕ) → metadata_at new n ≡ metadata_at old n
same_maps old new number cells n =
    ap (λ k. map_at key_cmp (record { number = k; pins = new.pins; cells = new.cells }) n) number
    ∙ ap (λ cs. map_at key_cmp (record { number = old.number; pins = new.pins; cells = cs }) n) cells

module _ {S : Type 0} (kind : StoreKind S) (shelf : List S) (old new : TablesView) (sound : AreSound old) (turn : StartsTurn kind shelf old new) where
  abbrev run : RunView
  run = turn.starts.run

  -- only what may be read is pinned more often
  pub start_live : (n : ℕ) → IsTrue (is_pinned new.kv n) → IsTrue (is_live old.kv n)
  start_live n pinned =
      let some = count-any n new.kv.pins pinned in
      let more = turn.starts.pins.pins n in
      ⊎_elim
      (λ was. pinned_live old.kv n (any-count n old.kv.pins was))
      (λ none. sym (turn.starts.seen n) ∙ any-count n run.seen (omega (arith, some, more, none)))
      (cases_lt 0 (times_pinned old.kv n))

  pub start_maps : (n : ℕ) → metadata_at new.kv n ≡ metadata_at old.kv n
  start_maps n = same_maps old.kv new.kv turn.starts.pins.number turn.starts.pins.cells n

  -- and that can be read then could be read before
  pub start_reads : (n : ℕ) → IsTrue (is_live new.kv n) → IsTrue (is_live old.kv n)
  start_reads n live = ⊎_elim
      (λ now. subst (λ k. IsTrue (is_live old.kv k)) (sym (now ∙ turn.starts.pins.number)) (number_live old.kv))
      (λ pinned. start_live n pinned)
      (live_cases new.kv n live)

  pub start_sound : AreSound new
  start_sound =
      sound_scanned old new sound turn.starts.pins.number start_live (λ n live. start_maps n)
      (λ n.
      let more = turn.starts.pins.pins n in
      let was = sound.pins n in
      let own : all_owned n new.clients ≡ all_owned n old.clients = ap (all_owned n) turn.clients in
      let images : count_by (nat_eq n) new.beside.images ≡ count_by (nat_eq n) old.beside.images =
      ap (λ (b : BesideView). count_by (nat_eq n) b.images) turn.beside in
      let jobs : all_planned n new.beside.jobs ≡ all_planned n old.beside.jobs = ap (λ (b : BesideView). all_planned n b.jobs) turn.beside in
      let seen : all_seen n new.beside.gc.running ≡ count_by (nat_eq n) run.seen = ap (λ (g : GcView). all_seen n g.running) turn.starts.is in
      let none : all_seen n old.beside.gc.running ≡ 0 = ap (all_seen n) turn.free in
      let watched : all_watched n new.beside.watched ≡ all_watched n old.beside.watched =
      ap (λ (b : BesideView). all_watched n b.watched) turn.beside in
      omega (arith, more, was, own, images, jobs, seen, none, watched))
      turn.clients turn.next_tx (ap (λ (b : BesideView). b.images) turn.beside) (ap (λ (b : BesideView). b.jobs) turn.beside)

-- freeing changes none of it
pub free_sound : (old new : TablesView) → AreSound old → KeepsStore old new → new.beside.gc.running ≡ old.beside.gc.running → AreSound new
free_sound old new sound keeps running =
    sound_scanned old new sound (ap (λ (s : Store Key Value). s.number) keeps.kv)
    (λ n pinned. pinned_live old.kv n (subst (λ (s : Store Key Value). IsTrue (is_pinned s n)) keeps.kv pinned))
    (λ n live. ap (λ (s : Store Key Value). metadata_at s n) keeps.kv)
    (λ n.
    let same : times_pinned new.kv n ≡ times_pinned old.kv n = ap (λ (s : Store Key Value). times_pinned s n) keeps.kv in
    let was = sound.pins n in
    let own : all_owned n new.clients ≡ all_owned n old.clients = ap (all_owned n) keeps.keeps.clients in
    let images : count_by (nat_eq n) new.beside.images ≡ count_by (nat_eq n) old.beside.images =
    ap (λ (b : BesideView). count_by (nat_eq n) b.images) keeps.keeps.beside in
    let jobs : all_planned n new.beside.jobs ≡ all_planned n old.beside.jobs = ap (λ (b : BesideView). all_planned n b.jobs) keeps.keeps.beside in
    let seen : all_seen n new.beside.gc.running ≡ all_seen n old.beside.gc.running = ap (all_seen n) running in
    let watched : all_watched n new.beside.watched ≡ all_watched n old.beside.watched =
    ap (λ (b : BesideView). all_watched n b.watched) keeps.keeps.beside in
    omega (arith, same, was, own, images, jobs, seen, watched))
    keeps.keeps.clients keeps.keeps.next_tx (ap (λ (b : BesideView). b.images) keeps.keeps.beside) (ap (λ (b : BesideView). b.jobs) keeps.keeps.beside)

-- ---- parts
-- what the pins of a scan are once parts are done: its own, or, where none is left, undone
seen_left : (old : GcView) (r : RunView) (m : ℕ) → all_seen m (with_run old r).running + undone r m ≡ count_by (nat_eq m) r.seen
seen_left old r m = by (nat_eq r.left 0)
  where
    by : (b : Bool) → all_seen m (cond b (with_finished old r.scan) (record old { running = Some r })).running
        + cond b (count_by (nat_eq m) r.seen) 0 ≡ count_by (nat_eq m) r.seen
    by true = omega arith
    by false = omega arith

module _ {S : Type 0} (kind : StoreKind S) (before after : Dev S) (old new : TablesView) (n left : ℕ) (sound : AreSound old)
    (turn : DoesTurn kind before after old new n left) where
  abbrev done : RunView
  done = run_on turn.does.run n turn.does.found

  -- no number is pinned more often
  pub does_live : (m : ℕ) → IsTrue (is_pinned new.kv m) → IsTrue (is_live old.kv m)
  does_live m pinned =
      let some = count-any m new.kv.pins pinned in
      let less = turn.does.pins m in
      pinned_live old.kv m (any-count m old.kv.pins (omega (arith, some, less)))

  pub does_reads : (m : ℕ) → IsTrue (is_live new.kv m) → IsTrue (is_live old.kv m)
  does_reads m live = ⊎_elim
      (λ now. subst (λ k. IsTrue (is_live old.kv k)) (sym (now ∙ turn.prunes.number)) (number_live old.kv))
      (λ pinned. does_live m pinned)
      (live_cases new.kv m live)

  pub does_sound : AreSound new
  does_sound =
      sound_scanned old new sound turn.prunes.number does_live (λ m live. turn.prunes.maps m live)
      (λ m.
      let less = turn.does.pins m in
      let was = sound.pins m in
      let own : all_owned m new.clients ≡ all_owned m old.clients = ap (all_owned m) turn.keeps.clients in
      let images : count_by (nat_eq m) new.beside.images ≡ count_by (nat_eq m) old.beside.images =
      ap (λ (b : BesideView). count_by (nat_eq m) b.images) turn.keeps.beside in
      let jobs : all_planned m new.beside.jobs ≡ all_planned m old.beside.jobs = ap (λ (b : BesideView). all_planned m b.jobs) turn.keeps.beside in
      let now : all_seen m new.beside.gc.running ≡ all_seen m (with_run old.beside.gc done).running = ap (λ (g : GcView). all_seen m g.running) turn.does.is in
      let kept = seen_left old.beside.gc done m in
      let had : all_seen m old.beside.gc.running ≡ count_by (nat_eq m) turn.does.run.seen = ap (all_seen m) turn.does.was in
      let watched : all_watched m new.beside.watched ≡ all_watched m old.beside.watched =
      ap (λ (b : BesideView). all_watched m b.watched) turn.keeps.beside in
      omega (arith, less, was, own, images, jobs, now, kept, had, watched))
      turn.keeps.clients turn.keeps.next_tx (ap (λ (b : BesideView). b.images) turn.keeps.beside) (ap (λ (b : BesideView). b.jobs) turn.keeps.beside)
