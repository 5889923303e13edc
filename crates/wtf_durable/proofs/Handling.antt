-- What the core promises of a line over a journal as the keeper of its images, as it is told of the journal's disk.
use Rattle.std.proofs.Common.{◌≡◌, ◌≢◌, ◌⊎◌, ◌<◌, ◌≤◌, ◌++◌, ◌∷◌, ℕ, true, false, List, [], map, refl, sym, ◌∙◌, subst, inl, ⊎_elim}
use Rattle.std.proofs.Common.{arith, append-nil, true≢false}
use Rattle.std.specs.List.{Contains}
use Rattle.wtf_dev.specs.Counts.{Rose}
use Rattle.wtf_dev.specs.Disk.{DiskKind}
use Rattle.wtf_dev.specs.Each.{EachFollows}
use Rattle.wtf_dev.specs.Keep.{KeeperView}
use Rattle.wtf_dev.specs.Store.{StoreKind}
use Rattle.wtf_imagefmt.specs.Saving.{IsSaveOf}
use Rattle.wtf_journal.specs.declared.keeper.JournalKeeper.{JournalKeeper}
use Rattle.wtf_journal.specs.Follows.{SyncedState, synced_kind}
use Rattle.wtf_journal.specs.Keeper.{JournalFollows, JournalRefuses, image_body, journal_itself, journal_keeper_view}
use Rattle.wtf_journal.specs.Records.{RestsAt}
use Rattle.wtf_replica.specs.Downs.{is_down}
use Rattle.wtf_replica.specs.Outs.{HasSynced}
use Rattle.wtf_replica.specs.Spans.{Span, span}
use Rattle.wtf_model.specs.declared.answer.Answer.{Answer}
use Rattle.wtf_model.specs.declared.answer.Answer.TheVariants as answer
use Rattle.wtf_model.specs.declared.event.Event.{Event}
use Rattle.wtf_model.specs.declared.event.Event.TheVariants as event
use Rattle.wtf_clients.specs.Keeping.{KeeperSpan, KeeperTurn, keeper_span}
use Rattle.wtf_clients.specs.Outcomes.{SaveFault, SomeOut}
use Rattle.wtf_core.specs.Promises.{CoreDoes, CoreFails, CoreStays, IsCaused, IsLeftBy, Scene, scene}
use Rattle.wtf_core.specs.Views.{CoreView, TablesView}
use Rattle.wtf_core.proofs.Holding.{handed_one}
use Rattle.wtf_core.proofs.ToldLines.{none_ranges}
use Rattle.wtf_durable.proofs.Blind.{caused_blind, goes_blind, obeys_blind, stores_blind}
use Rattle.wtf_durable.specs.Handled.{Handled, HandlesNot, HandsImages}
use Rattle.wtf_durable.specs.Promises.{IsImageBody, SavesStores}
use Rattle.wtf_durable.specs.Views.{DurableScene, ReachesGate, blind, durable_scene}

-- want of memory leaves the number of the next transaction
left_next : (e : Event) (old new : TablesView) → IsLeftBy e old new → old.next_tx ≤ new.next_tx
left_next (event.Piece n) old new left = let same = left.next_tx in omega (arith, same)
left_next e old new left = let same = left.next_tx in omega (arith, same)

-- ---- the journal
module _ {D : Type 0} (kind : DiskKind D) (k k' : JournalKeeper D) (core : CoreView) where
  abbrev pub turn_span : KeeperSpan
  turn_span = keeper_span (journal_keeper_view kind) (JournalFollows kind) JournalRefuses k k'

  -- what was handed to it: images of the core
  pub record HandedOver : Type 0 where
    pub images : List (List ℕ)
    pub each : (image : List ℕ) → Contains images image → IsSaveOf core.tables.kv core.settings core.tables.next_tx image
    pub follows : JournalFollows kind k k' images

  pub handed_none : k' ≡ k → HandedOver
  handed_none same = record {
    images = [];
    each = λ image there. absurd (let below = there.1 in omega (arith, below));
    follows = subst (λ (x : JournalKeeper D). JournalFollows kind k x []) (sym same) (journal_itself kind k);
  }

  handed_image : (bytes : List ℕ) → IsSaveOf core.tables.kv core.settings core.tables.next_tx bytes → JournalFollows kind k k' (bytes ∷ []) → HandedOver
  handed_image bytes save follows = record {
    images = bytes ∷ [];
    each = λ image there. subst (λ (b : List ℕ). IsSaveOf core.tables.kv core.settings core.tables.next_tx b) (handed_one bytes image there) save;
    follows = follows;
  }

  pub hands_by : HandedOver → HandsImages kind k.disk.now k'.disk.now k.journal.now.end core
  hands_by h = record {
    images = h.images;
    each = h.each;
    goes_on = h.follows.goes_on;
    elsewhere = h.follows.elsewhere;
    moments = λ tells stands. (h.follows.moments tells (λ whole. stands)).1;
  }

  module _ {S : Type 0} (stores : StoreKind S) (t : Span S) (new : CoreView) where
    abbrev Turn : Event → Answer → Type 0
    Turn e a = KeeperTurn stores t turn_span core.settings core.tables new.tables e a

    save_handed : (a : Answer) → Turn event.Save a → HandedOver
    save_handed (answer.Saved n) turn = handed_image turn.hands.bytes turn.hands.image turn.hands.handed
    save_handed answer.FaultSave turn =
        ⊎_elim (λ out. handed_none out.untouched) (λ failed. handed_image failed.hands.bytes failed.hands.image failed.hands.handed) turn
    save_handed a turn = handed_none turn

    pub turn_handed : (e : Event) (a : Answer) → Turn e a → HandedOver
    turn_handed event.Save a turn = save_handed a turn
    turn_handed e a turn = handed_none turn

    -- what is known where neither flag rose
    module _ (none : k.short ≡ 0) (still : k'.short ≡ 0) (was : k.journal.now.failed ≡ false) (whole : k'.journal.now.failed ≡ false) where
      unrisen : Rose k.short k'.short → ⊥
      unrisen rose = let more = rose (omega (arith, still)) in omega (arith, more, none, still)

      unrefused : JournalRefuses k k' → ⊥
      unrefused refused = ⊎_elim (λ failed. absurd (true≢false (sym failed.1 ∙ whole))) unrisen refused

      abbrev Adds : List (List ℕ) → Type 0
      Adds saved = (kind.view k.disk.now).tells ≡ true → (bodies : List (List ℕ)) → RestsAt kind k.disk.now k.journal.now.end bodies
          → RestsAt kind k'.disk.now k'.journal.now.end (bodies ++ saved)

      adds_none : k' ≡ k → Adds []
      adds_none same tells bodies rests =
          subst (λ (l : List (List ℕ)). RestsAt kind k'.disk.now k'.journal.now.end l) (sym (append-nil bodies))
          (subst (λ (x : JournalKeeper D). RestsAt kind x.disk.now x.journal.now.end bodies) (sym same) rests)

      adds_one : (bytes : List ℕ) → JournalFollows kind k k' (bytes ∷ []) → Adds ((0 ∷ bytes) ∷ [])
      adds_one bytes follows tells bodies rests =
          let made = follows.rests tells bodies rests whole in
          ⊎_elim
          (λ all. subst (λ (l : List (List ℕ)). RestsAt kind k'.disk.now k'.journal.now.end (bodies ++ map image_body l)) all made.rests)
          (λ rose. absurd (unrisen rose))
          made.all

      pub record Added (e : Event) (a : Answer) : Type 0 where
        pub saved : List (List ℕ)
        pub saved_is : IsImageBody core e a saved
        pub added : Adds saved

      save_adds : (a : Answer) → Turn event.Save a → Added event.Save a
      save_adds (answer.Saved n) turn = record {
        saved = (0 ∷ turn.hands.bytes) ∷ [];
        saved_is = (turn.hands.bytes, turn.hands.image, refl);
        added = adds_one turn.hands.bytes turn.hands.handed;
      }
      save_adds answer.FaultSave turn = record {
        saved = [];
        saved_is = refl;
        added = adds_none (⊎_elim (λ out. out.untouched) (λ failed. absurd (unrefused failed.refused)) turn);
      }
      save_adds a turn = record { saved = []; saved_is = refl; added = adds_none turn }

      pub turn_adds : (e : Event) (a : Answer) → Turn e a → Added e a
      turn_adds event.Save a turn = save_adds a turn
      turn_adds e a turn = record { saved = []; saved_is = refl; added = adds_none turn }

      -- a save that was answered by a fault has its cause in the stores
      pub save_cause : {Rises : Type 0} (a : Answer) → Turn event.Save a → a ≡ answer.FaultSave → SomeOut stores t core.settings.servers ⊎ Rises
      save_cause a turn is =
          let fault : Turn event.Save answer.FaultSave = subst (λ (b : Answer). Turn event.Save b) is turn in
          ⊎_elim (λ out. inl out.out) (λ failed. absurd (unrefused failed.refused)) fault

    -- a line that is no save leaves both
    pub untouched_else : (e : Event) (a : Answer) → e ≢ event.Save → Turn e a → k' ≡ k
    untouched_else event.Save a unsaved turn = absurd (unsaved refl)
    untouched_else e a unsaved turn = turn

-- ---- the core
module _ {S D : Type 0} (stores : DiskKind S) (kind : DiskKind D) (k k' : JournalKeeper D) (shelf shelf' : List (SyncedState S)) (core core' : CoreView) where
  abbrev pub handled_old : DurableScene S D
  handled_old = durable_scene shelf k.disk.now (record { core = core; journal = k.journal.now })

  abbrev pub handled_mid : DurableScene S D
  handled_mid = durable_scene shelf' k'.disk.now (record { core = core'; journal = k'.journal.now })

  abbrev by_old : Scene (SyncedState S)
  by_old = scene shelf (journal_keeper_view kind k) core

  abbrev by_mid : Scene (SyncedState S)
  by_mid = scene shelf' (journal_keeper_view kind k') core'

  abbrev pub the_span : Span (SyncedState S)
  the_span = span (is_down core.replicas) shelf shelf'

  abbrev Does : Event → Answer → Type 0
  Does e a = CoreDoes (synced_kind stores) (turn_span kind k k' core) by_old by_mid e a

  abbrev Stays : Event → Type 0
  Stays e = CoreStays (synced_kind stores) by_old by_mid e

  module _ (none : k.short ≡ 0) (still : k'.short ≡ 0) (was : k.journal.now.failed ≡ false) (whole : k'.journal.now.failed ≡ false) where
    abbrev Rises : Type 0
    Rises = Rose (kind.view k.disk.now).faults (kind.view k'.disk.now).faults

    saves_fault : (rose : Type 0) (f : Event) (b : Answer)
        → KeeperTurn (synced_kind stores) the_span (turn_span kind k k' core) core.settings core.tables core'.tables f b
        → b ≡ answer.FaultSave → SaveFault (synced_kind stores) the_span core.settings rose f
        → SaveFault (synced_kind stores) the_span core.settings Rises f
    saves_fault rose event.Save b turn is h = save_cause kind k k' core (synced_kind stores) the_span core' none still was whole b turn is
    saves_fault rose f b turn is h = h

    -- what came of a save of the stores
    save_out : (rose : Type 0) (f : Event) (b : Answer)
        → KeeperTurn (synced_kind stores) the_span (turn_span kind k k' core) core.settings core.tables core'.tables f b
        → b ≡ answer.FaultSave → SaveFault (synced_kind stores) the_span core.settings rose f
        → SomeOut (synced_kind stores) the_span core.settings.servers
    save_out rose event.Save b turn is h =
        ⊎_elim (λ out. out) (λ never. absurd never)
        (save_cause kind k k' core (synced_kind stores) the_span core' none still was whole {Rises = ⊥} b turn is)
    save_out rose f b turn is h = absurd h

    save_synced : (f : Event) (b : Answer) → Does f b → (n : ℕ) → f ≡ event.Save → b ≡ answer.Saved n → (j : ℕ) → j < core.settings.servers
        → HasSynced (synced_kind stores) shelf shelf' j
    save_synced f b does n asks says =
        let saved : Does event.Save (answer.Saved n)
        = subst (λ (c : Answer). Does event.Save c) says (subst (λ (g : Event). Does g b) asks does) in
        saved.kept.turn.hands.synced

    saves_by : (e : Event) (a : Answer) → Does e a → SavesStores (synced_kind stores) the_span core.settings.servers e a
    saves_by e a does = record {
      synced = save_synced e a does;
      out = λ is. save_out (Rose by_old.keeper.faults by_mid.keeper.faults) e a does.kept.turn is
          (subst (λ (b : Answer). IsCaused (synced_kind stores) by_old by_mid e b) is does.caused).cause;
    }

    pub handled_by : (e : Event) (a : Answer) → Does e a → Stays e → ReachesGate kind k.disk.now handled_old.durable
        → Handled stores kind handled_old handled_mid e a
    handled_by e a does stays reach =
        let handed = turn_handed kind k k' core (synced_kind stores) the_span core' e a does.kept.turn in
        let v : KeeperView = journal_keeper_view kind k in
        let v' : KeeperView = journal_keeper_view kind k' in
        let w : KeeperView = blind (kind.view k.disk.now) in
        let w' : KeeperView = blind (kind.view k'.disk.now) in
        let adds = turn_adds kind k k' core (synced_kind stores) the_span core' none still was whole e a does.kept.turn in
        record {
          line = does.turn;
          stays = stays.core;
          goes_on = goes_blind (synced_kind stores) shelf shelf' core core' v v' w w' e a does.goes_on;
          lawful = obeys_blind (synced_kind stores) shelf shelf' core core' v v' w w' e a (λ tell. true≢false (sym tell)) does.lawful;
          stored = stores_blind (synced_kind stores) shelf shelf' core core' v v' w w' e a does.stored;
          caused = caused_blind (synced_kind stores) shelf shelf' core core' v v' w w' e a (saves_fault _ e a does.kept.turn) does.caused;
          told = does.told;
          punched = does.punched;
          leaves = stays.leaves;
          saves = saves_by e a does;
          hands = hands_by kind k k' core handed;
          whole = whole;
          reach = handed.follows.reach reach;
          saved = adds.saved;
          saved_is = adds.saved_is;
          added = adds.added;
        }

  -- where a flag rose the line was a save, which punches nothing
  pub flagged_by : (e : Event) (a : Answer) → Does e a → Stays e → (k' ≡ k → ⊥) → HandlesNot stores kind handled_old handled_mid e
  flagged_by e a does stays changed = record {
    number = stays.core.number;
    next_tx = stays.core.next_tx;
    no_earlier = does.goes_on.next_tx;
    leaves = stays.leaves;
    follows = subst (EachFollows (synced_kind stores) shelf shelf')
        (none_ranges core.tables.beside.gc e a does.punched.punches.ranges
        (λ j is. changed (untouched_else kind k k' core (synced_kind stores) the_span core' e a (uncollect e j is) does.kept.turn))
        does.punched.punches.are)
        does.punched.punches.follows;
    hands = hands_by kind k k' core (turn_handed kind k k' core (synced_kind stores) the_span core' e a does.kept.turn);
  }
    where
      uncollect : (f : Event) (j : ℕ) → f ≡ event.Collect j → f ≢ event.Save
      uncollect f j is saved = absurd (cc (is, saved))

  pub lost_by : (e : Event) → CoreFails (synced_kind stores) (turn_span kind k k' core) by_old by_mid e → Stays e
      → HandlesNot stores kind handled_old handled_mid e
  lost_by e fails stays = record {
    number = stays.core.number;
    next_tx = stays.core.next_tx;
    no_earlier = left_next e core.tables core'.tables fails.closes.left;
    leaves = stays.leaves;
    follows = fails.follows;
    hands = hands_by kind k k' core (handed_none kind k k' core fails.untouched);
  }

  -- why the journal failed
  pub failed_cause : (e : Event) (a : Answer) → Does e a → k.short ≡ 0 → k'.short ≡ 0 → k.journal.now.failed ≡ false → k'.journal.now.failed ≡ true
      → Rose (kind.view k.disk.now).faults (kind.view k'.disk.now).faults
  failed_cause e a does none still was failed =
      ⊎_elim
      (λ rose. absurd (let more = rose (omega (arith, still)) in omega (arith, more, none, still)))
      (λ rose. rose)
      ((turn_handed kind k k' core (synced_kind stores) the_span core' e a does.kept.turn).follows.cause was failed)
