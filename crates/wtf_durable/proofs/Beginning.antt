-- What the first save of a store whose journal has no record leaves, by the flags of its keeper.
use Rattle.std.proofs.Common.{◌≡◌, ◌≢◌, ◌⊎◌, ℕ, Bool, true, false, List, Ok, Err, refl, sym, ap, ◌∙◌, subst, inl, inr, ⊎_elim, true≢false}
use Rattle.std.specs.Prelude.{Result, IfOk, IsErrOf, IsOk, OnErr, OnOk, [], slice_index_or}
use Rattle.wtf_base.specs.declared.settings.Settings.{Settings}
use Rattle.wtf_dev.specs.Counts.{Rose}
use Rattle.wtf_dev.specs.Disk.{DiskKind}
use Rattle.wtf_dev.specs.Store.{StoreKind}
use Rattle.wtf_journal.specs.declared.keeper.JournalKeeper.{JournalKeeper}
use Rattle.wtf_journal.specs.Follows.{SyncedState, synced_kind}
use Rattle.wtf_journal.specs.Keeper.{journal_keeper_view}
use Rattle.wtf_replica.specs.Downs.{is_down}
use Rattle.wtf_replica.specs.Outs.{HasRisen, SameFrom, SameLengths}
use Rattle.wtf_replica.specs.Spans.{Span}
use Rattle.wtf_model.specs.declared.answer.Answer.{Answer}
use Rattle.wtf_model.specs.declared.answer.Answer.TheVariants as answer
use Rattle.wtf_model.specs.declared.event.Event.TheVariants as event
use Rattle.wtf_clients.specs.Asked.{Lending}
use Rattle.wtf_clients.specs.Leaving.{LeavesAlone}
use Rattle.wtf_clients.specs.Outcomes.{SomeOut}
use Rattle.wtf_clients.specs.Views.{TablesView}
use Rattle.wtf_core.specs.Promises.{CoreDoes, CoreFails, CoreStays, scene}
use Rattle.wtf_core.specs.Views.{CoreView}
use Rattle.wtf_serve.specs.Openings.{Opening, Opens, new_opening}
use Rattle.wtf_durable.specs.declared.fault.DurableFault.{DurableFault}
use Rattle.wtf_durable.specs.declared.fault.DurableFault.TheVariants as fault
use Rattle.wtf_durable.specs.Found.{IsBegun, IsFoundBy}
use Rattle.wtf_durable.specs.Handled.{Handled, HandsImages}
use Rattle.wtf_durable.specs.Views.{DurableScene, DurableView, ReachesGate, durable_scene}
use Rattle.wtf_durable.proofs.Handling.{hands_by, save_cause, the_span, turn_span}
use Rattle.wtf_durable.proofs.Judging.{cause_result, handed_by, handled_result}

-- a save has no place to which bytes of it go, so no file grows
pub save_lengths : {S : Type 0} (kind : StoreKind S) (t : Span S) (lent : Lending) (tables : TablesView) → LeavesAlone kind t lent tables event.Save
    → SameLengths kind t.before t.after
save_lengths kind t lent tables leaves = ⊎_elim (λ same. same) (λ grown. absurd grown.1.3) leaves.files

-- beginning leaves the settings
pub begun_settings : {S D : Type 0} (stores : DiskKind S) (kind : DiskKind D) (fresh : Bool) (old new : DurableScene S D) → IsBegun stores kind fresh old new
    → new.durable.core.settings ≡ old.durable.core.settings
begun_settings stores kind true old new (n, saved) = saved.stays.settings
begun_settings stores kind false old new same = ap (λ s. s.durable.core.settings) same

-- with no record in its journal a store has the settings that are asked for
none_settings : (asked : Settings) (image : List ℕ) (opening : Opening) → Opens asked opening.bytes opening → opening.bytes ≡ image → image ≡ []
    → opening.settings ≡ asked
none_settings asked image opening opens bytes none =
    let new : opening ≡ new_opening asked = subst (λ b. Opens asked b opening) (bytes ∙ none) opens in ap (λ (o : Opening). o.settings) new

-- so the stores are spared that these do not have; and where it has one all are
pub spared_unused : {S D : Type 0} (stores : DiskKind S) (kind : DiskKind D) (asked : Settings) (shelf shelf' : List (SyncedState S)) (disk : D × D)
    (d : DurableView) (fresh : Bool) → IsFoundBy stores kind asked shelf disk d fresh → (fresh ≡ false → shelf' ≡ shelf)
    → SameFrom d.core.settings.servers shelf shelf' → SameFrom asked.servers shelf shelf'
spared_unused stores kind asked shelf shelf' disk d true is untouched past =
    subst (λ (s : Settings). SameFrom s.servers shelf shelf')
    (is.core.ready.settings ∙ none_settings asked is.image is.core.opening is.core.opens is.core.bytes_are is.fresh_is) past
spared_unused stores kind asked shelf shelf' disk d false is untouched past = λ k s there. ap (λ x. slice_index_or x k s) (untouched refl)

module _ {S D E : Type 0} (stores : DiskKind S) (kind : DiskKind D) (k k' : JournalKeeper D) (shelf shelf' : List (SyncedState S)) (core core' : CoreView)
    (s : Result Answer E)
    (does : IfOk s (CoreDoes (synced_kind stores) (turn_span kind k k' core) (scene shelf (journal_keeper_view kind k) core)
    (scene shelf' (journal_keeper_view kind k') core') event.Save))
    (fails : OnErr s (CoreFails (synced_kind stores) (turn_span kind k k' core) (scene shelf (journal_keeper_view kind k) core)
    (scene shelf' (journal_keeper_view kind k') core') event.Save))
    (stays : CoreStays (synced_kind stores) (scene shelf (journal_keeper_view kind k) core) (scene shelf' (journal_keeper_view kind k') core') event.Save)
    (none : k.short ≡ 0) (was : k.journal.now.failed ≡ false) (disk : D) (disk_is : disk ≡ k'.disk.now)
    (old : DurableView) (old_is : ◌≡◌ {A = DurableView} (record { core = core; journal = k.journal.now }) old) where
  pub begin_hands : HandsImages kind k.disk.now disk old.journal.end old.core
  begin_hands =
      subst (λ (d : D). HandsImages kind k.disk.now d old.journal.end old.core) (sym disk_is)
      (subst (λ (v : DurableView). HandsImages kind k.disk.now k'.disk.now v.journal.end v.core) old_is
      (hands_by kind k k' core (handed_by stores kind k k' shelf shelf' core core' event.Save s does fails)))

  abbrev Saves : ℕ → Type 0
  Saves n = Handled stores kind (durable_scene shelf k.disk.now old) (durable_scene shelf' disk (record { core = core'; journal = k'.journal.now })) event.Save
      (answer.Saved n)

  module _ (r : Result Answer DurableFault) (failed : Bool) (failed_is : failed ≡ k'.journal.now.failed)
      (answered : IfOk r (λ a. (s ≡ Ok a) × ((k'.short ≡ 0) × (failed ≡ false)))) where
    -- it was saved
    saved_one : ReachesGate kind k.disk.now old → (n : ℕ) → r ≡ Ok (answer.Saved n) → Saves n
    saved_one reach n is =
        subst (λ (q : Result Answer DurableFault). IfOk q (λ a. Handled stores kind (durable_scene shelf k.disk.now old)
        (durable_scene shelf' disk (record { core = core'; journal = k'.journal.now })) event.Save a)) is
        (handled_result stores kind k k' shelf shelf' core core' event.Save s does fails stays none was disk disk_is old old_is r failed failed_is reach
        answered)

    pub begun_by : {F : Type 0} (q : Result (Unit {0}) F) → ReachesGate kind k.disk.now old → OnOk q ((n : ℕ) × (r ≡ Ok (answer.Saved n)))
        → OnOk q (IsBegun stores kind true (durable_scene shelf k.disk.now old) (durable_scene shelf' disk (record { core = core'; journal = k'.journal.now })))
    begun_by (Ok u) reach saved = (saved.0, saved_one reach saved.0 saved.1)
    begun_by (Err why) reach saved = tt

    -- or not, with its cause in a store or in the journal's disk
    abbrev Rises : Type 0
    Rises = ((j : ℕ) × HasRisen (synced_kind stores) shelf shelf' j) ⊎ Rose (kind.view k.disk.now).faults (kind.view disk).faults

    store_rose : ((j : ℕ) → is_down core.replicas j ≡ false)
        → SomeOut (synced_kind stores) (the_span stores kind k k' shelf shelf' core core') core.settings.servers
        → (j : ℕ) × HasRisen (synced_kind stores) shelf shelf' j
    store_rose up (j, there, out) = (j, ⊎_elim (λ down. absurd (true≢false (sym down ∙ up j))) (λ rose. rose) out)

    unsaved : ((j : ℕ) → is_down core.replicas j ≡ false) → (a : Answer)
        → CoreDoes (synced_kind stores) (turn_span kind k k' core) (scene shelf (journal_keeper_view kind k) core)
        (scene shelf' (journal_keeper_view kind k') core') event.Save a → ((n : ℕ) → a ≢ answer.Saved n) → k'.short ≡ 0 → k'.journal.now.failed ≡ false → Rises
    unsaved up (answer.Saved n) did not still whole = absurd (not n refl)
    unsaved up answer.FaultSave did not still whole =
        ⊎_elim (λ out. inl (store_rose up out)) (λ never. absurd never)
        (save_cause kind k k' core (synced_kind stores) (the_span stores kind k k' shelf shelf' core core') core' none still was whole {Rises = ⊥}
        answer.FaultSave did.kept.turn refl)
    unsaved up a did not still whole = absurd did.turn.turn.0

    pub begin_cause : ((j : ℕ) → is_down old.core.replicas j ≡ false)
        → (IsErrOf r fault.Journal → IsOk s × ((k'.short ≡ 0) × (failed ≡ true)))
        → (r ≡ Err fault.Journal) ⊎ ((a : Answer) × (r ≡ Ok a) × ((n : ℕ) → a ≢ answer.Saved n)) → Rises
    begin_cause up journal (inl is) =
        inr (cause_result stores kind k k' shelf shelf' core core' event.Save s does fails stays none was disk disk_is old old_is r failed failed_is
        (journal is))
    begin_cause up journal (inr (a, is, not)) =
        let all = subst (λ (q : Result Answer DurableFault). IfOk q (λ b. (s ≡ Ok b) × ((k'.short ≡ 0) × (failed ≡ false)))) is answered in
        unsaved (λ j. ap (λ (v : DurableView). is_down v.core.replicas j) old_is ∙ up j) a
        (subst (λ (x : Result Answer E). IfOk x (CoreDoes (synced_kind stores) (turn_span kind k k' core) (scene shelf (journal_keeper_view kind k) core)
        (scene shelf' (journal_keeper_view kind k') core') event.Save)) all.0 does)
        not all.1.0 (sym failed_is ∙ all.1.1)
