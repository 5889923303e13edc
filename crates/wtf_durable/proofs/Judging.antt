-- What came of the core's call over a journal, by the flags of its keeper.
use Rattle.std.proofs.Common.{◌≡◌, ◌⊎◌, ◌<◌, Bool, true, false, List, Ok, Err, sym, ap, ◌∙◌, subst, inl, inr, arith, true≢false}
use Rattle.std.specs.Prelude.{Result, IfOk, IsErr, IsOk, OnErr}
use Rattle.wtf_dev.specs.Counts.{Rose}
use Rattle.wtf_dev.specs.Disk.{DiskGoesOn, DiskKind}
use Rattle.wtf_journal.specs.declared.keeper.JournalKeeper.{JournalKeeper}
use Rattle.wtf_journal.specs.Follows.{SyncedState, synced_kind}
use Rattle.wtf_model.specs.declared.answer.Answer.{Answer}
use Rattle.wtf_model.specs.declared.event.Event.{Event}
use Rattle.wtf_core.specs.Promises.{CoreDoes, CoreFails, CoreStays, scene}
use Rattle.wtf_core.specs.Views.{CoreView}
use Rattle.wtf_journal.specs.Keeper.{journal_keeper_view}
use Rattle.wtf_durable.specs.Handled.{Handled, HandlesNot}
use Rattle.wtf_durable.specs.Views.{DurableView, ReachesGate, durable_scene}
use Rattle.wtf_durable.proofs.Handling.{HandedOver, failed_cause, flagged_by, handed_none, handled_by, lost_by, the_span, turn_handed, turn_span}

module _ {S D E : Type 0} (stores : DiskKind S) (kind : DiskKind D) (k k' : JournalKeeper D) (shelf shelf' : List (SyncedState S)) (core core' : CoreView)
    (e : Event) (s : Result Answer E)
    (does : IfOk s (CoreDoes (synced_kind stores) (turn_span kind k k' core) (scene shelf (journal_keeper_view kind k) core)
    (scene shelf' (journal_keeper_view kind k') core') e))
    (fails : OnErr s (CoreFails (synced_kind stores) (turn_span kind k k' core) (scene shelf (journal_keeper_view kind k) core)
    (scene shelf' (journal_keeper_view kind k') core') e)) where
  -- what was handed over
  pub handed_by : HandedOver kind k k' core
  handed_by = by s does fails
    where
      by : (r : Result Answer E) → IfOk r (CoreDoes (synced_kind stores) (turn_span kind k k' core) (scene shelf (journal_keeper_view kind k) core)
          (scene shelf' (journal_keeper_view kind k') core') e)
          → OnErr r (CoreFails (synced_kind stores) (turn_span kind k k' core) (scene shelf (journal_keeper_view kind k) core)
          (scene shelf' (journal_keeper_view kind k') core') e) → HandedOver kind k k' core
      by (Ok a) did lost = turn_handed kind k k' core (synced_kind stores) (the_span stores kind k k' shelf shelf' core core') core' e a did.kept.turn
      by (Err why) did lost = handed_none kind k k' core lost.untouched

  module _ (stays : CoreStays (synced_kind stores) (scene shelf (journal_keeper_view kind k) core) (scene shelf' (journal_keeper_view kind k') core') e)
      (none : k.short ≡ 0) (was : k.journal.now.failed ≡ false) (disk : D) (disk_is : disk ≡ k'.disk.now)
      (old : DurableView) (old_is : ◌≡◌ {A = DurableView} (record { core = core; journal = k.journal.now }) old) where
    pub goes_by : DiskGoesOn kind k.disk.now disk
    goes_by = subst (DiskGoesOn kind k.disk.now) (sym disk_is) handed_by.follows.goes_on

    abbrev Handles : Answer → Type 0
    Handles a =
        Handled stores kind (durable_scene shelf k.disk.now old) (durable_scene shelf' disk (record { core = core'; journal = k'.journal.now })) e a

    abbrev Loses : Type 0
    Loses = HandlesNot stores kind (durable_scene shelf k.disk.now old) (durable_scene shelf' disk (record { core = core'; journal = k'.journal.now })) e

    handles : (a : Answer) → CoreDoes (synced_kind stores) (turn_span kind k k' core) (scene shelf (journal_keeper_view kind k) core)
        (scene shelf' (journal_keeper_view kind k') core') e a → k'.short ≡ 0 → k'.journal.now.failed ≡ false → ReachesGate kind k.disk.now old → Handles a
    handles a did still whole reach =
        subst
        (λ (d : D). Handled stores kind (durable_scene shelf k.disk.now old) (durable_scene shelf' d (record { core = core'; journal = k'.journal.now })) e a)
        (sym disk_is)
        (subst (λ (v : DurableView). Handled stores kind (durable_scene shelf k.disk.now v)
        (durable_scene shelf' k'.disk.now (record { core = core'; journal = k'.journal.now })) e a) old_is
        (handled_by stores kind k k' shelf shelf' core core' none still was whole e a did stays
        (subst (ReachesGate kind k.disk.now) (sym old_is) reach)))

    loses : HandlesNot stores kind (durable_scene shelf k.disk.now (record { core = core; journal = k.journal.now }))
        (durable_scene shelf' k'.disk.now (record { core = core'; journal = k'.journal.now })) e → Loses
    loses lost =
        subst
        (λ (d : D). HandlesNot stores kind (durable_scene shelf k.disk.now old) (durable_scene shelf' d (record { core = core'; journal = k'.journal.now }))
        e)
        (sym disk_is)
        (subst (λ (v : DurableView). HandlesNot stores kind (durable_scene shelf k.disk.now v)
        (durable_scene shelf' k'.disk.now (record { core = core'; journal = k'.journal.now })) e) old_is lost)

    -- ---- by what was judged
    module _ {F : Type 0} (r : Result Answer F) (failed : Bool) (failed_is : failed ≡ k'.journal.now.failed) where
      pub handled_result : ReachesGate kind k.disk.now old → IfOk r (λ a. (s ≡ Ok a) × ((k'.short ≡ 0) × (failed ≡ false))) → IfOk r Handles
      handled_result reach judged = by r judged
        where
          by : (q : Result Answer F) → IfOk q (λ a. (s ≡ Ok a) × ((k'.short ≡ 0) × (failed ≡ false))) → IfOk q Handles
          by (Err why) j = tt
          by (Ok a) j =
              handles a
              (subst (λ (x : Result Answer E). IfOk x (CoreDoes (synced_kind stores) (turn_span kind k k' core) (scene shelf (journal_keeper_view kind k) core)
              (scene shelf' (journal_keeper_view kind k') core') e)) j.0 does)
              j.1.0 (sym failed_is ∙ j.1.1) reach

      pub lost_result : OnErr r (IsErr s ⊎ ((0 < k'.short) ⊎ (failed ≡ true))) → OnErr r Loses
      lost_result judged = by r judged
        where
          rose : 0 < k'.short → k' ≡ k → ⊥
          rose more same = let is = ap (λ (x : JournalKeeper D). x.short) same in omega (arith, more, is, none)

          fell : failed ≡ true → k' ≡ k → ⊥
          fell is same = true≢false (sym is ∙ failed_is ∙ ap (λ (x : JournalKeeper D). x.journal.now.failed) same ∙ was)

          flagged : (q : Result Answer E) → IfOk q (CoreDoes (synced_kind stores) (turn_span kind k k' core) (scene shelf (journal_keeper_view kind k) core)
              (scene shelf' (journal_keeper_view kind k') core') e)
              → OnErr q (CoreFails (synced_kind stores) (turn_span kind k k' core) (scene shelf (journal_keeper_view kind k) core)
              (scene shelf' (journal_keeper_view kind k') core') e) → IsErr q ⊎ ((0 < k'.short) ⊎ (failed ≡ true)) → Loses
          flagged (Err why) did lost flag = loses (lost_by stores kind k k' shelf shelf' core core' e lost stays)
          flagged (Ok a) did lost (inl never) = absurd (cc)
          flagged (Ok a) did lost (inr (inl more)) = loses (flagged_by stores kind k k' shelf shelf' core core' e a did stays (rose more))
          flagged (Ok a) did lost (inr (inr is)) = loses (flagged_by stores kind k k' shelf shelf' core core' e a did stays (fell is))

          by : (q : Result Answer F) → OnErr q (IsErr s ⊎ ((0 < k'.short) ⊎ (failed ≡ true))) → OnErr q Loses
          by (Ok a) j = tt
          by (Err why) j = flagged s does fails j

      pub cause_result : IsOk s × ((k'.short ≡ 0) × (failed ≡ true)) → Rose (kind.view k.disk.now).faults (kind.view disk).faults
      cause_result judged = subst (λ (d : D). Rose (kind.view k.disk.now).faults (kind.view d).faults) (sym disk_is) (by s does judged.0)
        where
          by : (q : Result Answer E) → IfOk q (CoreDoes (synced_kind stores) (turn_span kind k k' core) (scene shelf (journal_keeper_view kind k) core)
              (scene shelf' (journal_keeper_view kind k') core') e) → IsOk q → Rose (kind.view k.disk.now).faults (kind.view k'.disk.now).faults
          by (Ok a) did ok = failed_cause stores kind k k' shelf shelf' core core' e a did none judged.1.0 was (sym failed_is ∙ judged.1.1)
          by (Err why) did ok = absurd (cc)
