-- What is added to the journal behind a line.
use Rattle.std.proofs.Common.{◌≡◌, ◌<◌, ◌++◌, ◌∷◌, ℕ, true, false, List, [], Some, None, refl, sym, subst, arith, append-nil}
use Rattle.wtf_dev.specs.Disk.{DiskGoesOn, DiskKind, DiskLeaves, SameElsewhere}
use Rattle.wtf_journal.specs.Moments.{stays}
use Rattle.wtf_journal.specs.Records.{BeforeOrAfter, RestsAt}
use Rattle.wtf_journal.specs.Views.{JournalView}
use Rattle.wtf_model.specs.declared.event.Event.TheVariants as event
use Rattle.wtf_core.specs.Promises.{Closes, IsRecordOf}
use Rattle.wtf_core.specs.Views.{CoreView}
use Rattle.wtf_durable.specs.Handled.{Noted, Notes}
use Rattle.wtf_durable.specs.Views.{DurableView, ReachesGate}

module _ {D : Type 0} (kind : DiskKind D) where
  pub goes_same : (disk : D) → DiskGoesOn kind disk disk
  goes_same disk = record { faults = omega arith; size = λ f. omega arith; tells = refl }

  -- nothing is added
  notes_same : (disk : D) (end : ℕ) (old new : CoreView) → new.tables.kv.number ≡ old.tables.kv.number → new.tables.next_tx ≡ old.tables.next_tx
      → Notes kind disk disk end old new
  notes_same disk end old new number next = record {
    number = number;
    next_tx = next;
    changes = None;
    are = tt;
    goes_on = goes_same disk;
    elsewhere = λ tells f ne. refl;
    moments = λ tells bodies rests. stays kind disk _;
  }

  pub noted_same : (disk : D) (d : DurableView) → d.core.tables.beside.watched ≡ Some d.core.tables.kv.number → d.journal.failed ≡ false
      → ReachesGate kind disk d → Noted kind disk disk d d
  unfolding notes_same
  noted_same disk d watched whole reach = record {
    notes = notes_same disk d.journal.end d.core d.core refl refl;
    records = (watched, refl);
    added = λ tells bodies rests. subst (λ (l : List (List ℕ)). RestsAt kind disk d.journal.end l) (sym (append-nil bodies)) rests;
    whole = whole;
    reach = reach;
  }

  pub cut_same : (disk : D) (end : ℕ) (old new : CoreView) → Closes old new event.Tree → Notes kind disk disk end old new
  cut_same disk end old new closes = notes_same disk end old new closes.left.number closes.left.next_tx

  -- changes are added
  module _ (before after : D) (old : DurableView) (new : CoreView) (changes : List ℕ) (is : IsRecordOf old.core new changes)
      (goes : DiskGoesOn kind before after) (elsewhere : (kind.view before).tells ≡ true → SameElsewhere 0 (kind.view before) (kind.view after))
      (any_moment : (bodies : List (List ℕ)) → (kind.view before).tells ≡ true → RestsAt kind before old.journal.end bodies
      → DiskLeaves kind before after (λ c. BeforeOrAfter bodies (1 ∷ changes) (c 0))) where
    pub notes_added : Notes kind before after old.journal.end old.core new
    notes_added = record {
      number = is.watches.tables.number;
      next_tx = is.watches.tables.next_tx;
      changes = Some changes;
      are = record { since = is.since; was = is.was; changes = is.changes; counted = is.counted };
      goes_on = goes;
      elsewhere = elsewhere;
      moments = λ tells bodies rests. any_moment bodies tells rests;
    }

    pub noted_added : (journal : JournalView) → ((bodies : List (List ℕ)) → (kind.view before).tells ≡ true → RestsAt kind before old.journal.end bodies
        → RestsAt kind after journal.end (bodies ++ (1 ∷ changes) ∷ [])) → journal.failed ≡ false → journal.end < (kind.view after).size 0
        → Noted kind before after old (record { core = new; journal = journal })
    unfolding notes_added
    noted_added journal acknowledged whole reach = record {
      notes = notes_added;
      records = is;
      added = λ tells bodies rests. acknowledged bodies tells rests;
      whole = whole;
      reach = reach;
    }
