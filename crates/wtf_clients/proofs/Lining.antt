-- What a line of the tables does, from its parts.
use Rattle.wtf_clients.proofs.Common.{Fault, OutOfMemory, StoreKind, KindLaws, is_down, Answer, Word, Event, Dev, IsSoundDev, GoesOn, stores, remembered}
use Rattle.wtf_clients.proofs.Common.{between, reads_nothing, goes_nowhere, fault_answer, Asked, line_asked, lent_by, LeavesAlone, Line, line, through, lent_in}
use Rattle.wtf_clients.proofs.Common.{TurnOf, LineOf, TablesBytes, any_byte, no_slice, has_copies, AreBased, AreFull, ServesLine, AreSound, IsAlike}
use Rattle.wtf_clients.proofs.Common.{TellsTables, ServesTold, TablesView, ◌≡◌, [], Some, Result, Ok, Err, IfOk, refl, sym, subst}
use Rattle.wtf_clients.proofs.{Lives.AreInside, Caused.plain_caused, Caused.plain_failed, Caused.refused_placed, Caused.refused_adds, Leaving.leaves_none}
use Rattle.wtf_clients.proofs.{ToldServing.same_told}

-- what a line's answer stands with
pub record Answered {S : Type 0} (l : Line S) (e : Event) (a : Answer) : Type 0 where
  pub turn : TurnOf l e a
  pub serves : ServesLine l.kind (through l) (lent_in l) l.old l.new e a
  pub told : TellsTables l.kind (stores l.before) l.before.settings (remembered l.before) l.old
      → ServesTold l.kind (through l) l.before.settings (l.old, l.new) a

-- a line of the tables, by their fields, is one of what is seen of them
pub line_of : {S : Type 0} {kind : StoreKind S} {dev after : Dev S} {old seen new : TablesView} {e : Event} {r : Result Answer OutOfMemory} → old ≡ seen
    → LineOf (line kind dev after old new) e r → LineOf (line kind dev after seen new) e r
line_of {kind = kind} {dev = dev} {after = after} {new = new} {e = e} {r = r} same = subst (λ (t : TablesView). LineOf (line kind dev after t new) e r) same

-- a line that is answered
pub answered_line : {S : Type 0} (l : Line S) (e : Event) (a : Answer) → Answered l e a → LeavesAlone l.kind (through l) (lent_in l) l.old e
    → GoesOn l.kind l.before l.after [] → LineOf l e (Ok a)
answered_line l e a did leaves goes = record { turn = did.turn; serves = did.serves; told = did.told; leaves = leaves; err = tt; dev = goes }

-- one that fails: a fault is answered, but for want of memory
pub failed_line : {S : Type 0} (l : Line S) (e : Event) (why : Fault) (r : Result Answer OutOfMemory) → IfOk r (λ a. fault_answer why ≡ Some a)
    → ((a : Answer) → fault_answer why ≡ Some a → Answered l e a) → LeavesAlone l.kind (through l) (lent_in l) l.old e → IsAlike l.old l.new
    → GoesOn l.kind l.before l.after [] → LineOf l e r
failed_line l e why (Ok a) is did leaves alike goes = answered_line l e a (did a is) leaves goes
failed_line l e why (Err short) is did leaves alike goes = record { turn = tt; serves = tt; told = tt; leaves = leaves; err = alike; dev = goes }

-- tables that are the same
pub alike_same : (tables : TablesView) → IsAlike tables tables
alike_same tables =
    record { clients = refl; number = refl; map = refl; versions = λ q. refl; pins = λ n. refl; next_tx = refl; beside = refl }

module _ {S : Type 0} {kind : StoreKind S} (laws : KindLaws kind) (dev : Dev S) (lent : IsSoundDev kind dev) (old after : TablesView) (same : after ≡ old)
  where
    -- memory was short for one that is lent nothing
    pub lost_line : (e : Event) (short : OutOfMemory) → LineOf (line kind dev dev old after) e (Err short)
    lost_line e short = record {
      turn = tt;
      serves = tt;
      told = tt;
      leaves = leaves_none kind (is_down dev.replicas.now) (stores dev) dev.settings (remembered dev) old e;
      err = subst (IsAlike old) (sym same) (alike_same old);
      dev = goes_nowhere laws dev lent;
    }

    module _ (sound : AreSound old) (inside : AreInside kind dev old) (e : Event) (w : Word) where
      abbrev asked : Asked
      asked = line_asked kind (between dev dev) (lent_by dev dev) old e

      -- one that is refused leaves all
      pub refused_serves : ServesLine kind (between dev dev) (lent_by dev dev) old after e (Answer.Refused w)
      refused_serves = record {
        inside = subst (AreInside kind dev) (sym same) inside;
        bare = λ free. subst (TablesBytes any_byte no_slice) (sym same);
        full = λ free. subst (TablesBytes (has_copies dev.settings.replicas) no_slice) (sym same);
        adds = refused_adds kind (between dev dev) dev.settings asked.given (Answer.Refused w) tt
            (reads_nothing kind (is_down dev.replicas.now) (stores dev)).lengths;
        caused = plain_caused kind (between dev dev) dev.settings ⊥ (AreBased old) (AreFull dev.settings old) asked.given (Answer.Refused w) tt;
        placed = refused_placed kind (between dev dev) dev.settings asked (Answer.Refused w) tt;
        failed = plain_failed asked.fails (Answer.Refused w) tt;
      }

      pub refused_line : TurnOf (line kind dev dev old after) e (Answer.Refused w) → LineOf (line kind dev dev old after) e (Ok (Answer.Refused w))
      refused_line turn = answered_line (line kind dev dev old after) e (Answer.Refused w)
          (record { turn = turn; serves = refused_serves; told = same_told laws dev lent old after sound inside same (Answer.Refused w) tt })
          (leaves_none kind (is_down dev.replicas.now) (stores dev) dev.settings (remembered dev) old e) (goes_nowhere laws dev lent)
