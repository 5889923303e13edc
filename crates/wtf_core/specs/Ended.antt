-- What a line makes of a core, whatever it makes of a keeper.
use Rattle.std.specs.Prelude.{◌≡◌, [], Result, IfOk, OnErr, IsOk, IsTrue}
use Rattle.wtf_dev.specs.Each.{EachFollows}
use Rattle.wtf_dev.specs.Store.{StoreKind}
use Rattle.wtf_replica.specs.Outs.{SameSyncs}
use Rattle.wtf_replica.specs.Spans.{Span}
use Rattle.wtf_model.specs.declared.answer.Answer.{Answer}
use Rattle.wtf_model.specs.declared.event.Event.{Event}
use Rattle.wtf_clients.specs.Leaving.{LeavesAlone}
use Rattle.wtf_core.specs.Promises.{IsLeftBy}
use Rattle.wtf_core.specs.Remembering.{KeepsPunched}
use Rattle.wtf_core.specs.Telling.{ServesTurn}
use Rattle.wtf_core.specs.Turns.{takes_no_memory, LineTurn}
use Rattle.wtf_core.specs.Views.{CoreView, lent_of}

module _ {S : Type 0} (kind : StoreKind S) (t : Span S) (old new : CoreView) where
  -- one that is answered
  pub record LineMade (e : Event) (a : Answer) : Type 0 where
    pub turn : LineTurn kind t old new e a
    pub told : ServesTurn kind t old new e a
    pub punched : KeepsPunched kind t.before t.after old new e a

  -- one that wants memory
  pub record LineLost (e : Event) : Type 0 where
    pub left : IsLeftBy e old.tables new.tables
    pub follows : EachFollows kind t.before t.after []
    pub unsynced : SameSyncs kind t.before t.after

  -- and one with any result
  pub record LineEnds {E : Type 0} (e : Event) (r : Result Answer E) : Type 0 where
    pub made : IfOk r (LineMade e)
    pub lost : OnErr r (LineLost e)
    pub settings : new.settings ≡ old.settings
    pub closed : new.closed ≡ old.closed
    pub leaves : LeavesAlone kind t (lent_of old new) old.tables e
    pub sure : IsTrue (takes_no_memory e) → IsOk r
