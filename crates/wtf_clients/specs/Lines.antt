-- What a line of the tables that is lent devices does, with its result.
use Rattle.std.specs.Prelude.{[], Result, IfOk, OnErr}
use Rattle.wtf_base.specs.declared.memory.OutOfMemory.{OutOfMemory}
use Rattle.wtf_dev.specs.Store.{StoreKind}
use Rattle.wtf_replica.specs.Spans.{Span}
use Rattle.wtf_model.specs.declared.answer.Answer.{Answer}
use Rattle.wtf_model.specs.declared.event.Event.{Event}
use Rattle.wtf_model.specs.declared.event.Event.TheVariants as event
use Rattle.wtf_region.specs.declared.dev.Dev.{Dev}
use Rattle.wtf_region.specs.Devs.{GoesOn, stores, remembered, between}
use Rattle.wtf_clients.specs.Asked.{Lending, lent_by}
use Rattle.wtf_clients.specs.JobTurns.{PlanTurn}
use Rattle.wtf_clients.specs.Leaving.{LeavesAlone}
use Rattle.wtf_clients.specs.Seeing.{Seeing, seeing}
use Rattle.wtf_clients.specs.Serves.{ServesLine}
use Rattle.wtf_clients.specs.Sounds.{IsAlike}
use Rattle.wtf_clients.specs.Telling.{TellsTables, ServesTold}
use Rattle.wtf_clients.specs.Turns.{ClientTurn, Dumps}
use Rattle.wtf_clients.specs.Views.{TablesView}

-- a kind of stores; what is lent and the tables before a line, and what it leaves of them
pub record Line (S : Type 0) : Type 1 where
  pub kind : StoreKind S
  pub before : Dev S
  pub after : Dev S
  pub old : TablesView
  pub new : TablesView

abbrev pub line : {S : Type 0} → StoreKind S → Dev S → Dev S → TablesView → TablesView → Line S
line kind before after old new = record { kind = kind; before = before; after = after; old = old; new = new }

-- the stores over the line, what it was lent beside them, and what is seen of both
abbrev pub through : {S : Type 0} → Line S → Span S
through l = between l.before l.after

abbrev pub lent_in : {S : Type 0} → Line S → Lending
lent_in l = lent_by l.before l.after

abbrev pub seen_in : {S : Type 0} → Line S → Seeing
seen_in l = seeing l.kind (through l) (lent_in l)

-- what it makes of the tables: a line of a client, a plan, or a dump
abbrev pub TurnOf : {S : Type 0} → Line S → Event → Answer → Type 0
TurnOf l (event.Client c v) a = ClientTurn (seen_in l) l.old l.new c v a
TurnOf l (event.Plan j kind p r) a = PlanTurn (seen_in l) l.old l.new j kind p r a
TurnOf l (event.Dump p) a = Dumps (seen_in l) l.old l.new p a
TurnOf l e a = ⊥

-- such a line, with its result
pub record LineOf {S : Type 0} (l : Line S) (e : Event) (r : Result Answer OutOfMemory) : Type 0 where
  pub turn : IfOk r (λ a. TurnOf l e a)
  pub serves : IfOk r (λ a. ServesLine l.kind (through l) (lent_in l) l.old l.new e a)
  pub told : IfOk r (λ a. TellsTables l.kind (stores l.before) l.before.settings (remembered l.before) l.old
      → ServesTold l.kind (through l) l.before.settings (l.old, l.new) a)
  pub leaves : LeavesAlone l.kind (through l) (lent_in l) l.old e
  pub err : OnErr r (IsAlike l.old l.new)
  pub dev : GoesOn l.kind l.before l.after []
