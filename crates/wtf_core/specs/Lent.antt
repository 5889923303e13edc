-- What a line makes of the tables and of what they are lent: the stores, and what is remembered of them.
use Rattle.std.specs.Prelude.{◌≡◌, Bool, true, false, [], Result, IfOk, OnErr, IsOk, IsTrue, ⊤}
use Rattle.wtf_dev.specs.Store.{StoreKind}
use Rattle.wtf_region.specs.declared.dev.Dev.{Dev}
use Rattle.wtf_region.specs.Devs.{GoesOn, stores, remembered, between}
use Rattle.wtf_model.specs.declared.answer.Answer.{Answer}
use Rattle.wtf_model.specs.declared.event.Event.{Event}
use Rattle.wtf_model.specs.declared.event.Event.TheVariants as event
use Rattle.wtf_clients.specs.Asked.{lent_by}
use Rattle.wtf_clients.specs.JobTurns.{PlanTurn, PutTurn, DropTurn}
use Rattle.wtf_clients.specs.Leaving.{LeavesAlone}
use Rattle.wtf_clients.specs.ScanTurns.{ScanTurn, PieceTurn, CollectTurn}
use Rattle.wtf_clients.specs.Seeing.{seeing}
use Rattle.wtf_clients.specs.Serves.{ServesLine}
use Rattle.wtf_clients.specs.Telling.{TellsTables, ReadsTold, ServesTold}
use Rattle.wtf_clients.specs.Turns.{Dumps, ClientTurn}
use Rattle.wtf_clients.specs.Views.{TablesView}
use Rattle.wtf_core.specs.Turns.{takes_no_memory}
use Rattle.wtf_core.specs.Promises.{IsLeftBy}

-- a line that the tables answer
abbrev pub is_of_tables : Event → Bool
is_of_tables (event.Down k) = false
is_of_tables (event.Up k) = false
is_of_tables event.Tree = false
is_of_tables event.Save = false
is_of_tables e = true

-- the tables were `old`, with `before` lent to them, and are `new`, with that left as `after`
module _ {S : Type 0} (kind : StoreKind S) (before after : Dev S) (old new : TablesView) where
  -- what the line makes of them; one that may read no list leaves those that are remembered
  abbrev pub TablesTurn : Event → Answer → Type 0
  TablesTurn (event.Client c v) a =
      ClientTurn (seeing kind (between before after) (lent_by before after)) old new c v a
  TablesTurn (event.Plan j job p r) a =
      PlanTurn (seeing kind (between before after) (lent_by before after)) old new j job p r a
  TablesTurn (event.Put j) a = PutTurn old new j a × (remembered after ≡ remembered before)
  TablesTurn (event.DropJob j) a = DropTurn old new j a × (remembered after ≡ remembered before)
  TablesTurn event.Scan a = ScanTurn kind (stores before) old new a × (remembered after ≡ remembered before)
  TablesTurn (event.Piece n) a = PieceTurn kind before after old new n a
  TablesTurn (event.Collect k) a = CollectTurn kind before after old new k a
  TablesTurn (event.Dump p) a =
      Dumps (seeing kind (between before after) (lent_by before after)) old new p a
  TablesTurn e a = ⊥

  -- what it does over stores that tell
  abbrev pub TablesTold : Event → Answer → Type 0
  TablesTold event.Scan a = ⊤
  TablesTold (event.Piece n) a =
      TellsTables kind (stores before) before.settings (remembered before) old → ReadsTold kind (between before after) before.settings old a
  TablesTold (event.Collect k) a = ⊤
  TablesTold e a =
      TellsTables kind (stores before) before.settings (remembered before) old
      → ServesTold kind (between before after) before.settings (old, new) a

  -- no line but a collection punches
  abbrev pub IsUnpunching : Event → Type 0
  IsUnpunching (event.Collect k) = ⊤
  IsUnpunching e = GoesOn kind before after []

  -- a line that is answered
  pub record TablesLine (e : Event) (a : Answer) : Type 0 where
    pub turn : TablesTurn e a
    pub serves : ServesLine kind (between before after) (lent_by before after) old new e a
    pub told : TablesTold e a
    pub goes : IsUnpunching e

  -- one that wants memory leaves them, and punches nothing
  pub record TablesLeft (e : Event) : Type 0 where
    pub left : IsLeftBy e old new
    pub goes : GoesOn kind before after []

  -- and one with any result
  pub record TablesDone {E : Type 0} (e : Event) (r : Result Answer E) : Type 0 where
    pub line : IfOk r (TablesLine e)
    pub lost : OnErr r (TablesLeft e)
    pub leaves : LeavesAlone kind (between before after) (lent_by before after) old e
    pub sure : IsTrue (takes_no_memory e) → IsOk r
