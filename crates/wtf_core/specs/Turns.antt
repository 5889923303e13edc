-- What a line makes of a core, over every device.
-- NSDI 2016, sections 2.6 and 2.7.
use Rattle.std.specs.Prelude.{◌≡◌, ◌≢◌, ℕ, nat_lt, Bool, true, false, ⊤}
use Rattle.std.specs.Bool.{MatchBool}
use Rattle.wtf_dev.specs.Store.{StoreKind}
use Rattle.wtf_kv.specs.Stores.{Store}
use Rattle.wtf_replica.specs.Downs.{is_down}
use Rattle.wtf_replica.specs.Spans.{Span}
use Rattle.wtf_region.specs.declared.dev.Dev.{Dev}
use Rattle.wtf_region.specs.Devs.{IsSoundDev, remembered}
use Rattle.wtf_values.specs.declared.key.Key.{Key}
use Rattle.wtf_values.specs.declared.value.Value.{Value}
use Rattle.wtf_model.specs.declared.answer.Answer.{Answer}
use Rattle.wtf_model.specs.declared.answer.Answer.TheVariants as answer
use Rattle.wtf_model.specs.declared.answer.Word.TheVariants.{NoServer}
use Rattle.wtf_model.specs.declared.event.Event.{Event}
use Rattle.wtf_model.specs.declared.event.Event.TheVariants as event
use Rattle.wtf_model.specs.declared.event.Verb.TheVariants as verb
use Rattle.wtf_model.specs.Tree.{Tree, rows_of}
use Rattle.wtf_meta.specs.Contents.{Told}
use Rattle.wtf_meta.specs.Trees.{Stands}
use Rattle.wtf_clients.specs.Views.{metadata_now}
use Rattle.wtf_core.specs.Views.{CoreView, lent_of}
use Rattle.wtf_clients.specs.Asked.{IsLent}
use Rattle.wtf_clients.specs.JobTurns.{PlanTurn, PutTurn, DropTurn}
use Rattle.wtf_clients.specs.ScanTurns.{ScanTurn, PieceTurn, CollectTurn}
use Rattle.wtf_clients.specs.Saves.{AreUp, SaveTurn}
use Rattle.wtf_clients.specs.Seeing.{seeing}
use Rattle.wtf_clients.specs.Sounds.{IsTidied}
pub use Rattle.wtf_clients.specs.Turns.{SetsClientAlone, Refuses, Begins, Ends, Commits, Retries, Tries, TryTurn, Drops, TablesStay, Fails, Dumps, ListsAreTold}
pub use Rattle.wtf_clients.specs.Turns.{Calls, CallFails}
pub use Rattle.wtf_clients.specs.Turns.{Replays, Aborts, StepFails, Finishes, GivesUp, CommitFails, StepTurn, Finals, LoneTurn, TxnTurn, ClientTurn}

-- a server goes down, or comes up
pub record Switches (old new : CoreView) (k : ℕ) (down : Bool) (a : Answer) : Type 0 where
  pub answer : a ≡ answer.Okay
  pub is : is_down new.replicas k ≡ down
  pub others : (j : ℕ) → j ≢ k → is_down new.replicas j ≡ is_down old.replicas j
  pub rest : new ≡ record old { replicas = new.replicas }

-- where there is such a server
abbrev pub ServerTurn : CoreView → CoreView → ℕ → Bool → Answer → Type 0
ServerTurn old new k down a =
    MatchBool (nat_lt k old.settings.servers) (Switches old new k down a) ((a ≡ answer.Refused NoServer) × (new ≡ old))

-- the answer shows each tree for which the map now stands
abbrev pub ShowsTree : ℕ → Store Key Value → Answer → Type 0
ShowsTree size kv a = (told : Told) (tx k : ℕ) (t : Tree) → Stands size told tx k (metadata_now kv) t → a ≡ answer.Tree (rows_of t)

abbrev pub IsTreeAnswer : Answer → Type 0
IsTreeAnswer (answer.Tree rows) = ⊤
IsTreeAnswer a = ⊥

-- A line over the devices that it was lent, which are sound: stores of this span, the lists that the core remembers before and after it, and P
-- of both.
pub record IsByDevices {S : Type 0} (kind : StoreKind S) (t : Span S) (old new : CoreView) (P : Dev S → Dev S → Type 0) : Type 0 where
  pub before : Dev S
  pub after : Dev S
  pub lent : IsLent t (lent_of old new) before after
  pub settings_after : after.settings ≡ old.settings
  pub sound : IsSoundDev kind before
  pub remembered_before : remembered before ≡ old.lists
  pub remembered_after : remembered after ≡ new.lists
  pub did : P before after

-- A line, where the stores go through this span. One that may read remembers the lists that it read; and only the tables are others, and
-- these lists, and which servers are down where the line says so.
module _ {S : Type 0} (kind : StoreKind S) (t : Span S) where
  abbrev pub LineTurn : CoreView → CoreView → Event → Answer → Type 0
  LineTurn old new (event.Client c v) a = ClientTurn (seeing kind t (lent_of old new)) old.tables new.tables c v a
      × (new ≡ record old { tables = new.tables; lists = new.lists })
  LineTurn old new (event.Plan j job p r) a = PlanTurn (seeing kind t (lent_of old new)) old.tables new.tables j job p r a
      × (new ≡ record old { tables = new.tables; lists = new.lists })
  LineTurn old new (event.Put j) a = PutTurn old.tables new.tables j a × (new ≡ record old { tables = new.tables })
  LineTurn old new (event.DropJob j) a = DropTurn old.tables new.tables j a × (new ≡ record old { tables = new.tables })
  LineTurn old new event.Scan a = ScanTurn kind t.before old.tables new.tables a × (new ≡ record old { tables = new.tables })
  LineTurn old new (event.Piece n) a =
      IsByDevices kind t old new (λ before after. PieceTurn kind before after old.tables new.tables n a)
      × (new ≡ record old { tables = new.tables; lists = new.lists })
  LineTurn old new (event.Collect k) a =
      IsByDevices kind t old new (λ before after. CollectTurn kind before after old.tables new.tables k a)
      × (new ≡ record old { tables = new.tables; lists = new.lists })
  LineTurn old new (event.Down k) a = ServerTurn old new k true a
  LineTurn old new (event.Up k) a = ServerTurn old new k false a
  LineTurn old new (event.Dump p) a =
      Dumps (seeing kind t (lent_of old new)) old.tables new.tables p a
      × (new ≡ record old { tables = new.tables; lists = new.lists })
  LineTurn old new event.Tree a = ShowsTree old.settings.region old.tables.kv a × (new ≡ old) × IsTreeAnswer a
  LineTurn old new event.Save a =
      SaveTurn (AreUp old.replicas old.settings.servers) old.tables new.tables a × (new ≡ record old { tables = new.tables })

  -- A line is answered, and then versions that no one sees may be dropped.
  pub record IsLine (old new : CoreView) (e : Event) (a : Answer) : Type 0 where
    pub answered : CoreView
    pub turn : LineTurn old answered e a
    pub tidied : IsTidied answered.tables new.tables
    pub rest : new ≡ record answered { tables = new.tables }

-- A line that takes no memory: a server goes down or comes up, a transaction is given up, or a job is dropped. Want of memory never closes a
-- core there.
abbrev pub takes_no_memory : Event → Bool
takes_no_memory (event.Down k) = true
takes_no_memory (event.Up k) = true
takes_no_memory (event.DropJob j) = true
takes_no_memory (event.Client c verb.Abort) = true
takes_no_memory e = false
