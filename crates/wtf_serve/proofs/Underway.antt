-- A run that was opened, on its way.
use Rattle.std.proofs.Common.{◌≡◌, ◌<◌, ◌≤◌, ◌^◌, ◌++◌, ℕ, Bool, true, false, List, [], ◌∷◌, Some, Ok, refl, sym, ◌∙◌, subst, arith, ap, inl, inr}
use Rattle.std.specs.Prelude.{◌||◌}
use Rattle.wtf_base.specs.declared.settings.Settings.{Settings}
use Rattle.wtf_dev.specs.Keep.{KeeperView}
use Rattle.wtf_dev.specs.Streams.{SinkView}
use Rattle.wtf_dev.specs.Store.{KindLaws}
use Rattle.wtf_image.specs.Loading.{IsTaken}
use Rattle.wtf_image.specs.Rows.{ImageRows}
use Rattle.wtf_image.specs.Rules.{size_in}
use Rattle.wtf_core.specs.Pictured.{IsTakenFor}
use Rattle.wtf_serve.specs.declared.service.Stop.{Stop}
use Rattle.wtf_serve.specs.declared.service.Stop.TheVariants as stop
use Rattle.wtf_serve.specs.Beginnings.{IsOpenedFrom, Closes, Ends}
use Rattle.wtf_serve.specs.Endings.{Devices, IsKeeperKept, stop_status}
use Rattle.wtf_serve.specs.Engines.{Engine, Step}
use Rattle.wtf_serve.specs.Logs.{first_line}
use Rattle.wtf_serve.specs.Openings.{Opening, Opens, IsTakenOver}
use Rattle.wtf_serve.specs.Passes.{Hand, hand, input, PassIs}
use Rattle.wtf_serve.specs.Scripts.{end_status, settings_line}
use Rattle.wtf_serve.specs.Stocks.{stock, KeeperGoesOn}
use Rattle.wtf_serve.proofs.Going.{Going, going_none, going_none_log, going_on, going_on_log}
use Rattle.wtf_serve.proofs.RanLaws.{longer}
use Rattle.wtf_serve.proofs.Starting.{same_rows}

-- a run so far, with what opened it
pub record Underway {S State : Type 0} (engine : Engine S State) (asked : Settings) (start : Devices S) (now : Hand S State) (bad : Bool) : Type 0 where
  pub opening : Opening
  pub opens : Opens asked opening.bytes opening
  pub given : (held : List ℕ) → start.stock.keeper.held ≡ Some held → opening.bytes ≡ held
  pub going : Going engine opening start now bad
  pub number : engine.number now.state < 2 ^ 63
  pub next_tx : engine.next_tx now.state < 2 ^ 63

pub underway : {S State : Type 0} (engine : Engine S State) (asked : Settings) (opening : Opening) (start : Devices S) (now : Hand S State) (bad : Bool)
    → Opens asked opening.bytes opening → ((held : List ℕ) → start.stock.keeper.held ≡ Some held → opening.bytes ≡ held) → Going engine opening start now bad
    → Underway engine asked start now bad
underway engine asked opening start now bad opens given going = record {
  opening = opening;
  opens = opens;
  given = given;
  going = going;
  number = omega (arith, going.number, going.room.0);
  next_tx = omega (arith, going.next_tx, going.room.1);
}

-- the numbers of an opening leave room
pub room_of : (asked : Settings) (bytes : List ℕ) (o : Opening) → Opens asked bytes o → (o.number ≤ 2 ^ 62) × (o.next_tx ≤ 2 ^ 62)
room_of asked [] o is = (omega (arith, ap (λ (x : Opening). x.number) is), omega (arith, ap (λ (x : Opening). x.next_tx) is))
room_of asked (b ∷ bytes) o is = (omega (arith, is.number, is.good.installs), omega (arith, is.next_tx, is.good.next_tx))

-- what opens a run is no byte, or an image that is taken, with the opening's settings and numbers
pub begins_of : (size : ℕ → ℕ → ℕ) (asked : Settings) (bytes : List ℕ) (o : Opening) → Opens asked bytes o → IsTakenOver size bytes
    → IsTakenFor size o.settings o.number o.next_tx bytes
begins_of size asked [] o is taken = inl refl
begins_of size asked (b ∷ bytes) o is (rows, taken) = inr (record {
  rows = is.rows;
  taken = subst (λ (x : ImageRows). IsTaken size (b ∷ bytes) x) (same_rows rows is.rows (b ∷ bytes) taken.text is.text) taken;
  settings_are = is.settings;
  installs = omega (arith, is.number);
  next_tx = omega (arith, is.next_tx);
})

-- the first line, by the state
pub line_of_first : {S State : Type 0} (engine : Engine S State) (o : Opening) (state : State)
    → engine.settings state ≡ o.settings → engine.number state ≡ o.number
    → settings_line (engine.settings state) (engine.number state) ≡ first_line o
line_of_first engine o state settings number =
    ap (λ (x : Settings). settings_line x (engine.number state)) settings ∙ ap (λ (n : ℕ). settings_line o.settings n) number

-- A run that was opened, at its first line: the text of it went to a sink that was as it had been before.
module _ {S State : Type 0} (engine : Engine S State) (laws : KindLaws engine.kind) (handed : List (List ℕ) → Type 0) (asked : Settings) (start : Devices S)
    (keeper' : KeeperView)
    (state : State) (sink' : SinkView) (text : List ℕ) (o : IsOpenedFrom engine asked start.stock.keeper start.stock.shelf state)
    (kept : IsKeeperKept handed start.stock.keeper keeper') (keeper : KeeperGoesOn start.stock.keeper keeper')
    (text_is : text ≡ settings_line (engine.settings state) (engine.number state)) where
  pub first_is : text ≡ first_line o.opening
  first_is = text_is ∙ line_of_first engine o.opening state o.ready.settings o.ready.number

  pub underway_first : ((old : List ℕ) → start.sink.taken ≡ Some old → sink'.taken ≡ Some (old ++ text)) → sink'.faults ≡ start.sink.faults
      → Underway engine asked start (hand (input start.source (record { bytes = []; count = 0; ended = false })) sink'
      (stock start.stock.shelf keeper') state) false
  underway_first wrote still =
      underway engine asked o.opening start (hand (input start.source (record { bytes = []; count = 0; ended = false })) sink'
      (stock start.stock.shelf keeper') state) false o.opens o.given
      (going_none engine laws o.opening start sink' keeper' state o.ready (room_of asked o.opening.bytes o.opening o.opens)
      (begins_of (size_in engine.kind start.stock.shelf) asked o.opening.bytes o.opening o.opens o.ready.taken) keeper kept.held
      (λ old e. wrote old e ∙ ap (λ (x : List ℕ). Some (old ++ x)) first_is) still)

  pub underway_first_log : (wrote : (old : List ℕ) → start.sink.taken ≡ Some old → sink'.taken ≡ Some (old ++ text)) (still : sink'.faults ≡ start.sink.faults)
      → (underway_first wrote still).going.log ≡ record { lines = []; answers = [] }
  unfolding underway_first underway
  underway_first_log wrote still =
      going_none_log engine laws o.opening start sink' keeper' state o.ready (room_of asked o.opening.bytes o.opening o.opens)
      (begins_of (size_in engine.kind start.stock.shelf) asked o.opening.bytes o.opening o.opens o.ready.taken) keeper kept.held
      (λ old e. wrote old e ∙ ap (λ (x : List ℕ). Some (old ++ x)) first_is) still

-- no run that has begun its lines ends as one with few stores
pub stop_not_few : (why : Stop) → stop_status why ≡ 2 → ⊥
stop_not_few stop.Unread e = omega (arith, e)
stop_not_few stop.Unwritten e = omega (arith, e)
stop_not_few stop.TooMuch e = omega (arith, e)
stop_not_few stop.Memory e = omega (arith, e)

saved_not_few : (bad : Bool) → end_status bad ≡ 2 → ⊥
saved_not_few true e = omega (arith, e)
saved_not_few false e = omega (arith, e)

close_not_few : {S State : Type 0} (engine : Engine S State) (t : Step S State) (bad : Bool) (status : ℕ) → Closes engine t bad status → status ≡ 2 → ⊥
close_not_few engine t bad status (inl (n, is, done)) e = saved_not_few bad (sym is ∙ e)
close_not_few engine t bad status (inr (inl (is, done))) e = omega (arith, is, e)
close_not_few engine t bad status (inr (inr (is, same))) e = omega (arith, is, e)

pub end_not_few : {S State : Type 0} (engine : Engine S State) (t : Step S State) (sink sink' : SinkView) (bad : Bool) (status : ℕ)
    → Ends engine t sink sink' bad status → status ≡ 2 → ⊥
end_not_few engine t sink sink' bad status end e = elim end.ends [
  | inl saved ↦ close_not_few engine t bad status saved.1 e
  | inr held ↦ omega (arith, held.0, e)
]

-- how it goes on
module _ {S State : Type 0} (engine : Engine S State) (laws : KindLaws engine.kind) (asked : Settings) (start : Devices S) (now next : Hand S State)
    (bad : Bool) (u : Underway engine asked start now bad) where
  pub underway_on : (more : Bool) → PassIs engine now next (Ok (Some more)) → Underway engine asked start next (bad || more)
  underway_on more pass = underway engine asked u.opening start next (bad || more) u.opens u.given
      (going_on engine laws u.opening start now next bad u.going more pass)

  pub underway_on_log : (more : Bool) (pass : PassIs engine now next (Ok (Some more)))
      → (underway_on more pass).going.log ≡ longer u.going.log pass.came.line pass.came.done.answer
  unfolding underway_on underway
  underway_on_log more pass = going_on_log engine laws u.opening start now next bad u.going more pass
