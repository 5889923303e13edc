use Rattle.wtf_clients.proofs.Common.{[], GoesOn, is_down, OnlyRead, DoesParts, Answer, Event, stores, remembered, between, fault_answer, TablesView, IsPruned}
use Rattle.wtf_clients.proofs.Common.{DoesTurn}
use Rattle.wtf_clients.proofs.Common.{lent_by, ServesLine, TellsTables, ReadsTold, LeavesAlone, ◌≡◌, ◌∙◌, ℕ, true, Some, IfOk, is_some, true≢false, refl, sym}
use Rattle.wtf_clients.proofs.Common.{ap, subst}
use Rattle.wtf_clients.proofs.{Lives.AreInside, Making.if_ok, PieceServing.held_enough, PieceServing.does_names, PieceServing.pruned_sound}
use Rattle.wtf_clients.proofs.{PieceServing.piece_serves, PieceServing.piece_fails, PieceServing.piece_failed_told, Scanning.pruned_names, Leaving.leaves_none}
use Rattle.wtf_clients.proofs.{Leaving.leaves_read, ScanFrames.does_sound, Lives.tables_of}
use Rattle.wtf_clients.proofs.tables.Tables.piece.Given.{Over}
use Rattle.wtf_clients.proofs.tables.Tables.piece.Goals as goal
use Rattle.wtf_clients.proofs.tables.Tables.piece.Goals.{After-do_parts-done}

-- the tables before it
abbrev old : (g : Over) → After-do_parts-done g → TablesView
old g c = tables_of c.self.inside

abbrev after : (g : Over) → After-do_parts-done g → TablesView
after g c = record (old g c) { kv = c.do_parts-done.new.kv; beside = c.do_parts-done.new.self }

inside : (g : Over) (c : After-do_parts-done g) → AreInside g.S.SliceStore.kind c.args.dev.now (old g c)
inside g c = subst (AreInside g.S.SliceStore.kind c.args.dev.now) (sym c.self.view_is) c.requires.inside

-- what the parts ask
pub do_parts-done-requires-clause-held : goal.do_parts-done-requires-clause-held
do_parts-done-requires-clause-held g c = held_enough (tables_of c.self.inside) c.self.invariant

pub do_parts-done-requires-clause-inside : goal.do_parts-done-requires-clause-inside
do_parts-done-requires-clause-inside g c = (subst (AreInside g.S.SliceStore.kind c.args.dev.now) (sym c.self.view_is) c.requires.inside).live

-- parts leave the stores, and the lists where there is none to read
leaves : (g : Over) (c : After-do_parts-done g) → is_some c.self.inside.beside.gc.running ≡ true
    → OnlyRead g.S.SliceStore.kind (between c.args.dev.now c.do_parts-done.new.dev) → GoesOn g.S.SliceStore.kind c.args.dev.now c.do_parts-done.new.dev []
    → LeavesAlone g.S.SliceStore.kind (between c.args.dev.now c.do_parts-done.new.dev) (lent_by c.args.dev.now c.do_parts-done.new.dev) c.args.self.now
    (Event.Piece c.args.parts)
leaves g c runs reads goes =
    subst (λ (t : TablesView). LeavesAlone g.S.SliceStore.kind (between c.args.dev.now c.do_parts-done.new.dev)
    (lent_by c.args.dev.now c.do_parts-done.new.dev) t (Event.Piece c.args.parts)) c.self.view_is
    (leaves_read g.S.SliceStore.kind c.args.dev.now c.do_parts-done.new.dev (old g c) (Event.Piece c.args.parts) reads goes
    (λ none. absurd (true≢false (sym runs ∙ ap is_some none))))

-- they were done
does : (g : Over) (c : After-do_parts-done g) (n : ℕ)
    → DoesParts g.S.SliceStore.kind c.args.dev.now c.do_parts-done.new.dev c.self.inside.kv c.do_parts-done.new.kv c.self.inside.beside.gc
    c.do_parts-done.new.self.gc c.args.parts n
    → DoesTurn g.S.SliceStore.kind c.args.dev.now c.do_parts-done.new.dev (old g c) (after g c) c.args.parts n
does g c n did =
    record { does = did; prunes = c.do_parts-done.ensures.prunes; keeps = record { beside = c.do_parts-done.ensures.rest; clients = refl; next_tx = refl } }

pub returns-then-left-gt0-clause-serves : goal.returns-then-left-gt0-clause-serves
returns-then-left-gt0-clause-serves g c =
    let at = (goal.at.returns-then-left-gt0-clause-serves g c).After-do_parts-done in
    let kind = g.S.SliceStore.kind in
    let dev = c.args.dev.now in
    let new = c.do_parts-done.new.dev in
    let did = c.in-Ok.ensures in
    subst (λ (t : TablesView). ServesLine kind (between dev new) (lent_by dev new) t (after g at) (Event.Piece c.args.parts) (Answer.More c.in-Ok.left))
    c.self.view_is (piece_serves g.met.S.SliceStore.laws dev new did.dev c.requires.dev (old g at) c.self.invariant (inside g at) c.args.parts (after g at)
    (Answer.More c.in-Ok.left) (does_names kind dev new (old g at) (after g at) c.args.parts c.in-Ok.left c.self.invariant (does g at c.in-Ok.left did.does))
    did.reads tt)

pub returns-then-left-gt0-clause-leaves : goal.returns-then-left-gt0-clause-leaves
returns-then-left-gt0-clause-leaves g c =
    leaves g (goal.at.returns-then-left-gt0-clause-leaves g c).After-do_parts-done (sym c.scans.ensures ∙ c.if-not-scans.false) c.in-Ok.ensures.reads
    c.in-Ok.ensures.dev

pub invariant_of-self : goal.invariant_of-self
invariant_of-self g c =
    let at = (goal.at.invariant_of-self g c).After-do_parts-done in
    does_sound g.S.SliceStore.kind c.args.dev.now c.do_parts-done.new.dev (old g at) (after g at) c.args.parts c.in-Ok.left c.self.invariant
    (does g at c.in-Ok.left c.in-Ok.ensures.does)

pub returns-in-Ok-clause-serves : goal.returns-in-Ok-clause-serves
returns-in-Ok-clause-serves g c =
    let at = (goal.at.returns-in-Ok-clause-serves g c).After-do_parts-done in
    let kind = g.S.SliceStore.kind in
    let dev = c.args.dev.now in
    let new = c.do_parts-done.new.dev in
    let did = c.in-Ok.ensures in
    subst (λ (t : TablesView). ServesLine kind (between dev new) (lent_by dev new) t (after g at) (Event.Piece c.args.parts) Answer.Done) c.self.view_is
    (piece_serves g.met.S.SliceStore.laws dev new did.dev c.requires.dev (old g at) c.self.invariant (inside g at) c.args.parts (after g at) Answer.Done
    (does_names kind dev new (old g at) (after g at) c.args.parts c.in-Ok.left c.self.invariant (does g at c.in-Ok.left did.does)) did.reads tt)

pub returns-in-Ok-clause-leaves : goal.returns-in-Ok-clause-leaves
returns-in-Ok-clause-leaves g c =
    leaves g (goal.at.returns-in-Ok-clause-leaves g c).After-do_parts-done (sym c.scans.ensures ∙ c.if-not-scans.false) c.in-Ok.ensures.reads
    c.in-Ok.ensures.dev

pub invariant_of-self-in-Ok : goal.invariant_of-self-in-Ok
invariant_of-self-in-Ok g c =
    let at = (goal.at.invariant_of-self-in-Ok g c).After-do_parts-done in
    does_sound g.S.SliceStore.kind c.args.dev.now c.do_parts-done.new.dev (old g at) (after g at) c.args.parts c.in-Ok.left c.self.invariant
    (does g at c.in-Ok.left c.in-Ok.ensures.does)

-- a list was not read, or memory was short
pruned : (g : Over) (c : After-do_parts-done g) → c.do_parts-done.new.kv.pins ≡ c.self.inside.kv.pins → c.do_parts-done.new.self ≡ c.self.inside.beside
    → IsPruned (old g c) (after g c)
pruned g c pins same = record { kv = c.do_parts-done.ensures.prunes; pins = pins; clients = refl; next_tx = refl; beside = same }

pub returns-in-Err-clause-serves : goal.returns-in-Err-clause-serves
returns-in-Err-clause-serves g c =
    let at = (goal.at.returns-in-Err-clause-serves g c).After-do_parts-done in
    let dev = c.args.dev.now in
    let new = c.do_parts-done.new.dev in
    let did = c.in-Err.ensures in
    let why = c.in-Err.why in
    subst (λ (t : TablesView). IfOk c.answer_to.result
    (ServesLine g.S.SliceStore.kind (between dev new) (lent_by dev new) t (after g at) (Event.Piece c.args.parts))) c.self.view_is
    (if_ok c.answer_to.result (λ a. fault_answer why ≡ Some a) _ c.answer_to.ensures.answer
    (λ a is. piece_fails g.met.S.SliceStore.laws dev new did.dev c.requires.dev (old g at) c.self.invariant (inside g at) c.args.parts (after g at)
    (pruned_names (old g at) (after g at) (pruned g at did.pins did.same) c.self.invariant)
    did.reads c.requires.ring c.do_parts-done.new.kv did.prunes why a is did.fault))

pub returns-in-Err-clause-unread : goal.returns-in-Err-clause-unread
returns-in-Err-clause-unread g c =
    let at = (goal.at.returns-in-Err-clause-unread g c).After-do_parts-done in
    let kind = g.S.SliceStore.kind in
    let dev = c.args.dev.now in
    let new = c.do_parts-done.new.dev in
    let did = c.in-Err.ensures in
    let why = c.in-Err.why in
    subst (λ (t : TablesView). IfOk c.answer_to.result (λ a. TellsTables kind (stores dev) dev.settings (remembered dev) t
    → ReadsTold kind (between dev new) dev.settings t a)) c.self.view_is
    (if_ok c.answer_to.result (λ a. fault_answer why ≡ Some a) _ c.answer_to.ensures.answer
    (λ a is tells. piece_failed_told g.met.S.SliceStore.laws dev new did.dev c.requires.dev (old g at) c.self.invariant (inside g at) tells c.args.parts
    c.do_parts-done.new.kv did.prunes why a is did.fault))

pub returns-in-Err-clause-leaves : goal.returns-in-Err-clause-leaves
returns-in-Err-clause-leaves g c =
    leaves g (goal.at.returns-in-Err-clause-leaves g c).After-do_parts-done (sym c.scans.ensures ∙ c.if-not-scans.false) c.in-Err.ensures.reads
    c.in-Err.ensures.dev

pub returns-then-not-scans-clause-leaves : goal.returns-then-not-scans-clause-leaves
returns-then-not-scans-clause-leaves g c =
    let dev = c.args.dev.now in
    leaves_none g.S.SliceStore.kind (is_down dev.replicas.now) (stores dev) dev.settings (remembered dev) c.args.self.now (Event.Piece c.args.parts)

pub invariant_of-self-in-Err : goal.invariant_of-self-in-Err
invariant_of-self-in-Err g c =
    let at = (goal.at.invariant_of-self-in-Err g c).After-do_parts-done in
    pruned_sound (old g at) (after g at) (pruned g at c.in-Err.ensures.pins c.in-Err.ensures.same) c.self.invariant
