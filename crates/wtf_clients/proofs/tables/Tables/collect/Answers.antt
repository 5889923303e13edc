use Rattle.wtf_clients.proofs.Common.{SameFrom, is_down, Answer, Event, stores, remembered, between, fault_answer, lent_by, LeavesAlone, ServesLine, BesideView}
use Rattle.wtf_clients.proofs.Common.{TablesView, ◌≡◌, Some, IfOk, inl, refl, sym, ap, subst}
use Rattle.wtf_clients.proofs.{Lives.AreInside, Leaving.leaves_none, Leaving.leaves_by, Making.if_ok, ScanFrames.free_sound, ScanServing.collected}
use Rattle.wtf_clients.proofs.{ScanServing.collect_failed, ScanServing.collect_past, ScanServing.still_runs, Lives.tables_of}
use Rattle.wtf_clients.proofs.tables.Tables.collect.Given.{Over}
use Rattle.wtf_clients.proofs.tables.Tables.collect.Goals as goal
use Rattle.wtf_clients.proofs.tables.Tables.collect.Goals.{After-free}

-- the tables before it
abbrev old : (g : Over) → After-free g → TablesView
old g c = tables_of c.self.inside

inside : (g : Over) (c : After-free g) → AreInside g.S.SliceStore.kind c.args.dev.now (old g c)
inside g c = subst (AreInside g.S.SliceStore.kind c.args.dev.now) (sym c.self.view_is) c.requires.inside

-- what it leaves, whatever comes of it
left : (g : Over) (c : After-free g) → SameFrom c.args.dev.now.settings.servers (stores c.args.dev.now) (stores c.free.new.dev)
    → LeavesAlone g.S.SliceStore.kind (between c.args.dev.now c.free.new.dev) (lent_by c.args.dev.now c.free.new.dev) c.args.self.now (Event.Collect c.args.k)
left g c past =
    leaves_by g.S.SliceStore.kind c.args.dev.now c.free.new.dev c.args.self.now (Event.Collect c.args.k) c.free.ensures.down past c.free.ensures.syncs
    (inl c.free.ensures.lengths) (λ none. c.free.ensures.lists)

pub returns-in-Ok-clause-leaves : goal.returns-in-Ok-clause-leaves
returns-in-Ok-clause-leaves g c = left g (goal.at.returns-in-Ok-clause-leaves g c).After-free c.in-Ok.ensures.frees.goes.past

pub returns-in-Err-clause-leaves : goal.returns-in-Err-clause-leaves
returns-in-Err-clause-leaves g c =
    left g (goal.at.returns-in-Err-clause-leaves g c).After-free
    (collect_past g.S.SliceStore.kind c.args.k c.args.dev.now c.free.new.dev c.self.inside.beside.gc c.free.new.self.gc c.in-Err.why c.in-Err.ensures.fault)

pub returns-then-k-servers-clause-leaves : goal.returns-then-k-servers-clause-leaves
returns-then-k-servers-clause-leaves g c =
    let dev = c.args.dev.now in
    leaves_none g.S.SliceStore.kind (is_down dev.replicas.now) (stores dev) dev.settings (remembered dev) c.args.self.now (Event.Collect c.args.k)

pub returns-then-finished-lt2-clause-leaves : goal.returns-then-finished-lt2-clause-leaves
returns-then-finished-lt2-clause-leaves g c =
    let dev = c.args.dev.now in
    leaves_none g.S.SliceStore.kind (is_down dev.replicas.now) (stores dev) dev.settings (remembered dev) c.args.self.now (Event.Collect c.args.k)

pub returns-in-Ok-clause-serves : goal.returns-in-Ok-clause-serves
returns-in-Ok-clause-serves g c =
    let at = (goal.at.returns-in-Ok-clause-serves g c).After-free in
    let dev = c.args.dev.now in
    let new = c.free.new.dev in
    let did = c.in-Ok.ensures in
    subst (λ (t : TablesView). ServesLine g.S.SliceStore.kind (between dev new) (lent_by dev new) t (record (old g at) { beside = c.free.new.self })
    (Event.Collect c.args.k) (Answer.Collected c.in-Ok.bytes)) c.self.view_is
    (collected g.met.S.SliceStore.laws dev new c.requires.dev c.requires.ring (old g at) (inside g at) did.lengths c.args.k c.free.new.self
    (ap (λ (b : BesideView). b.jobs) did.rest) did.frees.ranges did.frees.goes c.in-Ok.bytes)

pub returns-in-Err-clause-serves : goal.returns-in-Err-clause-serves
returns-in-Err-clause-serves g c =
    let at = (goal.at.returns-in-Err-clause-serves g c).After-free in
    let dev = c.args.dev.now in
    let new = c.free.new.dev in
    let did = c.in-Err.ensures in
    let why = c.in-Err.why in
    subst (λ (t : TablesView). IfOk c.answer_to.result (ServesLine g.S.SliceStore.kind (between dev new) (lent_by dev new) t
    (record (old g at) { beside = c.free.new.self }) (Event.Collect c.args.k))) c.self.view_is
    (if_ok c.answer_to.result (λ a. fault_answer why ≡ Some a) _ c.answer_to.ensures.answer
    (λ a is. collect_failed g.met.S.SliceStore.laws dev new c.requires.dev c.requires.ring (old g at) (inside g at) did.lengths c.args.k c.free.new.self
    (ap (λ (b : BesideView). b.jobs) did.rest) c.free.new.self.gc why a is did.fault))

pub invariant_of-self : goal.invariant_of-self
invariant_of-self g c =
    let at = (goal.at.invariant_of-self g c).After-free in
    free_sound (old g at) (record (old g at) { beside = c.free.new.self }) c.self.invariant
    (record { kv = refl; keeps = record { beside = c.in-Ok.ensures.rest; clients = refl; next_tx = refl } }) c.in-Ok.ensures.frees.counts.running

pub invariant_of-self-in-Err : goal.invariant_of-self-in-Err
invariant_of-self-in-Err g c =
    let at = (goal.at.invariant_of-self-in-Err g c).After-free in
    free_sound (old g at) (record (old g at) { beside = c.free.new.self }) c.self.invariant
    (record { kv = refl; keeps = record { beside = c.in-Err.ensures.rest; clients = refl; next_tx = refl } })
    (still_runs g.S.SliceStore.kind c.args.k c.args.dev.now c.free.new.dev c.self.inside.beside.gc c.free.new.self.gc c.in-Err.why c.in-Err.ensures.fault)
