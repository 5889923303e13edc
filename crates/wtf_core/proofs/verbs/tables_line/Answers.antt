use Rattle.wtf_core.proofs.Common.{Event, Ok, refl}
use Rattle.wtf_core.proofs.Lent.{if_some, done_as, lent_done, collect_done, put_done, drop_done, scan_done}
use Rattle.wtf_core.proofs.verbs.tables_line.Goals as goal

pub returns-in-Client : goal.returns-in-Client
returns-in-Client g c = done_as c.in-Client.is c.client_line.ensures

pub returns-in-Plan : goal.returns-in-Plan
returns-in-Plan g c =
    let did = c.plan.ensures in
    done_as c.in-Plan.is (lent_done g.S.SliceStore.kind c.args.dev.now c.plan.new.dev c.args.tables.now c.plan.new.self
    (Event.Plan c.in-Plan.job c.in-Plan.kind c.in-Plan.path c.in-Plan.region) c.plan.result did.turn did.serves did.told
    (λ goes. goes) did.err did.leaves did.dev refl)

pub returns-in-Put : goal.returns-in-Put
returns-in-Put g c =
    let did = c.put_job.ensures in
    done_as c.in-Put.is (put_done g.met.S.SliceStore.laws c.args.dev.now c.requires.dev c.args.tables.now c.put_job.new.self c.requires.sound c.requires.inside
    c.in-Put.job c.put_job.result (if_some c.put_job.result did.turn (λ a turn. (turn, refl))) did.err)

pub returns-in-DropJob : goal.returns-in-DropJob
returns-in-DropJob g c =
    done_as c.in-DropJob.is (drop_done g.met.S.SliceStore.laws c.args.dev.now c.requires.dev c.args.tables.now c.drop_job.new.self c.requires.sound
    c.requires.inside c.in-DropJob.job (Ok c.drop_job.result) (c.drop_job.ensures.turn, refl) refl)

pub returns-in-Scan : goal.returns-in-Scan
returns-in-Scan g c =
    let did = c.scan.ensures in
    done_as c.in-Scan.is (scan_done g.met.S.SliceStore.laws c.args.dev.now c.requires.dev c.args.tables.now c.scan.new.self c.requires.sound c.requires.inside
    c.scan.result (if_some c.scan.result did.turn (λ a turn. (turn, refl))) did.err)

pub returns-in-Piece : goal.returns-in-Piece
returns-in-Piece g c =
    let did = c.piece.ensures in
    done_as c.in-Piece.is (lent_done g.S.SliceStore.kind c.args.dev.now c.piece.new.dev c.args.tables.now c.piece.new.self
    (Event.Piece c.in-Piece.parts) c.piece.result did.turn did.serves did.unread (λ goes. goes) did.err did.leaves did.dev refl)

pub returns-in-Collect : goal.returns-in-Collect
returns-in-Collect g c =
    let did = c.collect.ensures in
    done_as c.in-Collect.is (collect_done g.S.SliceStore.kind c.args.dev.now c.collect.new.dev c.args.tables.now c.collect.new.self c.in-Collect.k
    c.collect.result did.turn did.serves did.err did.dev_err did.leaves)

pub returns-in-Dump : goal.returns-in-Dump
returns-in-Dump g c =
    let did = c.dump.ensures in
    done_as c.in-Dump.is (lent_done g.S.SliceStore.kind c.args.dev.now c.dump.new.dev c.args.tables.now c.dump.new.self
    (Event.Dump c.in-Dump.p) c.dump.result did.turn did.serves did.told (λ goes. goes) did.err did.leaves did.dev refl)
