use Rattle.wtf_replica.specs.Downs.{is_down}
use Rattle.wtf_replica.proofs.Bytes.{other_server, other_file, before_range, behind_range}
use Rattle.wtf_replica.proofs.replicas.Replicas.free.Goals as goal

pub returns-clause-servers : goal.returns-clause-servers
returns-clause-servers g c p b =
    other_server g.met.S.SliceStore.laws (is_down c.args.self.now c.args.k) c.args.k c.args.file c.args.at c.args.len c.try_free.ensures.follows p b

pub returns-clause-files : goal.returns-clause-files
returns-clause-files g c p b =
    other_file g.met.S.SliceStore.laws (is_down c.args.self.now c.args.k) c.args.k c.args.file c.args.at c.args.len c.try_free.ensures.follows p b

pub returns-clause-before : goal.returns-clause-before
returns-clause-before g c p b =
    before_range g.met.S.SliceStore.laws (is_down c.args.self.now c.args.k) c.args.k c.args.file c.args.at c.args.len c.try_free.ensures.follows p b

pub returns-clause-behind : goal.returns-clause-behind
returns-clause-behind g c p b =
    behind_range g.met.S.SliceStore.laws (is_down c.args.self.now c.args.k) c.args.k c.args.file c.args.at c.args.len c.try_free.ensures.follows p b

pub returns-then-not-try_free-clause-servers : goal.returns-then-not-try_free-clause-servers
returns-then-not-try_free-clause-servers g c p b =
    other_server g.met.S.SliceStore.laws (is_down c.args.self.now c.args.k) c.args.k c.args.file c.args.at c.args.len c.try_free.ensures.follows p b

pub returns-then-not-try_free-clause-files : goal.returns-then-not-try_free-clause-files
returns-then-not-try_free-clause-files g c p b =
    other_file g.met.S.SliceStore.laws (is_down c.args.self.now c.args.k) c.args.k c.args.file c.args.at c.args.len c.try_free.ensures.follows p b

pub returns-then-not-try_free-clause-before : goal.returns-then-not-try_free-clause-before
returns-then-not-try_free-clause-before g c p b =
    before_range g.met.S.SliceStore.laws (is_down c.args.self.now c.args.k) c.args.k c.args.file c.args.at c.args.len c.try_free.ensures.follows p b

pub returns-then-not-try_free-clause-behind : goal.returns-then-not-try_free-clause-behind
returns-then-not-try_free-clause-behind g c p b =
    behind_range g.met.S.SliceStore.laws (is_down c.args.self.now c.args.k) c.args.k c.args.file c.args.at c.args.len c.try_free.ensures.follows p b
