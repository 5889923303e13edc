use Rattle.std.proofs.Common.{arith}
use Rattle.wtf_dev.proofs.Lists.{short_get, short_set, lists_zeroed}
use Rattle.wtf_dev.proofs.files.Files.zero.Goals as goal

pub returns-clause-zeroed : goal.returns-clause-zeroed
returns-clause-zeroed c =
    lists_zeroed c.self.inside.held c.args.file c.index-self-file.result _ c.args.self.now c.args.from c.args.to c.self.view_is (omega (arith, c.requires.file, c.self.ranges)) c.zero.ensures

pub invariant_of-self : goal.invariant_of-self
invariant_of-self c =
    short_set c.self.inside.held c.args.file _ c.self.invariant
    (omega (arith, c.zero.ensures.len, short_get c.self.inside.held c.args.file c.index-self-file.result c.self.invariant (omega (arith, c.requires.file, c.self.ranges))))
