use Rattle.std.proofs.Common.{arith, length, ap}
use Rattle.wtf_dev.proofs.Lists.{short_get}
use Rattle.wtf_dev.proofs.files.Files.bytes.Goals as goal

pub returns-clause-fits : goal.returns-clause-fits
returns-clause-fits c =
    omega (arith, short_get c.self.inside.held c.args.file c.index-self-file.result c.self.invariant (omega (arith, c.requires, c.self.told)), ap length c.deref.ensures.value)
