use Rattle.wtf_dev.proofs.DiskTapes.{file_restored, restored_still}
use Rattle.wtf_dev.proofs.tape.Tape.restore.Goals as goal

pub returns-then-settle-clause-restored : goal.returns-then-settle-clause-restored
returns-then-settle-clause-restored c =
    file_restored _ c.write.new.self _ c.args.file c.args.bytes.now c.requires.empty
    (c.write.ensures.noted c.if-write.true) (c.settle.ensures.noted c.if-settle.true)

pub returns-then-settle-clause-others : goal.returns-then-settle-clause-others
returns-then-settle-clause-others c =
    restored_still _ c.write.new.self _ c.args.file c.args.bytes.now (c.write.ensures.noted c.if-write.true) (c.settle.ensures.noted c.if-settle.true)
