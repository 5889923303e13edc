use Rattle.wtf_dev.specs.declared.disk_call.DiskCall.TheVariants as call
use Rattle.wtf_dev.proofs.DiskTapes.{holds_noted, sync_seen}
use Rattle.wtf_dev.proofs.tape.Tape.settle.Goals as goal

pub invariant_of-self : goal.invariant_of-self
invariant_of-self c =
    holds_noted c.note.result c.self.inside.noted.items c.note.new.noted.items c.self.inside.held (call.Settled c.args.file) (sync_seen c.args.file)
    c.note.ensures.noted c.note.ensures.same c.self.invariant
