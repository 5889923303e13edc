use Rattle.wtf_dev.specs.declared.disk_call.DiskCall.TheVariants as call
use Rattle.wtf_dev.proofs.DiskTapes.{holds_noted, spoil_seen}
use Rattle.wtf_dev.proofs.tape.Tape.spoil.Goals as goal

pub invariant_of-self : goal.invariant_of-self
invariant_of-self c =
    holds_noted c.note.result c.self.inside.noted.items c.note.new.noted.items c.self.inside.held (call.Spoiled c.args.file c.args.at c.min-reach.result)
    (spoil_seen c.args.file c.args.at c.min-reach.result) c.note.ensures.noted c.note.ensures.same c.self.invariant
