use Rattle.std.proofs.Common.{◌∷◌, [], arith}
use Rattle.wtf_machine.proofs.SeenLaws.{grown}
use Rattle.wtf_machine.proofs.begun.add.Goals as goal

pub returns : goal.returns
returns c = grown c.push-room.result _ c.args.calls.now.items (c.args.entry ∷ []) (c.push-room.ensures.succeeds (omega arith)) c.push-room.ensures.items
