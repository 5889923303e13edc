use Rattle.std.proofs.Common.{arith}
use Rattle.wtf_serve.proofs.Starting.{new_opened, new_few}
use Rattle.wtf_serve.proofs.opening.new_core.Goals as goal

pub returns-then-len-settings-clause-cause : goal.returns-then-len-settings-clause-cause
returns-then-len-settings-clause-cause g c = new_few c.args.shelf.now c.args.settings (omega (arith, c.if-len-settings.true, c.len.ensures.value))

pub returns-in-Ok-clause-opened : goal.returns-in-Ok-clause-opened
returns-in-Ok-clause-opened g c =
    let made = c.in-Ok.ensures in
    new_opened g.S.SliceStore.kind c.args.shelf.now c.args.settings c.in-Ok.core (omega (arith, c.if-len-settings.false, c.len.ensures.value))
    made.settings made.open made.number made.next_tx made.sound made.stands made.inside made.up made.lists made.unsaved
