use Rattle.wtf_healer.proofs.entries.add.Goals as goal

pub returns-in-Ok-push-clause-added : goal.returns-in-Ok-push-clause-added
returns-in-Ok-push-clause-added g c = (c.in-Ok.made, c.in-Ok.ensures.restored, c.in-Ok-push.ensures.ok)
