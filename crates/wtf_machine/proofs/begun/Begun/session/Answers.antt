use Rattle.wtf_machine.proofs.begun.Begun.session.Goals as goal

pub returns-in-None-clause-left : goal.returns-in-None-clause-left
returns-in-None-clause-left c = c.anew.ensures
