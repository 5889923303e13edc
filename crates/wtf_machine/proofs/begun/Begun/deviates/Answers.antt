use Rattle.wtf_model.specs.Session.{fresh}
use Rattle.wtf_machine.specs.Logs.{ops_of}
use Rattle.wtf_machine.proofs.LogLaws.{IsLogged-at}
use Rattle.wtf_machine.proofs.BegunLaws.{deviates_by}
use Rattle.wtf_machine.proofs.begun.Begun.deviates.Goals as goal

pub is_other-is_other-requires-clause-logged : goal.is_other-is_other-requires-clause-logged
is_other-is_other-requires-clause-logged c =
    let k = c.args.self.now in
    IsLogged-at k.cap (fresh k.tree) (ops_of k.calls.items) k.replayed c.in_ok-due.due c.in_ok-due.ensures

pub returns : goal.returns
returns c = deviates_by _ _ c.is_other-is_other.result _ c.in_ok-due.due c.args.told.now c.in_ok-due.ensures c.is_other-is_other.ensures
