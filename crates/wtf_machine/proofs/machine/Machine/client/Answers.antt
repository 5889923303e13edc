use Rattle.std.proofs.Common.{sym, ap, ◌∙◌}
use Rattle.std.specs.FinMap.{get}
use Rattle.wtf_model.specs.declared.event.Verb.TheVariants as verb
use Rattle.wtf_model.specs.Lawful.{client_refusal}
use Rattle.wtf_machine.specs.Machines.{machine_in}
use Rattle.wtf_machine.proofs.MachineWays.{at_verb, said_at_verb, begun_client, tried_client, stepped_client, committed_client, aborted_client, called_client}
use Rattle.wtf_machine.proofs.machine.Machine.client.Goals as goal

pub returns-in-Begin-clause-decides : goal.returns-in-Begin-clause-decides
returns-in-Begin-clause-decides c =
    let m = machine_in c.args.self.now in
    let found = get m.transactions c.args.c in
    let a = c.args.answer.now in
    let new = machine_in c.begin.new.self in
    at_verb c.begin.result m new c.args.c found _ verb.Begin a c.in-Begin.is
    (begun_client c.begin.result m c.args.c found a new (ap (client_refusal found) (sym c.in-Begin.is) ∙ sym c.in_default.ensures) c.begin.ensures.decides)

pub returns-in-Begin-clause-err : goal.returns-in-Begin-clause-err
returns-in-Begin-clause-err c = c.begin.ensures.err

pub returns-in-Try-clause-decides : goal.returns-in-Try-clause-decides
returns-in-Try-clause-decides c =
    let m = machine_in c.args.self.now in
    let found = get m.transactions c.args.c in
    let a = c.args.answer.now in
    let new = machine_in c.attempt.new.self in
    at_verb c.attempt.result m new c.args.c found _ verb.Try a c.in-Try.is
    (tried_client c.attempt.result m c.args.c found a new (ap (client_refusal found) (sym c.in-Try.is) ∙ sym c.in_default.ensures) c.attempt.ensures.decides)

pub returns-in-Try-clause-err : goal.returns-in-Try-clause-err
returns-in-Try-clause-err c = c.attempt.ensures.err

pub returns-in-Step-clause-decides : goal.returns-in-Step-clause-decides
returns-in-Step-clause-decides c =
    let m = machine_in c.args.self.now in
    let found = get m.transactions c.args.c in
    let a = c.args.answer.now in
    let new = machine_in c.replay.new.self in
    at_verb c.replay.result m new c.args.c found _ verb.Step a c.in-Step.is
    (stepped_client c.replay.result m c.args.c found a new (ap (client_refusal found) (sym c.in-Step.is) ∙ sym c.in_default.ensures) c.replay.ensures.decides)

pub returns-in-Step-clause-err : goal.returns-in-Step-clause-err
returns-in-Step-clause-err c = c.replay.ensures.err

pub returns-in-Commit-clause-decides : goal.returns-in-Commit-clause-decides
returns-in-Commit-clause-decides c =
    let m = machine_in c.args.self.now in
    let found = get m.transactions c.args.c in
    let a = c.args.answer.now in
    let new = machine_in c.commit.new.self in
    at_verb c.commit.result m new c.args.c found _ verb.Commit a c.in-Commit.is
    (committed_client c.commit.result m c.args.c found a new
    (ap (client_refusal found) (sym c.in-Commit.is) ∙ sym c.in_default.ensures) c.commit.ensures.decides)

pub returns-in-Commit-clause-err : goal.returns-in-Commit-clause-err
returns-in-Commit-clause-err c = c.commit.ensures.err

pub returns-in-Abort-clause-decides : goal.returns-in-Abort-clause-decides
returns-in-Abort-clause-decides c =
    let m = machine_in c.args.self.now in
    let found = get m.transactions c.args.c in
    let a = c.args.answer.now in
    let new = machine_in c.abort.new.self in
    said_at_verb c.abort.result m new c.args.c found _ verb.Abort a c.in-Abort.is
    (aborted_client c.abort.result m c.args.c found a new (ap (client_refusal found) (sym c.in-Abort.is) ∙ sym c.in_default.ensures) c.abort.ensures)

pub returns-in-Call-clause-decides : goal.returns-in-Call-clause-decides
returns-in-Call-clause-decides c =
    let m = machine_in c.args.self.now in
    let found = get m.transactions c.args.c in
    let a = c.args.answer.now in
    let new = machine_in c.call.new.self in
    at_verb c.call.result m new c.args.c found _ (verb.Call c.in-Call.op) a c.in-Call.is
    (called_client c.call.result m c.args.c found c.in-Call.op a new
    (ap (client_refusal found) (sym c.in-Call.is) ∙ sym c.in_default.ensures) c.call.ensures.decides)

pub returns-in-Call-clause-err : goal.returns-in-Call-clause-err
returns-in-Call-clause-err c = c.call.ensures.err
