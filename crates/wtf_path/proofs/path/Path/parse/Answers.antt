use Rattle.std.proofs.Common.{sym, ◌∙◌}
use Rattle.wtf_path.proofs.Refused.{refused_none, path-from_none, grammar}
use Rattle.wtf_path.proofs.path.Path.parse.Goals as goal

pub returns-in-Some-clause-taken : goal.returns-in-Some-clause-taken
returns-in-Some-clause-taken c path = let none = refused_none c.args.text.now path in cc

pub returns-in-Some-clause-grammar : goal.returns-in-Some-clause-grammar
returns-in-Some-clause-grammar c = grammar c.args.text.now

pub invariant_of-result : goal.invariant_of-result
invariant_of-result c =
    rw c.in-Ok.ensures.items (path-from_none c.args.text.now (sym c.first_refusal.ensures ∙ c.in_default.is))

pub returns-in-Ok-clause-well_formed : goal.returns-in-Ok-clause-well_formed
returns-in-Ok-clause-well_formed c = invariant_of-result c

pub returns-in-Ok-clause-grammar : goal.returns-in-Ok-clause-grammar
returns-in-Ok-clause-grammar c = grammar c.args.text.now

pub returns-in-Err-clause-grammar : goal.returns-in-Err-clause-grammar
returns-in-Err-clause-grammar c = grammar c.args.text.now
