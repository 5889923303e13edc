use Rattle.std.proofs.Common.{◌≤◌, sym, subst}
use Rattle.wtf_occ.proofs.AttemptLaws.{first_moved-none}
use Rattle.wtf_occ.proofs.attempt.find_moved.Goals as goal

pub returns-then-number-base-clause-first : goal.returns-then-number-base-clause-first
returns-then-number-base-clause-first g c =
    first_moved-none g.K.Ord.cmp c.args.kv.now c.args.base c.args.keys.now (subst (λ n. n ≤ c.args.base) (sym c.requires) c.if-number-base.true)
