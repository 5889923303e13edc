use Rattle.std.proofs.Common.{rules, tests}
use Rattle.std.proofs.lemmas.Iterator.Search.{any_from_yields_List}
use Rattle.std.proofs.lemmas.Iterator.Splits.{YieldsList-from_slice_split}
use Rattle.wtf_path.specs.Parts.{is_slash}
use Rattle.wtf_path.specs.Refusals.{is_dot_name}
use Rattle.wtf_path.proofs.Splits.{parts_of-some, some_bytes}
use Rattle.wtf_path.proofs.rules.has_dot_name.Goals as goal

pub returns : goal.returns
returns c =
    rw (parts_of-some c.args.behind.now (some_bytes _ _ c.is_empty.ensures c.if-is_empty.false))
    (any_from_yields_List is_dot_name _ _ _ c.any.ensures.ran
    (YieldsList-from_slice_split _ is_slash c.args.behind.now c.split.ensures.rest c.split.ensures.done c.split.ensures.closure (λ x r q k. search (rules, tests)))
    (λ x b q k. search (rules, tests)))
