use Rattle.std.proofs.Common.{◌≡◌, None, subst, sym}
use Rattle.wtf_kv.specs.Edits.{value_made}
use Rattle.wtf_values.specs.declared.summary.Summary.TheVariants as summary
use Rattle.wtf_values.specs.Outcomes.{outcome_none}
use Rattle.wtf_values.specs.Summaries.{summary_of}
use Rattle.wtf_values.proofs.SummaryLaws.{rel_raises}
use Rattle.wtf_values.proofs.summary.missing_after.Goals as goal

pub returns-in-Some : goal.returns-in-Some
returns-in-Some c =
    subst (λ d. summary.Region c.in-Some.end ≡ summary_of (value_made (outcome_none d) None)) (sym c.in-PushRel.is)
    (rel_raises None None c.in-PushRel.pieces c.in-PushRel.size c.in-Some.end c.in-Some.ensures.room.0 c.in-Some.ensures.room.1 c.in-Some.ensures.small)
