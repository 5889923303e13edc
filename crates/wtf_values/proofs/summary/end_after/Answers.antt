use Rattle.std.proofs.Common.{◌≡◌, ◌+◌, Some, refl, sym, subst, ap, ◌∙◌}
use Rattle.wtf_kv.specs.Edits.{value_made}
use Rattle.wtf_values.specs.declared.summary.Summary.TheVariants as summary
use Rattle.wtf_values.specs.declared.value.Value.TheVariants as values
use Rattle.wtf_overlay.specs.Origin.{pieces_len}
use Rattle.wtf_values.specs.Outcomes.{outcome_region}
use Rattle.wtf_values.specs.Summaries.{summary_of}
use Rattle.wtf_values.proofs.SummaryLaws.{rel_raises, rel_leaves}
use Rattle.wtf_values.proofs.summary.end_after.Goals as goal

pub returns-in-Some : goal.returns-in-Some
returns-in-Some c v is =
    let ps = c.in-PushRel.pieces in
    subst (λ d. summary.Region c.in-Some.n ≡ summary_of (value_made (outcome_region (Some v) d) (Some (values.Region v)))) (sym c.in-PushRel.is)
    (rel_raises (Some v) (Some (values.Region v)) ps c.in-PushRel.size c.in-Some.n (c.in-Some.ensures.room.0 ∙ ap (λ e. e + pieces_len ps) (sym is)) c.in-Some.ensures.room.1 c.in-Some.ensures.small)

pub returns-in-None : goal.returns-in-None
returns-in-None c v is =
    subst (λ d. summary.Region c.args.end ≡ summary_of (value_made (outcome_region (Some v) d) (Some (values.Region v)))) (sym c.in-PushRel.is)
    (rel_leaves v c.in-PushRel.pieces c.in-PushRel.size c.args.end is (c.in-None.ensures.full refl))
