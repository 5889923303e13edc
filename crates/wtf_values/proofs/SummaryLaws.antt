-- What a summary tells of the value that has it.
use Rattle.std.proofs.Common.{◌≡◌, ℕ, ◌+◌, ◌<◌, ◌≤◌, ◌^◌, List, Option, Some, ap, sym, ◌∙◌, arith}
use Rattle.wtf_kv.specs.Edits.{value_made}
use Rattle.wtf_values.specs.declared.region.RegionValue.{RegionValue}
use Rattle.wtf_values.specs.declared.summary.Summary.TheVariants as summary
use Rattle.wtf_values.specs.declared.value.Value.{Value}
use Rattle.wtf_values.specs.declared.value.Value.TheVariants.{Region}
use Rattle.wtf_values.specs.declared.value.Delta.TheVariants.{PushRel}
use Rattle.wtf_overlay.specs.declared.part.Piece.{Piece}
use Rattle.wtf_overlay.specs.Origin.{pieces_len}
use Rattle.wtf_values.specs.Regions.{or_empty}
use Rattle.wtf_values.specs.Outcomes.{outcome_region}
use Rattle.wtf_values.specs.Summaries.{summary_of}
use Rattle.wtf_values.proofs.RegionLaws.{with_pieces-end, fits_when, unfit_when}
use Rattle.wtf_values.proofs.OutcomeLaws.{outcome-fits, outcome-unfit}

-- pieces that fit raise the end by their length
pub rel_raises : (now : Option RegionValue) (was : Option Value) (ps : List Piece) (b n : ℕ) → n ≡ (or_empty now).end + pieces_len ps → n ≤ b → n < 2 ^ 32
    → summary.Region n ≡ summary_of (value_made (outcome_region now (PushRel ps b)) was)
rel_raises now was ps b n is room small =
    let end : n ≡ _ = is ∙ sym (with_pieces-end (or_empty now) ps (omega (arith, is, small))) in
    ap summary.Region end
    ∙ ap (λ o. summary_of (value_made o was)) (sym (outcome-fits now ps b (fits_when now ps b (omega (arith, is, room)))))

-- and those that do not leave it
pub rel_leaves : (v : RegionValue) (ps : List Piece) (b n : ℕ) → v.end ≡ n → b < n + pieces_len ps
    → summary.Region n ≡ summary_of (value_made (outcome_region (Some v) (PushRel ps b)) (Some (Region v)))
rel_leaves v ps b n is full =
    ap summary.Region (sym is)
    ∙ ap (λ o. summary_of (value_made o (Some (Region v)))) (sym (outcome-unfit (Some v) ps b (unfit_when (Some v) ps b (omega (arith, is, full)))))
