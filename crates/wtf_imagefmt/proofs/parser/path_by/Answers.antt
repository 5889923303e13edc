use Rattle.std.proofs.Common.{refl}
use Rattle.wtf_path.specs.Refusals.{refusal}
use Rattle.wtf_imagefmt.proofs.Refused.{path_refused}
use Rattle.wtf_imagefmt.proofs.parser.path_by.Goals as goal

pub returns-in-Err : goal.returns-in-Err
returns-in-Err c =
    let text = c.args.text.now in
    path_refused (refusal text) text _ _ _ refl c.in-Err.ensures.refused (λ h. c.in-Err.ensures.taken (c.parse.ensures.grammar.0 h)) c.no_path.ensures
