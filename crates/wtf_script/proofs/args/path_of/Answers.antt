use Rattle.std.proofs.Common.{refl}
use Rattle.wtf_path.specs.Refusals.{refusal}
use Rattle.wtf_script.specs.Arguments.{path_of}
use Rattle.wtf_script.proofs.PathLaws.{path_refused}
use Rattle.wtf_script.proofs.args.path_of.Goals as goal

pub returns-in-Err : goal.returns-in-Err
unfolding path_of
returns-in-Err c =
    let word = c.args.word.now in
    path_refused (refusal word) word _ _ _ refl c.in-Err.ensures.refused (λ h. c.in-Err.ensures.taken (c.parse.ensures.grammar.0 h)) c.path_error.ensures
