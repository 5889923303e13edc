use Rattle.std.proofs.Common.{◌≡◌, true, false, ap, sym, ◌∙◌, subst}
use denote.Enum.Bare.{sameb}
use Rattle.wtf_path.specs.contracts.error.PathError.{the_type}
use Rattle.wtf_path.specs.declared.error.PathError.{PathError}
use Rattle.wtf_path.specs.declared.error.PathError.TheVariants.{Memory}
use Rattle.wtf_path.specs.Refusals.{refusal}
use Rattle.wtf_file.proofs.WordLaws.{refused-no_file, none-is}
use Rattle.wtf_file.proofs.task.file_path.Goals as goal

pub returns-else-eq : goal.returns-else-eq
returns-else-eq c =
    let P : PathError → Type 0 = λ why. false ≡ sameb the_type why Memory in
    let other : false ≡ sameb the_type c.in-Err.why Memory = sym c.if-eq.false ∙ c.eq.ensures in
    sym (refused-no_file c.args.word.now (λ none. absurd
    (let same : false ≡ true = subst P (c.in-Err.ensures.taken
    (c.in-Err.ensures.grammar.0 (none-is c.as_bytes.result.now (ap refusal c.as_bytes.ensures.value ∙ none)))) other in cc)))
