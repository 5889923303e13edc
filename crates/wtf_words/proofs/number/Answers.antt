use Rattle.std.proofs.Common.{rules, ℕ, List, Some, None, ◌∙◌, ap}
use Rattle.clap.specs.Words.{found_of}
use Rattle.wtf_lex.specs.Numbers.{number_within}
use Rattle.wtf_words.proofs.Asking.{number_by}
use Rattle.wtf_words.proofs.number.Goals as goal

pub returns-in-Some-clause-value : goal.returns-in-Some-clause-value
returns-in-Some-clause-value c =
    c.number_within.ensures.value ∙ ap (λ (text : List ℕ). number_within c.args.most text) c.as_bytes.ensures.value
    ∙ number_by (found_of c.args.matches.now) c.args.name.now c.args.most c.args.otherwise (Some c.in-Some.text.now) (search rules)

pub returns-in-None-clause-value : goal.returns-in-None-clause-value
returns-in-None-clause-value c =
    number_by (found_of c.args.matches.now) c.args.name.now c.args.most c.args.otherwise None (search rules)
