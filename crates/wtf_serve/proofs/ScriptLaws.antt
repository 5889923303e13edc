-- What a line that is too long asks, and lines behind others.
use Rattle.std.proofs.Common.{◌≡◌, ◌<◌, ℕ, Bool, List, [], ◌∷◌, ◌++◌, length, Ok, Err, refl, ◌∙◌, ap}
use Rattle.std.specs.Prelude.{is_err, ◌||◌}
use Rattle.std.proofs.lemmas.Bool.{lt-leb}
use Rattle.std.proofs.lemmas.List.Folds.{list_any-append}
use Rattle.wtf_model.specs.declared.answer.Answer.TheVariants as answer
use Rattle.wtf_model.specs.declared.answer.Kind.TheVariants as kind
use Rattle.wtf_model.specs.Lines.{Line}
use Rattle.wtf_script.specs.declared.limits.TheConstants.{LINE_BYTES}
use Rattle.wtf_script.specs.Grammar.{event_of, spelled}
use Rattle.wtf_serve.specs.Scripts.{line_of, line_from, has_bad}

pub event_of-long : (line : List ℕ) → LINE_BYTES < length line → event_of line ≡ Err kind.Long
unfolding event_of spelled
event_of-long line h = rw (lt-leb (length line) LINE_BYTES h) refl

pub line_of-long : (line : List ℕ) → LINE_BYTES < length line → line_of line ≡ Err (answer.Bad kind.Long)
line_of-long line h = ap line_from (event_of-long line h)

-- whether one of the lines asks nothing, with one line more
pub has_bad-push : (lines : List Line) (line : Line) → has_bad (lines ++ line ∷ []) ≡ (has_bad lines || is_err line)
has_bad-push lines line = list_any-append is_err lines (line ∷ []) ∙ ap (λ (b : Bool). has_bad lines || b) (last line)
  where
    last : (line : Line) → has_bad (line ∷ []) ≡ is_err line
    last (Ok e) = refl
    last (Err a) = refl
