use Rattle.std.proofs.Common.{◌≡◌, ◌++◌, ℕ, List, Some, refl, sym, ◌∙◌, ap, inl, inr}
use Rattle.wtf_serve.specs.Scripts.{line_text}
use Rattle.wtf_serve.proofs.service.turn.Goals as goal

pub returns-clause-turn : goal.returns-clause-turn
returns-clause-turn g c =
    let text : c.as_slice.result.now ≡ line_text c.in-Ok.answer
    = c.as_slice.ensures.value ∙ c.in-Ok-push_answer.ensures ∙ ap (λ (x : List ℕ). x ++ line_text c.in-Ok.answer) c.clear.ensures.items in
    record {
      is = record {
        answer = c.in-Ok.answer;
        is = c.in-Ok.ensures.is;
        wrote = λ old e. let (front, back, all, new) = c.in-Err.ensures.told old e in (front, back, sym text ∙ all, new);
        cause = c.in-Err.ensures.cause;
      };
      spares = c.in-Ok.ensures.spares;
    }

pub returns-in-Ok-write_all-clause-turn : goal.returns-in-Ok-write_all-clause-turn
returns-in-Ok-write_all-clause-turn g c =
    let text : c.as_slice.result.now ≡ line_text c.in-Ok.answer
    = c.as_slice.ensures.value ∙ c.in-Ok-push_answer.ensures ∙ ap (λ (x : List ℕ). x ++ line_text c.in-Ok.answer) c.clear.ensures.items in
    record {
      is = record {
        answer = c.in-Ok.answer;
        is = c.in-Ok.ensures.is;
        wrote = λ old e. c.in-Ok-write_all.ensures.told old e ∙ ap (λ (x : List ℕ). Some (old ++ x)) text;
        still = c.in-Ok-write_all.ensures.steady;
      };
      spares = c.in-Ok.ensures.spares;
    }

pub returns-in_default-push_answer-clause-turn : goal.returns-in_default-push_answer-clause-turn
returns-in_default-push_answer-clause-turn g c = record {
  is = (refl, inr (record { answer = c.in-Ok.answer; is = c.in-Ok.ensures.is }));
  spares = c.in-Ok.ensures.spares;
}

-- no line was answered
pub returns-in_default-clause-turn : goal.returns-in_default-clause-turn
returns-in_default-clause-turn g c = record {
  is = (refl, inl (record { keeper = c.in_default.ensures.unkept; follows = c.in_default.ensures.follows }));
  spares = c.in_default.ensures.spares;
}
