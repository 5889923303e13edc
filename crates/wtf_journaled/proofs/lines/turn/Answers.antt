use Rattle.std.proofs.Common.{◌≡◌, ◌++◌, ℕ, List, Some, refl, sym, ◌∙◌, ap, inr}
use Rattle.wtf_serve.specs.Engines.{step}
use Rattle.wtf_serve.specs.Scripts.{line_text}
use Rattle.wtf_serve.specs.Stocks.{stock}
use Rattle.wtf_durable.specs.Views.{blind, durable_scene}
use Rattle.wtf_journaled.specs.Engine.{journaled}
use Rattle.wtf_journaled.proofs.Adding.{turn_unanswered}
use Rattle.wtf_journaled.proofs.LineLaws.{answered_survives, blind_stays}
use Rattle.wtf_journaled.proofs.lines.turn.Goals as goal

pub returns-clause-turn : goal.returns-clause-turn
returns-clause-turn g c =
    let text : c.as_slice.result.now ≡ line_text c.in-Ok.answer
    = c.as_slice.ensures.value ∙ c.in-Ok-push_answer.ensures ∙ ap (λ (x : List ℕ). x ++ line_text c.in-Ok.answer) c.clear.ensures.items in
    record {
      is = record {
        answer = c.in-Ok.answer;
        is = c.in-Ok.ensures.is;
        wrote = λ old e. let (front, back, all, new) = c.in-Err-write_all.ensures.told old e in (front, back, sym text ∙ all, new);
        cause = c.in-Err-write_all.ensures.cause;
      };
      adds = c.in-Ok.ensures.added;
    }

pub returns-in-Ok-write_all-clause-turn : goal.returns-in-Ok-write_all-clause-turn
returns-in-Ok-write_all-clause-turn g c =
    let text : c.as_slice.result.now ≡ line_text c.in-Ok.answer
    = c.as_slice.ensures.value ∙ c.in-Ok-push_answer.ensures ∙ ap (λ (x : List ℕ). x ++ line_text c.in-Ok.answer) c.clear.ensures.items in
    record {
      is = record {
        answer = c.in-Ok.answer;
        is = c.in-Ok.ensures.is;
        wrote = λ old e. c.in-Ok-write_all.ensures.told old e ∙ ap (λ (x : List ℕ). Some (old ++ x)) text;
        still = c.in-Ok-write_all.ensures.steady;
      };
      adds = c.in-Ok.ensures.added;
    }

pub returns-in_default-clause-turn : goal.returns-in_default-clause-turn
returns-in_default-clause-turn g c = record {
  is = (refl, inr (record { answer = c.in-Ok.answer; is = c.in-Ok.ensures.is }));
  adds = c.in-Ok.ensures.added;
}

-- no memory was found for the text of a line that was answered
pub returns-in_default-clause-survives : goal.returns-in_default-clause-survives
returns-in_default-clause-survives g c = λ which.
    answered_survives g.S.Disk.kind g.D.Disk.kind g.met.S.Disk.laws g.met.D.Disk.laws
    (durable_scene c.args.shelf.now c.args.disk.now c.args.durable.now) (durable_scene c.answer.new.shelf c.answer.new.disk c.answer.new.durable) c.args.line
    c.in-Ok.answer c.answer.ensures.goes_on c.in-Ok.ensures.is

-- the line was not answered
pub returns-in-Err-clause-turn : goal.returns-in-Err-clause-turn
returns-in-Err-clause-turn g c =
    let kind = g.D.Disk.kind in
    turn_unanswered g.S.Disk.kind kind
    (step (stock c.args.shelf.now (blind (kind.view c.args.disk.now))) (stock c.answer.new.shelf (blind (kind.view c.answer.new.disk)))
    (journaled c.args.durable.now c.args.disk.now) (journaled c.answer.new.durable c.answer.new.disk))
    c.args.line (g.O.Sink.view c.args.out.now) c.halt_of.result c.halt_of.ensures.which (record {
      keeper = blind_stays kind c.args.disk.now c.answer.new.disk c.answer.ensures.goes_on;
      follows = c.in-Err.ensures.follows;
    })
