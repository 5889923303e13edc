-- Whether the first line of an output answers a line lawfully.
use Rattle.std.proofs.Common.{ℕ, true, false, List, Some, None, Result, sym, subst}
use Rattle.wtf_model.specs.declared.event.Event.{Event}
use Rattle.wtf_model.specs.declared.answer.Kind.{Kind}
use Rattle.wtf_model.specs.declared.answer.Answer.{Answer}
use Rattle.wtf_model.specs.Machines.{Machine}
use Rattle.wtf_model.specs.Lines.{Line, MayLine, after_line}
use Rattle.wtf_machine.specs.Kept.{Decides}
use Rattle.wtf_script.specs.ScriptLines.{HasNoFeed}
use Rattle.wtf_print.specs.Texts.{text_of}
use Rattle.wtf_checker.specs.Lawful.{event_or_bad, BeginsWith, RefusesAnswer}
use Rattle.wtf_checker.specs.Judging.{IsAnswered, IsAnswerOf}
use Rattle.wtf_checker.proofs.Cuts.{one_line, no_line}
use Rattle.wtf_checker.proofs.Tells.{may_same}

pub refused_none : (m : Machine) (line : Line) (output : List ℕ) → HasNoFeed output → RefusesAnswer m line output
refused_none m line output none = λ a rest told begins may. no_line (text_of a) rest output none begins

pub refused_untold : (m : Machine) (line : Line) (text behind output : List ℕ) → BeginsWith text behind output → IsAnswerOf text None
    → RefusesAnswer m line output
refused_untold m line text behind output begins none = λ a rest told there may. none a told.form (one_line (text_of a) text rest behind output there begins).0

pub answered_so : (m m' : Machine) (asked : Result Event Kind) (text behind output : List ℕ) (b : Answer) → BeginsWith text behind output
    → IsAnswerOf text (Some b)
    → Decides (MayLine m (event_or_bad asked) b) m (after_line m (event_or_bad asked) b) m' true → IsAnswered m (event_or_bad asked) output behind m'
answered_so m m' asked text behind output b begins is did = record {
  answer = b;
  told = record { form = is.0; plain = subst HasNoFeed (sym is.1) begins.plain };
  begins = subst (λ (t : List ℕ). BeginsWith t behind output) (sym is.1) begins;
  may = did.0;
  next_is = did.1;
}

pub refused_so : (m m' : Machine) (asked : Result Event Kind) (text behind output : List ℕ) (b : Answer) → BeginsWith text behind output
    → IsAnswerOf text (Some b)
    → Decides (MayLine m (event_or_bad asked) b) m (after_line m (event_or_bad asked) b) m' false → RefusesAnswer m (event_or_bad asked) output
refused_so m m' asked text behind output b begins is did = λ a rest told there may.
    did.0 (may_same m asked a b told.form (is.2 a told.form (one_line (text_of a) text rest behind output there begins).0) may)
