use Rattle.std.proofs.Common.{◌++◌, ℕ, List, [], get_or, inl, inr, refl, sym, ap, ◌∙◌, arith}
use Rattle.std.proofs.lemmas.List.{append-nil, take_all}
use Rattle.wtf_summary.proofs.Ends.{kept_text, shows_all, shows_front, text_is}
use Rattle.wtf_summary.proofs.showing.show.Goals as goal

pub returns-then-is_err-clause-front : goal.returns-then-is_err-clause-front
returns-then-is_err-clause-front g c = λ before h.
    let was = c.loop-at.invariant in
    let text = c.args.text.now in
    let at = c.loop-at.at in
    let new = c.advance.new.state in
    let step = c.advance.ensures in
    let kept = kept_text c.loop-at.state new (get_or text at 0) c.advance.result step.took (sym c.is_err.ensures.value ∙ c.if-is_err.true) in
    let rest = text_is text at (get_or text at 0) new.trace.text.numbers new.trace.more.numbers c.loop-at-test.true refl (kept ∙ was.text)
    (elim step.more [ inl same ↦ inl (same ∙ was.sound.whole was.whole) | inr one ↦ inr one ]) in
    shows_front (g.O.Sink.view c.args.out.now) (g.O.Sink.view c.advance.new.out) new c.args.lines text rest.0 before step.sound
    (step.lines ∙ was.lines) (step.first ∙ was.first) rest.1 h

pub returns-clause-whole : goal.returns-clause-whole
returns-clause-whole g c = λ t before h.
    let was = c.loop-at.invariant in
    shows_all (g.O.Sink.view c.args.out.now) (g.O.Sink.view c.loop-at.out) c.loop-at.state c.args.lines c.args.text.now before was.sound was.lines was.first
    (was.text ∙ take_all c.loop-at.at c.args.text.now (omega (arith, c.loop-at-test.false))) was.whole h

pub returns-clause-front : goal.returns-clause-front
returns-clause-front g c = λ before h.
    let was = c.loop-at.invariant in
    let state = c.loop-at.state in
    let text = c.args.text.now in
    shows_front (g.O.Sink.view c.args.out.now) (g.O.Sink.view c.loop-at.out) state c.args.lines text [] before was.sound was.lines was.first
    (append-nil (state.trace.text.numbers ++ state.trace.more.numbers)
    ∙ ap (λ (m : List ℕ). state.trace.text.numbers ++ m) (was.sound.whole was.whole) ∙ append-nil state.trace.text.numbers
    ∙ was.text ∙ take_all c.loop-at.at text (omega (arith, c.loop-at-test.false)))
    h
