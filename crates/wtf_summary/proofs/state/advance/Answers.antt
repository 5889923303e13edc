use Rattle.std.proofs.Common.{◌≡◌, ◌++◌, ◌∷◌, ℕ, List, [], Some, inl, refl, ap, sym, ◌∙◌, arith}
use Rattle.std.proofs.lemmas.List.{append-nil}
use Rattle.wtf_summary.specs.Summaries.{behind_first}
use Rattle.wtf_summary.proofs.Sound.{done_feeds, some_begun, took}
use Rattle.wtf_summary.proofs.Texts.{front_lines-more, shown-past}
use Rattle.wtf_summary.proofs.state.advance.Goals as goal

pub returns-then-state : goal.returns-then-state
returns-then-state g c =
    let old = c.args.state.now in let s = c.requires.sound in let b = c.args.byte in
    let text = old.trace.text.numbers in
    let behind = behind_first text in
    let whole : old.faults ≡ 0 = omega (arith, c.if-state-gt0.false) in
    let begun = c.if-not-state.false in
    let tally = s.tally whole in
    let some = some_begun _ _ s.begun begun in
    let done = done_feeds old.lines behind _ (ap (λ n. n.lines) tally.counts) c.if-state.true in
    let new = c.take.new.self in
    let same = c.take.ensures.same in
    let texts : new.trace.text.numbers ≡ text ++ b ∷ [] = c.take.ensures.text ∙ ap (λ (l : List ℕ). text ++ l) c.as_slice.ensures in
    let view = g.O.Sink.view c.args.out.now in
    record {
      sound = took view view old new b [] s whole begun
          (record { lines = ap (λ n. n.lines) same; begun = ap (λ n. n.begun) same; first = ap (λ n. n.trace.first.numbers) same; rest = ap (λ n. n.trace.rest.numbers) same; more = ap (λ n. n.trace.more.numbers) same; faults = ap (λ n. n.faults) same })
          texts
          (ap (λ n. n.trace.seen.numbers) same ∙ sym (append-nil _))
          (shown-past old.lines text (b ∷ []) some done ∙ sym (append-nil _))
          (rw (ap (λ n. n.tally) same, front_lines-more old.lines behind (b ∷ []) done) tally)
          (λ l h. h ∙ ap Some (sym (append-nil l)))
          refl;
      lines = ap (λ n. n.lines) same;
      first = ap (λ n. n.trace.first.numbers) same;
      took = (texts, ap (λ n. n.faults) same);
      more = inl (ap (λ n. n.trace.more.numbers) same);
    }
