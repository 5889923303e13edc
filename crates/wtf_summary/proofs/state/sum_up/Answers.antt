use Rattle.std.proofs.Common.{◌≡◌, ◌<◌, ◌≤◌, ◌++◌, ◌∷◌, ℕ, List, [], Some, inl, inr, refl, subst, ap, sym, ◌∙◌, arith}
use Rattle.std.proofs.lemmas.List.{append-nil}
use Rattle.wtf_summary.specs.Summaries.{behind_first, feeds, front_lines, summary}
use Rattle.wtf_summary.specs.Tallies.{Tallies}
use Rattle.wtf_summary.proofs.Sound.{ends_line, failed, open_feeds, some_begun, took}
use Rattle.wtf_summary.proofs.Texts.{front_lines-byte, front_lines-few, shown-open, shown-whole}
use Rattle.wtf_summary.proofs.Words.{counts_of-below}
use Rattle.wtf_summary.proofs.state.sum_up.Goals as goal

pub take-requires : goal.take-requires
take-requires g c =
    let old = c.args.state.now in let s = c.requires.sound in
    let tally = s.tally c.requires.whole in
    let behind = behind_first old.trace.text.numbers in
    let few_yet = open_feeds old.lines behind _ (ap (λ n. n.lines) tally.counts) c.requires.open in
    let fits : old.lines < 18446744073709551616 = s.few in
    rw tally.counts (counts_of-below 18446744073709551615 (front_lines old.lines behind) (omega (arith, few_yet, ap feeds (front_lines-few old.lines behind few_yet), fits)))

pub returns-then-state-lines : goal.returns-then-state-lines
returns-then-state-lines g c =
    let old = c.args.state.now in let s = c.requires.sound in let b = c.args.byte in
    let text = old.trace.text.numbers in
    let behind = behind_first text in
    let tally = s.tally c.requires.whole in
    let few_yet = open_feeds old.lines behind _ (ap (λ n. n.lines) tally.counts) c.requires.open in
    let next = subst (λ (l : List ℕ). Tallies c.take.new.self (l ++ b ∷ [])) (front_lines-few old.lines behind few_yet) (c.take.ensures _ tally) in
    let few : feeds (behind ++ b ∷ []) < old.lines = omega (arith, ap (λ n. n.lines) next.counts, c.if-state-lines.true) in
    let new = c.take-then-state-lines.new.self in
    let same = c.take-then-state-lines.ensures.same in
    let texts : new.trace.text.numbers ≡ text ++ b ∷ [] = c.take-then-state-lines.ensures.text ∙ ap (λ (l : List ℕ). text ++ l) c.as_slice.ensures in
    let view = g.O.Sink.view c.args.out.now in
    record {
      sound = took view view old new b [] s c.requires.whole c.requires.behind
          (record { lines = ap (λ n. n.lines) same; begun = ap (λ n. n.begun) same; first = ap (λ n. n.trace.first.numbers) same; rest = ap (λ n. n.trace.rest.numbers) same; more = ap (λ n. n.trace.more.numbers) same; faults = ap (λ n. n.faults) same })
          texts
          (ap (λ n. n.trace.seen.numbers) same ∙ sym (append-nil _))
          (shown-open old.lines text b (some_begun _ _ s.begun c.requires.behind) few ∙ sym (append-nil _))
          (rw (ap (λ n. n.tally) same, front_lines-byte old.lines behind b few_yet) next)
          (λ l h. h ∙ ap Some (sym (append-nil l)))
          refl;
      lines = ap (λ n. n.lines) same;
      first = ap (λ n. n.trace.first.numbers) same;
      took = (texts, ap (λ n. n.faults) same);
      more = inl (ap (λ n. n.trace.more.numbers) same);
    }

pub returns-in-Err : goal.returns-in-Err
returns-in-Err g c =
    let old = c.args.state.now in let s = c.requires.sound in let b = c.args.byte in
    let text = old.trace.text.numbers in
    let behind = behind_first text in
    let tally = s.tally c.requires.whole in
    let few_yet = open_feeds old.lines behind _ (ap (λ n. n.lines) tally.counts) c.requires.open in
    let next = subst (λ (l : List ℕ). Tallies c.take.new.self (l ++ b ∷ [])) (front_lines-few old.lines behind few_yet) (c.take.ensures _ tally) in
    let all : old.lines ≤ feeds (behind ++ b ∷ []) = omega (arith, ap (λ n. n.lines) next.counts, c.if-state-lines.false) in
    let shows = c.in-Err.ensures.told _ next in
    let new = c.show_summary.new.state in
    record {
      sound = failed (g.O.Sink.view c.args.out.now) (g.O.Sink.view c.show_summary.new.out) old new b (summary (behind ++ b ∷ [])) s c.requires.whole
          shows.lines shows.begun (ap (λ t. t.numbers) shows.first) (ap (λ t. t.numbers) shows.text) shows.showed.0 shows.showed.1
          (ends_line old.lines behind b few_yet all)
          (shown-whole old.lines text b (some_begun _ _ s.begun c.requires.behind) few_yet all)
          shows.showed.2 shows.showed.3 shows.counted shows.added;
      lines = shows.lines;
      first = ap (λ t. t.numbers) shows.first;
      took = (ap (λ t. t.numbers) shows.text, shows.showed.2);
      more = inr shows.showed.1;
    }

pub returns-in-Ok : goal.returns-in-Ok
returns-in-Ok g c =
    let old = c.args.state.now in let s = c.requires.sound in let b = c.args.byte in
    let text = old.trace.text.numbers in
    let behind = behind_first text in
    let tally = s.tally c.requires.whole in
    let few_yet = open_feeds old.lines behind _ (ap (λ n. n.lines) tally.counts) c.requires.open in
    let next = subst (λ (l : List ℕ). Tallies c.take.new.self (l ++ b ∷ [])) (front_lines-few old.lines behind few_yet) (c.take.ensures _ tally) in
    let all : old.lines ≤ feeds (behind ++ b ∷ []) = omega (arith, ap (λ n. n.lines) next.counts, c.if-state-lines.false) in
    let shows = c.in-Ok.ensures.told _ next in
    let new = c.take-in-Ok.new.self in
    let same = c.take-in-Ok.ensures.same in
    let texts : new.trace.text.numbers ≡ text ++ b ∷ [] = c.take-in-Ok.ensures.text ∙ ap (λ (l : List ℕ). l ++ c.as_slice-in-Ok.result.now) (ap (λ t. t.numbers) shows.text) ∙ ap (λ (l : List ℕ). text ++ l) c.as_slice-in-Ok.ensures in
    let lines = ap (λ n. n.lines) same ∙ shows.lines in
    let first = ap (λ n. n.trace.first.numbers) same ∙ ap (λ t. t.numbers) shows.first in
    let faults = ap (λ n. n.faults) same ∙ shows.showed.3 in
    record {
      sound = took (g.O.Sink.view c.args.out.now) (g.O.Sink.view c.show_summary.new.out) old new b (summary (behind ++ b ∷ [])) s c.requires.whole c.requires.behind
          (record { lines = lines; begun = ap (λ n. n.begun) same ∙ shows.begun; first = first; rest = ap (λ n. n.trace.rest.numbers) same ∙ shows.showed.1; more = ap (λ n. n.trace.more.numbers) same ∙ shows.showed.2; faults = faults })
          texts
          (ap (λ n. n.trace.seen.numbers) same ∙ shows.showed.0)
          (shown-whole old.lines text b (some_begun _ _ s.begun c.requires.behind) few_yet all)
          (rw (ap (λ n. n.tally) same, shows.tally, front_lines-byte old.lines behind b few_yet) next)
          shows.showed.4
          shows.showed.5;
      lines = lines;
      first = first;
      took = (texts, faults);
      more = inl (ap (λ n. n.trace.more.numbers) same ∙ shows.showed.2);
    }
