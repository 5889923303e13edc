use Rattle.std.proofs.Common.{◌≡◌, ◌==◌, ◌++◌, ◌∷◌, ℕ, List, [], Some, inl, subst, ap, ◌∙◌}
use Rattle.wtf_script.specs.ScriptLines.{line_feed}
use Rattle.wtf_summary.specs.Summaries.{front_lines}
use Rattle.wtf_summary.specs.Tallies.{Tallies}
use Rattle.wtf_summary.proofs.Lines.{feeds-push}
use Rattle.wtf_summary.proofs.Texts.{behind_first-byte, behind_first-none, shown-first, shown-none}
use Rattle.wtf_summary.proofs.Sound.{added_more, begun_byte, clean, none_begun, one_taken, sound_clean}
use Rattle.wtf_summary.proofs.state.show_first.Goals as goal

pub returns-in-Ok : goal.returns-in-Ok
returns-in-Ok g c =
    let old = c.args.state.now in let s = c.requires.sound in let b = c.args.byte in
    let text = old.trace.text.numbers in
    let new = c.take.new.self in
    let same = c.take.ensures.same in
    let z = none_begun _ _ s.begun c.requires.first in
    let taken = one_taken c.in-Ok.field-0 _ b c.as_slice.ensures c.in-Ok.ensures.count c.in-Ok.ensures.some in
    let texts : new.trace.text.numbers ≡ text ++ b ∷ [] = c.take.ensures.text ∙ ap (λ (l : List ℕ). text ++ l) c.as_slice-in-Ok-2.ensures in
    let seen : new.trace.seen.numbers ≡ old.trace.seen.numbers ++ b ∷ [] = ap (λ n. n.trace.seen.numbers) same ∙ c.and.ensures ∙ ap (λ (l : List ℕ). old.trace.seen.numbers ++ l) c.as_slice-in-Ok.ensures in
    let lines : new.lines ≡ old.lines = ap (λ n. n.lines) same in
    let first : new.trace.first.numbers ≡ old.trace.first.numbers = ap (λ n. n.trace.first.numbers) same in
    record {
      sound = sound_clean (g.O.Sink.view c.write.new.self) new
          (rw lines s.some)
          (rw lines s.few)
          (rw (texts, feeds-push text b) (ap (λ n. n.begun) same ∙ begun_byte (b == line_feed) _ z))
          (rw (texts, lines, behind_first-byte text b z, ap (λ n. n.tally) same) (subst (λ (l : List ℕ). Tallies old.tally (front_lines old.lines l)) (behind_first-none text z) (s.tally c.requires.whole)))
          (rw (texts, lines, seen, shown-first old.lines text b s.some z) (ap (λ (l : List ℕ). l ++ b ∷ []) (clean (g.O.Sink.view c.args.out.now) old s c.requires.whole ∙ shown-none old.lines text s.some z)))
          (ap (λ n. n.trace.rest.numbers) same ∙ s.all c.requires.whole)
          (ap (λ n. n.trace.more.numbers) same ∙ s.whole c.requires.whole)
          (ap (λ n. n.faults) same ∙ c.requires.whole)
          (rw (seen, first) (added_more (g.O.Sink.view c.args.out.now) (g.O.Sink.view c.write.new.self) old.trace.first.numbers old.trace.seen.numbers (b ∷ []) s.added (λ l h. c.in-Ok.ensures.told l h ∙ ap Some (ap (λ (x : List ℕ). l ++ x) taken))))
          (rw first (λ o h. c.in-Ok.ensures.steady ∙ s.still o h c.requires.whole));
      lines = lines;
      first = first;
      took = (texts, ap (λ n. n.faults) same);
      more = inl (ap (λ n. n.trace.more.numbers) same);
    }
