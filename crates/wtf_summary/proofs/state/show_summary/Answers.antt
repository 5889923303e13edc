use Rattle.std.proofs.Common.{◌≡◌, ◌++◌, ℕ, List, [], Some, take, drop, length, ap, refl, sym, ◌∙◌, append_assoc, arith}
use Rattle.std.proofs.lemmas.List.{append-nil}
use Rattle.wtf_summary.specs.Summaries.{summary}
use Rattle.wtf_summary.proofs.Sound.{empty_test, filled, take_drop}
use Rattle.wtf_summary.proofs.state.show_summary.Goals as goal

pub returns-then-is_empty : goal.returns-then-is_empty
returns-then-is_empty g c = record {
  told = λ text t.
      let old = c.args.state.now.trace.seen.numbers in
      let n = c.pass-taken.result in
      let e : c.as_slice.result.now ≡ summary text = c.as_slice.ensures.value ∙ c.summary-text.ensures text t in
      let all = take_drop n c.as_slice-2.result.now in
      let e2 : c.as_slice-2.result.now ≡ summary text = c.as_slice-2.ensures.value ∙ c.summary-text.ensures text t in
      let seen = c.and.ensures ∙ ap (λ (l : List ℕ). old ++ l) c.split_at.ensures.front in
      let gone : c.split_at.result.1.now ≡ [] = empty_test _ _ c.is_empty.ensures c.if-is_empty.true in
      let none : drop n c.as_slice-2.result.now ≡ [] = sym c.split_at.ensures.back ∙ gone in
      let whole : take n c.as_slice-2.result.now ≡ summary text = sym (append-nil _) ∙ ap (λ (l : List ℕ). take n c.as_slice-2.result.now ++ l) (sym none) ∙ all ∙ e2 in
      record {
        lines = refl;
        begun = refl;
        tally = refl;
        first = refl;
        text = refl;
        counted = c.pass-taken.ensures.faults;
        added = λ b h. c.pass-taken.ensures.told (b ++ old) h ∙ ap Some (append_assoc b old (take n c.as_slice.result.now) ∙ ap (λ (l : List ℕ). b ++ l) (ap (λ (l : List ℕ). old ++ take n l) (e ∙ sym e2) ∙ sym seen));
        showed = (
          seen ∙ ap (λ (l : List ℕ). old ++ l) whole,
          refl,
          refl,
          refl,
          λ l h. c.pass-taken.ensures.told l h ∙ ap Some (ap (λ (x : List ℕ). l ++ x) (ap (take n) (e ∙ sym e2) ∙ whole)),
          c.pass-taken.ensures.steady (omega (arith, c.pass-taken.ensures.within, ap length gone, c.split_at.ensures.back_len, ap length (e ∙ sym e2))),
        );
      };
}

pub returns : goal.returns
returns g c = record {
  told = λ text t.
      let old = c.args.state.now.trace.seen.numbers in
      let n = c.pass-taken.result in
      let e : c.as_slice.result.now ≡ summary text = c.as_slice.ensures.value ∙ c.summary-text.ensures text t in
      let e2 : c.as_slice-2.result.now ≡ summary text = c.as_slice-2.ensures.value ∙ c.summary-text.ensures text t in
      let seen = c.and.ensures ∙ ap (λ (l : List ℕ). old ++ l) c.split_at.ensures.front in
      let same = c.fail.ensures in
      let rest = c.and-2.ensures ∙ ap (λ (l : List ℕ). l ++ c.split_at.result.1.now) c.empty.ensures ∙ c.split_at.ensures.back in
      record {
        lines = ap (λ s. s.lines) same;
        begun = ap (λ s. s.begun) same;
        tally = ap (λ s. s.tally) same;
        first = ap (λ s. s.trace.first) same;
        text = ap (λ s. s.trace.text) same;
        counted = c.pass-taken.ensures.faults;
        added = λ b h. c.pass-taken.ensures.told (b ++ old) h ∙ ap Some (append_assoc b old (take n c.as_slice.result.now) ∙ ap (λ (l : List ℕ). b ++ l) (ap (λ (l : List ℕ). old ++ take n l) (e ∙ sym e2) ∙ sym seen ∙ sym (ap (λ s. s.trace.seen.numbers) same)));
        showed = (
          rw (ap (λ s. s.trace.seen.numbers) same, ap (λ s. s.trace.rest.numbers) same, seen, rest) (append_assoc old _ _ ∙ ap (λ (l : List ℕ). old ++ l) (take_drop n c.as_slice-2.result.now ∙ e2)),
          ap (λ s. s.trace.more.numbers) same ∙ c.and-3.ensures ∙ ap (λ (l : List ℕ). l ++ c.as_slice-3.result.now) c.empty-2.ensures ∙ c.as_slice-3.ensures,
          ap (λ s. s.faults) same,
          c.pass-taken.ensures.cause (omega (arith, filled _ _ c.is_empty.ensures c.if-is_empty.false, c.split_at.ensures.back_len, ap length (e ∙ sym e2))),
        );
      };
}
