use Rattle.std.proofs.Common.{◌++◌, ◌∷◌, [], ◌∙◌, ℕ, List, ap, sym, take, arith}
use Rattle.wtf_summary.specs.Counted.{counted, counts_of}
use Rattle.wtf_summary.specs.Tallies.{open_line}
use Rattle.wtf_summary.proofs.Lines.{open_line-byte, open_line-feed, other_byte, take_push-room, take_push-full}
use Rattle.wtf_summary.proofs.Words.{counts_of-byte, counts_of-feed}
use Rattle.wtf_summary.proofs.tally.Tally.take.Goals as goal

pub returns-then-byte-eq10 : goal.returns-then-byte-eq10
returns-then-byte-eq10 c = λ text t.
    let feed = c.if-byte-eq10.true in
    record {
      counts =
          c.and-self.ensures ∙ ap (counted c.args.self.now.counts) (c.as_slice-then-byte-eq10.ensures.value ∙ t.head)
          ∙ ap (λ counts. counted counts (take 10 (open_line text))) t.counts ∙ counts_of-feed text ∙ ap (λ (b : ℕ). counts_of (text ++ b ∷ [])) (sym feed);
      head = c.new-self.ensures ∙ ap (take 10) (sym (ap (λ (b : ℕ). open_line (text ++ b ∷ [])) feed ∙ open_line-feed text));
      digest = rw c.as_slice.ensures at (c.update.ensures text t.digest);
    }

pub returns-then-len-lt10 : goal.returns-then-len-lt10
returns-then-len-lt10 c = λ text t.
    let other = other_byte c.args.byte c.if-byte-eq10.false in
    record {
      counts = t.counts ∙ sym (counts_of-byte text c.args.byte other);
      head = c.push.ensures.items ∙ ap (λ (l : List ℕ). l ++ c.args.byte ∷ []) t.head
          ∙ sym (ap (take 10) (open_line-byte text c.args.byte other) ∙ take_push-room 10 (open_line text) c.args.byte (rw (sym t.head) (omega (arith, c.len.ensures.value, c.if-len-lt10.true))));
      digest = rw c.as_slice.ensures at (c.update.ensures text t.digest);
    }

pub returns-else-len-lt10 : goal.returns-else-len-lt10
returns-else-len-lt10 c = λ text t.
    let other = other_byte c.args.byte c.if-byte-eq10.false in
    record {
      counts = t.counts ∙ sym (counts_of-byte text c.args.byte other);
      head = t.head ∙ sym (ap (take 10) (open_line-byte text c.args.byte other) ∙ take_push-full 10 (open_line text) c.args.byte (rw (sym t.head) (omega (arith, c.len.ensures.value, c.if-len-lt10.false))));
      digest = rw c.as_slice.ensures at (c.update.ensures text t.digest);
    }
