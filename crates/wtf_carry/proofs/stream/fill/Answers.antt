use Rattle.std.proofs.Common.{◌≡◌, ◌+◌, ◌<◌, ℕ, List, Some, length, ap, ◌∙◌, arith, sym, subst, drop, ◌++◌}
use Rattle.wtf_carry.specs.Streams.{Filled}
use Rattle.wtf_carry.proofs.FillLaws.{Filling, filling-more, filling-end}
use Rattle.wtf_carry.proofs.stream.fill.Goals as goal

pub returns-in-Ok-eq0-clause-told : goal.returns-in-Ok-eq0-clause-told
returns-in-Ok-eq0-clause-told g c = λ rest from.
    let n = c.loop-n.n in
    let piece = c.loop-n.piece in
    let out = c.read.new.out in
    let so = c.loop-n.invariant.told rest from in
    let gives = c.in-Ok-eq0.ensures.told (drop n rest) so.left_is in
    let zero : c.in-Ok-eq0.field-0 ≡ 0 = c.in-Ok-eq0.field-0-test in
    let room : 0 < length c.split_at_mut-room.result.1.now = omega (arith, c.split_at_mut-room.ensures.back_len) in
    let P : List ℕ → Type 0 = λ front. Filled n (length c.args.piece.now) (front ++ out) rest (g.I.Source.view c.read.new.self).rest in
    subst P (sym c.split_at_mut-room.ensures.front)
    (filling-end n (length c.args.piece.now) piece out rest (g.I.Source.view c.loop-n.from).rest (g.I.Source.view c.read.new.self).rest
    c.loop-n.invariant.within (omega arith) so (gives.3 zero room) (gives.2 ∙ ap (λ (k : ℕ). Some (drop k (drop n rest))) zero))

pub loop-n-preserved : goal.loop-n-preserved
loop-n-preserved g c = record {
  within = omega (arith, c.in-Ok.ensures.count);
  counted = omega (arith, c.loop-n.invariant.counted, c.in-Ok.ensures.faults);
  told = λ rest from.
      let n = c.loop-n.n in
      let piece = c.loop-n.piece in
      let out = c.read.new.out in
      let so = c.loop-n.invariant.told rest from in
      let gives = c.in-Ok.ensures.told (drop n rest) so.left_is in
      let P : List ℕ → Type 0 = λ front. Filling (n + c.in-Ok.more) (front ++ out) rest (g.I.Source.view c.read.new.self).rest in
      subst P (sym c.split_at_mut-room.ensures.front)
      (filling-more n c.in-Ok.more piece out rest (g.I.Source.view c.loop-n.from).rest (g.I.Source.view c.read.new.self).rest
      c.loop-n.invariant.within so gives.0 gives.1 gives.2);
}
