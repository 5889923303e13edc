use Rattle.std.proofs.Common.{◌≡◌, ◌≤◌, ◌++◌, ℕ, List, [], take, drop, length, sym, ap, subst, arith, length-take}
use Rattle.std.proofs.lemmas.Bool.{iff_false}
use Rattle.std.proofs.lemmas.Result.{err_from_is_err_and}
use Rattle.wtf_checker.proofs.Taking.{
  Came,
  came_none,
  came_more,
  came_failed,
  size_more,
  taken_ok,
  taken_failed,
  taken_much,
  taken_short,
  ended_so,
  nothing_more,
  pushed_chunk,
}
use Rattle.wtf_checker.proofs.output.read_all.Goals as goal

pub returns-in_err-chunk-clause-taken : goal.returns-in_err-chunk-clause-taken
returns-in_err-chunk-clause-taken g c =
    let p = err_from_is_err_and c.from_residual.result c.from_residual.ensures.1 in
    rw (p.1, p.2) (taken_short (g.T.Source.view c.args.source.now) (g.T.Source.view c.args.source.now) [] (came_none (g.T.Source.view c.args.source.now))
    (omega arith))

pub returns-in_default-clause-taken : goal.returns-in_default-clause-taken
returns-in_default-clause-taken g c =
    let i = c.loop-n.invariant in
    let e = c.in_default.ensures in
    taken_failed (g.T.Source.view c.args.source.now) (g.T.Source.view c.loop-n.source) (g.T.Source.view c.read.new.self) c.loop-n.all.items i.came
    (came_failed (g.T.Source.view c.args.source.now) (g.T.Source.view c.loop-n.source) (g.T.Source.view c.read.new.self) c.loop-n.all.items i.came
    (λ all h. e.told all h) e.given e.faults) i.limit e.cause

pub returns-then-n-eq0-clause-taken : goal.returns-then-n-eq0-clause-taken
returns-then-n-eq0-clause-taken g c =
    let i = c.loop-n.invariant in
    let e = c.in-Ok.ensures in
    taken_ok (g.T.Source.view c.args.source.now) (g.T.Source.view c.read.new.self) c.loop-n.all.items c.loop-n.all
    (nothing_more (g.T.Source.view c.args.source.now) (g.T.Source.view c.loop-n.source) (g.T.Source.view c.read.new.self) c.loop-n.all.items c.read.new.out
    c.in-Ok.n _ i.came (omega (arith, e.count, c.read.auto.out)) e.told e.given e.faults c.if-n-eq0.true) i.limit

pub returns-then-n-eq0-clause-told : goal.returns-then-n-eq0-clause-told
returns-then-n-eq0-clause-told g c =
    let i = c.loop-n.invariant in
    let e = c.in-Ok.ensures in
    ended_so (g.T.Source.view c.args.source.now) (g.T.Source.view c.loop-n.source) (g.T.Source.view c.read.new.self) c.loop-n.all.items c.read.new.out c.in-Ok.n
    _ i.came e.told c.if-n-eq0.true (omega (arith, c.deref_mut.ensures.len, i.room))

pub returns-then-is_too_much-clause-taken : goal.returns-then-is_too_much-clause-taken
returns-then-is_too_much-clause-taken g c =
    let i = c.loop-n.invariant in
    let e = c.in-Ok.ensures in
    let fits : c.in-Ok.n ≤ length c.read.new.out = omega (arith, e.count, c.read.auto.out) in
    taken_much (g.T.Source.view c.args.source.now) (g.T.Source.view c.read.new.self) (c.loop-n.all.items ++ take c.in-Ok.n c.read.new.out)
    (came_more (g.T.Source.view c.args.source.now) (g.T.Source.view c.loop-n.source) (g.T.Source.view c.read.new.self) c.loop-n.all.items c.read.new.out
    c.in-Ok.n _ i.came fits e.told e.given e.faults)
    (omega (arith, size_more c.loop-n.all.items c.read.new.out c.in-Ok.n fits, c.is_too_much.ensures.0 c.if-is_too_much.true, c.len.ensures))

pub loop-n-init : goal.loop-n-init
loop-n-init g c = record {
  limit = omega (arith, ap (λ (l : List ℕ). length l) c.new-all.ensures.items);
  room = c.in_ok-chunk.ensures.len;
  came = subst (λ (l : List ℕ). Came (g.T.Source.view c.args.source.now) (g.T.Source.view c.args.source.now) l) (sym c.new-all.ensures.items)
      (came_none (g.T.Source.view c.args.source.now));
}

pub returns-in_err-chunk-clause-told : goal.returns-in_err-chunk-clause-told
returns-in_err-chunk-clause-told g c =
    let p = err_from_is_err_and c.from_residual.result c.from_residual.ensures.1 in
    rw (p.1) (tt)

pub is_too_much-requires-clause-have : goal.is_too_much-requires-clause-have
is_too_much-requires-clause-have g c = omega (arith, c.len.ensures, c.loop-n.invariant.limit)

pub is_too_much-requires-clause-more : goal.is_too_much-requires-clause-more
is_too_much-requires-clause-more g c = omega (arith, c.in-Ok.ensures.count, c.deref_mut.ensures.len, c.loop-n.invariant.room)

pub slice_bounds-push_all-end : goal.slice_bounds-push_all-end
slice_bounds-push_all-end g c = omega (arith, length-take c.in-Ok.n c.deref.result.now, c.deref.ensures.len, c.in-Ok.ensures.count, c.deref_mut.ensures.len)

pub loop-n-smaller : goal.loop-n-smaller
loop-n-smaller g c =
    let fits : c.in-Ok.n ≤ length c.read.new.out = omega (arith, c.in-Ok.ensures.count, c.read.auto.out) in
    let pushed : c.push_all.new.all.items ≡ c.loop-n.all.items ++ take c.in-Ok.n c.read.new.out =
    pushed_chunk c.push_all.new.all.items c.loop-n.all.items c.deref.result.now c.read.new.out (drop (length c.read.new.out) c.loop-n.chunk.items) c.in-Ok.n
    c.loop-n.chunk.len
    c.in-Ok-push_all.ensures c.deref.ensures.value fits (omega (arith, c.read.auto.out, c.deref_mut.ensures.len)) in
    omega (
      arith,
      ap (λ (l : List ℕ). length l) pushed,
      size_more c.loop-n.all.items c.read.new.out c.in-Ok.n fits,
      iff_false c.is_too_much.ensures c.if-is_too_much.false,
      c.if-n-eq0.false,
      c.len.ensures,
    )

pub loop-n-preserved : goal.loop-n-preserved
loop-n-preserved g c =
    let i = c.loop-n.invariant in
    let e = c.in-Ok.ensures in
    let fits : c.in-Ok.n ≤ length c.read.new.out = omega (arith, e.count, c.read.auto.out) in
    let pushed : c.push_all.new.all.items ≡ c.loop-n.all.items ++ take c.in-Ok.n c.read.new.out =
    pushed_chunk c.push_all.new.all.items c.loop-n.all.items c.deref.result.now c.read.new.out (drop (length c.read.new.out) c.loop-n.chunk.items) c.in-Ok.n
    c.loop-n.chunk.len
    c.in-Ok-push_all.ensures c.deref.ensures.value fits (omega (arith, c.read.auto.out, c.deref_mut.ensures.len)) in
    record {
      limit = omega (
        arith,
        ap (λ (l : List ℕ). length l) pushed,
        size_more c.loop-n.all.items c.read.new.out c.in-Ok.n fits,
        iff_false c.is_too_much.ensures c.if-is_too_much.false,
        c.len.ensures,
      );
      room = i.room;
      came = subst (λ (l : List ℕ). Came (g.T.Source.view c.args.source.now) (g.T.Source.view c.read.new.self) l) (sym pushed)
          (came_more (g.T.Source.view c.args.source.now) (g.T.Source.view c.loop-n.source) (g.T.Source.view c.read.new.self) c.loop-n.all.items c.read.new.out
          c.in-Ok.n _ i.came fits e.told e.given e.faults);
    }

pub returns-in_default-push_all-clause-taken : goal.returns-in_default-push_all-clause-taken
returns-in_default-push_all-clause-taken g c =
    let i = c.loop-n.invariant in
    let e = c.in-Ok.ensures in
    let fits : c.in-Ok.n ≤ length c.read.new.out = omega (arith, e.count, c.read.auto.out) in
    taken_short (g.T.Source.view c.args.source.now) (g.T.Source.view c.read.new.self) (c.loop-n.all.items ++ take c.in-Ok.n c.read.new.out)
    (came_more (g.T.Source.view c.args.source.now) (g.T.Source.view c.loop-n.source) (g.T.Source.view c.read.new.self) c.loop-n.all.items c.read.new.out
    c.in-Ok.n _ i.came fits e.told e.given e.faults)
    (omega (arith, size_more c.loop-n.all.items c.read.new.out c.in-Ok.n fits, iff_false c.is_too_much.ensures c.if-is_too_much.false, c.len.ensures))
