use Rattle.std.proofs.Common.{◌≡◌, ◌+◌, ◌-◌, ◌<◌, ℕ, Bool, List, [], ◌∷◌, ◌++◌, append_assoc, length, get_or, drop, arith, sym, ap, ◌∙◌, subst}
use Rattle.std.proofs.lemmas.List.{drop_more, drop_all}
use Rattle.wtf_overlay.specs.declared.part.Piece.{Piece}
use Rattle.wtf_overlay.specs.Origin.{part_origin, pieces_len, pieces_origin}
use Rattle.wtf_replica.specs.Downs.{is_down}
use Rattle.wtf_replica.specs.Bytes.{byte_at}
use Rattle.wtf_region.specs.Devs.{stores, is_down_in}
use Rattle.wtf_region.specs.Showing.{IsReadablePart, IsUpPart, ShownBoth, pieces_in}
use Rattle.wtf_region.proofs.Spans.{goes_on}
use Rattle.wtf_region.proofs.ShowLaws.{Walk, Passed, readable_stays, reads_over, walk_part, walk_here, passed_part, shown_more, both_since, show_fault_in}
use Rattle.wtf_region.proofs.fetching.show_all.Goals as goal

pub show_part-requires-clause-readable : goal.show_part-requires-clause-readable
show_part-requires-clause-readable g c =
    let kind = g.S.SliceStore.kind in
    let p = c.piece-item.result in
    readable_stays g.met.S.SliceStore.laws c.loop-piece.invariant.each p.part
    (subst (λ (q : Piece). IsReadablePart kind c.args.dev.now q.part) (sym c.piece-item.is)
    (c.requires.readable c.loop-piece.piece-index p c.loop-piece-test.true))

-- the pieces that are left begin with this one
here : (ps : List Piece) (k : ℕ) (p : Piece) → k < length ps → p ≡ get_or ps k p → drop k ps ≡ p ∷ drop (k + 1) ps
here ps k p below is = drop_more ps k p below ∙ ap (λ (q : Piece). q ∷ drop (k + 1) ps) (sym is)

pub returns-in-Err-clause-fault : goal.returns-in-Err-clause-fault
returns-in-Err-clause-fault g c =
    let ps = c.args.pieces.now in
    let k = c.loop-piece.piece-index in
    let p = c.piece-item.result in
    let skip = c.loop-piece.skip in
    let left = c.loop-piece.left in
    let old = c.args.dev.now in
    let all = pieces_in c.args.off c.args.len ps in
    show_fault_in g.S.SliceStore.kind g.met.S.SliceStore.laws old c.loop-piece.dev c.show_part.new.dev all p (drop (k + 1) ps) skip left c.min-n.result
    c.if-left-eq0.false (omega (arith, c.if-skip-piece.false)) c.min-n.ensures c.loop-piece.invariant.each
    (subst (λ (l : List Piece). Passed (is_down_in old) all (pieces_in skip left l)) (here ps k p c.loop-piece-test.true c.piece-item.is)
    c.loop-piece.invariant.passed)
    c.in-Err.why c.in-Err.ensures.fault

pub returns-in-Err-clause-appends : goal.returns-in-Err-clause-appends
returns-in-Err-clause-appends g c =
    let was = c.loop-piece.invariant in
    let shown = was.shown.shown in
    let now = c.show_part.ensures.appends in
    record {
      begins = (
        shown.bytes ++ now.begins.0,
        now.begins.1 ∙ ap (λ (l : List ℕ). l ++ now.begins.0) shown.more ∙ append_assoc c.args.out.now.items shown.bytes now.begins.0,
      );
      reads = reads_over g.S.SliceStore.kind c.args.dev.now c.loop-piece.dev c.show_part.new.dev was.each was.reads now.reads;
      lists = now.lists ∙ was.lists;
    }

pub returns-in-Err-clause-dev : goal.returns-in-Err-clause-dev
returns-in-Err-clause-dev g c = goes_on g.met.S.SliceStore.laws c.loop-piece.invariant.each c.in-Err.ensures.dev

pub loop-piece-preserved : goal.loop-piece-preserved
loop-piece-preserved g c =
    let kind = g.S.SliceStore.kind in
    let laws = g.met.S.SliceStore.laws in
    let ps = c.args.pieces.now in
    let off = c.args.off in
    let len = c.args.len in
    let k = c.loop-piece.piece-index in
    let p = c.piece-item.result in
    let rest = drop (k + 1) ps in
    let skip = c.loop-piece.skip in
    let left = c.loop-piece.left in
    let n = c.min-n.result in
    let old = c.args.dev.now in
    let mid = c.loop-piece.dev in
    let new = c.show_part.new.dev in
    let was = c.loop-piece.invariant in
    let now = c.in_default.ensures in
    let at = here ps k p c.loop-piece-test.true c.piece-item.is in
    let before : skip < p.len = omega (arith, c.if-skip-piece.false) in
    let all = pieces_in off len ps in
    let walk : Walk ps off len (p ∷ rest) skip left = subst (λ (l : List Piece). Walk ps off len l skip left) at was.walk in
    record {
      walk = walk_part ps off len p rest skip left n walk before c.min-n.ensures;
      passed = passed_part (is_down_in old) all p rest skip left n c.if-left-eq0.false before c.min-n.ensures
          (subst (λ (l : List Piece). Passed (is_down_in old) all (pieces_in skip left l)) at was.passed)
          (subst (λ (down : ℕ → Bool). IsUpPart down p.part) (ap (λ r. is_down r.now) was.each.replicas) now.up);
      shown = shown_more (is_down_in old) (byte_at kind (stores old)) (len - left) n (len - (left - n)) (λ i. pieces_origin ps (off + i))
          (λ i. part_origin p.part (skip + i))
          c.args.out.now.items c.loop-piece.out.items c.show_part.new.out.items (omega (arith, walk.within, c.min-n.ensures)) was.shown
          (both_since laws was.each.each (is_down_in old) n (λ i. part_origin p.part (skip + i)) c.loop-piece.out.items c.show_part.new.out.items
          (subst (λ (down : ℕ → Bool). ShownBoth down (byte_at kind (stores mid)) n (λ i. part_origin p.part (skip + i)) c.loop-piece.out.items
          c.show_part.new.out.items) (ap (λ r. is_down r.now) was.each.replicas) now.shown))
          (λ i h. walk_here ps off len p rest skip left n i walk before c.min-n.ensures h);
      reads = reads_over kind old mid new was.each was.reads now.appends.reads;
      lists = now.appends.lists ∙ was.lists;
      each = goes_on laws was.each now.dev;
    }

pub returns-clause-shown : goal.returns-clause-shown
returns-clause-shown g c =
    let ps = c.args.pieces.now in
    let none : drop c.loop-piece.piece-index ps ≡ [] = drop_all c.loop-piece.piece-index ps (omega (arith, c.loop-piece-test.false)) in
    let nothing : c.args.len - c.loop-piece.left ≡ c.args.len = omega (arith, c.loop-piece.invariant.walk.short, ap pieces_len none) in
    subst (λ (n : ℕ). ShownBoth (is_down_in c.args.dev.now) (byte_at g.S.SliceStore.kind (stores c.args.dev.now)) n (λ i. pieces_origin ps (c.args.off + i))
    c.args.out.now.items c.loop-piece.out.items) nothing c.loop-piece.invariant.shown
