use Rattle.std.proofs.Common.{◌≡◌, ◌<◌, ◌≤◌, ◌++◌, length, get_or, refl, sym, ap, ◌∙◌, arith}
use Rattle.std.specs.List.{flat_map}
use Rattle.std.specs.Rc.{rc_slice_items}
use Rattle.std.proofs.lemmas.Option.{slice_get_read}
use Rattle.wtf_chunks.proofs.Joined.{rest_from, rest_from-end, get_or-here, get_or-past, inside-past}
use Rattle.wtf_chunks.proofs.chunks.Chunks.get.Goals as goal

pub loop-chunk-init : goal.loop-chunk-init
loop-chunk-init g c =
    let ys = c.self.inside.last.items in
    let all : rest_from rc_slice_items 0 c.deref-chunk-items.result.now ys ≡ c.args.self.now =
    ap (λ l. flat_map rc_slice_items l ++ ys) c.deref-chunk-items.ensures.value ∙ c.self.view_is in
    record {
      inside = omega (arith, ap length all, c.requires);
      is = λ d. ap (λ l. get_or l c.args.i d) all;
    }

pub returns-then-at-items : goal.returns-then-at-items
returns-then-at-items g c =
    let r = c.index-items-at.result in
    let x = c.chunk-item.result in
    let own : c.as_slice-items.result.now ≡ rc_slice_items x = c.as_slice-items.ensures.value in
    let inside : c.loop-chunk.at < length (rc_slice_items x) = omega (arith, ap length own, c.if-at-items.true) in
    slice_get_read _ _ c.args.i r refl c.requires (c.index-items-at.is
    ∙ ap (λ l. get_or l c.loop-chunk.at r) own
    ∙ sym (get_or-here rc_slice_items c.deref-chunk-items.result.now c.self.inside.last.items c.loop-chunk.chunk-index c.loop-chunk.at x r c.loop-chunk-test.true c.chunk-item.is inside)
    ∙ c.loop-chunk.invariant.is r)

pub loop-chunk-preserved : goal.loop-chunk-preserved
loop-chunk-preserved g c =
    let xs = c.deref-chunk-items.result.now in
    let ys = c.self.inside.last.items in
    let k = c.loop-chunk.chunk-index in
    let at = c.loop-chunk.at in
    let x = c.chunk-item.result in
    let own : length c.as_slice-items.result.now ≡ length (rc_slice_items x) = c.as_slice-items.ensures.len in
    let past : length (rc_slice_items x) ≤ at = omega (arith, own, c.if-at-items.false) in
    rw own (record {
      inside = inside-past rc_slice_items xs ys k at x c.loop-chunk-test.true c.chunk-item.is past c.loop-chunk.invariant.inside;
      is = λ d. sym (get_or-past rc_slice_items xs ys k at x d c.loop-chunk-test.true c.chunk-item.is past) ∙ c.loop-chunk.invariant.is d;
    })

pub index-requires : goal.index-requires
index-requires g c =
    let all = rest_from-end rc_slice_items c.deref-chunk-items.result.now c.self.inside.last.items c.loop-chunk.chunk-index c.loop-chunk-test.false in
    omega (arith, ap length all, c.loop-chunk.invariant.inside, c.self.inside.last.ok)

pub returns : goal.returns
returns g c =
    let r = c.index.result.now in
    let all = rest_from-end rc_slice_items c.deref-chunk-items.result.now c.self.inside.last.items c.loop-chunk.chunk-index c.loop-chunk-test.false in
    slice_get_read _ _ c.args.i r refl c.requires (c.index.ensures
    ∙ ap (λ l. get_or l c.loop-chunk.at r) (sym all)
    ∙ c.loop-chunk.invariant.is r)
