use Rattle.std.proofs.Common.{[], ◌∷◌, ◌++◌, take, Some, refl, sym, ap, ◌∙◌, subst}
use Rattle.std.proofs.lemmas.List.Elements.{All-get_or}
use Rattle.wtf_base.specs.declared.settings.Settings.{Settings}
use Rattle.wtf_replica.specs.Inside.{size_in}
use Rattle.wtf_replica.proofs.Spans.{same_lengths_on, same_syncs_on}
use Rattle.wtf_region.specs.Devs.{GoesOn, stores}
use Rattle.wtf_region.proofs.Spans.{goes_nowhere, goes_on}
use Rattle.wtf_gc.specs.declared.extent.Extent.{Extent}
use Rattle.wtf_gc.specs.Frees.{AreZeroed, LiesOn, range_of, ranges_of}
use Rattle.wtf_gc.proofs.Freeing.{lies_later, next_range, ranges_more, first_ranges}
use Rattle.wtf_gc.proofs.Ranges.{all_ranges}
use Rattle.wtf_gc.proofs.Zeroing.{zeroed_none, zeroed_more, left_on}
use Rattle.wtf_gc.proofs.punching.free_each.Goals as goal

pub loop-done-init : goal.loop-done-init
loop-done-init g c = record {
  goes_on = goes_nowhere g.met.S.SliceStore.laws c.args.dev.now c.requires.sound;
  are_zeroed = zeroed_none g.S.SliceStore.kind c.args.dev.now c.args.dev.now;
  left_down = λ k d low. refl;
  same_lists = refl;
  same_lengths = λ k d below f. refl;
  same_syncs = λ k d below. refl;
}

pub free-requires-clause-inside : goal.free-requires-clause-inside
free-requires-clause-inside g c =
    let kind = g.S.SliceStore.kind in
    let old = stores c.args.dev.now in
    let servers = c.args.dev.now.settings.servers in
    let es = c.args.extents.now in
    let e : Extent = c.index-extents-done.result in
    let inv = c.loop-done.invariant in
    subst (λ (st : Settings). LiesOn (size_in kind (stores c.loop-done.dev)) st.servers (range_of e)) (sym inv.goes_on.settings)
    (lies_later kind old (stores c.loop-done.dev) servers (range_of e) c.requires.sound.shelf inv.goes_on.each.same_length inv.same_lengths
    (subst (λ (x : Extent). LiesOn (size_in kind old) servers (range_of x)) (sym c.index-extents-done.is)
    (All-get_or (λ (x : Extent). LiesOn (size_in kind old) servers (range_of x)) es c.loop-done.done e c.loop-done-test.true
    (all_ranges (LiesOn (size_in kind old) servers) es c.requires.inside))))

pub returns-in-Err-clause-err : goal.returns-in-Err-clause-err
returns-in-Err-clause-err g c =
    let es = c.args.extents.now in
    let e : Extent = c.index-extents-done.result in
    record {
      mid = c.loop-done.dev;
      tried = range_of e;
      is = next_range es c.loop-done.done e c.loop-done-test.true ∙ ap (λ (x : Extent). Some (range_of x)) (sym c.index-extents-done.is);
      goes = subst (GoesOn g.S.SliceStore.kind c.args.dev.now c.loop-done.dev) (sym (first_ranges es c.loop-done.done)) c.loop-done.invariant.goes_on;
      zeroed = subst (AreZeroed g.S.SliceStore.kind c.args.dev.now c.loop-done.dev) (sym (first_ranges es c.loop-done.done)) c.loop-done.invariant.are_zeroed;
      last = c.in-Err.ensures.tried;
      cause = c.in-Err.ensures.fault;
    }

pub loop-done-preserved : goal.loop-done-preserved
loop-done-preserved g c =
    let kind = g.S.SliceStore.kind in
    let es = c.args.extents.now in
    let old = c.args.dev.now in
    let mid = c.loop-done.dev in
    let new = c.free.new.dev in
    let done = c.loop-done.done in
    let e : Extent = c.index-extents-done.result in
    let inv = c.loop-done.invariant in
    let same = inv.goes_on.each.same_length in
    let more = ap (λ (x : Extent). ranges_of (take done es) ++ range_of x ∷ []) c.index-extents-done.is ∙ ranges_more es done e c.loop-done-test.true in
    let laws = g.met.S.SliceStore.laws in
    record {
      are_zeroed = subst (AreZeroed kind old new) more
          (zeroed_more laws old mid new (ranges_of (take done es)) (range_of e) inv.goes_on c.in_default.ensures.ok inv.are_zeroed c.in_default.ensures.zeroed);
      left_down = left_on laws old mid new (range_of e) inv.goes_on inv.left_down c.free.ensures.down c.free.ensures.elsewhere;
      same_lists = c.free.ensures.lists ∙ inv.same_lists;
      goes_on = subst (GoesOn kind old new) more
          (goes_on g.met.S.SliceStore.laws inv.goes_on c.in_default.ensures.ok);
      same_lengths = same_lengths_on kind (stores old) (stores mid) (stores new) same inv.same_lengths c.free.ensures.lengths;
      same_syncs = same_syncs_on kind (stores old) (stores mid) (stores new) same inv.same_syncs c.free.ensures.syncs;
    }

pub returns-in-Err-clause-down : goal.returns-in-Err-clause-down
returns-in-Err-clause-down g c =
    left_on g.met.S.SliceStore.laws c.args.dev.now c.loop-done.dev c.free.new.dev (range_of c.index-extents-done.result) c.loop-done.invariant.goes_on
    c.loop-done.invariant.left_down c.free.ensures.down c.free.ensures.elsewhere
