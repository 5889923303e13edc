use Rattle.std.proofs.Common.{◌≡◌, ◌-◌, ap, sym, ◌∙◌, arith}
use Rattle.std.specs.Rc.{rc_slice_items}
use Rattle.wtf_overlay.specs.Origin.{origin_from}
use Rattle.wtf_overlay.proofs.Stacking.{shown_next, run_read, edges_read}
use Rattle.wtf_overlay.proofs.stacks.shown.Goals as goal

pub entries_within-part-requires : goal.entries_within-part-requires
entries_within-part-requires c = record {
  run = rw c.as_slice.ensures.value
      (run_read c.args.runs.now (c.loop-n.n - 1) c.index-runs-n.result (omega arith) c.requires.runs c.index-runs-n.is);
}

pub loop-n-preserved-then-not-is_empty : goal.loop-n-preserved-then-not-is_empty
loop-n-preserved-then-not-is_empty c =
    let i = c.loop-n.invariant in
    let r = c.index-runs-n.result in
    let part = c.entries_within-part.result.now in
    let found = c.entries_within-part.ensures in
    let run = c.as_slice.ensures.value in
    let all = c.as_slice-then-not-is_empty.ensures.value in
    record {
      within = omega arith;
      run = c.in_ok-all.ensures.run;
      shows = λ b y l k.
          let below = origin_from b part y in
          let same : origin_from b part y ≡ origin_from b (rc_slice_items r) y =
          sym (found.same b y l k) ∙ ap (λ es. origin_from b es y) run in
          c.in_ok-all.ensures.shows b y ∙ ap (λ es. origin_from below es y) all ∙ i.shows below y l k
          ∙ ap (λ under. origin_from under c.args.newest.items y) (shown_next c.args.runs.now c.loop-n.n r part b y (omega arith) (omega arith) c.index-runs-n.is same);
      edges = λ p own edges. c.in_ok-all.ensures.edges p (rw all (i.edges p own edges))
          (found.edges p (rw run (edges_read p c.args.runs.now (c.loop-n.n - 1) r (omega arith) edges c.index-runs-n.is)));
    }
