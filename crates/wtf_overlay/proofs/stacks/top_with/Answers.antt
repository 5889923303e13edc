use Rattle.std.proofs.Common.{◌-◌, ap, ◌∙◌, arith, refl}
use Rattle.std.specs.Rc.{rc_slice_items}
use Rattle.wtf_overlay.specs.Origin.{origin_from}
use Rattle.wtf_overlay.proofs.Stacking.{shown_next, run_read, edges_read}
use Rattle.wtf_overlay.proofs.stacks.top_with.Goals as goal

pub merge-requires-clause-older : goal.merge-requires-clause-older
merge-requires-clause-older c =
    rw c.as_slice-in-loop-n.ensures.value
    (run_read c.args.runs.now (c.loop-n.n - 1) c.index-runs-n.result (omega arith) c.requires.runs c.index-runs-n.is)

pub loop-n-preserved : goal.loop-n-preserved
loop-n-preserved c =
    let i = c.loop-n.invariant in
    let rs = c.args.runs.now in
    let r = c.index-runs-n.result in
    let old = c.as_slice.ensures.value in
    let next = c.as_slice-in-loop-n.ensures.value in
    record {
      within = omega arith;
      run = c.in_ok-run.ensures.run;
      shows = λ b y.
          let below = origin_from b (rc_slice_items r) y in
          c.in_ok-run.ensures.shows b y
          ∙ ap (λ es. origin_from (origin_from b es y) c.as_slice.result.now y) next
          ∙ ap (λ es. origin_from below es y) old ∙ i.shows below y
          ∙ ap (λ under. origin_from under c.args.newest.items y) (shown_next rs c.loop-n.n r (rc_slice_items r) b y (omega arith) (omega arith) c.index-runs-n.is refl);
      edges = λ p own edges. c.in_ok-run.ensures.edges p (rw old (i.edges p own edges))
          (rw next (edges_read p rs (c.loop-n.n - 1) r (omega arith) edges c.index-runs-n.is));
    }
