use Rattle.std.proofs.Common.{[], ◌∷◌, ap, sym, ◌∙◌}
use Rattle.wtf_overlay.specs.Origin.{origin_from}
use Rattle.wtf_overlay.proofs.Building.{nothing}
use Rattle.wtf_overlay.proofs.Tailing.{tail_next, over_missed, EdgesIn-split}
use Rattle.wtf_overlay.proofs.tails.laid_under.Goals as goal

pub loop-e-preserved-in_ok-run : goal.loop-e-preserved-in_ok-run
loop-e-preserved-in_ok-run c =
    let e = c.in-Some.e.now in
    let before = c.in-Some.before.now in
    let i = c.loop-e.invariant in
    let is = c.in-Some.ensures.cases.0 in
    record {
      run = c.in_ok-run.ensures.run;
      same = λ b y l k.
          i.same b y l k ∙ tail_next c.loop-e.rest.now before c.loop-e.run.items e b y is
          ∙ sym (c.in_ok-run.ensures.shows (origin_from b before y) y);
      edges = λ p own edges.
          let k = i.edges p own edges in
          let s = EdgesIn-split p before (e ∷ []) (rw is at k.0) in
          (s.0, c.in_ok-run.ensures.edges p k.1 s.1);
    }

pub loop-e-preserved : goal.loop-e-preserved
loop-e-preserved c =
    let e = c.in-Some.e.now in
    let before = c.in-Some.before.now in
    let run = c.loop-e.run.items in
    let i = c.loop-e.invariant in
    let is = c.in-Some.ensures.cases.0 in
    record {
      run = i.run;
      same = λ b y l k. i.same b y l k ∙ tail_next c.loop-e.rest.now before run e b y is
          ∙ ap (λ below. origin_from below run y) (over_missed c.args.from c.args.to e y (origin_from b before y) c.if-meets.ensures l k);
      edges = λ p own edges. let k = i.edges p own edges in ((EdgesIn-split p before (e ∷ []) (rw is at k.0)).0, k.1);
    }

pub returns-clause-same : goal.returns-clause-same
returns-clause-same c = λ b y l k.
    c.loop-e.invariant.same b y l k
    ∙ ap (λ es. origin_from (origin_from b es y) c.loop-e.run.items y) (nothing c.loop-e.rest.now c.in_default.ensures.cases)

pub returns-clause-edges : goal.returns-clause-edges
returns-clause-edges c = λ p own edges. (c.loop-e.invariant.edges p own edges).1
