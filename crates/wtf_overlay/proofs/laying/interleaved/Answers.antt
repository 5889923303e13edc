use Rattle.std.proofs.Common.{◌≡◌, ◌+◌, ◌<◌, ◌≤◌, ◌∷◌, ap, refl, ◌∙◌, arith, rules, inl, inr}
use Rattle.wtf_overlay.proofs.Edging.{EdgesIn-push}
use Rattle.wtf_overlay.specs.Runs.{laid_over}
use Rattle.wtf_overlay.proofs.Building.{nothing, Built-push, same_rest}
use Rattle.wtf_overlay.proofs.Merging.{both_before, both_within, both_past, both_shown}
use Rattle.wtf_overlay.proofs.laying.interleaved.Goals as goal

pub loop-e-preserved : goal.loop-e-preserved
loop-e-preserved c =
    let e = c.in-Some.e.now in
    let i = c.loop-e.invariant in
    let newer = c.args.newer.now in
    let older = c.args.older.now in
    let is : c.loop-e.over.now ≡ e ∷ c.in-Some.after.now = search rules in
    let over = rw is at i.over in
    let same = rw is at i.same_over in
    let laid = c.in_ok-rest.ensures.built (laid_over newer older) i.built (both_before _ c.loop-e.x newer older c.loop-e.rest.now c.in-Some.after.now e over same i.same_rest) in
    let later : e.off ≤ c.end-x.result = omega arith in
    record {
      over = rw c.end-x.ensures over.1;
      run = c.in_ok-rest.ensures.rest;
      same_over = same_rest newer c.in-Some.after.now e c.loop-e.x c.end-x.result (omega (arith, over.0)) (omega arith) same;
      same_rest = λ b y l. i.same_rest b y (omega (arith, over.0)) ∙ c.in_ok-rest.ensures.same b y (omega arith);
      built = rw c.in_ok-push.ensures.items (Built-push c.lay_part.new.out.items e e.off c.end-x.result (laid_over newer older) laid refl (omega arith)
          (λ b y l k. both_within _ c.loop-e.x newer older c.in-Some.after.now e over same b y l (omega arith)));
      edges = λ p new old.
          let k = i.edges p new old in
          let next = rw is at k.1 in
          let fits : e.off + e.len < 4294967296 = e.fits in
          let m = c.in_ok-rest.ensures.edges p k.3 (inl next.0) k.0 k.2 in
          rw c.in_ok-push.ensures.items (EdgesIn-push p c.lay_part.new.out.items e m.0 next.0 next.1, next.2, m.1, inl (ap p c.end-x.ensures ∙ next.1));
    }

pub returns-clause-run : goal.returns-clause-run
returns-clause-run c =
    let i = c.loop-e.invariant in
    let newer = c.args.newer.now in
    let older = c.args.older.now in
    let is = nothing c.loop-e.over.now c.in_default.ensures.cases in
    let laid = c.in_ok-_last.ensures.built (laid_over newer older) i.built (both_past c.loop-e.x _ newer older c.loop-e.rest.now (rw is at i.same_over) i.same_rest) in
    laid.run

pub returns-clause-shows : goal.returns-clause-shows
returns-clause-shows c =
    let i = c.loop-e.invariant in
    let newer = c.args.newer.now in
    let older = c.args.older.now in
    let is = nothing c.loop-e.over.now c.in_default.ensures.cases in
    both_shown _ newer older c.lay_part-2.new.out.items c.requires.newer c.requires.older
    (c.in_ok-_last.ensures.built (laid_over newer older) i.built (both_past c.loop-e.x _ newer older c.loop-e.rest.now (rw is at i.same_over) i.same_rest))

pub returns-clause-edges : goal.returns-clause-edges
returns-clause-edges c = λ p new old.
    let k = c.loop-e.invariant.edges p new old in
    (c.in_ok-_last.ensures.edges p k.3 (inr (omega arith)) k.0 k.2).0
