use Rattle.std.proofs.Common.{◌≡◌, ◌+◌, ◌<◌, ◌∷◌, ap, ◌∙◌, arith, inl, inr, rules, true}
use Rattle.wtf_overlay.proofs.Edging.{edge_piece}
use Rattle.wtf_overlay.proofs.Building.{nothing, lay_gap, lay_piece, lay_rest, run_rest, same_rest}
use Rattle.wtf_overlay.proofs.laying.lay_part.Goals as goal
use Rattle.wtf_overlay.proofs.laying.lay_part.Goals.{then-begin-to+in_ok-push, else-begin-to}

pub returns-then-to-start-clause-built : goal.returns-then-to-start-clause-built
returns-then-to-start-clause-built c = λ f built tells.
    let e = c.in-Some.e.now in
    let i = c.loop-e.invariant in
    let is : c.loop-e.rest.now ≡ e ∷ c.in-Some.after.now = search rules in
    lay_gap _ c.loop-e.out.items c.args.run.now _ e c.args.from c.loop-e.x c.args.to f i.begun i.within c.if-to-start.true (rw is at i.run) (rw is at i.same) tells (i.built f built tells)

pub returns-then-to-stop-clause-built : goal.returns-then-to-stop-clause-built
returns-then-to-stop-clause-built c = λ f built tells.
    let e = c.in-Some.e.now in
    let i = c.loop-e.invariant in
    let is : c.loop-e.rest.now ≡ e ∷ c.in-Some.after.now = search rules in
    elim c.if-begin-to.branch [
      | then-begin-to+in_ok-push w ↦ rw (w.out-is, w.in_ok-push.ensures.items)
          (lay_piece _ c.loop-e.out.items c.args.run.now _ e w.between.result c.args.from c.loop-e.x c.args.to c.args.to f
          i.begun (omega arith) (omega arith) (omega arith) w.between.ensures.end
          (let j : w.between.result.off ≡ c.max-begin.result = w.between.ensures.off in rw j w.between.ensures.origin)
          (rw is at i.run) (rw is at i.same) tells (i.built f built tells))
      | else-begin-to w ↦ rw w.out-is (let q : c.loop-e.x ≡ c.args.to = omega arith in rw q at (i.built f built tells))
    ]

pub returns-then-to-stop-clause-edges : goal.returns-then-to-stop-clause-edges
returns-then-to-stop-clause-edges c = λ p at upto old new.
    let e = c.in-Some.e.now in
    let is : c.loop-e.rest.now ≡ e ∷ c.in-Some.after.now = search rules in
    let k = c.loop-e.invariant.edges p at old new in
    let fits : e.off + e.len < 4294967296 = e.fits in
    let edge : p c.args.to ≡ true = elim upto [ inl h ↦ h | inr g ↦ absurd (omega arith) ] in
    elim c.if-begin-to.branch [
      | then-begin-to+in_ok-push w ↦ rw (w.out-is, w.in_ok-push.ensures.items) (
        edge_piece p c.loop-e.out.items c.in-Some.after.now e w.between.result c.loop-e.x c.args.to k.0 (rw is at k.1) k.2
            (omega arith) w.between.ensures.end edge,
        k.1,
      )
      | else-begin-to w ↦ rw w.out-is (k.0, k.1)
    ]

pub loop-e-preserved-in_ok-push-2 : goal.loop-e-preserved-in_ok-push-2
loop-e-preserved-in_ok-push-2 c =
    let e = c.in-Some.e.now in
    let i = c.loop-e.invariant in
    let is : c.loop-e.rest.now ≡ e ∷ c.in-Some.after.now = search rules in
    let p = c.between-then-x-stop.result in
    record {
      begun = omega arith;
      within = omega arith;
      run = run_rest 0 _ e c.in-Some.after.now (rw is at i.run);
      same = same_rest c.args.run.now c.in-Some.after.now e c.loop-e.x c.end-stop.result (omega arith) (omega arith) (rw is at i.same);
      built = λ f built tells. rw c.in_ok-push-2.ensures.items
          (lay_piece _ c.loop-e.out.items c.args.run.now _ e p c.args.from c.loop-e.x c.end-stop.result c.args.to f
          i.begun (omega arith) (omega arith) (omega arith) c.between-then-x-stop.ensures.end
          (let j : p.off ≡ c.max.result = c.between-then-x-stop.ensures.off in rw j c.between-then-x-stop.ensures.origin)
          (rw is at i.run) (rw is at i.same) tells (i.built f built tells));
      edges = λ p at old new.
          let k = i.edges p at old new in
          let rest = rw is at k.1 in
          let stop : p c.end-stop.result ≡ true = ap p c.end-stop.ensures ∙ rest.1 in
          rw c.in_ok-push-2.ensures.items (
            edge_piece p c.loop-e.out.items c.in-Some.after.now e c.between-then-x-stop.result c.loop-e.x c.end-stop.result k.0 rest k.2
                (omega arith) c.between-then-x-stop.ensures.end stop,
            rest.2,
            inl stop,
          );
    }

pub loop-e-preserved : goal.loop-e-preserved
loop-e-preserved c =
    let e = c.in-Some.e.now in
    let i = c.loop-e.invariant in
    let is : c.loop-e.rest.now ≡ e ∷ c.in-Some.after.now = search rules in
    record {
      begun = omega arith;
      within = omega arith;
      run = run_rest 0 _ e c.in-Some.after.now (rw is at i.run);
      same = same_rest c.args.run.now c.in-Some.after.now e c.loop-e.x c.loop-e.x (omega arith) (omega arith) (rw is at i.same);
      built = i.built;
      edges = λ p at old new. let k = i.edges p at old new in let rest = rw is at k.1 in (k.0, rest.2, k.2);
    }

pub returns-clause-built : goal.returns-clause-built
returns-clause-built c = λ f built tells.
    let i = c.loop-e.invariant in
    let is = nothing c.loop-e.rest.now c.in_default.ensures.cases in
    lay_rest c.loop-e.out.items c.args.run.now c.args.from c.loop-e.x c.args.to f i.begun i.within (rw is at i.same) tells (i.built f built tells)

pub returns-then-to-start-clause-edges : goal.returns-then-to-start-clause-edges
returns-then-to-start-clause-edges c = λ p at upto old new. let k = c.loop-e.invariant.edges p at old new in (k.0, k.1)

pub returns-clause-edges : goal.returns-clause-edges
returns-clause-edges c = λ p at upto old new. let k = c.loop-e.invariant.edges p at old new in (k.0, k.1)
