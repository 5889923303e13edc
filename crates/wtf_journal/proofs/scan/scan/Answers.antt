use Rattle.std.proofs.Common.{◌≡◌, ◌∙◌, ◌∷◌, ℕ, List, Bool, true, false, drop, sym, subst, rules}
use Rattle.std.specs.Prelude.{Option, None, Some, if◌then◌else◌}
use Rattle.std.proofs.lemmas.List.{take_rest}
use Rattle.wtf_journal.proofs.Scans.{SoFar, so_far_more}
use Rattle.wtf_journal.proofs.scan.scan.Goals as goal

made_where : {M : Type 0} (fits : Bool) (o : Option M) (x : M) → o ≡ (if fits then Some x else None) → fits ≡ true → o ≡ Some x
made_where true o x is holds = is
made_where false o x is holds = absurd (cc holds)

pub loop-rest-preserved : goal.loop-rest-preserved
loop-rest-preserved g c =
    let is : c.loop-rest.rest.now ≡ 1 ∷ drop 1 c.loop-rest.rest.now = search rules in
    so_far_more g.M.Meaning.makes c.args.meaning.now c.args.bytes.now c.loop-rest.meaning c.take.new.self c.in-Some.body.now
    (drop 1 c.loop-rest.rest.now) c.in-Some.after.now
    (subst (λ (l : List ℕ). SoFar g.M.Meaning.makes c.args.meaning.now c.args.bytes.now c.loop-rest.meaning l) is c.loop-rest.invariant)
    (sym (take_rest c.loop-rest.rest.now 1) ∙ c.in-Some.ensures.0) c.in-Some.ensures.1.0 c.in-Some.ensures.1.1
    (made_where c.in_ok-fits.fits _ _ c.in_ok-fits.ensures c.if-not-fits.false)
