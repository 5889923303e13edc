use Rattle.std.proofs.Common.{◌≡◌, ◌++◌, [], ◌∷◌, arith, rules}
use Rattle.std.proofs.lemmas.Bool.{leb-true}
use Rattle.wtf_overlay.proofs.Merging.{run_joined}
use Rattle.wtf_overlay.proofs.laying.lies_before.Goals as goal

pub returns : goal.returns
returns c = λ apart.
    let last = c.in-Some.last.now in
    let before = c.in-Some.field-0-1.now in
    let next = c.in-Some-split_first.next.now in
    let after = c.in-Some-split_first.field-0-1.now in
    let ends : c.args.first.now ≡ before ++ last ∷ [] = search rules in
    let begins : c.args.second.now ≡ next ∷ after = search rules in
    let order = leb-true c.end.result _ apart in
    run_joined _ c.args.first.now c.args.second.now before after last next ends begins c.requires.first c.requires.second (omega arith)
