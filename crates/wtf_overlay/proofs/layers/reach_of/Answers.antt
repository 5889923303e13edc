use Rattle.std.proofs.Common.{◌≡◌, ◌++◌, ◌∷◌, [], rules}
use Rattle.wtf_overlay.proofs.Wholes.{within_last}
use Rattle.wtf_overlay.proofs.layers.reach_of.Goals as goal

pub returns-in-Some : goal.returns-in-Some
returns-in-Some c =
    let last = c.in-Some.last.now in
    let before = c.in-Some.field-0-1.now in
    let is : c.args.run.now ≡ before ++ last ∷ [] = search rules in
    rw c.end.ensures (rw is (within_last _ before last (rw is at c.requires)))
