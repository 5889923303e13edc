use Rattle.std.proofs.Common.{◌≤◌, ◌++◌, ◌∷◌, [], ℕ, List, Some, ap, ◌∙◌, arith, subst}
use Rattle.wtf_carry.specs.Asked.{asked_text, turn, try_line, write_line}
use Rattle.wtf_carry.specs.Streams.{Filled}
use Rattle.wtf_carry.proofs.PutLaws.{carries-one}
use Rattle.wtf_carry.proofs.putting.carry.Goals as goal

pub returns-in-Ok-write_all-clause-carried : goal.returns-in-Ok-write_all-clause-carried
returns-in-Ok-write_all-clause-carried g c = λ rest old from to.
    let n = c.in-Ok.n in
    let piece = c.front.result.now in
    let out = c.fill.new.piece in
    let left = (g.I.Source.view c.fill.new.from).rest in
    let some : 1 ≤ n = omega arith in
    let F : ℕ → Type 0 = λ room. Filled n room out rest left in
    carries-one c.args.path.now c.args.i c.args.at n rest old out piece c.push_piece.new.text.items left
    (g.O.Sink.view c.write_all.new.out).taken (subst F c.requires.room (c.in-Ok.ensures.told rest from)) c.front.ensures some c.in_ok-push_piece.ensures.bytes
    (c.in_ok-push_piece.ensures.text
    ∙ ap (λ (l : List ℕ). l ++ asked_text (turn try_line c.args.path.now c.args.i c.args.at ++ write_line piece ∷ [])) c.clear.ensures.items)
    (c.in-Ok-write_all.ensures.told old to ∙ ap (λ (l : List ℕ). Some (old ++ l)) c.as_slice.ensures.value)
