use Rattle.std.proofs.Common.{◌++◌, ◌∷◌, [], ℕ, List, Some, length, codes, sym, ap, ◌∙◌}
use Rattle.wtf_script.specs.ScriptLines.{line_feed}
use Rattle.wtf_carry.proofs.WayLaws.{ways-more}
use Rattle.wtf_carry.proofs.lines.+push_ways.Goals as goal

pub returns : goal.returns
returns t c =
    let d = c.in-Ok.parent in
    let same = c.in-Ok.ensures.value in
    ways-more c.args.path.now d c.args.text.now.items c.push_ways.new.text.items c.push_line.new.text.items
    (sym c.in-Some.ensures.value ∙ ap Some (sym same))
    (λ k. c.if-parent-eq1.false (sym (ap length same) ∙ k)) c.in-Ok.ensures.well_formed c.in_ok-push_ways.ensures
    (c.in_ok-push_line.ensures ∙ ap (λ (p : List ℕ). c.push_ways.new.text.items ++ ((codes "c0 mkdir " ++ p) ++ line_feed ∷ [])) c.as_bytes.ensures.value)
