use Rattle.std.proofs.Common.{◌++◌, ◌∷◌, [], ℕ, List, codes, sym, ap, ◌∙◌}
use Rattle.std.proofs.lemmas.List.{append-nil}
use Rattle.wtf_script.specs.ScriptLines.{line_feed}
use Rattle.wtf_carry.specs.Asked.{begin_line, open_line, seek_line}
use Rattle.wtf_carry.proofs.Carried.{text-more}
use Rattle.wtf_carry.proofs.lines.go_on.Goals as goal

pub returns : goal.returns
returns c = λ last e.
    let old = c.args.text.now.items in
    let path = c.args.path.now in
    let t1 = c.push_line.new.text.items in
    let t2 = c.push_line-2.new.text.items in
    let t3 = c.push_line-3.new.text.items in
    let t4 = c.push_number.new.text.items in
    let one = text-more old old t1 [] last (sym (append-nil old))
    (c.in_ok-push_line.ensures ∙ ap (λ (l : List ℕ). old ++ (l ++ line_feed ∷ [])) (append-nil c.args.end.now ∙ sym e)) in
    let two = text-more old t1 t2 (last ∷ []) begin_line one c.in_ok-push_line-2.ensures in
    let three = text-more old t2 t3 (last ∷ begin_line ∷ []) (open_line path) two
    (c.in_ok-push_line-3.ensures ∙ ap (λ (p : List ℕ). t2 ++ ((codes "c0 open f0 " ++ p) ++ line_feed ∷ [])) c.as_bytes.ensures.value) in
    text-more old t3 t4 (last ∷ begin_line ∷ open_line path ∷ []) (seek_line c.args.at) three c.in_ok-push_number.ensures
