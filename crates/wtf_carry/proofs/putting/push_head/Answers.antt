use Rattle.std.proofs.Common.{◌++◌, ◌∷◌, [], ℕ, List, codes, sym, ap, ◌∙◌, append_assoc}
use Rattle.std.proofs.lemmas.List.{append-nil}
use Rattle.wtf_script.specs.ScriptLines.{line_feed}
use Rattle.wtf_carry.specs.Asked.{Asked, asked_text, begin_line, create_line, open_line}
use Rattle.wtf_carry.specs.Ways.{mkdirs}
use Rattle.wtf_carry.proofs.Carried.{text-more, texts-more}
use Rattle.wtf_carry.proofs.putting.push_head.Goals as goal

pub returns : goal.returns
returns c =
    let old = c.args.text.now.items in
    let path = c.args.path.now in
    let ways = c.in_ok-push_ways.ensures in
    let t1 = c.push_line.new.text.items in
    let t2 = c.push_ways.new.text.items in
    let t3 = c.push_line-2.new.text.items in
    let t4 = c.push_line-3.new.text.items in
    let one = text-more old old t1 [] begin_line (sym (append-nil old)) c.in_ok-push_line.ensures in
    let two = texts-more old t1 t2 (begin_line ∷ []) (mkdirs ways.up) one ways.new_is in
    let three = text-more old t2 t3 (begin_line ∷ mkdirs ways.up) (create_line path) two
    (c.in_ok-push_line-2.ensures ∙ ap (λ (p : List ℕ). t2 ++ ((codes "c0 create " ++ p) ++ line_feed ∷ [])) c.as_bytes.ensures.value) in
    let four = text-more old t3 t4 (begin_line ∷ (mkdirs ways.up ++ create_line path ∷ [])) (open_line path) three
    (c.in_ok-push_line-3.ensures ∙ ap (λ (p : List ℕ). t3 ++ ((codes "c0 open f0 " ++ p) ++ line_feed ∷ [])) c.as_bytes-2.ensures.value) in
    record {
      is_path = c.as_bytes.ensures.well_formed;
      up = ways.up;
      way = ways.is;
      new_is = four ∙ ap (λ (xs : List Asked). old ++ asked_text (begin_line ∷ xs))
          (append_assoc (mkdirs ways.up) (create_line path ∷ []) (open_line path ∷ []));
    }
