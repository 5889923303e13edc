use Rattle.std.proofs.Common.{◌≡◌, suc, ◌∷◌, length, drop, map, Some, None, sym, ap, ◌∙◌, arith, Global}
use Rattle.std.specs.Prelude.{string_bytes}
use Rattle.std.proofs.Math.Seq.{drop-cons}
use Rattle.std.proofs.lemmas.List.{length-map}
use Rattle.wtf_healer.specs.Words.{with_word, with_words}
use Rattle.wtf_healer.proofs.Naming.{none_with, named}
use Rattle.wtf_healer.proofs.words.lost_by.Goals as goal

pub returns-in-None : goal.returns-in-None
returns-in-None c =
    let ws = c.args.words.now in
    let i = c.loop-word.word-index in
    let w = c.word-item.result in
    let inv = c.loop-word.invariant in
    let texts = map (string_bytes {Z = Global}) ws in
    let at : drop i ws ≡ w ∷ drop (suc i) ws = drop-cons ws i w c.loop-word-test.true ∙ ap (λ x. x ∷ drop (suc i) ws) (sym c.word-item.is) in
    let none : with_word (Some inv.0) (string_bytes w) ≡ None = ap (with_word (Some inv.0)) (sym c.as_bytes.ensures.value) ∙ c.in-None.ensures inv.0 inv.1 in
    named texts (λ e. absurd (omega (arith, c.loop-word-test.true, sym (length-map ws (string_bytes {Z = Global})) ∙ ap length e)))
    ∙ sym inv.2
    ∙ ap (λ l. with_words (Some inv.0) (map string_bytes l)) at
    ∙ ap (λ o. with_words o (map string_bytes (drop (suc i) ws))) none
    ∙ none_with (map string_bytes (drop (suc i) ws))
