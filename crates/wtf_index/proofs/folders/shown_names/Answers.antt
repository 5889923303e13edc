use Rattle.std.proofs.Common.{List, ℕ, ◌<◌, ◌++◌, [], ◌∷◌, take, length, sym, ap, ◌∙◌}
use Rattle.std.proofs.lemmas.List.{take_more}
use Rattle.std.proofs.lemmas.Option.{slice_get_within, get_or_from_slice_get}
use Rattle.wtf_values.specs.Names.{names_in}
use Rattle.wtf_index.proofs.folders.shown_names.Goals as goal

pub loop-i-preserved : goal.loop-i-preserved
loop-i-preserved c =
    let xs : List (List ℕ) = names_in c.args.names.now in
    let name : List ℕ = c.name.result.now in
    let inside : c.loop-i.i < length xs = slice_get_within xs c.loop-i.i name c.name.ensures in
    c.in_ok-push.ensures.items
    ∙ ap (λ (l : List (List ℕ)). l ++ c.of.result ∷ []) c.loop-i.invariant
    ∙ ap (λ (v : List ℕ). take c.loop-i.i xs ++ v ∷ []) (c.of.ensures ∙ c.in_ok-name.ensures.items ∙ sym (get_or_from_slice_get xs c.loop-i.i name [] c.name.ensures))
    ∙ sym (take_more xs c.loop-i.i [] inside)
