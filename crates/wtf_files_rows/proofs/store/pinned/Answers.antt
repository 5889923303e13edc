use Rattle.std.proofs.Common.{◌≡◌, ◌∙◌, ◌++◌, [], ◌∷◌, ap}
use Rattle.wtf_kv.specs.Stores.{Store}
use Rattle.wtf_values.specs.declared.key.Key.{Key}
use Rattle.wtf_values.specs.declared.value.Value.{Value}
use Rattle.wtf_files_rows.proofs.store.pinned.Goals as goal

pub returns : goal.returns
returns c =
    let store : Store Key Value = record { number = 0; pins = []; cells = [] } in
    let first : c.in_ok-kv.kv ≡ store = let e = c.in_ok-kv.ensures in let w = c.in_ok-kv.was in cc in
    c.in_ok-pin.ensures.ok ∙ ap (λ (s : Store Key Value). record s { pins = s.pins ++ 0 ∷ [] }) first
