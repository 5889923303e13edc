use Rattle.std.proofs.Common.{◌≡◌, [], sym, subst}
use Rattle.wtf_kv.specs.Stores.{Store}
use Rattle.wtf_occ.specs.Attempts.{Attempted}
use Rattle.wtf_values.specs.declared.key.Key.{Key}
use Rattle.wtf_values.specs.declared.value.Delta.{Delta}
use Rattle.wtf_values.specs.declared.value.Value.{Value}
use Rattle.wtf_meta.specs.Maps.{seen}
use Rattle.wtf_files_rows.specs.Benches.{IsBareMap}
use Rattle.wtf_files_rows.proofs.store.begun.Goals as goal

pub returns : goal.returns
returns c =
    let kv = c.in_ok-kv.kv in
    let empty : Attempted Key Delta = record { base = 0; reads = []; changes = [] } in
    let at : c.in_ok-at.at ≡ empty = let e = c.in_ok-at.ensures in let w = c.in_ok-at.was in cc in
    let none : IsBareMap (seen kv c.in_ok-at.at) =
    subst (λ (a : Attempted Key Delta). IsBareMap (seen kv a)) (sym at)
    (subst (λ (s : Store Key Value). IsBareMap (seen s empty)) (sym c.in_ok-kv.ensures) (λ P Q hole q. tt)) in
    record { bare = c.in_ok-tree_made.ensures kv none }
