-- What a store shows of its keys.
use Rattle.std.specs.Prelude.{ℕ, Option}
use Rattle.std.specs.Option.{option_map}
use Rattle.wtf_kv.specs.Stores.{Store, map_at}
use Rattle.wtf_values.specs.Keys.{key_cmp}
use Rattle.wtf_values.specs.declared.key.Key.{Key}
use Rattle.wtf_values.specs.declared.value.Value.{Value}
use Rattle.wtf_imagefmt.specs.Lookups.{Plain, plain}

abbrev pub Shown : Type 0
Shown = Key → Option Plain

-- at a number, and at the number of the store
abbrev pub shown_at : Store Key Value → ℕ → Shown
shown_at kv n q = option_map plain (map_at key_cmp kv n q)

abbrev pub shown : Store Key Value → Shown
shown kv q = option_map plain (map_at key_cmp kv kv.number q)
