-- Maps from keys to values: the metadata of all files at one moment, and what changes make of it.
-- NSDI 2016, section 2.4 (metadata is kept in a store of keys and values).
use Rattle.std.specs.Prelude.{ℕ, List, Option}
use Rattle.wtf_kv.specs.declared.changes.Change.{Change}
use Rattle.wtf_kv.specs.Edits.{over, Fits}
use Rattle.wtf_kv.specs.Stores.{Store, map_at}
use Rattle.wtf_occ.specs.Attempts.{Attempted, map_seen}
use Rattle.wtf_values.specs.declared.key.Key.{Key}
use Rattle.wtf_values.specs.declared.value.Value.{Value}
use Rattle.wtf_values.specs.declared.value.Delta.{Delta}
use Rattle.wtf_values.specs.Keys.{key_cmp}
use Rattle.wtf_values.specs.Outcomes.{outcome_of}

abbrev pub Map : Type 0
Map = Key → Option Value

abbrev pub Edits : Type 0
Edits = List (Change Key Delta)

-- a map with changes made over it, in order
abbrev pub with : Edits → Map → Map
with cs w = over key_cmp outcome_of cs w

-- each change fits, in order: only pieces at a region's end may find no room
abbrev pub AllFit : Edits → Map → Type 0
AllFit cs w = Fits key_cmp outcome_of cs w

-- the map of a store at a number
abbrev pub metadata_at : Store Key Value → ℕ → Map
metadata_at kv n = map_at key_cmp kv n

-- the map that an attempt sees: the one at its base with its own changes
abbrev pub seen : Store Key Value → Attempted Key Delta → Map
seen kv at = map_seen key_cmp outcome_of kv at
