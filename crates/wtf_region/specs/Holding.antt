-- Entries that wait to be laid.
use Rattle.std.specs.Prelude.{◌++◌, map}
use Rattle.wtf_base.specs.declared.ids.InodeId.{InodeId}
use Rattle.wtf_kv.specs.declared.changes.Change.TheVariants as change
use Rattle.wtf_occ.specs.Attempts.{Attempted}
use Rattle.wtf_values.specs.declared.key.Key.{Key}
use Rattle.wtf_values.specs.declared.key.Key.TheVariants.{Region}
use Rattle.wtf_values.specs.declared.value.Delta.{Delta}
use Rattle.wtf_region.specs.declared.changing.Held.{Held}

-- what an attempt becomes when the entries that are held are laid
abbrev pub held_over : InodeId → Held → Attempted Key Delta → Attempted Key Delta
held_over i held a = record a { changes = a.changes ++ map (change.Delta (Region i held.region)) held.pushes.items }
