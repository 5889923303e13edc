-- What entries that are held make of an attempt.
use Rattle.std.proofs.Common.{◌≡◌, [], ◌++◌, map, ap, ◌∙◌, append-nil}
use Rattle.wtf_base.specs.declared.ids.InodeId.{InodeId}
use Rattle.wtf_kv.specs.declared.changes.Change.TheVariants as change
use Rattle.wtf_occ.specs.Attempts.{Attempted}
use Rattle.wtf_values.specs.declared.key.Key.{Key}
use Rattle.wtf_values.specs.declared.key.Key.TheVariants.{Region}
use Rattle.wtf_values.specs.declared.value.Delta.{Delta}
use Rattle.wtf_region.specs.declared.changing.Held.{Held}
use Rattle.wtf_region.specs.Holding.{held_over}

-- nothing is held
pub held_none : (i : InodeId) (h : Held) (a : Attempted Key Delta) → h.pushes.items ≡ [] → held_over i h a ≡ a
held_none i h a none =
    ap (λ l. record a { changes = a.changes ++ map (change.Delta (Region i h.region)) l }) none
    ∙ ap (λ l. record a { changes = l }) (append-nil a.changes)
