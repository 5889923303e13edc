-- The numbers of a line of settings.
use Rattle.std.specs.Prelude.{◌≡◌, Option, Some, None}
use Rattle.wtf_base.specs.declared.settings.Settings.{Settings}

-- settings of the same numbers are given
abbrev pub Spells : Settings → Option Settings → Type 0
Spells s None = ⊥
Spells s (Some t) = (t.servers ≡ s.servers) × (t.replicas ≡ s.replicas) × (t.region ≡ s.region)
