-- What contracts see of the servers that are down.
use Rattle.std.specs.Prelude.{ℕ, Bool, false, List, slice_index_or}
use Rattle.wtf_base.specs.declared.settings.Settings.{Settings}
use Rattle.wtf_replica.specs.Spans.{Span, span}
use Rattle.wtf_replica.specs.declared.replicas.Replicas.{Replicas}

-- the settings that the replicas were made for
abbrev pub settings_of : Replicas → Settings
settings_of r = r.settings

-- server k is down
abbrev pub is_down : Replicas → ℕ → Bool
is_down r k = slice_index_or r.down k false

-- the span of a call of these replicas that was lent the stores `before` and left them as `after`
abbrev pub during : {S : Type 0} → Replicas → List S → List S → Span S
during r before after = span (is_down r) before after
