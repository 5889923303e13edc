-- Lines that hold memory of their own, so that a copy takes some.
use Rattle.std.specs.Prelude.{Bool, true, false}
use Rattle.wtf_model.specs.declared.event.Event.{Event}
use Rattle.wtf_model.specs.declared.event.Event.TheVariants as event
use Rattle.wtf_model.specs.declared.event.Verb.{Verb}
use Rattle.wtf_model.specs.declared.event.Verb.TheVariants as verb

abbrev pub holds_call : Verb → Bool
holds_call (verb.Call op) = true
holds_call v = false

abbrev pub holds_memory : Event → Bool
holds_memory (event.Client c v) = holds_call v
holds_memory (event.Plan j job p r) = true
holds_memory (event.Dump p) = true
holds_memory e = false
