-- What a core answers to a line, and what it then stands for.
use Rattle.wtf_model.specs.declared.answer.Answer.{Answer}
use Rattle.wtf_model.specs.declared.event.Event.{Event}
use Rattle.wtf_model.specs.Machines.{Machine}
use Rattle.wtf_model.specs.Steps.{May, after}
use Rattle.wtf_meta.specs.Contents.{Told}
use Rattle.wtf_core.specs.Views.{CoreView}
use Rattle.wtf_core.specs.Standing.{StandsFor}

-- the core answered as the machine may, and stands for what that is then
pub record IsEvent (later : Told) (new : CoreView) (m : Machine) (e : Event) (a : Answer) : Type 0 where
  pub may : May m e a
  pub stands : StandsFor later new (after m e a)
