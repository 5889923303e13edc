use Rattle.wtf_healer.proofs.Ending.{status_of, quiet, still, wrote, untouched, unkept, hands_one}
use Rattle.wtf_healer.proofs.Proving.{unnamed, refused, image, synced, fault_cause, empty, nothing, sink_cause, keeper_cause, save_cause}
use Rattle.wtf_healer.proofs.Theorem.{healed, complete}
use Rattle.wtf_healer.proofs.program.wtf_heal.Goals as goal

pub returns-clause-over : goal.returns-clause-over
returns-clause-over g c = c.heal_and_tell-status.ensures.over

pub returns-clause-statuses : goal.returns-clause-statuses
returns-clause-statuses g c = status_of _ _ _ _ _ c.heal_and_tell-status.ensures.over

pub returns-clause-words : goal.returns-clause-words
returns-clause-words g c none = unnamed _ _ _ _ _ c.heal_and_tell-status.ensures.over none

pub returns-clause-refused : goal.returns-clause-refused
returns-clause-refused g c held holds = refused _ _ _ _ held holds _ c.heal_and_tell-status.ensures.over

pub returns-clause-image : goal.returns-clause-image
returns-clause-image g c held ks holds named = image _ _ _ _ held holds ks named _ c.heal_and_tell-status.ensures.over

pub returns-clause-wrote : goal.returns-clause-wrote
returns-clause-wrote g c text taken = wrote _ _ _ _ text taken _ c.heal_and_tell-status.ensures.over

pub returns-clause-quiet : goal.returns-clause-quiet
returns-clause-quiet g c is = quiet _ _ _ _ _ c.heal_and_tell-status.ensures.over is

pub returns-clause-still : goal.returns-clause-still
returns-clause-still g c ne = still _ _ _ _ _ c.heal_and_tell-status.ensures.over ne

pub returns-clause-untouched : goal.returns-clause-untouched
returns-clause-untouched g c is = untouched _ _ _ _ _ c.heal_and_tell-status.ensures.over is

pub returns-clause-unkept : goal.returns-clause-unkept
returns-clause-unkept g c is = unkept _ _ _ _ _ c.heal_and_tell-status.ensures.over is

pub returns-clause-empty : goal.returns-clause-empty
returns-clause-empty g c holds = empty _ _ _ _ holds _ c.heal_and_tell-status.ensures.over

pub returns-clause-nothing : goal.returns-clause-nothing
returns-clause-nothing g c holds zero text taken = nothing _ _ _ _ holds _ c.heal_and_tell-status.ensures.over zero text taken

pub returns-clause-synced : goal.returns-clause-synced
returns-clause-synced g c held ks holds some named zero = synced _ _ _ _ held holds ks named _ c.heal_and_tell-status.ensures.over some zero

pub returns-clause-sink_cause : goal.returns-clause-sink_cause
returns-clause-sink_cause g c four = sink_cause _ _ _ _ _ c.heal_and_tell-status.ensures.over four

pub returns-clause-keeper_cause : goal.returns-clause-keeper_cause
returns-clause-keeper_cause g c eight = keeper_cause _ _ _ _ _ c.heal_and_tell-status.ensures.over eight

pub returns-clause-save_cause : goal.returns-clause-save_cause
returns-clause-save_cause g c five = save_cause _ _ _ _ g.met.S.SliceStore.laws _ c.heal_and_tell-status.ensures.over five

pub returns-clause-fault_cause : goal.returns-clause-fault_cause
returns-clause-fault_cause g c eleven held ks holds named text taken =
    fault_cause _ _ _ _ held holds ks named _ c.heal_and_tell-status.ensures.over eleven text taken

pub returns-clause-healed : goal.returns-clause-healed
returns-clause-healed g c held ks tree named some telling room live zero =
    healed g.met.S.SliceStore.laws _ _ _ held ks tree named some telling room live _ c.heal_and_tell-status.ensures.over zero

pub returns-clause-complete : goal.returns-clause-complete
returns-clause-complete g c held ks tree named some telling live still =
    complete g.met.S.SliceStore.laws _ _ _ held ks tree named some telling live still _ c.heal_and_tell-status.ensures.over

pub returns-clause-handed : goal.returns-clause-handed
returns-clause-handed g c = hands_one _ _ _ _ _ c.heal_and_tell-status.ensures.over

pub returns-clause-lost : goal.returns-clause-lost
returns-clause-lost g c ks named = c.heal_and_tell-status.ensures.goes.lost ks named

pub returns-clause-follows : goal.returns-clause-follows
returns-clause-follows g c = c.heal_and_tell-status.ensures.goes.follows
