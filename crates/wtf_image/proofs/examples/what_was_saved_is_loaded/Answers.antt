use Rattle.wtf_image.specs.Rules.{none_lost}
use Rattle.wtf_image.proofs.SaveMap.{reads_back, refused_only}
use Rattle.wtf_image.proofs.examples.what_was_saved_is_loaded.Goals as goal

pub returns-clause-same : goal.returns-clause-same
returns-clause-same c = λ kv s n bytes kept size l load. reads_back kv s n bytes none_lost size l kept load

pub returns-clause-taken : goal.returns-clause-taken
returns-clause-taken c = λ kv s n bytes kept size why refusal. refused_only kv s n bytes none_lost size why kept refusal
