use Rattle.std.proofs.Common.{Some, refl, inl}
use Rattle.wtf_model.specs.declared.answer.Word.TheVariants as word
use Rattle.wtf_model.specs.declared.event.Verb.TheVariants as verb
use Rattle.wtf_model.specs.Steps.{due}
use Rattle.wtf_model.proofs.MachineExamples.{asked, only_refused, live_call, full_call, replaying_call}
use Rattle.wtf_model.proofs.machine_examples.takes_calls.Goals as goal

pub returns : goal.returns
returns c = record {
  due = λ m x t o there live room. asked m x (Some t) there (verb.Call o) (due m t o) (live_call t o live room) (inl refl);
  full = λ m x t o there live full. only_refused m x (Some t) there (verb.Call o) word.Full (full_call t o live full);
  replaying = λ m x t o there live. only_refused m x (Some t) there (verb.Call o) word.Replaying (replaying_call t o live);
}
