use Rattle.std.proofs.Common.{refl}
use Rattle.wtf_model.specs.declared.answer.Answer.TheVariants as answer
use Rattle.wtf_model.specs.declared.answer.Word.TheVariants as word
use Rattle.wtf_model.proofs.ScanLaws.{collect_unknown, collect_early, only_refused_collect, may_collect, collect_may}
use Rattle.wtf_model.proofs.scan_examples.collections.Goals as goal

pub returns : goal.returns
returns c = record {
  no_server = λ m k past. only_refused_collect m k word.NoServer (collect_unknown m k past);
  too_early = λ m k below few. only_refused_collect m k word.NoScan (collect_early m k below few);
  freed = λ m k n below enough. may_collect m k (answer.Collected n) below enough tt;
  fault = λ m k j below enough. (λ h. collect_may m k (answer.FaultPunch j) below enough h, λ h. may_collect m k (answer.FaultPunch j) below enough h);
  leaves = λ m k a. refl;
}
