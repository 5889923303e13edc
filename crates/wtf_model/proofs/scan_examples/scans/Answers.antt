use Rattle.std.proofs.Common.{refl}
use Rattle.wtf_model.specs.declared.answer.Answer.TheVariants as answer
use Rattle.wtf_model.specs.declared.answer.Word.TheVariants as word
use Rattle.wtf_model.specs.Steps.{start}
use Rattle.wtf_model.proofs.MachineLaws.{scanning-rest}
use Rattle.wtf_model.proofs.ScanLaws.{none_in, scan_at_rest, scan_busy, only_scan}
use Rattle.wtf_model.proofs.scan_examples.scans.Goals as goal

pub returns : goal.returns
returns c = record {
  first = λ settings number tree. only_scan (start settings number tree) answer.Scanning (scan_at_rest (start settings number tree) refl none_in none_in);
  busy = λ m left there. only_scan m (answer.Refused word.ScanBusy) (scan_busy m left there);
  parts = λ m. refl;
  noted = λ m. refl;
  rest = scanning-rest;
}
