use Rattle.std.proofs.Common.{Some, refl, sym, inl, ap, ◌∙◌}
use Rattle.wtf_model.specs.declared.answer.Answer.TheVariants as answer
use Rattle.wtf_model.proofs.ScanLaws.{only_no_scan, more_is, piece_due, piece_more, piece_done, not_done, no_more, piece_fails, parts-client}
use Rattle.wtf_model.proofs.scan_examples.pieces.Goals as goal

pub returns : goal.returns
returns c = record {
  none = only_no_scan;
  more = λ m k left n there less. (λ h. more_is m k left n there less h, λ e. inl (ap answer.More e ∙ sym (piece_due m k (Some left) _ there (piece_more k left less))));
  not_done = not_done;
  done = λ m k left there all. inl (sym (piece_due m k (Some left) _ there (piece_done k left all)));
  no_more = no_more;
  fault = piece_fails;
  left = λ m k n. refl;
  finished = λ m k. refl;
  failed = λ m k server. refl;
  beside = parts-client;
}
