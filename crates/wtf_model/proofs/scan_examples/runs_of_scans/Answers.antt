use Rattle.wtf_model.proofs.ScanLaws.{quiet, held_up, in_pieces}
use Rattle.wtf_model.proofs.scan_examples.runs_of_scans.Goals as goal

pub returns : goal.returns
returns c = record {
  quiet = quiet;
  held = held_up;
  in_pieces = in_pieces;
}
