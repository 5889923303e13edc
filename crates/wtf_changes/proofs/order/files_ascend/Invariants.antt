use Rattle.std.proofs.Common.{◌≡◌, drop}
use Rattle.wtf_imagefmt.specs.Shapes.{ascends_from, ascends}
use Rattle.wtf_changes.specs.Shapes.{file_before}
use Rattle.wtf_changes.proofs.order.files_ascend.Given as goal

abbrev pub invariant-loop-file : goal.invariant-loop-file
invariant-loop-file l = ascends_from file_before l.before (drop l.file-index l.rest) ≡ ascends file_before l.files
