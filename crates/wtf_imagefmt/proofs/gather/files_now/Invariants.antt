use Rattle.wtf_imagefmt.specs.Rows.{file_rows}
use Rattle.wtf_imagefmt.specs.Shapes.{AreRegionsAscending}
use Rattle.wtf_imagefmt.proofs.Gathered.{FilesWalked}
use Rattle.wtf_imagefmt.proofs.gather.files_now.Given as goal

abbrev pub invariant-loop-key : goal.invariant-loop-key
invariant-loop-key l = FilesWalked l.kv (file_rows l.files.items) l.key-iterator × AreRegionsAscending (file_rows l.files.items)
