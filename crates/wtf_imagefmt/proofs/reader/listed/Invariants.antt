use Rattle.std.proofs.Common.{◌≡◌, take}
use Rattle.wtf_imagefmt.proofs.reader.listed.Given as goal

abbrev pub invariant-loop-e : goal.invariant-loop-e
invariant-loop-e l = l.list ≡ take l.e-index l.entries
