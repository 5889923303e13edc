use Rattle.wtf_imagefmt.proofs.Gathered.{PathsWalked}
use Rattle.wtf_imagefmt.proofs.gather.paths_now.Given as goal

abbrev pub invariant-loop-key : goal.invariant-loop-key
invariant-loop-key l = PathsWalked l.kv l.paths.items l.key-iterator
