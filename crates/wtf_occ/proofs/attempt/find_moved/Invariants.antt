use Rattle.std.proofs.Common.{◌≡◌, false, drop, nat_lt}
use Rattle.std.specs.List.{find}
use Rattle.std.specs.Prelude.{IfSome}
use Rattle.wtf_kv.specs.Stores.{version_of}
use Rattle.wtf_occ.proofs.attempt.find_moved.Given as goal

abbrev pub invariant-loop-key : goal.invariant-loop-key
invariant-loop-key g l =
    (find (λ key. nat_lt l.base (version_of g.K.Ord.cmp l.kv l.number key)) l.keys ≡ find (λ key. nat_lt l.base (version_of g.K.Ord.cmp l.kv l.number key)) (drop l.key-index l.keys))
    × IfSome l.last (λ key. nat_lt l.base (version_of g.K.Ord.cmp l.kv l.number key.now) ≡ false)
