use Rattle.std.proofs.Common.{length}
use Rattle.std.specs.Option.{option_copied}
use Rattle.wtf_kv.specs.Order.{left_from}
use Rattle.wtf_values.specs.Keys.{key_cmp}
use Rattle.wtf_healer.specs.Progress.{IsProgress}
use Rattle.wtf_healer.proofs.Passing.{Passed}
use Rattle.wtf_healer.proofs.regions.heal_all.Given as goal

abbrev pub invariant-loop-at : goal.invariant-loop-at
invariant-loop-at g l = record {
  walked : Passed g.S.SliceStore.kind l.fn.dev l.dev l.kv (option_copied l.at) l.healed;
  told : IsProgress 0 (length l.healed.changes) (g.P.Sink.view l.fn.progress) (g.P.Sink.view l.progress);
}

abbrev pub decreases-loop-at : goal.decreases-loop-at
decreases-loop-at g l = left_from key_cmp l.kv (option_copied l.at)
