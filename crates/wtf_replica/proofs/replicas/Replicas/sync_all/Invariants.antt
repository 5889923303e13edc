use Rattle.std.proofs.Common.{◌≡◌, ◌<◌, ℕ, false, []}
use Rattle.wtf_dev.specs.Each.{EachFollows}
use Rattle.wtf_replica.specs.Downs.{is_down}
use Rattle.wtf_replica.specs.Spans.{span}
use Rattle.wtf_replica.specs.Outs.{IsLeftDown, HasSynced, SameFrom, SameLengths}
use Rattle.wtf_replica.proofs.replicas.Replicas.sync_all.Given as goal

-- nothing was done to servers that are down, or from server k on; the servers before it are up, and their stores were synced
abbrev pub invariant-loop-k : goal.invariant-loop-k
invariant-loop-k g l = record {
  each : EachFollows g.S.SliceStore.kind l.initial.shelf l.shelf [];
  lows : IsLeftDown (span (is_down l.self) l.initial.shelf l.shelf);
  lengths : SameLengths g.S.SliceStore.kind l.initial.shelf l.shelf;
  synced : (j : ℕ) → j < l.k → HasSynced g.S.SliceStore.kind l.initial.shelf l.shelf j;
  up : (j : ℕ) → j < l.k → is_down l.self j ≡ false;
  past : SameFrom l.k l.initial.shelf l.shelf;
}
