use Rattle.std.proofs.Common.{◌≡◌, [], take}
use Rattle.std.specs.List.{All}
use Rattle.wtf_base.specs.declared.pointer.Pointer.{Pointer}
use Rattle.wtf_base.specs.Slices.{pointers_of}
use Rattle.wtf_dev.specs.Each.{EachFollows}
use Rattle.wtf_replica.specs.Downs.{is_down}
use Rattle.wtf_replica.specs.Spans.{span}
use Rattle.wtf_replica.specs.Outs.{IsLeftDown, IsOut, SameLengths, SameSyncs}
use Rattle.wtf_replica.specs.Copies.{SameBeside}
use Rattle.wtf_replica.specs.Faults.{last_server}
use Rattle.wtf_replica.proofs.replicas.Replicas.fetch.Given as goal

-- nothing was done to servers that are down, or that have no copy before copy i; the servers of these copies are out, and `last`
-- is that of the one before it
abbrev pub invariant-loop-i : goal.invariant-loop-i
invariant-loop-i g l = record {
  each : EachFollows g.S.SliceStore.kind l.initial.shelf l.shelf [];
  lows : IsLeftDown (span (is_down l.self) l.initial.shelf l.shelf);
  lengths : SameLengths g.S.SliceStore.kind l.initial.shelf l.shelf;
  syncs : SameSyncs g.S.SliceStore.kind l.initial.shelf l.shelf;
  beside : SameBeside (take l.i (pointers_of l.slice)) l.initial.shelf l.shelf;
  out : All (λ (p : Pointer). IsOut g.S.SliceStore.kind (span (is_down l.self) l.initial.shelf l.shelf) p.server.0) (take l.i (pointers_of l.slice));
  last : last_server (take l.i (pointers_of l.slice)) 0 ≡ l.last.0;
}
