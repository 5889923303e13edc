use Rattle.std.proofs.Common.{◌≡◌, ◌<◌, length}
use Rattle.wtf_replica.specs.Downs.{is_down}
use Rattle.wtf_replica.specs.Spans.{span}
use Rattle.wtf_replica.proofs.Going.{Going}
use Rattle.wtf_replica.proofs.replicas.Replicas.create.Given as goal

abbrev pub invariant-loop-i : goal.invariant-loop-i
invariant-loop-i g l = record {
  going : Going g.S.SliceStore.kind (span (is_down l.self) l.initial.shelf l.shelf) l.place l.i l.bytes l.found.items;
  few : length l.found.items < l.self.settings.replicas;
  file : l.file ≡ l.place.file;
  end : l.i-end ≡ length l.place.servers;
}
