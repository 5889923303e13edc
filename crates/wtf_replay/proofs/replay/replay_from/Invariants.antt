use Rattle.std.proofs.Common.{◌≡◌, ◌≤◌, ◌-◌, ℕ, List, [], length}
use Rattle.wtf_occ.specs.Attempts.{Grows}
use Rattle.wtf_dev.specs.Store.{Range}
use Rattle.wtf_replica.specs.Bytes.{byte_at}
use Rattle.wtf_model.specs.declared.op.Op.{Op}
use Rattle.wtf_meta.specs.Lists.{ListFact}
use Rattle.wtf_meta.specs.Maps.{AllFit, metadata_at}
use Rattle.wtf_region.specs.Devs.{GoesOn, stores, between}
use Rattle.wtf_region.specs.Reads.{Recalls}
use Rattle.wtf_region.specs.Showing.{OnlyRead}
use Rattle.wtf_replay.specs.Views.{in_hand, replaying}
use Rattle.wtf_replay.specs.Sounds.{LogStands, TellsMap, IsAwayTxn}
use Rattle.wtf_replay.specs.Insides.{IsHandInside, IsLogInside, NamesAgain}
use Rattle.wtf_replay.specs.Effects.{scope, AreRedone}
use Rattle.wtf_replay.proofs.replay.replay_from.Given as goal

-- the calls before call k were made once more, and each answered what was shown
abbrev pub invariant-loop-k : goal.invariant-loop-k
invariant-loop-k g l = record {
  from : l.from ≤ l.k;
  upto : l.k ≤ length l.log.ops;
  end : l.k-end ≡ length l.log.ops;
  grows : Grows l.initial.at l.at;
  fit : AllFit l.at.changes (metadata_at l.kv l.at.base);
  inside : IsHandInside g.S.SliceStore.kind (stores l.dev) l.initial.dev.settings l.kv (in_hand l.at l.session);
  named : NamesAgain g.S.SliceStore.kind l.initial.dev l.dev l.kv (in_hand l.initial.at l.initial.session) (in_hand l.at l.session) l.log;
  logged : IsLogInside g.S.SliceStore.kind (stores l.dev) l.initial.dev.settings l.log;
  reads : OnlyRead g.S.SliceStore.kind (between l.initial.dev l.dev);
  dev : GoesOn g.S.SliceStore.kind l.initial.dev l.dev [];
  redone : (lists : List ListFact) × AreRedone (scope g.S.SliceStore.kind l.initial.dev l.dev) l.kv
      (replaying l.tx.0 l.initial.at l.initial.session l.log l.from) (l.k - l.from) lists (in_hand l.at l.session)
      × Recalls g.S.SliceStore.kind l.initial.dev l.dev lists;
  sound : (ops : List (Op (List ℕ))) (ranges : List (ℕ × Range)) → TellsMap g.S.SliceStore.kind l.initial.dev ranges (metadata_at l.kv l.initial.at.base)
      → IsAwayTxn g.S.SliceStore.kind l.initial.dev ranges l.kv (replaying l.tx.0 l.initial.at l.initial.session l.log l.from)
      → LogStands l.initial.dev.settings.region l.kv (byte_at g.S.SliceStore.kind (stores l.initial.dev))
      (replaying l.tx.0 l.initial.at l.initial.session l.log l.from) ops
      → LogStands l.initial.dev.settings.region l.kv (byte_at g.S.SliceStore.kind (stores l.dev)) (replaying l.tx.0 l.at l.session l.log l.k) ops;
}
