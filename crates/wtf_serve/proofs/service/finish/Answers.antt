use Rattle.std.proofs.Common.{refl, inl, inr}
use Rattle.wtf_dev.proofs.Each.{each_same}
use Rattle.wtf_replica.specs.Downs.{is_down}
use Rattle.wtf_serve.proofs.Keeping.{keeper_steady}
use Rattle.wtf_serve.proofs.Sparing.{unsaved_spares}
use Rattle.wtf_serve.proofs.service.finish.Goals as goal

pub returns-in_default-clause-ends : goal.returns-in_default-clause-ends
returns-in_default-clause-ends g c = record {
  taken = c.bring_out.ensures.told;
  rises = c.bring_out.ensures.faults;
  ends = inr (refl, refl, c.in_default.ensures.cause);
}

pub returns-in_default-clause-follows : goal.returns-in_default-clause-follows
returns-in_default-clause-follows g c = each_same g.met.S.SliceStore.laws c.args.shelf.now

pub returns-in_default-clause-keeper : goal.returns-in_default-clause-keeper
returns-in_default-clause-keeper g c = keeper_steady (g.K.Keeper.view c.args.keeper.now)

pub returns-in_default-clause-spares : goal.returns-in_default-clause-spares
returns-in_default-clause-spares g c =
    unsaved_spares g.S.SliceStore.kind (g.K.Keeper.follows c.args.keeper.now c.args.keeper.now) c.args.core.now.settings.servers
    (is_down c.args.core.now.replicas) c.args.shelf.now (g.met.K.Keeper.follows_itself c.args.keeper.now)

pub returns-clause-ends : goal.returns-clause-ends
returns-clause-ends g c = record {
  taken = c.bring_out.ensures.told;
  rises = c.bring_out.ensures.faults;
  ends = inl (c.in-Ok.ensures.steady, c.close-status.ensures.closes);
}
