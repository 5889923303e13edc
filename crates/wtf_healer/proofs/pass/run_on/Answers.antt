use Rattle.std.proofs.Common.{[], ◌∷◌, Some, ap, subst, ◌∙◌}
use Rattle.wtf_healer.specs.Ends.{run_span}
use Rattle.wtf_healer.specs.Steps.{IsKeepFault}
use Rattle.wtf_healer.proofs.Stopping.{pass_stop, only_on, keep_stop}
use Rattle.wtf_healer.proofs.pass.run_on.Goals as goal

pub returns-in-Err-clause-stopped : goal.returns-in-Err-clause-stopped
returns-in-Err-clause-stopped g c =
    let keeper = c.args.keeper.now in
    pass_stop g.S.SliceStore.kind c.args.replicas.now c.args.loaded.now
    (run_span g.K.Keeper.view g.K.Keeper.follows (c.args.shelf.now, keeper) (c.made_of.new.shelf, keeper)) (g.met.K.Keeper.follows_itself keeper) c.in-Err.why
    c.in-Err.ensures.stopped

pub returns-then-not-keep-clause-stopped : goal.returns-then-not-keep-clause-stopped
returns-then-not-keep-clause-stopped g c =
    let kind = g.S.SliceStore.kind in
    let view = g.K.Keeper.view in
    let follows = g.K.Keeper.follows in
    let keeper = c.args.keeper.now in
    let kept = c.in-Ok.kept in
    let shelf = c.keep.new.shelf in
    keep_stop kind view follows c.args.replicas.now c.args.loaded.now c.args.shelf.now shelf keeper c.keep.new.keeper kept.lines.items (record {
      middle = c.made_of.new.shelf;
      image = kept.image.items;
      made = c.in-Ok.ensures.made;
      follows = c.keep.ensures.follows;
      lengths = c.keep.ensures.lengths;
    }) (g.met.K.Keeper.follows_itself keeper)
    (subst (λ image. IsKeepFault kind view follows c.args.replicas.now image (c.made_of.new.shelf, keeper) (shelf, c.keep.new.keeper)) c.as_slice.ensures.value
    (c.keep.ensures.cause c.if-not-keep.true))

pub returns-then-not-keep-clause-only : goal.returns-then-not-keep-clause-only
returns-then-not-keep-clause-only g c =
    only_on g.met.S.SliceStore.laws c.args.replicas.now c.args.shelf.now c.made_of.new.shelf c.keep.new.shelf c.made_of.ensures.only c.keep.ensures.down
    c.keep.ensures.follows

pub returns-clause-only : goal.returns-clause-only
returns-clause-only g c =
    only_on g.met.S.SliceStore.laws c.args.replicas.now c.args.shelf.now c.made_of.new.shelf c.keep.new.shelf c.made_of.ensures.only c.keep.ensures.down
    c.keep.ensures.follows

pub returns-clause-kept : goal.returns-clause-kept
returns-clause-kept g c =
    let kept = c.in-Ok.kept in
    record {
      whole = record {
        middle = c.made_of.new.shelf;
        image = kept.image.items;
        made = c.in-Ok.ensures.made;
        follows = c.keep.ensures.follows;
        lengths = c.keep.ensures.lengths;
      };
      synced = c.keep.ensures.synced c.if-not-keep.false;
      handed = subst (λ image. g.K.Keeper.follows c.args.keeper.now c.keep.new.keeper (image ∷ [])) c.as_slice.ensures.value
          (c.keep.ensures.handed c.if-not-keep.false);
      held = λ tells. c.keep.ensures.held c.if-not-keep.false tells ∙ ap (λ b. Some b) c.as_slice.ensures.value;
    }
