use Rattle.std.proofs.Common.{◌≡◌, Some, refl}
use Rattle.std.proofs.lemmas.Result.{IfOk-weaker, IfErr-weaker}
use Rattle.wtf_healer.specs.Ends.{run_span, WasKept, WasHealed, IsEarly, IsPassStop, IsStop}
use Rattle.wtf_healer.proofs.Stopping.{not_early, stop_before, stop_over, goes_untouched, goes_healed, began, can, lost_stay}
use Rattle.wtf_healer.proofs.program.run_of.Goals as goal

pub returns-in-Err-clause-stopped : goal.returns-in-Err-clause-stopped
returns-in-Err-clause-stopped g c ks of =
    let keeper = c.args.keeper.now in
    stop_before g.S.SliceStore.kind ks c.args.image.now
    (run_span g.K.Keeper.view g.K.Keeper.follows (c.args.shelf.now, keeper) (c.args.shelf.now, keeper))
    (record { stores = refl; keeper = g.met.K.Keeper.follows_itself keeper }) c.in-Err.why (c.in-Err.ensures.stopped ks of)

pub returns-in-Err-clause-goes : goal.returns-in-Err-clause-goes
returns-in-Err-clause-goes g c ks of =
    let keeper = c.args.keeper.now in
    goes_untouched g.met.S.SliceStore.laws (Some ks) (run_span g.K.Keeper.view g.K.Keeper.follows (c.args.shelf.now, keeper) (c.args.shelf.now, keeper)) refl

pub run_on-ended-requires-clause-can : goal.run_on-ended-requires-clause-can
run_on-ended-requires-clause-can g c =
    let ks = c.requires.0 in
    let made = c.replicas_without-replicas in
    can g.S.SliceStore.kind ks c.args.lost c.requires.1 c.args.image.now c.args.shelf.now c.in-Ok.loaded (c.in-Ok.ensures.loaded ks c.requires.1) made.result
    made.ensures.settings made.ensures.down made.ensures.none

pub returns-clause-done : goal.returns-clause-done
returns-clause-done g c ks of =
    let kind = g.S.SliceStore.kind in
    let made = c.replicas_without-replicas in
    let ended = c.run_on-ended in
    let t = run_span g.K.Keeper.view g.K.Keeper.follows (c.args.shelf.now, c.args.keeper.now) (ended.new.shelf, ended.new.keeper) in
    IfOk-weaker ended.result (λ lines. WasKept kind made.result c.in-Ok.loaded t lines.items) (λ lines. WasHealed kind ks c.args.image.now t lines.items)
    (λ lines h. record {
      began = began kind ks c.args.lost of c.args.image.now c.args.shelf.now c.in-Ok.loaded (c.in-Ok.ensures.loaded ks of) made.result made.ensures.settings
          made.ensures.down made.ensures.none;
      kept = h;
    }) ended.ensures.kept

pub returns-clause-stopped : goal.returns-clause-stopped
returns-clause-stopped g c ks of =
    let kind = g.S.SliceStore.kind in
    let made = c.replicas_without-replicas in
    let ended = c.run_on-ended in
    let t = run_span g.K.Keeper.view g.K.Keeper.follows (c.args.shelf.now, c.args.keeper.now) (ended.new.shelf, ended.new.keeper) in
    IfErr-weaker ended.result (IsPassStop kind made.result c.in-Ok.loaded t) (IsStop kind ks c.args.image.now t)
    (λ why h. stop_over kind ks c.args.image.now t (began kind ks c.args.lost of c.args.image.now c.args.shelf.now c.in-Ok.loaded (c.in-Ok.ensures.loaded ks of)
    made.result made.ensures.settings made.ensures.down made.ensures.none) why h) ended.ensures.stopped

pub returns-clause-goes : goal.returns-clause-goes
returns-clause-goes g c ks of =
    let kind = g.S.SliceStore.kind in
    let made = c.replicas_without-replicas in
    let ended = c.run_on-ended in
    goes_healed kind ks (run_span g.K.Keeper.view g.K.Keeper.follows (c.args.shelf.now, c.args.keeper.now) (ended.new.shelf, ended.new.keeper)) made.result
    ended.ensures.only
    (lost_stay kind ks c.args.lost of c.args.image.now c.args.shelf.now c.in-Ok.loaded (c.in-Ok.ensures.loaded ks of) made.result made.ensures.settings
    made.ensures.down made.ensures.none ended.new.shelf ended.ensures.only)

pub returns-clause-early : goal.returns-clause-early
returns-clause-early g c =
    let kind = g.S.SliceStore.kind in
    let made = c.replicas_without-replicas in
    let ended = c.run_on-ended in
    let t = run_span g.K.Keeper.view g.K.Keeper.follows (c.args.shelf.now, c.args.keeper.now) (ended.new.shelf, ended.new.keeper) in
    IfErr-weaker ended.result (IsPassStop kind made.result c.in-Ok.loaded t) (λ why. IsEarly why → ended.new.progress ≡ c.args.progress.now)
    (λ why h. not_early kind made.result c.in-Ok.loaded t why h) ended.ensures.stopped
