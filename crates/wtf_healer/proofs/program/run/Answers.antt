use Rattle.std.proofs.Common.{[], map, sym, ◌∙◌, Global}
use Rattle.std.specs.Prelude.{string_bytes}
use Rattle.std.proofs.lemmas.Result.{IfOk-weaker, IfErr-weaker}
use Rattle.wtf_healer.specs.Ends.{run_span, WasHealed, IsStop, HasHealed, IsEnd}
use Rattle.wtf_healer.specs.Words.{lost_in}
use Rattle.wtf_healer.proofs.Stopping.{some_bytes, done_late, end_late, goes_late}
use Rattle.wtf_healer.proofs.program.run.Goals as goal

pub returns-clause-done : goal.returns-clause-done
returns-clause-done g c =
    let kind = g.S.SliceStore.kind in
    let view = g.K.Keeper.view in
    let follows = g.K.Keeper.follows in
    let a = c.args.keeper.now in
    let b = c.load.new.self in
    let ended = c.run_of-ended in
    let ks = c.in-Some.ensures.0 in
    let image = c.as_slice.result.now in
    let names = lost_in (map (string_bytes {Z = Global}) c.args.words.now) in
    IfOk-weaker ended.result (λ v. WasHealed kind ks image (run_span view follows (c.args.shelf.now, b) (ended.new.shelf, ended.new.keeper)) v.items)
    (λ v. HasHealed kind names (run_span view follows (c.args.shelf.now, a) (ended.new.shelf, ended.new.keeper)) v.items)
    (λ v h. done_late kind view follows g.met.K.Keeper.follows_on a b ended.new.keeper c.load.ensures.follows
    (g.met.K.Keeper.keeps a b [] c.load.ensures.follows) c.args.shelf.now ended.new.shelf names ks image
    (record { named = c.in-Some.ensures.1; held = λ bytes e. c.as_slice.ensures.value ∙ c.in-Ok.ensures.bytes bytes e })
    (some_bytes image _ (sym (c.is_empty.ensures) ∙ c.if-is_empty.false) c.as_slice.ensures.len) v.items h) (ended.ensures.done ks c.in-Some.ensures.2)

pub returns-clause-stopped : goal.returns-clause-stopped
returns-clause-stopped g c =
    let kind = g.S.SliceStore.kind in
    let view = g.K.Keeper.view in
    let follows = g.K.Keeper.follows in
    let a = c.args.keeper.now in
    let b = c.load.new.self in
    let ended = c.run_of-ended in
    let ks = c.in-Some.ensures.0 in
    let image = c.as_slice.result.now in
    let names = lost_in (map (string_bytes {Z = Global}) c.args.words.now) in
    IfErr-weaker ended.result (IsStop kind ks image (run_span view follows (c.args.shelf.now, b) (ended.new.shelf, ended.new.keeper)))
    (IsEnd kind names (run_span view follows (c.args.shelf.now, a) (ended.new.shelf, ended.new.keeper)))
    (λ why h. end_late kind view follows g.met.K.Keeper.follows_on a b ended.new.keeper c.load.ensures.follows
    (g.met.K.Keeper.keeps a b [] c.load.ensures.follows) c.args.shelf.now ended.new.shelf names ks image
    (record { named = c.in-Some.ensures.1; held = λ bytes e. c.as_slice.ensures.value ∙ c.in-Ok.ensures.bytes bytes e })
    (some_bytes image _ (sym (c.is_empty.ensures) ∙ c.if-is_empty.false) c.as_slice.ensures.len) why h) (ended.ensures.stopped ks c.in-Some.ensures.2)

pub returns-clause-goes : goal.returns-clause-goes
returns-clause-goes g c =
    let a = c.args.keeper.now in
    let b = c.load.new.self in
    let ended = c.run_of-ended in
    let ks = c.in-Some.ensures.0 in
    goes_late g.S.SliceStore.kind g.K.Keeper.view g.K.Keeper.follows g.met.K.Keeper.follows_on a b ended.new.keeper c.load.ensures.follows
    (g.met.K.Keeper.keeps a b [] c.load.ensures.follows) c.args.shelf.now ended.new.shelf (lost_in (map (string_bytes {Z = Global}) c.args.words.now)) ks
    c.in-Some.ensures.1 (ended.ensures.goes ks c.in-Some.ensures.2)

pub returns-clause-idle : goal.returns-clause-idle
returns-clause-idle g c none =
    let image = c.as_slice.result.now in
    absurd (some_bytes image _ (sym (c.is_empty.ensures) ∙ c.if-is_empty.false) c.as_slice.ensures.len
    (c.as_slice.ensures.value ∙ c.in-Ok.ensures.bytes [] none))
