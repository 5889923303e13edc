use Rattle.std.proofs.Common.{◌∙◌}
use Rattle.wtf_serve.specs.Endings.{IsKeeperKept}
use Rattle.wtf_serve.specs.Stocks.{KeeperGoesOn}
use Rattle.wtf_serve.proofs.Keeping.{handed_on}
use Rattle.wtf_serve.proofs.Unopening.{not_opened}
use Rattle.wtf_serve.proofs.opening.open.Goals as goal

pub returns-in-Ok-core_of-clause-opened : goal.returns-in-Ok-core_of-clause-opened
returns-in-Ok-core_of-clause-opened g c =
    let is = c.in-Ok-core_of.ensures.opened in
    record {
      opening = is.opening;
      opens = is.opens;
      given = λ held e. is.bytes_are ∙ c.as_slice.ensures.value ∙ c.in-Ok.ensures.bytes held e;
      ready = is.ready;
    }

pub returns-clause-unopened : goal.returns-clause-unopened
returns-clause-unopened g c = λ source.
    let view = g.K.Keeper.view in
    let old = c.args.keeper.now in
    let new = c.load.new.self in
    let kept : IsKeeperKept (g.K.Keeper.follows old new) (view old) (view new) = record { held = c.load.ensures.held; nothing = c.load.ensures.follows } in
    let keeper : KeeperGoesOn (view old) (view new) = handed_on view g.K.Keeper.follows g.met.K.Keeper.keeps old new
    (_, c.load.ensures.follows) in
    not_opened g.S.SliceStore.kind g.met.S.SliceStore.laws (g.K.Keeper.follows old new) c.args.settings c.args.shelf.now (view old)
    (view new) kept keeper source (g.O.Sink.view c.args.out.now)
    c.as_slice.result.now (λ held e. c.as_slice.ensures.value ∙ c.in-Ok.ensures.bytes held e) c.in-Err.why c.end.result
    (g.O.Sink.view c.end.new.out) c.in-Err.ensures.cause c.end.ensures.ends
