use Rattle.std.proofs.Common.{arith, length}
use Rattle.wtf_serve.specs.Unopened.{HasServers}
use Rattle.wtf_serve.proofs.Starting.{loaded_opened, checked_servers, image_few, check_refused, load_refused}
use Rattle.wtf_serve.proofs.opening.loaded_core.Goals as goal

pub returns-in-Err-clause-cause : goal.returns-in-Err-clause-cause
returns-in-Err-clause-cause g c =
    check_refused g.S.SliceStore.kind c.args.shelf.now c.args.settings c.args.image.now c.in-Err.why c.requires c.in-Err.ensures.cause

pub returns-then-len-of_image-clause-cause : goal.returns-then-len-of_image-clause-cause
returns-then-len-of_image-clause-cause g c =
    image_few c.args.shelf.now c.args.settings c.in-Ok.of_image c.args.image.now c.requires c.in-Ok.ensures.settings
    (omega (arith, c.if-len-of_image.true, c.len.ensures.value))

pub load-requires : goal.load-requires
load-requires g c =
    checked_servers c.args.image.now c.in-Ok.of_image (length c.args.shelf.now) c.in-Ok.ensures.settings
    (omega (arith, c.if-len-of_image.false, c.len.ensures.value))

pub returns-in-Ok-load-clause-opened : goal.returns-in-Ok-load-clause-opened
returns-in-Ok-load-clause-opened g c =
    let shelf = c.args.shelf.now in
    let servers : HasServers c.args.image.now (length shelf) = checked_servers c.args.image.now c.in-Ok.of_image (length shelf) c.in-Ok.ensures.settings
    (omega (arith, c.if-len-of_image.false, c.len.ensures.value)) in
    let is = c.in-Ok-load.ensures in
    loaded_opened g.S.SliceStore.kind shelf c.args.settings c.args.image.now c.in-Ok-load.core c.requires servers is.loaded is.open is.sound is.up is.inside
    is.bare is.stands is.told is.within is.within_told is.held

pub returns-in-Err-load-clause-cause : goal.returns-in-Err-load-clause-cause
returns-in-Err-load-clause-cause g c =
    let shelf = c.args.shelf.now in
    let servers : HasServers c.args.image.now (length shelf) = checked_servers c.args.image.now c.in-Ok.of_image (length shelf) c.in-Ok.ensures.settings
    (omega (arith, c.if-len-of_image.false, c.len.ensures.value)) in
    load_refused g.S.SliceStore.kind shelf c.args.settings c.args.image.now c.in-Err-load.why c.requires servers c.in-Err-load.ensures.cause
