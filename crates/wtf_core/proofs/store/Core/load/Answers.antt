use Rattle.wtf_image.specs.Rules.{size_in}
use Rattle.wtf_core.proofs.Restored.{stands_loaded, held_loaded, inside_loaded, bare_loaded}
use Rattle.wtf_core.proofs.Telling.{told_loaded, within_loaded, within_from}
use Rattle.wtf_core.proofs.store.Core.load.Goals as goal

pub returns-in-Ok-restored-clause-inside : goal.returns-in-Ok-restored-clause-inside
returns-in-Ok-restored-clause-inside g c =
    let sizes = size_in g.S.SliceStore.kind c.args.shelf.now in
    inside_loaded g.S.SliceStore.kind c.args.shelf.now c.args.bytes.now c.in-Ok-restored.core c.in-Ok-restored.ensures.sound
    (c.in-Ok-restored.ensures.loaded sizes c.args.bytes.now c.in-Ok.ensures.loaded)

pub returns-in-Ok-restored-clause-stands : goal.returns-in-Ok-restored-clause-stands
returns-in-Ok-restored-clause-stands g c =
    let sizes = size_in g.S.SliceStore.kind c.args.shelf.now in
    stands_loaded sizes c.args.bytes.now c.in-Ok-restored.core
    (c.in-Ok-restored.ensures.loaded sizes c.args.bytes.now c.in-Ok.ensures.loaded) c.in-Ok-restored.ensures.sound c.in-Ok-restored.ensures.up

pub returns-in-Ok-restored-clause-held : goal.returns-in-Ok-restored-clause-held
returns-in-Ok-restored-clause-held g c =
    let sizes = size_in g.S.SliceStore.kind c.args.shelf.now in
    held_loaded sizes c.args.bytes.now c.in-Ok-restored.core (c.in-Ok-restored.ensures.loaded sizes c.args.bytes.now c.in-Ok.ensures.loaded)

pub returns-in-Ok-restored-clause-bare : goal.returns-in-Ok-restored-clause-bare
returns-in-Ok-restored-clause-bare g c =
    let sizes = size_in g.S.SliceStore.kind c.args.shelf.now in
    bare_loaded sizes c.args.bytes.now c.in-Ok-restored.core c.in-Ok-restored.ensures.sound
    (c.in-Ok-restored.ensures.loaded sizes c.args.bytes.now c.in-Ok.ensures.loaded)

pub returns-in-Ok-restored-clause-told : goal.returns-in-Ok-restored-clause-told
returns-in-Ok-restored-clause-told g c =
    let kind = g.S.SliceStore.kind in
    let shelf = c.args.shelf.now in
    told_loaded kind shelf c.args.bytes.now c.in-Ok-restored.core c.in-Ok-restored.ensures.sound
    (c.in-Ok-restored.ensures.loaded (size_in kind shelf) c.args.bytes.now c.in-Ok.ensures.loaded)

pub returns-in-Ok-restored-clause-within : goal.returns-in-Ok-restored-clause-within
returns-in-Ok-restored-clause-within g c =
    let kind = g.S.SliceStore.kind in
    let shelf = c.args.shelf.now in
    within_loaded kind shelf c.args.bytes.now c.in-Ok-restored.core c.in-Ok-restored.ensures.sound
    (c.in-Ok-restored.ensures.loaded (size_in kind shelf) c.args.bytes.now c.in-Ok.ensures.loaded)

pub returns-in-Ok-restored-clause-within_told : goal.returns-in-Ok-restored-clause-within_told
returns-in-Ok-restored-clause-within_told g c =
    let sizes = size_in g.S.SliceStore.kind c.args.shelf.now in
    within_from g.met.S.SliceStore.laws c.args.shelf.now c.args.bytes.now c.in-Ok-restored.core c.in-Ok-restored.ensures.sound
    (c.in-Ok-restored.ensures.loaded sizes c.args.bytes.now c.in-Ok.ensures.loaded)
