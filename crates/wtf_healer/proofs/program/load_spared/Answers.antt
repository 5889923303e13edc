use Rattle.std.proofs.Common.{subst}
use Rattle.wtf_healer.specs.Spared.{AreSpared}
use Rattle.wtf_healer.proofs.Stopping.{check_stop, enough, loaded_for, load_stop, where_so}
use Rattle.wtf_healer.proofs.program.load_spared.Goals as goal

pub returns-in-Err-clause-stopped : goal.returns-in-Err-clause-stopped
returns-in-Err-clause-stopped g c ks of =
    check_stop g.S.SliceStore.kind ks c.args.image.now c.args.shelf.now c.in-Err.why c.refused.result c.refused.ensures.memory c.refused.ensures.other
    c.in-Err.ensures.cause

pub load_without-requires : goal.load_without-requires
load_without-requires g c =
    let ks = c.requires.0 in
    let of = c.requires.1 in
    enough ks c.args.lost of g.S.SliceStore.kind c.args.image.now c.args.shelf.now c.in-Ok.settings c.in-Ok.ensures.settings
    (subst (λ n. AreSpared ks c.in-Ok.settings n) c.len.ensures.value (where_so _ _ _ c.if-not-are_spared.false (c.are_spared.ensures ks of)))

pub returns-in-Ok-load_without-clause-loaded : goal.returns-in-Ok-load_without-clause-loaded
returns-in-Ok-load_without-clause-loaded g c ks of =
    loaded_for ks c.args.lost of g.S.SliceStore.kind c.args.image.now c.args.shelf.now c.in-Ok.settings c.in-Ok.ensures.settings c.in-Ok-load_without.loaded
    (subst (λ n. AreSpared ks c.in-Ok.settings n) c.len.ensures.value (where_so _ _ _ c.if-not-are_spared.false (c.are_spared.ensures ks of)))
    c.in-Ok-load_without.ensures.loaded

pub returns-in-Err-load_without-clause-stopped : goal.returns-in-Err-load_without-clause-stopped
returns-in-Err-load_without-clause-stopped g c ks of =
    load_stop ks c.args.lost of g.S.SliceStore.kind c.args.image.now c.args.shelf.now c.in-Ok.settings c.in-Ok.ensures.settings c.in-Err-load_without.why
    c.refused-in-Err-load_without.result c.refused-in-Err-load_without.ensures.memory c.refused-in-Err-load_without.ensures.other
    (subst (λ n. AreSpared ks c.in-Ok.settings n) c.len.ensures.value (where_so _ _ _ c.if-not-are_spared.false (c.are_spared.ensures ks of)))
    c.in-Err-load_without.ensures.cause
