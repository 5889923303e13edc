use Rattle.std.proofs.Common.{map, ◌∙◌, ap}
use Rattle.std.specs.Prelude.{string_bytes}
use Rattle.wtf_healer.specs.Ends.{run_span}
use Rattle.wtf_healer.specs.Words.{lost_in}
use Rattle.wtf_heal.proofs.Running.{found_zero, found_untouched, healed_out, none_before, fine_out}
use Rattle.wtf_heal.proofs.heal_over.Goals as goal

pub returns-clause-healed : goal.returns-clause-healed
returns-clause-healed g c held ks tree named some telling room live zero =
    let view = g.O.Sink.view in
    let ran = c.wtf_heal-found in
    let brought = c.brought_out-status in
    let old = c.args.out.now in
    let mid = ran.new.out in
    let new = brought.new.out in
    healed_out view old mid new ran.result brought.result brought.ensures.out g.S.SliceStore.kind ks
    (run_span g.K.Keeper.view g.K.Keeper.follows (c.args.shelf.now, c.args.keeper.now) (ran.new.shelf, ran.new.keeper)) tree held
    (ran.ensures.healed held ks tree (ap (λ words. lost_in (map string_bytes words)) c.behind_dir-words.ensures ∙ named) some telling room live
    (found_zero view old mid new ran.result brought.result brought.ensures.out zero))

pub returns-clause-complete : goal.returns-clause-complete
returns-clause-complete g c held ks tree named some telling live still =
    let view = g.O.Sink.view in
    let ran = c.wtf_heal-found in
    let brought = c.brought_out-status in
    let old = c.args.out.now in
    let mid = ran.new.out in
    let new = brought.new.out in
    fine_out view old mid new ran.result brought.result brought.ensures.out brought.ensures.faults still.0 ran.ensures.still
    (ran.ensures.complete held ks tree (ap (λ words. lost_in (map string_bytes words)) c.behind_dir-words.ensures ∙ named) some telling live
    (none_before view old mid new ran.result brought.result brought.ensures.out brought.ensures.faults still.0, still.1, still.2))

pub returns-clause-silent : goal.returns-clause-silent
returns-clause-silent g c same =
    let ran = c.wtf_heal-found in
    let brought = c.brought_out-status in
    ran.ensures.silent
    (found_untouched g.O.Sink.view c.args.out.now ran.new.out brought.new.out ran.result brought.result brought.ensures.out same)
