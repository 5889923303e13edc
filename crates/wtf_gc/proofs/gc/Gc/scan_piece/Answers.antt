use Rattle.std.proofs.Common.{◌≡◌, ◌+◌, ◌-◌, ℕ, min, List, Some, sym, ap, ◌∙◌, subst}
use Rattle.std.specs.Option.{option_map}
use Rattle.wtf_gc.specs.declared.extent.Extent.{Extent}
use Rattle.wtf_gc.specs.declared.parts.Parts.{Parts}
use Rattle.wtf_gc.specs.Extents.{extents_cover, no_places}
use Rattle.wtf_gc.specs.Reading.{PartsRead}
use Rattle.wtf_gc.specs.Scans.{Advances}
use Rattle.wtf_gc.specs.Views.{GcView, run_view}
use Rattle.wtf_gc.proofs.Advancing.{does_parts, held_on}
use Rattle.wtf_gc.proofs.Living.{bases_lie, pruned_on}
use Rattle.wtf_gc.proofs.gc.Gc.scan_piece.Goals as goal

pub found_in-requires-clause-inside : goal.found_in-requires-clause-inside
found_in-requires-clause-inside g c =
    let p = c.prune.ensures in
    bases_lie g.S.SliceStore.kind c.args.dev.now c.args.kv.now c.prune.new.self
    (record { order = p.order; ascends = p.ascends; number = p.number; kept = p.kept; maps = p.maps }) c.requires.inside _

pub advance-requires-clause-held : goal.advance-requires-clause-held
advance-requires-clause-held g c = held_on c.args.self.now.running c.args.kv.now c.prune.new.self c.prune.ensures.pins c.requires.held

pub returns-in-Ok-clause-does : goal.returns-in-Ok-clause-does
returns-in-Ok-clause-does g c =
    let kind = g.S.SliceStore.kind in
    let old = c.args.dev.now in
    let new = c.found_in.new.dev in
    let kv = c.prune.new.self in
    let run = c.in-Some.run' in
    let n = c.args.parts in
    let left = c.in-Ok.left in
    let more = c.as_slice.result.now in
    let was : c.args.self.now.running ≡ Some (run_view run) = sym (ap (λ (x : GcView). x.running) c.self.view_is) ∙ ap (option_map run_view) c.in-Some.is in
    let parts_to : ℕ → Parts = λ d. record { first = 64 - run.left; end = (64 - run.left) + d } in
    let read : PartsRead kind old new kv (parts_to c.min-done.result) no_places (extents_cover more) =
    subst (λ (l : List Extent). PartsRead kind old new kv (parts_to c.min-done.result) no_places (extents_cover l))
    (sym c.as_slice.ensures) c.in_ok-found.ensures.read in
    let adv : Advances kv c.advance.new.kv c.args.self.now c.advance.new.self (min run.left n) left more =
    subst (λ (d : ℕ). Advances kv c.advance.new.kv c.args.self.now c.advance.new.self d left more) c.min-done.ensures c.in-Ok.ensures.ok in
    does_parts kind old new c.args.kv.now kv c.advance.new.kv c.args.self.now c.advance.new.self n left (run_view run)
    (parts_to c.min-done.result) more c.prune.ensures.pins was
    (ap parts_to c.min-done.ensures) read adv

pub returns-in-Ok-clause-prunes : goal.returns-in-Ok-clause-prunes
returns-in-Ok-clause-prunes g c =
    let p = c.prune.ensures in
    let adv = c.in-Ok.ensures.ok in
    pruned_on c.args.kv.now c.prune.new.self c.advance.new.kv
    (record { order = p.order; ascends = p.ascends; number = p.number; kept = p.kept; maps = p.maps }) adv.number adv.cells
