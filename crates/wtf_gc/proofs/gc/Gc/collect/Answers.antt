use Rattle.std.proofs.Common.{◌≡◌, ◌+◌, ℕ, ◌++◌, List, length, take, ap, ◌∙◌, subst}
use Rattle.std.specs.Option.{option_map}
use Rattle.wtf_base.specs.Places.{Place}
use Rattle.wtf_region.specs.Devs.{GoesOn}
use Rattle.wtf_gc.specs.declared.extent.Extent.{Extent}
use Rattle.wtf_gc.specs.Extents.{extents_cover}
use Rattle.wtf_gc.specs.Frees.{AreZeroed, ranges_of, StopsAt, FreesAll, IsCollectFault}
use Rattle.wtf_gc.specs.Unused.{used_by, IsUnused}
use Rattle.wtf_gc.specs.Views.{GcView, mark_in, run_view, scan_view}
use Rattle.wtf_gc.proofs.Collecting.{with_freed, frees_all, stopped}
use Rattle.wtf_gc.proofs.gc.Gc.collect.Goals as goal

pub returns-in-Err-free_each-clause-fault : goal.returns-in-Err-free_each-clause-fault
returns-in-Err-free_each-clause-fault g c =
    let kind = g.S.SliceStore.kind in
    let k = c.args.k in
    let in_self = c.self.inside in
    let before : GcView =
    record {
      running = option_map run_view in_self.running;
      finished = in_self.finished;
      older = scan_view in_self.older;
      newer = scan_view in_self.newer;
      freed = in_self.freed;
    } in
    let used = c.in-Ok.used.items in
    let es = c.in-Ok-unused_of.garbage.extents.items in
    let bytes = c.in-Ok-unused_of.garbage.bytes in
    let are : (p : Place) → p.server ≡ k → extents_cover used p ≡ used_by in_self.older.found in_self.newer.found in_self.freed p = λ p e.
    c.in-Ok.ensures p e ∙ (λ i. used_by (c.as_slice.ensures i) (c.as_slice-2.ensures i) (c.as_slice-3.ensures i) p) in
    let unused : IsUnused k (mark_in in_self.older.marks.items) (extents_cover used) 8 (ranges_of es) bytes =
    subst (λ (l : List Extent). IsUnused k (mark_in in_self.older.marks.items) (extents_cover l) 8 (ranges_of es) bytes) c.as_slice-5.ensures.value
    (subst (λ (ms : List ℕ). IsUnused k (mark_in ms) (extents_cover c.as_slice-5.result.now) 8 (ranges_of es) bytes)
    c.as_slice-4.ensures.value c.in-Ok-unused_of.ensures) in
    let done = c.in-Err-free_each.stopped.done in
    let why = c.in-Err-free_each.stopped.why in
    let stop : StopsAt kind c.args.dev.now c.free_each.new.dev (ranges_of es) done why =
    subst (λ (l : List Extent). StopsAt kind c.args.dev.now c.free_each.new.dev (ranges_of l) done why)
    c.as_slice-7.ensures.value c.in-Err-free_each.ensures.err in
    let freed : c.shorten.new.self ≡ take (length in_self.freed + done) (in_self.freed ++ es) = c.shorten.ensures
    ∙ (λ i. take (c.len-before.ensures i + done) ((c.in_default.ensures.ok ∙ ap (λ l. in_self.freed ++ l) c.as_slice-6.ensures.value) i)) in
    subst (λ (x : GcView). IsCollectFault kind k c.args.dev.now c.free_each.new.dev x (with_freed before c.shorten.new.self) why) c.self.view_is
    (stopped g.met.S.SliceStore.laws k c.args.dev.now c.free_each.new.dev before c.shorten.new.self es used bytes are unused done why stop freed)

pub returns-clause-frees : goal.returns-clause-frees
returns-clause-frees g c =
    let kind = g.S.SliceStore.kind in
    let k = c.args.k in
    let in_self = c.self.inside in
    let before : GcView =
    record {
      running = option_map run_view in_self.running;
      finished = in_self.finished;
      older = scan_view in_self.older;
      newer = scan_view in_self.newer;
      freed = in_self.freed;
    } in
    let used = c.in-Ok.used.items in
    let es = c.in-Ok-unused_of.garbage.extents.items in
    let bytes = c.in-Ok-unused_of.garbage.bytes in
    let are : (p : Place) → p.server ≡ k → extents_cover used p ≡ used_by in_self.older.found in_self.newer.found in_self.freed p = λ p e.
    c.in-Ok.ensures p e ∙ (λ i. used_by (c.as_slice.ensures i) (c.as_slice-2.ensures i) (c.as_slice-3.ensures i) p) in
    let unused : IsUnused k (mark_in in_self.older.marks.items) (extents_cover used) 8 (ranges_of es) bytes =
    subst (λ (l : List Extent). IsUnused k (mark_in in_self.older.marks.items) (extents_cover l) 8 (ranges_of es) bytes) c.as_slice-5.ensures.value
    (subst (λ (ms : List ℕ). IsUnused k (mark_in ms) (extents_cover c.as_slice-5.result.now) 8 (ranges_of es) bytes)
    c.as_slice-4.ensures.value c.in-Ok-unused_of.ensures) in
    let freed = c.merge_when_due-merged.new.self in
    let goes : GoesOn kind c.args.dev.now c.free_each.new.dev (ranges_of es) =
    subst (λ (l : List Extent). GoesOn kind c.args.dev.now c.free_each.new.dev (ranges_of l)) c.as_slice-7.ensures.value c.in_default-free_each.ensures.ok in
    let zeroed : AreZeroed kind c.args.dev.now c.free_each.new.dev (ranges_of es) =
    subst (λ (l : List Extent). AreZeroed kind c.args.dev.now c.free_each.new.dev (ranges_of l)) c.as_slice-7.ensures.value
    c.in_default-free_each.ensures.zeroed in
    subst (λ (x : GcView). FreesAll kind k c.args.dev.now c.free_each.new.dev x (with_freed before freed) bytes) c.self.view_is
    (frees_all g.met.S.SliceStore.laws k c.args.dev.now c.free_each.new.dev before freed es used bytes are unused goes zeroed
    (λ p. c.merge_when_due-merged.ensures p ∙ ap (λ l. extents_cover l p) (c.in_default.ensures.ok ∙ ap (λ l. in_self.freed ++ l) c.as_slice-6.ensures.value)))
