use Rattle.std.proofs.Common.{◌≡◌, ◌-◌, ◌≤◌, ◌||◌, ℕ, nat_eq, count_by, List, Some, Option, sym, ap, ◌∙◌, subst, arith}
use Rattle.std.specs.Option.{option_map}
use Rattle.std.proofs.lemmas.Result.{IfOk-at_ok}
use Rattle.wtf_base.specs.Places.{Place}
use Rattle.wtf_kv.specs.Stores.{times_pinned}
use Rattle.wtf_gc.specs.Extents.{extents_cover}
use Rattle.wtf_gc.specs.Pinning.{IsPinnedFor}
use Rattle.wtf_gc.specs.Scans.{AreHeld, run_on, with_finished}
use Rattle.wtf_gc.specs.Views.{ScanView, RunView, GcView, run_view, scan_view}
use Rattle.wtf_gc.proofs.Advancing.{advances_on, advances_last}
use Rattle.wtf_gc.proofs.gc.Gc.advance.Goals as goal

pub unpin_each-requires : goal.unpin_each-requires
unpin_each-requires c =
    let run = c.in-Some.run' in
    let was : c.args.self.now.running ≡ Some (run_view run) =
    sym (ap (λ (x : GcView). x.running) c.self.view_is) ∙ ap (option_map run_view) (sym c.take.ensures.value ∙ c.in-Some.is) in
    let held : AreHeld (Some (run_view run)) c.args.kv.now = subst (λ (o : Option RunView). AreHeld o c.args.kv.now) was c.requires.held in
    λ n. subst (λ (l : List ℕ). count_by (nat_eq n) l ≤ times_pinned c.args.kv.now n) (sym (c.as_slice.ensures.value ∙ c.grow.ensures.seen)) (held n)

pub returns-clause-ok : goal.returns-clause-ok
returns-clause-ok c =
    let old = c.args.self.now in
    let run = c.in-Some.run' in
    let next = c.grow.new.self in
    let done = c.args.done in
    let was : old.running ≡ Some (run_view run) =
    sym (ap (λ (x : GcView). x.running) c.self.view_is) ∙ ap (option_map run_view) (sym c.take.ensures.value ∙ c.in-Some.is) in
    let adds : (p : Place) → extents_cover next.scan.found p ≡ (extents_cover run.scan.found p || extents_cover c.args.found.now p) =
    IfOk-at_ok (λ u. (p : Place) → extents_cover next.scan.found p ≡ (extents_cover run.scan.found p || extents_cover c.args.found.now p))
    c.in_default-grow.is c.grow.ensures.adds in
    let left : next.left ≡ run.left - done = IfOk-at_ok (λ u. next.left ≡ run.left - done) c.in_default-grow.is c.grow.ensures.left in
    let none : run.left - done ≡ 0 = omega (arith, left, c.if-left-gt0.false) in
    let undid : IsPinnedFor run.seen.items c.unpin_each.new.kv c.args.kv.now =
    subst (λ (l : List ℕ). IsPinnedFor l c.unpin_each.new.kv c.args.kv.now) (c.as_slice.ensures.value ∙ c.grow.ensures.seen) c.unpin_each.ensures in
    let scan : ScanView = record { marks = run.scan.marks.items; found = next.scan.found } in
    let done_is : scan_view next.scan ≡ scan = λ i. record { marks = c.grow.ensures.marks i; found = next.scan.found } in
    let newer : scan_view c.replace.new.dest ≡ scan = ap scan_view c.replace.ensures.after ∙ done_is in
    advances_last old _ (run_view run) was done next.scan.found c.args.found.now adds c.args.kv.now c.unpin_each.new.kv none undid
    ((λ i. record {
      running = option_map run_view (c.take.ensures.after i);
      finished = c.saturating_add-self-inside.ensures i;
      older = scan_view (c.replace.ensures.value i);
      newer = newer i;
      freed = c.self.inside.freed;
    }) ∙ ap (λ (x : GcView). with_finished x scan) c.self.view_is)

pub returns-then-left-gt0-clause-ok : goal.returns-then-left-gt0-clause-ok
returns-then-left-gt0-clause-ok c =
    let old = c.args.self.now in
    let run = c.in-Some.run' in
    let next = c.grow.new.self in
    let done = c.args.done in
    let was : old.running ≡ Some (run_view run) =
    sym (ap (λ (x : GcView). x.running) c.self.view_is) ∙ ap (option_map run_view) (sym c.take.ensures.value ∙ c.in-Some.is) in
    let adds : (p : Place) → extents_cover next.scan.found p ≡ (extents_cover run.scan.found p || extents_cover c.args.found.now p) =
    IfOk-at_ok (λ u. (p : Place) → extents_cover next.scan.found p ≡ (extents_cover run.scan.found p || extents_cover c.args.found.now p))
    c.in_default-grow.is c.grow.ensures.adds in
    let left : next.left ≡ run.left - done = IfOk-at_ok (λ u. next.left ≡ run.left - done) c.in_default-grow.is c.grow.ensures.left in
    let then_run : RunView = run_on (run_view run) done next.scan.found in
    let is : run_view next ≡ then_run = λ i. record {
      scan = record { marks = c.grow.ensures.marks i; found = next.scan.found };
      seen = c.grow.ensures.seen i;
      left = left i;
    } in
    advances_on old _ (run_view run) was done next.scan.found c.args.found.now adds c.args.kv.now next.left left c.if-left-gt0.true
    ((λ i. record {
      running = Some (is i);
      finished = c.self.inside.finished;
      older = scan_view c.self.inside.older;
      newer = scan_view c.self.inside.newer;
      freed = c.self.inside.freed;
    }) ∙ ap (λ (x : GcView). record x { running = Some then_run }) c.self.view_is)
