use Rattle.std.proofs.Common.{List, ℕ, Some, refl, ap, subst}
use Rattle.wtf_gc.specs.Pinning.{IsPinnedFor}
use Rattle.wtf_gc.specs.Views.{RunView, GcView}
use Rattle.wtf_gc.proofs.gc.Gc.scan_begin.Goals as goal

pub returns-clause-starts : goal.returns-clause-starts
returns-clause-starts g c =
    let run : RunView = record { scan = record { marks = c.in_ok-marks.marks.items; found = c.new.result }; seen = c.in_ok-seen.seen.items; left = 64 } in
    record {
      run = run;
      is = ap (λ (x : GcView). record x { running = Some run }) c.self.view_is;
      mark = c.in_ok-marks.ensures;
      found = c.new.ensures;
      left = refl;
      seen = c.in_ok-seen.ensures;
      pins = subst (λ (l : List ℕ). IsPinnedFor l c.args.kv.now c.pin_each.new.kv) c.as_slice.ensures.value c.in_ok-pin_each.ensures.ok;
    }
