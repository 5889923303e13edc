use Rattle.std.proofs.Common.{◌≡◌, ◌∙◌, ◌+◌, ◌++◌, ◌∷◌, [], ap, arith, get_or, rules, take}
use Rattle.std.proofs.lemmas.List.{take_more}
use Rattle.wtf_dev.specs.declared.disk_call.DiskCall.{DiskCall}
use Rattle.wtf_dev.specs.DiskTape.{disk_file}
use Rattle.wtf_dev.proofs.DiskStops.{leftover_more}
use Rattle.wtf_dev.proofs.DiskTapes.{file_next}
use Rattle.wtf_dev.proofs.leftover.left_of.Goals as goal

pub loop-call-preserved : goal.loop-call-preserved
loop-call-preserved c =
    let i = c.loop-call.call-index in
    let before = take i c.args.calls.now in
    let here : get_or c.args.calls.now i c.call-item.result ≡ c.call-item.result = search rules in
    let one : take (i + 1) c.args.calls.now ≡ before ++ c.call-item.result ∷ [] =
    take_more c.args.calls.now i c.call-item.result (omega (arith, c.loop-call-test.true)) ∙ ap (λ (x : DiskCall). before ++ x ∷ []) here in
    record {
      file = c.redo.ensures.file ∙ c.loop-call.invariant.file;
      ones = c.redo.ensures.ones ∙ c.loop-call.invariant.ones;
      is = leftover_more c.call-item.result (disk_file before c.args.file) _ c.loop-call.invariant.ones c.loop-call.invariant.file
          (file_next before (take (i + 1) c.args.calls.now) c.call-item.result one c.args.file) c.loop-call.invariant.is c.in_ok-redo.ensures.redone;
    }
