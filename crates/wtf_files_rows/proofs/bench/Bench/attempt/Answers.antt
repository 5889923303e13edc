use Rattle.std.proofs.Common.{arith}
use Rattle.wtf_files_rows.proofs.BenchLaws.{held_tried}
use Rattle.wtf_files_rows.proofs.bench.Bench.attempt.Goals as goal

pub invariant_of-self-2 : goal.invariant_of-self-2
invariant_of-self-2 c =
    let was = c.self.invariant in
    let at = c.self.inside in
    let did = c.in_ok-answer.ensures in
    let below = c.number.ensures.pins at.txn.at.base was.1.fit.pinned in (
      was.0,
      held_tried at.parts.shelf at.parts.settings at.kv c.attempt.new.kv at.txn c.attempt.new.self was.1 did.maps did.fit
          (omega (arith, below, c.number.ensures.number)) _ c.in_ok-answer.answer did.refused did.tried,
    )
