use Rattle.std.proofs.Common.{arith, ◌+◌}
use Rattle.wtf_script.specs.declared.limits.TheConstants.{LINE_BYTES}
use Rattle.std.proofs.lemmas.Grind.{common_steps}
use Rattle.wtf_script.proofs.Chunks.{kept}
use Rattle.wtf_script.proofs.lines.keep.Goals as goal

pub returns-clause-items : goal.returns-clause-items
returns-clause-items c =
    kept (LINE_BYTES + 1) c.args.line.now.items c.args.part.now c.extend_from_slice.new.self.items c.min-n.result c.requires (grind (arith, common_steps)) (grind (arith, common_steps))
