use Rattle.std.proofs.Common.{refl}
use Rattle.wtf_path.proofs.Splits.{length-parts_of, some_bytes}
use Rattle.wtf_path.proofs.rules.count_parts.Goals as goal

pub returns : goal.returns
returns c =
    rw (length-parts_of c.args.behind.now (some_bytes _ _ c.is_empty.ensures c.if-is_empty.false))
    (rw c.count_slashes.ensures.value refl)
