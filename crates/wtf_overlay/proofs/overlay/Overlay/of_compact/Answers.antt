use Rattle.std.proofs.Common.{subst}
use Rattle.wtf_overlay.specs.Compact.{IsCompact}
use Rattle.wtf_overlay.proofs.Looked.{compact_run}
use Rattle.wtf_overlay.proofs.overlay.Overlay.of_compact.Goals as goal

pub of_run-requires : goal.of_run-requires
of_run-requires c = compact_run c.args.entries.items (subst (λ l. IsCompact l) c.as_slice.ensures.value c.in_ok-look.ensures.compact)
