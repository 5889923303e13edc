use Rattle.wtf_overlay.proofs.SameEntries.{entry_exact}
use Rattle.wtf_overlay.proofs.layers.Layers.is_same.Goals as goal

pub is_same-requires : goal.is_same-requires
is_same-requires c = record { exact = entry_exact }
