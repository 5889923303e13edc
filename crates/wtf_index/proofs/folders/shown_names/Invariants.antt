use Rattle.std.proofs.Common.{◌≡◌, take}
use Rattle.wtf_values.specs.Names.{names_in}
use Rattle.wtf_index.proofs.folders.shown_names.Given as goal

abbrev pub invariant-loop-i : goal.invariant-loop-i
invariant-loop-i l = l.shown.items ≡ take l.i (names_in l.names)
