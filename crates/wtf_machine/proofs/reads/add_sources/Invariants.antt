use Rattle.std.proofs.Common.{◌≡◌, ◌++◌, drop}
use Rattle.wtf_model.specs.Items.{sources_reads}
use Rattle.wtf_machine.proofs.reads.add_sources.Given as goal

-- what the files so far need, and what those that are left need, is what all need
abbrev pub invariant-loop-path : goal.invariant-loop-path
invariant-loop-path l = l.into.items ++ sources_reads (drop l.path-index l.paths) ≡ l.initial.into.items ++ sources_reads l.paths
