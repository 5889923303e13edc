use Rattle.wtf_dev.specs.Memory.{mem_store}
use Rattle.wtf_region.specs.Devs.{inside_of}
use Rattle.wtf_gc_rows.proofs.Readying.{one_edit}
use Rattle.wtf_gc_rows.proofs.scans.remove.Goals as goal

pub install-requires-clause-lie : goal.install-requires-clause-lie
install-requires-clause-lie c =
    one_edit (inside_of mem_store c.args.dev.now) c.cut_range.new.self c.new-changes.result _ c.new-changes.ensures c.in_ok-cut_range.ensures.ok tt
