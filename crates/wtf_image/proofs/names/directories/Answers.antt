use Rattle.std.proofs.Common.{sym, ap, ◌∙◌}
use Rattle.wtf_imagefmt.specs.Lookups.{added_name}
use Rattle.wtf_image.proofs.NameTables.{names_more}
use Rattle.wtf_image.proofs.names.directories.Goals as goal

pub loop-record-preserved : goal.loop-record-preserved
loop-record-preserved c = λ d.
    let r = c.record-item.result in
    c.in_ok-add_name.ensures d ∙ ap (added_name d r.path) (c.loop-record.invariant d)
    ∙ sym (names_more d c.args.paths.now c.loop-record.record-index r c.loop-record-test.true c.record-item.is)
