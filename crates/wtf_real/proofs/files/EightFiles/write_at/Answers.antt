use Rattle.std.proofs.Common.{rules, ◌<◌, length}
use Rattle.wtf_real.proofs.Told.{asked_of}
use Rattle.wtf_real.proofs.files.EightFiles.write_at.Goals as goal

pub returns : goal.returns
returns g c =
    let below : c.args.file < length c.self.inside.held = search rules in
    asked_of g.F.SliceFile.told c.self.inside.held c.args.file c.index-self-file.result _ c.args.self.now c.self.view_is below c.write_at.result _ c.write_at.ensures
