use Rattle.std.proofs.Common.{ap, ◌∙◌}
use Rattle.wtf_model.specs.Tree.{PathSet, without_path}
use Rattle.wtf_machine.proofs.MapLaws.{set_of-take}
use Rattle.wtf_machine.proofs.file_paths.FilePaths.take.Goals as goal

pub returns : goal.returns
returns c = set_of-take _ _ c.args.path.now c.remove.ensures.updates.0 ∙ ap (λ (s : PathSet). without_path s c.args.path.now) c.self.view_is
