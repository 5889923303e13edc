use Rattle.std.proofs.Common.{ap, ◌∙◌}
use Rattle.wtf_model.specs.Tree.{PathSet, with_path}
use Rattle.wtf_machine.proofs.MapLaws.{set_of-put}
use Rattle.wtf_machine.proofs.file_paths.FilePaths.add.Goals as goal

pub returns : goal.returns
returns c = set_of-put _ _ c.args.path c.in_ok-insert.ensures.updates.0 ∙ ap (λ (s : PathSet). with_path s c.args.path) c.self.view_is
