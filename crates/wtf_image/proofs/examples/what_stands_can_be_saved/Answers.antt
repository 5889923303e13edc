use Rattle.wtf_meta.specs.Maps.{metadata_at}
use Rattle.wtf_image.proofs.StandsLaws.{stands_savable}
use Rattle.wtf_image.proofs.examples.what_stands_can_be_saved.Goals as goal

pub returns : goal.returns
returns c = λ b told tx calls n kv t st begun before. stands_savable b told tx calls (metadata_at kv kv.number) t st n begun before
