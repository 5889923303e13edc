use Rattle.wtf_image.proofs.StandsLaws.{stands_few}
use Rattle.wtf_image.proofs.examples.image_is_small.Goals as goal

pub returns : goal.returns
returns c = λ told bytes t image. stands_few told bytes t image
