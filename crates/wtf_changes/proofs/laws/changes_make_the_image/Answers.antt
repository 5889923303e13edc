use Rattle.wtf_changes.proofs.Law.{image_again}
use Rattle.wtf_changes.proofs.laws.changes_make_the_image.Goals as goal

pub returns : goal.returns
returns c = λ kv since s next x z ch images form are. image_again kv since s next x z images ch form are
