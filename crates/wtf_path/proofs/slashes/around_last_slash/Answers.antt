use Rattle.wtf_path.proofs.Cut.{around-from_last}
use Rattle.wtf_path.proofs.slashes.around_last_slash.Goals as goal

pub returns : goal.returns
returns c =
    around-from_last c.args.text.now c.last_slash-at.result c.last_slash-at.ensures.within c.last_slash-at.ensures.slash c.last_slash-at.ensures.last
