use Rattle.wtf_durable.proofs.Finding.{found_opens}
use Rattle.wtf_durable.proofs.laws.what_is_found_is_opened.Goals as goal

pub returns : goal.returns
returns c = λ told journal image t finds is. found_opens told journal image t finds is
