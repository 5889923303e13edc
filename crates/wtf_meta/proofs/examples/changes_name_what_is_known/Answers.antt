use Rattle.wtf_meta.proofs.MapBytes.{with_bytes}
use Rattle.wtf_meta.proofs.examples.changes_name_what_is_known.Goals as goal

pub returns : goal.returns
returns c = with_bytes
