use Rattle.wtf_spillfmt.proofs.Lists.{read_bytes, read_compact, read_within}
use Rattle.wtf_spillfmt.proofs.laws.what_was_decoded_is_encoded.Goals as goal

pub returns-clause-bytes : goal.returns-clause-bytes
returns-clause-bytes c = λ region bytes es fits read. read_bytes region bytes es fits read

pub returns-clause-compact : goal.returns-clause-compact
returns-clause-compact c = λ region bytes es read. read_compact region bytes es read

pub returns-clause-within : goal.returns-clause-within
returns-clause-within c = λ region bytes es fits read. read_within region bytes es fits read
