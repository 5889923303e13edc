use Rattle.wtf_spillfmt.proofs.Lists.{round}
use Rattle.wtf_spillfmt.proofs.encoding.encode.Goals as goal

pub returns-clause-again : goal.returns-clause-again
returns-clause-again c = λ region within. round region c.args.list.now c.in_ok-put_entries.ensures.form.1 c.requires.compact within
