use Rattle.std.proofs.Common.{refl}
use Rattle.wtf_carry.specs.Asked.{turn, abort_line, read_line}
use Rattle.wtf_carry.proofs.Carried.{text-more}
use Rattle.wtf_carry.proofs.reading.push_share.Goals as goal

pub returns : goal.returns
returns c =
    text-more c.args.text.now.items c.push_turn.new.text.items c.push_number.new.text.items (turn abort_line c.args.path.now c.args.i c.args.at)
    (read_line c.args.n)
    (c.in_ok-push_turn.ensures abort_line refl) c.in_ok-push_number.ensures
