use Rattle.std.proofs.Common.{refl}
use Rattle.wtf_carry.specs.Asked.{turn, try_line, write_line}
use Rattle.wtf_carry.proofs.Carried.{text-more}
use Rattle.wtf_carry.proofs.putting.push_piece.Goals as goal

pub returns-clause-text : goal.returns-clause-text
returns-clause-text c =
    text-more c.args.text.now.items c.push_turn.new.text.items c.push_write.new.text.items (turn try_line c.args.path.now c.args.i c.args.at)
    (write_line c.args.piece.now)
    (c.in_ok-push_turn.ensures try_line refl) c.in_ok-push_write.ensures.text
