use Rattle.std.proofs.Common.{sym, ◌∙◌}
use Rattle.wtf_occ.proofs.Noted.{positions_some, positions_none}
use Rattle.wtf_occ.proofs.write_set.positions_in.Goals as goal

pub returns-in_default : goal.returns-in_default
returns-in_default g c = sym (positions_none g.K.Ord.cmp c.args.positions.now.entries c.args.key.now (sym c.in_default.ensures.value))

pub returns : goal.returns
returns g c = c.as_slice.ensures.value ∙ sym (positions_some g.K.Ord.cmp c.args.positions.now.entries c.args.key.now c.in-Some.known.now (sym c.in-Some.ensures.value))
