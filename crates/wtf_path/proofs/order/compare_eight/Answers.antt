use Rattle.std.proofs.Common.{◌∙◌}
use Rattle.wtf_path.proofs.Compared.{eight-order}
use Rattle.wtf_path.proofs.order.compare_eight.Goals as goal

pub returns : goal.returns
returns c =
    let first = c.args.first.now in
    let second = c.args.second.now in
    c.cmp.ensures
    ∙ rw (c.eight.ensures, c.eight-2.ensures) (eight-order first second c.args.at c.type_inv.first c.type_inv.second c.requires.0 c.requires.1)
