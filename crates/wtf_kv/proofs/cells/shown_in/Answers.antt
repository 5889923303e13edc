use Rattle.std.proofs.Common.{sym, ◌∙◌, ap, subst}
use Rattle.std.specs.Option.{option_copied}
use Rattle.wtf_kv.specs.Seen.{upto, ascends}
use Rattle.wtf_kv.proofs.Updated.{versions_some, versions_none}
use Rattle.wtf_kv.proofs.cells.shown_in.Goals as goal

pub returns-in_default : goal.returns-in_default
returns-in_default g c =
    let none = sym c.get.ensures.value ∙ ap option_copied c.in_default.is in
    sym (ap (upto c.args.number) (versions_none g.K.Ord.cmp c.args.cells.now.entries c.args.key.now none))

pub count_upto-count-requires : goal.count_upto-count-requires
count_upto-count-requires g c =
    let some = sym c.get.ensures.value ∙ ap option_copied c.in-Some.is in
    subst ascends (versions_some g.K.Ord.cmp c.args.cells.now.entries c.args.key.now _ some ∙ sym c.as_slice-all.ensures.value) c.requires

pub returns : goal.returns
returns g c =
    let some = sym c.get.ensures.value ∙ ap option_copied c.in-Some.is in
    c.count_upto-count.ensures.front ∙ ap (upto c.args.number) (c.as_slice-all.ensures.value ∙ sym (versions_some g.K.Ord.cmp c.args.cells.now.entries c.args.key.now _ some))
