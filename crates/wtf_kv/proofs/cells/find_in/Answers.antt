use Rattle.std.proofs.Common.{sym, ◌∙◌, ap, refl, subst}
use Rattle.std.specs.Option.{option_copied}
use Rattle.wtf_kv.specs.Seen.{ascends}
use Rattle.wtf_kv.proofs.Updated.{versions_some, versions_none}
use Rattle.wtf_kv.proofs.cells.find_in.Goals as goal

pub returns-in_err-versions : goal.returns-in_err-versions
returns-in_err-versions g c =
    let none = sym c.get.ensures.value ∙ ap option_copied c.in_err-versions.was in
    rw (versions_none g.K.Ord.cmp c.args.cells.now.entries c.args.key.now none, c.from_residual.ensures) refl

pub find_version-requires : goal.find_version-requires
find_version-requires g c =
    let some = sym c.get.ensures.value ∙ ap option_copied c.in_ok-versions.was in
    subst ascends (versions_some g.K.Ord.cmp c.args.cells.now.entries c.args.key.now _ some ∙ sym c.as_slice.ensures.value) c.requires

pub returns : goal.returns
returns g c =
    let some = sym c.get.ensures.value ∙ ap option_copied c.in_ok-versions.was in
    rw (versions_some g.K.Ord.cmp c.args.cells.now.entries c.args.key.now _ some, ← c.as_slice.ensures.value) c.find_version.ensures
