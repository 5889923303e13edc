use Rattle.std.proofs.Common.{◌≡◌, cond, None, Some, rules, sym, ap, ◌∙◌}
use Rattle.std.specs.Map.{lookup}
use Rattle.std.specs.Option.{unwrap_or}
use Rattle.std.specs.BTreeMap.{is_at}
use Rattle.std.specs.Ordering.{nat_cmp}
use Rattle.std.specs.Cmp.Lexicographic.{slice_cmp}
use Rattle.std.proofs.lemmas.Result.{on_ok_weaker}
use Rattle.wtf_values.specs.Names.{NamesOf, no_names, with_name}
use Rattle.wtf_image.specs.Tables.{table_names}
use Rattle.wtf_image.proofs.NameTables.{names_set}
use Rattle.wtf_image.proofs.names.add_in.Goals as goal

pub returns-in-Some : goal.returns-in-Some
returns-in-Some c = on_ok_weaker c.add.result (λ made d.
    let old = c.args.dirs.now.entries in
    let held = c.get_mut.follows.holds c.add.new.self in
    let is : lookup (is_at (slice_cmp nat_cmp c.args.dir)) old ≡ Some c.in-Some.names.now = sym c.in-Some.ensures.value in
    names_set old _ d c.args.dir c.args.name c.add.new.self ((held.3 (search rules)).0 d)
    (made ∙ ap (λ (o : NamesOf). with_name o c.args.name) (sym (ap (λ o. unwrap_or o no_names) is)))) c.add.ensures.ok

pub returns : goal.returns
returns c = λ d.
    let old = c.get_mut.follows.lender-at-none.entries in
    let same : old ≡ c.args.dirs.now.entries = search rules in
    let none : lookup (is_at (slice_cmp nat_cmp c.args.dir)) old ≡ None = search rules in
    names_set old _ d c.args.dir c.args.name c.add-2.new.self (c.in_ok-insert.ensures.updates.0 d)
    (c.in_ok-add.ensures.ok ∙ ap (λ (o : NamesOf). with_name o c.args.name) (c.new-names.ensures ∙ sym (ap (λ o. unwrap_or o no_names) none)))
    ∙ ap (λ es. cond (is_at (slice_cmp nat_cmp c.args.dir) d) (with_name (table_names es d) c.args.name) (table_names es d)) same
