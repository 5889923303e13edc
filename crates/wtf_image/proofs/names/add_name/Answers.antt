use Rattle.std.proofs.Common.{◌≡◌, cond, Some, sym, ap, ◌∙◌}
use Rattle.std.specs.BTreeMap.{is_at}
use Rattle.std.specs.Ordering.{nat_cmp}
use Rattle.std.specs.Cmp.Lexicographic.{slice_cmp}
use Rattle.std.proofs.lemmas.Result.{on_ok_weaker}
use Rattle.wtf_path.specs.Parts.{parent_of}
use Rattle.wtf_values.specs.Names.{with_name}
use Rattle.wtf_image.specs.Tables.{table_names}
use Rattle.wtf_image.proofs.NameTables.{name_added}
use Rattle.wtf_image.proofs.names.add_name.Goals as goal

pub returns : goal.returns
returns c = on_ok_weaker c.add_in.result (λ made d.
    let old = c.args.dirs.now.entries in
    let up = c.in-Ok.parent in
    let p = c.args.path.now in
    let parent : parent_of p ≡ Some up = sym c.in-Some.ensures.value ∙ ap (λ x. Some x) (sym c.in-Ok.ensures.value) in
    let named = ap (λ n. cond (is_at (slice_cmp nat_cmp up) d) (with_name (table_names old d) n) (table_names old d)) c.in_ok-name.ensures in
    name_added old c.add_in.new.dirs.entries d up p (made d ∙ named) parent) c.add_in.ensures
