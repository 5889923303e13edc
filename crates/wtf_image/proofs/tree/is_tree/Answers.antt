use Rattle.std.proofs.Common.{◌≡◌, List, true, sym, subst, ◌∙◌}
use Rattle.std.specs.List.{list_all}
use Rattle.wtf_imagefmt.specs.declared.records.PathRecord.{PathRecord}
use Rattle.wtf_imagefmt.specs.declared.records.FileRecord.{FileRecord}
use Rattle.wtf_imagefmt.specs.Rows.{image_rows, file_rows}
use Rattle.wtf_image.specs.Rules.{is_named_times, is_good_file}
use Rattle.wtf_image.specs.Tables.{count_in, shown, has_shown_parent, is_shown_node}
use Rattle.wtf_image.proofs.TreeLaws.{top_is, parents_are, recorded_are, named_are, tree_is}
use Rattle.wtf_image.proofs.tree.is_tree.Goals as goal

pub returns : goal.returns
returns c =
    let x = image_rows c.args.image.now in
    let m = shown c.args.kv.now in
    let shows = c.requires.shows in
    let paths_are = c.as_slice-paths.ensures.value in
    let files_are = c.as_slice-files.ensures.value in
    let counts = c.args.counts.now.entries in
    let named : list_all (λ f. is_named_times x.version (count_in counts f.inode)) x.files ≡ true =
    subst (λ fs. list_all (λ f. is_named_times x.version (count_in counts f.inode)) (file_rows fs) ≡ true) files_are
    (sym c.are_named.ensures ∙ c.if-not-are_named.false) in
    tree_is x
    (sym (top_is m x shows) ∙ sym c.in_ok-is_folder.ensures ∙ c.if-not-branch.false)
    (sym (parents_are m x shows) ∙ subst (λ ps. list_all (has_shown_parent m) ps ≡ true) paths_are (sym c.in_ok-have_parents.ensures ∙ c.if-not-branch-2.false))
    (sym (recorded_are m x shows) ∙ subst (λ (ps : List PathRecord). list_all (λ r. is_shown_node m r.node) ps ≡ true) paths_are
    (sym c.are_recorded.ensures ∙ c.if-not-are_recorded.false))
    (sym (named_are x counts c.requires.counts) ∙ named)
    c.are_good_files.result
    (subst (λ (fs : List FileRecord). c.are_good_files.result ≡ list_all (is_good_file x.header.region) (file_rows fs)) files_are c.are_good_files.ensures)
