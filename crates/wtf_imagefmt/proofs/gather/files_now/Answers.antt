use Rattle.std.proofs.Common.{◌∷◌, sym, ap, subst, ◌∙◌}
use Rattle.std.specs.Map.Iter.{deref_pair}
use Rattle.std.proofs.lemmas.Map.Iter.{rest_more, rest_all}
use Rattle.wtf_kv.specs.Stores.{map_at}
use Rattle.wtf_kv.specs.Walks.{AreRowsFrom}
use Rattle.wtf_values.specs.Keys.{key_cmp}
use Rattle.wtf_imagefmt.specs.Rows.{file_rows}
use Rattle.wtf_imagefmt.specs.Shapes.{AreRegionsAscending}
use Rattle.wtf_imagefmt.specs.Shown.{shown}
use Rattle.wtf_imagefmt.proofs.Gathered.{FilesWalked, first_inode, files_begin, files_go_on, files_stop, all_files, not_inode, regions_go_on}
use Rattle.wtf_imagefmt.proofs.gather.files_now.Goals as goal

pub loop-key-init : goal.loop-key-init
loop-key-init c =
    let kv = c.args.kv.now in
    let are = subst (λ n. AreRowsFrom key_cmp first_inode (map_at key_cmp kv n) c.rows-key-items.result) c.number.ensures.number c.rows-key-items.ensures in
    let left = c.into_iter-key-iterator.result in
    subst (λ fs. FilesWalked kv (file_rows fs) left × AreRegionsAscending (file_rows fs)) (sym c.new-files.ensures.items)
    (files_begin kv left (subst (AreRowsFrom key_cmp first_inode (map_at key_cmp kv kv.number)) (sym c.into_iter-key-iterator.ensures.into_iter_gives) are), tt)

pub loop-key-preserved : goal.loop-key-preserved
loop-key-preserved c =
    let kv = c.args.kv.now in
    let fs = file_rows c.loop-key.files.items in
    let v = c.in-Some.value.now in
    let rest = c.next.new.self in
    let more = rest_more deref_pair c.loop-key.key-iterator rest c.next.result (c.in-Some.key, c.in-Some.value) c.in-Some.is c.next.ensures.steps in
    subst (λ fs. FilesWalked kv fs rest × AreRegionsAscending fs) (sym c.in_ok-add_file.ensures) (
      files_go_on kv fs c.in-Inode.inode v c.loop-key.key-iterator rest (more ∙ ap (λ k. (k, v) ∷ rest) c.in-Inode.is) c.loop-key.invariant.0,
      regions_go_on (shown kv) fs c.in-Inode.inode v c.loop-key.invariant.1,
    )

pub returns-in_default : goal.returns-in_default
returns-in_default c =
    let rest = c.next.new.self in
    let more = rest_more deref_pair c.loop-key.key-iterator rest c.next.result (c.in-Some.key, c.in-Some.value) c.in-Some.is c.next.ensures.steps in
    files_stop c.args.kv.now (file_rows c.loop-key.files.items) (c.in-Some.key.now, c.in-Some.value.now) c.loop-key.key-iterator rest more
    (not_inode c.in-Some.key.now c.in_default.not-Inode) c.loop-key.invariant.1 c.loop-key.invariant.0

pub returns : goal.returns
returns c =
    let end = rest_all deref_pair c.loop-key.key-iterator c.next.new.self c.next.result c.in-None.is c.next.ensures.steps in
    all_files c.args.kv.now (file_rows c.loop-key.files.items) c.loop-key.key-iterator end c.loop-key.invariant.1 c.loop-key.invariant.0
