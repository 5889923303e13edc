use Rattle.std.proofs.Common.{sym, ap, ◌∙◌}
use Rattle.std.specs.Str.{bytes_eq}
use Rattle.std.specs.FinMap.Entries.{find}
use Rattle.std.specs.Ordering.{nat_cmp}
use Rattle.std.specs.Cmp.Lexicographic.{slice_cmp}
use Rattle.wtf_machine.specs.Maps.{node_of}
use Rattle.wtf_machine.proofs.OrderedLaws.{seen, find-tree, find-here, find-later, folder-here}
use Rattle.wtf_machine.proofs.path_map.PathMap.has_folder.Goals as goal

pub loop-at-init : goal.loop-at-init
loop-at-init c = find-tree _ _ _ c.iter-rest.ensures.rest c.self.view_is c.args.path.now

pub returns-then-eq : goal.returns-then-eq
returns-then-eq c =
    let left = ap (λ es. find (slice_cmp nat_cmp) c.args.path.now (seen node_of es)) c.in-Some.ensures.steps in
    let same = ap (λ at. bytes_eq at c.args.path.now) (sym c.as_bytes.ensures.value) ∙ sym c.eq.ensures ∙ c.if-eq.true in
    folder-here _ c.in-Some.node.now _
    (find-here c.in-Some.at.now c.args.path.now c.in-Some.node.now c.next.new.self _ (sym left ∙ c.loop-at.invariant) same) c.is_folder.ensures

pub loop-at-preserved : goal.loop-at-preserved
loop-at-preserved c =
    let left = ap (λ es. find (slice_cmp nat_cmp) c.args.path.now (seen node_of es)) c.in-Some.ensures.steps in
    let differ = ap (λ at. bytes_eq at c.args.path.now) (sym c.as_bytes.ensures.value) ∙ sym c.eq.ensures ∙ c.if-eq.false in
    find-later c.in-Some.at.now c.args.path.now c.in-Some.node.now c.next.new.self _ (sym left ∙ c.loop-at.invariant) differ
