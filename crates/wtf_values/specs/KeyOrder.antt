-- The order of keys, as it is computed.
use Rattle.std.proofs.Common.{refl, ap, ◌∙◌, Some}
use Rattle.std.specs.Cmp.{Agrees, Some-then}
use Rattle.std.specs.Ordering.{nat_cmp, ordering_then, partial_ordering_then}
use Rattle.std.specs.Cmp.Lexicographic.{slice_cmp}
use Rattle.std.specs.declared.cmp.Ordering.{Ordering}
use Rattle.std.specs.declared.cmp.Ordering.TheVariants.{Less, Greater}
use Rattle.wtf_base.specs.contracts.ids.InodeIdOrd.TheImpl as inode
use Rattle.wtf_values.specs.declared.key.Key.{Key}
use Rattle.wtf_values.specs.declared.key.Key.TheVariants.{Path, Dir, Inode, Region, Links}
use Rattle.wtf_values.specs.contracts.key.KeyPartialOrd.TheImpl as partial

-- by kind, then by what they name
abbrev pub key_order : Key → Key → Ordering
key_order (Path p) (Path q) = slice_cmp nat_cmp p q
key_order (Path p) (Dir q) = Less
key_order (Path p) (Inode j) = Less
key_order (Path p) (Region j s) = Less
key_order (Path p) (Links j) = Less
key_order (Dir p) (Path q) = Greater
key_order (Dir p) (Dir q) = slice_cmp nat_cmp p q
key_order (Dir p) (Inode j) = Less
key_order (Dir p) (Region j s) = Less
key_order (Dir p) (Links j) = Less
key_order (Inode i) (Path q) = Greater
key_order (Inode i) (Dir q) = Greater
key_order (Inode i) (Inode j) = inode.ghosts.cmp i j
key_order (Inode i) (Region j s) = Less
key_order (Inode i) (Links j) = Less
key_order (Region i r) (Path q) = Greater
key_order (Region i r) (Dir q) = Greater
key_order (Region i r) (Inode j) = Greater
key_order (Region i r) (Region j s) = ordering_then (inode.ghosts.cmp i j) (nat_cmp r s)
key_order (Region i r) (Links j) = Less
key_order (Links i) (Path q) = Greater
key_order (Links i) (Dir q) = Greater
key_order (Links i) (Inode j) = Greater
key_order (Links i) (Region j s) = Greater
key_order (Links i) (Links j) = inode.ghosts.cmp i j

-- it answers what the comparison does that may not
pub agrees : Agrees partial.ghosts.partial_cmp key_order
agrees (Path p) (Path q) = refl
agrees (Path p) (Dir q) = refl
agrees (Path p) (Inode j) = refl
agrees (Path p) (Region j s) = refl
agrees (Path p) (Links j) = refl
agrees (Dir p) (Path q) = refl
agrees (Dir p) (Dir q) = refl
agrees (Dir p) (Inode j) = refl
agrees (Dir p) (Region j s) = refl
agrees (Dir p) (Links j) = refl
agrees (Inode i) (Path q) = refl
agrees (Inode i) (Dir q) = refl
agrees (Inode i) (Inode j) = inode.Laws.matches_partial_cmp-law i j
agrees (Inode i) (Region j s) = refl
agrees (Inode i) (Links j) = refl
agrees (Region i r) (Path q) = refl
agrees (Region i r) (Dir q) = refl
agrees (Region i r) (Inode j) = refl
agrees (Region i r) (Region j s) =
    ap (λ o. partial_ordering_then o (Some (nat_cmp r s))) (inode.Laws.matches_partial_cmp-law i j) ∙ Some-then (inode.ghosts.cmp i j) (nat_cmp r s)
agrees (Region i r) (Links j) = refl
agrees (Links i) (Path q) = refl
agrees (Links i) (Dir q) = refl
agrees (Links i) (Inode j) = refl
agrees (Links i) (Region j s) = refl
agrees (Links i) (Links j) = inode.Laws.matches_partial_cmp-law i j
