-- The order of keys.
use Rattle.std.specs.Prelude.{◌≡◌, ℕ, ◌<◌, ◌-◌, ◌^◌, Bool, true, false, ◌&&◌, nat_le, List, refl}
use Rattle.std.proofs.Common.{ap}
use Rattle.std.proofs.lemmas.Map.Lookups.{exact_unsigned}
use Rattle.std.specs.FinMap.{slice_cmp-IsAntisymmetric, nat_cmp-IsAntisymmetric}
use Rattle.std.specs.Ordering.{nat_cmp, ordering_then, is_eq}
use Rattle.std.specs.Cmp.Lexicographic.{slice_cmp}
use Rattle.std.specs.declared.cmp.Ordering.{Ordering}
use Rattle.std.specs.declared.cmp.Ordering.TheVariants.{Equal, Less, Greater}
use Rattle.wtf_base.specs.declared.ids.InodeId.{InodeId}
use Rattle.wtf_values.specs.declared.key.Key.{Key}
use Rattle.wtf_values.specs.declared.key.Key.TheVariants.{Path, Dir, Inode, Region, Links}
use Rattle.wtf_values.specs.contracts.key.KeyOrd.TheImpl.{ghosts}

-- the order of keys: by kind, then by what they name
abbrev pub key_cmp : Key → Key → Ordering
key_cmp = ghosts.cmp

-- the order of inodes
abbrev pub inode_cmp : InodeId → InodeId → Ordering
inode_cmp i j = ordering_then (nat_cmp i.tx.0 j.tx.0) (nat_cmp i.index j.index)

-- whether a key is a region of this inode, from the first number up to and with the second
abbrev pub is_region_within : InodeId → ℕ → ℕ → Key → Bool
is_region_within i from to (Path p) = false
is_region_within i from to (Dir p) = false
is_region_within i from to (Inode j) = false
is_region_within i from to (Links j) = false
is_region_within i from to (Region j r) = is_eq (inode_cmp i j) && (nat_le from r && nat_le r to)

-- whether a key is a region's
abbrev pub is_region : Key → Bool
is_region (Path p) = false
is_region (Dir p) = false
is_region (Inode j) = false
is_region (Region j r) = true
is_region (Links j) = false

-- the greatest inode there can be
abbrev pub last_inode : InodeId
last_inode = record { tx = record { 0 = 2 ^ 64 - 1 }; index = 2 ^ 32 - 1 }

-- two equal parts
then_both : (a b : Ordering) → ordering_then a b ≡ Equal → (a ≡ Equal) × (b ≡ Equal)
then_both Less b h = absurd (cc)
then_both Equal b h = (refl, h)
then_both Greater b h = absurd (cc)

pub same_inode : (i j : InodeId) → inode_cmp i j ≡ Equal → i ≡ j
same_inode i j h =
    let both = then_both _ _ h in
    let tx : i.tx.0 ≡ j.tx.0 = exact_unsigned i.tx.0 j.tx.0 both.0 in
    let index : i.index ≡ j.index = exact_unsigned i.index j.index both.1 in
    λ k. record { tx = record { 0 = tx k }; index = index k }

same_path : (p q : List ℕ) → slice_cmp nat_cmp p q ≡ Equal → p ≡ q
same_path = slice_cmp-IsAntisymmetric nat_cmp-IsAntisymmetric

-- keys that compare as equal are the same
pub same_key : (x y : Key) → key_cmp x y ≡ Equal → x ≡ y
same_key (Path p) (Path q) h = ap Path (same_path p q h)
same_key (Path p) (Dir q) h = absurd (cc)
same_key (Path p) (Inode j) h = absurd (cc)
same_key (Path p) (Region j s) h = absurd (cc)
same_key (Path p) (Links j) h = absurd (cc)
same_key (Dir p) (Path q) h = absurd (cc)
same_key (Dir p) (Dir q) h = ap Dir (same_path p q h)
same_key (Dir p) (Inode j) h = absurd (cc)
same_key (Dir p) (Region j s) h = absurd (cc)
same_key (Dir p) (Links j) h = absurd (cc)
same_key (Inode i) (Path q) h = absurd (cc)
same_key (Inode i) (Dir q) h = absurd (cc)
same_key (Inode i) (Inode j) h = ap Inode (same_inode i j h)
same_key (Inode i) (Region j s) h = absurd (cc)
same_key (Inode i) (Links j) h = absurd (cc)
same_key (Region i r) (Path q) h = absurd (cc)
same_key (Region i r) (Dir q) h = absurd (cc)
same_key (Region i r) (Inode j) h = absurd (cc)
same_key (Region i r) (Region j s) h =
    let both = then_both _ _ h in
    let inode : i ≡ j = same_inode i j both.0 in
    let region : r ≡ s = exact_unsigned r s both.1 in
    λ k. Region (inode k) (region k)
same_key (Region i r) (Links j) h = absurd (cc)
same_key (Links i) (Path q) h = absurd (cc)
same_key (Links i) (Dir q) h = absurd (cc)
same_key (Links i) (Inode j) h = absurd (cc)
same_key (Links i) (Region j s) h = absurd (cc)
same_key (Links i) (Links j) h = ap Links (same_inode i j h)
