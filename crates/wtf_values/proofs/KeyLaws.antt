-- Laws of the order of keys.
use Rattle.std.proofs.Common.{◌≡◌, ◌≢◌, ℕ, ◌≤◌, true, false, ◌&&◌, nat_le, refl, ap, sym, ◌∙◌, arith, inl, inr}
use Rattle.std.proofs.lemmas.Bool.{cases_Bool, and_from, and_parts, leb-true, le-leb}
use Rattle.std.proofs.lemmas.Bool.Decides.{nat_tests}
use Rattle.std.specs.BTreeMap.{is_at}
use Rattle.std.specs.Cmp.{IsTotalOrder, eq_by_cmp_equiv}
use Rattle.std.specs.Ordering.{nat_cmp, is_le, is_eq, ordering_then, ordering_reverse}
use Rattle.std.specs.declared.cmp.Ordering.{Ordering}
use Rattle.std.specs.declared.cmp.Ordering.TheVariants.{Less, Equal, Greater}
use Rattle.wtf_base.specs.declared.ids.InodeId.{InodeId}
use Rattle.wtf_kv.specs.Edits.{is_between}
use Rattle.wtf_values.specs.declared.key.Key.{Key}
use Rattle.wtf_values.specs.declared.key.Key.TheVariants.{Path, Dir, Inode, Region, Links}
use Rattle.wtf_values.specs.contracts.key.KeyOrd.TheImpl.Laws.{total-law}
use Rattle.wtf_values.specs.Keys.{key_cmp, inode_cmp, is_region_within, same_inode, same_key}

-- the order is total
pub key_total : IsTotalOrder key_cmp
key_total = total-law

-- a key is at itself
pub at_itself : (k : Key) → is_at (key_cmp k) k ≡ true
at_itself k = (eq_by_cmp_equiv key_total).refl k

equal_when : (o : Ordering) → is_eq o ≡ true → o ≡ Equal
equal_when Less h = absurd (cc)
equal_when Equal h = refl
equal_when Greater h = absurd (cc)

-- a key that another is at is that one
pub at_same : (k q : Key) → is_at (key_cmp k) q ≡ true → k ≡ q
at_same k q h = same_key k q (equal_when (key_cmp k q) h)

-- and no other key is at it
pub at_none : (k q : Key) → k ≢ q → is_at (key_cmp k) q ≡ false
at_none k q differ = elim (cases_Bool (is_at (key_cmp k) q)) [
  | inl at ↦ absurd (differ (at_same k q at))
  | inr off ↦ off
]

-- an inode compares as equal to itself
pub inode_itself : (i : InodeId) → inode_cmp i i ≡ Equal
inode_itself i = equal_when (inode_cmp i i) (at_itself (Inode i))

inode_flipped : (i j : InodeId) → inode_cmp j i ≡ ordering_reverse (inode_cmp i j)
inode_flipped i j = key_total.antisymm (Inode j) (Inode i)

le_is : (a b : ℕ) → is_le (nat_cmp a b) ≡ nat_le a b
le_is a b = grind (arith, nat_tests)

both_le : (o : Ordering) (a r b : ℕ) → (is_le (ordering_then o (nat_cmp a r)) && is_le (ordering_then (ordering_reverse o) (nat_cmp r b))) ≡ (is_eq o && (nat_le a r && nat_le r b))
both_le Less a r b = refl
both_le Equal a r b = ap (λ t. t && is_le (nat_cmp r b)) (le_is a r) ∙ ap (λ t. nat_le a r && t) (le_is r b)
both_le Greater a r b = refl

-- what lies between two regions of a file: its regions from the first number up to and with the second
pub between_regions : (i : InodeId) (from to : ℕ) (q : Key) → is_between key_cmp (Region i from) (Region i to) q ≡ is_region_within i from to q
between_regions i from to (Path p) = refl
between_regions i from to (Dir p) = refl
between_regions i from to (Inode j) = refl
between_regions i from to (Links j) = refl
between_regions i from to (Region j r) =
    ap (λ o. is_le (ordering_then (inode_cmp i j) (nat_cmp from r)) && is_le (ordering_then o (nat_cmp r to))) (inode_flipped i j) ∙ both_le (inode_cmp i j) from r to

-- a region of a file with a number in a range
pub record IsRegionIn (i : InodeId) (from to : ℕ) (q : Key) : Type 0 where
  pub number : ℕ
  pub is : q ≡ Region i number
  pub above : from ≤ number
  pub below : number ≤ to

region_in : (i : InodeId) (from to : ℕ) (q : Key) → is_region_within i from to q ≡ true → IsRegionIn i from to q
region_in i from to (Path p) h = absurd (cc)
region_in i from to (Dir p) h = absurd (cc)
region_in i from to (Inode j) h = absurd (cc)
region_in i from to (Links j) h = absurd (cc)
region_in i from to (Region j r) h =
    let parts = and_parts (is_eq (inode_cmp i j)) (nat_le from r && nat_le r to) h in
    let ends = and_parts (nat_le from r) (nat_le r to) parts.1 in
    let inode : i ≡ j = same_inode i j (equal_when (inode_cmp i j) parts.0) in
    record { number = r; is = ap (λ x. Region x r) (sym inode); above = leb-true from r ends.0; below = leb-true r to ends.1 }

-- each key between two regions of a file is one of its regions in that range
pub between_only : (i : InodeId) (from to : ℕ) (q : Key) → is_between key_cmp (Region i from) (Region i to) q ≡ true → IsRegionIn i from to q
between_only i from to q h = region_in i from to q (sym (between_regions i from to q) ∙ h)

-- of the regions of the file, those in the range lie between
pub between_own : (i : InodeId) (from to r : ℕ) → is_between key_cmp (Region i from) (Region i to) (Region i r) ≡ (nat_le from r && nat_le r to)
between_own i from to r = between_regions i from to (Region i r) ∙ ap (λ o. is_eq o && (nat_le from r && nat_le r to)) (inode_itself i)

pub between_region : (i : InodeId) (from to r : ℕ) → from ≤ r → r ≤ to → is_between key_cmp (Region i from) (Region i to) (Region i r) ≡ true
between_region i from to r above below = between_own i from to r ∙ and_from _ _ (le-leb from r above) (le-leb r to below)

-- and no region of another file does
pub between_other : (i j : InodeId) (from to r : ℕ) → i ≢ j → is_between key_cmp (Region i from) (Region i to) (Region j r) ≡ false
between_other i j from to r differ = between_regions i from to (Region j r) ∙ elim (cases_Bool (is_eq (inode_cmp i j))) [
  | inl same ↦ absurd (differ (same_inode i j (equal_when (inode_cmp i j) same)))
  | inr apart ↦ ap (λ b. b && (nat_le from r && nat_le r to)) apart
]
