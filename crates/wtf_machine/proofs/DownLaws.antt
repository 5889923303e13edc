-- Servers that are down, kept as the keys of a set.
use Rattle.std.proofs.Common.{◌≡◌, ℕ, Bool, true, false, cond, not, ◌||◌, ◌&&◌, List, refl, sym, ap, ◌∙◌}
use Rattle.std.specs.List.{list_any}
use Rattle.std.specs.BTreeMap.{is_at}
use Rattle.std.specs.Ordering.{nat_cmp, eq_by_cmp}
use Rattle.std.specs.Cmp.{nat_cmp_total, eq_by_cmp_equiv}
use Rattle.std.specs.FinSet.{from_list, contains, insert, remove, contains-from_list, contains-insert, contains-remove, same_set, nat_cmp-IsAntisymmetric}

pub has_key : (ks : List ℕ) (q : ℕ) → contains (from_list {R = nat_cmp} ks) q ≡ list_any (is_at (nat_cmp q)) ks
has_key ks q = contains-from_list nat_cmp_total ks q

-- keys to which one was added, and from which one was taken

added_so : (b : Bool) (o : Bool) → cond b true o ≡ (b || o)
added_so true o = refl
added_so false o = refl

taken_so : (b : Bool) (o : Bool) → cond b false o ≡ (not b && o)
taken_so true o = refl
taken_so false o = refl

pub adds : (old new : List ℕ) (k : ℕ) → ((q : ℕ) → list_any (is_at (nat_cmp q)) new ≡ cond (is_at (nat_cmp k) q) true (list_any (is_at (nat_cmp q)) old))
    → from_list {R = nat_cmp} new ≡ insert (from_list old) k
adds old new k is =
    same_set nat_cmp_total nat_cmp-IsAntisymmetric _ _ (λ q.
    has_key new q ∙ is q ∙ added_so (is_at (nat_cmp k) q) (list_any (is_at (nat_cmp q)) old)
    ∙ ap (λ b. b || list_any (is_at (nat_cmp q)) old) ((eq_by_cmp_equiv nat_cmp_total).symm k q) ∙ ap (λ b. eq_by_cmp nat_cmp q k || b) (sym (has_key old q))
    ∙ sym (contains-insert nat_cmp_total (from_list old) k q))

pub takes : (old new : List ℕ) (k : ℕ) → ((q : ℕ) → list_any (is_at (nat_cmp q)) new ≡ cond (is_at (nat_cmp k) q) false (list_any (is_at (nat_cmp q)) old))
    → from_list {R = nat_cmp} new ≡ remove (from_list old) k
takes old new k is =
    same_set nat_cmp_total nat_cmp-IsAntisymmetric _ _ (λ q.
    has_key new q ∙ is q ∙ taken_so (is_at (nat_cmp k) q) (list_any (is_at (nat_cmp q)) old)
    ∙ ap (λ b. not b && list_any (is_at (nat_cmp q)) old) ((eq_by_cmp_equiv nat_cmp_total).symm k q)
    ∙ ap (λ b. not (eq_by_cmp nat_cmp q k) && b) (sym (has_key old q))
    ∙ sym (contains-remove nat_cmp_total (from_list old) k q))
