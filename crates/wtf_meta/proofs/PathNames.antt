-- Paths of one directory: they differ by their names, and are in the order of these.
use Rattle.std.proofs.Common.{◌≡◌, ℕ, false, cond, List, [], ◌∷◌, ◌++◌, Some, refl, sym, ap, ◌∙◌, append_assoc}
use Rattle.std.specs.Prelude.{bytes_eq}
use Rattle.std.specs.List.{join_with_byte, All}
use Rattle.std.specs.Cmp.{tied_itself}
use Rattle.std.specs.Cmp.Lexicographic.{slice_cmp}
use Rattle.std.specs.Ordering.{nat_cmp, ordering_then}
use Rattle.std.proofs.lemmas.Cmp.{nat_cmp_total}
use Rattle.std.proofs.lemmas.List.Elements.{All-head}
use Rattle.wtf_path.specs.Grammar.{IsName, IsPath, spelling}
use Rattle.wtf_path.specs.Parts.{names_of, last_name, without_last, name_of, parent_with, parent_of, entry_prefix}
use Rattle.wtf_path.proofs.Refused.{parts_of-join}

-- all names but the last, and then the last
cut_last : (n m : List ℕ) (ms : List (List ℕ)) → join_with_byte 47 (n ∷ without_last (m ∷ ms)) ++ 47 ∷ last_name (m ∷ ms) ≡ join_with_byte 47 (n ∷ m ∷ ms)
cut_last n m [] = refl
cut_last n m (k ∷ ms) = append_assoc n (47 ∷ join_with_byte 47 (m ∷ without_last (k ∷ ms))) (47 ∷ last_name (k ∷ ms)) ∙ ap (λ l. n ++ 47 ∷ l) (cut_last m k ms)

-- a name has a byte, so what begins with one is not the root
not_root : (n : List ℕ) (rest : List ℕ) → IsName n → bytes_eq (47 ∷ (n ++ rest)) (47 ∷ []) ≡ false
not_root [] rest name = absurd (name.some refl)
not_root (b ∷ bs) rest name = refl

front : (n : List ℕ) (ns : List (List ℕ)) → (rest : List ℕ) × (join_with_byte 47 (n ∷ ns) ≡ n ++ rest)
front n [] = ([], sym (append_nil n))
  where
    append_nil : (xs : List ℕ) → xs ++ [] ≡ xs
    append_nil [] = refl
    append_nil (x ∷ xs) = ap (λ l. x ∷ l) (append_nil xs)
front n (m ∷ ms) = (47 ∷ join_with_byte 47 (m ∷ ms), refl)

spelled : (n : List ℕ) (ns : List (List ℕ)) → IsName n → entry_prefix (spelling (without_last (n ∷ ns))) ++ last_name (n ∷ ns) ≡ spelling (n ∷ ns)
spelled n [] name = refl
spelled n (m ∷ ms) name =
    let begins = front n (without_last (m ∷ ms)) in
    let dir : List ℕ = 47 ∷ join_with_byte 47 (n ∷ without_last (m ∷ ms)) in
    let other : bytes_eq dir (47 ∷ []) ≡ false = ap (λ l. bytes_eq (47 ∷ l) (47 ∷ [])) begins.1 ∙ not_root n begins.0 name in
    ap (λ b. cond b (47 ∷ []) (dir ++ 47 ∷ []) ++ last_name (m ∷ ms)) other
    ∙ append_assoc dir (47 ∷ []) (last_name (m ∷ ms))
    ∙ ap (λ l. 47 ∷ l) (cut_last n m ms)

joined_by : (ns : List (List ℕ)) (dir : List ℕ) → All IsName ns → parent_with ns ≡ Some dir → entry_prefix dir ++ last_name ns ≡ spelling ns
joined_by [] dir all up = absurd (cc)
joined_by (n ∷ ns) dir all up =
    let same : spelling (without_last (n ∷ ns)) ≡ dir = cc in
    ap (λ d. entry_prefix d ++ last_name (n ∷ ns)) (sym same) ∙ spelled n ns (All-head IsName n ns all)

-- a path is what stands before the names of its directory, and its name
pub name-joined : (p dir : List ℕ) → IsPath p → parent_of p ≡ Some dir → p ≡ entry_prefix dir ++ name_of p
name-joined p dir path up =
    let names : names_of p ≡ path.names = ap names_of path.spelled ∙ parts_of-join path.names path.each in
    path.spelled
    ∙ sym (joined_by path.names dir path.each (sym (ap parent_with names) ∙ up))
    ∙ ap (λ ns. entry_prefix dir ++ last_name ns) (sym names)

-- paths of one directory with one name are one
pub name-tells : (p q dir : List ℕ) → IsPath p → IsPath q → parent_of p ≡ Some dir → parent_of q ≡ Some dir → name_of p ≡ name_of q → p ≡ q
name-tells p q dir path other up down same = name-joined p dir path up ∙ ap (λ n. entry_prefix dir ++ n) same ∙ sym (name-joined q dir other down)

prefix_cmp : (front xs ys : List ℕ) → slice_cmp nat_cmp (front ++ xs) (front ++ ys) ≡ slice_cmp nat_cmp xs ys
prefix_cmp [] xs ys = refl
prefix_cmp (b ∷ bs) xs ys = ap (λ o. ordering_then o (slice_cmp nat_cmp (bs ++ xs) (bs ++ ys))) (tied_itself nat_cmp_total b) ∙ prefix_cmp bs xs ys

-- they are in the order of their names
pub name-orders : (p q dir : List ℕ) → IsPath p → IsPath q → parent_of p ≡ Some dir → parent_of q ≡ Some dir
    → slice_cmp nat_cmp p q ≡ slice_cmp nat_cmp (name_of p) (name_of q)
name-orders p q dir path other up down =
    ap (λ x. slice_cmp nat_cmp x q) (name-joined p dir path up)
    ∙ ap (slice_cmp nat_cmp (entry_prefix dir ++ name_of p)) (name-joined q dir other down)
    ∙ prefix_cmp (entry_prefix dir) (name_of p) (name_of q)
