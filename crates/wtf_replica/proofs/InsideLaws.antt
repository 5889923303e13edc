-- Laws of the tests whether an extent and whether a slice lie inside the stores.
use Rattle.std.proofs.Common.{◌≡◌, ℕ, ◌+◌, ◌<◌, ◌≤◌, ◌&&◌, true, nat_lt, nat_le, List, length, get_or, take, Option, Some, ◌∙◌, ap, arith}
use Rattle.std.specs.Prelude.{slice_get}
use Rattle.std.specs.List.{All, list_all}
use Rattle.std.specs.Option.{option_map, unwrap_or}
use Rattle.std.proofs.lemmas.Bool.{and_parts, and_from, ltb-true, lt-ltb, leb-true, le-leb}
use Rattle.std.proofs.lemmas.List.Folds.{list_all_more}
use Rattle.std.proofs.lemmas.List.Sums.{AllPass-from_list_all, list_all-from_AllPass}
use Rattle.std.proofs.lemmas.Option.{slice_get-get_or, slice_get_within, get_or_from_slice_get}
use Rattle.wtf_base.specs.declared.pointer.Pointer.{Pointer}
use Rattle.wtf_base.specs.declared.slice.Slice.{Slice}
use Rattle.wtf_base.specs.Slices.{pointers_of}
use Rattle.wtf_base.proofs.Elements.{element}
use Rattle.wtf_dev.specs.Store.{StoreKind}
use Rattle.wtf_replica.specs.Copies.{IsCopyInside, IsInside}
use Rattle.wtf_replica.specs.Inside.{size_in, lies_inside, slice_lies_inside}

-- the length of a file of a server that is there
pub size_in-at : {S : Type 0} (kind : StoreKind S) (shelf : List S) (k file : ℕ) (d : S) → k < length shelf
    → size_in kind shelf k file ≡ (kind.view (get_or shelf k d)).size file
size_in-at {S} kind shelf k file d below = ap (λ (o : Option S). unwrap_or (option_map (λ s. (kind.view s).size file) o) 0) (slice_get-get_or shelf k d below)

-- one pointer more, in a loop over them
pub lies_more : (servers : ℕ) (size : ℕ → ℕ → ℕ) (ps : List Pointer) (i : ℕ) (p : Pointer) → slice_get ps i ≡ Some p → lies_inside servers size p ≡ true
    → list_all (lies_inside servers size) (take i ps) ≡ true → list_all (lies_inside servers size) (take (i + 1) ps) ≡ true
lies_more servers size ps i p is good so_far =
    list_all_more (lies_inside servers size) ps i p (slice_get_within ps i p is) ∙ ap (λ b. b && lies_inside servers size (get_or ps i p)) so_far
    ∙ ap (lies_inside servers size) (get_or_from_slice_get ps i p p is) ∙ good

module _ {S : Type 0} (kind : StoreKind S) (shelf : List S) (servers : ℕ) where
  -- an extent that passes the test is on one of so many servers, and lies inside its store
  pub extent_from : (p : Pointer) → servers ≤ length shelf → lies_inside servers (size_in kind shelf) p ≡ true → (p.server.0 < servers) × IsCopyInside kind shelf p
  extent_from p enough h =
      let size : ℕ = size_in kind shelf p.server.0 p.file in
      let a = and_parts (nat_lt p.server.0 servers) (nat_lt p.file 8 && nat_le (p.at + p.len) size) h in
      let b = and_parts (nat_lt p.file 8) (nat_le (p.at + p.len) size) a.1 in
      let known : p.server.0 < servers = ltb-true p.server.0 servers a.0 in
      let there : p.server.0 < length shelf = omega (arith, known, enough) in
      (known, (there, ltb-true p.file 8 b.0, λ d. omega (arith, leb-true (p.at + p.len) size b.1, size_in-at kind shelf p.server.0 p.file d there)))

  -- and one that is and does passes it
  pub extent_to : (p : Pointer) → p.server.0 < servers → IsCopyInside kind shelf p → lies_inside servers (size_in kind shelf) p ≡ true
  extent_to p known inside =
      let size : ℕ = size_in kind shelf p.server.0 p.file in
      let d : S = element shelf p.server.0 inside.0 in
      let fits : p.at + p.len ≤ size = omega (arith, inside.2 d, size_in-at kind shelf p.server.0 p.file d inside.0) in
      and_from (nat_lt p.server.0 servers) (nat_lt p.file 8 && nat_le (p.at + p.len) size) (lt-ltb p.server.0 servers known)
      (and_from (nat_lt p.file 8) (nat_le (p.at + p.len) size) (lt-ltb p.file 8 inside.1) (le-leb (p.at + p.len) size fits))

  -- the same of a slice
  pub slice_from : (s : Slice) → servers ≤ length shelf → slice_lies_inside servers (size_in kind shelf) s ≡ true
      → All (λ (p : Pointer). p.server.0 < servers) (pointers_of s) × IsInside kind shelf s
  slice_from s enough h =
      let all = AllPass-from_list_all (lies_inside servers (size_in kind shelf)) (pointers_of s) h in
      (λ k d below. (extent_from (get_or (pointers_of s) k d) enough (all k d below)).0, λ k d below. (extent_from (get_or (pointers_of s) k d) enough (all k d below)).1)

  pub slice_to : (s : Slice) → All (λ (p : Pointer). p.server.0 < servers) (pointers_of s) → IsInside kind shelf s → slice_lies_inside servers (size_in kind shelf) s ≡ true
  slice_to s known inside =
      list_all-from_AllPass (lies_inside servers (size_in kind shelf)) (pointers_of s) (λ k d below. extent_to (get_or (pointers_of s) k d) (known k d below) (inside k d below))
