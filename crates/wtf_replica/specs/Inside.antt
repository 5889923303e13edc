-- Which extents lie inside the stores, as tests.
use Rattle.std.specs.Prelude.{ℕ, ◌+◌, Bool, ◌&&◌, nat_lt, nat_le, List, slice_get}
use Rattle.std.specs.List.{list_all}
use Rattle.std.specs.Option.{option_map, unwrap_or}
use Rattle.wtf_base.specs.declared.pointer.Pointer.{Pointer}
use Rattle.wtf_base.specs.declared.slice.Slice.{Slice}
use Rattle.wtf_base.specs.Slices.{pointers_of}
use Rattle.wtf_dev.specs.Store.{StoreKind}

-- the length of a file of a server, 0 where there is no such server
abbrev pub size_in : {S : Type 0} → StoreKind S → List S → ℕ → ℕ → ℕ
size_in kind shelf k file = unwrap_or (option_map (λ s. (kind.view s).size file) (slice_get shelf k)) 0

-- an extent lies inside the stores of so many servers, in one of their eight files, where each file has such a size
abbrev pub lies_inside : ℕ → (ℕ → ℕ → ℕ) → Pointer → Bool
lies_inside servers size p = nat_lt p.server.0 servers && (nat_lt p.file 8 && nat_le (p.at + p.len) (size p.server.0 p.file))

-- each copy of a slice does
abbrev pub slice_lies_inside : ℕ → (ℕ → ℕ → ℕ) → Slice → Bool
slice_lies_inside servers size s = list_all (lies_inside servers size) (pointers_of s)
