-- Which bytes lie inside the stores, on servers of the settings.
use Rattle.std.specs.Prelude.{◌<◌, ◌&&◌, ℕ, Bool, true, nat_lt, List, Option, None, Some, slice_get}
use Rattle.std.specs.List.{All, list_all}
use Rattle.wtf_base.specs.declared.pointer.Pointer.{Pointer}
use Rattle.wtf_base.specs.declared.settings.Settings.{Settings}
use Rattle.wtf_base.specs.declared.slice.Slice.{Slice}
use Rattle.wtf_base.specs.Slices.{pointers_of}
use Rattle.wtf_dev.specs.Store.{StoreKind}
use Rattle.wtf_overlay.specs.Origin.{Place}
use Rattle.wtf_overlay.specs.declared.part.Part.{Part}
use Rattle.wtf_overlay.specs.declared.part.Part.TheVariants.{Zero, Held}
use Rattle.wtf_overlay.specs.declared.part.Entry.{Entry}
use Rattle.wtf_replica.specs.Inside.{slice_lies_inside}
use Rattle.wtf_meta.specs.Maps.{Map}
use Rattle.wtf_meta.specs.Bytes.{MapBytes, any_slice}

-- how long a file of a store is; 0 where there is no store
abbrev pub size_in : {S : Type 0} → StoreKind S → Option S → ℕ → ℕ
size_in kind None f = 0
size_in kind (Some s) f = (kind.view s).size f

-- a place lies on a server of the settings, in one of its eight files, before its end
abbrev pub is_place_inside : {S : Type 0} → StoreKind S → List S → Settings → Place → Bool
is_place_inside kind shelf settings p =
    nat_lt p.server settings.servers && (nat_lt p.file 8 && nat_lt p.at (size_in kind (slice_get shelf p.server) p.file))

-- the places of a byte all do; a hole has none
abbrev pub is_inside : {S : Type 0} → StoreKind S → List S → Settings → List Place → Bool
is_inside kind shelf settings places = list_all (is_place_inside kind shelf settings) places

-- each byte of each entry of each region of a map does, also one that later entries hide, and each byte of its base's slice
abbrev pub IsStoredInside : {S : Type 0} → StoreKind S → List S → Settings → Map → Type 0
IsStoredInside kind shelf settings w = MapBytes (is_inside kind shelf settings) any_slice w

-- each copy of a slice lies on one of n servers
abbrev pub IsOnServers : ℕ → Slice → Type 0
IsOnServers n s = All (λ (p : Pointer). p.server.0 < n) (pointers_of s)

-- what a part holds lies inside the stores of so many servers, where each file has such a size
abbrev pub part_lies_inside : ℕ → (ℕ → ℕ → ℕ) → Part → Bool
part_lies_inside servers size Zero = true
part_lies_inside servers size (Held s) = slice_lies_inside servers size s

-- and all that a list names does
abbrev pub list_lies_inside : ℕ → (ℕ → ℕ → ℕ) → List Entry → Bool
list_lies_inside servers size es = list_all (λ (e : Entry). part_lies_inside servers size e.part) es
