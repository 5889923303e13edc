-- The bytes of entries, slices and pointers. Numbers are big-endian.
use Rattle.std.specs.Prelude.{ℕ, List, [], ◌∷◌, ◌++◌, length, Option, None, Some}
use Rattle.std.specs.List.{flat_map}
use Rattle.std.specs.Int.{w32, w64, to_be_bytes}
use Rattle.wtf_base.specs.declared.pointer.Pointer.{Pointer}
use Rattle.wtf_overlay.specs.Rows.{EntryRow}

-- a pointer: server, file, offset
unfoldable pub pointer_text : Pointer → List ℕ
pointer_text p = (p.server.0 ∷ []) ++ ((p.file ∷ []) ++ to_be_bytes w64 p.at)

-- a slice: the number of its pointers, and these
unfoldable pub slice_text : List Pointer → List ℕ
slice_text ps = (length ps ∷ []) ++ flat_map pointer_text ps

-- 0 for zeros, 1 and a slice
unfoldable pub part_text : Option (List Pointer) → List ℕ
part_text None = 0 ∷ []
part_text (Some ps) = 1 ∷ slice_text ps

-- an entry: offset, length, and what it holds
unfoldable pub entry_text : EntryRow → List ℕ
entry_text e = to_be_bytes w32 e.off ++ (to_be_bytes w32 e.len ++ part_text e.part)

-- entries: their number, and these
unfoldable pub entries_text : List EntryRow → List ℕ
entries_text es = to_be_bytes w32 (length es) ++ flat_map entry_text es
