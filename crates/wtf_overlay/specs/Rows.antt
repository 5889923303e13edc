-- What an entry is on disk, as numbers.
use Rattle.std.specs.Prelude.{ℕ, List, map, Option, None, Some}
use Rattle.wtf_base.specs.declared.pointer.Pointer.{Pointer}
use Rattle.wtf_base.specs.Slices.{pointers_of}
use Rattle.wtf_overlay.specs.declared.part.Part.{Part}
use Rattle.wtf_overlay.specs.declared.part.Part.TheVariants.{Zero, Held}
use Rattle.wtf_overlay.specs.declared.part.Entry.{Entry}

-- so many bytes at an offset of a region, and the pointers of their slice; no slice for zeros
pub record EntryRow : Type 0 where
  pub off : ℕ
  pub len : ℕ
  pub part : Option (List Pointer)

-- how they are kept
abbrev pub part_row : Part → Option (List Pointer)
part_row Zero = None
part_row (Held s) = Some (pointers_of s)

abbrev pub entry_row : Entry → EntryRow
entry_row e = record { off = e.off; len = e.len; part = part_row e.part }

abbrev pub entry_rows : List Entry → List EntryRow
entry_rows es = map entry_row es
