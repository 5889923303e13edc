-- Which rows bytes can have: each number has its width, a slice keeps the rules of slices, and an entry has bytes and lies
-- inside its region.
use Rattle.std.specs.Prelude.{◌≡◌, ℕ, ◌+◌, ◌<◌, ◌≤◌, ◌^◌, true, List, length, Option, None, Some, ⊤}
use Rattle.std.specs.List.{AllByRecursion}
use Rattle.wtf_base.specs.declared.pointer.Pointer.{Pointer}
use Rattle.wtf_base.specs.Pointers.{is_slice}
use Rattle.wtf_overlay.specs.declared.part.Entry.{Entry}
use Rattle.wtf_overlay.specs.Rows.{EntryRow, part_row}

-- a pointer to len bytes
pub record IsPointer (len : ℕ) (p : Pointer) : Type 0 where
  pub server : p.server.0 < 2 ^ 8
  pub file : p.file < 2 ^ 8
  pub at : p.at < 2 ^ 64
  pub same : p.len ≡ len

-- one to three pointers to len bytes, their servers ascending; no pointer's offset and length pass 2^63 - 1
pub record IsSlice (len : ℕ) (ps : List Pointer) : Type 0 where
  pub slice : is_slice ps ≡ true
  pub each : AllByRecursion (IsPointer len) ps

abbrev pub IsPart : ℕ → Option (List Pointer) → Type 0
IsPart len None = ⊤
IsPart len (Some ps) = IsSlice len ps

-- an entry of a region that ends there
pub record IsEntry (end : ℕ) (e : EntryRow) : Type 0 where
  pub off : e.off < 2 ^ 32
  pub len : e.len < 2 ^ 32
  pub some : 0 < e.len
  pub within : e.off + e.len ≤ end
  pub part : IsPart e.len e.part

-- entries that can be counted
abbrev pub AreEntries : ℕ → List EntryRow → Type 0
AreEntries end es = (length es < 2 ^ 32) × AllByRecursion (IsEntry end) es

-- the numbers of servers and files have their widths, as those of each list in memory do
abbrev pub HaveWidths : List Entry → Type 0
HaveWidths es = AllByRecursion (λ e. IsPart e.len (part_row e.part)) es
