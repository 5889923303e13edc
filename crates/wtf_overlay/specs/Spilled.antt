-- Spilled lists: the bytes of a compact list, which stand in a slice of their own, and the list that bytes are of.
use Rattle.std.specs.Prelude.{ℕ, Bool, ◌==◌, bytes_eq, if◌then◌else◌, List, ◌++◌, length, codes, Option, None, Some}
use Rattle.std.specs.Int.{w32}
use Rattle.wtf_overlay.specs.declared.part.Entry.{Entry}
use Rattle.wtf_overlay.specs.Rows.{EntryRow, entry_rows}
use Rattle.wtf_overlay.specs.Texts.{entries_text}
use Rattle.wtf_overlay.specs.Reading.{◌>>=◌, Reader, then_at, only_at, text_at, counted_at, entry_at}
use Rattle.wtf_overlay.specs.Made.{entries_by}
use Rattle.wtf_overlay.specs.Compact.{is_compact}

-- the first bytes of every spilled list
abbrev pub list_magic : List ℕ
list_magic = codes "WTFL"

abbrev pub is_list_magic : List ℕ → Bool
is_list_magic text = bytes_eq text list_magic

-- the bytes of a list: its first ones, the number of its entries, and these
unfoldable pub encoded : List Entry → List ℕ
encoded es = list_magic ++ entries_text (entry_rows es)

-- the entries that bytes have for a region of so many bytes, as numbers. No byte is left over
unfoldable pub rows_at : ℕ → Reader (List ℕ × List EntryRow)
rows_at region = then_at (only_at is_list_magic (text_at 4)) (λ m. counted_at w32 (entry_at region))

unfoldable pub rows_in : ℕ → List ℕ → Option (List EntryRow)
rows_in region bytes = rows_at region bytes >>= λ x. if length x.1 == 0 then Some x.0.1 else None

abbrev pub only_compact : List Entry → Option (List Entry)
only_compact es = if is_compact es then Some es else None

-- the list that the bytes are of, if its entries lie inside a region of so many bytes and it is compact
unfoldable pub decoded : ℕ → List ℕ → Option (List Entry)
decoded region bytes = rows_in region bytes >>= λ rows. entries_by rows >>= only_compact
