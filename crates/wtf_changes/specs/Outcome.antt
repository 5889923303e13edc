-- Why no changes were read.
use Rattle.std.specs.Prelude.{ℕ, List, ⊤}
use Rattle.wtf_spillfmt.specs.declared.error.ListError.{ListError}
use Rattle.wtf_spillfmt.specs.declared.error.ListError.TheVariants as unread
use Rattle.wtf_changes.specs.Rows.{ChangeRows}
use Rattle.wtf_changes.specs.Shapes.{HasChanges}

-- the bytes are no changes, unless memory ran out
abbrev pub IsUnread : List ℕ → ListError → Type 0
IsUnread bytes unread.NotAList = (x : ChangeRows) → HasChanges x bytes → ⊥
IsUnread bytes unread.Memory = ⊤
