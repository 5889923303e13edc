-- The bytes that a list names, also those that later entries hide.
use Rattle.std.specs.Prelude.{◌≡◌, ℕ, ◌<◌, Bool, true, List}
use Rattle.std.specs.List.{All}
use Rattle.wtf_overlay.specs.declared.part.Entry.{Entry}
use Rattle.wtf_overlay.specs.Origin.{Place, part_origin}

-- P holds of the places of each byte of each entry
abbrev pub EachByte : (List Place → Bool) → List Entry → Type 0
EachByte P es = All (λ e. (i : ℕ) → i < e.len → P (part_origin e.part i) ≡ true) es
