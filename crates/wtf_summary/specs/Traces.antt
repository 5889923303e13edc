-- What a sink remembers of the sink that it shows on.
use Rattle.std.specs.Prelude.{ℕ, List, [], ◌∷◌, length, Option, Some, None}
use Rattle.wtf_dev.specs.Streams.{SinkView}

-- the bytes that a sink tells, as numbers
abbrev pub taken_numbers : Option (List ℕ) → List ℕ
taken_numbers None = 0 ∷ []
taken_numbers (Some bytes) = 1 ∷ bytes

-- what a sink shows, as numbers
abbrev pub numbers_of : SinkView → List ℕ
numbers_of view = view.faults ∷ taken_numbers view.taken

-- the mark of a sink that shows so many lines' summary on the sink with this name, which then was so
abbrev pub mark : ℕ → ℕ → List ℕ → List ℕ
mark name lines first = name ∷ lines ∷ length first ∷ first
