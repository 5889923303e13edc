-- What the program's first words ask for.
use Rattle.std.specs.Prelude.{ℕ, Bool, true, false, not, ◌&&◌, ◌==◌, if◌then◌else◌, List, [], ◌∷◌, codes}
use Rattle.std.specs.Str.{bytes_eq}
use Rattle.wtf_cli.specs.declared.first_word.First.{First}
use Rattle.wtf_cli.specs.declared.first_word.First.TheVariants.{Folder, Memory, Help, Version, NoFolder}
use Rattle.wtf_cli.specs.declared.second_word.Second.{Second}
use Rattle.wtf_cli.specs.declared.second_word.Second.TheVariants.{Nothing, Journal}

-- a word that has a byte and does not begin with `-`
abbrev pub is_name : List ℕ → Bool
is_name [] = false
is_name (first ∷ rest) = not (first == 45)

-- `alone` where no word is behind it
abbrev pub first_of : List ℕ → Bool → First
first_of word alone =
    if bytes_eq word (codes "-") then Memory else (
    if alone && bytes_eq word (codes "--help") then Help else (
    if alone && bytes_eq word (codes "--version") then Version else (
    if is_name word then Folder else NoFolder)))

-- behind DIR: a run with a journal
abbrev pub is_journal : List ℕ → Bool
is_journal word = bytes_eq word (codes "--journal")

-- by what stands there
abbrev pub is_nothing : Second → Bool
is_nothing Nothing = true
is_nothing what = false

abbrev pub asks_journal : Second → Bool
asks_journal Journal = true
asks_journal what = false
