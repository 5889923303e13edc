-- A text as its first line and a summary of the lines behind it.
use Rattle.std.specs.Prelude.{ℕ, zero, suc, Bool, true, false, not, ◌&&◌, ◌||◌, ◌==◌, cond, if◌then◌else◌, nat_le, List, [], ◌∷◌, ◌++◌, count_by, codes, decimal}
use Rattle.hex.specs.Hex.{encode_lower}
use Rattle.sha2.specs.Sha256.{sha256}
use Rattle.wtf_script.specs.ScriptLines.{line_feed, ended_of}

-- the text up to and with its first line feed; all of it where there is none
abbrev pub first_line : List ℕ → List ℕ
first_line [] = []
first_line (b ∷ bs) = b ∷ cond (b == line_feed) [] (first_line bs)

-- the text behind its first line feed
abbrev pub behind_first : List ℕ → List ℕ
behind_first [] = []
behind_first (b ∷ bs) = cond (b == line_feed) bs (behind_first bs)

-- how many line feeds there are
abbrev pub feeds : List ℕ → ℕ
feeds [] = 0
feeds (b ∷ bs) = cond (b == line_feed) (suc (feeds bs)) (feeds bs)

-- the text up to and with so many line feeds; all of it where there are fewer
abbrev pub front_lines : ℕ → List ℕ → List ℕ
front_lines zero text = []
front_lines (suc n) [] = []
front_lines (suc n) (b ∷ bs) = b ∷ cond (b == line_feed) (front_lines n bs) (front_lines (suc n) bs)

-- the line is the word, or goes on behind it with a space
abbrev pub has_word : List ℕ → List ℕ → Bool
has_word [] [] = true
has_word [] (b ∷ line) = b == 32
has_word (w ∷ word) [] = false
has_word (w ∷ word) (b ∷ line) = (w == b) && has_word word line

-- the line begins with none of the words that are counted
abbrev pub is_other : List ℕ → Bool
is_other line =
    not (has_word (codes "committed") line || has_word (codes "retry") line || has_word (codes "aborted") line
    || has_word (codes "installed") line || has_word (codes "refused") line)

-- how many lines of a text have this first word
abbrev pub with_word : List ℕ → List ℕ → ℕ
with_word word text = count_by (has_word word) (ended_of text)

-- how many lines of a text have another first word
abbrev pub others : List ℕ → ℕ
others text = count_by is_other (ended_of text)

-- a line of a summary: a name and what stands for it
abbrev pub entry : List ℕ → List ℕ → List ℕ
entry name value = name ++ 32 ∷ value ++ line_feed ∷ []

-- the line for a first word
abbrev pub word_entry : List ℕ → List ℕ → List ℕ
word_entry word text = entry word (decimal (with_word word text))

-- the summary of a text of lines
abbrev pub summary : List ℕ → List ℕ
summary text =
    entry (codes "lines") (decimal (feeds text)) ++ word_entry (codes "committed") text ++ word_entry (codes "retry") text
    ++ word_entry (codes "aborted") text ++ word_entry (codes "installed") text ++ word_entry (codes "refused") text
    ++ entry (codes "other") (decimal (others text)) ++ entry (codes "sha256") (encode_lower (sha256 text))

-- the lines behind the first are summed up once so many of them came: the summary is of the first so many
abbrev pub summed_up : ℕ → List ℕ → List ℕ
summed_up lines behind = if nat_le lines (feeds behind) then summary (front_lines lines behind) else []

-- what is shown of a text: its first line, and the summary of the lines behind it once so many of them came
abbrev pub shown_text : ℕ → List ℕ → List ℕ
shown_text lines text = first_line text ++ summed_up lines (behind_first text)
