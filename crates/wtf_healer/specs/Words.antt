-- The servers that words name as lost.
use Rattle.std.specs.Prelude.{ℕ, Bool, nat_eq, if◌then◌else◌, List, [], ◌∷◌, Option, None, Some}
use Rattle.std.specs.List.{list_any}
use Rattle.wtf_lex.specs.Numbers.{number_within}

-- a server is one of these
abbrev pub is_server_in : List ℕ → ℕ → Bool
is_server_in ks k = list_any (nat_eq k) ks

abbrev pub with_server : List ℕ → Option ℕ → Option (List ℕ)
with_server ks None = None
with_server ks (Some k) = if is_server_in ks k then None else Some (k ∷ ks)

-- these servers and that of one word more: a number up to 15, which is none of theirs
abbrev pub with_word : Option (List ℕ) → List ℕ → Option (List ℕ)
with_word None word = None
with_word (Some ks) word = with_server ks (number_within 15 word)

abbrev pub with_words : Option (List ℕ) → List (List ℕ) → Option (List ℕ)
with_words ks [] = ks
with_words ks (word ∷ words) = with_words (with_word ks word) words

-- the servers that words name, each of them another one; without a word there are none to name
abbrev pub lost_in : List (List ℕ) → Option (List ℕ)
lost_in [] = None
lost_in (word ∷ words) = with_words (Some []) (word ∷ words)
