-- What is kept of the lines of a text.
use Rattle.std.specs.Prelude.{◌≡◌, ℕ, ◌==◌, cond, List, [], ◌∷◌, take}
use Rattle.std.proofs.Props.{props}
use Rattle.sha2.specs.Hashers.{Holds256}
use Rattle.sha2.specs.Sha256.{Holds}
use Rattle.sha2.specs.declared.Sha256.{Sha256}
use Rattle.wtf_script.specs.ScriptLines.{line_feed, ended_of}
use Rattle.wtf_summary.specs.Counted.{counts_of}
use Rattle.wtf_summary.specs.declared.tally.Tally.{Tally}

-- what is open behind a byte and these lines, where so much is open behind them
abbrev pub open_after : ℕ → List (List ℕ) → List ℕ → List ℕ
open_after b [] line = b ∷ line
open_after b (l ∷ ls) line = line

-- the bytes behind the last line feed
abbrev pub open_line : List ℕ → List ℕ
open_line [] = []
open_line (b ∷ bs) = cond (b == line_feed) (open_line bs) (open_after b (ended_of bs) (open_line bs))

-- the tally is of this text: its counts, its digest, and the front of the line that is not complete
pub record Tallies (tally : Tally) (text : List ℕ) : Type 0 where
  pub counts : tally.counts ≡ counts_of text
  pub head : tally.head.items ≡ take 10 (open_line text)
  pub digest : Holds256 tally.digest text

pub Holds256_prop : (hasher : Sha256) (bytes : List ℕ) → IsProp (Holds256 hasher bytes)
unfolding Holds
Holds256_prop hasher bytes = hlevel props

pub Tallies_prop : (tally : Tally) (text : List ℕ) → IsProp (Tallies tally text)
Tallies_prop tally text = hlevel (props, Holds256_prop)
