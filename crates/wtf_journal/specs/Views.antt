-- What contracts see of a journal.
use Rattle.std.specs.Prelude.{ℕ, ◌+◌, ◌-◌, min, Bool, false, List, ◌∷◌, length, take, drop}
use Rattle.wtf_journal.specs.declared.body.Record.{Record}
use Rattle.wtf_journal.specs.declared.body.Record.TheVariants.{Image, Changes}

-- where its closed gate stands, whether a call on it failed, and where the image of its last record of one lies
pub record JournalView : Type 0 where
  pub end : ℕ
  pub failed : Bool
  pub image_at : ℕ
  pub image_len : ℕ

-- what stands before the bytes of a body, and these
abbrev pub kind_of : Record → ℕ
kind_of (Image bytes) = 0
kind_of (Changes bytes) = 1

abbrev pub record_bytes : Record → List ℕ
record_bytes (Image bytes) = bytes.now
record_bytes (Changes bytes) = bytes.now

abbrev pub body_of : Record → List ℕ
body_of body = kind_of body ∷ record_bytes body

-- where the last image lies behind a record that was added at `end`
abbrev pub image_at_by : ℕ → ℕ → Record → ℕ
image_at_by end before (Image bytes) = end + 10
image_at_by end before (Changes bytes) = before

abbrev pub image_len_by : ℕ → Record → ℕ
image_len_by before (Image bytes) = length bytes.now
image_len_by before (Changes bytes) = before

-- a journal behind a record
abbrev pub appended : JournalView → Record → JournalView
appended j body = record {
  end = j.end + 10 + length (record_bytes body);
  failed = false;
  image_at = image_at_by j.end j.image_at body;
  image_len = image_len_by j.image_len body;
}

-- the last record is an image of so many bytes
abbrev pub noted : JournalView → ℕ → JournalView
noted j len = record j { image_at = j.end - min len j.end; image_len = min len j.end }

-- the last image in the bytes of file 0, which is empty before the first one
abbrev pub image_in : JournalView → List ℕ → List ℕ
image_in j seen = take j.image_len (drop j.image_at (take j.end seen))
