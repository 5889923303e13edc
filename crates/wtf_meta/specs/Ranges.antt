-- What changes do to every file: bytes are laid over a range, a file is cut to a length, a range becomes zeros.
-- Each is said of all files at once, so that it holds whatever file the changes meet, and over all lists: no change looks at what
-- a base decodes to.
use Rattle.std.specs.Prelude.{◌≡◌, ℕ, ◌*◌, max, true, List, [], None}
use Rattle.wtf_overlay.specs.Origin.{Place}
use Rattle.wtf_meta.specs.Lists.{Lists}
use Rattle.wtf_meta.specs.Files.{FileView, IsFile, end_of, file_len, file_origin, laid, cut_at, grown, reach}
use Rattle.wtf_meta.specs.FileEdits.{FileEdit, after, all_fit}

-- the changes lay n bytes over every file's regions from off on; f tells their places
pub record Covers (b : ℕ) (ds : List FileEdit) (off n : ℕ) (f : ℕ → List Place) : Type 0 where
  pub fit : (v : FileView) → all_fit ds v ≡ true
  pub last : (v : FileView) → (after ds v).last ≡ v.last
  pub ends : (v : FileView) (q : ℕ) → end_of ((after ds v).region q) ≡ max (end_of (v.region q)) (reach b off n (q * b))
  pub others : (v : FileView) (q : ℕ) → reach b off n (q * b) ≡ 0 → (after ds v).region q ≡ v.region q
  pub origin : (lists : Lists) (v : FileView) (x : ℕ) → file_origin b lists (after ds v) x ≡ laid off n f (file_origin b lists v) x

-- the same of every file as a whole, which then reaches so far
pub record Lays (b : ℕ) (ds : List FileEdit) (off n : ℕ) (f : ℕ → List Place) : Type 0 where
  pub fit : (v : FileView) → all_fit ds v ≡ true
  pub keeps : (v : FileView) → IsFile b v → IsFile b (after ds v)
  pub len : (v : FileView) → IsFile b v → file_len b (after ds v) ≡ grown (file_len b v) off n
  pub origin : (lists : Lists) (v : FileView) → IsFile b v → (x : ℕ) → file_origin b lists (after ds v) x ≡ laid off n f (file_origin b lists v) x

-- the changes make every file n bytes long: bytes past n are gone, and a shorter file ends in a hole
pub record Truncates (b : ℕ) (ds : List FileEdit) (n : ℕ) : Type 0 where
  pub fit : (v : FileView) → all_fit ds v ≡ true
  pub keeps : (v : FileView) → IsFile b v → IsFile b (after ds v)
  pub len : (v : FileView) → IsFile b v → file_len b (after ds v) ≡ n
  pub origin : (lists : Lists) (v : FileView) → IsFile b v → (x : ℕ) → file_origin b lists (after ds v) x ≡ cut_at n (file_origin b lists v) x

-- the changes make holes of n bytes of every file's regions from off on
pub record Punches (b : ℕ) (ds : List FileEdit) (off n : ℕ) : Type 0 where
  pub fit : (v : FileView) → all_fit ds v ≡ true
  pub last : (v : FileView) → (after ds v).last ≡ v.last
  pub ends : (v : FileView) (q : ℕ) → end_of ((after ds v).region q) ≡ end_of (v.region q)
  pub none : (v : FileView) (q : ℕ) → v.region q ≡ None → (after ds v).region q ≡ None
  pub origin : (lists : Lists) (v : FileView) (x : ℕ) → file_origin b lists (after ds v) x ≡ laid off n (λ i. []) (file_origin b lists v) x

-- the same of every file as a whole: its length stays
pub record Clears (b : ℕ) (ds : List FileEdit) (off n : ℕ) : Type 0 where
  pub fit : (v : FileView) → all_fit ds v ≡ true
  pub keeps : (v : FileView) → IsFile b v → IsFile b (after ds v)
  pub len : (v : FileView) → IsFile b v → file_len b (after ds v) ≡ file_len b v
  pub origin : (lists : Lists) (v : FileView) → IsFile b v → (x : ℕ) → file_origin b lists (after ds v) x ≡ laid off n (λ i. []) (file_origin b lists v) x
