-- Runs: lists of entries of which no two cover one byte, in the order of their offsets. What a list shows is
-- said over whatever lies below it, so that nothing need be said of which bytes it covers.
use Rattle.std.specs.Prelude.{◌≡◌, ⊤, ◌⊎◌, ℕ, ◌+◌, ◌<◌, ◌≤◌, ◌^◌, List, [], ◌∷◌}
use Rattle.wtf_overlay.specs.declared.part.Entry.{Entry}
use Rattle.wtf_overlay.specs.Origin.{Place, origin_from}

-- the entries lie from lo on and below hi, each from the end of the one before it on
abbrev pub IsRunIn : ℕ → ℕ → List Entry → Type 0
IsRunIn lo hi [] = lo ≤ hi
IsRunIn lo hi (e ∷ es) = (lo ≤ e.off) × IsRunIn (e.off + e.len) hi es

-- the entries are sorted and disjoint
abbrev pub IsRun : List Entry → Type 0
IsRun es = IsRunIn 0 (2 ^ 32) es

-- what newer shows when it is laid over older, over b
abbrev pub laid_over : List Entry → List Entry → List Place → ℕ → List Place
laid_over newer older b y = origin_from (origin_from b older y) newer y

-- over whatever lies below, the list shows what f tells
abbrev pub Shows : List Entry → (List Place → ℕ → List Place) → Type 0
Shows es f = (b : List Place) (y : ℕ) → origin_from b es y ≡ f b y

-- two lists show the same from x on
abbrev pub SameFrom : ℕ → List Entry → List Entry → Type 0
SameFrom x es rs = (b : List Place) (y : ℕ) → x ≤ y → origin_from b es y ≡ origin_from b rs y

-- and below z
abbrev pub SameUpTo : ℕ → List Entry → List Entry → Type 0
SameUpTo z es rs = (b : List Place) (y : ℕ) → y < z → origin_from b es y ≡ origin_from b rs y

-- and from x up to z
abbrev pub SameWithin : ℕ → ℕ → List Entry → List Entry → Type 0
SameWithin x z es rs = (b : List Place) (y : ℕ) → x ≤ y → y < z → origin_from b es y ≡ origin_from b rs y

-- from x up to z, f tells what the list shows
abbrev pub Tells : ℕ → ℕ → (List Place → ℕ → List Place) → List Entry → Type 0
Tells x z f es = (b : List Place) (y : ℕ) → x ≤ y → y < z → f b y ≡ origin_from b es y

-- a run that was laid from the left up to x: it shows what f tells there, and lies below x
pub record Built (es : List Entry) (x : ℕ) (f : List Place → ℕ → List Place) : Type 0 where
  pub run : IsRunIn 0 x es
  pub shows : (b : List Place) (y : ℕ) → y < x → origin_from b es y ≡ f b y

-- the first entry ends past x
abbrev pub BeginsPast : ℕ → List Entry → Type 0
BeginsPast x [] = ⊤
BeginsPast x (e ∷ es) = x < e.off + e.len

-- the entry lies before x or from z on
abbrev pub Misses : ℕ → ℕ → Entry → Type 0
Misses x z e = (z ≤ e.off) ⊎ (e.off + e.len ≤ x)
