-- What lies below marks and is not in use.
use Rattle.std.specs.Prelude.{◌≡◌, ℕ, ◌+◌, ◌<◌, ◌≤◌, ◌*◌, ◌-◌, ◌^◌, Bool, ◌||◌, ◌&&◌, not, nat_eq, nat_lt, List}
use Rattle.std.specs.List.{All}
use Rattle.wtf_base.specs.Places.{Place}
use Rattle.wtf_dev.specs.Store.{Range}
use Rattle.wtf_gc.specs.declared.extent.Extent.{Extent}
use Rattle.wtf_gc.specs.declared.extent.Span.{Span}
use Rattle.wtf_gc.specs.Extents.{extents_cover}
use Rattle.wtf_gc.specs.Frees.{AreApart, lie_in, ranges_len}

abbrev pub place_at : ℕ → ℕ → ℕ → Place
place_at k f x = record { server = k; file = f; at = x }

-- a span of a file of server k as a range
abbrev pub range_at : ℕ → ℕ → Span → ℕ × Range
range_at k f s = (k, record { file = f; at = s.from; len = s.to - s.from })

-- one of three lists of extents has the byte
abbrev pub used_by : List Extent → List Extent → List Extent → Place → Bool
used_by a b c p = extents_cover a p || (extents_cover b p || extents_cover c p)

-- a byte below its mark that is not in use
abbrev pub is_unused : (ℕ → ℕ → ℕ) → (Place → Bool) → Place → Bool
is_unused mark used p = nat_lt p.at (mark p.server p.file) && not (used p)

-- the ranges are just what is not in use of the first n files of server k, with so many bytes
pub record IsUnused (k : ℕ) (mark : ℕ → ℕ → ℕ) (used : Place → Bool) (n : ℕ) (rs : List (ℕ × Range)) (bytes : ℕ) : Type 0 where
  pub apart : AreApart rs
  pub exact : (p : Place) → lie_in rs p ≡ (nat_eq p.server k && (nat_lt p.file n && is_unused mark used p))
  pub lie : All (λ (r : ℕ × Range). (r.0 ≡ k) × (r.1.file < n) × (r.1.at + r.1.len ≤ mark k r.1.file)) rs
  pub count : bytes ≡ ranges_len rs
  pub few : bytes ≤ n * (2 ^ 61 - 1)
