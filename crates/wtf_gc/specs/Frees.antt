-- What a collection frees.
use Rattle.std.specs.Prelude.{◌≡◌, ℕ, ◌+◌, ◌-◌, ◌<◌, ◌≤◌, Bool, true, false, ◌||◌, ◌&&◌, nat_eq, List, [], ◌∷◌, ◌++◌, map, take, slice_get, Some}
use Rattle.std.specs.List.{list_any}
use Rattle.wtf_base.specs.declared.fault.Fault.{Fault}
use Rattle.wtf_base.specs.declared.fault.Fault.TheVariants as fault
use Rattle.wtf_base.specs.Places.{Place}
use Rattle.wtf_dev.specs.Store.{Range, StoreKind}
use Rattle.wtf_dev.specs.Sums.{TellsAll}
use Rattle.wtf_replica.specs.Faults.{IsPunchFault, punched_on}
use Rattle.wtf_region.specs.declared.dev.Dev.{Dev}
use Rattle.wtf_region.specs.Apart.{lies_in}
use Rattle.wtf_region.specs.Devs.{GoesOn, between, is_down_in, stores, told_in}
use Rattle.wtf_gc.specs.declared.extent.Extent.{Extent}
use Rattle.wtf_gc.specs.Extents.{extents_cover}
use Rattle.wtf_gc.specs.Views.{GcView, is_garbage}

-- a range lies in a file of a server that is there
abbrev pub LiesOn : (ℕ → ℕ → ℕ) → ℕ → ℕ × Range → Type 0
LiesOn size servers r = (r.0 < servers) × (r.1.file < 8) × (r.1.at + r.1.len ≤ size r.0 r.1.file)

abbrev pub range_of : Extent → ℕ × Range
range_of e = (e.server, record { file = e.file; at = e.from; len = e.to - e.from })

abbrev pub ranges_of : List Extent → List (ℕ × Range)
ranges_of es = map range_of es

-- what is punched where a range was not freed: nothing on a server that is down
abbrev pub tried_on : {S : Type 0} → Dev S → ℕ × Range → List (ℕ × Range)
tried_on dev r = punched_on (is_down_in dev r.0) r.0 r.1

-- some range has the byte at a place
abbrev pub lie_in : List (ℕ × Range) → Place → Bool
lie_in rs p = list_any (λ r. lies_in p r) rs

-- the bytes of ranges were made zeros: their servers are up, and stores that tell their content tell zeros there
pub record AreZeroed {S : Type 0} (kind : StoreKind S) (old new : Dev S) (rs : List (ℕ × Range)) : Type 0 where
  pub up : (p : Place) → lie_in rs p ≡ true → is_down_in old p.server ≡ false
  pub zeros : TellsAll kind (stores old) → (p : Place) → lie_in rs p ≡ true → told_in kind new p ≡ Some 0

-- so many ranges were freed, and the next one was not, at a moment to which the call had gone on
pub record StopsAt {S : Type 0} (kind : StoreKind S) (old new : Dev S) (rs : List (ℕ × Range)) (done : ℕ) (why : Fault) : Type 0 where
  pub mid : Dev S
  pub tried : ℕ × Range
  pub is : slice_get rs done ≡ Some tried
  pub goes : GoesOn kind old mid (take done rs)
  pub zeroed : AreZeroed kind old mid (take done rs)
  pub last : GoesOn kind mid new (tried_on mid tried)
  pub cause : IsPunchFault kind (between mid new) tried.0 why

-- no two ranges share a byte, and each has one
abbrev pub AreApart : List (ℕ × Range) → Type 0
AreApart [] = Unit {0}
AreApart (r ∷ rs) = (0 < r.1.len) × ((p : Place) → lies_in p r ≡ true → lie_in rs p ≡ false) × AreApart rs

-- the number of their bytes
abbrev pub ranges_len : List (ℕ × Range) → ℕ
ranges_len [] = 0
ranges_len (r ∷ rs) = r.1.len + ranges_len rs

-- the ranges are just what is garbage of server k
pub record AreGarbage (g : GcView) (k : ℕ) (ranges : List (ℕ × Range)) : Type 0 where
  pub apart : AreApart ranges
  pub exact : (p : Place) → lie_in ranges p ≡ (nat_eq p.server k && is_garbage g p)

-- ranges count as freed, and all else of a collector is as it was
pub record CountsFreed (old new : GcView) (ranges : List (ℕ × Range)) : Type 0 where
  pub running : new.running ≡ old.running
  pub finished : new.finished ≡ old.finished
  pub older : new.older ≡ old.older
  pub newer : new.newer ≡ old.newer
  pub freed : (p : Place) → extents_cover new.freed p ≡ (extents_cover old.freed p || lie_in ranges p)

-- all garbage of server k was freed, n bytes, which are zeros now
pub record FreesAll {S : Type 0} (kind : StoreKind S) (k : ℕ) (dev dev' : Dev S) (g g' : GcView) (n : ℕ) : Type 0 where
  pub ranges : List (ℕ × Range)
  pub are : AreGarbage g k ranges
  pub goes : GoesOn kind dev dev' ranges
  pub zeroed : AreZeroed kind dev dev' ranges
  pub count : n ≡ ranges_len ranges
  pub counts : CountsFreed g g' ranges

-- The first of all ranges were freed, perhaps none; the next one was not, and does not count. At that moment the server is out.
pub record FreesSome {S : Type 0} (kind : StoreKind S) (k : ℕ) (dev dev' : Dev S) (g g' : GcView) (why : Fault) : Type 0 where
  pub ranges : List (ℕ × Range)
  pub tried : Range
  pub rest : List (ℕ × Range)
  pub are : AreGarbage g k (ranges ++ (k, tried) ∷ rest)
  pub mid : Dev S
  pub goes : GoesOn kind dev mid ranges
  pub zeroed : AreZeroed kind dev dev' ranges
  pub last : GoesOn kind mid dev' (tried_on mid (k, tried))
  pub cause : IsPunchFault kind (between mid dev') k why
  pub counts : CountsFreed g g' ranges

-- why garbage was not freed; where memory was short nothing was tried
abbrev pub IsCollectFault : {S : Type 0} → StoreKind S → ℕ → (dev dev' : Dev S) → (g g' : GcView) → Fault → Type 0
IsCollectFault kind k dev dev' g g' fault.Memory = GoesOn kind dev dev' [] × (g' ≡ g)
IsCollectFault kind k dev dev' g g' why = FreesSome kind k dev dev' g g' why
