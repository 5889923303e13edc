-- What a line punches of the stores: garbage, and no other byte.
-- NSDI 2016, section 2.8 (garbage collection in two scans).
use Rattle.std.specs.Prelude.{◌≡◌, ◌≤◌, ℕ, Bool, true, false, ◌||◌, ◌&&◌, ◌++◌, nat_eq, List, [], length, Some, ⊤}
use Rattle.wtf_base.specs.Places.{Place}
use Rattle.wtf_dev.specs.Each.{EachFollows}
use Rattle.wtf_dev.specs.Store.{Range, StoreKind}
use Rattle.wtf_dev.specs.Sums.{TellsAll}
use Rattle.wtf_replica.specs.Bytes.{byte_at}
use Rattle.wtf_model.specs.declared.answer.Answer.{Answer}
use Rattle.wtf_model.specs.declared.answer.Answer.TheVariants as answer
use Rattle.wtf_model.specs.declared.event.Event.{Event}
use Rattle.wtf_model.specs.declared.event.Event.TheVariants as event
use Rattle.wtf_gc.specs.Extents.{extents_cover}
use Rattle.wtf_gc.specs.Frees.{AreApart, AreGarbage, ranges_len, lie_in}
use Rattle.wtf_gc.specs.Views.{GcView, is_garbage}

-- the ranges share no byte, and all of them are garbage of server k
pub record AreOfGarbage (gc : GcView) (k : ℕ) (ranges : List (ℕ × Range)) : Type 0 where
  pub apart : AreApart ranges
  pub among : (p : Place) → lie_in ranges p ≡ true → (nat_eq p.server k && is_garbage gc p) ≡ true

-- an answer that is not that of a collection
abbrev pub IsUncollected : Answer → Type 0
IsUncollected (answer.Collected n) = ⊥
IsUncollected a = ⊤

-- A collection that frees n bytes punches just what is garbage of its server, which is so many bytes; one whose server fails, a part of
-- that. No other line punches a range, or says so.
abbrev pub ArePunchedBy : GcView → Event → Answer → List (ℕ × Range) → Type 0
ArePunchedBy gc (event.Collect k) (answer.Collected n) ranges = AreGarbage gc k ranges × (n ≡ ranges_len ranges)
ArePunchedBy gc (event.Collect k) (answer.FaultPunch j) ranges = AreOfGarbage gc k ranges
ArePunchedBy gc e a ranges = (ranges ≡ []) × IsUncollected a

-- What counts as freed then. Of the ranges of a collection that failed the last one may not count.
abbrev pub CountsAs : GcView → GcView → Answer → List (ℕ × Range) → Type 0
CountsAs old new (answer.FaultPunch k) ranges =
    (front last : List (ℕ × Range)) × (ranges ≡ front ++ last) × (length last ≤ 1)
    × ((p : Place) → extents_cover new.freed p ≡ (extents_cover old.freed p || lie_in front p))
CountsAs old new a ranges = (p : Place) → extents_cover new.freed p ≡ (extents_cover old.freed p || lie_in ranges p)

-- the ranges that a line punched, over what was garbage before it; each store follows what it was, with its own of these
pub record CorePunches {S : Type 0} (kind : StoreKind S) (before after : List S) (old new : GcView) (e : Event) (a : Answer) : Type 0 where
  pub ranges : List (ℕ × Range)
  pub are : ArePunchedBy old e a ranges
  pub counts : CountsAs old new a ranges
  pub follows : EachFollows kind before after ranges

-- a byte that came to count as freed is zero now, where the stores tell their content, and its server is up
pub record AreFreed {S : Type 0} (kind : StoreKind S) (down : ℕ → Bool) (before after : List S) (old new : GcView) : Type 0 where
  pub up : (p : Place) → extents_cover old.freed p ≡ false → extents_cover new.freed p ≡ true → down p.server ≡ false
  pub zeros : TellsAll kind before → (p : Place) → extents_cover old.freed p ≡ false → extents_cover new.freed p ≡ true → byte_at kind after p ≡ Some 0
