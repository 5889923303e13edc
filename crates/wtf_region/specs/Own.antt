-- What an attempt's own changes lay over a region, and what is planned by it.
use Rattle.std.specs.Prelude.{◌≡◌, ℕ, ◌+◌, List, Option, None, Some}
use Rattle.wtf_kv.specs.declared.changes.Change.{Change}
use Rattle.wtf_kv.specs.Edits.{after_change, after_changes}
use Rattle.wtf_occ.specs.Positions.{after_positions}
use Rattle.wtf_overlay.specs.Origin.{Plans, origin}
use Rattle.wtf_overlay.specs.declared.part.Entry.{Entry}
use Rattle.wtf_overlay.specs.declared.part.Piece.{Piece}
use Rattle.wtf_values.specs.declared.key.Key.{Key}
use Rattle.wtf_values.specs.declared.region.RegionValue.{RegionValue}
use Rattle.wtf_values.specs.declared.value.Delta.{Delta}
use Rattle.wtf_values.specs.declared.value.Value.TheVariants.{Region}
use Rattle.wtf_values.specs.Keys.{key_cmp}
use Rattle.wtf_values.specs.Outcomes.{outcome_of}
use Rattle.wtf_values.specs.Regions.{pushed, pushed_all}
use Rattle.wtf_meta.specs.Maps.{Edits}

-- a change lays this entry over any region at q
abbrev pub LaysOne : Change Key Delta → Key → Entry → Type 0
LaysOne c q e = (v : RegionValue) → after_change key_cmp outcome_of c q (Some (Region v)) ≡ Some (Region (pushed (Some v) e))

-- the changes at these positions lay these entries, in order, and do no more
abbrev pub LayAt : Edits → Key → List ℕ → List Entry → Type 0
LayAt cs q is es = (v : RegionValue) → after_positions key_cmp outcome_of cs q 0 is (Some (Region v)) ≡ Some (Region (pushed_all v es))

-- and so do all changes
abbrev pub LayAll : Edits → Key → List Entry → Type 0
LayAll cs q es = (v : RegionValue) → after_changes key_cmp outcome_of cs q (Some (Region v)) ≡ Some (Region (pushed_all v es))

-- the pieces are what the list of a region without a base has in the n bytes from off on
pub record IsOwnPlan (now : Option RegionValue) (off n : ℕ) (ps : List Piece) : Type 0 where
  pub region : RegionValue
  pub is : now ≡ Some region
  pub none : region.base ≡ None
  pub plans : Plans ps n (λ i. origin region.list (off + i))
