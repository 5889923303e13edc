use Rattle.std.proofs.Common.{◌≡◌, ◌||◌, ◌++◌}
use Rattle.wtf_base.specs.Places.{Place}
use Rattle.wtf_gc.specs.Extents.{extents_cover}
use Rattle.wtf_gc.specs.Parts.{versions_have, versions_bases}
use Rattle.wtf_gc.proofs.gather.add_versions.Given as goal

pub record Adding (found bases finite next : Type 0) : Type 0 where
  pub found_is : found
  pub bases_are : bases
  pub can_next : next
  pub is_finite : finite

abbrev pub invariant-loop-version : goal.invariant-loop-version
invariant-loop-version l = Adding
    ((p : Place) → (extents_cover l.to.found p || versions_have l.version-iterator p) ≡ (extents_cover l.fn.to.found p || versions_have l.fn.versions p))
    (l.to.bases.items ++ versions_bases l.part l.version-iterator ≡ l.fn.to.bases.items ++ versions_bases l.part l.fn.versions)
    (goal.iterator-loop-version.is_finite l.version-iterator)
    (goal.iterator-loop-version.can_next l.version-iterator)
