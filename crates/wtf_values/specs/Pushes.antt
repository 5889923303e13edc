-- Runs of changes of which each lays an entry over a region.
use Rattle.std.specs.Prelude.{Bool, true, false, List, [], ◌∷◌, Option, None, Some}
use Rattle.wtf_kv.specs.declared.changes.Change.{Change}
use Rattle.wtf_kv.specs.declared.changes.Change.TheVariants as change
use Rattle.wtf_overlay.specs.declared.part.Entry.{Entry}
use Rattle.wtf_values.specs.declared.value.Value.{Value}
use Rattle.wtf_values.specs.declared.value.Value.TheVariants.{Node, Names, Last, Region, Count}
use Rattle.wtf_values.specs.declared.value.Delta.{Delta}
use Rattle.wtf_values.specs.declared.value.Delta.TheVariants.{Push}
use Rattle.wtf_values.specs.Regions.{emptied, pushed_all}

module _ {K : Type 0} where
  -- whether each of the changes lays an entry
  abbrev pub are_pushes : List (Change K Delta) → Bool
  are_pushes [] = true
  are_pushes (change.Delta key (Push e) ∷ cs) = are_pushes cs
  are_pushes _ = false

  -- the entries that they lay
  abbrev pub entries_of : List (Change K Delta) → List Entry
  entries_of [] = []
  entries_of (change.Delta key (Push e) ∷ cs) = e ∷ entries_of cs
  entries_of (_ ∷ cs) = entries_of cs

-- what comes of entries that are laid over a value: a missing region is made, and another kind of value stays
abbrev pub laid_all : Option Value → List Entry → Option Value
laid_all None es = Some (Region (pushed_all emptied es))
laid_all (Some (Region v)) es = Some (Region (pushed_all v es))
laid_all (Some (Last n)) es = Some (Last n)
laid_all (Some (Count n)) es = Some (Count n)
laid_all (Some (Names s)) es = Some (Names s)
laid_all (Some (Node n)) es = Some (Node n)
