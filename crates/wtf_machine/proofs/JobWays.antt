-- Open jobs, in the order in which their entries are kept: their stamps, and the lowest label of those that were noted.
use Rattle.std.proofs.Common.{◌≡◌, ◌==◌, ℕ, List, ◌++◌, map, sym, ap, ◌∙◌}
use Rattle.std.specs.List.{list_any, filter}
use Rattle.std.specs.List.Sorted.{IsStrictlySortedBy}
use Rattle.std.specs.Map.{keys_of}
use Rattle.std.specs.FinMap.{entries, values}
use Rattle.std.specs.Ordering.{nat_cmp}
use Rattle.std.specs.Cmp.{nat_cmp_total}
use Rattle.wtf_model.specs.declared.item.Item.{Item}
use Rattle.wtf_model.specs.Transaction.{Job}
use Rattle.wtf_model.specs.Scans.{lowest}
use Rattle.wtf_machine.specs.declared.jobs.PlannedJob.{PlannedJob}
use Rattle.wtf_machine.specs.Maps.{map_of}
use Rattle.wtf_machine.specs.Kept.{planned_in}
use Rattle.wtf_machine.proofs.OrderedLaws.{seen, entries-map_of, values-map_of}

-- those whose stamps were noted
abbrev pub noted_of : List ℕ → List (ℕ × Job) → List (ℕ × Job)
noted_of noted js = filter (λ j. list_any (λ s. s == j.1.stamp) noted) js

-- where all entries are left
module _ (changed : List Item) (rest es : List (ℕ × PlannedJob)) (all : rest ≡ es) (ordered : IsStrictlySortedBy nat_cmp (keys_of es)) where
  -- their stamps, behind others, are those of all jobs
  pub stamps-jobs : (stamps : List ℕ) → stamps ++ map (λ (j : Job). j.stamp) (map (λ e. planned_in changed e.1) rest)
      ≡ stamps ++ map (λ (j : Job). j.stamp) (values (map_of nat_cmp (planned_in changed) es))
  stamps-jobs stamps =
      ap (λ js. stamps ++ map (λ (j : Job). j.stamp) js)
      (ap (map (λ e. planned_in changed e.1)) all ∙ sym (values-map_of nat_cmp_total (planned_in changed) es ordered))

  pub lowest-jobs : (noted : List ℕ) → lowest (noted_of noted (seen (planned_in changed) rest))
      ≡ lowest (noted_of noted (entries (map_of nat_cmp (planned_in changed) es)))
  lowest-jobs noted =
      ap (λ js. lowest (noted_of noted js)) (ap (seen (planned_in changed)) all ∙ sym (entries-map_of nat_cmp_total (planned_in changed) es ordered))
