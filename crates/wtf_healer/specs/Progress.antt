-- What is said of a pass while it goes on.
use Rattle.std.specs.Prelude.{◌≡◌, ℕ, ◌<◌, ◌≤◌, ◌%◌, ◌++◌, List, [], ◌∷◌, Some}
use Rattle.std.specs.List.{All, flat_map}
use Rattle.wtf_dev.specs.Counts.{Rose}
use Rattle.wtf_dev.specs.Streams.{SinkView}
use Rattle.wtf_healer.specs.Lines.{done_lines}

-- how much was healed so far, and what was written of the two lines that say so
pub record Report : Type 0 where
  pub regions : ℕ
  pub bytes : ℕ
  pub front : List ℕ

abbrev pub IsFront : Report → Type 0
IsFront r = (back : List ℕ) × (done_lines r.regions r.bytes ≡ r.front ++ back)

abbrev pub IsWhole : Report → Type 0
IsWhole r = r.front ≡ done_lines r.regions r.bytes

-- reports of a pass that went on from n regions to m: each of more regions than the one before it, and of a multiple of 256
abbrev pub AreReports : ℕ → ℕ → List Report → Type 0
AreReports n m [] = n ≤ m
AreReports n m (r ∷ rs) = (n < r.regions) × (r.regions % 256 ≡ 0) × IsFront r × AreReports r.regions m rs

-- what was written of reports
abbrev pub written : List Report → List ℕ
written reports = flat_map (λ (r : Report). r.front) reports

-- a sink took reports behind a text, and no other byte: whole ones where it did not fail
pub record TakesReports (n m : ℕ) (text : List ℕ) (old new : SinkView) : Type 0 where
  pub reports : List Report
  pub rising : AreReports n m reports
  pub whole : (Rose old.faults new.faults → ⊥) → All IsWhole reports
  pub taken : new.taken ≡ Some (text ++ written reports)

-- reports of a pass that went on from n regions to m were written, where the sink tells what it took
pub record IsProgress (n m : ℕ) (old new : SinkView) : Type 0 where
  pub faults : old.faults ≤ new.faults
  pub reports : (text : List ℕ) → old.taken ≡ Some text → TakesReports n m text old new

-- reports of a pass were written, from its first region on
abbrev pub TellsProgress : SinkView → SinkView → Type 0
TellsProgress old new = (regions : ℕ) × IsProgress 0 regions old new
