-- A front of what is shown.
use Rattle.std.specs.Prelude.{◌≡◌, ℕ, List, ◌++◌, Option, Some}
use Rattle.wtf_summary.specs.Summaries.{shown_text}

-- what was taken behind `before` is a front of what is shown of the text
pub record ShowsFront (lines : ℕ) (text before : List ℕ) (taken : Option (List ℕ)) : Type 0 where
  pub front : List ℕ
  pub back : List ℕ
  pub shows : front ++ back ≡ shown_text lines text
  pub taken_is : taken ≡ Some (before ++ front)
