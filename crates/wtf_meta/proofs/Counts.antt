-- How many paths a file has, and the value that tells it.
use Rattle.std.proofs.Common.{◌≡◌, ℕ, ◌+◌, ◌-◌, ◌^◌, ◌<◌, ◌≤◌, min, Bool, if◌then◌else◌, List, Option, None, Some, ap, sym, ◌∙◌, ⊎_elim, arith}
use Rattle.std.proofs.lemmas.Bool.{cases_lt, le-leb, lt-leb}
use Rattle.wtf_base.specs.declared.ids.InodeId.{InodeId}
use Rattle.wtf_kv.specs.declared.cell.Applied.TheVariants.{Is, Gone}
use Rattle.wtf_kv.specs.Edits.{value_made}
use Rattle.wtf_model.specs.Tree.{PathSet, path_count}
use Rattle.wtf_model.proofs.PathLaws.{count-some}
use Rattle.wtf_values.specs.declared.key.Key.TheVariants.{Links}
use Rattle.wtf_values.specs.declared.value.Value.{Value}
use Rattle.wtf_values.specs.declared.value.Value.TheVariants as value
use Rattle.wtf_values.specs.declared.value.Delta.TheVariants as delta
use Rattle.wtf_values.specs.Outcomes.{outcome_count, outcome_of}
use Rattle.wtf_meta.specs.Maps.{Map}
use Rattle.wtf_meta.specs.Contents.{Told}
use Rattle.wtf_meta.specs.NameEdits.{link_count}
use Rattle.wtf_meta.specs.Trees.{LeadsTo, count_of, IsFileOf}

-- a number is kept from two paths on
pub count-kept : (n : ℕ) → 2 ≤ n → count_of n ≡ Some (value.Count n)
count-kept n more = ap (λ (b : Bool). if b then Some (value.Count n) else None) (le-leb 2 n more)

pub count-few : (n : ℕ) → n < 2 → count_of n ≡ None
count-few n few = ap (λ (b : Bool). if b then Some (value.Count n) else None) (lt-leb 2 n few)

-- and that of one path is told by none
count-told : (n : ℕ) → 1 ≤ n → link_count (count_of n) ≡ n
count-told n some = ⊎_elim
    (λ few. ap link_count (count-few n few) ∙ omega arith)
    (λ more. ap link_count (count-kept n more))
    (cases_lt n 2)

-- so that the value of a file says how many paths lead to it
pub file-count : (b : ℕ) (told : Told) (w : Map) (i : InodeId) (paths : PathSet) (bytes p : List ℕ) → IsFileOf b told w i paths bytes → LeadsTo w p i
    → link_count (w (Links i)) ≡ path_count paths
file-count b told w i paths bytes p file leads = ap link_count file.count ∙ count-told (path_count paths) (count-some paths p (file.all p leads))

-- one path less
pub count-less : (n : ℕ) → 2 ≤ n → value_made (outcome_count n delta.LinkSub) (Some (value.Count n)) ≡ count_of (n - 1)
count-less n more =
    let after : Bool → Option Value = λ b. value_made (if b then Gone else Is (value.Count (n - 1))) (Some (value.Count n)) in
    ⊎_elim
    (λ past. ap after (lt-leb n 2 past) ∙ sym (count-kept (n - 1) (omega arith)))
    (λ two. ap after (le-leb n 2 two) ∙ sym (count-few (n - 1) (omega arith)))
    (cases_lt 2 n)

-- one path more, where the number can be kept
pub count-more : (n : ℕ) → 1 ≤ n → n + 1 < 2 ^ 64 → value_made (outcome_of (count_of n) delta.LinkAdd) (count_of n) ≡ count_of (n + 1)
count-more n some small =
    let after : Option Value → Option Value = λ v. value_made (outcome_of v delta.LinkAdd) v in
    let kept : count_of (n + 1) ≡ Some (value.Count (n + 1)) = count-kept (n + 1) (omega arith) in
    ⊎_elim
    (λ few.
    let two : 2 ≡ n + 1 = omega (arith, few, some) in
    ap after (count-few n few) ∙ ap (λ c. Some (value.Count c)) two ∙ sym kept)
    (λ more.
    let next : min (n + 1) (2 ^ 64 - 1) ≡ n + 1 = omega (arith, small) in
    ap after (count-kept n more) ∙ ap (λ c. Some (value.Count c)) next ∙ sym kept)
    (cases_lt n 2)
