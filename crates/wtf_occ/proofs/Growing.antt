-- How an attempt grows by changes.
use Rattle.std.proofs.Common.{◌≡◌, Result, Ok, Err, OnOk, OnErr, List, [], ◌++◌, sym, ap, ◌∙◌, append-nil}
use Rattle.wtf_kv.specs.declared.changes.Change.{Change}
use Rattle.wtf_occ.specs.Attempts.{Attempted, Grows}

-- the changes go on
pub grows_change : {K D : Type 0} (old inside : Attempted K D) (more cs : List (Change K D)) → inside ≡ old → more ≡ inside.changes ++ cs → Grows old (record inside { changes = more })
grows_change old inside more cs is made = record {
  base = ap (λ a. a.base) is;
  reads = ([], ap (λ a. a.reads) is ∙ sym (append-nil old.reads));
  changes = (cs, made ∙ ap (λ a. a.changes ++ cs) is);
}

-- changes came to the list, or it stayed
pub grows_or_not : {K D A E : Type 0} (old inside : Attempted K D) (more cs : List (Change K D)) (r : Result A E) → inside ≡ old → OnOk r (more ≡ inside.changes ++ cs) → OnErr r (more ≡ inside.changes) → Grows old (record inside { changes = more })
grows_or_not old inside more cs (Ok x) is made same = grows_change old inside more cs is made
grows_or_not old inside more cs (Err e) is made same = record {
  base = ap (λ a. a.base) is;
  reads = ([], ap (λ a. a.reads) is ∙ sym (append-nil old.reads));
  changes = ([], same ∙ ap (λ a. a.changes) is ∙ sym (append-nil old.changes));
}
