-- What is made ready in place of what was made ready before.
use Rattle.std.proofs.Common.{◌≡◌, ◌+◌, List, Option, sym, ap, ◌∙◌}
use Rattle.std.specs.declared.cmp.Ordering.{Ordering}
use Rattle.wtf_kv.specs.declared.cell.Applied.{Applied}
use Rattle.wtf_kv.specs.declared.changes.Change.{Change}
use Rattle.wtf_kv.specs.Seen.{upto, value_seen, last_seen}
use Rattle.wtf_kv.specs.Stores.{Store, versions_in, versions_of, map_at, ShowsSame}
use Rattle.wtf_kv.specs.Staging.{value_next, next_value, IsStagedByAll}
use Rattle.wtf_kv.specs.Edits.{versions_with}
use Rattle.wtf_kv.specs.Installs.{IsReady}
use Rattle.wtf_kv.proofs.Prune.{within-upto}
use Rattle.wtf_kv.proofs.Updated.{upto-upto}
use Rattle.wtf_kv.proofs.Made.{number-value}

module _ {K C : Type 0} (order : K → K → Ordering) (old clear : Store K C) (number : clear.number ≡ old.number) (cleared : (q : K) → versions_in order clear.cells q ≡ versions_of order old q) where
  pub cleared_same : (q : K) → versions_of order clear q ≡ versions_of order old q
  cleared_same q = ap (λ n. upto n (versions_in order clear.cells q)) number ∙ ap (upto old.number) (cleared q) ∙ upto-upto old.number (versions_in order old.cells q)

  pub cleared_values : next_value order clear ≡ map_at order old old.number
  cleared_values = λ i q.
      (ap (λ n. value_next n (versions_in order clear.cells q)) number ∙ ap (value_next old.number) (cleared q)
      ∙ sym (number-value old.number (versions_of order old q) (within-upto old.number (versions_in order old.cells q)))) i

  module _ {D : Type 0} (outcome : Option C → D → Applied C) (new : Store K C) (cs : List (Change K D)) (same : ShowsSame order clear new) where
    pub is_ready : IsStagedByAll order outcome cs clear new → IsReady order outcome new (record { number = old.number + 1; changes = cs })
    is_ready made = record {
      next = ap (λ n. n + 1) (sym (same.number ∙ number));
      versions = λ q.
          let shown : versions_of order new q ≡ versions_of order old q = same.versions q ∙ cleared_same q in
          let now : map_at order new new.number q ≡ map_at order old old.number q =
          ap (λ n. value_seen (last_seen n (versions_of order new q))) (same.number ∙ number) ∙ ap (λ vs. value_seen (last_seen old.number vs)) shown in
          made q
          ∙ ap (λ n. versions_with order outcome cs (n + 1) q (next_value order clear q) (versions_in order clear.cells q)) number
          ∙ ap (λ f. versions_with order outcome cs (old.number + 1) q (f q) (versions_in order clear.cells q)) cleared_values
          ∙ ap (versions_with order outcome cs (old.number + 1) q (map_at order old old.number q)) (cleared q)
          ∙ ap (λ v. versions_with order outcome cs (old.number + 1) q v (versions_of order old q)) (sym now)
          ∙ ap (versions_with order outcome cs (old.number + 1) q (map_at order new new.number q)) (sym shown);
    }
