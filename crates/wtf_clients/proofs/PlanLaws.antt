-- Where a job may be of a region, by the map, and what is then due on each tree for which the map stands.
use Rattle.wtf_clients.proofs.Common.{if◌then◌else◌, get, cases_Bool, and_parts, leb-true, ltb-true, le-leb, lt-ltb, div-mul-add, InodeId, Answer, Word}
use Rattle.wtf_clients.proofs.Common.{NoRegion, MAX_REGIONS, last_region, Tree, TreeNode, ◌>>=◌, bytes_of, Path, Node, Folder, Value, Told, file_of, FileView}
use Rattle.wtf_clients.proofs.Common.{IsFile, end_of, file_len, Map, node_of, LeadsTo, IsBody, Stands, stands_at, HasRegion, region_in_map, plan_due}
use Rattle.wtf_clients.proofs.Common.{has_region, refusal_at, plan_answer, ◌≡◌, ℕ, ◌+◌, ◌-◌, ◌*◌, ◌/◌, ◌<◌, zero, suc, Bool, true, false, ◌&&◌, nat_le, nat_lt}
use Rattle.wtf_clients.proofs.Common.{List, length, Option, None, Some, Result, Ok, Err, refl, sym, ap, ◌∙◌, ◌⊎◌, inl, inr, arith}
use Rattle.wtf_model.specs.Faults.{or_refusal}
use Rattle.wtf_model.specs.Jobs as jobs
use Rattle.wtf_values.specs.declared.value.Node.TheVariants.{File as FileNode}
use Rattle.wtf_clients.proofs.Dumping.{none_at, folder_at, file_at}

-- ---- by the map

-- a path leads where the node says that stands there
pub leads_at : (v : Option Value) (i : InodeId) → node_of v ≡ Some (FileNode i) → v ≡ Some (Value.Node (FileNode i))
leads_at None i is = absurd (cc)
leads_at (Some (Value.Node n)) i is = let same : n ≡ FileNode i = cc in ap (λ m. Some (Value.Node m)) same
leads_at (Some (Value.Names s)) i is = absurd (cc)
leads_at (Some (Value.Count n)) i is = absurd (cc)
leads_at (Some (Value.Last r)) i is = absurd (cc)
leads_at (Some (Value.Region g)) i is = absurd (cc)

module _ (size : ℕ) (w : Map) (p : List ℕ) (r : ℕ) where
  region_there : (i : InodeId) → LeadsTo w p i → has_region size w i r ≡ true → HasRegion size w p r
  region_there i leads is =
      let last = and_parts (nat_le r (file_of i w).last) (nat_lt r MAX_REGIONS && nat_le (end_of (region_in_map w i r)) size) is in
      let few = and_parts (nat_lt r MAX_REGIONS) (nat_le (end_of (region_in_map w i r)) size) last.1 in
      record { inode = i; leads = leads; few = ltb-true r MAX_REGIONS few.0; size = leb-true (end_of (region_in_map w i r)) size few.1 }

  asked_true : (b : Bool) → (if b then None else Some NoRegion) ≡ None → b ≡ true
  asked_true true is = refl
  asked_true false is = absurd (cc)

  -- where nothing stands against it, the file has the region
  pub plan_has : refusal_at size w r (stands_at w p) ≡ None → HasRegion size w p r
  plan_has is = by (stands_at w p) refl is
    where
      by : (o : Option Node) → stands_at w p ≡ o → refusal_at size w r o ≡ None → HasRegion size w p r
      by None at none = absurd (cc)
      by (Some Folder) at none = absurd (cc)
      by (Some (FileNode i)) at none = region_there i (leads_at (w (Path p)) i at) (asked_true (has_region size w i r) none)

-- what is no refusal is none
pub no_refusal : (o : Option Word) → ((w : Word) → o ≡ Some w → ⊥) → o ≡ None
no_refusal None none = refl
no_refusal (Some w) none = absurd (none w refl)

-- ---- on a tree

less_one : (from end n : ℕ) → from + end ≡ n → 0 < end → n - 1 ≡ from + (end - 1)
less_one from end n is some = omega arith

-- the last region of a file of a tree is that of its length
pub last_is : (b : ℕ) (v : FileView) (bytes : List ℕ) → 0 < b → IsFile b v → file_len b v ≡ length bytes → last_region b (length bytes) ≡ v.last
last_is b v bytes some file len = by v.last refl
  where
    by : (l : ℕ) → v.last ≡ l → last_region b (length bytes) ≡ v.last
    by zero is =
        let end = file.ends v.last in
        let whole : length bytes ≡ end_of (v.region v.last) = omega (arith, sym len ∙ ap (λ n. n * b + end_of (v.region v.last)) is) in
        let below : length bytes - 1 < b = omega (arith, end, whole, some) in
        let as_sum : length bytes - 1 ≡ 0 * b + (length bytes - 1) = omega arith in
        ap (λ n. n / b) as_sum ∙ div-mul-add 0 b (length bytes - 1) below ∙ sym is
    by (suc l) is =
        let end = file.ends v.last in
        let more = file.some (omega (arith, is)) in
        let rest : ℕ = end_of (v.region v.last) - 1 in
        let below : rest < b = omega (arith, end, more) in
        let as_sum : length bytes - 1 ≡ v.last * b + rest = less_one (v.last * b) (end_of (v.region v.last)) (length bytes) len more in
        ap (λ n. n / b) as_sum ∙ div-mul-add v.last b rest below

-- so the test is the definitions'
test_is : (b : ℕ) (told : Told) (w : Map) (i : InodeId) (r : ℕ) (bytes : List ℕ) → 0 < b → IsBody b told w i bytes
    → nat_le r (last_region b (length bytes)) ≡ has_region b w i r
test_is b told w i r bytes some body =
    ap (nat_le r) (last_is b (file_of i w) bytes some body.file body.bytes_are.len) ∙ by (cases_Bool (nat_le r (file_of i w).last))
  where
    rest : Bool
    rest = nat_lt r MAX_REGIONS && nat_le (end_of (region_in_map w i r)) b

    whole : nat_le r (file_of i w).last ≡ true → rest ≡ true
    whole is =
        let few = body.file.few in
        let le = leb-true r (file_of i w).last is in
        let lt : r < MAX_REGIONS = omega (arith, few, le) in
        ap (λ k. k && nat_le (end_of (region_in_map w i r)) b) (lt-ltb r MAX_REGIONS lt) ∙ le-leb (end_of (region_in_map w i r)) b (body.file.ends r)

    by : (nat_le r (file_of i w).last ≡ true) ⊎ (nat_le r (file_of i w).last ≡ false) → nat_le r (file_of i w).last ≡ has_region b w i r
    by (inl is) = is ∙ sym (ap (λ k. k && rest) is ∙ whole is)
    by (inr is) = is ∙ sym (ap (λ k. k && rest) is)

-- the definitions' answer, by what stands in the tree
abbrev due_at : ℕ → ℕ → Option TreeNode → Answer
due_at size r o = or_refusal (do
  bytes ← bytes_of o
  _ ← jobs.has_region size bytes r
  Ok Answer.Planned)

abbrev if_region : Bool → Result (Unit {0}) Word
if_region b = if b then Ok tt else Err NoRegion

abbrev due_if : Bool → Answer
due_if b = or_refusal (do
  _ ← if_region b
  Ok Answer.Planned)

if_due : (b : Bool) → due_if b ≡ plan_answer (if b then None else Some NoRegion)
if_due true = refl
if_due false = refl

pub plan_is_due : (size : ℕ) (told : Told) (tx k : ℕ) (w : Map) (t : Tree) (p : List ℕ) (r : ℕ) → 0 < size → Stands size told tx k w t
    → plan_due size t p r ≡ plan_answer (refusal_at size w r (stands_at w p))
plan_is_due size told tx k w t p r some st = by (stands_at w p) refl
  where
    by : (o : Option Node) → stands_at w p ≡ o → due_at size r (get t p) ≡ plan_answer (refusal_at size w r o)
    by None is = ap (due_at size r) (none_at size told w (w (Path p)) (get t p) (st.nodes p) is)
    by (Some Folder) is = ap (due_at size r) (folder_at size told w (w (Path p)) (get t p) (st.nodes p) is)
    by (Some (FileNode i)) is =
        let found = file_at size told w (w (Path p)) (get t p) i (st.nodes p) is in
        ap (due_at size r) found.there
        ∙ ap due_if (test_is size told w i r found.bytes some found.body)
        ∙ if_due (has_region size w i r)
