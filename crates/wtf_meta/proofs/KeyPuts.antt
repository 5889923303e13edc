-- Changes of single keys, and cuts of a file's regions, as new values at just these keys.
use Rattle.std.proofs.Common.{◌≡◌, ◌≢◌, ◌⊎◌, ℕ, ◌≤◌, true, false, cond, List, [], ◌∷◌, ◌++◌, Option, None, Some, sym, ap, ◌∙◌, inl, inr, ⊎_elim}
use Rattle.std.specs.BTreeMap.{is_at}
use Rattle.std.proofs.Math.Path.{fun_ext}
use Rattle.std.proofs.lemmas.Bool.{cases_Bool}
use Rattle.wtf_base.specs.declared.ids.InodeId.{InodeId}
use Rattle.wtf_kv.specs.declared.changes.Change.TheVariants as change
use Rattle.wtf_kv.specs.Edits.{value_made}
use Rattle.wtf_kv.proofs.EditLaws.{over-append}
use Rattle.wtf_path.specs.Parts.{name_of}
use Rattle.wtf_values.specs.declared.key.Key.{Key}
use Rattle.wtf_values.specs.declared.key.Key.TheVariants.{Path, Dir, Inode, Region, Links}
use Rattle.wtf_values.specs.declared.value.Value.{Value}
use Rattle.wtf_values.specs.declared.value.Value.TheVariants as value
use Rattle.wtf_values.specs.declared.value.Delta.{Delta}
use Rattle.wtf_values.specs.declared.value.Delta.TheVariants as delta
use Rattle.wtf_values.specs.Keys.{key_cmp}
use Rattle.wtf_values.specs.Names.{NamesOf, with_name, without_name}
use Rattle.wtf_values.specs.Outcomes.{outcome_count, outcome_of}
use Rattle.wtf_values.proofs.KeyLaws.{at_itself, at_same, at_none, between_region, between_other}
use Rattle.wtf_meta.specs.Maps.{Map, Edits, with}
use Rattle.wtf_meta.specs.NameEdits.{add_to, drop_from}

-- a map with another value at a key
abbrev pub put_in : Map → Key → Option Value → Map
put_in w k v q = cond (is_at (key_cmp k) q) v (w q)

pub put-same : (w : Map) (k : Key) (v : Option Value) → put_in w k v k ≡ v
put-same w k v = ap (λ b. cond b v (w k)) (at_itself k)

pub put-other : (w : Map) (k q : Key) (v : Option Value) → k ≢ q → put_in w k v q ≡ w q
put-other w k q v differ = ap (λ b. cond b v (w q)) (at_none k q differ)

-- keys of different paths, and of different inodes
pub paths-apart : (p q : List ℕ) → q ≢ p → Path p ≢ Path q
paths-apart p q differ e = let same : q ≡ p = cc in differ same

pub dirs-apart : (p q : List ℕ) → q ≢ p → Dir p ≢ Dir q
dirs-apart p q differ e = let same : q ≡ p = cc in differ same

pub inodes-apart : (i j : InodeId) → j ≢ i → Inode i ≢ Inode j
inodes-apart i j differ e = let same : j ≡ i = cc in differ same

pub counts-apart : (i j : InodeId) → j ≢ i → Links i ≢ Links j
counts-apart i j differ e = let same : j ≡ i = cc in differ same

-- two inodes are one, or not
pub one_inode : (i j : InodeId) → (j ≡ i) ⊎ (j ≢ i)
one_inode i j = ⊎_elim
    (λ t. let same : Inode i ≡ Inode j = at_same (Inode i) (Inode j) t in let one : j ≡ i = cc in inl one)
    (λ f. inr (λ e. let t : is_at (key_cmp (Inode i)) (Inode j) ≡ true = ap (λ x. is_at (key_cmp (Inode i)) (Inode x)) e ∙ at_itself (Inode i) in
    let bad : true ≡ false = sym t ∙ f in cc))
    (cases_Bool (is_at (key_cmp (Inode i)) (Inode j)))

-- changes, one list after another
pub with-append : (cs ds : Edits) (w : Map) → with (cs ++ ds) w ≡ with ds (with cs w)
with-append cs ds w = over-append key_cmp outcome_of cs ds w

-- a change of a key sets its value
pub with-delta : (w : Map) (k : Key) (d : Delta) → with (change.Delta k d ∷ []) w ≡ put_in w k (value_made (outcome_of (w k) d) (w k))
with-delta w k d = fun_ext (λ q. ⊎_elim
    (λ t. ap (λ x. cond (is_at (key_cmp k) q) (value_made (outcome_of (w x) d) (w x)) (w q)) (sym (at_same k q t)))
    (λ f. ap (λ b. cond b (value_made (outcome_of (w q) d) (w q)) (w q)) f ∙ sym (ap (λ b. cond b (value_made (outcome_of (w k) d) (w k)) (w q)) f))
    (cases_Bool (is_at (key_cmp k) q)))

-- a directory gets a name, or loses it
pub with-add_to : (w : Map) (dir p : List ℕ) (names : NamesOf) → w (Dir dir) ≡ Some (value.Names names)
    → with (add_to dir p ∷ []) w ≡ put_in w (Dir dir) (Some (value.Names (with_name names (name_of p))))
with-add_to w dir p names is = with-delta w (Dir dir) (delta.DirAdd (name_of p))
    ∙ ap (λ v. put_in w (Dir dir) (value_made (outcome_of v (delta.DirAdd (name_of p))) v)) is

pub with-drop_from : (w : Map) (dir p : List ℕ) (names : NamesOf) → w (Dir dir) ≡ Some (value.Names names)
    → with (drop_from dir p ∷ []) w ≡ put_in w (Dir dir) (Some (value.Names (without_name names (name_of p))))
with-drop_from w dir p names is = with-delta w (Dir dir) (delta.DirDel (name_of p))
    ∙ ap (λ v. put_in w (Dir dir) (value_made (outcome_of v (delta.DirDel (name_of p))) v)) is

-- a file tells one path less
pub with-sub : (w : Map) (i : InodeId) (n : ℕ) → w (Links i) ≡ Some (value.Count n)
    → with (change.Delta (Links i) delta.LinkSub ∷ []) w ≡ put_in w (Links i) (value_made (outcome_count n delta.LinkSub) (Some (value.Count n)))
with-sub w i n is = with-delta w (Links i) delta.LinkSub ∙ ap (λ v. put_in w (Links i) (value_made (outcome_of v delta.LinkSub) v)) is

-- or one more
pub with-add : (w : Map) (i : InodeId) (v : Option Value) → w (Links i) ≡ v
    → with (change.Delta (Links i) delta.LinkAdd ∷ []) w ≡ put_in w (Links i) (value_made (outcome_of v delta.LinkAdd) v)
with-add w i v is = with-delta w (Links i) delta.LinkAdd ∙ ap (λ o. put_in w (Links i) (value_made (outcome_of o delta.LinkAdd) o)) is

-- a cut of regions of a file takes out just those
pub cut-own : (w : Map) (i : InodeId) (from to r : ℕ) → from ≤ r → r ≤ to → with (change.Cut (Region i from) (Region i to) ∷ []) w (Region i r) ≡ None
cut-own w i from to r above below = ap (λ b. cond b None (w (Region i r))) (between_region i from to r above below)

pub cut-other : (w : Map) (i j : InodeId) (from to r : ℕ) → j ≢ i → with (change.Cut (Region i from) (Region i to) ∷ []) w (Region j r) ≡ w (Region j r)
cut-other w i j from to r differ = ap (λ b. cond b None (w (Region j r))) (between_other i j from to r (λ e. differ (sym e)))
