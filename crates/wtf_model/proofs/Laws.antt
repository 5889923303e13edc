-- Laws of the definitions: calls one after another, what a write and a read show, and files in a tree.
use Rattle.std.proofs.Common.{◌≡◌, ◌≢◌, ℕ, ◌+◌, ◌-◌, ◌<◌, ◌≤◌, min, max, Bool, true, false, cond, List, [], ◌∷◌, ◌++◌, length, get_or, take, drop, replicate, Option, Some, Ok, refl, sym, ap, ◌∙◌, inl, inr, arith, length-append, length-drop}
use Rattle.std.proofs.lemmas.List.{length-take, length-replicate, get_or_append_left, get_or-append_right, get_or-take, get_or-drop, get_or-replicate, get_or_past}
use Rattle.std.proofs.lemmas.Bool.{cases_lt}
use Rattle.std.specs.FinMap.{FinMap, get, insert, get-insert, get_tied, same_map, IsAntisymmetric, nat_cmp-IsAntisymmetric, slice_cmp-IsAntisymmetric}
use Rattle.std.specs.Cmp.{IsTotalOrder, nat_cmp_total, eq_by_cmp_equiv}
use Rattle.std.specs.Cmp.Lexicographic.{nat_list_cmp_total}
use Rattle.std.specs.Ordering.{nat_cmp, eq_by_cmp, is_eq}
use Rattle.std.specs.declared.cmp.Ordering.{Ordering}
use Rattle.std.specs.declared.cmp.Ordering.TheVariants.{Less, Equal, Greater}
use Rattle.wtf_model.specs.declared.op.Op.{Op}
use Rattle.wtf_model.specs.Tree.{TreeNode}
use Rattle.wtf_model.specs.Tree.{File}
use Rattle.wtf_model.specs.Tree.{PathSet, Tree, source, bytes_of}
use Rattle.wtf_model.specs.Session.{Session, Handle}
use Rattle.wtf_model.specs.Done.{bytes_at, bytes_or_none}
use Rattle.wtf_model.specs.ByteCalls.{written}
use Rattle.wtf_model.specs.Call.{call}
use Rattle.wtf_model.specs.Transaction.{session_from, answers_from}

-- one more call

pub session_from-push : (cap : ℕ) (s : Session) (ops : List (Op (List ℕ))) (o : Op (List ℕ)) → session_from cap s (ops ++ o ∷ []) ≡ (call cap (session_from cap s ops) o).session
unfolding session_from
session_from-push cap s [] o = refl
session_from-push cap s (x ∷ ops) o = session_from-push cap (call cap s x).session ops o

pub answers_from-push : (cap : ℕ) (s : Session) (ops : List (Op (List ℕ))) (o : Op (List ℕ))
    → answers_from cap s (ops ++ o ∷ []) ≡ answers_from cap s ops ++ (call cap (session_from cap s ops) o).answer ∷ []
unfolding session_from answers_from
answers_from-push cap s [] o = refl
answers_from-push cap s (x ∷ ops) o = ap (λ r. (call cap s x).answer ∷ r) (answers_from-push cap (call cap s x).session ops o)

-- what a write leaves

front : List ℕ → ℕ → List ℕ
front old off = take off old ++ replicate (off - length old) 0

length-front : (old : List ℕ) (off : ℕ) → length (front old off) ≡ off
unfolding front
length-front old off = simp (length-append, length-take, length-replicate) (omega arith)

front_at : (old : List ℕ) (off x : ℕ) → x < off → get_or (front old off) x 0 ≡ get_or old x 0
unfolding front
front_at old off x h = elim (cases_lt x (length old)) [
  | inl near ↦ get_or_append_left (take off old) _ 0 x (rw length-take (omega arith)) ∙ get_or-take off old x 0 h
  | inr far ↦ get_or-append_right (take off old) _ (length old) x 0 (length-take off old ∙ omega arith) far
      ∙ get_or-replicate (off - length old) (x - length old) 0 0 (omega arith) ∙ sym (get_or_past old x 0 far)
]

pub length-written : (old : List ℕ) (off : ℕ) (new : List ℕ) → length (written old off new) ≡ max (length old) (off + length new)
length-written old off new = simp (length-append, length-take, length-replicate, length-drop) (omega arith)

-- before the new bytes, the old ones, and zeros behind their end
pub written_before : (old : List ℕ) (off : ℕ) (new : List ℕ) (x : ℕ) → x < off → get_or (written old off new) x 0 ≡ get_or old x 0
unfolding front
written_before old off new x h =
    let shorter : x < length (front old off) = rw length-front h in
    let near : x < length (front old off ++ new) = rw length-append (omega arith) in
    get_or_append_left _ _ 0 x near ∙ get_or_append_left _ _ 0 x shorter ∙ front_at old off x h

pub written_within : (old : List ℕ) (off : ℕ) (new : List ℕ) (x : ℕ) → off ≤ x → x < off + length new → get_or (written old off new) x 0 ≡ get_or new (x - off) 0
unfolding front
written_within old off new x from upto =
    let is : length (front old off) ≡ off = length-front old off in
    let near : x < length (front old off ++ new) = rw length-append (omega arith) in
    get_or_append_left _ _ 0 x near ∙ get_or-append_right _ _ off x 0 is from

-- behind the new bytes, the old ones
pub written_after : (old : List ℕ) (off : ℕ) (new : List ℕ) (x : ℕ) → off + length new ≤ x → get_or (written old off new) x 0 ≡ get_or old x 0
unfolding front
written_after old off new x from =
    let is : length (front old off ++ new) ≡ off + length new = length-append _ _ ∙ ap (λ n. n + length new) (length-front old off) in
    let there : off + length new + (x - (off + length new)) ≡ x = omega arith in
    get_or-append_right _ _ (off + length new) x 0 is from ∙ get_or-drop (off + length new) old _ 0 ∙ ap (λ k. get_or old k 0) there

-- what a read shows

pub length-part : (n off : ℕ) (bytes : List ℕ) → length (take n (drop off bytes)) ≡ min n (length bytes - off)
length-part n off bytes = length-take n _ ∙ ap (min n) (length-drop off bytes)

pub get_or-part : (n off : ℕ) (bytes : List ℕ) (i d : ℕ) → i < n → get_or (take n (drop off bytes)) i d ≡ get_or bytes (off + i) d
get_or-part n off bytes i d h = get_or-take n _ i d h ∙ get_or-drop off bytes i d

-- files in a tree and handles in a session

apart : {K : Type 0} {R : K → K → Ordering} → IsAntisymmetric R → (x y : K) → x ≢ y → eq_by_cmp R x y ≡ false
apart {R = R} same x y differ =
    elim (R x y) as (λ r. R x y ≡ r → is_eq r ≡ false) [
      | Less ↦ λ e. refl
      | Equal ↦ λ e. absurd (differ (same x y e))
      | Greater ↦ λ e. refl
    ] refl

-- what was put at a key, and what stands at the others
inserted : {K X : Type 0} {R : K → K → Ordering} (o : IsTotalOrder R) (m : FinMap R X) (k : K) (v : X) → get (insert m k v) k ≡ Some v
inserted o m k v = get-insert o m k v k ∙ ap (λ b. cond b (Some v) (get m k)) ((eq_by_cmp_equiv o).refl k)

kept : {K X : Type 0} {R : K → K → Ordering} (o : IsTotalOrder R) → IsAntisymmetric R → (m : FinMap R X) (k : K) (v : X) (q : K) → q ≢ k → get (insert m k v) q ≡ get m q
kept o same m k v q differ = get-insert o m k v q ∙ ap (λ b. cond b (Some v) (get m q)) (apart same q k differ)

hidden : {X : Type 0} (b : Bool) (w v : X) (old new : Option X) → new ≡ cond b (Some v) old → cond b (Some w) new ≡ cond b (Some w) old
hidden true w v old new e = refl
hidden false w v old new e = e

-- the later of two at one key stays
over : {K X : Type 0} {R : K → K → Ordering} (o : IsTotalOrder R) → IsAntisymmetric R → (m : FinMap R X) (k : K) (v w : X) → insert (insert m k v) k w ≡ insert m k w
over {R = R} o same m k v w =
    same_map o same _ _ (λ q. get-insert o _ k w q ∙ hidden (eq_by_cmp R q k) w v (get m q) _ (get-insert o m k v q) ∙ sym (get-insert o m k w q))

-- what is there may be put again
again : {K X : Type 0} {R : K → K → Ordering} (o : IsTotalOrder R) → IsAntisymmetric R → (m : FinMap R X) (k : K) (v : X) → get m k ≡ Some v → insert m k v ≡ m
again {R = R} o same m k v there =
    same_map o same _ _ (λ q. get-insert o m k v q ∙
    elim (R q k) as (λ r. R q k ≡ r → cond (is_eq r) (Some v) (get m q) ≡ get m q) [
      | Less ↦ λ e. refl
      | Equal ↦ λ e. sym there ∙ get_tied o m q k e
      | Greater ↦ λ e. refl
    ] refl)

pub get-number_same : {X : Type 0} (m : FinMap nat_cmp X) (k : ℕ) (v : X) → get (insert m k v) k ≡ Some v
get-number_same m k v = inserted nat_cmp_total m k v

pub get-number_other : {X : Type 0} (m : FinMap nat_cmp X) (k : ℕ) (v : X) (q : ℕ) → q ≢ k → get (insert m k v) q ≡ get m q
get-number_other m k v q differ = kept nat_cmp_total nat_cmp-IsAntisymmetric m k v q differ

pub insert-node_over : (t : Tree) (p : List ℕ) (a b : TreeNode) → insert (insert t p a) p b ≡ insert t p b
insert-node_over t p a b = over nat_list_cmp_total (slice_cmp-IsAntisymmetric nat_cmp-IsAntisymmetric) t p a b

pub insert-handle_over : (m : FinMap nat_cmp Handle) (f : ℕ) (a b : Handle) → insert (insert m f a) f b ≡ insert m f b
insert-handle_over m f a b = over nat_cmp_total nat_cmp-IsAntisymmetric m f a b

pub insert-handle_again : (m : FinMap nat_cmp Handle) (f : ℕ) (h : Handle) → get m f ≡ Some h → insert m f h ≡ m
insert-handle_again m f h there = again nat_cmp_total nat_cmp-IsAntisymmetric m f h there

pub get-node_same : (t : Tree) (p : List ℕ) (n : TreeNode) → get (insert t p n) p ≡ Some n
get-node_same t p n = inserted nat_list_cmp_total t p n

pub get-node_other : (t : Tree) (p : List ℕ) (n : TreeNode) (q : List ℕ) → q ≢ p → get (insert t p n) q ≡ get t q
get-node_other t p n q differ = kept nat_list_cmp_total (slice_cmp-IsAntisymmetric nat_cmp-IsAntisymmetric) t p n q differ

pub get-handle_same : (m : FinMap nat_cmp Handle) (f : ℕ) (h : Handle) → get (insert m f h) f ≡ Some h
get-handle_same m f h = inserted nat_cmp_total m f h

pub get-handle_other : (m : FinMap nat_cmp Handle) (f : ℕ) (h : Handle) (g : ℕ) → g ≢ f → get (insert m f h) g ≡ get m g
get-handle_other m f h g differ = kept nat_cmp_total nat_cmp-IsAntisymmetric m f h g differ

-- the file that was put at a path
pub source-file_same : (t : Tree) (p : List ℕ) (paths : PathSet) (bytes : List ℕ) → source (insert t p (File paths bytes)) p ≡ Ok bytes
source-file_same t p paths bytes = ap bytes_of (get-node_same t p (File paths bytes))

pub bytes_at-file_same : (t : Tree) (p : List ℕ) (paths : PathSet) (bytes : List ℕ) → bytes_at (insert t p (File paths bytes)) p ≡ bytes
bytes_at-file_same t p paths bytes = ap bytes_or_none (source-file_same t p paths bytes)
