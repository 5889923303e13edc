-- Transactions by their clients: what is found, and what stands after one became another, or after its verdict.
use Rattle.std.proofs.Common.{
  ◌≡◌,
  ℕ,
  ◌≤◌,
  ◌<◌,
  Bool,
  true,
  false,
  cond,
  if◌then◌else◌,
  List,
  length,
  Option,
  Some,
  None,
  Result,
  Ok,
  Err,
  IsTrue,
  IfOk,
  OnErr,
  ◌↔◌,
  ◌⊎◌,
  inl,
  inr,
  refl,
  sym,
  ap,
  subst,
  ◌∙◌,
  arith,
}
use Rattle.std.specs.Option.{option_map, IsSome}
use Rattle.std.specs.Map.{lookup}
use Rattle.std.specs.BTreeMap.{is_at}
use Rattle.std.specs.Ordering.{nat_cmp, eq_by_cmp}
use Rattle.std.specs.Cmp.{nat_cmp_total}
use Rattle.std.specs.FinMap.{FinMap, get, insert, remove, get-insert, get-remove, nat_cmp-IsAntisymmetric, same_map}
use Rattle.std.proofs.lemmas.Map.Views.{tells_apart}
use Rattle.std.proofs.lemmas.Bool.{eqb-true, eqb-false, leb-false, cases_lt}
use Rattle.std.proofs.lemmas.List.{length-map}
use Rattle.wtf_model.specs.declared.limits.TheConstants.{MAX_LOGGED}
use Rattle.wtf_model.specs.declared.answer.Answer.{Answer, Aborted'}
use Rattle.wtf_model.specs.declared.answer.Answer.TheVariants as answer
use Rattle.wtf_machine.specs.declared.begun.Verdict.TheVariants as verdict
use Rattle.wtf_model.specs.declared.op.Op.{Op}
use Rattle.wtf_model.specs.declared.item.Item.{Item}
use Rattle.wtf_model.specs.Transaction.{Transaction}
use Rattle.wtf_model.specs.Machines.{Machine, is_live, is_full}
use Rattle.wtf_model.specs.Steps.{is_logged, logged}
use Rattle.wtf_machine.specs.declared.begun.Begun.{Begun}
use Rattle.wtf_machine.specs.declared.log.Logged.{Logged}
use Rattle.wtf_machine.specs.Logs.{ops_of}
use Rattle.wtf_machine.specs.Maps.{map_of}
use Rattle.wtf_machine.specs.Verdicts.{transaction_in, open_in, called_on, stepped_on, IsAborting, IsVerdict}
use Rattle.wtf_machine.specs.Kept.{Decides, called_in, stepped_in}
use Rattle.wtf_machine.proofs.MapLaws.{get-map_of, map_of-put}
use Rattle.wtf_machine.proofs.SeenLaws.{open_same}

abbrev seen : List Item → List (ℕ × Begun) → FinMap nat_cmp Transaction
seen changed es = map_of nat_cmp (open_in changed) es

-- what a map has at a key may be put there again
again : (b : Bool) (o : Option Transaction) (t : Transaction) → (b ≡ true → o ≡ Some t) → cond b (Some t) o ≡ o
again true o t is = sym (is refl)
again false o t is = refl

pub insert-again : (ts : FinMap nat_cmp Transaction) (c : ℕ) (t : Transaction) → get ts c ≡ Some t → insert ts c t ≡ ts
insert-again ts c t there =
    same_map nat_cmp_total nat_cmp-IsAntisymmetric _ _ (λ q.
    get-insert nat_cmp_total ts c t q
    ∙ again (eq_by_cmp nat_cmp q c) (get ts q) t (λ e. subst (λ x. get ts x ≡ Some t) (sym (tells_apart nat_cmp-IsAntisymmetric q c e)) there))

-- what was found is there
pub got : {X : Type 0} (o : Option X) (x : X) → Some x ≡ o → IsSome o
got o x is = subst IsSome is refl

module _ (changed : List Item) (es : List (ℕ × Begun)) (c : ℕ) where
  -- the transaction that is found
  pub found_is : (b : Begun) (t : Transaction) → Some b ≡ lookup (is_at (nat_cmp c)) es → get (seen changed es) c ≡ Some t → open_in changed b ≡ t
  found_is b t found there =
      let same : Some (open_in changed b) ≡ Some t =
      ap (option_map (open_in changed)) found ∙ sym (get-map_of nat_cmp_total (open_in changed) es c) ∙ there in cc

  pub found_at : (b : Begun) → Some b ≡ lookup (is_at (nat_cmp c)) es → get (seen changed es) c ≡ Some (open_in changed b)
  found_at b found = get-map_of nat_cmp_total (open_in changed) es c ∙ ap (option_map (open_in changed)) (sym found)

  pub none_found : (t : Transaction) → None ≡ lookup (is_at (nat_cmp c)) es → get (seen changed es) c ≡ Some t → ⊥
  none_found t none there =
      let same : None ≡ Some t = ap (option_map (open_in changed)) none ∙ sym (get-map_of nat_cmp_total (open_in changed) es c) ∙ there in cc

  -- it became another
  pub becomes : (new : List (ℕ × Begun)) (w : Begun)
      → ((q : ℕ) → lookup (is_at (nat_cmp q)) new ≡ cond (is_at (nat_cmp c) q) (Some w) (lookup (is_at (nat_cmp q)) es))
      → seen changed new ≡ insert (seen changed es) c (open_in changed w)
  becomes new w is = map_of-put nat_cmp_total (open_in changed) nat_cmp-IsAntisymmetric es new c w is

  pub stays : (new : List (ℕ × Begun)) (b w : Begun) → Some b ≡ lookup (is_at (nat_cmp c)) es
      → ((q : ℕ) → lookup (is_at (nat_cmp q)) new ≡ cond (is_at (nat_cmp c) q) (Some w) (lookup (is_at (nat_cmp q)) es))
      → transaction_in w ≡ transaction_in b → w.since ≡ b.since → seen changed new ≡ seen changed es
  stays new b w found is same since =
      becomes new w is ∙ ap (insert (seen changed es) c) (open_same changed w b same since)
      ∙ insert-again (seen changed es) c (open_in changed b) (found_at b found)

-- after a call

called_so : (b : Bool) (ts new : FinMap nat_cmp Transaction) (c : ℕ) (t next : Transaction) → get ts c ≡ Some t → new ≡ insert ts c (if b then next else t)
    → new ≡ (if b then insert ts c next else ts)
called_so true ts new c t next there is = is
called_so false ts new c t next there is = is ∙ insert-again ts c t there

pub decided_call : {E : Type 0} (r : Result Bool E) (Ok_for Lawful : Machine → Type 0) (ts new : FinMap nat_cmp Transaction) (c : ℕ) (t w : Transaction)
    (o : Op (List ℕ)) (a : Answer)
    → get ts c ≡ Some t → new ≡ insert ts c w
    → IfOk r (λ yes. (m : Machine) → Ok_for m → (IsTrue yes ↔ Lawful m))
    → IfOk r (λ yes. IsTrue yes → w ≡ called_on t o a)
    → IfOk r (λ yes. yes ≡ false → w ≡ t)
    → IfOk r (λ yes. (m : Machine) → Ok_for m → Decides (Lawful m) ts (called_in ts c t o a) new yes)
decided_call (Err e) Ok_for Lawful ts new c t w o a there is lawful next same = lawful
decided_call (Ok true) Ok_for Lawful ts new c t w o a there is lawful next same = λ m ok.
    ((lawful m ok).0 refl, called_so (is_logged a) ts new c t (logged t o a) there (is ∙ ap (insert ts c) (next refl)))
decided_call (Ok false) Ok_for Lawful ts new c t w o a there is lawful next same = λ m ok.
    ((λ h. let yes : false ≡ true = (lawful m ok).1 h in cc), is ∙ ap (insert ts c) (same refl) ∙ insert-again ts c t there)

-- a live transaction has replayed all of its calls, and another has not; and a log that is not full has room
pub live_replayed : (b : Begun) → is_live (transaction_in b) ≡ true → b.replayed ≡ length b.calls.items
live_replayed b live = eqb-true b.replayed (length (ops_of b.calls.items)) live ∙ length-map b.calls.items (λ (l : Logged). l.op)

pub behind : (b : Begun) → is_live (transaction_in b) ≡ false → b.replayed < length b.calls.items
behind b not_live =
    let other = eqb-false b.replayed (length (ops_of b.calls.items)) not_live in
    let same = length-map b.calls.items (λ (l : Logged). l.op) in
    let most = b.counted in
    below (cases_lt b.replayed (length b.calls.items)) (λ e. other (e ∙ sym same)) most
  where
    below : {n k : ℕ} → (n < k) ⊎ (k ≤ n) → (n ≡ k → ⊥) → n ≤ k → n < k
    below (inl less) other most = less
    below (inr more) other most = absurd (other (omega (arith, more, most)))

pub room_left : (b : Begun) → is_full (transaction_in b) ≡ false → length b.calls.items < 4096
room_left b room = subst (λ n. n < 4096) (length-map b.calls.items (λ (l : Logged). l.op)) (leb-false MAX_LOGGED (length (ops_of b.calls.items)) room)

-- an error leaves all
pub on_error : {A E : Type 0} (r : Result A E) (P Q : Type 0) → (P → Q) → OnErr r P → OnErr r Q
on_error (Ok x) P Q f h = h
on_error (Err e) P Q f h = f h

-- after a step

goes_so : (a : Answer) (ts new : FinMap nat_cmp Transaction) (c : ℕ) (t : Transaction) → get ts c ≡ Some t → (IsAborting a → ⊥)
    → new ≡ insert ts c (stepped_on t a) → new ≡ stepped_in ts c t a
goes_so (answer.Replayed i) ts new c t there goes is = is
goes_so (Aborted' i box a) ts new c t there goes is = absurd (goes tt)
goes_so a ts new c t there goes is = is ∙ insert-again ts c t there

ends_so : (a : Answer) (ts new : FinMap nat_cmp Transaction) (c : ℕ) (t : Transaction) → IsAborting a → new ≡ remove ts c → new ≡ stepped_in ts c t a
ends_so (Aborted' i box a) ts new c t so is = is
ends_so a ts new c t so is = absurd so

pub decided_goes : (Lawful : Type 0) (ts new : FinMap nat_cmp Transaction) (c : ℕ) (t w : Transaction) (a : Answer) → get ts c ≡ Some t → new ≡ insert ts c w
    → IsVerdict Lawful t w a verdict.Goes → Decides Lawful ts (stepped_in ts c t a) new true
decided_goes Lawful ts new c t w a there is v = (v.0, goes_so a ts new c t there v.2 (is ∙ ap (insert ts c) v.1))

pub decided_ends : (Lawful : Type 0) (ts new : FinMap nat_cmp Transaction) (c : ℕ) (t w : Transaction) (a : Answer) → new ≡ remove ts c
    → IsVerdict Lawful t w a verdict.Ends → Decides Lawful ts (stepped_in ts c t a) new true
decided_ends Lawful ts new c t w a is v = (v.0, ends_so a ts new c t v.1 is)

pub decided_unlawful : (Lawful : Type 0) (ts next new : FinMap nat_cmp Transaction) (c : ℕ) (t w : Transaction) (a : Answer) → get ts c ≡ Some t
    → new ≡ insert ts c w
    → IsVerdict Lawful t w a verdict.Unlawful → Decides Lawful ts next new false
decided_unlawful Lawful ts next new c t w a there is v = (v.0, is ∙ ap (insert ts c) v.1 ∙ insert-again ts c t there)

-- ended after it became another
pub gone_after : (ts : FinMap nat_cmp Transaction) (c : ℕ) (w : Transaction) → remove (insert ts c w) c ≡ remove ts c
gone_after ts c w =
    same_map nat_cmp_total nat_cmp-IsAntisymmetric _ _ (λ q.
    get-remove nat_cmp_total (insert ts c w) c q ∙ ap (cond (eq_by_cmp nat_cmp q c) None) (get-insert nat_cmp_total ts c w q)
    ∙ twice (eq_by_cmp nat_cmp q c) (get ts q) w ∙ sym (get-remove nat_cmp_total ts c q))
  where
    twice : (b : Bool) (o : Option Transaction) (w : Transaction) → cond b None (cond b (Some w) o) ≡ cond b None o
    twice true o w = refl
    twice false o w = refl
