-- What is pinned stays, whatever calls come.
use Rattle.std.proofs.Common.{◌≡◌, ℕ, ◌+◌, ◌<◌, ◌≤◌, Bool, true, false, ◌||◌, ◌&&◌, not, nat_eq, nat_lt, List, [], ◌∷◌, ◌++◌, Option, Result, Ok, Err, OnErr, refl, sym, ap, subst, ◌∙◌, ⊎_elim, inl, inr, arith, cond, count_by}
use Rattle.std.specs.List.{list_any}
use Rattle.std.specs.Set.{remove_key}
use Rattle.std.specs.declared.cmp.Ordering.{Ordering}
use Rattle.std.proofs.lemmas.Bool.{cases_Bool, and_parts, or_cases, or_right, ltb-true, eqb-true, both_ways}
use Rattle.wtf_kv.specs.declared.cell.Applied.{Applied}
use Rattle.wtf_kv.specs.declared.calls.Call.{Call}
use Rattle.wtf_kv.specs.declared.calls.Call.TheVariants.{Pin, Unpin, Prune, Reserve, Install}
use Rattle.wtf_kv.specs.Stores.{Store, is_pinned, map_at, ShowsSame}
use Rattle.wtf_kv.specs.Seen.{value_seen, last_seen}
use Rattle.wtf_kv.specs.Calls.{KeepsMap, is_allowed, Made, Leaves, IsMadeWhere, Step, Stop, Steps, StopsIn}
use Rattle.wtf_kv.proofs.PinLaws.{count-push, count-remove_key, any-count, count-any}

pub on_err : {T E : Type 0} (r : Result T E) (P : Type 0) → P → OnErr r P
on_err (Ok x) P p = tt
on_err (Err e) P p = p

module _ {K C D : Type 0} (order : K → K → Ordering) (outcome : Option C → D → Applied C) where
  pub made_where : (b : Bool) (c : Call K C D) (old new : Store K C) → b ≡ true → Made order outcome c old new → IsMadeWhere order outcome b c old new
  made_where b c old new here made = subst (λ t. IsMadeWhere order outcome t c old new) (sym here) made

  -- one more call
  pub steps_more : (m : ℕ) (cs : List (Call K C D)) (c : Call K C D) (old mid new : Store K C) → Steps order outcome m cs old mid → Step order outcome m c mid new → Steps order outcome m (cs ++ c ∷ []) old new
  steps_more m [] c old mid new same step = (new, subst (λ s. Step order outcome m c s new) same step, refl)
  steps_more m (d ∷ cs) c old mid new (s, first, rest) step = (s, first, steps_more m cs c s mid new rest step)

  -- and one that finds no memory, whatever calls were to come
  pub stops_more : (m : ℕ) (cs : List (Call K C D)) (c : Call K C D) (ds : List (Call K C D)) (old mid new : Store K C) → Steps order outcome m cs old mid → Stop order outcome m c mid new → StopsIn order outcome m (cs ++ c ∷ ds) old new
  stops_more m [] c ds old mid new same stop = inl (subst (λ s. Stop order outcome m c s new) same stop)
  stops_more m (d ∷ cs) c ds old mid new (s, first, rest) stop = inr (s, first, stops_more m cs c ds s mid new rest stop)

  -- m is pinned, at a number that the store has reached
  pub record IsHeld (m : ℕ) (s : Store K C) : Type 0 where
    pub pinned : is_pinned s m ≡ true
    pub reached : m ≤ s.number

  kept_same : (m : ℕ) (old new : Store K C) → IsHeld m old → new ≡ old → KeepsMap order m old new × IsHeld m new
  kept_same m old new held same = (record { pinned = ap (λ s. is_pinned s m) same ∙ held.pinned; map = ap (λ s. map_at order s m) same }, subst (IsHeld m) (sym same) held)

  kept_shown : (m : ℕ) (old new : Store K C) → IsHeld m old → ShowsSame order old new → KeepsMap order m old new × IsHeld m new
  kept_shown m old new held same =
      let pinned : is_pinned new m ≡ true = ap (list_any (nat_eq m)) same.pins ∙ held.pinned in (
        record { pinned = pinned; map = λ i q. ap (λ vs. value_seen (last_seen m vs)) (same.versions q) i },
        record { pinned = pinned; reached = subst (λ n. m ≤ n) (sym same.number) held.reached },
      )

  -- the last pin of m is not undone
  unpinned : (m n : ℕ) (pins : List ℕ) → (list_any (nat_eq n) pins && (not (nat_eq n m) || nat_lt 1 (count_by (nat_eq n) pins))) ≡ true → list_any (nat_eq m) pins ≡ true → list_any (nat_eq m) (remove_key (nat_eq n) pins) ≡ true
  unpinned m n pins allowed pinned =
      let parts = and_parts (list_any (nat_eq n) pins) (not (nat_eq n m) || nat_lt 1 (count_by (nat_eq n) pins)) allowed in
      let less = count-remove_key m n pins parts.0 in
      let some = count-any m pins pinned in
      any-count m (remove_key (nat_eq n) pins)
      (⊎_elim
      (λ other.
      let apart : nat_eq m n ≡ false = ⊎_elim (λ t. absurd (both_ways _ (ap not (ap (λ k. nat_eq k m) (sym (eqb-true m n t)) ∙ ap (nat_eq m) (eqb-true m n t) ∙ t)) other)) (λ f. f) (cases_Bool (nat_eq m n)) in
      let none : ◌≡◌ {A = ℕ} (cond (nat_eq m n) 1 0) 0 = ap (λ b. cond b 1 0) apart in
      omega (arith, less, some, none))
      (λ twice. ⊎_elim
      (λ t.
      let is : m ≡ n = eqb-true m n t in
      let one : ◌≡◌ {A = ℕ} (cond (nat_eq m n) 1 0) 1 = ap (λ b. cond b 1 0) t in
      let more : 1 < count_by (nat_eq m) pins = subst (λ k. 1 < count_by (nat_eq k) pins) (sym is) (ltb-true 1 (count_by (nat_eq n) pins) twice) in
      omega (arith, less, more, one))
      (λ f.
      let none : ◌≡◌ {A = ℕ} (cond (nat_eq m n) 1 0) 0 = ap (λ b. cond b 1 0) f in
      omega (arith, less, some, none))
      (cases_Bool (nat_eq m n)))
      (or_cases (not (nat_eq n m)) (nat_lt 1 (count_by (nat_eq n) pins)) parts.1))

  kept_made : (m : ℕ) (c : Call K C D) (old new : Store K C) → IsHeld m old → is_allowed m c old ≡ true → Made order outcome c old new → KeepsMap order m old new × IsHeld m new
  kept_made m (Pin n) old new held allowed is =
      let push = count-push m n old.pins in
      let some = count-any m old.pins held.pinned in
      let still : list_any (nat_eq m) (old.pins ++ n ∷ []) ≡ true = any-count m (old.pins ++ n ∷ []) (omega (arith, push, some)) in
      let pinned : is_pinned new m ≡ true = ap (λ s. is_pinned s m) is ∙ still in
      (record { pinned = pinned; map = ap (λ s. map_at order s m) is }, record { pinned = pinned; reached = subst (λ s. m ≤ s.number) (sym is) held.reached })
  kept_made m (Unpin n) old new held allowed is =
      let pinned : is_pinned new m ≡ true = ap (λ s. is_pinned s m) is ∙ unpinned m n old.pins allowed held.pinned in
      (record { pinned = pinned; map = ap (λ s. map_at order s m) is }, record { pinned = pinned; reached = subst (λ s. m ≤ s.number) (sym is) held.reached })
  kept_made m Prune old new held allowed is =
      let pinned : is_pinned new m ≡ true = ap (list_any (nat_eq m)) is.pins ∙ held.pinned in
      (record { pinned = pinned; map = is.maps m (or_right (nat_eq m old.number) (is_pinned old m) held.pinned) }, record { pinned = pinned; reached = subst (λ n. m ≤ n) (sym is.number) held.reached })
  kept_made m (Reserve cs) old new held allowed same = kept_shown m old new held same
  kept_made m (Install cs) old new held allowed (inr refused) = kept_shown m old new held refused.same
  kept_made m (Install cs) old new held allowed (inl is) =
      let pinned : is_pinned new m ≡ true = ap (list_any (nat_eq m)) is.pins ∙ held.pinned in
      let reached : m ≤ old.number = held.reached in
      let up : new.number ≡ old.number + 1 = is.number in
      (record { pinned = pinned; map = is.maps m held.reached }, record { pinned = pinned; reached = omega (arith, reached, up) })

  kept_left : (m : ℕ) (c : Call K C D) (old new : Store K C) → IsHeld m old → Leaves order outcome c old new → KeepsMap order m old new
  kept_left m (Pin n) old new held same = (kept_same m old new held same).0
  kept_left m (Unpin n) old new held none = absurd none
  kept_left m Prune old new held none = absurd none
  kept_left m (Reserve cs) old new held same = (kept_shown m old new held same).0
  kept_left m (Install cs) old new held same = (kept_shown m old new held same).0

  kept_step : (m : ℕ) (c : Call K C D) (old new : Store K C) → IsHeld m old → Step order outcome m c old new → KeepsMap order m old new × IsHeld m new
  kept_step m c old new held step =
      ⊎_elim
      (λ yes. kept_made m c old new held yes (subst (λ b. IsMadeWhere order outcome b c old new) yes step))
      (λ no. kept_same m old new held (subst (λ b. IsMadeWhere order outcome b c old new) no step))
      (cases_Bool (is_allowed m c old))

  -- a pinned number goes on to show its map, where its last pin is not undone
  pub steps_keep : (m : ℕ) (cs : List (Call K C D)) (old new : Store K C) → IsHeld m old → Steps order outcome m cs old new → KeepsMap order m old new
  steps_keep m [] old new held same = (kept_same m old new held same).0
  steps_keep m (c ∷ cs) old new held (s, step, rest) =
      let first = kept_step m c old s held step in
      let then = steps_keep m cs s new first.1 rest in
      record { pinned = then.pinned; map = then.map ∙ first.0.map }

  -- also where a call finds no memory
  pub stops_keep : (m : ℕ) (cs : List (Call K C D)) (old new : Store K C) → IsHeld m old → StopsIn order outcome m cs old new → KeepsMap order m old new
  stops_keep m [] old new held none = absurd none
  stops_keep m (c ∷ cs) old new held (inl stop) = kept_left m c old new held stop.1
  stops_keep m (c ∷ cs) old new held (inr (s, step, rest)) =
      let first = kept_step m c old s held step in
      let then = stops_keep m cs s new first.1 rest in
      record { pinned = then.pinned; map = then.map ∙ first.0.map }
