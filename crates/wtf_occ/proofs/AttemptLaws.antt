-- Laws of attempts: how they grow, what they see, and what agrees where no key has moved.
use Rattle.std.proofs.Common.{◌≡◌, ◌≤◌, ℕ, cond, nat_lt, List, [], ◌∷◌, ◌++◌, Option, None, Some, refl, sym, ap, ◌∙◌, arith, ⊎_elim, true, false, append-nil, append_assoc}
use Rattle.std.proofs.lemmas.Bool.{cases_Bool, ltb-false, le-ltb}
use Rattle.std.specs.declared.cmp.Ordering.{Ordering}
use Rattle.wtf_kv.specs.declared.cell.Applied.{Applied}
use Rattle.wtf_kv.specs.declared.changes.Change.{Change}
use Rattle.wtf_kv.specs.Edits.{over, Agree}
use Rattle.wtf_kv.specs.Stores.{Store, map_at, version_of, is_pinned}
use Rattle.wtf_kv.proofs.EditLaws.{over-append}
use Rattle.wtf_kv.proofs.VersionLaws.{unmoved, version-le}
use Rattle.wtf_occ.specs.Attempts.{Attempted, map_seen, GrowsBy, Grows}
use Rattle.wtf_occ.specs.Tries.{first_moved}

-- nothing is done
pub GrowsBy-nothing : {K D : Type 0} (a : Attempted K D) → GrowsBy a a [] []
GrowsBy-nothing a = record { base = refl; reads = sym (append-nil a.reads); changes = sym (append-nil a.changes) }

-- a change is made
pub GrowsBy-change : {K D : Type 0} (old new : Attempted K D) (c : Change K D) → new ≡ record old { changes = old.changes ++ c ∷ [] } → GrowsBy old new [] (c ∷ [])
GrowsBy-change old new c is = record {
  base = ap (λ a. a.base) is;
  reads = ap (λ a. a.reads) is ∙ sym (append-nil old.reads);
  changes = ap (λ a. a.changes) is;
}

-- one after another
pub GrowsBy-append : {K D : Type 0} (a b c : Attempted K D) (qs rs : List K) (cs ds : List (Change K D)) → GrowsBy a b qs cs → GrowsBy b c rs ds → GrowsBy a c (qs ++ rs) (cs ++ ds)
GrowsBy-append a b c qs rs cs ds first then = record {
  base = then.base ∙ first.base;
  reads = then.reads ∙ ap (λ l. l ++ rs) first.reads ∙ append_assoc a.reads qs rs;
  changes = then.changes ∙ ap (λ l. l ++ ds) first.changes ∙ append_assoc a.changes cs ds;
}

pub Grows-by : {K D : Type 0} (old new : Attempted K D) (keys : List K) (cs : List (Change K D)) → GrowsBy old new keys cs → Grows old new
Grows-by old new keys cs h = record { base = h.base; reads = (keys, h.reads); changes = (cs, h.changes) }

-- an attempt that grew, and grew again, has grown
pub Grows-on : {K D : Type 0} (a b c : Attempted K D) → Grows a b → Grows b c → Grows a c
Grows-on a b c first then = record {
  base = then.base ∙ first.base;
  reads = (first.reads.0 ++ then.reads.0, then.reads.1 ∙ ap (λ l. l ++ then.reads.0) first.reads.1 ∙ append_assoc a.reads first.reads.0 then.reads.0);
  changes = (first.changes.0 ++ then.changes.0, then.changes.1 ∙ ap (λ l. l ++ then.changes.0) first.changes.1 ∙ append_assoc a.changes first.changes.0 then.changes.0);
}

module _ {K C D : Type 0} (order : K → K → Ordering) (outcome : Option C → D → Applied C) where
  -- what the attempt sees is what it saw, with its further changes over it
  pub map_seen-by : (s : Store K C) (old new : Attempted K D) (keys : List K) (cs : List (Change K D)) → GrowsBy old new keys cs → map_seen order outcome s new ≡ over order outcome cs (map_seen order outcome s old)
  map_seen-by s old new keys cs h =
      ap (λ n. over order outcome new.changes (map_at order s n)) h.base
      ∙ ap (λ l. over order outcome l (map_at order s old.base)) h.changes
      ∙ over-append order outcome old.changes cs (map_at order s old.base)

module _ {K C : Type 0} (order : K → K → Ordering) where
  -- no key has moved where nothing was installed since the base
  pub first_moved-none : (s : Store K C) (base : ℕ) (keys : List K) → s.number ≤ base → None ≡ first_moved order base keys s
  first_moved-none s base [] le = refl
  first_moved-none s base (q ∷ qs) le =
      let v = version_of order s s.number q in
      let old : nat_lt base v ≡ false = le-ltb base v (omega (arith, le, version-le order s s.number q)) in
      first_moved-none s base qs le ∙ sym (ap (λ b. cond b (Some q) (first_moved order base qs s)) old)

  -- where none of the keys has moved since the base, the maps at the base and at the number agree on them
  pub Agree-unmoved : (s : Store K C) (base : ℕ) (keys : List K) → is_pinned s base ≡ true → base ≤ s.number → first_moved order base keys s ≡ None → Agree keys (map_at order s base) (map_at order s s.number)
  Agree-unmoved s base [] pinned le none = tt
  Agree-unmoved s base (q ∷ qs) pinned le none =
      let rest : Option K = first_moved order base qs s in
      ⊎_elim
      (λ yes. let bad : Some q ≡ None = sym (ap (λ b. cond b (Some q) rest) yes) ∙ none in absurd (cc))
      (λ no.
      let old : version_of order s s.number q ≤ base = ltb-false base (version_of order s s.number q) no in
      (sym (unmoved order s base s.number q pinned le old), Agree-unmoved s base qs pinned le (sym (ap (λ b. cond b (Some q) rest) no) ∙ none)))
      (cases_Bool (nat_lt base (version_of order s s.number q)))
