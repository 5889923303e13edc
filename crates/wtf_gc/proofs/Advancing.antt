-- The parts of a scan that are done, and the scan that has finished with the last of them.
use Rattle.std.proofs.Common.{◌≡◌, ℕ, ◌-◌, ◌≤◌, ◌<◌, min, cond, ◌||◌, nat_eq, count_by, false, List, Option, None, Some, refl, sym, ap, ◌∙◌, subst}
use Rattle.std.proofs.Common.{⊎_elim, inl, inr, arith}
use Rattle.std.proofs.lemmas.Bool.{eq-eqb, eqb-true, cases_Bool, or_left, or_right, or_cases}
use Rattle.std.proofs.lemmas.List.Elements.{All-weaker}
use Rattle.wtf_base.specs.Places.{Place}
use Rattle.wtf_dev.specs.Store.{StoreKind}
use Rattle.wtf_kv.specs.Seen.{IsAmong}
use Rattle.wtf_kv.specs.Stores.{Store, times_pinned}
use Rattle.wtf_values.specs.declared.key.Key.{Key}
use Rattle.wtf_values.specs.declared.region.RegionValue.{RegionValue}
use Rattle.wtf_values.specs.declared.value.Value.{Value}
use Rattle.wtf_values.specs.declared.value.Value.TheVariants as value
use Rattle.wtf_meta.specs.Lists.{Lists, ListFact}
use Rattle.wtf_region.specs.declared.dev.Dev.{Dev}
use Rattle.wtf_region.specs.Reads.{IsOfBase}
use Rattle.wtf_gc.specs.declared.extent.Extent.{Extent}
use Rattle.wtf_gc.specs.declared.parts.Parts.{Parts}
use Rattle.wtf_gc.specs.Extents.{extents_cover, no_places}
use Rattle.wtf_gc.specs.Parts.{IsIn, NamedIn}
use Rattle.wtf_gc.specs.Pinning.{IsPinnedFor}
use Rattle.wtf_gc.specs.Reading.{PartsRead}
use Rattle.wtf_gc.specs.Scans.{next_parts, run_on, with_finished, with_run, undone, AreHeld, DoesParts, Advances}
use Rattle.wtf_gc.specs.Views.{RunView, GcView}
use Rattle.wtf_gc.proofs.Living.{same_versions}

-- ---- parts are done
module _ (old new : GcView) (run : RunView) (was : old.running ≡ Some run) (done : ℕ) (found more : List Extent)
    (adds : (p : Place) → extents_cover found p ≡ (extents_cover run.scan.found p || extents_cover more p)) where
  abbrev then_run : RunView
  then_run = run_on run done found

  -- with the last of them
  pub advances_last : (kv kv' : Store Key Value) → run.left - done ≡ 0 → IsPinnedFor run.seen kv' kv → new ≡ with_finished old then_run.scan
      → Advances kv kv' old new done 0 more
  advances_last kv kv' none undid is =
      let over = eq-eqb (run.left - done) 0 none in
      record {
        run = run;
        was = was;
        found = found;
        adds = adds;
        is = is ∙ sym (ap (λ b. cond b (with_finished old then_run.scan) (record old { running = Some then_run })) over);
        left_is = sym none;
        pins = λ m.
            let all : ◌≡◌ {A = ℕ} (undone then_run m) (count_by (nat_eq m) run.seen) = ap (λ b. cond b (count_by (nat_eq m) run.seen) 0) over in
            let once = undid.pins m in
            omega (arith, all, once);
        number = sym undid.number;
        cells = sym undid.cells;
      }

  -- or some are left
  pub advances_on : (kv : Store Key Value) (left : ℕ) → left ≡ run.left - done → 0 < left → new ≡ record old { running = Some then_run }
      → Advances kv kv old new done left more
  advances_on kv left left_is some is =
      let going : nat_eq (run.left - done) 0 ≡ false = ⊎_elim
      (λ t. let none = eqb-true (run.left - done) 0 t in absurd (omega (arith, left_is, some, none)))
      (λ f. f)
      (cases_Bool (nat_eq (run.left - done) 0)) in
      record {
        run = run;
        was = was;
        found = found;
        adds = adds;
        is = is ∙ sym (ap (λ b. cond b (with_finished old then_run.scan) (record old { running = Some then_run })) going);
        left_is = left_is;
        pins = λ m.
            let none : ◌≡◌ {A = ℕ} (undone then_run m) 0 = ap (λ b. cond b (count_by (nat_eq m) run.seen) 0) going in
            omega (arith, none);
        number = refl;
        cells = refl;
      }

-- ---- what was found in parts is what the scan finds in them
is_in : (old new : Store Key Value) → new.number ≡ old.number → new.cells ≡ old.cells → (parts : Parts) (v : RegionValue) → IsIn old parts v → IsIn new parts v
is_in old new number cells parts v h = record {
  at = h.at;
  stands = h.stands;
  number = h.number;
  among = subst (IsAmong (h.number, Some (value.Region v))) (sym (same_versions old new number cells h.at)) h.among;
}

named : (lists : Lists) (old new : Store Key Value) → new.number ≡ old.number → new.cells ≡ old.cells → (parts : Parts) (p : Place) → NamedIn lists old parts p
    → NamedIn lists new parts p
named lists old new number cells parts p h = record { region = h.region; there = is_in old new number cells parts h.region h.there; names = h.names }

pub read_over : {S : Type 0} (kind : StoreKind S) (dev dev' : Dev S) (kv kv' : Store Key Value) (parts : Parts) (before more after : List Extent)
    → kv'.number ≡ kv.number → kv'.cells ≡ kv.cells
    → ((p : Place) → extents_cover after p ≡ (extents_cover before p || extents_cover more p)) → PartsRead kind dev dev' kv parts no_places (extents_cover more)
    → PartsRead kind dev dev' kv' parts (extents_cover before) (extents_cover after)
read_over kind dev dev' kv kv' parts before more after number cells adds read = record {
  facts = read.facts;
  slices = λ P Q bases. read.slices P Q (λ v there. bases v (is_in kv kv' number cells parts v there));
  asked = read.asked;
  recalls = read.recalls;
  among = All-weaker (λ (f : ListFact). (v : RegionValue) × IsIn kv parts v × IsOfBase v.base f.slice)
      (λ (f : ListFact). (v : RegionValue) × IsIn kv' parts v × IsOfBase v.base f.slice)
      (λ f h. (h.0, is_in kv kv' number cells parts h.0 h.1, h.2)) read.asked read.among;
  finds = λ lists tell.
      let f = read.finds lists tell in
      record {
        keeps = λ p e. adds p ∙ or_left (extents_cover before p) (extents_cover more p) e;
        finds = λ p h. adds p ∙ or_right (extents_cover before p) (extents_cover more p) (f.finds p (named lists kv' kv (sym number) (sym cells) parts p h));
        only = λ p e. ⊎_elim
            (λ old. inl old)
            (λ new. ⊎_elim (λ none. absurd (cc)) (λ h. inr (named lists kv kv' number cells parts p h)) (f.only p new))
            (or_cases (extents_cover before p) (extents_cover more p) (sym (adds p) ∙ e));
      };
  inside = read.inside;
  told = read.told;
}

-- ---- the next parts
pub does_parts : {S : Type 0} (kind : StoreKind S) (dev dev' : Dev S) (old_kv kv kv' : Store Key Value) (old new : GcView) (n left : ℕ) (run : RunView)
    (parts : Parts) (more : List Extent)
    → kv.pins ≡ old_kv.pins → old.running ≡ Some run → parts ≡ next_parts run.left n → PartsRead kind dev dev' kv parts no_places (extents_cover more)
    → Advances kv kv' old new (min run.left n) left more
    → DoesParts kind dev dev' old_kv kv' old new n left
does_parts kind dev dev' old_kv kv kv' old new n left run parts more pins was are read adv =
    let same : run ≡ adv.run = cc (was, adv.was) in
    let here = ap (λ (r : RunView). r.left) same in
    let parts_are : parts ≡ next_parts adv.run.left n = are ∙ ap (λ l. next_parts l n) here in
    let rest : adv.run.left - min run.left n ≡ adv.run.left - n = omega (arith, here) in
    let with_left : ℕ → RunView = λ l. record { scan = record { marks = adv.run.scan.marks; found = adv.found }; seen = adv.run.seen; left = l } in
    let then : run_on adv.run (min run.left n) adv.found ≡ run_on adv.run n adv.found = ap with_left rest in
    record {
      run = adv.run;
      was = adv.was;
      found = adv.found;
      reads = read_over kind dev dev' kv kv' (next_parts adv.run.left n) adv.run.scan.found more adv.found adv.number adv.cells adv.adds
          (subst (λ (ps : Parts). PartsRead kind dev dev' kv ps no_places (extents_cover more)) parts_are read);
      is = adv.is ∙ ap (with_run old) then;
      left_is = adv.left_is ∙ rest;
      pins = λ m.
          let a = adv.pins m in
          let b : ◌≡◌ {A = ℕ} (undone (run_on adv.run (min run.left n) adv.found) m) (undone (run_on adv.run n adv.found) m) = ap (λ r. undone r m) then in
          let c : ◌≡◌ {A = ℕ} (times_pinned kv m) (times_pinned old_kv m) = ap (count_by (nat_eq m)) pins in
          omega (arith, a, b, c);
    }

pub held_on : (running : Option RunView) (old new : Store Key Value) → new.pins ≡ old.pins → AreHeld running old → AreHeld running new
held_on None old new pins h = tt
held_on (Some r) old new pins h = λ n. subst (λ (ps : List ℕ). count_by (nat_eq n) r.seen ≤ count_by (nat_eq n) ps) (sym pins) (h n)
