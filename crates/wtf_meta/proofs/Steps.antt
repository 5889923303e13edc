-- What one delta makes of a region of a file that a map shows.
use Rattle.std.proofs.Common.{◌≡◌, ◌≢◌, ℕ, Bool, true, false, if◌then◌else◌, nat_eq, List, Option, None, Some, refl, ap, sym, ◌∙◌, subst, inl, inr}
use Rattle.std.proofs.lemmas.Bool.{cases_eq, cond-true, cond-false, eq-eqb, ne_eqb}
use Rattle.std.specs.BTreeMap.{is_at}
use Rattle.wtf_base.specs.declared.ids.InodeId.{InodeId}
use Rattle.wtf_kv.specs.declared.changes.Change.{Change}
use Rattle.wtf_kv.specs.declared.changes.Change.TheVariants as change
use Rattle.wtf_kv.specs.declared.cell.Applied.TheVariants.{Is, Unfit}
use Rattle.wtf_kv.specs.Edits.{value_made, after_change}
use Rattle.wtf_overlay.specs.declared.part.Entry.{Entry}
use Rattle.wtf_overlay.specs.declared.part.Piece.{Piece}
use Rattle.wtf_values.specs.declared.key.Key.{Key}
use Rattle.wtf_values.specs.declared.key.Key.TheVariants.{Path, Dir, Inode, Region, Links}
use Rattle.wtf_values.specs.declared.region.RegionValue.{RegionValue}
use Rattle.wtf_values.specs.declared.value.Value.{Value}
use Rattle.wtf_values.specs.declared.value.Value.TheVariants as value
use Rattle.wtf_values.specs.declared.value.Delta.{Delta}
use Rattle.wtf_values.specs.declared.value.Delta.TheVariants as delta
use Rattle.wtf_values.specs.Keys.{key_cmp}
use Rattle.wtf_values.specs.Regions.{pushed, added, clipped, zeroed, fits_at_end, or_empty, with_pieces}
use Rattle.wtf_values.specs.Outcomes.{outcome_of}
use Rattle.wtf_meta.specs.Maps.{Map}
use Rattle.wtf_meta.specs.FileEdits.{last_of, region_of, file_of, IsLast, IsRegion, HasFile, put_region}
use Rattle.wtf_values.proofs.KeyLaws.{at_itself, at_none}

-- a map after one change
abbrev pub step : Change Key Delta → Map → Map
step c w q = after_change key_cmp outcome_of c q (w q)

-- what a delta makes of a value
abbrev pub made : Option Value → Delta → Option Value
made now d = value_made (outcome_of now d) now

-- what a region's key has is none or a region
pub by_region : (P : Option Value → Type 0) → P None → ((v : RegionValue) → P (Some (value.Region v))) → (now : Option Value) → IsRegion now → P now
by_region P none some None h = none
by_region P none some (Some (value.Region v)) h = some v
by_region P none some (Some (value.Last n)) h = absurd h
by_region P none some (Some (value.Names s)) h = absurd h
by_region P none some (Some (value.Count n)) h = absurd h
by_region P none some (Some (value.Node n)) h = absurd h

-- and what an inode's key has is the number of its last region
pub by_last : (P : Option Value → Type 0) → ((n : ℕ) → P (Some (value.Last n))) → (now : Option Value) → IsLast now → P now
by_last P last None h = absurd h
by_last P last (Some (value.Region v)) h = absurd h
by_last P last (Some (value.Last n)) h = last n
by_last P last (Some (value.Names s)) h = absurd h
by_last P last (Some (value.Count n)) h = absurd h
by_last P last (Some (value.Node n)) h = absurd h

-- what a delta makes of a region's value, by what it does to regions
pub record Does (d : Delta) (f : Option RegionValue → Option RegionValue) : Type 0 where
  pub value : (now : Option Value) → IsRegion now → region_of (made now d) ≡ f (region_of now)
  pub kind : (now : Option Value) → IsRegion now → IsRegion (made now d)

region_apart : (i : InodeId) (r q : ℕ) → q ≢ r → Region i r ≢ Region i q
region_apart i r q differ e = differ (sym (ap number e))
  where
    number : Key → ℕ
    number (Path p) = 0
    number (Dir p) = 0
    number (Inode j) = 0
    number (Region j s) = s
    number (Links j) = 0

at_region : (i : InodeId) (r : ℕ) (w : Map) (d : Delta) → step (change.Delta (Region i r) d) w (Region i r) ≡ made (w (Region i r)) d
at_region i r w d = cond-true (is_at (key_cmp (Region i r)) (Region i r)) _ _ (at_itself (Region i r))

at_other : (i : InodeId) (r q : ℕ) (w : Map) (d : Delta) → q ≢ r → step (change.Delta (Region i r) d) w (Region i q) ≡ w (Region i q)
at_other i r q w d differ = cond-false (is_at (key_cmp (Region i r)) (Region i q)) _ _ (at_none (Region i r) (Region i q) (region_apart i r q differ))

-- a delta of a region
pub region_step : (i : InodeId) (r : ℕ) (w : Map) (d : Delta) (f : Option RegionValue → Option RegionValue) → Does d f → HasFile i w
    → file_of i (step (change.Delta (Region i r) d) w) ≡ put_region (file_of i w) r (f (region_of (w (Region i r))))
region_step i r w d f does has =
    let new = f (region_of (w (Region i r))) in
    let regions : (q : ℕ) → region_of (step (change.Delta (Region i r) d) w (Region i q)) ≡ (if nat_eq q r then new else region_of (w (Region i q))) =
    λ q. elim (cases_eq q r) [
      | inl e ↦ subst (λ k. region_of (step (change.Delta (Region i r) d) w (Region i k)) ≡ (if nat_eq k r then new else region_of (w (Region i k)))) (sym e)
          (ap region_of (at_region i r w d) ∙ does.value (w (Region i r)) (has.regions r)
          ∙ sym (cond-true (nat_eq r r) new (region_of (w (Region i r))) (eq-eqb r r refl)))
      | inr differ ↦ ap region_of (at_other i r q w d differ) ∙ sym (cond-false (nat_eq q r) new (region_of (w (Region i q))) (ne_eqb q r differ))
    ] in
    λ k. record { last = last_of (w (Inode i)); region = λ q. regions q k }

-- which leaves values of the kinds of their keys
pub region_has : (i : InodeId) (r : ℕ) (w : Map) (d : Delta) (f : Option RegionValue → Option RegionValue) → Does d f → HasFile i w
    → HasFile i (step (change.Delta (Region i r) d) w)
region_has i r w d f does has = record {
  inode = has.inode;
  regions = λ q. elim (cases_eq q r) [
    | inl e ↦ subst (λ k. IsRegion (step (change.Delta (Region i r) d) w (Region i k))) (sym e)
        (subst IsRegion (sym (at_region i r w d)) (does.kind (w (Region i r)) (has.regions r)))
    | inr differ ↦ subst IsRegion (sym (at_other i r q w d differ)) (has.regions q)
  ];
}

-- an entry that is laid over a region
pub does_push : (e : Entry) → Does (delta.Push e) (λ now. Some (pushed now e))
does_push e = record {
  value = by_region (λ now. region_of (made now (delta.Push e)) ≡ Some (pushed (region_of now) e)) refl (λ v. refl);
  kind = by_region (λ now. IsRegion (made now (delta.Push e))) tt (λ v. tt);
}

-- a cut
pub does_clip : (end : ℕ) → Does (delta.Clip end) (λ now. Some (clipped end now))
does_clip end = record {
  value = by_region (λ now. region_of (made now (delta.Clip end)) ≡ Some (clipped end (region_of now))) refl (λ v. refl);
  kind = by_region (λ now. IsRegion (made now (delta.Clip end))) tt (λ v. tt);
}

-- zeros
pub does_zero : (from upto : ℕ) → Does (delta.ZeroWithin from upto) (zeroed from upto)
does_zero from upto = record {
  value = by_region (λ now. region_of (made now (delta.ZeroWithin from upto)) ≡ zeroed from upto (region_of now)) refl (λ v. refl);
  kind = by_region (λ now. IsRegion (made now (delta.ZeroWithin from upto))) tt (λ v. tt);
}

-- pieces that are added where they fit; b says whether they do
rel_value : (b : Bool) (v : RegionValue) (now : Option Value)
    → region_of (value_made (if b then Is (value.Region v) else Unfit) now) ≡ (if b then Some v else region_of now)
rel_value true v now = refl
rel_value false v now = refl

rel_kind : (b : Bool) (v : RegionValue) (now : Option Value) → IsRegion now → IsRegion (value_made (if b then Is (value.Region v) else Unfit) now)
rel_kind true v now h = tt
rel_kind false v now h = h

-- pieces at its end
pub does_rel : (ps : List Piece) (b : ℕ) → Does (delta.PushRel ps b) (λ now. added now ps b)
does_rel ps b = record {
  value = by_region (λ now. region_of (made now (delta.PushRel ps b)) ≡ added (region_of now) ps b)
      (rel_value (fits_at_end None ps b) (with_pieces (or_empty None) ps) None)
      (λ v. rel_value (fits_at_end (Some v) ps b) (with_pieces v ps) (Some (value.Region v)));
  kind = by_region (λ now. IsRegion (made now (delta.PushRel ps b)))
      (rel_kind (fits_at_end None ps b) (with_pieces (or_empty None) ps) None tt)
      (λ v. rel_kind (fits_at_end (Some v) ps b) (with_pieces v ps) (Some (value.Region v)) tt);
}

-- a region that is set
pub does_put : (x : RegionValue) → Does (delta.Put (value.Region x)) (λ now. Some x)
does_put x = record { value = λ now is. refl; kind = λ now is. tt }
