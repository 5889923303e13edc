-- Changes of a file that fit the file that a map shows fit on the map, also where it has values of other kinds there.
use Rattle.std.proofs.Common.{◌≡◌, ◌≢◌, ℕ, Bool, true, false, if◌then◌else◌, nat_eq, nat_le, nat_lt, ◌+◌, ◌&&◌, arith, List, [], ◌∷◌, Option, None, Some}
use Rattle.std.proofs.Common.{refl, ap, sym, ◌∙◌, subst, inl, inr, cond}
use Rattle.std.proofs.lemmas.Bool.{cases_eq, cond-true, cond-false, eq-eqb, ne_eqb, and_parts}
use Rattle.std.proofs.lemmas.Bool.Decides.{nat_tests}
use Rattle.std.specs.BTreeMap.{is_at}
use Rattle.wtf_base.specs.declared.ids.InodeId.{InodeId}
use Rattle.wtf_kv.specs.declared.changes.Change.TheVariants as change
use Rattle.wtf_kv.specs.Edits.{fits, is_between}
use Rattle.wtf_overlay.specs.declared.part.Entry.{Entry}
use Rattle.wtf_overlay.specs.declared.part.Piece.{Piece}
use Rattle.wtf_values.specs.declared.key.Key.{Key}
use Rattle.wtf_values.specs.declared.key.Key.TheVariants.{Path, Dir, Inode, Region, Links}
use Rattle.wtf_values.specs.declared.region.RegionValue.{RegionValue}
use Rattle.wtf_values.specs.declared.value.Value.{Value}
use Rattle.wtf_values.specs.declared.value.Value.TheVariants as value
use Rattle.wtf_values.specs.declared.value.Delta.{Delta}
use Rattle.wtf_values.specs.declared.value.Delta.TheVariants as delta
use Rattle.wtf_values.specs.Keys.{key_cmp}
use Rattle.wtf_values.specs.Regions.{fits_at_end, pushed, clipped, zeroed, added}
use Rattle.wtf_values.specs.Outcomes.{outcome_of}
use Rattle.wtf_values.proofs.KeyLaws.{at_itself, between_own}
use Rattle.wtf_values.proofs.OutcomeLaws.{fits-missing, fits-region}
use Rattle.wtf_meta.specs.Maps.{Map, AllFit}
use Rattle.wtf_meta.specs.Files.{FileView}
use Rattle.wtf_meta.specs.FileEdits.{region_of, file_of, IsRegion, FileEdit, Push, PushRel, Clip, ZeroWithin, CutAbove, RaiseLast, SetLast, Put, LAST_REGION}
use Rattle.wtf_meta.specs.FileEdits.{edit_of, edits_of, put_region, lies_above, fits_edit, after_edit, all_fit}
use Rattle.wtf_meta.proofs.Steps.{step, made, Does, does_push, does_clip, does_zero, does_rel}
use Rattle.wtf_meta.proofs.Frame.{delta_elsewhere}
use Rattle.wtf_meta.proofs.Fitting.{fits_here, AllFit-more}

-- what the key of a region has is of another kind, or it is the file's region
abbrev Tells : InodeId → Map → FileView → Type 0
Tells i w v = (r : ℕ) → IsRegion (w (Region i r)) → region_of (w (Region i r)) ≡ v.region r

-- a change of a region makes no region of another kind of value
abbrev KeepsKind : Delta → Type 0
KeepsKind d = (now : Option Value) → IsRegion (made now d) → IsRegion now

keeps_push : (e : Entry) → KeepsKind (delta.Push e)
keeps_push e None h = tt
keeps_push e (Some (value.Region v)) h = tt
keeps_push e (Some (value.Last n)) h = h
keeps_push e (Some (value.Names s)) h = h
keeps_push e (Some (value.Count n)) h = h
keeps_push e (Some (value.Node n)) h = h

keeps_rel : (ps : List Piece) (b : ℕ) → KeepsKind (delta.PushRel ps b)
keeps_rel ps b None h = tt
keeps_rel ps b (Some (value.Region v)) h = tt
keeps_rel ps b (Some (value.Last n)) h = h
keeps_rel ps b (Some (value.Names s)) h = h
keeps_rel ps b (Some (value.Count n)) h = h
keeps_rel ps b (Some (value.Node n)) h = h

keeps_clip : (end : ℕ) → KeepsKind (delta.Clip end)
keeps_clip end None h = tt
keeps_clip end (Some (value.Region v)) h = tt
keeps_clip end (Some (value.Last n)) h = h
keeps_clip end (Some (value.Names s)) h = h
keeps_clip end (Some (value.Count n)) h = h
keeps_clip end (Some (value.Node n)) h = h

keeps_zero : (from upto : ℕ) → KeepsKind (delta.ZeroWithin from upto)
keeps_zero from upto None h = tt
keeps_zero from upto (Some (value.Region v)) h = tt
keeps_zero from upto (Some (value.Last n)) h = h
keeps_zero from upto (Some (value.Names s)) h = h
keeps_zero from upto (Some (value.Count n)) h = h
keeps_zero from upto (Some (value.Node n)) h = h

apart : (i : InodeId) (r q : ℕ) → q ≢ r → Region i r ≢ Region i q
apart i r q differ e = differ (sym (ap number e))
  where
    number : Key → ℕ
    number (Path p) = 0
    number (Dir p) = 0
    number (Inode j) = 0
    number (Region j s) = s
    number (Links j) = 0

at_region : (i : InodeId) (r : ℕ) (w : Map) (d : Delta) → step (change.Delta (Region i r) d) w (Region i r) ≡ made (w (Region i r)) d
at_region i r w d = cond-true (is_at (key_cmp (Region i r)) (Region i r)) _ _ (at_itself (Region i r))

region_tells : (i : InodeId) (r : ℕ) (w : Map) (v : FileView) (d : Delta) (f : Option RegionValue → Option RegionValue) → Does d f → KeepsKind d → Tells i w v
    → Tells i (step (change.Delta (Region i r) d) w) (put_region v r (f (v.region r)))
region_tells i r w v d f does keeps tells q is = elim (cases_eq q r) [
  | inl e ↦
      let here : step (change.Delta (Region i r) d) w (Region i q) ≡ made (w (Region i r)) d = ap (λ k. step (change.Delta (Region i r) d) w (Region i k)) e
      ∙ at_region i r w d in
      let was : IsRegion (w (Region i r)) = keeps (w (Region i r)) (subst IsRegion here is) in
      ap region_of here ∙ does.value (w (Region i r)) was ∙ ap f (tells r was) ∙ sym (cond-true (nat_eq q r) (f (v.region r)) (v.region q) (eq-eqb q r e))
  | inr differ ↦
      let here : step (change.Delta (Region i r) d) w (Region i q) ≡ w (Region i q) = delta_elsewhere (Region i r) (Region i q) d w (apart i r q differ) in
      ap region_of here ∙ tells q (subst IsRegion here is) ∙ sym (cond-false (nat_eq q r) (f (v.region r)) (v.region q) (ne_eqb q r differ))
]

-- a region that is set is one, whatever was there
put_tells : (i : InodeId) (r : ℕ) (w : Map) (v : FileView) (x : RegionValue) → Tells i w v → Tells i (step (edit_of i (Put r x)) w) (put_region v r (Some x))
put_tells i r w v x tells q is = elim (cases_eq q r) [
  | inl e ↦
      let here : step (edit_of i (Put r x)) w (Region i q) ≡ Some (value.Region x) =
      ap (λ k. step (edit_of i (Put r x)) w (Region i k)) e ∙ at_region i r w (delta.Put (value.Region x)) in
      ap region_of here ∙ sym (cond-true (nat_eq q r) (Some x) (v.region q) (eq-eqb q r e))
  | inr differ ↦
      let here : step (edit_of i (Put r x)) w (Region i q) ≡ w (Region i q) =
      delta_elsewhere (Region i r) (Region i q) (delta.Put (value.Region x)) w (apart i r q differ) in
      ap region_of here ∙ tells q (subst IsRegion here is) ∙ sym (cond-false (nat_eq q r) (Some x) (v.region q) (ne_eqb q r differ))
]

inode_apart : (i : InodeId) (q : ℕ) → Inode i ≢ Region i q
inode_apart i q e = absurd (cc)

last_tells : (i : InodeId) (w : Map) (v u : FileView) (d : Delta) → u.region ≡ v.region → Tells i w v → Tells i (step (change.Delta (Inode i) d) w) u
last_tells i w v u d same tells q is =
    let here : step (change.Delta (Inode i) d) w (Region i q) ≡ w (Region i q) = delta_elsewhere (Inode i) (Region i q) d w (inode_apart i q) in
    ap region_of here ∙ tells q (subst IsRegion here is) ∙ sym (ap (λ f. f q) same)

le_next : (r q : ℕ) → nat_le (r + 1) q ≡ nat_lt r q
le_next r q = grind (arith, nat_tests)

-- a cut of a file's regions above r
above_is : (i : InodeId) (r q : ℕ) → is_between key_cmp (Region i (r + 1)) (Region i LAST_REGION) (Region i q) ≡ lies_above r q
above_is i r q = between_own i (r + 1) LAST_REGION q ∙ ap (λ t. t && nat_le q LAST_REGION) (le_next r q)

-- what a cut leaves
cut_value : (b : Bool) (now : Option Value) (o : Option RegionValue) → IsRegion (cond b None now) → (IsRegion now → region_of now ≡ o)
    → region_of (cond b None now) ≡ (if b then None else o)
cut_value true now o is same = refl
cut_value false now o is same = same is

one_tells : (i : InodeId) (d : FileEdit) (w : Map) (v : FileView) → Tells i w v → Tells i (step (edit_of i d) w) (after_edit d v)
one_tells i (Push r e) w v tells = region_tells i r w v (delta.Push e) (λ now. Some (pushed now e)) (does_push e) (keeps_push e) tells
one_tells i (PushRel r ps b) w v tells = region_tells i r w v (delta.PushRel ps b) (λ now. added now ps b) (does_rel ps b) (keeps_rel ps b) tells
one_tells i (Clip r end) w v tells = region_tells i r w v (delta.Clip end) (λ now. Some (clipped end now)) (does_clip end) (keeps_clip end) tells
one_tells i (ZeroWithin r from upto) w v tells =
    region_tells i r w v (delta.ZeroWithin from upto) (zeroed from upto) (does_zero from upto) (keeps_zero from upto) tells
one_tells i (CutAbove r) w v tells = λ q is.
    cut_value (is_between key_cmp (Region i (r + 1)) (Region i LAST_REGION) (Region i q)) (w (Region i q)) (v.region q) is (tells q)
    ∙ ap (λ (t : Bool). if t then None else v.region q) (above_is i r q)
one_tells i (RaiseLast r) w v tells = last_tells i w v (after_edit (RaiseLast r) v) (delta.RaiseLast r) refl tells
one_tells i (Put r x) w v tells = put_tells i r w v x tells
one_tells i (SetLast r) w v tells = last_tells i w v (after_edit (SetLast r) v) (delta.SetLast r) refl tells

-- pieces fit on a value of another kind too
rel_fits : (now : Option Value) (o : Option RegionValue) (ps : List Piece) (b : ℕ) → (IsRegion now → region_of now ≡ o) → fits_at_end o ps b ≡ true
    → fits (outcome_of now (delta.PushRel ps b)) ≡ true
rel_fits None o ps b same h = fits-missing ps b ∙ ap (λ v. fits_at_end v ps b) (same tt) ∙ h
rel_fits (Some (value.Region v)) o ps b same h = fits-region v ps b ∙ ap (λ u. fits_at_end u ps b) (same tt) ∙ h
rel_fits (Some (value.Last n)) o ps b same h = refl
rel_fits (Some (value.Names s)) o ps b same h = refl
rel_fits (Some (value.Count n)) o ps b same h = refl
rel_fits (Some (value.Node n)) o ps b same h = refl

-- and any other change fits on any value
abbrev FitsAll : Delta → Type 0
FitsAll d = (now : Option Value) → fits (outcome_of now d) ≡ true

fits_push : (e : Entry) → FitsAll (delta.Push e)
fits_push e None = refl
fits_push e (Some (value.Region v)) = refl
fits_push e (Some (value.Last n)) = refl
fits_push e (Some (value.Names s)) = refl
fits_push e (Some (value.Count n)) = refl
fits_push e (Some (value.Node n)) = refl

fits_clip : (end : ℕ) → FitsAll (delta.Clip end)
fits_clip end None = refl
fits_clip end (Some (value.Region v)) = refl
fits_clip end (Some (value.Last n)) = refl
fits_clip end (Some (value.Names s)) = refl
fits_clip end (Some (value.Count n)) = refl
fits_clip end (Some (value.Node n)) = refl

fits_zero : (from upto : ℕ) → FitsAll (delta.ZeroWithin from upto)
fits_zero from upto None = refl
fits_zero from upto (Some (value.Region v)) = refl
fits_zero from upto (Some (value.Last n)) = refl
fits_zero from upto (Some (value.Names s)) = refl
fits_zero from upto (Some (value.Count n)) = refl
fits_zero from upto (Some (value.Node n)) = refl

fits_raise : (r : ℕ) → FitsAll (delta.RaiseLast r)
fits_raise r None = refl
fits_raise r (Some (value.Region v)) = refl
fits_raise r (Some (value.Last n)) = refl
fits_raise r (Some (value.Names s)) = refl
fits_raise r (Some (value.Count n)) = refl
fits_raise r (Some (value.Node n)) = refl

fits_set : (r : ℕ) → FitsAll (delta.SetLast r)
fits_set r None = refl
fits_set r (Some (value.Region v)) = refl
fits_set r (Some (value.Last n)) = refl
fits_set r (Some (value.Names s)) = refl
fits_set r (Some (value.Count n)) = refl
fits_set r (Some (value.Node n)) = refl

one_fits : (i : InodeId) (d : FileEdit) (w : Map) (v : FileView) → Tells i w v → fits_edit d v ≡ true → fits_here (edit_of i d) w ≡ true
one_fits i (Push r e) w v tells h = fits_push e (w (Region i r))
one_fits i (PushRel r ps b) w v tells h = rel_fits (w (Region i r)) (v.region r) ps b (tells r) h
one_fits i (Clip r end) w v tells h = fits_clip end (w (Region i r))
one_fits i (ZeroWithin r from upto) w v tells h = fits_zero from upto (w (Region i r))
one_fits i (CutAbove r) w v tells h = refl
one_fits i (RaiseLast r) w v tells h = fits_raise r (w (Inode i))
one_fits i (Put r x) w v tells h = refl
one_fits i (SetLast r) w v tells h = fits_set r (w (Inode i))

all_from : (i : InodeId) (ds : List FileEdit) (w : Map) (v : FileView) → Tells i w v → all_fit ds v ≡ true → AllFit (edits_of i ds) w
all_from i [] w v tells h = refl
all_from i (d ∷ ds) w v tells h =
    let both = and_parts (fits_edit d v) (all_fit ds (after_edit d v)) h in
    AllFit-more (edit_of i d) (edits_of i ds) w (one_fits i d w v tells both.0)
    (all_from i ds (step (edit_of i d) w) (after_edit d v) (one_tells i d w v tells) both.1)

pub fits_anywhere : (i : InodeId) (ds : List FileEdit) (w : Map) → all_fit ds (file_of i w) ≡ true → AllFit (edits_of i ds) w
fits_anywhere i ds w h = all_from i ds w (file_of i w) (λ r is. refl) h
