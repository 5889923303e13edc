-- A file that gets all regions of another.
use Rattle.std.proofs.Common.{◌≡◌, ◌≢◌, ℕ, zero, suc, ◌+◌, ◌<◌, ◌≤◌, Bool, List, [], ◌∷◌, map, get_or, Option, None, Some, refl, sym, ap, ◌∙◌, subst, arith}
use Rattle.std.proofs.Common.{inl, inr}
use Rattle.std.proofs.Math.Path.{fun_ext}
use Rattle.std.proofs.lemmas.Bool.{cases_lt}
use Rattle.wtf_base.specs.declared.ids.InodeId.{InodeId}
use Rattle.wtf_base.specs.declared.slice.Slice.{Slice}
use Rattle.wtf_kv.specs.declared.changes.Change.TheVariants as change
use Rattle.wtf_kv.proofs.EditLaws.{Fits-append}
use Rattle.wtf_overlay.specs.Origin.{Place}
use Rattle.wtf_values.specs.declared.key.Key.{Key}
use Rattle.wtf_values.specs.declared.key.Key.TheVariants.{Path, Dir, Inode, Region, Links}
use Rattle.wtf_values.specs.declared.region.RegionValue.{RegionValue}
use Rattle.wtf_values.specs.declared.value.Value.{Value}
use Rattle.wtf_values.specs.declared.value.Value.TheVariants as value
use Rattle.wtf_values.specs.declared.value.Delta.TheVariants as delta
use Rattle.wtf_values.specs.Keys.{key_cmp}
use Rattle.wtf_values.specs.Outcomes.{outcome_of}
use Rattle.wtf_meta.specs.Maps.{Map, with, AllFit}
use Rattle.wtf_meta.specs.Bytes.{MaybeBytes, MapBytes, EditsBytes}
use Rattle.wtf_meta.specs.Contents.{Told, HasBytes}
use Rattle.wtf_meta.specs.Files.{FileView, IsFile}
use Rattle.wtf_meta.specs.FileEdits.{file_of, last_of, region_of, IsLast, IsRegion}
use Rattle.wtf_meta.specs.Appends.{count_from}
use Rattle.wtf_meta.specs.Trees.{IsBody}
use Rattle.wtf_meta.proofs.FeetFiles.{EachOf, EachOf-append}
use Rattle.wtf_meta.proofs.Frame.{IsElsewhere, region_differs, inode_differs}
use Rattle.wtf_meta.proofs.KeyPuts.{put_in, put-same, put-other, with-append}
use Rattle.wtf_meta.proofs.Named.{EditsBytes-append, file_bytes}
use Rattle.wtf_slicing.specs.Copies.{regions_of, put_region, put_regions, fill_edits}
use Rattle.wtf_meta.proofs.Rewriting.{ChangesFile}

-- a region as a key's value
abbrev as_value : Option RegionValue → Option Value
as_value None = None
as_value (Some v) = Some (value.Region v)

region_as : (o : Option RegionValue) → region_of (as_value o) ≡ o
region_as None = refl
region_as (Some v) = refl

kind_as : (o : Option RegionValue) → IsRegion (as_value o)
kind_as None = tt
kind_as (Some v) = tt

one_elsewhere : (i : InodeId) (r : ℕ) (v : Option RegionValue) (w : Map) (q : Key) → Region i r ≢ q → with (put_region i r v) w q ≡ w q
one_elsewhere i r None w q differ = refl
one_elsewhere i r (Some v) w q differ = put-other w (Region i r) q (Some (value.Region v)) differ

one_here : (i : InodeId) (r : ℕ) (v : Option RegionValue) (w : Map) → w (Region i r) ≡ None → with (put_region i r v) w (Region i r) ≡ as_value v
one_here i r None w none = none
one_here i r (Some v) w none = put-same w (Region i r) (Some (value.Region v))

-- regions that are set leave all keys but theirs
elsewhere : (i : InodeId) (r : ℕ) (vs : List (Option RegionValue)) (w : Map) (q : Key) → ((k : ℕ) → r ≤ k → Region i k ≢ q)
    → with (put_regions i r vs) w q ≡ w q
elsewhere i r [] w q differ = refl
elsewhere i r (v ∷ vs) w q differ =
    ap (λ (m : Map). m q) (with-append (put_region i r v) (put_regions i (r + 1) vs) w)
    ∙ elsewhere i (r + 1) vs (with (put_region i r v) w) q (λ k above. differ k (omega arith))
    ∙ one_elsewhere i r v w q (differ r (omega arith))

apart : (i : InodeId) (r q : ℕ) → r ≢ q → Region i r ≢ Region i q
apart i r q differ e = differ (ap number e)
  where
    number : Key → ℕ
    number (Path p) = 0
    number (Dir p) = 0
    number (Inode j) = 0
    number (Region j s) = s
    number (Links j) = 0

-- and where the file had none there, it has just these
regions_put : (i : InodeId) (r : ℕ) (vs : List (Option RegionValue)) (w : Map) (k : ℕ) → ((q : ℕ) → r ≤ q → w (Region i q) ≡ None)
    → with (put_regions i r vs) w (Region i (r + k)) ≡ as_value (get_or vs k None)
regions_put i r [] w k none = none (r + k) (omega arith)
regions_put i r (v ∷ vs) w zero none =
    ap (λ (m : Map). m (Region i (r + 0))) (with-append (put_region i r v) (put_regions i (r + 1) vs) w)
    ∙ elsewhere i (r + 1) vs (with (put_region i r v) w) (Region i (r + 0)) (λ k above. apart i k (r + 0) (omega arith))
    ∙ ap (λ (n : ℕ). with (put_region i r v) w (Region i n)) (let e : r + 0 ≡ r = omega arith in e) ∙ one_here i r v w (none r (omega arith))
regions_put i r (v ∷ vs) w (suc k) none =
    ap (λ (m : Map). m (Region i (r + suc k))) (with-append (put_region i r v) (put_regions i (r + 1) vs) w)
    ∙ ap (λ (n : ℕ). with (put_regions i (r + 1) vs) (with (put_region i r v) w) (Region i n)) (let e : r + suc k ≡ r + 1 + k = omega arith in e)
    ∙ regions_put i (r + 1) vs (with (put_region i r v) w) k (λ q above. one_elsewhere i r v w (Region i q) (apart i r q (omega arith)) ∙ none q (omega arith))

-- each change fits whatever it meets
one_fits : (i : InodeId) (r : ℕ) (v : Option RegionValue) (w : Map) → AllFit (put_region i r v) w
one_fits i r None w = refl
one_fits i r (Some v) w = refl

puts_fit : (i : InodeId) (r : ℕ) (vs : List (Option RegionValue)) (w : Map) → AllFit (put_regions i r vs) w
puts_fit i r [] w = refl
puts_fit i r (v ∷ vs) w =
    Fits-append key_cmp outcome_of (put_region i r v) (put_regions i (r + 1) vs) w (one_fits i r v w) (puts_fit i (r + 1) vs (with (put_region i r v) w))

pub fill_fits : (i : InodeId) (last : ℕ) (vs : List (Option RegionValue)) (w : Map) → AllFit (fill_edits i last vs) w
fill_fits i last vs w =
    Fits-append key_cmp outcome_of (put_regions i 0 vs) (change.Delta (Inode i) (delta.Put (value.Last last)) ∷ []) w (puts_fit i 0 vs w) refl

-- is of the file alone
one_of : (i : InodeId) (r : ℕ) (v : Option RegionValue) → EachOf i (put_region i r v)
one_of i r None = tt
one_of i r (Some v) = (refl, tt)

puts_of : (i : InodeId) (r : ℕ) (vs : List (Option RegionValue)) → EachOf i (put_regions i r vs)
puts_of i r [] = tt
puts_of i r (v ∷ vs) = EachOf-append i (put_region i r v) (put_regions i (r + 1) vs) (one_of i r v) (puts_of i (r + 1) vs)

pub fill_of : (i : InodeId) (last : ℕ) (vs : List (Option RegionValue)) → EachOf i (fill_edits i last vs)
fill_of i last vs = EachOf-append i (put_regions i 0 vs) (change.Delta (Inode i) (delta.Put (value.Last last)) ∷ []) (puts_of i 0 vs) (refl, tt)

-- and names bytes and bases of the regions alone
module _ (P : List Place → Bool) (Q : Slice → Bool) where
  one_named : (i : InodeId) (r : ℕ) (v : Option RegionValue) → MaybeBytes P Q v → EditsBytes P Q (put_region i r v)
  one_named i r None h = tt
  one_named i r (Some v) h = (h, tt)

  puts_named : (i : InodeId) (g : ℕ → Option RegionValue) (r a n : ℕ) → ((q : ℕ) → a ≤ q → q < a + n → MaybeBytes P Q (g q))
      → EditsBytes P Q (put_regions i r (map g (count_from a n)))
  puts_named i g r a zero h = tt
  puts_named i g r a (suc n) h =
      EditsBytes-append P Q (put_region i r (g a)) (put_regions i (r + 1) (map g (count_from (a + 1) n)))
      (one_named i r (g a) (h a (omega arith) (omega arith)))
      (puts_named i g (r + 1) (a + 1) n (λ q above below. h q (omega arith) (omega arith)))

  pub fill_named : (i j : InodeId) (v : FileView) (w : Map) → MapBytes P Q w → ((r : ℕ) → r ≤ v.last → v.region r ≡ (file_of j w).region r)
      → EditsBytes P Q (fill_edits i v.last (regions_of v))
  fill_named i j v w map same =
      EditsBytes-append P Q (put_regions i 0 (regions_of v)) (change.Delta (Inode i) (delta.Put (value.Last v.last)) ∷ [])
      (puts_named i v.region 0 0 (v.last + 1) (λ q above below. subst (MaybeBytes P Q) (sym (same q (omega arith))) (file_bytes P Q j w map q))) (tt, tt)

-- what stands in a row of values
counted : {A : Type 0} (g : ℕ → Option A) (a n k : ℕ) → k < n → get_or (map g (count_from a n)) k None ≡ g (a + k)
counted g a zero k below = absurd (omega arith)
counted g a (suc n) zero below = ap g (let e : a ≡ a + 0 = omega arith in e)
counted g a (suc n) (suc k) below = counted g (a + 1) n k (omega arith) ∙ ap g (let e : a + 1 + k ≡ a + suc k = omega arith in e)

uncounted : {A : Type 0} (g : ℕ → Option A) (a n k : ℕ) → n ≤ k → get_or (map g (count_from a n)) k None ≡ None
uncounted g a zero k above = refl
uncounted g a (suc n) zero above = absurd (omega arith)
uncounted g a (suc n) (suc k) above = uncounted g (a + 1) n k (omega arith)

module _ (i : InodeId) (last : ℕ) (vs : List (Option RegionValue)) (w : Map) where
  abbrev pub filled : Map
  filled = with (fill_edits i last vs) w

  parts : (q : Key) → filled q ≡ put_in (with (put_regions i 0 vs) w) (Inode i) (Some (value.Last last)) q
  parts q = ap (λ (m : Map). m q) (with-append (put_regions i 0 vs) (change.Delta (Inode i) (delta.Put (value.Last last)) ∷ []) w)

  not_own : (q : Key) → IsElsewhere i q → filled q ≡ w q
  not_own q other =
      parts q ∙ put-other (with (put_regions i 0 vs) w) (Inode i) q (Some (value.Last last)) (inode_differs i q other)
      ∙ elsewhere i 0 vs w q (λ k above. region_differs i k q other)

  pub fill_changes : ChangesFile i w filled
  fill_changes = record {
    paths = λ q. not_own (Path q) tt;
    dirs = λ q. not_own (Dir q) tt;
    inodes = λ j other. not_own (Inode j) (λ e. other (sym e));
    regions = λ j r other. not_own (Region j r) (λ e. other (sym e));
    counts = λ j. not_own (Links j) tt;
  }

  fill_last : filled (Inode i) ≡ Some (value.Last last)
  fill_last = parts (Inode i) ∙ put-same (with (put_regions i 0 vs) w) (Inode i) (Some (value.Last last))

  fill_region : (r : ℕ) → ((q : ℕ) → w (Region i q) ≡ None) → filled (Region i r) ≡ as_value (get_or vs r None)
  fill_region r none =
      parts (Region i r) ∙ put-other (with (put_regions i 0 vs) w) (Inode i) (Region i r) (Some (value.Last last))
      (λ e. let bad : Inode i ≡ Region i r = e in absurd (cc))
      ∙ ap (λ (n : ℕ). with (put_regions i 0 vs) w (Region i n)) (let e : r ≡ 0 + r = omega arith in e) ∙ regions_put i 0 vs w r (λ q above. none q)

-- the file has the bytes of the other one
pub fill_body : (b : ℕ) (told : Told) (i j : InodeId) (v : FileView) (w u : Map) (bytes : List ℕ) → ((q : ℕ) → w (Region i q) ≡ None)
    → v.last ≡ (file_of j u).last
    → ((r : ℕ) → r ≤ v.last → v.region r ≡ (file_of j u).region r) → IsBody b told u j bytes → IsBody b told (filled i v.last (regions_of v) w) i bytes
fill_body b told i j v w u bytes none last same body =
    let vs : List (Option RegionValue) = regions_of v in
    let new : Map = filled i v.last vs w in
    let ours : FileView = file_of j u in
    let region : (r : ℕ) → (file_of i new).region r ≡ ours.region r = λ r.
    ap region_of (fill_region i v.last vs w r none) ∙ region_as (get_or vs r None) ∙ elim (cases_lt r (v.last + 1)) [
      | inl below ↦ counted v.region 0 (v.last + 1) r below ∙ ap v.region (let e : 0 + r ≡ r = omega arith in e) ∙ same r (omega arith)
      | inr above ↦ uncounted v.region 0 (v.last + 1) r above ∙ sym (body.file.above r (omega (arith, last)))
    ] in
    let number : (file_of i new).last ≡ ours.last = ap last_of (fill_last i v.last vs w) ∙ last in
    let one : ours ≡ file_of i new = λ z. record { last = sym number z; region = fun_ext (λ r. sym (region r)) z } in
    record {
      has = record {
        inode = subst IsLast (sym (fill_last i v.last vs w)) tt;
        regions = λ r. subst IsRegion (sym (fill_region i v.last vs w r none)) (kind_as (get_or vs r None));
      };
      file = subst (IsFile b) one body.file;
      bytes_are = subst (λ (f : FileView). HasBytes told b f bytes) one body.bytes_are;
    }
