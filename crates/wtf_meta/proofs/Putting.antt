-- A region of the same end and bytes in the place of another: the file keeps its bytes, and the map stands for the same tree.
use Rattle.std.proofs.Common.{◌≡◌, ◌≢◌, ℕ, ◌+◌, ◌*◌, ◌/◌, ◌%◌, ◌<◌, ◌≤◌, List, [], ◌∷◌, Option, None, Some, refl, sym, ap, ◌∙◌, subst, inl, inr}
use Rattle.std.specs.Prelude.{IsSome}
use Rattle.std.proofs.lemmas.Bool.{cases_eq}
use Rattle.wtf_base.specs.declared.ids.InodeId.{InodeId}
use Rattle.wtf_overlay.specs.Meaning.{meaning}
use Rattle.wtf_model.specs.Tree.{Tree}
use Rattle.wtf_values.specs.declared.key.Key.TheVariants.{Region}
use Rattle.wtf_values.specs.declared.region.RegionValue.{RegionValue}
use Rattle.wtf_values.specs.declared.value.Value.{Value}
use Rattle.wtf_meta.specs.Lists.{ListFact, TellLists}
use Rattle.wtf_meta.specs.Maps.{Map, with}
use Rattle.wtf_meta.specs.Bytes.{RegionBytes}
use Rattle.wtf_meta.specs.Files.{FileView, IsFile, end_of, region_origin}
use Rattle.wtf_meta.specs.FileEdits.{Put, edits_of, file_of, put_region, region_of}
use Rattle.wtf_meta.specs.Contents.{Told, is_told, is_listed, lists_in, HasBytes, SameRegion, SamePlaces}
use Rattle.wtf_meta.specs.Trees.{Stands}
use Rattle.wtf_meta.proofs.OneRegion.{put_at, put_else}
use Rattle.wtf_meta.proofs.BodyEdits.{body_after}
use Rattle.wtf_meta.proofs.Standing.{leads-file}
use Rattle.wtf_meta.proofs.Rewriting.{stands-kept}

-- where the slices decode to the lists by which two regions lie at the same places, they have the same bytes
pub SameRegion-places : (told : Told) (b : ℕ) (facts : List ListFact) (v w : Option RegionValue) → SamePlaces facts v w → TellLists (lists_in b told) facts
    → SameRegion told b v w
SameRegion-places told b facts v w same tell = record {
  end = same.end;
  bytes = λ y. ap (meaning told) (same.origins (lists_in b told) tell y);
}

module _ (told : Told) (b : ℕ) (v : FileView) (r : ℕ) (was x : RegionValue) (is : v.region r ≡ Some was) (same : SameRegion told b (Some was) (Some x)) where
  abbrev now : FileView
  now = put_region v r (Some x)

  ends_same : (q : ℕ) → end_of (now.region q) ≡ end_of (v.region q)
  ends_same q = elim (cases_eq q r) [
    | inl e ↦ subst (λ j. end_of (now.region j) ≡ end_of (v.region j)) (sym e) (ap end_of (put_at v r (Some x)) ∙ same.end ∙ ap end_of (sym is))
    | inr differ ↦ ap end_of (put_else v r q (Some x) differ)
  ]

  bytes_same : (q y : ℕ) → meaning told (region_origin (lists_in b told) (now.region q) y) ≡ meaning told (region_origin (lists_in b told) (v.region q) y)
  bytes_same q y = elim (cases_eq q r) [
    | inl e ↦ subst (λ j. meaning told (region_origin (lists_in b told) (now.region j) y) ≡ meaning told (region_origin (lists_in b told) (v.region j) y))
        (sym e)
        (ap (λ (o : Option RegionValue). meaning told (region_origin (lists_in b told) o y)) (put_at v r (Some x)) ∙ same.bytes y
        ∙ ap (λ (o : Option RegionValue). meaning told (region_origin (lists_in b told) o y)) (sym is))
    | inr differ ↦ ap (λ (o : Option RegionValue). meaning told (region_origin (lists_in b told) o y)) (put_else v r q (Some x) differ)
  ]

  some_there : (q : ℕ) → v.region q ≡ None → q ≢ r
  some_there q none e = let both : Some was ≡ None = sym is ∙ (ap v.region (sym e) ∙ none) in absurd (cc)

  IsFile-put : IsFile b v → IsFile b now
  IsFile-put file = record {
    ends = λ q. subst (λ n. n ≤ b) (sym (ends_same q)) (file.ends q);
    above = λ q h. let none = file.above q h in put_else v r q (Some x) (some_there q none) ∙ none;
    some = λ h. subst (λ n. 0 < n) (sym (ends_same v.last)) (file.some h);
    few = file.few;
  }

  HasBytes-put : (bytes : List ℕ) → HasBytes told b v bytes → HasBytes told b now bytes
  HasBytes-put bytes has = record {
    len = ap (λ n. v.last * b + n) (ends_same v.last) ∙ has.len;
    tells = λ y. bytes_same (y / b) (y % b) ∙ has.tells y;
  }

region_value : (now : Option Value) (v : RegionValue) → region_of now ≡ Some v → IsSome now
region_value None v e = absurd (cc)
region_value (Some x) v e = refl

-- whoever calls: a region that is put in the place of one of the same end and bytes, and whose bytes are told, leaves the tree
pub stands-put : (b : ℕ) (told : Told) (tx k : ℕ) (w : Map) (t : Tree) (i : InodeId) (r : ℕ) (v x : RegionValue) → Stands b told tx k w t
    → region_of (w (Region i r)) ≡ Some v
    → SameRegion told b (Some v) (Some x) → RegionBytes (is_told told) (is_listed b told) x → Stands b told tx k (with (edits_of i (Put r x ∷ [])) w) t
stands-put b told tx k w t i r v x st is same named =
    let found = st.led i (st.regions i r (region_value (w (Region i r)) v is)) in
    let file = leads-file b told tx k w t st found.0 i found.1 in
    let body = file.body in
    stands-kept b told tx k w t st found.0 i found.1 (Put r x ∷ []) file.paths file.bytes file.there
    (body_after b told i (Put r x ∷ []) w file.bytes body.has (IsFile-put told b (file_of i w) r v x is same body.file)
    (HasBytes-put told b (file_of i w) r v x is same file.bytes body.bytes_are))
    (named, tt)
