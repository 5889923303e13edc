-- The file that a map shows after changes of it is the file after the changes.
use Rattle.std.proofs.Common.{◌≡◌, ℕ, ◌+◌, max, Bool, true, false, cond, if◌then◌else◌, ◌&&◌, nat_lt, nat_le, List, [], ◌∷◌, ◌++◌, Option, None, Some, refl, ap}
use Rattle.std.proofs.Common.{sym, ◌∙◌, subst, arith}
use Rattle.std.proofs.lemmas.Bool.{cond-true}
use Rattle.std.proofs.lemmas.Bool.Decides.{nat_tests}
use Rattle.std.proofs.lemmas.List.{map-append}
use Rattle.std.specs.BTreeMap.{is_at}
use Rattle.wtf_base.specs.declared.ids.InodeId.{InodeId}
use Rattle.wtf_kv.specs.declared.changes.Change.TheVariants as change
use Rattle.wtf_kv.specs.Edits.{is_between}
use Rattle.wtf_values.specs.declared.key.Key.TheVariants.{Inode, Region}
use Rattle.wtf_values.specs.declared.value.Value.{Value}
use Rattle.wtf_values.specs.declared.value.Value.TheVariants as value
use Rattle.wtf_values.specs.declared.value.Delta.{Delta}
use Rattle.wtf_values.specs.declared.value.Delta.TheVariants as delta
use Rattle.wtf_values.specs.Keys.{key_cmp}
use Rattle.wtf_values.specs.Regions.{pushed, added, clipped, zeroed}
use Rattle.wtf_meta.specs.Maps.{Map, with}
use Rattle.wtf_meta.specs.FileEdits.{last_of, region_of, file_of, IsLast, IsRegion, HasFile, FileEdit, Push, PushRel, Clip, ZeroWithin, CutAbove, RaiseLast}
use Rattle.wtf_meta.specs.FileEdits.{SetLast, Put, LAST_REGION, edit_of, edits_of, lies_above, after_edit, after}
use Rattle.wtf_values.proofs.KeyLaws.{at_itself, between_own}
use Rattle.wtf_meta.proofs.Steps.{step, made, by_last, region_step, region_has, does_push, does_clip, does_zero, does_rel, does_put}

at_inode : (i : InodeId) (w : Map) (d : Delta) → step (change.Delta (Inode i) d) w (Inode i) ≡ made (w (Inode i)) d
at_inode i w d = cond-true (is_at (key_cmp (Inode i)) (Inode i)) _ _ (at_itself (Inode i))

le_next : (r q : ℕ) → nat_le (r + 1) q ≡ nat_lt r q
le_next r q = grind (arith, nat_tests)

-- a cut of a file's regions above r
above_is : (i : InodeId) (r q : ℕ) → is_between key_cmp (Region i (r + 1)) (Region i LAST_REGION) (Region i q) ≡ lies_above r q
above_is i r q = between_own i (r + 1) LAST_REGION q ∙ ap (λ t. t && nat_le q LAST_REGION) (le_next r q)

cut_value : (t : Bool) (now : Option Value) → region_of (cond t None now) ≡ (if t then None else region_of now)
cut_value true now = refl
cut_value false now = refl

cut_kind : (t : Bool) (now : Option Value) → IsRegion now → IsRegion (cond t None now)
cut_kind true now h = tt
cut_kind false now h = h

-- the file after one change
pub file_one : (i : InodeId) (d : FileEdit) (w : Map) → HasFile i w → file_of i (step (edit_of i d) w) ≡ after_edit d (file_of i w)
file_one i (Push r e) w has = region_step i r w (delta.Push e) (λ now. Some (pushed now e)) (does_push e) has
file_one i (PushRel r ps b) w has = region_step i r w (delta.PushRel ps b) (λ now. added now ps b) (does_rel ps b) has
file_one i (Clip r end) w has = region_step i r w (delta.Clip end) (λ now. Some (clipped end now)) (does_clip end) has
file_one i (ZeroWithin r from upto) w has = region_step i r w (delta.ZeroWithin from upto) (zeroed from upto) (does_zero from upto) has
file_one i (CutAbove r) w has =
    let regions : (q : ℕ) → region_of (step (edit_of i (CutAbove r)) w (Region i q)) ≡ (if lies_above r q then None else region_of (w (Region i q))) =
    λ q. cut_value (is_between key_cmp (Region i (r + 1)) (Region i LAST_REGION) (Region i q)) (w (Region i q))
    ∙ ap (λ (t : Bool). if t then None else region_of (w (Region i q))) (above_is i r q) in
    λ k. record { last = last_of (w (Inode i)); region = λ q. regions q k }
file_one i (RaiseLast r) w has =
    let last = ap last_of (at_inode i w (delta.RaiseLast r))
    ∙ by_last (λ now. last_of (made now (delta.RaiseLast r)) ≡ max (last_of now) r) (λ n. refl) (w (Inode i)) has.inode in
    λ k. record { last = last k; region = λ q. region_of (w (Region i q)) }
file_one i (Put r x) w has = region_step i r w (delta.Put (value.Region x)) (λ now. Some x) (does_put x) has
file_one i (SetLast r) w has =
    let last = ap last_of (at_inode i w (delta.SetLast r)) ∙ by_last (λ now. last_of (made now (delta.SetLast r)) ≡ r) (λ n. refl) (w (Inode i)) has.inode in
    λ k. record { last = last k; region = λ q. region_of (w (Region i q)) }

-- which leaves values of the kinds of their keys
pub has_one : (i : InodeId) (d : FileEdit) (w : Map) → HasFile i w → HasFile i (step (edit_of i d) w)
has_one i (Push r e) w has = region_has i r w (delta.Push e) (λ now. Some (pushed now e)) (does_push e) has
has_one i (PushRel r ps b) w has = region_has i r w (delta.PushRel ps b) (λ now. added now ps b) (does_rel ps b) has
has_one i (Clip r end) w has = region_has i r w (delta.Clip end) (λ now. Some (clipped end now)) (does_clip end) has
has_one i (ZeroWithin r from upto) w has = region_has i r w (delta.ZeroWithin from upto) (zeroed from upto) (does_zero from upto) has
has_one i (CutAbove r) w has = record {
  inode = has.inode;
  regions = λ q. cut_kind (is_between key_cmp (Region i (r + 1)) (Region i LAST_REGION) (Region i q)) (w (Region i q)) (has.regions q);
}
has_one i (RaiseLast r) w has = record {
  inode = subst IsLast (sym (at_inode i w (delta.RaiseLast r))) (by_last (λ now. IsLast (made now (delta.RaiseLast r))) (λ n. tt) (w (Inode i)) has.inode);
  regions = has.regions;
}
has_one i (Put r x) w has = region_has i r w (delta.Put (value.Region x)) (λ now. Some x) (does_put x) has
has_one i (SetLast r) w has = record {
  inode = subst IsLast (sym (at_inode i w (delta.SetLast r))) (by_last (λ now. IsLast (made now (delta.SetLast r))) (λ n. tt) (w (Inode i)) has.inode);
  regions = has.regions;
}

-- the file after all changes
pub file_after : (i : InodeId) (ds : List FileEdit) (w : Map) → HasFile i w → file_of i (with (edits_of i ds) w) ≡ after ds (file_of i w)
file_after i [] w has = refl
file_after i (d ∷ ds) w has = file_after i ds (step (edit_of i d) w) (has_one i d w has) ∙ ap (after ds) (file_one i d w has)

-- and the map has the file still
pub has_after : (i : InodeId) (ds : List FileEdit) (w : Map) → HasFile i w → HasFile i (with (edits_of i ds) w)
has_after i [] w has = has
has_after i (d ∷ ds) w has = has_after i ds (step (edit_of i d) w) (has_one i d w has)

-- changes of a file, one list after another
pub edits_of-append : (i : InodeId) (ds es : List FileEdit) → edits_of i (ds ++ es) ≡ edits_of i ds ++ edits_of i es
edits_of-append i ds es = map-append (edit_of i) ds es
