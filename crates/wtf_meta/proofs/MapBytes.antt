-- What comes of changes names only bytes that the values named or the changes bring.
use Rattle.std.proofs.Common.{◌≡◌, ℕ, ◌-◌, nat_le, Bool, true, false, cond, if◌then◌else◌, List, [], ◌∷◌, Option, None, Some}
use Rattle.std.specs.BTreeMap.{is_at}
use Rattle.wtf_base.specs.declared.slice.Slice.{Slice}
use Rattle.wtf_kv.specs.declared.changes.Change.{Change}
use Rattle.wtf_kv.specs.declared.changes.Change.TheVariants as change
use Rattle.wtf_kv.specs.declared.cell.Applied.TheVariants.{Is, Gone, Unfit}
use Rattle.wtf_kv.specs.Edits.{value_made, is_between, after_change, after_changes}
use Rattle.wtf_overlay.specs.Origin.{Place}
use Rattle.wtf_values.specs.declared.key.Key.{Key}
use Rattle.wtf_values.specs.declared.region.RegionValue.{RegionValue}
use Rattle.wtf_values.specs.declared.value.Value.{Value}
use Rattle.wtf_values.specs.declared.value.Value.TheVariants as value
use Rattle.wtf_values.specs.declared.value.Delta.{Delta}
use Rattle.wtf_values.specs.declared.value.Delta.TheVariants as delta
use Rattle.wtf_values.specs.Keys.{key_cmp}
use Rattle.wtf_values.specs.Regions.{or_empty, with_pieces, fits_at_end}
use Rattle.wtf_values.specs.Outcomes.{outcome_none, outcome_region, outcome_last, outcome_names, outcome_count, outcome_kind, outcome_of}
use Rattle.wtf_values.specs.Names.{NamesOf}
use Rattle.wtf_meta.specs.Maps.{Map, Edits, with}
use Rattle.wtf_meta.specs.Bytes.{RegionBytes, ValueBytes, MapBytes, DeltaBytes, EditBytes, EditsBytes}
use Rattle.wtf_meta.proofs.RegionBytes.{RegionBytes-empty, pushed_bytes, clipped_bytes, with_pieces_bytes, zeroed_bytes}

module _ (P : List Place → Bool) (Q : Slice → Bool) where
  -- a value, a changed one where a test says so
  cond_bytes : (b : Bool) (new old : Option Value) → ValueBytes P Q new → ValueBytes P Q old → ValueBytes P Q (cond b new old)
  cond_bytes true new old h k = h
  cond_bytes false new old h k = k

  rel_bytes : (b : Bool) (v : RegionValue) (now : Option Value) → RegionBytes P Q v → ValueBytes P Q now
      → ValueBytes P Q (value_made (if b then Is (value.Region v) else Unfit) now)
  rel_bytes true v now h k = h
  rel_bytes false v now h k = k

  last_bytes : (n : ℕ) (d : Delta) (now : Option Value) → ValueBytes P Q (value_made (outcome_last n d) now)
  last_bytes n (delta.RaiseLast r) now = tt
  last_bytes n (delta.SetLast r) now = tt
  last_bytes n _ now = tt

  names_bytes : (s : NamesOf) (d : Delta) (now : Option Value) → ValueBytes P Q (value_made (outcome_names s d) now)
  names_bytes s (delta.DirAdd name) now = tt
  names_bytes s (delta.DirDel name) now = tt
  names_bytes s _ now = tt

  gone_bytes : (b : Bool) (n : ℕ) (now : Option Value) → ValueBytes P Q (value_made (if b then Gone else Is (value.Count n)) now)
  gone_bytes true n now = tt
  gone_bytes false n now = tt

  count_bytes : (n : ℕ) (d : Delta) (now : Option Value) → ValueBytes P Q (value_made (outcome_count n d) now)
  count_bytes n delta.LinkAdd now = tt
  count_bytes n delta.LinkSub now = gone_bytes (nat_le n 2) (n - 1) now
  count_bytes n _ now = tt

  module _ (hole : P [] ≡ true) where
    -- a missing value after a change
    none_bytes : (d : Delta) → DeltaBytes P Q d → ValueBytes P Q (value_made (outcome_none d) None)
    none_bytes (delta.Push e) h = pushed_bytes P Q None e (RegionBytes-empty P Q) h
    none_bytes (delta.PushRel ps b) h = rel_bytes (fits_at_end None ps b) (with_pieces (or_empty None) ps) None
        (with_pieces_bytes P Q (or_empty None) ps (RegionBytes-empty P Q) h) tt
    none_bytes (delta.Clip end) h = clipped_bytes P Q end None (RegionBytes-empty P Q)
    none_bytes delta.LinkAdd h = tt
    none_bytes _ h = tt

    -- a region after a change
    region_bytes : (v : RegionValue) (d : Delta) → RegionBytes P Q v → DeltaBytes P Q d
        → ValueBytes P Q (value_made (outcome_region (Some v) d) (Some (value.Region v)))
    region_bytes v (delta.Push e) h here = pushed_bytes P Q (Some v) e h here
    region_bytes v (delta.PushRel ps b) h here = rel_bytes (fits_at_end (Some v) ps b) (with_pieces v ps) (Some (value.Region v))
        (with_pieces_bytes P Q v ps h here) h
    region_bytes v (delta.Clip end) h here = clipped_bytes P Q end (Some v) h
    region_bytes v (delta.ZeroWithin from upto) h here = zeroed_bytes P Q hole from upto v h
    region_bytes v _ h here = h

    kind_bytes : (now : Option Value) (d : Delta) → ValueBytes P Q now → DeltaBytes P Q d → ValueBytes P Q (value_made (outcome_kind now d) now)
    kind_bytes None d h here = none_bytes d here
    kind_bytes (Some (value.Region v)) d h here = region_bytes v d h here
    kind_bytes (Some (value.Last n)) d h here = last_bytes n d (Some (value.Last n))
    kind_bytes (Some (value.Names s)) d h here = names_bytes s d (Some (value.Names s))
    kind_bytes (Some (value.Count n)) d h here = count_bytes n d (Some (value.Count n))
    kind_bytes (Some (value.Node n)) d h here = tt

    -- a value after a change
    pub made_bytes : (now : Option Value) (d : Delta) → ValueBytes P Q now → DeltaBytes P Q d → ValueBytes P Q (value_made (outcome_of now d) now)
    made_bytes now (delta.Put v) h here = here
    made_bytes now delta.Remove h here = tt
    made_bytes now (delta.Push e) h here = kind_bytes now (delta.Push e) h here
    made_bytes now (delta.PushRel ps b) h here = kind_bytes now (delta.PushRel ps b) h here
    made_bytes now (delta.Clip end) h here = kind_bytes now (delta.Clip end) h here
    made_bytes now (delta.ZeroWithin from upto) h here = kind_bytes now (delta.ZeroWithin from upto) h here
    made_bytes now (delta.RaiseLast r) h here = kind_bytes now (delta.RaiseLast r) h here
    made_bytes now (delta.SetLast r) h here = kind_bytes now (delta.SetLast r) h here
    made_bytes now (delta.DirAdd name) h here = kind_bytes now (delta.DirAdd name) h here
    made_bytes now (delta.DirDel name) h here = kind_bytes now (delta.DirDel name) h here
    made_bytes now delta.LinkAdd h here = kind_bytes now delta.LinkAdd h here
    made_bytes now delta.LinkSub h here = kind_bytes now delta.LinkSub h here

    one_bytes : (c : Change Key Delta) (q : Key) (now : Option Value) → ValueBytes P Q now → EditBytes P Q c
        → ValueBytes P Q (after_change key_cmp outcome_of c q now)
    one_bytes (change.Delta key d) q now h here = cond_bytes (is_at (key_cmp key) q) (value_made (outcome_of now d) now) now (made_bytes now d h here) h
    one_bytes (change.Cut from to) q now h here = cond_bytes (is_between key_cmp from to q) None now tt h

    all_bytes : (cs : Edits) (q : Key) (now : Option Value) → ValueBytes P Q now → EditsBytes P Q cs
        → ValueBytes P Q (after_changes key_cmp outcome_of cs q now)
    all_bytes [] q now h here = h
    all_bytes (c ∷ cs) q now h here = all_bytes cs q (after_change key_cmp outcome_of c q now) (one_bytes c q now h here.0) here.1

    -- a map after changes
    pub with_bytes : (cs : Edits) (w : Map) → MapBytes P Q w → EditsBytes P Q cs → MapBytes P Q (with cs w)
    with_bytes cs w h here = λ q. all_bytes cs q (w q) (h q) here
