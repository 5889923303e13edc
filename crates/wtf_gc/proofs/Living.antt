-- What is kept is what a number that may be read sees; so what holds of all that can be read holds of it.
use Rattle.std.proofs.Common.{◌≡◌, ℕ, Bool, ◌||◌, nat_eq, List, IsTrue, refl, sym, ap, ◌∙◌, subst}
use Rattle.std.specs.List.{list_any}
use Rattle.wtf_base.specs.declared.slice.Slice.{Slice}
use Rattle.wtf_dev.specs.Store.{StoreKind}
use Rattle.wtf_overlay.specs.Origin.{Place}
use Rattle.wtf_kv.specs.Stores.{Store, versions_of, versions_in, map_at, is_live}
use Rattle.wtf_kv.specs.Seen.{upto, last_seen, value_seen, ascends}
use Rattle.wtf_kv.proofs.KeptLaws.{kept_value, pruned_kept}
use Rattle.wtf_values.specs.declared.key.Key.{Key}
use Rattle.wtf_values.specs.declared.region.RegionValue.{RegionValue}
use Rattle.wtf_values.specs.declared.value.Value.{Value}
use Rattle.wtf_values.specs.declared.value.Value.TheVariants as value
use Rattle.wtf_values.specs.Keys.{key_cmp}
use Rattle.wtf_meta.specs.Bytes.{BaseBytes, RegionBytes, ValueBytes, MapBytes, any_slice}
use Rattle.wtf_meta.specs.Maps.{metadata_at}
use Rattle.wtf_region.specs.declared.dev.Dev.{Dev}
use Rattle.wtf_region.specs.Devs.{stores, inside_of}
use Rattle.wtf_region.specs.Inside.{IsStoredInside}
use Rattle.wtf_gc.specs.declared.parts.Parts.{Parts}
use Rattle.wtf_gc.specs.Parts.{IsIn}
use Rattle.wtf_gc.specs.Scans.{IsPrunedFrom}

-- ---- pins alone differ
pub same_versions : (old new : Store Key Value) → new.number ≡ old.number → new.cells ≡ old.cells → (q : Key)
    → versions_of key_cmp new q ≡ versions_of key_cmp old q
same_versions old new number cells q = ap (λ n. upto n (versions_in key_cmp new.cells q)) number ∙ ap (λ cs. upto old.number (versions_in key_cmp cs q)) cells

same_maps : (old new : Store Key Value) → new.number ≡ old.number → new.cells ≡ old.cells → (n : ℕ) → map_at key_cmp new n ≡ map_at key_cmp old n
same_maps old new number cells n = λ i q. value_seen (last_seen n (same_versions old new number cells q i))

pub pruned_on : (old mid new : Store Key Value) → IsPrunedFrom old mid → new.number ≡ mid.number → new.cells ≡ mid.cells → IsPrunedFrom old new
pruned_on old mid new p number cells = record {
  order = p.order;
  ascends = λ q. subst ascends (sym (same_versions mid new number cells q)) (p.ascends q);
  number = number ∙ p.number;
  kept = λ q. same_versions mid new number cells q ∙ p.kept q;
  maps = λ n live. same_maps mid new number cells n ∙ p.maps n live;
}

-- ---- what is kept
was_live : (old new : Store Key Value) → new.number ≡ old.number → new.pins ≡ old.pins → (n : ℕ) → IsTrue (is_live new n) → IsTrue (is_live old n)
was_live old new number pins n live =
    sym (ap (λ m. nat_eq n m || list_any (nat_eq n) new.pins) number ∙ ap (λ ps. nat_eq n old.number || list_any (nat_eq n) ps) pins) ∙ live

-- so what holds of all that may be read holds of what each version that is kept names
pub kept_region : (P : List Place → Bool) (Q : Slice → Bool) (old new : Store Key Value) → IsPrunedFrom old new
    → ((n : ℕ) → IsTrue (is_live old n) → MapBytes P Q (metadata_at old n)) → (parts : Parts) (v : RegionValue) → IsIn new parts v → RegionBytes P Q v
kept_region P Q old new pruned all parts v there =
    let mid : Store Key Value = record new { pins = old.pins } in
    let seen = kept_value key_cmp mid there.at there.number (value.Region v) pruned.ascends
    (pruned_kept key_cmp old mid pruned.order refl pruned.kept) there.among in
    let live = was_live old mid pruned.number refl seen.number seen.live in
    let map : MapBytes P Q (map_at key_cmp mid seen.number) = subst (MapBytes P Q) (sym (pruned.maps seen.number live)) (all seen.number live) in
    subst (ValueBytes P Q) seen.is (map there.at)

pub bases_lie : {S : Type 0} (kind : StoreKind S) (dev : Dev S) (old new : Store Key Value) → IsPrunedFrom old new
    → ((n : ℕ) → IsTrue (is_live old n) → IsStoredInside kind (stores dev) dev.settings (metadata_at old n)) → (parts : Parts) (v : RegionValue)
    → IsIn new parts v → BaseBytes (inside_of kind dev) any_slice v.base
bases_lie kind dev old new pruned inside parts v there = (kept_region (inside_of kind dev) any_slice old new pruned inside parts v there).base
