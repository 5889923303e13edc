-- What a draft becomes as it is kept, by what its maps become.
use Rattle.std.proofs.Common.{◌≡◌, ℕ, true, false, List, ◌∷◌, Option, None, Some, is_some, refl, sym, ap, ◌∙◌}
use Rattle.std.specs.Option.{option_map}
use Rattle.std.specs.Map.{lookup, remove_entry}
use Rattle.std.specs.BTreeMap.{is_at}
use Rattle.std.specs.Ordering.{nat_cmp}
use Rattle.wtf_base.specs.declared.ids.InodeId.{InodeId}
use Rattle.wtf_overlay.specs.Reading.{◌>>=◌}
use Rattle.wtf_values.specs.Keys.{inode_cmp}
use Rattle.wtf_values.specs.declared.region.RegionValue.{RegionValue}
use Rattle.wtf_imagefmt.specs.Rows.{ValueRow, value_row}
use Rattle.wtf_changes.specs.declared.draft.FileDraft.{FileDraft}
use Rattle.wtf_changes.specs.declared.error.ApplyError.{ApplyError}
use Rattle.wtf_changes.specs.declared.error.ApplyError.TheVariants as error
use Rattle.wtf_changes.specs.Rows.{RegionChangeRow}
use Rattle.wtf_changes.specs.Drafts.{set, put_back, regions_kept, with_last, file_found, file_set, nowhere, with_region, region_set_in, region_set, regions_set}
use Rattle.wtf_changes.specs.Kept.{seen, file_entry}
use Rattle.wtf_changes.specs.Applying.{IsUnmade}
use Rattle.wtf_changes.proofs.Seen.{remove-seen, lookup-seen, put_back-seen}
use Rattle.wtf_changes.proofs.Files.{Entries}

pub none_by : {A : Type 0} (o : Option A) → ((x : A) → o ≡ Some x → ⊥) → o ≡ None
none_by None off = refl
none_by (Some x) off = absurd (off x refl)

nowhere_given : (es : Entries) (v : Option ValueRow) → is_some v ≡ true → nowhere es v ≡ None
nowhere_given es None given = absurd (cc)
nowhere_given es (Some v) given = refl

nowhere_gone : (es : Entries) (v : Option ValueRow) → is_some v ≡ false → nowhere es v ≡ Some es
nowhere_gone es None gone = refl
nowhere_gone es (Some v) gone = absurd (cc)

pub is_held : (v : Option RegionValue) → is_some (option_map value_row v) ≡ is_some v
is_held None = refl
is_held (Some v) = refl

module _ (es : List (InodeId × FileDraft)) where
  pub file_gone : (i : InodeId) → seen file_entry (remove_entry (is_at (inode_cmp i)) es) ≡ file_set (seen file_entry es) i None
  file_gone i = remove-seen inode_cmp file_entry es i

  pub file_stays : (i : InodeId) (n : ℕ) (f : FileDraft) → f.last ≡ n
      → seen value_row f.regions.entries ≡ regions_kept (option_map file_entry (lookup (is_at (inode_cmp i)) es))
      → seen file_entry (put_back inode_cmp es i f) ≡ file_set (seen file_entry es) i (Some n)
  file_stays i n f last regions =
      let its : seen value_row f.regions.entries ≡ regions_kept (file_found (seen file_entry es) i) = regions
      ∙ ap regions_kept (lookup-seen inode_cmp file_entry es i) in
      let entry : file_entry f ≡ with_last n (file_found (seen file_entry es) i) = λ k. record { last = last k; regions = its k } in
      put_back-seen inode_cmp file_entry es i f ∙ ap (put_back inode_cmp (seen file_entry es) i) entry

  module _ (c : RegionChangeRow) where
    found_is : (o : Option FileDraft) → lookup (is_at (inode_cmp c.inode)) es ≡ o
        → region_set (seen file_entry es) c ≡ region_set_in (option_map file_entry o) (seen file_entry es) c
    found_is o is = ap (λ f. region_set_in f (seen file_entry es) c) (sym (lookup-seen inode_cmp file_entry es c.inode) ∙ ap (option_map file_entry) is)

    pub region_refused : lookup (is_at (inode_cmp c.inode)) es ≡ None → is_some c.value ≡ true → region_set (seen file_entry es) c ≡ None
    region_refused none value = found_is None none ∙ nowhere_given (seen file_entry es) c.value value

    pub region_passed : lookup (is_at (inode_cmp c.inode)) es ≡ None → is_some c.value ≡ false → region_set (seen file_entry es) c ≡ Some (seen file_entry es)
    region_passed none value = found_is None none ∙ nowhere_gone (seen file_entry es) c.value value

    pub region_given : (f g : FileDraft) → lookup (is_at (inode_cmp c.inode)) es ≡ Some f → g.last ≡ f.last
        → seen value_row g.regions.entries ≡ set nat_cmp (seen value_row f.regions.entries) c.number c.value
        → region_set (seen file_entry es) c ≡ Some (seen file_entry (put_back inode_cmp es c.inode g))
    region_given f g found last regions =
        let entry : with_region (file_entry f) c.number c.value ≡ file_entry g = λ k. record { last = sym last k; regions = sym regions k } in
        found_is (Some f) found ∙ ap (λ w. Some (put_back inode_cmp (seen file_entry es) c.inode w)) entry
        ∙ ap (λ l. Some l) (sym (put_back-seen inode_cmp file_entry es c.inode g))

-- regions behind the first one
module _ (es : Entries) (c : RegionChangeRow) (cs : List RegionChangeRow) where
  pub regions_later : (made : Entries) → region_set es c ≡ Some made → regions_set made cs ≡ regions_set es (c ∷ cs)
  regions_later made is = sym (ap (λ o. o >>= λ m. regions_set m cs) is)

  pub regions_unmade : (total : Option Entries) (why : ApplyError) → regions_set es (c ∷ cs) ≡ total → IsUnmade (region_set es c) why → IsUnmade total why
  regions_unmade total error.NotChanges so_far none = sym so_far ∙ ap (λ o. o >>= λ m. regions_set m cs) none
  regions_unmade total error.Memory so_far none = tt
