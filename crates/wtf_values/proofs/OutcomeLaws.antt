-- Laws of what comes of changes.
use Rattle.std.proofs.Common.{◌≡◌, ℕ, ◌-◌, nat_le, Bool, true, false, if◌then◌else◌, List, Option, None, Some, refl}
use Rattle.std.proofs.lemmas.Bool.{cond-true, cond-false}
use Rattle.wtf_kv.specs.declared.cell.Applied.TheVariants.{Is, Gone, Unfit}
use Rattle.wtf_kv.specs.Edits.{fits}
use Rattle.wtf_overlay.specs.declared.part.Piece.{Piece}
use Rattle.wtf_values.specs.declared.region.RegionValue.{RegionValue}
use Rattle.wtf_values.specs.declared.value.Value.{Value}
use Rattle.wtf_values.specs.declared.value.Value.TheVariants.{Node, Names, Last, Region, Count}
use Rattle.wtf_values.specs.declared.value.Delta.{Delta}
use Rattle.wtf_values.specs.declared.value.Delta.TheVariants.{Push, PushRel, Clip, ZeroWithin, RaiseLast, SetLast, DirAdd, DirDel, LinkAdd, LinkSub, Put}
use Rattle.wtf_values.specs.declared.value.Delta.TheVariants.{Remove}
use Rattle.wtf_values.specs.Names.{NamesOf}
use Rattle.wtf_values.specs.Regions.{emptied, or_empty, zeroed, with_pieces, fits_at_end}
use Rattle.wtf_values.specs.Outcomes.{applied, makes_region, adds_link, outcome_none, outcome_region, outcome_last, outcome_names, outcome_count}
use Rattle.wtf_values.specs.Outcomes.{outcome_kind, outcome_of}

-- whether a change is one that may not fit
abbrev pub is_relative : Delta → Bool
is_relative (PushRel ps b) = true
is_relative _ = false

fits_applied : (now : Option RegionValue) → fits (applied now) ≡ true
fits_applied None = refl
fits_applied (Some v) = refl

rel_fits : (b : Bool) (v : RegionValue) → fits (if b then Is (Region v) else Unfit) ≡ b
rel_fits true v = refl
rel_fits false v = refl

-- pieces that are added at the end of a region, which may be missing, fit where they end at its size at most
pub fits-missing : (ps : List Piece) (b : ℕ) → fits (outcome_of None (PushRel ps b)) ≡ fits_at_end None ps b
fits-missing ps b = rel_fits (fits_at_end None ps b) (with_pieces emptied ps)

pub fits-region : (v : RegionValue) (ps : List Piece) (b : ℕ) → fits (outcome_of (Some (Region v)) (PushRel ps b)) ≡ fits_at_end (Some v) ps b
fits-region v ps b = rel_fits (fits_at_end (Some v) ps b) (with_pieces v ps)

-- what comes of pieces that fit, and of such that do not
pub outcome-fits : (now : Option RegionValue) (ps : List Piece) (b : ℕ) → fits_at_end now ps b ≡ true → outcome_region now (PushRel ps b) ≡ Is (Region (with_pieces (or_empty now) ps))
outcome-fits now ps b h = cond-true (fits_at_end now ps b) _ _ h

pub outcome-unfit : (now : Option RegionValue) (ps : List Piece) (b : ℕ) → fits_at_end now ps b ≡ false → outcome_region now (PushRel ps b) ≡ Unfit
outcome-unfit now ps b h = cond-false (fits_at_end now ps b) _ _ h

region_fits : (now : Option RegionValue) (d : Delta) → is_relative d ≡ false → fits (outcome_region now d) ≡ true
region_fits now (Push e) h = refl
region_fits now (PushRel ps b) h = absurd (cc)
region_fits now (Clip end) h = refl
region_fits now (ZeroWithin from upto) h = fits_applied (zeroed from upto now)
region_fits now (RaiseLast r) h = fits_applied now
region_fits now (SetLast r) h = fits_applied now
region_fits now (DirAdd name) h = fits_applied now
region_fits now (DirDel name) h = fits_applied now
region_fits now LinkAdd h = fits_applied now
region_fits now LinkSub h = fits_applied now
region_fits now (Put v) h = fits_applied now
region_fits now Remove h = fits_applied now

last_fits : (n : ℕ) (d : Delta) → fits (outcome_last n d) ≡ true
last_fits n (Push e) = refl
last_fits n (PushRel ps b) = refl
last_fits n (Clip end) = refl
last_fits n (ZeroWithin from upto) = refl
last_fits n (RaiseLast r) = refl
last_fits n (SetLast r) = refl
last_fits n (DirAdd name) = refl
last_fits n (DirDel name) = refl
last_fits n LinkAdd = refl
last_fits n LinkSub = refl
last_fits n (Put v) = refl
last_fits n Remove = refl

names_fits : (s : NamesOf) (d : Delta) → fits (outcome_names s d) ≡ true
names_fits s (Push e) = refl
names_fits s (PushRel ps b) = refl
names_fits s (Clip end) = refl
names_fits s (ZeroWithin from upto) = refl
names_fits s (RaiseLast r) = refl
names_fits s (SetLast r) = refl
names_fits s (DirAdd name) = refl
names_fits s (DirDel name) = refl
names_fits s LinkAdd = refl
names_fits s LinkSub = refl
names_fits s (Put v) = refl
names_fits s Remove = refl

gone_fits : (b : Bool) (n : ℕ) → fits (if b then Gone else Is (Count n)) ≡ true
gone_fits true n = refl
gone_fits false n = refl

count_fits : (n : ℕ) (d : Delta) → fits (outcome_count n d) ≡ true
count_fits n (Push e) = refl
count_fits n (PushRel ps b) = refl
count_fits n (Clip end) = refl
count_fits n (ZeroWithin from upto) = refl
count_fits n (RaiseLast r) = refl
count_fits n (SetLast r) = refl
count_fits n (DirAdd name) = refl
count_fits n (DirDel name) = refl
count_fits n LinkAdd = refl
count_fits n LinkSub = gone_fits (nat_le n 2) (n - 1)
count_fits n (Put v) = refl
count_fits n Remove = refl

none_fits : (d : Delta) → is_relative d ≡ false → fits (outcome_none d) ≡ true
none_fits (Push e) h = refl
none_fits (PushRel ps b) h = absurd (cc)
none_fits (Clip end) h = refl
none_fits (ZeroWithin from upto) h = region_fits None (ZeroWithin from upto) h
none_fits (RaiseLast r) h = refl
none_fits (SetLast r) h = refl
none_fits (DirAdd name) h = refl
none_fits (DirDel name) h = refl
none_fits LinkAdd h = refl
none_fits LinkSub h = refl
none_fits (Put v) h = refl
none_fits Remove h = refl

kind_fits : (now : Option Value) (d : Delta) → is_relative d ≡ false → fits (outcome_kind now d) ≡ true
kind_fits None d h = none_fits d h
kind_fits (Some (Region v)) d h = region_fits (Some v) d h
kind_fits (Some (Last n)) d h = last_fits n d
kind_fits (Some (Names s)) d h = names_fits s d
kind_fits (Some (Count n)) d h = count_fits n d
kind_fits (Some (Node n)) d h = refl

-- each other change fits whatever a key has
pub always_fits : (now : Option Value) (d : Delta) → is_relative d ≡ false → fits (outcome_of now d) ≡ true
always_fits now (Push e) h = kind_fits now (Push e) h
always_fits now (PushRel ps b) h = absurd (cc)
always_fits now (Clip end) h = kind_fits now (Clip end) h
always_fits now (ZeroWithin from upto) h = kind_fits now (ZeroWithin from upto) h
always_fits now (RaiseLast r) h = kind_fits now (RaiseLast r) h
always_fits now (SetLast r) h = kind_fits now (SetLast r) h
always_fits now (DirAdd name) h = kind_fits now (DirAdd name) h
always_fits now (DirDel name) h = kind_fits now (DirDel name) h
always_fits now LinkAdd h = kind_fits now LinkAdd h
always_fits now LinkSub h = kind_fits now LinkSub h
always_fits now (Put v) h = refl
always_fits now Remove h = refl

-- a change that makes a missing region makes it of one with no byte
pub makes_of_empty : (d : Delta) → makes_region d ≡ true → outcome_region (Some emptied) d ≡ outcome_region None d
makes_of_empty (Push e) makes = refl
makes_of_empty (PushRel ps b) makes = refl
makes_of_empty (Clip end) makes = refl
makes_of_empty (ZeroWithin from upto) makes = absurd (cc)
makes_of_empty (RaiseLast r) makes = absurd (cc)
makes_of_empty (SetLast r) makes = absurd (cc)
makes_of_empty (DirAdd name) makes = absurd (cc)
makes_of_empty (DirDel name) makes = absurd (cc)
makes_of_empty LinkAdd makes = absurd (cc)
makes_of_empty LinkSub makes = absurd (cc)
makes_of_empty (Put v) makes = absurd (cc)
makes_of_empty Remove makes = absurd (cc)

-- of all changes of a missing value one alone makes a number of paths
pub none_counts : (d : Delta) → adds_link d ≡ true → outcome_none d ≡ Is (Count 2)
none_counts LinkAdd adds = refl
none_counts d adds = absurd (cc)

pub none_region : (d : Delta) → adds_link d ≡ false → outcome_none d ≡ outcome_region None d
none_region (Push e) other = refl
none_region (PushRel ps b) other = refl
none_region (Clip end) other = refl
none_region (ZeroWithin from upto) other = refl
none_region (RaiseLast r) other = refl
none_region (SetLast r) other = refl
none_region (DirAdd name) other = refl
none_region (DirDel name) other = refl
none_region LinkAdd other = absurd (cc)
none_region LinkSub other = refl
none_region (Put v) other = refl
none_region Remove other = refl
