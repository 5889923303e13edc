-- The list of a region, whatever its base decodes to: no entry passes its end, a push lies over it, and a cut takes off what
-- lies from an end on, of the base too.
use Rattle.std.proofs.Common.{◌≡◌, ℕ, ◌<◌, ◌≤◌, min, nat_lt, List, [], ◌∷◌, Option, None, Some, refl, sym, ap, ◌∙◌, arith, inl, inr, append_assoc}
use Rattle.std.proofs.lemmas.Bool.{cases_lt, cond-true, cond-false, lt-ltb, le-ltb}
use Rattle.wtf_overlay.specs.declared.part.Entry.{Entry}
use Rattle.wtf_overlay.specs.Origin.{Place, origin, origin_from, over}
use Rattle.wtf_overlay.specs.Clips.{Within, clip_list}
use Rattle.wtf_overlay.proofs.Origins.{origin_from-append, origin-push, within_past}
use Rattle.wtf_overlay.proofs.Clipping.{Within-nil, Within-weaker, Within-append, Within-clip, clip_below, clip_past}
use Rattle.wtf_values.specs.declared.region.RegionValue.{RegionValue}
use Rattle.wtf_values.specs.declared.region.Spill.{Spill}
use Rattle.wtf_values.specs.Bases.{IsBelow, base_below}
use Rattle.wtf_values.specs.Regions.{or_empty, pushed, clipped}
use Rattle.wtf_meta.specs.Lists.{Lists, or_none, seen_list, list_of}
use Rattle.wtf_meta.specs.Files.{region_origin, end_of}

base_within : (lists : Lists) (end : ℕ) (base : Option Spill) → IsBelow end base → Within end (seen_list lists base)
base_within lists end None h = Within-nil end
base_within lists end (Some s) h = Within-weaker s.visible end (clip_list s.visible (or_none (lists s.slice))) h.1
    (Within-clip s.visible (or_none (lists s.slice)))

-- no entry of a region's list passes its end
pub list_within : (lists : Lists) (v : RegionValue) → Within v.end (list_of lists v)
list_within lists v = Within-append v.end (seen_list lists v.base) v.list (base_within lists v.end v.base v.below) v.within

-- from its end on a region has holes
pub region_past : (lists : Lists) (now : Option RegionValue) (y : ℕ) → end_of now ≤ y → region_origin lists now y ≡ []
region_past lists now y past = within_past [] (end_of now) (list_of lists (or_empty now)) y (list_within lists (or_empty now)) past

-- an entry that is pushed lies over the region
pub region_pushed : (lists : Lists) (now : Option RegionValue) (e : Entry) (y : ℕ)
    → region_origin lists (Some (pushed now e)) y ≡ over e y (region_origin lists now y)
region_pushed lists now e y =
    let v = or_empty now in
    ap (λ (l : List Entry). origin l y) (sym (append_assoc (seen_list lists v.base) v.list (e ∷ []))) ∙ origin-push (list_of lists v) e y

base_cut : (lists : Lists) (end : ℕ) (base : Option Spill) (y : ℕ) → y < end
    → origin (seen_list lists (base_below end base)) y ≡ origin (seen_list lists base) y
base_cut lists end None y h = refl
base_cut lists end (Some s) y h =
    let es = or_none (lists s.slice) in
    let n = min s.visible end in
    elim (cases_lt 0 n) [
      | inl some ↦
          ap (λ (b : Option Spill). origin (seen_list lists b) y) (cond-true (nat_lt 0 n) (Some (record s { visible = n })) None (lt-ltb 0 n some))
          ∙ elim (cases_lt y s.visible) [
            | inl low ↦ clip_below [] n es y (omega (arith, low, h)) ∙ sym (clip_below [] s.visible es y low)
            | inr high ↦ clip_past [] n es y (omega (arith, high)) ∙ sym (clip_past [] s.visible es y high)
          ]
      | inr none ↦
          ap (λ (b : Option Spill). origin (seen_list lists b) y) (cond-false (nat_lt 0 n) (Some (record s { visible = n })) None (le-ltb 0 n none))
          ∙ sym (clip_past [] s.visible es y (omega (arith, none, h)))
    ]

-- a region that was cut shows what it did below the cut
pub clipped_below : (lists : Lists) (end : ℕ) (now : Option RegionValue) (y : ℕ) → y < end
    → region_origin lists (Some (clipped end now)) y ≡ region_origin lists now y
clipped_below lists end now y h =
    let v = or_empty now in
    origin_from-append [] (seen_list lists (base_below end v.base)) (clip_list end v.list) y
    ∙ clip_below (origin (seen_list lists (base_below end v.base)) y) end v.list y h
    ∙ ap (λ (w : List Place). origin_from w v.list y) (base_cut lists end v.base y h)
    ∙ sym (origin_from-append [] (seen_list lists v.base) v.list y)

-- and holes from there on
pub clipped_past : (lists : Lists) (end : ℕ) (now : Option RegionValue) (y : ℕ) → end ≤ y → region_origin lists (Some (clipped end now)) y ≡ []
clipped_past lists end now y h = region_past lists (Some (clipped end now)) y h
