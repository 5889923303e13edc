-- What a job is to put goes on keeping its region's bytes, as stores go on to tell theirs.
use Rattle.wtf_clients.proofs.Common.{meaning, Entry, RegionValue, Spill, BaseBytes, MaybeBytes, Told, is_told, is_listed, lists_in, region_origin, TellLists}
use Rattle.wtf_clients.proofs.Common.{base_facts, has_list, region_origin_bytes, TellsOn, meaning_later, told_byte, is_told-later, is_listed-later, told_lists}
use Rattle.wtf_clients.proofs.Common.{region_later, maybe_stays, KeepsRegion, ◌≡◌, ℕ, true, List, [], Option, None, Some, refl, sym, ap, ◌∙◌}

module _ (b : ℕ) (told : Told) where
  -- the list that the slice of a base decodes to
  under_of : (base : Option Spill) → BaseBytes (is_told told) (is_listed b told) base
      → (under : List Entry) × TellLists (lists_in b told) (base_facts base under)
  under_of None h = ([], tt)
  under_of (Some s) h = let was = has_list (is_told told) (lists_in b told s.slice) h.1 in (was.0, (was.1, tt))

  -- each byte of a region that is told
  origin_told : (now : Option RegionValue) → MaybeBytes (is_told told) (is_listed b told) now → (y : ℕ)
      → is_told told (region_origin (lists_in b told) now y) ≡ true
  origin_told None h y = refl
  origin_told (Some v) h y =
      let u = under_of v.base h.base in
      region_origin_bytes (is_told told) (is_listed b told) refl (lists_in b told) (Some v) u.0 y u.1 h (told_lists b told (base_facts v.base u.0) u.1)

module _ (told later : Told) (on : TellsOn told later) (b : ℕ) where
  -- it is told later
  pub known_later : (now : Option RegionValue) → MaybeBytes (is_told told) (is_listed b told) now → MaybeBytes (is_told later) (is_listed b later) now
  known_later now h = maybe_stays (is_told told) (is_told later) (λ qs is. is_told-later told later qs on is) (is_listed b told) (is_listed b later)
      (λ s is. is_listed-later told later b s on is) now h

  -- and what has its bytes has them later
  pub keeps_later : (now value : Option RegionValue) → MaybeBytes (is_told told) (is_listed b told) now → KeepsRegion b told now value
      → KeepsRegion b later now value
  keeps_later None None known keeps = tt
  keeps_later None (Some x) known keeps = absurd keeps
  keeps_later (Some v) None known keeps = absurd keeps
  keeps_later (Some v) (Some x) known keeps = record {
    same = record {
      end = keeps.same.end;
      bytes = λ y.
          let byte = told_byte told (region_origin (lists_in b told) (Some v) y) (origin_told b told (Some v) known y) in
          ap (meaning later) (region_later told later b on (Some x) y keeps.named)
          ∙ meaning_later told later (region_origin (lists_in b told) (Some x) y) byte.0 on (keeps.same.bytes y ∙ byte.1)
          ∙ sym (ap (meaning later) (region_later told later b on (Some v) y known)
          ∙ meaning_later told later (region_origin (lists_in b told) (Some v) y) byte.0 on byte.1);
    };
    named = known_later (Some x) keeps.named;
  }
