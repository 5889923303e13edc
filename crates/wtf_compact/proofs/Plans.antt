-- What is put in a region's place.
use Rattle.std.proofs.Common.{◌≡◌, ◌⊎◌, ◌*◌, ◌++◌, Bool, true, false, List, [], ◌∷◌, length, Option, None, Some, refl, sym, ap, ◌∙◌, subst, append-nil}
use Rattle.std.proofs.Common.{inl, inr}
use Rattle.std.specs.List.{All}
use Rattle.std.proofs.lemmas.List.Elements.{All-nil, All-cons, All-append, All-weaker}
use Rattle.wtf_base.specs.declared.fault.Fault.{Fault}
use Rattle.wtf_base.specs.declared.fault.Fault.TheVariants as fault
use Rattle.wtf_base.specs.declared.slice.Slice.{Slice}
use Rattle.wtf_dev.specs.Store.{StoreKind, KindLaws}
use Rattle.wtf_dev.specs.Sums.{TellsAll}
use Rattle.wtf_dev.proofs.Sums.{tells_all-kept}
use Rattle.wtf_overlay.specs.Clips.{Within, clip_list}
use Rattle.wtf_overlay.specs.Compact.{IsCompact}
use Rattle.wtf_overlay.specs.Origin.{origin}
use Rattle.wtf_overlay.specs.Spilled.{encoded}
use Rattle.wtf_overlay.specs.declared.part.Entry.{Entry}
use Rattle.wtf_overlay.proofs.Clipping.{clip_list_within}
use Rattle.wtf_model.specs.declared.op.JobKind.{JobKind}
use Rattle.wtf_model.specs.declared.op.JobKind.TheVariants as job
use Rattle.wtf_replica.specs.Copies.{IsStored, GrowsOnce}
use Rattle.wtf_replica.specs.Faults.{IsWriteFault}
use Rattle.wtf_values.specs.declared.region.RegionValue.{RegionValue}
use Rattle.wtf_values.specs.declared.region.Spill.{Spill}
use Rattle.wtf_meta.specs.Lists.{ListFact, base_facts, or_none, seen_list}
use Rattle.wtf_meta.specs.Contents.{lists_in}
use Rattle.wtf_meta.specs.Bytes.{EntryBytes, BaseBytes, RegionBytes, any_slice}
use Rattle.wtf_meta.proofs.ListFacts.{TellLists-parts, ListsBytes-all}
use Rattle.wtf_meta.proofs.Weaker.{maybe_stays}
use Rattle.wtf_region.specs.declared.dev.Dev.{Dev}
use Rattle.wtf_region.specs.Devs.{IsSoundDev, GoesOn, stores, remembered, told_in, inside_of, between, place_in}
use Rattle.wtf_region.specs.Showing.{OnlyRead}
use Rattle.wtf_region.proofs.ListReads.{entries_later, facts_later, places_later}
use Rattle.wtf_region.proofs.Recalls.{recalls_same, recalls_later}
use Rattle.wtf_region.proofs.ShowLaws.{reads_nothing}
use Rattle.wtf_compact.specs.declared.target.Target.{Target}
use Rattle.wtf_compact.specs.Planned.{spills, IsShortList, IsPlanned, IsPlanFault}
use Rattle.wtf_replica.specs.Downs.{is_down}

-- no job of a region without bytes stores a list
pub spills_none : (k : JobKind) → spills k 0 ≡ false
spills_none job.Compact = refl
spills_none job.Spill = refl

pub neither : {A : Type 0} (b : Bool) → b ≡ true → b ≡ false → A
neither b is not = let both : true ≡ false = sym is ∙ not in absurd (cc)

-- a region that is missing stays so
pub planned_none : {S : Type 0} (kind : StoreKind S) (dev : Dev S) (t : Target) (now : Option RegionValue) → now ≡ None → IsPlanned kind dev dev t now None
planned_none kind dev t now none = subst (λ (o : Option RegionValue). IsPlanned kind dev dev t o None) (sym none) (record {
  under = [];
  recalls = recalls_same kind dev dev refl;
  stored = [];
  same = record { end = refl; origins = λ lists tell y. refl };
  there = refl;
  short = λ not. refl;
  spilled = λ is. neither (spills t.kind 0) is (spills_none t.kind);
  told = λ ranges cache slices away. tt;
  told_own = λ all. tt;
  inside = All-nil (λ (f : ListFact). All (EntryBytes (inside_of kind dev)) f.list);
  names = record { lists = λ P Q h known. All-nil (λ (f : ListFact). All (EntryBytes P) f.list); is_in = λ P Q h known own. tt };
  unwritten = λ not. reads_nothing kind (is_down dev.replicas.now) (stores dev);
  written = λ is. neither (spills t.kind 0) is (spills_none t.kind);
})

-- a compact list of the same bytes
pub planned_short : {S : Type 0} (kind : StoreKind S) (old new : Dev S) (t : Target) (v x : RegionValue) (es : List Entry) → IsShortList kind old new v es
    → OnlyRead kind (between old new) → spills t.kind v.end ≡ false → x.end ≡ v.end → x.base ≡ None → x.list ≡ es
    → IsPlanned kind old new t (Some v) (Some x)
planned_short kind old new t v x es h reads not end base list = record {
  under = h.under;
  recalls = h.recalls;
  stored = [];
  same = record {
    end = end;
    origins = λ lists tell y.
        ap (λ (b : Option Spill). origin (seen_list lists b ++ x.list) y) base
        ∙ ap (λ (l : List Entry). origin l y) list
        ∙ h.origins lists (TellLists-parts lists (base_facts v.base h.under) [] tell).0 y;
  };
  there = refl;
  short = λ _. (refl, base, subst IsCompact (sym list) h.compact);
  spilled = λ is. neither (spills t.kind v.end) is not;
  told = h.told;
  told_own = λ all. tt;
  inside = All-append (λ (f : ListFact). All (EntryBytes (inside_of kind new)) f.list) (base_facts v.base h.under) [] h.inside
      (All-nil (λ (f : ListFact). All (EntryBytes (inside_of kind new)) f.list));
  names = record {
    lists = λ P Q named known. All-nil (λ (f : ListFact). All (EntryBytes P) f.list);
    is_in = λ P Q named known own. record {
      base = subst (BaseBytes P Q) (sym base) tt;
      entries = subst (All (EntryBytes P)) (sym list) (h.named P Q named known);
    };
  };
  unwritten = λ _. reads;
  written = λ is. neither (spills t.kind v.end) is not;
}

-- it names only bytes inside the stores
pub short_inside : {S : Type 0} {kind : StoreKind S} → KindLaws kind → {old new : Dev S} → IsSoundDev kind old → GoesOn kind old new []
    → (v x : RegionValue) (es : List Entry) → IsShortList kind old new v es → RegionBytes (inside_of kind old) any_slice v → x.base ≡ None → x.list ≡ es
    → RegionBytes (inside_of kind new) any_slice x
short_inside {kind = kind} laws {old = old} {new = new} sound goes v x es h inside base list = record {
  base = subst (BaseBytes (inside_of kind new) any_slice) (sym base) tt;
  entries = subst (All (EntryBytes (inside_of kind new))) (sym list)
      (h.named (inside_of kind new) any_slice
      (maybe_stays (inside_of kind old) (inside_of kind new) (places_later laws sound goes) any_slice any_slice (λ s is. is) (Some v) inside)
      (ListsBytes-all (inside_of kind new) any_slice (base_facts v.base h.under) h.inside));
}

module _ {S : Type 0} {kind : StoreKind S} (laws : KindLaws kind) {old mid new : Dev S} (goes : GoesOn kind old mid []) (next : GoesOn kind mid new [])
    (v : RegionValue) (es : List Entry) (h : IsShortList kind old mid v es) (inside : RegionBytes (inside_of kind mid) any_slice v) where
  abbrev F : ListFact → Type 0
  F f = All (EntryBytes (inside_of kind new)) f.list

  abbrev facts : List ListFact
  facts = base_facts v.base h.under

  own_inside : All (EntryBytes (inside_of kind new)) es
  own_inside = entries_later laws goes.sound next es
      (h.named (inside_of kind mid) any_slice inside (ListsBytes-all (inside_of kind mid) any_slice facts h.inside))

  -- a compact list of the same bytes that was stored
  pub planned_spilled : (t : Target) (x : RegionValue) (s : Slice) → remembered new ≡ remembered mid → OnlyRead kind (between old mid)
      → spills t.kind v.end ≡ true
      → IsStored kind (between mid new) mid.settings.replicas (place_in mid t.inode (t.region * mid.settings.region)) (encoded es) s
      → (TellsAll kind (stores mid) → lists_in new.settings.region (told_in kind new) s ≡ Some es)
      → x.end ≡ v.end → x.base ≡ Some (record { slice = s; visible = v.end }) → x.list ≡ [] → IsPlanned kind old new t (Some v) (Some x)
  planned_spilled t x s kept reads is stored tells end base list =
      let own : ListFact = record { slice = s; list = es } in
      record {
        under = h.under;
        recalls = recalls_later laws goes next facts h.recalls kept;
        stored = own ∷ [];
        same = record {
          end = end;
          origins = λ lists tell y.
              let parts = TellLists-parts lists facts (own ∷ []) tell in
              let whole : clip_list v.end (or_none (lists s)) ≡ es =
              ap (λ (o : Option (List Entry)). clip_list v.end (or_none o)) parts.1.0 ∙ clip_list_within v.end es h.within in
              ap (λ (b : Option Spill). origin (seen_list lists b ++ x.list) y) base
              ∙ ap (λ (l : List Entry). origin (clip_list v.end (or_none (lists s)) ++ l) y) list
              ∙ ap (λ (l : List Entry). origin l y) (append-nil (clip_list v.end (or_none (lists s))) ∙ whole)
              ∙ h.origins lists parts.0 y;
        };
        there = refl;
        short = λ not. neither (spills t.kind v.end) is not;
        spilled = λ _. record {
          own = own;
          one = refl;
          x = x;
          is = refl;
          base = base ∙ ap (λ n. let b : Spill = record { slice = s; visible = n } in Some b) (sym end);
          list = list;
          compact = h.compact;
          within = subst (λ n. Within n es) (sym end) h.within;
        };
        told = λ ranges cache slices away. facts_later laws next facts (h.told ranges cache slices away);
        told_own = λ all. (tells (tells_all-kept laws goes.each all), tt);
        inside = All-append F facts (own ∷ [])
            (All-weaker (λ (f : ListFact). All (EntryBytes (inside_of kind mid)) f.list) F (λ f. entries_later laws goes.sound next f.list) facts h.inside)
            (All-cons F own [] own_inside (All-nil F));
        names = record {
          lists = λ P Q named known. All-cons (λ (f : ListFact). All (EntryBytes P) f.list) own [] (h.named P Q named known)
              (All-nil (λ (f : ListFact). All (EntryBytes P) f.list));
          is_in = λ P Q named known slices. record {
            base = subst (BaseBytes P Q) (sym base) slices.0;
            entries = subst (All (EntryBytes P)) (sym list) (All-nil (EntryBytes P));
          };
        };
        unwritten = λ not. neither (spills t.kind v.end) is not;
        written = λ _. record { own = own; one = refl; mid = mid; goes = goes; reads = reads; slice = stored };
      }

-- too few servers took the list
pub fault_spilled : {S : Type 0} (kind : StoreKind S) (old mid new : Dev S) (t : Target) (v : RegionValue) (es : List Entry) (why : Fault)
    → GoesOn kind old mid [] → OnlyRead kind (between old mid) → IsShortList kind old mid v es → spills t.kind v.end ≡ true
    → GrowsOnce kind (between mid new) (place_in mid t.inode (t.region * mid.settings.region)) (length (encoded es)) → remembered new ≡ remembered mid
    → (why ≡ fault.Memory) ⊎ IsWriteFault kind (between mid new) mid.settings why
    → IsPlanFault kind old new t (Some v) why
fault_spilled kind old mid new t v es why goes reads list is grows left h = elim h [
  | inl short ↦ inl short
  | inr out ↦ inr (inr (record {
    spilled = is;
    mid = mid;
    goes = goes;
    reads = reads;
    under = list.under;
    recalls = list.recalls;
    out = out;
    grows = record { spilled = is; list = es; compact = list.compact; grows = grows };
    left = left;
  }))
]
