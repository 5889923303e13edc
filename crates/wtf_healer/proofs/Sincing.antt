-- What can be healed, and why a region was not healed, over a longer span.
use Rattle.std.proofs.Common.{ℕ, ◌+◌, ◌<◌, ◌≤◌, Bool, List, [], length, take, Option, None, Some, sym, ap, ◌∙◌, subst, arith, inl, inr}
use Rattle.std.proofs.lemmas.List.Elements.{All-weaker}
use Rattle.wtf_base.specs.declared.fault.Fault.{Fault}
use Rattle.wtf_base.specs.declared.fault.Fault.TheVariants as fault
use Rattle.wtf_base.specs.declared.pointer.Pointer.{Pointer}
use Rattle.wtf_base.specs.declared.settings.Settings.{Settings}
use Rattle.wtf_base.specs.declared.slice.Slice.{Slice}
use Rattle.wtf_base.specs.Slices.{pointers_of}
use Rattle.wtf_dev.specs.Store.{StoreKind, KindLaws}
use Rattle.wtf_kv.specs.Stores.{Store}
use Rattle.wtf_overlay.specs.Origin.{part_origin}
use Rattle.wtf_overlay.specs.declared.part.Part.TheVariants.{Held}
use Rattle.wtf_replica.specs.Copies.{IsFetched}
use Rattle.wtf_replica.specs.Faults.{AreAllOut}
use Rattle.wtf_replica.specs.Outs.{IsOut}
use Rattle.wtf_replica.specs.Spans.{span}
use Rattle.wtf_replica.proofs.Spans.{each_kept, all_out_since, out_since}
use Rattle.wtf_values.specs.Keys.{key_cmp}
use Rattle.wtf_values.specs.declared.key.Key.{Key}
use Rattle.wtf_values.specs.declared.key.Key.TheVariants.{Region}
use Rattle.wtf_values.specs.declared.region.RegionValue.{RegionValue}
use Rattle.wtf_values.specs.declared.region.Spill.{Spill}
use Rattle.wtf_values.specs.declared.value.Value.{Value}
use Rattle.wtf_values.specs.declared.value.Value.TheVariants as value
use Rattle.wtf_meta.specs.Bytes.{BaseBytes, ValueBytes, any_slice}
use Rattle.wtf_meta.specs.Maps.{Map, metadata_at}
use Rattle.wtf_region.specs.declared.dev.Dev.{Dev}
use Rattle.wtf_region.specs.Devs.{IsSoundDev, GoesOn, stores, is_down_in, between}
use Rattle.wtf_healer.specs.Bases.{inside_left}
use Rattle.wtf_healer.specs.Regions.{CanHeal, HealLacksBase, HasDamage, IsRegionFault, IsFaultAt, IsHealFault}
use Rattle.wtf_healer.specs.declared.regions.Healed.{Healed}
use Rattle.wtf_healer.proofs.Faulting.{fault_over}
use Rattle.wtf_healer.proofs.Healing.{to_heal_since}
use Rattle.wtf_healer.proofs.Passing.{read_since, Passed, pass_earlier}
use Rattle.wtf_healer.proofs.Restoring.{down_same, inside_later, entries_later}

module _ {S : Type 0} {kind : StoreKind S} (laws : KindLaws kind) where
  base_later : (old new : Dev S) → IsSoundDev kind old → GoesOn kind old new [] → (base : Option Spill) → BaseBytes (inside_left kind old) any_slice base
      → BaseBytes (inside_left kind new) any_slice base
  base_later old new sound g None h = tt
  base_later old new sound g (Some s) h = (λ i below. inside_later laws old new sound g (part_origin (Held s.slice) i) (h.0 i below), h.1)

  value_later : (old new : Dev S) → IsSoundDev kind old → GoesOn kind old new [] → (x : Option Value) → ValueBytes (inside_left kind old) any_slice x
      → ValueBytes (inside_left kind new) any_slice x
  value_later old new sound g None h = tt
  value_later old new sound g (Some (value.Node n)) h = tt
  value_later old new sound g (Some (value.Names ns)) h = tt
  value_later old new sound g (Some (value.Count n)) h = tt
  value_later old new sound g (Some (value.Last r)) h = tt
  value_later old new sound g (Some (value.Region v)) h =
      record { base = base_later old new sound g v.base h.base; entries = entries_later laws old new sound g v.list h.entries }

  pub can_later : (old new : Dev S) → IsSoundDev kind old → GoesOn kind old new [] → (w : Map) → CanHeal kind old w → CanHeal kind new w
  can_later old new sound g w h = record {
    inside = λ q. value_later old new sound g (w q) (h.inside q);
    few = h.few;
    ends = λ i r v is. subst (λ (st : Settings). v.end ≤ st.region) (sym g.settings) (h.ends i r v is);
  }

  fetched_since : (old mid new : Dev S) → GoesOn kind old mid [] → (s : Slice) (off : ℕ) (out : List ℕ) (k : ℕ)
      → IsFetched kind (between mid new) s off out k → IsFetched kind (between old new) s off out k
  fetched_since old mid new f s off out k h =
      let down = down_same laws f in
      let below : k < length (stores old) = omega (arith, h.known, f.each.same_length) in
      record {
        copy = h.copy;
        pointer = h.pointer;
        is_copy = h.is_copy;
        server = h.server;
        known = below;
        up = sym (ap (λ (d : ℕ → Bool). d k) down) ∙ h.up;
        bytes = λ d j b within told. h.bytes d j b within ((each_kept laws f.each k d below).shown h.pointer.file (h.pointer.at + off + j) b tt told);
        earlier = All-weaker (λ (p : Pointer). IsOut kind (between mid new) p.server.0) (λ (p : Pointer). IsOut kind (between old new) p.server.0)
            (λ p out_is. out_since kind (is_down_in old) (stores old) (stores mid) (stores new) f.each.same_length (each_kept laws f.each) p.server.0
            (subst (λ (d : ℕ → Bool). IsOut kind (span d (stores mid) (stores new)) p.server.0) down out_is)) (take h.copy (pointers_of s)) h.earlier;
      }

  lacks_base_since : (old mid new : Dev S) → GoesOn kind old mid [] → (base : Option Spill) (k : ℕ) → HealLacksBase kind (between mid new) base k
      → HealLacksBase kind (between old new) base k
  lacks_base_since old mid new f None k h = h
  lacks_base_since old mid new f (Some s) k h =
      all_out_since kind (is_down_in old) (stores old) (stores mid) (stores new) f.each.same_length (each_kept laws f.each) s.slice k
      (subst (λ (d : ℕ → Bool). AreAllOut kind (span d (stores mid) (stores new)) s.slice k) (down_same laws f) h)

  damage_since : (old mid new : Dev S) → GoesOn kind old mid [] → (base : Option Spill) (k : ℕ) → HasDamage kind mid new base k → HasDamage kind old new base k
  damage_since old mid new f None k h = h
  damage_since old mid new f (Some s) k h =
      record { bytes = h.bytes; whole = h.whole; read = fetched_since old mid new f s.slice 0 h.bytes k h.read; bad = h.bad }

  region_since : (old mid new : Dev S) → GoesOn kind old mid [] → (v : RegionValue) (why : Fault) → IsRegionFault kind mid new v why
      → IsRegionFault kind old new v why
  region_since old mid new f v (fault.Read k) h = elim h [
    | inl base ↦ inl (lacks_base_since old mid new f v.base k.0 base)
    | inr lacks ↦ inr (record {
      under = lacks.under;
      read = read_since laws old mid new f v.base lacks.under lacks.read;
      short = lacks.short;
      short_is = lacks.short_is;
      lacks = fault_over laws old mid new f lacks.short lacks.short (λ e there. there) (fault.Read k) lacks.lacks;
    })
  ]
  region_since old mid new f v (fault.Damaged k) h = damage_since old mid new f v.base k.0 h
  region_since old mid new f v fault.Write h = record {
    under = h.under;
    read = read_since laws old mid new f v.base h.under h.read;
    sparse = to_heal_since laws old mid f h.under v ∙ h.sparse;
    short = h.short;
    short_is = h.short_is;
    lacks = fault_over laws old mid new f h.short h.short (λ e there. there) fault.Write h.lacks;
  }
  region_since old mid new f v fault.Memory h = tt
  region_since old mid new f v (fault.Punch k) h = absurd h

  -- why the region at a key was not healed is why not all were: those below it were passed
  pub heal_since : (kv : Store Key Value) (old mid new : Dev S) → GoesOn kind mid new [] → (k : Key) (h : Healed) → Passed kind old mid kv (Some k) h
      → (why : Fault) → IsFaultAt kind (mid, new) (metadata_at kv kv.number) k why → IsHealFault kind old new (metadata_at kv kv.number) why
  heal_since kv old mid new g k h passed why at = elim at [
    | inl memory ↦ inl memory
    | inr lacks ↦ inr (record {
      inode = lacks.inode;
      region = lacks.region;
      value_is = lacks.value_is;
      there = lacks.there;
      cause = region_since old mid new passed.goes lacks.value_is why lacks.cause;
      earlier = λ i r v has less.
          pass_earlier laws kv old mid new g k h passed i r v has (ap (key_cmp (Region i r)) lacks.key_is ∙ less);
    })
  ]
