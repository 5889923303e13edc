-- A region that was read, and restored after that.
use Rattle.std.proofs.Common.{◌≡◌, ℕ, ◌+◌, ◌*◌, ◌<◌, ◌≤◌, ◌^◌, Bool, true, List, [], ◌∷◌, length, Option, None, Some, sym, ap, ◌∙◌, subst, arith, inr}
use Rattle.std.specs.List.{All}
use Rattle.std.proofs.lemmas.List.Elements.{All-nil}
use Rattle.wtf_base.specs.declared.fault.Fault.{Fault}
use Rattle.wtf_base.specs.declared.fault.Fault.TheVariants as fault
use Rattle.wtf_base.specs.declared.settings.Settings.{Settings}
use Rattle.wtf_dev.specs.Store.{StoreKind, KindLaws}
use Rattle.wtf_dev.specs.Sums.{all_stored}
use Rattle.wtf_overlay.specs.declared.part.Entry.{Entry}
use Rattle.wtf_overlay.proofs.Shown.{compact_count}
use Rattle.wtf_replica.proofs.Spans.{each_kept, risen_since, same_lengths-stored}
use Rattle.wtf_values.specs.declared.region.RegionValue.{RegionValue}
use Rattle.wtf_values.specs.declared.region.Spill.{Spill}
use Rattle.wtf_meta.specs.Bytes.{EntryBytes}
use Rattle.wtf_region.specs.declared.cache.RegionKey.{RegionKey}
use Rattle.wtf_region.specs.declared.dev.Dev.{Dev}
use Rattle.wtf_region.specs.Devs.{IsSoundDev, GoesOn, stores, is_down_in, told_in, between}
use Rattle.wtf_region.specs.Showing.{OnlyRead}
use Rattle.wtf_healer.specs.Bases.{IsBaseRead, inside_left}
use Rattle.wtf_healer.specs.Regions.{IsCompacted, IsHealed, IsRegionFault}
use Rattle.wtf_healer.specs.Restored.{TellUp, AreKept, Grew, AreRestored, IsRestoreFault}
use Rattle.wtf_healer.specs.Sparse.{is_to_heal, has_sparse, sparse_bytes}
use Rattle.wtf_healer.specs.declared.entries.Restored.{Restored}
use Rattle.wtf_healer.proofs.Faulting.{fault_over}
use Rattle.wtf_healer.proofs.Placing.{are_made_since}
use Rattle.wtf_healer.proofs.Restoring.{down_same, tell_up-later, keeps_since, entries_later, grew_none}

-- what was read of a base lies inside the stores
pub base_inside : {S : Type 0} (kind : StoreKind S) (old new : Dev S) (base : Option Spill) (es : List Entry) → IsBaseRead kind old new base es
    → All (EntryBytes (inside_left kind new)) es
base_inside kind old new None es h = subst (All (EntryBytes (inside_left kind new))) (sym h) (All-nil (EntryBytes (inside_left kind new)))
base_inside kind old new (Some s) es h = h.inside

-- a region that is at most so long has few entries in its compact list
pub few_entries : (v : RegionValue) (under es : List Entry) (settings : Settings) → v.end ≤ settings.region → IsCompacted v under es → length es < 2 ^ 31
few_entries v under es settings size h =
    let count = compact_count v.end es h.compact h.within in
    let most : settings.region ≤ 1048576 = settings.limits.6 in
    omega (arith, count, size, most)

module _ {S : Type 0} {kind : StoreKind S} (laws : KindLaws kind) where
  kept_since : (down : ℕ → Bool) (old mid new : Dev S) → GoesOn kind old mid [] → (es fs : List Entry)
      → AreKept down (told_in kind mid) (told_in kind new) es fs → AreKept down (told_in kind old) (told_in kind new) es fs
  kept_since down old mid new f [] [] h = tt
  kept_since down old mid new f (e ∷ es) (x ∷ fs) h =
      (keeps_since laws down (stores old) (stores mid) (stores new) f.each e x h.0, kept_since down old mid new f es fs h.1)
  kept_since down old mid new f [] (x ∷ fs) h = absurd h
  kept_since down old mid new f (e ∷ es) [] h = absurd h

  -- what was read before a list was restored is of no matter to it
  pub restored_since : (old mid new : Dev S) → GoesOn kind old mid [] → (key : RegionKey) (es fs : List Entry) (n : ℕ)
      → AreRestored kind mid new key es fs n → AreRestored kind old new key es fs n
  restored_since old mid new f key es fs n h =
      let down = down_same laws f in
      let copies : mid.settings.replicas ≡ old.settings.replicas = ap (λ (st : Settings). st.replicas) f.settings in
      record {
        keeps = λ tells.
            let again = tell_up-later laws (is_down_in old) (stores old) (stores mid) f.each tells in
            let here = h.keeps (subst (λ (d : ℕ → Bool). TellUp kind d (stores mid)) (sym down) again) in
            kept_since (is_down_in old) old mid new f es fs (subst (λ (d : ℕ → Bool). AreKept d (told_in kind mid) (told_in kind new) es fs) down here);
        whole = ap (λ c. has_sparse (is_down_in old) c fs) (sym copies) ∙ ap (λ (d : ℕ → Bool). has_sparse d mid.settings.replicas fs) (sym down) ∙ h.whole;
        within = h.within;
        inside = h.inside;
        bytes = h.bytes ∙ ap (λ (d : ℕ → Bool). sparse_bytes d mid.settings.replicas es) down ∙ ap (λ c. sparse_bytes (is_down_in old) c es) copies;
        made = are_made_since laws old mid new f key es fs h.made;
      }

  -- reads make no store grow
  pub grew_since : (old mid new : Dev S) → GoesOn kind old mid [] → OnlyRead kind (between old mid) → (n : ℕ) → Grew kind mid new n → Grew kind old new n
  grew_since old mid new f r n grew none =
      let then = grew (λ k rise. none k (risen_since kind (stores old) (stores mid) (stores new) f.each.same_length (each_kept laws f.each) k rise)) in
      let before = same_lengths-stored kind (stores old) (stores mid) f.each.same_length r.lengths in
      then ∙ ap (λ x. x + mid.settings.replicas * n) before
      ∙ ap (λ c. all_stored kind (stores old) + c * n) (ap (λ (st : Settings). st.replicas) f.settings)

  pub read_grew : (old mid : Dev S) → GoesOn kind old mid [] → OnlyRead kind (between old mid) → Grew kind old mid 0
  read_grew old mid f r = grew_since old mid mid f r 0 (grew_none laws mid)

  pub read_later : (old mid new : Dev S) → IsSoundDev kind mid → GoesOn kind mid new [] → (base : Option Spill) (es : List Entry)
      → IsBaseRead kind old mid base es
      → IsBaseRead kind old new base es
  read_later old mid new sound g None es h = h
  read_later old mid new sound g (Some s) es h = record { decodes = h.decodes; inside = entries_later laws mid new sound g es h.inside }

  -- whether a region is to be healed stays
  pub to_heal_since : (old mid : Dev S) → GoesOn kind old mid [] → (under : List Entry) (v : RegionValue)
      → is_to_heal (is_down_in old) old.settings.replicas under v ≡ is_to_heal (is_down_in mid) mid.settings.replicas under v
  to_heal_since old mid f under v =
      ap (λ c. is_to_heal (is_down_in old) c under v) (sym (ap (λ (st : Settings). st.replicas) f.settings))
      ∙ ap (λ (d : ℕ → Bool). is_to_heal d mid.settings.replicas under v) (sym (down_same laws f))

  -- or it was healed
  pub healed_of : (old mid new : Dev S) → GoesOn kind old mid [] → GoesOn kind mid new [] → (key : RegionKey) (v : RegionValue) (under short : List Entry)
      → IsBaseRead kind old mid v.base under → is_to_heal (is_down_in mid) mid.settings.replicas under v ≡ true → IsCompacted v under short
      → (made : Restored) → AreRestored kind mid new key short made.list made.bytes → IsHealed kind old new key v made
  healed_of old mid new f g key v under short read sparse short_is made restored = record {
    under = under;
    read = read_later old mid new f.sound g v.base under read;
    sparse = to_heal_since old mid f under v ∙ sparse;
    short = short;
    short_is = short_is;
    restored = restored_since old mid new f key short made.list made.bytes restored;
  }

  pub restore_fault : (old mid new : Dev S) → GoesOn kind old mid [] → GoesOn kind mid new [] → (v : RegionValue) (under short : List Entry)
      → IsBaseRead kind old mid v.base under → is_to_heal (is_down_in mid) mid.settings.replicas under v ≡ true → IsCompacted v under short → (why : Fault)
      → IsRestoreFault kind mid new short why → IsRegionFault kind old new v why
  restore_fault old mid new f g v under short read sparse is (fault.Read k) h = inr (record {
    under = under;
    read = read_later old mid new f.sound g v.base under read;
    short = short;
    short_is = is;
    lacks = fault_over laws old mid new f short short (λ e there. there) (fault.Read k) h;
  })
  restore_fault old mid new f g v under short read sparse is fault.Write h = record {
    under = under;
    read = read_later old mid new f.sound g v.base under read;
    sparse = to_heal_since old mid f under v ∙ sparse;
    short = short;
    short_is = is;
    lacks = fault_over laws old mid new f short short (λ e there. there) fault.Write h;
  }
  restore_fault old mid new f g v under short read sparse is fault.Memory h = tt
  restore_fault old mid new f g v under short read sparse is (fault.Punch k) h = absurd h
  restore_fault old mid new f g v under short read sparse is (fault.Damaged k) h = absurd h
