-- A pass over the keys of a store, region after region.
use Rattle.std.proofs.Common.{◌≡◌, ◌≢◌, ℕ, ◌+◌, ◌⊎◌, ◌++◌, Bool, true, false, List, [], ◌∷◌, get_or, map, Option, None, Some, refl, sym, ap, ◌∙◌, subst, arith}
use Rattle.std.proofs.Common.{inl, inr}
use Rattle.std.specs.List.{All, AllPairs, Contains, sum_by}
use Rattle.std.specs.declared.cmp.Ordering.{Ordering}
use Rattle.std.specs.declared.cmp.Ordering.TheVariants.{Less, Equal, Greater}
use Rattle.std.specs.Ordering.{is_lt, ordering_reverse}
use Rattle.std.specs.Cmp.{tied_itself}
use Rattle.std.proofs.lemmas.List.{map-append}
use Rattle.std.proofs.lemmas.List.Elements.{All-nil, All-cons, All-head, All-tail, All-weaker, All-append}
use Rattle.std.proofs.lemmas.List.Elements.{Contains-append_left, Contains-append_right, Contains-append_cases}
use Rattle.std.proofs.lemmas.List.Quantifiers.{all_pairs_push}
use Rattle.std.proofs.lemmas.List.Sums.{sum_by-append}
use Rattle.wtf_base.specs.declared.ids.InodeId.{InodeId}
use Rattle.wtf_base.specs.declared.settings.Settings.{Settings}
use Rattle.wtf_base.specs.declared.slice.Slice.{Slice}
use Rattle.wtf_base.specs.Places.{Place, places_of}
use Rattle.wtf_dev.specs.Store.{StoreKind, KindLaws}
use Rattle.wtf_kv.specs.Seen.{has_any, value_seen, last_seen}
use Rattle.wtf_kv.specs.Stores.{Store, versions_of}
use Rattle.wtf_kv.specs.Order.{is_past, is_before, has_version, IsNextKey, IsReached}
use Rattle.wtf_kv.proofs.KeyLaws.{between, reached}
use Rattle.wtf_overlay.specs.declared.part.Entry.{Entry}
use Rattle.wtf_overlay.specs.Spilled.{decoded}
use Rattle.wtf_values.specs.Keys.{key_cmp, same_key}
use Rattle.wtf_values.specs.declared.key.Key.{Key}
use Rattle.wtf_values.specs.declared.key.Key.TheVariants.{Region}
use Rattle.wtf_values.specs.declared.region.RegionValue.{RegionValue}
use Rattle.wtf_values.specs.declared.region.Spill.{Spill}
use Rattle.wtf_values.specs.declared.value.Value.{Value}
use Rattle.wtf_values.specs.declared.value.Value.TheVariants as value
use Rattle.wtf_values.proofs.KeyLaws.{key_total}
use Rattle.wtf_meta.specs.FileEdits.{region_of}
use Rattle.wtf_meta.specs.Maps.{Map, metadata_at}
use Rattle.wtf_region.specs.declared.cache.RegionKey.{RegionKey}
use Rattle.wtf_region.specs.declared.dev.Dev.{Dev}
use Rattle.wtf_region.specs.Devs.{IsSoundDev, GoesOn, stores, is_down_in, told_in, between as within}
use Rattle.wtf_region.proofs.Spans.{goes_on, goes_nowhere}
use Rattle.wtf_region.proofs.Frames.{tells_on}
use Rattle.wtf_healer.specs.Bases.{UpTells, IsBaseRead}
use Rattle.wtf_healer.specs.Regions.{HasNoSparse, IsHealed, Put, change_of, IsPutOf, IsPutFor, IsPutAt, IsLeftAt, IsHealedAt, AreHealed, IsDone}
use Rattle.wtf_healer.specs.Restored.{Grew, AreRestored, OnlyStored}
use Rattle.wtf_healer.specs.declared.entries.Restored.{Restored}
use Rattle.wtf_healer.specs.declared.regions.Healed.{Healed}
use Rattle.wtf_healer.proofs.Faulting.{single, stores_over, stores_nothing}
use Rattle.wtf_healer.proofs.Healing.{read_later, restored_since, to_heal_since}
use Rattle.wtf_healer.proofs.Placing.{are_made_later}
use Rattle.wtf_healer.proofs.Restoring.{down_same, kept_later, entries_later, grew_on, grew_none}

-- ---- a region that was read or healed, over a longer span

module _ {S : Type 0} {kind : StoreKind S} (laws : KindLaws kind) where
  restored_later : (old mid new : Dev S) → IsSoundDev kind mid → GoesOn kind mid new [] → (key : RegionKey) (es fs : List Entry) (n : ℕ)
      → AreRestored kind old mid key es fs n → AreRestored kind old new key es fs n
  restored_later old mid new sound g key es fs n h = record {
    keeps = λ tells. kept_later laws (is_down_in old) (stores old) (stores mid) (stores new) g.each es fs (h.keeps tells);
    whole = h.whole;
    within = h.within;
    inside = entries_later laws mid new sound g fs h.inside;
    bytes = h.bytes;
    made = are_made_later laws old mid new g key es fs h.made;
  }

  up_since : (old mid : Dev S) → GoesOn kind old mid [] → (s : Slice) (bytes : List ℕ) → UpTells (is_down_in old) (told_in kind old) s bytes
      → UpTells (is_down_in mid) (told_in kind mid) s bytes
  up_since old mid f s bytes h = record {
    len = h.len;
    tells = λ i below.
        All-weaker (λ (q : Place). (is_down_in old q.server ≡ true) ⊎ (told_in kind old q ≡ Some (get_or bytes i 0)))
        (λ (q : Place). (is_down_in mid q.server ≡ true) ⊎ (told_in kind mid q ≡ Some (get_or bytes i 0)))
        (λ q was. elim was [
          | inl low ↦ inl (ap (λ (d : ℕ → Bool). d q.server) (down_same laws f) ∙ low)
          | inr tells ↦ inr (tells_on laws f.each q (get_or bytes i 0) tells)
        ]) (places_of s i) (h.tells i below);
  }

  pub read_since : (old mid new : Dev S) → GoesOn kind old mid [] → (base : Option Spill) (es : List Entry) → IsBaseRead kind mid new base es
      → IsBaseRead kind old new base es
  read_since old mid new f None es h = h
  read_since old mid new f (Some s) es h = record {
    decodes = λ bytes tells. subst (λ (st : Settings). decoded st.region bytes ≡ Some es) f.settings (h.decodes bytes (up_since old mid f s.slice bytes tells));
    inside = h.inside;
  }

  pub sound_later : (old mid new : Dev S) → IsSoundDev kind mid → GoesOn kind mid new [] → (v : RegionValue) → HasNoSparse kind old mid v
      → HasNoSparse kind old new v
  sound_later old mid new sound g v h = record { under = h.under; read = read_later laws old mid new sound g v.base h.under h.read; whole = h.whole }

  pub sound_since : (old mid new : Dev S) → GoesOn kind old mid [] → (v : RegionValue) → HasNoSparse kind mid new v → HasNoSparse kind old new v
  sound_since old mid new f v h = record {
    under = h.under;
    read = read_since old mid new f v.base h.under h.read;
    whole = to_heal_since laws old mid f h.under v ∙ h.whole;
  }

  healed_later : (old mid new : Dev S) → IsSoundDev kind mid → GoesOn kind mid new [] → (key : RegionKey) (v : RegionValue) (made : Restored)
      → IsHealed kind old mid key v made → IsHealed kind old new key v made
  healed_later old mid new sound g key v made h = record {
    under = h.under;
    read = read_later laws old mid new sound g v.base h.under h.read;
    sparse = h.sparse;
    short = h.short;
    short_is = h.short_is;
    restored = restored_later old mid new sound g key h.short made.list made.bytes h.restored;
  }

  healed_since : (old mid new : Dev S) → GoesOn kind old mid [] → (key : RegionKey) (v : RegionValue) (made : Restored) → IsHealed kind mid new key v made
      → IsHealed kind old new key v made
  healed_since old mid new f key v made h = record {
    under = h.under;
    read = read_since old mid new f v.base h.under h.read;
    sparse = to_heal_since laws old mid f h.under v ∙ h.sparse;
    short = h.short;
    short_is = h.short_is;
    restored = restored_since laws old mid new f key h.short made.list made.bytes h.restored;
  }

  put_later : (old mid new : Dev S) → IsSoundDev kind mid → GoesOn kind mid new [] → (w : Map) (p : Put) → IsPutFor kind old mid w p → IsPutFor kind old new w p
  put_later old mid new sound g w p h = record {
    was = h.was;
    there = h.there;
    made = h.made;
    healed = healed_later old mid new sound g p.key h.was h.made h.healed;
    put = h.put;
  }

  put_since : (old mid new : Dev S) → GoesOn kind old mid [] → (w : Map) (p : Put) → IsPutFor kind mid new w p → IsPutFor kind old new w p
  put_since old mid new f w p h = record {
    was = h.was;
    there = h.there;
    made = h.made;
    healed = healed_since old mid new f p.key h.was h.made h.healed;
    put = h.put;
  }

-- ---- one key

pub region_is : (x : Option Value) (v : RegionValue) → region_of x ≡ Some v → x ≡ Some (value.Region v)
region_is None v e = absurd (cc)
region_is (Some (value.Node n)) v e = absurd (cc)
region_is (Some (value.Names s)) v e = absurd (cc)
region_is (Some (value.Count n)) v e = absurd (cc)
region_is (Some (value.Last r)) v e = absurd (cc)
region_is (Some (value.Region g)) v e = let same : g ≡ v = cc in ap (λ x. Some (value.Region x)) same

module _ {S : Type 0} (kind : StoreKind S) (t : Dev S × Dev S) (w : Map) where
  -- what was put in the place of a region that was healed
  pub put_at : (i : InodeId) (r : ℕ) (v : RegionValue) (made : Restored) (p : Put) (was now : Healed) → w (Region i r) ≡ Some (value.Region v)
      → IsHealed kind t.0 t.1 (record { inode = i; region = r }) v made → IsPutOf (record { inode = i; region = r }) v.end made p
      → now.changes ≡ was.changes ++ change_of p ∷ []
      → now.bytes ≡ was.bytes + made.bytes → Grew kind t.0 t.1 made.bytes → IsPutAt kind t w (Region i r) was now
  put_at i r v made p was now there healed put changes bytes grew = record {
    put = p;
    key_is = sym (ap (λ (k : RegionKey). Region k.inode k.region) put.key_is);
    for_it = record {
      was = v;
      there = ap (λ (k : RegionKey). w (Region k.inode k.region)) put.key_is ∙ there;
      made = made;
      healed = subst (λ (k : RegionKey). IsHealed kind t.0 t.1 k v made) (sym put.key_is) healed;
      put = record { key_is = refl; end_is = put.end_is; base_is = put.base_is; list_is = put.list_is; bytes_are = put.bytes_are };
    };
    changes = changes;
    bytes = bytes ∙ ap (λ n. was.bytes + n) (sym put.bytes_are);
    grew = subst (Grew kind t.0 t.1) (sym put.bytes_are) grew;
  }

-- what is put at a key has what holds of all that is put
put_of : (P : Put → Type 0) (puts : List Put) (key : RegionKey) → All P puts → Contains (map (λ (p : Put). p.key) puts) key
    → (p : Put) × (p.key ≡ key) × P p
put_of P [] key all there = absurd (omega (arith, there.1))
put_of P (p ∷ ps) key all there = elim (Contains-append_cases (p.key ∷ []) (map (λ (q : Put). q.key) ps) key there) [
  | inl here ↦ (p, single p.key key here, All-head P p ps all)
  | inr later ↦ put_of P ps key (All-tail P p ps all) later
]

key_same : (i : InodeId) (r : ℕ) (k : RegionKey) → Region i r ≡ Region k.inode k.region → record { inode = i; region = r } ≡ k
key_same i r k e =
    let a : i ≡ k.inode = cc in
    let b : r ≡ k.region = cc in
    let one : RegionKey = record { inode = i; region = r } in
    let first : one ≡ record { inode = k.inode; region = r } = ap (λ (x : InodeId). record { inode = x; region = r }) a in
    let second : record { inode = k.inode; region = r } ≡ k = ap (λ (x : ℕ). record { inode = k.inode; region = x }) b in
    first ∙ second

-- ---- all keys

-- Of the regions below a key each was looked at.
pub record Passed {S : Type 0} (kind : StoreKind S) (old mid : Dev S) (kv : Store Key Value) (at : Option Key) (h : Healed) : Type 0 where
  pub goes : GoesOn kind old mid []
  pub stores_are : OnlyStored kind (within old mid)
  pub grew : Grew kind old mid h.bytes
  pub puts : List Put
  pub changes : h.changes ≡ map change_of puts
  pub bytes : h.bytes ≡ sum_by (λ (p : Put). p.bytes) puts
  pub each : All (IsPutFor kind old mid (metadata_at kv kv.number)) puts
  pub before : All (λ (p : Put). is_before key_cmp at (Region p.key.inode p.key.region) ≡ true) puts
  pub once : AllPairs (λ (p q : Put). p.key ≢ q.key) puts
  pub others : (i : InodeId) (r : ℕ) (v : RegionValue) → metadata_at kv kv.number (Region i r) ≡ Some (value.Region v)
      → is_before key_cmp at (Region i r) ≡ true → Contains (map (λ (p : Put). p.key) puts) (record { inode = i; region = r }) ⊎ HasNoSparse kind old mid v
  pub has_version_is : IsReached key_cmp kv at

-- a key without a version shows nothing
no_versions : (vs : List (ℕ × Option Value)) (n : ℕ) → has_any vs ≡ false → value_seen (last_seen n vs) ≡ None
no_versions [] n h = refl
no_versions (v ∷ vs) n h = absurd (cc)

module _ {S : Type 0} {kind : StoreKind S} (laws : KindLaws kind) (kv : Store Key Value) where
  abbrev w : Map
  w = metadata_at kv kv.number

  unseen : (q : Key) → has_version key_cmp kv q ≡ false → w q ≡ None
  unseen q h = no_versions (versions_of key_cmp kv q) kv.number h

  less_is : (o : Ordering) → is_lt o ≡ true → o ≡ Less
  less_is Less e = refl
  less_is Equal e = absurd (cc)
  less_is Greater e = absurd (cc)

  -- what lies below the next key lies below this one, or is this one, or is nothing
  below_next : (k q : Key) (next : Option Key) → IsNextKey key_cmp kv (Some k) next → is_before key_cmp next q ≡ true → (o : Ordering) → key_cmp q k ≡ o
      → (is_lt (key_cmp q k) ≡ true) ⊎ (q ≡ k) ⊎ (w q ≡ None)
  below_next k q next is below Less e = inl (ap is_lt e)
  below_next k q next is below Equal e = inr (inl (same_key q k e))
  below_next k q next is below Greater e =
      let past : is_past key_cmp (Some k) q ≡ true = ap is_lt (key_total.antisymm k q ∙ ap ordering_reverse e) in
      inr (inr (unseen q (between key_cmp key_total same_key kv (Some k) next q is past below)))

  before_next : (k q : Key) (next : Option Key) → IsNextKey key_cmp kv (Some k) next → is_lt (key_cmp q k) ≡ true → is_before key_cmp next q ≡ true
  before_next k q None is lt = refl
  before_next k q (Some n) is lt = ap is_lt (key_total.trans q k n (less_is (key_cmp q k) lt) (less_is (key_cmp k n) is.0))

  at_next : (k : Key) (next : Option Key) → IsNextKey key_cmp kv (Some k) next → is_before key_cmp next k ≡ true
  at_next k None is = refl
  at_next k (Some n) is = is.0

  not_itself : (k : Key) → is_lt (key_cmp k k) ≡ true → ⊥
  not_itself k h = let same = tied_itself key_total k in let bad : Equal ≡ Less = sym same ∙ less_is (key_cmp k k) h in absurd (cc)

  -- before the first key nothing was looked at
  pub pass_begins : (dev : Dev S) → IsSoundDev kind dev → (next : Option Key) → IsNextKey key_cmp kv None next → (h : Healed) → h.changes ≡ [] → h.bytes ≡ 0
      → Passed kind dev dev kv next h
  pass_begins dev sound next is h changes bytes = record {
    goes = goes_nowhere laws dev sound;
    stores_are = stores_nothing kind dev;
    grew = subst (Grew kind dev dev) (sym bytes) (grew_none laws dev);
    puts = [];
    changes = changes;
    bytes = bytes;
    each = All-nil (IsPutFor kind dev dev w);
    before = All-nil (λ (p : Put). is_before key_cmp next (Region p.key.inode p.key.region) ≡ true);
    once = λ i j d less below. absurd (omega (arith, below));
    others = λ i r v has below.
        let none = unseen (Region i r) (between key_cmp key_total same_key kv None next (Region i r) is refl below) in
        let bad : None ≡ Some (value.Region v) = sym none ∙ has in absurd (cc);
    has_version_is = reached key_cmp key_total same_key kv None next is;
  }

  module _ (old mid new : Dev S) (k : Key) (next : Option Key) (is : IsNextKey key_cmp kv (Some k) next) (was now : Healed)
      (p : Passed kind old mid kv (Some k) was) (g : GoesOn kind mid new []) (more : OnlyStored kind (within mid new)) where
    sound_mid : IsSoundDev kind mid
    sound_mid = p.goes.sound

    earlier : (q : Put) → is_before key_cmp (Some k) (Region q.key.inode q.key.region) ≡ true → is_before key_cmp next (Region q.key.inode q.key.region) ≡ true
    earlier q h = before_next k (Region q.key.inode q.key.region) next is h

    pub pass_left : IsLeftAt kind (mid, new) w k was now → Passed kind old new kv next now
    pass_left h = record {
      goes = goes_on laws p.goes g;
      stores_are = stores_over laws old mid new p.goes p.stores_are more;
      grew =
          let sum : was.bytes + 0 ≡ now.bytes = omega (arith, h.bytes) in
          subst (Grew kind old new) sum (grew_on laws old mid new p.goes g was.bytes 0 p.grew h.grew);
      puts = p.puts;
      changes = h.changes ∙ p.changes;
      bytes = h.bytes ∙ p.bytes;
      each = All-weaker (IsPutFor kind old mid w) (IsPutFor kind old new w) (λ q. put_later laws old mid new sound_mid g w q) p.puts p.each;
      before = All-weaker (λ (q : Put). is_before key_cmp (Some k) (Region q.key.inode q.key.region) ≡ true)
          (λ (q : Put). is_before key_cmp next (Region q.key.inode q.key.region) ≡ true) earlier p.puts p.before;
      once = p.once;
      others = λ i r v has below. elim (below_next k (Region i r) next is below (key_cmp (Region i r) k) refl) [
        | inl lt ↦ elim (p.others i r v has lt) [ inl there ↦ inl there | inr s ↦ inr (sound_later laws old mid new sound_mid g v s) ]
        | inr rest ↦ elim rest [
          | inl same ↦ inr (sound_since laws old mid new p.goes v (h.sound i r v (sym same) (sym (ap w same) ∙ has)))
          | inr none ↦ let bad : None ≡ Some (value.Region v) = sym none ∙ has in absurd (cc)
        ]
      ];
      has_version_is = reached key_cmp key_total same_key kv (Some k) next is;
    }

    pub pass_put : IsPutAt kind (mid, new) w k was now → Passed kind old new kv next now
    pass_put h =
        let q = h.put in
        let all : List Put = p.puts ++ q ∷ [] in
        let keys : List RegionKey = map (λ (x : Put). x.key) p.puts in
        let keys_all : map (λ (x : Put). x.key) all ≡ keys ++ q.key ∷ [] = map-append (λ (x : Put). x.key) p.puts (q ∷ []) in
        record {
          goes = goes_on laws p.goes g;
          stores_are = stores_over laws old mid new p.goes p.stores_are more;
          grew = subst (Grew kind old new) (sym h.bytes) (grew_on laws old mid new p.goes g was.bytes q.bytes p.grew h.grew);
          puts = all;
          changes = h.changes ∙ ap (λ cs. cs ++ change_of q ∷ []) p.changes ∙ sym (map-append change_of p.puts (q ∷ []));
          bytes =
              let sum = sum_by-append (λ (x : Put). x.bytes) p.puts (q ∷ []) in
              let was_is = p.bytes in
              h.bytes ∙ omega (arith, sum, was_is);
          each = All-append (IsPutFor kind old new w) p.puts (q ∷ [])
              (All-weaker (IsPutFor kind old mid w) (IsPutFor kind old new w) (λ x. put_later laws old mid new sound_mid g w x) p.puts p.each)
              (All-cons (IsPutFor kind old new w) q [] (put_since laws old mid new p.goes w q h.for_it) (All-nil (IsPutFor kind old new w)));
          before = All-append (λ (x : Put). is_before key_cmp next (Region x.key.inode x.key.region) ≡ true) p.puts (q ∷ [])
              (All-weaker (λ (x : Put). is_before key_cmp (Some k) (Region x.key.inode x.key.region) ≡ true)
              (λ (x : Put). is_before key_cmp next (Region x.key.inode x.key.region) ≡ true) earlier p.puts p.before)
              (All-cons (λ (x : Put). is_before key_cmp next (Region x.key.inode x.key.region) ≡ true) q []
              (subst (λ x. is_before key_cmp next x ≡ true) h.key_is (at_next k next is))
              (All-nil (λ (x : Put). is_before key_cmp next (Region x.key.inode x.key.region) ≡ true)));
          once = all_pairs_push (λ (x y : Put). x.key ≢ y.key) p.puts q p.once (λ j d below same.
              let lt = p.before j d below in
              let place : Region (get_or p.puts j d).key.inode (get_or p.puts j d).key.region ≡ k =
              ap (λ (x : RegionKey). Region x.inode x.region) same ∙ sym h.key_is in not_itself k (subst (λ x. is_lt (key_cmp x k) ≡ true) place lt));
          others = λ i r v has below. elim (below_next k (Region i r) next is below (key_cmp (Region i r) k) refl) [
            | inl lt ↦ elim (p.others i r v has lt) [
              | inl there ↦ inl (subst (λ ks. Contains ks (record { inode = i; region = r })) (sym keys_all)
                  (Contains-append_left keys (q.key ∷ []) (record { inode = i; region = r }) there))
              | inr s ↦ inr (sound_later laws old mid new sound_mid g v s)
            ]
            | inr rest ↦ elim rest [
              | inl same ↦
                  let both : Region i r ≡ Region q.key.inode q.key.region = same ∙ h.key_is in
                  inl (subst (λ ks. Contains ks (record { inode = i; region = r })) (sym keys_all)
                  (Contains-append_right keys (q.key ∷ []) (record { inode = i; region = r }) (0, omega arith, sym (key_same i r q.key both))))
              | inr none ↦ let bad : None ≡ Some (value.Region v) = sym none ∙ has in absurd (cc)
            ]
          ];
          has_version_is = reached key_cmp key_total same_key kv (Some k) next is;
        }

    pub pass_on : IsHealedAt kind (mid, new) w k was now → Passed kind old new kv next now
    pass_on h = elim h [ inl put ↦ pass_put put | inr left ↦ pass_left left ]

  value_same : (x y : RegionValue) → Some (value.Region x) ≡ Some (value.Region y) → x ≡ y
  value_same x y e = cc

  -- of the regions below a key each is whole or was healed, also where more was done after that
  pub pass_earlier : (old mid new : Dev S) → GoesOn kind mid new [] → (k : Key) (h : Healed) → Passed kind old mid kv (Some k) h → (i : InodeId) (r : ℕ)
      (v : RegionValue) → w (Region i r) ≡ Some (value.Region v) → key_cmp (Region i r) k ≡ Less → IsDone kind old new (record { inode = i; region = r }) v
  pass_earlier old mid new g k h p i r v has less = elim (p.others i r v has (ap is_lt less)) [
    | inl there ↦
        let key : RegionKey = record { inode = i; region = r } in
        let one = put_of (IsPutFor kind old mid w) p.puts key p.each there in
        let for_it = one.2 in
        let same : for_it.was ≡ v =
        value_same for_it.was v (sym for_it.there ∙ ap (λ (x : RegionKey). w (Region x.inode x.region)) one.1 ∙ has) in
        let was = subst (λ (x : RegionKey). IsHealed kind old mid x for_it.was for_it.made) one.1 for_it.healed in
        let here = subst (λ (x : RegionValue). IsHealed kind old mid key x for_it.made) same was in
        inr (for_it.made, healed_later laws old mid new p.goes.sound g key v for_it.made here)
    | inr s ↦ inl (sound_later laws old mid new p.goes.sound g v s)
  ]

  -- behind the last key all regions were
  pub pass_ends : (old new : Dev S) (h : Healed) → Passed kind old new kv None h → AreHealed kind old new w h
  pass_ends old new h p = record {
    puts = p.puts;
    changes = p.changes;
    bytes = p.bytes;
    each = p.each;
    once = p.once;
    others = λ i r v has. p.others i r v has refl;
    grew = p.grew;
  }
