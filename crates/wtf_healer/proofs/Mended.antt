-- What a whole pass leaves: the image of the tree that was left, of which no slice is sparse.
use Rattle.std.proofs.Common.{◌≡◌, ◌≢◌, ℕ, ◌+◌, ◌*◌, ◌<◌, ◌≤◌, ◌||◌, Bool, List, [], ◌∷◌, length, get_or, map, Option, None, Some, refl, sym, ap, ◌∙◌, subst}
use Rattle.std.proofs.Common.{arith, inl, inr}
use Rattle.std.specs.List.{All, AllPairs, Contains, list_all, sum_by}
use Rattle.std.specs.Option.{option_map}
use Rattle.std.proofs.lemmas.Bool.{or_parts}
use Rattle.std.proofs.lemmas.List.{length-map, get_or-map}
use Rattle.std.proofs.lemmas.List.Elements.{All-weaker, All-map}
use Rattle.std.proofs.lemmas.List.Folds.{fold-map}
use Rattle.wtf_base.specs.declared.ids.InodeId.{InodeId}
use Rattle.wtf_base.specs.declared.settings.Settings.{Settings}
use Rattle.wtf_base.specs.Places.{Place}
use Rattle.wtf_base.proofs.Elements.{element}
use Rattle.wtf_dev.specs.Each.{EachFollows}
use Rattle.wtf_dev.specs.Store.{StoreKind, KindLaws}
use Rattle.wtf_dev.specs.Sums.{all_stored}
use Rattle.wtf_overlay.specs.declared.part.Entry.{Entry}
use Rattle.wtf_replica.specs.Bytes.{byte_at}
use Rattle.wtf_replica.specs.Inside.{size_in}
use Rattle.wtf_replica.specs.Outs.{HasRisen, SameLengths}
use Rattle.wtf_replica.proofs.Spans.{each_kept, risen_on, same_lengths-stored}
use Rattle.wtf_values.specs.declared.key.Key.{Key}
use Rattle.wtf_values.specs.declared.key.Key.TheVariants.{Region}
use Rattle.wtf_values.specs.declared.region.RegionValue.{RegionValue}
use Rattle.wtf_values.specs.declared.region.Spill.{Spill}
use Rattle.wtf_values.specs.declared.value.Value.{Value}
use Rattle.wtf_values.specs.declared.value.Value.TheVariants as value
use Rattle.wtf_meta.specs.Bytes.{EntryBytes, BaseBytes, ValueBytes, any_slice}
use Rattle.wtf_meta.specs.Contents.{Told}
use Rattle.wtf_meta.specs.Maps.{Map, with}
use Rattle.wtf_meta.proofs.Telling.{TellsOn}
use Rattle.wtf_meta.proofs.Weaker.{entries_stay}
use Rattle.wtf_image.specs.Images.{HasText}
use Rattle.wtf_image.specs.Lookups.{plain, row_at}
use Rattle.wtf_image.specs.Rows.{ImageRows}
use Rattle.wtf_region.specs.declared.cache.RegionKey.{RegionKey}
use Rattle.wtf_region.specs.declared.dev.Dev.{Dev}
use Rattle.wtf_region.specs.Devs.{GoesOn, stores, is_down_in, told_in}
use Rattle.wtf_region.proofs.Frames.{tells_on}
use Rattle.wtf_healer.specs.Bases.{IsBaseRead, is_place_left, inside_left}
use Rattle.wtf_healer.specs.Live.{IsLiveMap}
use Rattle.wtf_healer.specs.Regions.{CanHeal, IsPutFor, HasNoSparse, AreHealed, Put, change_of}
use Rattle.wtf_healer.specs.Restored.{TellUp, AreKept}
use Rattle.wtf_healer.specs.Runs.{IsWholeRegion, Work, IsWork, AreToHeal}
use Rattle.wtf_healer.specs.Sparse.{is_sparse_base, has_sparse}
use Rattle.wtf_healer.specs.declared.regions.Healed.{Healed}
use Rattle.wtf_healer.proofs.Anew.{IsUnlost}
use Rattle.wtf_healer.proofs.Inward.{sizes_grow, filed, list_inward, region_inward}
use Rattle.wtf_healer.proofs.Mending.{IsAnewPut, AreMended, live_is}
use Rattle.wtf_image.proofs.Pointing.{are_in}
use Rattle.wtf_healer.proofs.Puts.{keys_of, put_at}
use Rattle.wtf_healer.proofs.Rereading.{IsReadAs, under_is}
use Rattle.wtf_healer.proofs.Restoring.{down_same, kept_later}
use Rattle.wtf_healer.proofs.Unlost.{are_filed}

pub read_as : {S : Type 0} (kind : StoreKind S) (before after : Dev S) (base : Option Spill) (es : List Entry) → IsBaseRead kind before after base es
    → IsReadAs before.settings.region (told_in kind before) (is_down_in before) base es
read_as kind before after None es h = h
read_as kind before after (Some s) es h = h.decodes

abbrev work_of : Put → Work
work_of p = record { key = p.key; bytes = p.bytes }

module _ {S : Type 0} {kind : StoreKind S} (laws : KindLaws kind) (before after : Dev S) (new : List S) (goes : GoesOn kind before after [])
    (follows : EachFollows kind (stores after) new []) (w : Map) (made : Healed) (h : AreHealed kind before after w made) where
  abbrev b : ℕ
  b = before.settings.region

  abbrev n : ℕ
  n = before.settings.replicas

  abbrev told : Told
  told = told_in kind before

  abbrev later : Told
  later = byte_at kind new

  abbrev lost : ℕ → Bool
  lost = is_down_in before

  -- the map after the puts
  abbrev pub healed_map : Map
  healed_map = with (map change_of h.puts) w

  pub later_on : TellsOn told later
  later_on p byte is = tells_on laws follows p byte (tells_on laws goes.each p byte is)

  -- ---- regions

  left_after : (es : List Entry) → All (EntryBytes (inside_left kind after)) es
      → All (EntryBytes (λ qs. list_all (is_place_left kind (stores after) before.settings lost) qs)) es
  left_after es inside =
      subst (λ (down : ℕ → Bool). All (EntryBytes (λ qs. list_all (is_place_left kind (stores after) before.settings down) qs)) es) (down_same laws goes)
      (subst (λ (st : Settings). All (EntryBytes (λ qs. list_all (is_place_left kind (stores after) st (is_down_in after)) qs)) es) goes.settings inside)

  anew_put : TellUp kind lost (stores before) → (p : Put) → IsPutFor kind before after w p → IsAnewPut b n told later lost w p
  anew_put tells p f =
      let r = f.healed.restored in
      let list : f.made.list ≡ p.value.list = sym f.put.list_is in
      record {
        was = f.was;
        there = f.there;
        anew = record {
          under = f.healed.under;
          read = read_as kind before after f.was.base f.healed.under f.healed.read;
          short = f.healed.short;
          short_is = f.healed.short_is;
          kept = subst (AreKept lost told later f.healed.short) list
              (kept_later laws lost (stores before) (stores after) new follows f.healed.short f.made.list (r.keeps tells));
          whole = ap (has_sparse lost n) (sym list) ∙ r.whole;
          filed = subst (All (EntryBytes are_filed)) list
              (entries_stay (λ qs. list_all (is_place_left kind (stores after) before.settings lost) qs) are_filed
              (filed kind (stores after) before.settings lost) f.made.list
              (left_after f.made.list r.inside));
          end = f.put.end_is;
          base = f.put.base_is;
        };
        sparse = f.healed.sparse;
        bytes = f.put.bytes_are ∙ r.bytes;
      }

  unlost : (v : RegionValue) → HasNoSparse kind before after v → IsUnlost b n told lost v
  unlost v s = record { under = s.under; read = read_as kind before after v.base s.under s.read; whole = s.whole }

  pub mended : TellUp kind lost (stores before) → AreMended b n told later lost w h.puts
  mended tells = record {
    each = All-weaker (IsPutFor kind before after w) (IsAnewPut b n told later lost w) (anew_put tells) h.puts h.each;
    others = λ i r v is. elim (h.others i r v is) [ inl there ↦ inl there | inr sound ↦ inr (unlost v sound) ];
  }

  -- ---- all bytes of the map after the puts lie inside the stores

  abbrev In : List Place → Bool
  In = are_in before.settings.servers (size_in kind new)

  abbrev Inside : Option Value → Type 0
  Inside o = ValueBytes In any_slice o

  -- what is put lies inside
  pub record PutInside (p : Put) : Type 0 where
    pub base : p.value.base ≡ None
    pub entries : All (EntryBytes In) p.value.list

  put_inside : (p : Put) → IsPutFor kind before after w p → PutInside p
  put_inside p f = record {
    base = f.put.base_is;
    entries = subst (All (EntryBytes In)) (sym f.put.list_is)
        (list_inward kind (stores after) before.settings lost (size_in kind new) (sizes_grow laws follows) n f.made.list f.healed.restored.whole
        (left_after f.made.list f.healed.restored.inside));
  }

  grown : (k f : ℕ) → size_in kind (stores before) k f ≤ size_in kind new k f
  grown k f = let one = sizes_grow laws goes.each k f in let two = sizes_grow laws follows k f in omega (arith, one, two)

  stays_inside : (o : Option Value) → ValueBytes (inside_left kind before) any_slice o
      → ((v : RegionValue) → o ≡ Some (value.Region v) → HasNoSparse kind before after v)
      → Inside o
  stays_inside None k sound = tt
  stays_inside (Some (value.Node x)) k sound = tt
  stays_inside (Some (value.Names x)) k sound = tt
  stays_inside (Some (value.Count n)) k sound = tt
  stays_inside (Some (value.Last x)) k sound = tt
  stays_inside (Some (value.Region v)) k sound =
      let s = sound v refl in
      let one = or_parts (is_sparse_base lost n v.base || has_sparse lost n s.under) (has_sparse lost n v.list) s.whole in
      let two = or_parts (is_sparse_base lost n v.base) (has_sparse lost n s.under) one.0 in
      region_inward kind (stores before) before.settings lost (size_in kind new) grown n v two.0 one.1 k

  -- each region of the map after the puts lies inside
  pub region_inside : CanHeal kind before w → (i : InodeId) (r : ℕ) → Inside (healed_map (Region i r))
  region_inside can i r = elim (put_at PutInside (Region i r) h.puts (All-weaker (IsPutFor kind before after w) PutInside put_inside h.puts h.each)) [
    | inl hit ↦ subst Inside (sym (hit.made (w (Region i r))))
        (record { base = subst (BaseBytes In any_slice) (sym hit.is.base) tt; entries = hit.is.entries })
    | inr miss ↦ subst Inside (sym (miss.stays (w (Region i r))))
        (stays_inside (w (Region i r)) (can.inside (Region i r)) (λ v is. elim (h.others i r v is) [
          | inl there ↦ absurd (miss.none (record { inode = i; region = r }) there refl)
          | inr sound ↦ sound
        ]))
  ]

  -- ---- what was to be healed

  module _ (live : Map) (left : IsLiveMap b told lost w live) where
    work_is : TellUp kind lost (stores before) → (p : Put) → IsPutFor kind before after w p → IsWork b n told lost w (work_of p)
    work_is tells p f =
        let m = anew_put tells p f in
        let u = live_is b told lost (w (Region p.key.inode p.key.region)) (live (Region p.key.inode p.key.region)) f.was f.there
        (left.regions p.key.inode p.key.region) in
        record {
          was = f.was;
          there = f.there;
          under = f.healed.under;
          under_is = under_is b told lost f.was.base u.2.under f.healed.under u.2.base_is (read_as kind before after f.was.base f.healed.under f.healed.read);
          sparse = f.healed.sparse;
          short = f.healed.short;
          short_is = f.healed.short_is;
          bytes_are = f.put.bytes_are ∙ f.healed.restored.bytes;
        }

    whole_is : (i : InodeId) (r : ℕ) (v : RegionValue) → w (Region i r) ≡ Some (value.Region v) → HasNoSparse kind before after v
        → IsWholeRegion b n told lost v
    whole_is i r v is s =
        let u = live_is b told lost (w (Region i r)) (live (Region i r)) v is (left.regions i r) in
        record {
          under = s.under;
          under_is = under_is b told lost v.base u.2.under s.under u.2.base_is (read_as kind before after v.base s.under s.read);
          whole = s.whole;
        }

    abbrev works : List Work
    works = map work_of h.puts

    works_keys : map (λ (x : Work). x.key) works ≡ keys_of h.puts
    works_keys = map_of h.puts
      where
        map_of : (ps : List Put) → map (λ (x : Work). x.key) (map work_of ps) ≡ keys_of ps
        map_of [] = refl
        map_of (p ∷ ps) = ap (λ (ks : List RegionKey). p.key ∷ ks) (map_of ps)

    works_each : TellUp kind lost (stores before) → All (IsWork b n told lost w) works
    works_each tells = All-map (IsWork b n told lost w) work_of h.puts
        (All-weaker (IsPutFor kind before after w) (λ (p : Put). IsWork b n told lost w (work_of p)) (work_is tells) h.puts h.each)

    works_once : AllPairs (λ (x y : Work). x.key ≢ y.key) works
    works_once i j d less below same =
        let long : length works ≡ length h.puts = length-map h.puts work_of in
        let second : j < length h.puts = omega (arith, below, long) in
        let first : i < length h.puts = omega (arith, less, second) in
        let e = element h.puts j second in
        let one : get_or works i d ≡ work_of (get_or h.puts i e) = get_or-map work_of h.puts i e d first in
        let two : get_or works j d ≡ work_of (get_or h.puts j e) = get_or-map work_of h.puts j e d second in
        h.once i j e less second (sym (ap (λ (x : Work). x.key) one) ∙ same ∙ ap (λ (x : Work). x.key) two)

    works_bytes : sum_by (λ (p : Put). p.bytes) h.puts ≡ sum_by (λ (x : Work). x.bytes) works
    works_bytes = sym (fold-map (λ (a : ℕ) (x : Work). a + x.bytes) work_of 0 h.puts)

    -- the regions that were healed are those that were to be
    pub to_heal : TellUp kind lost (stores before) → (bytes : List ℕ) (x : ImageRows) → HasText x bytes
        → ((q : Key) → option_map plain (w q) ≡ row_at x q) → x.header.region ≡ b → x.header.replicas ≡ n
        → AreToHeal told lost bytes (length made.changes) made.bytes
    to_heal tells bytes x text says region copies = record {
      rows = x;
      map_is = w;
      text = text;
      says = says;
      work = works;
      each = subst (λ k. All (IsWork x.header.region k told lost w) works) (sym copies)
          (subst (λ k. All (IsWork k n told lost w) works) (sym region) (works_each tells));
      once = works_once;
      others = λ i r v is. elim (h.others i r v is) [
        | inl there ↦ inl (subst (λ ks. Contains ks (record { inode = i; region = r })) (sym works_keys) there)
        | inr sound ↦ inr (subst (λ k. IsWholeRegion x.header.region k told lost v) (sym copies)
            (subst (λ k. IsWholeRegion k n told lost v) (sym region) (whole_is i r v is sound)))
      ];
      regions_are = ap length h.changes ∙ length-map h.puts change_of ∙ sym (length-map h.puts work_of);
      anew_is = h.bytes ∙ works_bytes;
    }

  -- ---- what the stores grew by
  pub healed_grew : SameLengths kind (stores after) new → ((k : ℕ) → HasRisen kind (stores before) new k → ⊥)
      → all_stored kind new ≡ all_stored kind (stores before) + n * made.bytes
  healed_grew lengths none =
      let grew = h.grew (λ k rise. none k (risen_on kind (stores before) (stores after) new goes.each.same_length (each_kept laws follows) k rise)) in
      same_lengths-stored kind (stores after) new follows.same_length lengths ∙ grew
