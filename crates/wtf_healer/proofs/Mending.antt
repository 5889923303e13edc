-- The maps that a pass leaves: what an image says after it, and what is left of that, stand for the tree that was left.
use Rattle.std.proofs.Common.{◌≡◌, ◌⊎◌, ℕ, Bool, true, List, map, Option, None, Some, refl, sym, ap, ◌∙◌, subst, inl, inr}
use Rattle.std.specs.Prelude.{IsSome}
use Rattle.std.specs.List.{All, Contains}
use Rattle.wtf_base.specs.declared.ids.InodeId.{InodeId}
use Rattle.wtf_model.specs.Tree.{Tree}
use Rattle.wtf_overlay.specs.Meaning.{meaning}
use Rattle.wtf_values.specs.declared.key.Key.TheVariants.{Path, Dir, Inode, Region, Links}
use Rattle.wtf_values.specs.declared.region.RegionValue.{RegionValue}
use Rattle.wtf_values.specs.declared.value.Value.{Value}
use Rattle.wtf_values.specs.declared.value.Value.TheVariants as value
use Rattle.wtf_meta.specs.Bytes.{ValueBytes, MapBytes}
use Rattle.wtf_meta.specs.Contents.{Told, is_told, is_listed, lists_in}
use Rattle.wtf_meta.specs.Files.{end_of, region_origin}
use Rattle.wtf_meta.specs.FileEdits.{IsRegion, region_of}
use Rattle.wtf_meta.specs.Lists.{Lists}
use Rattle.wtf_meta.specs.Maps.{Map, with}
use Rattle.wtf_meta.specs.Trees.{Stands}
use Rattle.wtf_meta.proofs.Telling.{TellsOn, is_told-later, is_listed-later}
use Rattle.wtf_meta.proofs.Weaker.{value_stays}
use Rattle.wtf_healer.specs.Live.{IsLiveRegion, IsLiveValue, IsLiveMap}
use Rattle.wtf_healer.specs.Regions.{Put, change_of}
use Rattle.wtf_healer.specs.Runs.{IsWholeRegion}
use Rattle.wtf_healer.specs.Sparse.{is_to_heal, sparse_bytes}
use Rattle.wtf_healer.proofs.Anew.{IsAnew, IsUnlost, anew_bytes, anew_region, anew_live, anew_whole, stays_bytes, stays_region, stays_whole, live_bytes}
use Rattle.wtf_healer.proofs.Anew.{live_region}
use Rattle.wtf_healer.proofs.Frame.{SameBodies, stands_bodies}
use Rattle.wtf_healer.proofs.Puts.{keys_of, after_puts, put_at, put_aside}
use Rattle.wtf_healer.proofs.Rereading.{live_later}

-- what is left of a region is one
pub live_is : (b : ℕ) (told : Told) (lost : ℕ → Bool) (x l : Option Value) (v : RegionValue) → x ≡ Some (value.Region v) → IsLiveValue b told lost x l
    → (u : RegionValue) × (l ≡ Some (value.Region u)) × IsLiveRegion b told lost v u
live_is b told lost x l v is h = live l (subst (λ o. IsLiveValue b told lost o l) is h)
  where
    live : (l : Option Value) → IsLiveValue b told lost (Some (value.Region v)) l
        → (u : RegionValue) × (l ≡ Some (value.Region u)) × IsLiveRegion b told lost v u
    live None h = absurd h
    live (Some (value.Node n)) h = absurd h
    live (Some (value.Names ns)) h = absurd h
    live (Some (value.Count n)) h = absurd h
    live (Some (value.Last n)) h = absurd h
    live (Some (value.Region u)) h = (u, refl, h)

-- a value that is no region is left as it is
itself_left : (b : ℕ) (told : Told) (lost : ℕ → Bool) (x : Option Value) → region_of x ≡ None → IsLiveValue b told lost x x
itself_left b told lost None h = refl
itself_left b told lost (Some (value.Node n)) h = refl
itself_left b told lost (Some (value.Names ns)) h = refl
itself_left b told lost (Some (value.Count n)) h = refl
itself_left b told lost (Some (value.Last n)) h = refl
itself_left b told lost (Some (value.Region v)) h = absurd (cc)

-- a region that is missing reads as zeros
no_bytes : (told now : Told) (lists later : Lists) (o : Option RegionValue) (y byte : ℕ) → o ≡ None → meaning told (region_origin lists o y) ≡ Some byte
    → meaning now (region_origin later o y) ≡ Some byte
no_bytes told now lists later None y byte none h = h
no_bytes told now lists later (Some v) y byte none h = absurd (cc)

-- the region of a map was healed, and this is what is put there
pub record IsAnewPut (b n : ℕ) (told now : Told) (lost : ℕ → Bool) (w : Map) (p : Put) : Type 0 where
  pub was : RegionValue
  pub there : w (Region p.key.inode p.key.region) ≡ Some (value.Region was)
  pub anew : IsAnew b n told now lost was p.value
  pub sparse : is_to_heal lost n anew.under was ≡ true
  pub bytes : p.bytes ≡ sparse_bytes lost n anew.short

-- each region was healed, or no slice of it is sparse
pub record AreMended (b n : ℕ) (told now : Told) (lost : ℕ → Bool) (w : Map) (puts : List Put) : Type 0 where
  pub each : All (IsAnewPut b n told now lost w) puts
  pub others : (i : InodeId) (r : ℕ) (v : RegionValue) → w (Region i r) ≡ Some (value.Region v)
      → Contains (keys_of puts) (record { inode = i; region = r }) ⊎ IsUnlost b n told lost v

module _ (b n : ℕ) (told now : Told) (lost : ℕ → Bool) (on : TellsOn told now) (w live : Map) (puts : List Put) (h : AreMended b n told now lost w puts)
    (left : IsLiveMap b told lost w live) where
  -- the map after the puts, and what is left of that
  abbrev v : Map
  v = with (map change_of puts) w

  abbrev kept : Map
  kept = with (map change_of puts) live

  abbrev Each : Put → Type 0
  Each p = IsAnewPut b n told now lost w p

  -- what holds of a region that was healed, of one that stays, and of each other value, holds at each key of a region
  module _ (P : Option Value → Option Value → Option Value → Option Value → Type 0)
      (anew : (was u x : RegionValue) → IsLiveRegion b told lost was u → IsAnew b n told now lost was x
      → P (Some (value.Region was)) (Some (value.Region u)) (Some (value.Region x)) (Some (value.Region x)))
      (stays : (was u : RegionValue) → IsLiveRegion b told lost was u → IsUnlost b n told lost was
      → P (Some (value.Region was)) (Some (value.Region u)) (Some (value.Region was)) (Some (value.Region u)))
      (other : (x : Option Value) → region_of x ≡ None → P x x x x) where
    stays_at : (x l : Option Value) → IsLiveValue b told lost x l → ((was : RegionValue) → x ≡ Some (value.Region was) → IsUnlost b n told lost was) → P x l x l
    stays_at None l is sound = subst (λ o. P None o None o) (sym is) (other None refl)
    stays_at (Some (value.Node k)) l is sound = subst (λ o. P (Some (value.Node k)) o (Some (value.Node k)) o) (sym is) (other (Some (value.Node k)) refl)
    stays_at (Some (value.Names k)) l is sound = subst (λ o. P (Some (value.Names k)) o (Some (value.Names k)) o) (sym is) (other (Some (value.Names k)) refl)
    stays_at (Some (value.Count n)) l is sound = subst (λ o. P (Some (value.Count n)) o (Some (value.Count n)) o) (sym is) (other (Some (value.Count n)) refl)
    stays_at (Some (value.Last k)) l is sound = subst (λ o. P (Some (value.Last k)) o (Some (value.Last k)) o) (sym is) (other (Some (value.Last k)) refl)
    stays_at (Some (value.Region was)) l is sound =
        let u = live_is b told lost (Some (value.Region was)) l was refl is in
        subst (λ o. P (Some (value.Region was)) o (Some (value.Region was)) o) (sym u.1) (stays was u.0 u.2 (sound was refl))

    -- four values are these
    four : (x l y z x' l' y' z' : Option Value) → x ≡ x' → l ≡ l' → y ≡ y' → z ≡ z' → P x' l' y' z' → P x l y z
    four x l y z x' l' y' z' ex el ey ez h =
        subst (λ o. P o l y z) (sym ex) (subst (λ o. P x' o y z) (sym el) (subst (λ o. P x' l' o z) (sym ey) (subst (P x' l' y') (sym ez) h)))

    by_key : (i : InodeId) (r : ℕ) → P (w (Region i r)) (live (Region i r)) (v (Region i r)) (kept (Region i r))
    by_key i r = elim (put_at Each (Region i r) puts h.each) [
      | inl hit ↦
          let there : w (Region i r) ≡ Some (value.Region hit.is.was) = ap w hit.at ∙ hit.is.there in
          let u = live_is b told lost (w (Region i r)) (live (Region i r)) hit.is.was there (left.regions i r) in
          four (w (Region i r)) (live (Region i r)) (v (Region i r)) (kept (Region i r))
          (Some (value.Region hit.is.was)) (Some (value.Region u.0)) (Some (value.Region hit.put.value)) (Some (value.Region hit.put.value))
          there u.1 (hit.made (w (Region i r))) (hit.made (live (Region i r))) (anew hit.is.was u.0 hit.put.value u.2 hit.is.anew)
      | inr miss ↦
          let sound : (was : RegionValue) → w (Region i r) ≡ Some (value.Region was) → IsUnlost b n told lost was = λ was is.
          elim (h.others i r was is) [
            | inl there ↦ absurd (miss.none (record { inode = i; region = r }) there refl)
            | inr unlost ↦ unlost
          ] in
          four (w (Region i r)) (live (Region i r)) (v (Region i r)) (kept (Region i r)) (w (Region i r)) (live (Region i r)) (w (Region i r))
          (live (Region i r))
          refl refl (miss.stays (w (Region i r))) (miss.stays (live (Region i r))) (stays_at (w (Region i r)) (live (Region i r)) (left.regions i r) sound)
    ]

  -- ---- other keys

  path_aside : (p : List ℕ) (o : Option Value) → after_puts puts (Path p) o ≡ o
  path_aside p o = put_aside Each (Path p) puts h.each (λ k e. absurd (cc)) o

  dir_aside : (p : List ℕ) (o : Option Value) → after_puts puts (Dir p) o ≡ o
  dir_aside p o = put_aside Each (Dir p) puts h.each (λ k e. absurd (cc)) o

  pub inode_aside : (i : InodeId) (o : Option Value) → after_puts puts (Inode i) o ≡ o
  inode_aside i o = put_aside Each (Inode i) puts h.each (λ k e. absurd (cc)) o

  count_aside : (i : InodeId) (o : Option Value) → after_puts puts (Links i) o ≡ o
  count_aside i o = put_aside Each (Links i) puts h.each (λ k e. absurd (cc)) o

  -- ---- what is left of the map after the puts

  pub mended_live : IsLiveMap b now lost v kept
  mended_live = record {
    paths = λ p. path_aside p (live (Path p)) ∙ left.paths p ∙ sym (path_aside p (w (Path p)));
    dirs = λ p. dir_aside p (live (Dir p)) ∙ left.dirs p ∙ sym (dir_aside p (w (Dir p)));
    inodes = λ i. inode_aside i (live (Inode i)) ∙ left.inodes i ∙ sym (inode_aside i (w (Inode i)));
    counts = λ i. count_aside i (live (Links i)) ∙ left.counts i ∙ sym (count_aside i (w (Links i)));
    regions = λ i r. by_key (λ x l y z. IsLiveValue b now lost y z) (λ was u x lr a. anew_live b n told now lost was u lr x a)
        (λ was u lr k. live_later b told now lost on was u lr) (λ x none. itself_left b now lost x none) i r;
  }

  -- ---- bodies

  bodies : SameBodies b told now live v
  bodies = record {
    paths = λ p. path_aside p (w (Path p)) ∙ sym (left.paths p);
    dirs = λ p. dir_aside p (w (Dir p)) ∙ sym (left.dirs p);
    inodes = λ i. inode_aside i (w (Inode i)) ∙ sym (left.inodes i);
    counts = λ i. count_aside i (w (Links i)) ∙ sym (left.counts i);
    kinds = λ i r. by_key (λ x l y z. IsRegion l → IsRegion y) (λ was u x lr a is. tt) (λ was u lr k is. tt) (λ x none is. is) i r;
    none = λ i r. by_key (λ x l y z. region_of l ≡ None → region_of y ≡ None) (λ was u x lr a no. absurd (cc)) (λ was u lr k no. absurd (cc))
        (λ x none no. no) i r;
    there = λ i r. by_key (λ x l y z. IsSome y → IsSome l) (λ was u x lr a some. refl) (λ was u lr k some. refl) (λ x none some. some) i r;
    ends = λ i r. by_key (λ x l y z. end_of (region_of y) ≡ end_of (region_of l)) (λ was u x lr a. a.end ∙ sym lr.end) (λ was u lr k. sym lr.end)
        (λ x none. refl) i r;
    bytes = λ i r y byte. by_key (λ x l m z. meaning told (region_origin (lists_in b told) (region_of l) y) ≡ Some byte
        → meaning now (region_origin (lists_in b now) (region_of m) y) ≡ Some byte)
        (λ was u x lr a. anew_bytes b n told now lost was u lr x a y byte) (λ was u lr k. stays_bytes b n told now lost on was u lr k y byte)
        (λ x none. no_bytes told now (lists_in b told) (lists_in b now) (region_of x) y byte none) i r;
  }

  live_bodies : SameBodies b told now live kept
  live_bodies = record {
    paths = λ p. path_aside p (live (Path p));
    dirs = λ p. dir_aside p (live (Dir p));
    inodes = λ i. inode_aside i (live (Inode i));
    counts = λ i. count_aside i (live (Links i));
    kinds = λ i r. by_key (λ x l y z. IsRegion l → IsRegion z) (λ was u x lr a is. tt) (λ was u lr k is. tt) (λ x none is. is) i r;
    none = λ i r. by_key (λ x l y z. region_of l ≡ None → region_of z ≡ None) (λ was u x lr a no. absurd (cc)) (λ was u lr k no. absurd (cc))
        (λ x none no. no) i r;
    there = λ i r. by_key (λ x l y z. IsSome z → IsSome l) (λ was u x lr a some. refl) (λ was u lr k some. refl) (λ x none some. some) i r;
    ends = λ i r. by_key (λ x l y z. end_of (region_of z) ≡ end_of (region_of l)) (λ was u x lr a. a.end ∙ sym lr.end) (λ was u lr k. refl)
        (λ x none. refl) i r;
    bytes = λ i r y byte. by_key (λ x l m z. meaning told (region_origin (lists_in b told) (region_of l) y) ≡ Some byte
        → meaning now (region_origin (lists_in b now) (region_of z) y) ≡ Some byte)
        (λ was u x lr a. anew_bytes b n told now lost was u lr x a y byte) (λ was u lr k. live_bytes b n told now lost on was u lr k y byte)
        (λ x none. no_bytes told now (lists_in b told) (lists_in b now) (region_of x) y byte none) i r;
  }

  -- ---- bytes

  abbrev Was : Option Value → Type 0
  Was o = ValueBytes (is_told told) (is_listed b told) o

  abbrev Is : Option Value → Type 0
  Is o = ValueBytes (is_told now) (is_listed b now) o

  bytes_on : (o : Option Value) → Was o → Is o
  bytes_on o k = value_stays (is_told told) (is_told now) (λ ps. is_told-later told now ps on) (is_listed b told) (is_listed b now)
      (λ s. is_listed-later told now b s on) o k

  map_bytes : MapBytes (is_told told) (is_listed b told) live → MapBytes (is_told now) (is_listed b now) v
  map_bytes k (Path p) = subst Is (left.paths p ∙ sym (path_aside p (w (Path p)))) (bytes_on (live (Path p)) (k (Path p)))
  map_bytes k (Dir p) = subst Is (left.dirs p ∙ sym (dir_aside p (w (Dir p)))) (bytes_on (live (Dir p)) (k (Dir p)))
  map_bytes k (Inode i) = subst Is (left.inodes i ∙ sym (inode_aside i (w (Inode i)))) (bytes_on (live (Inode i)) (k (Inode i)))
  map_bytes k (Links i) = subst Is (left.counts i ∙ sym (count_aside i (w (Links i)))) (bytes_on (live (Links i)) (k (Links i)))
  map_bytes k (Region i r) = by_key (λ x l y z. Was l → Is y) (λ was u x lr a. anew_region b n told now lost was u lr x a)
      (λ was u lr un. stays_region b n told now lost on was u lr un) (λ x none. bytes_on x) i r (k (Region i r))

  live_map_bytes : MapBytes (is_told told) (is_listed b told) live → MapBytes (is_told now) (is_listed b now) kept
  live_map_bytes k (Path p) = subst Is (sym (path_aside p (live (Path p)))) (bytes_on (live (Path p)) (k (Path p)))
  live_map_bytes k (Dir p) = subst Is (sym (dir_aside p (live (Dir p)))) (bytes_on (live (Dir p)) (k (Dir p)))
  live_map_bytes k (Inode i) = subst Is (sym (inode_aside i (live (Inode i)))) (bytes_on (live (Inode i)) (k (Inode i)))
  live_map_bytes k (Links i) = subst Is (sym (count_aside i (live (Links i)))) (bytes_on (live (Links i)) (k (Links i)))
  live_map_bytes k (Region i r) = by_key (λ x l y z. Was l → Is z) (λ was u x lr a. anew_region b n told now lost was u lr x a)
      (λ was u lr un. live_region b n told now lost on was u lr un) (λ x none. bytes_on x) i r (k (Region i r))

  -- ---- the trees

  -- the map after the puts stands for the tree
  pub mended_stands : (tx k : ℕ) (t : Tree) → Stands b told tx k live t → Stands b now tx k v t
  mended_stands tx k t st = stands_bodies b told now live v bodies tx k t (map_bytes st.bytes) st

  -- and so does what is left of it
  pub mended_live_stands : (tx k : ℕ) (t : Tree) → Stands b told tx k live t → Stands b now tx k kept t
  mended_live_stands tx k t st = stands_bodies b told now live kept live_bodies tx k t (live_map_bytes st.bytes) st

  -- no slice of it is sparse
  pub mended_whole : (i : InodeId) (r : ℕ) (x : RegionValue) → v (Region i r) ≡ Some (value.Region x) → IsWholeRegion b n now lost x
  mended_whole i r x is = by_key (λ o l y z. (x : RegionValue) → y ≡ Some (value.Region x) → IsWholeRegion b n now lost x)
      (λ was u g lr a x e. let same : g ≡ x = cc in subst (IsWholeRegion b n now lost) same (anew_whole b n told now lost was g a))
      (λ was u lr k x e. let same : was ≡ x = cc in subst (IsWholeRegion b n now lost) same (stays_whole b n told now lost on was u lr k))
      (λ o none x e. let bad : None ≡ Some x = sym none ∙ ap region_of e in absurd (cc)) i r x is
