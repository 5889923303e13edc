-- Entries that are stored anew: what they keep, and how much the stores grow by them.
use Rattle.std.proofs.Common.{◌≡◌, ℕ, ◌+◌, ◌*◌, ◌<◌, ◌≤◌, ◌++◌, ◌&&◌, ◌||◌, Bool, true, false, nat_lt, cond, List, [], ◌∷◌, length, get_or, map, Some, Result}
use Rattle.std.proofs.Common.{Ok, Err, refl, sym, ap, ◌∙◌, subst, arith, inl, inr, add_assoc}
use Rattle.std.specs.Prelude.{not, IfOk}
use Rattle.std.proofs.Math.Nat.{mul-add}
use Rattle.std.specs.List.{All, filter, list_all}
use Rattle.std.proofs.lemmas.Bool.{false≢true, and_parts, and_from, or_cases, or_from, or_left, or_right, ltb-true, lt-ltb, le-ltb}
use Rattle.std.proofs.lemmas.List.Elements.{All-nil, All-cons, All-head, All-tail, All-weaker, All-append}
use Rattle.std.proofs.lemmas.List.Folds.{list_any_none, list_any-append}
use Rattle.wtf_base.specs.declared.pointer.Pointer.{Pointer}
use Rattle.wtf_base.specs.declared.settings.Settings.{Settings}
use Rattle.wtf_base.specs.declared.slice.Slice.{Slice}
use Rattle.wtf_base.specs.declared.slice.Extents.{Extents}
use Rattle.wtf_base.specs.declared.slice.Extents.TheVariants.{One, Two, Three}
use Rattle.wtf_base.specs.Extents.{pointers_to}
use Rattle.wtf_base.specs.Slices.{pointers_of}
use Rattle.wtf_base.specs.Places.{Place, place_in, places_of}
use Rattle.wtf_base.proofs.Elements.{element}
use Rattle.wtf_dev.specs.Store.{StoreKind, KindLaws}
use Rattle.wtf_dev.specs.Each.{EachFollows}
use Rattle.wtf_dev.specs.Sums.{all_stored}
use Rattle.wtf_overlay.specs.declared.part.Part.{Part}
use Rattle.wtf_overlay.specs.declared.part.Part.TheVariants.{Held}
use Rattle.wtf_overlay.specs.declared.part.Entry.{Entry}
use Rattle.wtf_overlay.specs.Clips.{Within}
use Rattle.wtf_overlay.specs.Meaning.{meaning}
use Rattle.wtf_overlay.specs.Origin.{part_origin}
use Rattle.wtf_overlay.proofs.Meanings.{meaning-All}
use Rattle.wtf_replica.specs.Bytes.{byte_at}
use Rattle.wtf_replica.specs.Copies.{IsInside, IsStored}
use Rattle.wtf_replica.specs.Downs.{is_down}
use Rattle.wtf_replica.specs.Inside.{size_in}
use Rattle.wtf_replica.proofs.Bytes.{byte_at-told}
use Rattle.wtf_replica.proofs.InsideLaws.{size_in-at}
use Rattle.wtf_replica.proofs.Spans.{each_kept, risen_since, risen_on, same_lengths-stored}
use Rattle.wtf_ring.specs.Points.{PlaceView}
use Rattle.wtf_meta.specs.Bytes.{EntryBytes}
use Rattle.wtf_meta.specs.Contents.{Told}
use Rattle.wtf_meta.proofs.Telling.{TellsOn, meaning_later}
use Rattle.wtf_region.specs.declared.cache.RegionKey.{RegionKey}
use Rattle.wtf_region.specs.declared.dev.Dev.{Dev}
use Rattle.wtf_region.specs.Devs.{IsSoundDev, GoesOn, stores, is_down_in, told_in, between}
use Rattle.wtf_region.specs.Inside.{is_place_inside, is_inside, IsOnServers}
use Rattle.wtf_region.specs.Showing.{OnlyRead}
use Rattle.wtf_region.proofs.Frames.{tells_on}
use Rattle.wtf_region.proofs.InsideLaws.{place_from, slice_inside}
use Rattle.wtf_region.proofs.Spans.{goes_nowhere}
use Rattle.wtf_region.specs.Showing.{meaning_up, told_by_some, ShownLive}
use Rattle.wtf_healer.specs.Bases.{is_place_left, inside_left}
use Rattle.wtf_healer.specs.Sparse.{has_lost, is_sparse_part, has_sparse, sparse_bytes}
use Rattle.wtf_healer.specs.Restored.{TellUp, KeepsToldBytes, AreKept, Grew, place_for, IsStoredFor, AreMadeOf, IsRestored, AreRestored}
use Rattle.wtf_healer.proofs.Placing.{place_same, made_since, are_made_later, made_push}

-- ---- bytes that copies on servers that are up tell

some_on : (told later : Told) → TellsOn told later → (qs : List Place) (b : ℕ) → told_by_some told qs ≡ Some b → told_by_some later qs ≡ Some b
some_on told later on [] b h = absurd (cc)
some_on told later on (q ∷ qs) b h = meaning_later told later (q ∷ qs) b on h

-- what they tell they tell later
pub meaning_up-on : (down : ℕ → Bool) (told later : Told) → TellsOn told later → (qs : List Place) (b : ℕ) → meaning_up down told qs ≡ Some b
    → meaning_up down later qs ≡ Some b
meaning_up-on down told later on [] b h = h
meaning_up-on down told later on (q ∷ qs) b h = some_on told later on (filter (λ (p : Place). not (down p.server)) (q ∷ qs)) b h

-- ---- how many bytes are stored anew

pub sparse_bytes-append : (down : ℕ → Bool) (n : ℕ) (es fs : List Entry) → sparse_bytes down n (es ++ fs) ≡ sparse_bytes down n es + sparse_bytes down n fs
sparse_bytes-append down n [] fs = omega arith
sparse_bytes-append down n (e ∷ es) fs =
    let rest = sparse_bytes-append down n es fs in
    let here : ℕ = cond (is_sparse_part down n e.part) e.len 0 in
    let sum : here + sparse_bytes down n (es ++ fs) ≡ (here + sparse_bytes down n es) + sparse_bytes down n fs = omega (arith, rest) in sum

-- ---- one entry

pub copies_of : (n : ℕ) (e : Extents) → 0 < length (pointers_to n e)
copies_of n (One a) = omega arith
copies_of n (Two a b) = omega arith
copies_of n (Three a b c) = omega arith

meaning_some : (told : Told) (i b : ℕ) (ps : List Pointer) → 0 < length ps → All (λ (p : Pointer). told (place_in i p) ≡ Some b) ps
    → meaning told (map (place_in i) ps) ≡ Some b
meaning_some told i b [] some h = absurd (omega (arith, some))
meaning_some told i b (p ∷ ps) some h = meaning-All told (place_in i p) (map (place_in i) ps) b (mapped (p ∷ ps) h)
  where
    mapped : (qs : List Pointer) → All (λ (q : Pointer). told (place_in i q) ≡ Some b) qs → All (λ (q : Place). told q ≡ Some b) (map (place_in i) qs)
    mapped [] all = All-nil (λ (q : Place). told q ≡ Some b)
    mapped (q ∷ qs) all = All-cons (λ (x : Place). told x ≡ Some b) (place_in i q) (map (place_in i) qs)
        (All-head (λ (x : Pointer). told (place_in i x) ≡ Some b) q qs all) (mapped qs (All-tail (λ (x : Pointer). told (place_in i x) ≡ Some b) q qs all))

inside_is_left : {S : Type 0} (kind : StoreKind S) (shelf : List S) (settings : Settings) (down : ℕ → Bool) → settings.servers ≤ length shelf
    → (qs : List Place) → is_inside kind shelf settings qs ≡ true → list_all (is_place_left kind shelf settings down) qs ≡ true
inside_is_left kind shelf settings down enough [] h = refl
inside_is_left kind shelf settings down enough (q ∷ qs) h =
    let both = and_parts (is_place_inside kind shelf settings q) (is_inside kind shelf settings qs) h in
    let at = place_from kind shelf settings q enough both.0 in
    let size : ℕ = size_in kind shelf q.server q.file in
    let d = element shelf q.server at.1.0 in
    let fits : q.at < size = omega (arith, at.1.2 d, size_in-at kind shelf q.server q.file d at.1.0) in
    and_from (is_place_left kind shelf settings down q) (list_all (is_place_left kind shelf settings down) qs)
    (and_from (nat_lt q.server settings.servers) (nat_lt q.file 8 && (down q.server || nat_lt q.at size)) (lt-ltb q.server settings.servers at.0)
    (and_from (nat_lt q.file 8) (down q.server || nat_lt q.at size) (lt-ltb q.file 8 at.1.1)
    (or_right (down q.server) (nat_lt q.at size) (lt-ltb q.at size fits))))
    (inside_is_left kind shelf settings down enough qs both.1)

pub All-append_parts : {X : Type 0} (P : X → Type 0) (xs ys : List X) → All P (xs ++ ys) → All P xs × All P ys
All-append_parts P [] ys h = (All-nil P, h)
All-append_parts P (x ∷ xs) ys h =
    let rest = All-append_parts P xs ys (All-tail P x (xs ++ ys) h) in (All-cons P x xs (All-head P x (xs ++ ys) h) rest.0, rest.1)

kept_push : (down : ℕ → Bool) (told now : Told) (es fs : List Entry) (e f : Entry) → AreKept down told now es fs → KeepsToldBytes down told now e f
    → AreKept down told now (es ++ e ∷ []) (fs ++ f ∷ [])
kept_push down told now [] [] e f h one = (one, tt)
kept_push down told now (x ∷ es) (y ∷ fs) e f h one = (h.0, kept_push down told now es fs e f h.1 one)
kept_push down told now [] (y ∷ fs) e f h one = absurd h
kept_push down told now (x ∷ es) [] e f h one = absurd h

module _ {S : Type 0} {kind : StoreKind S} (laws : KindLaws kind) where
  pub tell_up-later : (down : ℕ → Bool) (old new : List S) → EachFollows kind old new [] → TellUp kind down old → TellUp kind down new
  tell_up-later down old new e h k d below up =
      let was : k < length old = omega (arith, below, e.same_length) in (laws.keeps _ _ [] (e.each k d was)).tells ∙ h k d was up

  -- the same servers are down
  pub down_same : {old new : Dev S} → GoesOn kind old new [] → is_down_in new ≡ is_down_in old
  down_same g = ap (λ r. is_down r.now) g.replicas

  -- bytes that were read of an entry and stored stand for it
  pub stored_for : (old mid new : Dev S) → GoesOn kind old mid [] → OnlyRead kind (between old mid) → GoesOn kind mid new [] → (key : RegionKey)
      (e : Entry) (v : List ℕ) → ShownLive (is_down_in old) (told_in kind old) e.len (part_origin e.part) [] v
      → (s : Slice) → IsStored kind (between mid new) mid.settings.replicas (place_for mid key e) v s → IsInside kind (stores new) s
      → IsOnServers mid.settings.servers s
      → IsStoredFor kind old new key e s
  stored_for old mid new f r g key e v live s stored inside known =
      let len : length v ≡ e.len = ap length live.more ∙ live.are.len in
      let down : is_down_in mid ≡ is_down_in old = down_same f in
      let low : (k : ℕ) → is_down_in mid k ≡ false → is_down_in old k ≡ false = λ k h. sym (ap (λ d. d k) down) ∙ h in
      record {
        len = stored.len ∙ len;
        keeps = λ tells i b below h.
            let now = tell_up-later (is_down_in old) (stores old) (stores mid) f.each tells in
            let byte : get_or v i 0 ≡ b = ap (λ (x : List ℕ). get_or x i 0) live.more ∙ live.are.shows i b below h
            in meaning_some (told_in kind new) i b (pointers_of s) (copies_of s.len s.extents) (λ k d within.
            let p : Pointer = get_or (pointers_of s) k d in
            let c = stored.copies k d within in
            let x : S = element (stores mid) p.server.0 c.server in
            let later : p.server.0 < length (stores new) = omega (arith, c.server, g.each.same_length) in
            byte_at-told kind (stores new) (place_in i p) x later
            ∙ subst (λ (n : ℕ). (kind.view (get_or (stores new) p.server.0 x)).told n (p.at + i) ≡ Some (get_or v i 0)) (sym c.file)
            (c.holds x (now p.server.0 x c.server (low p.server.0 c.up)) i (omega (arith, below, len)))
            ∙ ap Some byte);
        whole =
            let width : length (pointers_of s) ≡ old.settings.replicas = stored.width ∙ ap (λ (st : Settings). st.replicas) f.settings in
            or_from (nat_lt (length (pointers_of s)) old.settings.replicas) (has_lost (is_down_in old) (pointers_of s))
            (le-ltb (length (pointers_of s)) old.settings.replicas (omega (arith, width)))
            (list_any_none (λ (p : Pointer). is_down_in old p.server.0) (pointers_of s)
            (λ k d within. low (get_or (pointers_of s) k d).server.0 (stored.copies k d within).up));
        inside = λ i below.
            let on : IsOnServers new.settings.servers s = subst (λ (st : Settings). IsOnServers st.servers s) (sym g.settings) known in
            inside_is_left kind (stores new) new.settings (is_down_in new) g.sound.shelf (places_of s i)
            (slice_inside kind (stores new) new.settings s inside on i below);
        grew = λ none.
            let total = stored.total (λ k rise. none k (risen_since kind (stores old) (stores mid) (stores new) f.each.same_length
            (each_kept laws f.each) k rise)) in
            let before = same_lengths-stored kind (stores old) (stores mid) f.each.same_length r.lengths in
            total ∙ ap (λ n. n + mid.settings.replicas * length v) before
            ∙ ap (λ n. all_stored kind (stores old) + n * length v) (ap (λ (st : Settings). st.replicas) f.settings)
            ∙ ap (λ n. all_stored kind (stores old) + old.settings.replicas * n) len;
        place = record {
          before = mid;
          after = new;
          since = f;
          goes = g;
          until = goes_nowhere laws new g.sound;
          bytes = v;
          stored = subst (λ (p : PlaceView). IsStored kind (between mid new) mid.settings.replicas p v s) (place_same f key e) stored;
        };
      }

  -- so an entry of it stands for the one that was sparse
  pub restored_of : (old new : Dev S) (key : RegionKey) (e x : Entry) (s : Slice) → is_sparse_part (is_down_in old) old.settings.replicas e.part ≡ true
      → IsStoredFor kind old new key e s → x.off ≡ e.off → x.len ≡ e.len → x.part ≡ Held s → IsRestored kind old new key e x
  restored_of old new key e x s sparse h off len part = record {
    placed = record { off = off; len = len };
    keeps = λ tells. record {
      placed = record { off = off; len = len };
      bytes = λ i b below up. ap (λ (p : Part). meaning (told_in kind new) (part_origin p i)) part ∙ h.keeps tells i b below up;
    };
    whole = ap (is_sparse_part (is_down_in old) old.settings.replicas) part ∙ h.whole;
    inside = λ i below. ap (λ (p : Part). inside_left kind new (part_origin p i)) part ∙ h.inside i (omega (arith, below, len, h.len));
    grew =
        let all : sparse_bytes (is_down_in old) old.settings.replicas (e ∷ []) ≡ e.len + 0 = ap (λ b. cond b e.len 0 + 0) sparse in
        let n : e.len ≡ sparse_bytes (is_down_in old) old.settings.replicas (e ∷ []) = omega (arith, all) in
        subst (Grew kind old new) n h.grew;
    made = record {
      stays = λ whole. absurd (false≢true (sym whole ∙ sparse));
      stored = λ is. (s, part, h.place);
    };
  }

  -- ---- lists of entries

  pub keeps_later : (down : ℕ → Bool) (old mid new : List S) → EachFollows kind mid new [] → (e f : Entry)
      → KeepsToldBytes down (byte_at kind old) (byte_at kind mid) e f → KeepsToldBytes down (byte_at kind old) (byte_at kind new) e f
  keeps_later down old mid new each e f h = record {
    placed = h.placed;
    bytes = λ i b below up. meaning_later (byte_at kind mid) (byte_at kind new) (part_origin f.part i) b (tells_on laws each) (h.bytes i b below up);
  }

  pub keeps_since : (down : ℕ → Bool) (old mid new : List S) → EachFollows kind old mid [] → (e f : Entry)
      → KeepsToldBytes down (byte_at kind mid) (byte_at kind new) e f → KeepsToldBytes down (byte_at kind old) (byte_at kind new) e f
  keeps_since down old mid new each e f h = record {
    placed = h.placed;
    bytes = λ i b below up. h.bytes i b below (meaning_up-on down (byte_at kind old) (byte_at kind mid) (tells_on laws each) (part_origin e.part i) b up);
  }

  pub kept_later : (down : ℕ → Bool) (old mid new : List S) → EachFollows kind mid new [] → (es fs : List Entry)
      → AreKept down (byte_at kind old) (byte_at kind mid) es fs → AreKept down (byte_at kind old) (byte_at kind new) es fs
  kept_later down old mid new each [] [] h = tt
  kept_later down old mid new each (e ∷ es) (f ∷ fs) h = (keeps_later down old mid new each e f h.0, kept_later down old mid new each es fs h.1)
  kept_later down old mid new each [] (f ∷ fs) h = absurd h
  kept_later down old mid new each (e ∷ es) [] h = absurd h

  -- places that lie inside the stores lie there later
  left_stays : (settings : Settings) (down : ℕ → Bool) (old new : List S) → EachFollows kind old new [] → settings.servers ≤ length old → (qs : List Place)
      → list_all (is_place_left kind old settings down) qs ≡ true → list_all (is_place_left kind new settings down) qs ≡ true
  left_stays settings down old new each enough [] h = refl
  left_stays settings down old new each enough (q ∷ qs) h =
      let before : ℕ = size_in kind old q.server q.file in
      let after : ℕ = size_in kind new q.server q.file in
      let both = and_parts (is_place_left kind old settings down q) (list_all (is_place_left kind old settings down) qs) h in
      let a = and_parts (nat_lt q.server settings.servers) (nat_lt q.file 8 && (down q.server || nat_lt q.at before)) both.0 in
      let b = and_parts (nat_lt q.file 8) (down q.server || nat_lt q.at before) a.1 in
      let known : q.server < settings.servers = ltb-true q.server settings.servers a.0 in
      let there : q.server < length old = omega (arith, known, enough) in
      let then : q.server < length new = omega (arith, there, each.same_length) in
      let d = element old q.server there in
      let grows = (laws.keeps _ _ [] (each.each q.server d there)).size q.file in
      let from = size_in-at kind old q.server q.file d there in
      let upto = size_in-at kind new q.server q.file d then in
      and_from (is_place_left kind new settings down q) (list_all (is_place_left kind new settings down) qs)
      (and_from (nat_lt q.server settings.servers) (nat_lt q.file 8 && (down q.server || nat_lt q.at after)) a.0
      (and_from (nat_lt q.file 8) (down q.server || nat_lt q.at after) b.0
      (elim (or_cases (down q.server) (nat_lt q.at before) b.1) [
        | inl low ↦ or_left (down q.server) (nat_lt q.at after) low
        | inr within ↦ or_right (down q.server) (nat_lt q.at after)
            (let lt = ltb-true q.at before within in lt-ltb q.at after (omega (arith, lt, grows, from, upto)))
      ])))
      (left_stays settings down old new each enough qs both.1)

  -- so do the places that are inside for what is lent
  pub inside_later : (old new : Dev S) → IsSoundDev kind old → GoesOn kind old new [] → (qs : List Place) → inside_left kind old qs ≡ true
      → inside_left kind new qs ≡ true
  inside_later old new sound g qs h =
      let moved = left_stays old.settings (is_down_in old) (stores old) (stores new) g.each sound.shelf qs h in
      let same = subst (λ (st : Settings). list_all (is_place_left kind (stores new) st (is_down_in old)) qs ≡ true) (sym g.settings) moved in
      subst (λ (down : ℕ → Bool). list_all (is_place_left kind (stores new) new.settings down) qs ≡ true) (sym (down_same g)) same

  pub entry_later : (old new : Dev S) → IsSoundDev kind old → GoesOn kind old new [] → (e : Entry) → EntryBytes (inside_left kind old) e
      → EntryBytes (inside_left kind new) e
  entry_later old new sound g e h = λ i below. inside_later old new sound g (part_origin e.part i) (h i below)

  pub entries_later : (old new : Dev S) → IsSoundDev kind old → GoesOn kind old new [] → (es : List Entry) → All (EntryBytes (inside_left kind old)) es
      → All (EntryBytes (inside_left kind new)) es
  entries_later old new sound g es h = All-weaker (EntryBytes (inside_left kind old)) (EntryBytes (inside_left kind new))
      (λ e. entry_later old new sound g e) es h

  -- growth adds up
  pub grew_on : (old mid new : Dev S) → GoesOn kind old mid [] → GoesOn kind mid new [] → (n m : ℕ) → Grew kind old mid n → Grew kind mid new m
      → Grew kind old new (n + m)
  grew_on old mid new f g n m one two none =
      let r : ℕ = old.settings.replicas in
      let first = one (λ k rise. none k (risen_on kind (stores old) (stores mid) (stores new) f.each.same_length (each_kept laws g.each) k rise)) in
      let second = two (λ k rise. none k (risen_since kind (stores old) (stores mid) (stores new) f.each.same_length (each_kept laws f.each) k rise)) in
      let all : ℕ = all_stored kind (stores old) in
      second ∙ ap (λ x. x + mid.settings.replicas * m) first ∙ ap (λ x. (all + r * n) + x * m) (ap (λ (st : Settings). st.replicas) f.settings)
      ∙ add_assoc all (r * n) (r * m) ∙ ap (λ x. all + x) (sym (mul-add r n m))

  -- one entry more
  pub restored_more : (old mid new : Dev S) → GoesOn kind old mid [] → GoesOn kind mid new [] → (key : RegionKey) (es fs gs : List Entry) (n m : ℕ)
      (e x : Entry) → AreRestored kind old mid key es fs n → IsRestored kind mid new key e x → gs ≡ fs ++ x ∷ []
      → m ≡ n + sparse_bytes (is_down_in mid) mid.settings.replicas (e ∷ []) → AreRestored kind old new key (es ++ e ∷ []) gs m
  restored_more old mid new f g key es fs gs n m e x done one list bytes =
      let down : is_down_in mid ≡ is_down_in old = down_same f in
      let r : mid.settings.replicas ≡ old.settings.replicas = ap (λ (st : Settings). st.replicas) f.settings in
      let more : sparse_bytes (is_down_in mid) mid.settings.replicas (e ∷ []) ≡ sparse_bytes (is_down_in old) old.settings.replicas (e ∷ []) =
      ap (λ (d : ℕ → Bool). sparse_bytes d mid.settings.replicas (e ∷ [])) down ∙ ap (λ n. sparse_bytes (is_down_in old) n (e ∷ [])) r in
      let sum : m ≡ n + sparse_bytes (is_down_in old) old.settings.replicas (e ∷ []) = bytes ∙ ap (λ y. n + y) more in
      let whole : is_sparse_part (is_down_in old) old.settings.replicas x.part ≡ false =
      ap (λ n. is_sparse_part (is_down_in old) n x.part) (sym r)
      ∙ ap (λ (d : ℕ → Bool). is_sparse_part d mid.settings.replicas x.part) (sym down) ∙ one.whole in
      record {
        keeps = λ tells.
            let before = done.keeps tells in
            let again = tell_up-later (is_down_in old) (stores old) (stores mid) f.each tells in
            let here = one.keeps (subst (λ (d : ℕ → Bool). TellUp kind d (stores mid)) (sym down) again) in
            let same = subst (λ (d : ℕ → Bool). KeepsToldBytes d (told_in kind mid) (told_in kind new) e x) down here in
            subst (AreKept (is_down_in old) (told_in kind old) (told_in kind new) (es ++ e ∷ [])) (sym list)
            (kept_push (is_down_in old) (told_in kind old) (told_in kind new) es fs e x
            (kept_later (is_down_in old) (stores old) (stores mid) (stores new) g.each es fs before)
            (keeps_since (is_down_in old) (stores old) (stores mid) (stores new) f.each e x same));
        whole =
            ap (has_sparse (is_down_in old) old.settings.replicas) list
            ∙ list_any-append (λ (y : Entry). is_sparse_part (is_down_in old) old.settings.replicas y.part) fs (x ∷ [])
            ∙ or_from (has_sparse (is_down_in old) old.settings.replicas fs) (has_sparse (is_down_in old) old.settings.replicas (x ∷ [])) done.whole
            (or_from (is_sparse_part (is_down_in old) old.settings.replicas x.part) false whole refl);
        within = λ end all.
            let parts = All-append_parts (λ (y : Entry). y.off + y.len ≤ end) es (e ∷ []) all in
            let fits = All-head (λ (y : Entry). y.off + y.len ≤ end) e [] parts.1 in
            subst (Within end) (sym list)
            (All-append (λ (y : Entry). y.off + y.len ≤ end) fs (x ∷ []) (done.within end parts.0)
            (All-cons (λ (y : Entry). y.off + y.len ≤ end) x [] (omega (arith, one.placed.off, one.placed.len, fits))
            (All-nil (λ (y : Entry). y.off + y.len ≤ end))));
        inside = subst (All (EntryBytes (inside_left kind new))) (sym list)
            (All-append (EntryBytes (inside_left kind new)) fs (x ∷ []) (entries_later mid new f.sound g fs done.inside)
            (All-cons (EntryBytes (inside_left kind new)) x [] one.inside (All-nil (EntryBytes (inside_left kind new)))));
        bytes = sum ∙ ap (λ y. y + sparse_bytes (is_down_in old) old.settings.replicas (e ∷ [])) done.bytes
            ∙ sym (sparse_bytes-append (is_down_in old) old.settings.replicas es (e ∷ []));
        made = subst (AreMadeOf kind old new key (es ++ e ∷ [])) (sym list)
            (made_push kind old new key es fs e x (are_made_later laws old mid new g key es fs done.made) (made_since laws old mid new f key e x one.made));
      }

  pub grew_none : (dev : Dev S) → Grew kind dev dev 0
  grew_none dev none =
      let n : ℕ = dev.settings.replicas in
      let all : ℕ = all_stored kind (stores dev) in
      let no : n * 0 ≡ 0 = omega arith in
      sym (ap (λ m. all + m) no ∙ omega arith)

-- all that is known of a slice that was stored
pub record Made {S : Type 0} (kind : StoreKind S) (mid new : Dev S) (place : PlaceView) (v : List ℕ) (s : Slice) : Type 0 where
  pub stored : IsStored kind (between mid new) mid.settings.replicas place v s
  pub inside : IsInside kind (stores new) s
  pub known : IsOnServers mid.settings.servers s

pub made_of : {S E : Type 0} (kind : StoreKind S) (mid new : Dev S) (place : PlaceView) (v : List ℕ) (r : Result Slice E)
    → IfOk r (IsStored kind (between mid new) mid.settings.replicas place v) → IfOk r (IsInside kind (stores new)) → IfOk r (IsOnServers mid.settings.servers)
    → IfOk r (Made kind mid new place v)
made_of kind mid new place v (Ok s) stored inside known = record { stored = stored; inside = inside; known = known }
made_of kind mid new place v (Err e) stored inside known = tt
