-- One step more of the walks over sources, over the regions of a file, and over files.
use Rattle.std.proofs.Common.{◌≡◌, ℕ, zero, suc, ◌+◌, ◌<◌, ◌≤◌, List, [], ◌∷◌, ◌++◌, length, map, get_or, take, drop, append_assoc, append-nil, Option, Result}
use Rattle.std.proofs.Common.{Ok, Err, refl, sym, ap, ◌∙◌, subst, arith}
use Rattle.std.proofs.lemmas.List.{length-append, map-append, take-append-drop, drop_more}
use Rattle.wtf_base.specs.declared.ids.InodeId.{InodeId}
use Rattle.wtf_occ.specs.Attempts.{Attempted, GoesOn}
use Rattle.wtf_model.specs.declared.answer.Word.{Word}
use Rattle.wtf_model.specs.Tree.{◌>>=◌}
use Rattle.wtf_values.specs.declared.key.Key.{Key}
use Rattle.wtf_values.specs.declared.key.Key.TheVariants.{Path}
use Rattle.wtf_values.specs.declared.region.RegionValue.{RegionValue}
use Rattle.wtf_values.specs.declared.value.Delta.{Delta}
use Rattle.wtf_meta.specs.Maps.{Map, Edits}
use Rattle.wtf_meta.specs.Appends.{FileKey, OfLast, OfRegion, region_keys, count_from}
use Rattle.wtf_index.specs.Checks.{source_of}
use Rattle.wtf_index.specs.Recorded.{keys_if}
use Rattle.wtf_region.specs.Edited.{Recorded}
use Rattle.wtf_region.proofs.Recording.{recorded_on}
use Rattle.wtf_slicing.specs.Copies.{put_region, put_regions}
use Rattle.wtf_slicing.specs.Recorded.{sources_keys}
use Rattle.wtf_slicing.specs.Sources.{sources_of, lens_of}
use Rattle.wtf_slicing.proofs.FileLists.{rest_found}

-- a list around its element at n
pub split_at : {A : Type 0} (xs : List A) (n : ℕ) (x : A) → n < length xs → x ≡ get_or xs n x → xs ≡ take n xs ++ x ∷ drop (n + 1) xs
split_at xs n x below is =
    sym (take-append-drop n xs) ∙ ap (λ l. take n xs ++ l) (drop_more xs n x below) ∙ ap (λ q. take n xs ++ q ∷ drop (n + 1) xs) (sym is)

same_result : (r : Result (List InodeId) Word) → (r >>= (λ js. Ok ([] ++ js))) ≡ r
same_result (Ok is) = refl
same_result (Err word) = refl

module _ (w : Map) where
  first_by : (p : List ℕ) (xs ys : List (List ℕ)) (is : List InodeId) (r : Result InodeId Word) → source_of w p ≡ r
      → (r >>= (λ i. sources_of w xs >>= (λ js. Ok (i ∷ js)))) ≡ Ok is
      → ((js : List InodeId) → sources_of w xs ≡ Ok js → sources_of w (xs ++ ys) ≡ (sources_of w ys >>= (λ ks. Ok (js ++ ks))))
      → sources_of w (p ∷ xs ++ ys) ≡ (sources_of w ys >>= (λ ks. Ok (is ++ ks)))
  first_by p xs ys is (Ok i) e h next =
      let rest = rest_found i (sources_of w xs) is h in
      ap (λ r. r >>= (λ j. sources_of w (xs ++ ys) >>= (λ js. Ok (j ∷ js)))) e
      ∙ ap (λ r. r >>= (λ js. Ok (i ∷ js))) (next rest.inodes rest.is)
      ∙ joined i rest.inodes (sources_of w ys) ∙ ap (λ (l : List InodeId). sources_of w ys >>= (λ ks. Ok (l ++ ks))) rest.whole
    where
      joined : (i : InodeId) (js : List InodeId) (r : Result (List InodeId) Word)
          → (r >>= (λ ks. Ok (js ++ ks)) >>= (λ ls. Ok (i ∷ ls))) ≡ (r >>= (λ ks. Ok (i ∷ js ++ ks)))
      joined i js (Ok ks) = refl
      joined i js (Err word) = refl
  first_by p xs ys is (Err word) e h next = absurd (cc)

  -- files behind others that were found
  pub sources_append : (xs ys : List (List ℕ)) (is : List InodeId) → sources_of w xs ≡ Ok is
      → sources_of w (xs ++ ys) ≡ (sources_of w ys >>= (λ js. Ok (is ++ js)))
  sources_append [] ys is h =
      let none : [] ≡ is = cc in
      sym (same_result (sources_of w ys)) ∙ ap (λ (l : List InodeId). sources_of w ys >>= (λ js. Ok (l ++ js))) none
  sources_append (p ∷ xs) ys is h = first_by p xs ys is (source_of w p) refl h (λ js e. sources_append xs ys js e)

  pub sources_more : (xs : List (List ℕ)) (p : List ℕ) (is : List InodeId) (i : InodeId) → sources_of w xs ≡ Ok is → source_of w p ≡ Ok i
      → sources_of w (xs ++ p ∷ []) ≡ Ok (is ++ i ∷ [])
  sources_more xs p is i h e = sources_append xs (p ∷ []) is h ∙ ap (λ r. (r >>= (λ j. Ok (j ∷ []))) >>= (λ js. Ok (is ++ js))) e

  pub sources_stop : (xs ys : List (List ℕ)) (p : List ℕ) (is : List InodeId) (word : Word) → sources_of w xs ≡ Ok is → source_of w p ≡ Err word
      → sources_of w (xs ++ p ∷ ys) ≡ Err word
  sources_stop xs ys p is word h e =
      sources_append xs (p ∷ ys) is h ∙ ap (λ r. (r >>= (λ j. sources_of w ys >>= (λ js. Ok (j ∷ js)))) >>= (λ js. Ok (is ++ js))) e

  keys_by : (p : List ℕ) (xs ys : List (List ℕ)) (is : List InodeId) (r : Result InodeId Word) → source_of w p ≡ r
      → (r >>= (λ i. sources_of w xs >>= (λ js. Ok (i ∷ js)))) ≡ Ok is
      → ((js : List InodeId) → sources_of w xs ≡ Ok js → sources_keys w (xs ++ ys) ≡ sources_keys w xs ++ sources_keys w ys)
      → sources_keys w (p ∷ xs ++ ys) ≡ sources_keys w (p ∷ xs) ++ sources_keys w ys
  keys_by p xs ys is (Ok i) e h next =
      let rest = rest_found i (sources_of w xs) is h in
      ap (λ r. Path p ∷ keys_if r (sources_keys w (xs ++ ys))) e ∙ ap (λ (l : List Key). Path p ∷ l) (next rest.inodes rest.is)
      ∙ ap (λ r. Path p ∷ (keys_if r (sources_keys w xs) ++ sources_keys w ys)) (sym e)
  keys_by p xs ys is (Err word) e h next = absurd (cc)

  -- and their keys
  pub sources_keys-append : (xs ys : List (List ℕ)) (is : List InodeId) → sources_of w xs ≡ Ok is
      → sources_keys w (xs ++ ys) ≡ sources_keys w xs ++ sources_keys w ys
  sources_keys-append [] ys is h = refl
  sources_keys-append (p ∷ xs) ys is h = keys_by p xs ys is (source_of w p) refl h (λ js e. sources_keys-append xs ys js e)

  pub keys_one : (p : List ℕ) (i : InodeId) → source_of w p ≡ Ok i → sources_keys w (p ∷ []) ≡ Path p ∷ []
  keys_one p i e = ap (λ r. Path p ∷ keys_if r []) e

  pub keys_stop : (p : List ℕ) (ys : List (List ℕ)) (word : Word) → source_of w p ≡ Err word → sources_keys w (p ∷ ys) ≡ Path p ∷ []
  keys_stop p ys word e = ap (λ r. Path p ∷ keys_if r (sources_keys w ys)) e

-- numbers from a on, one more
pub count_push : (a n : ℕ) → count_from a (n + 1) ≡ count_from a n ++ (a + n) ∷ []
count_push a n = ap (count_from a) (let e : n + 1 ≡ suc n = omega arith in e) ∙ pushed a n
  where
    pushed : (a n : ℕ) → count_from a (suc n) ≡ count_from a n ++ (a + n) ∷ []
    pushed a zero = ap (λ (k : ℕ). k ∷ []) (let e : a ≡ a + 0 = omega arith in e)
    pushed a (suc n) = ap (λ l. a ∷ l) (pushed (a + 1) n ∙ ap (λ (k : ℕ). count_from (a + 1) n ++ k ∷ []) (let e : a + 1 + n ≡ a + suc n = omega arith in e))

pub count_next : (r : ℕ) → count_from 0 (r + 1) ≡ count_from 0 r ++ r ∷ []
count_next r = count_push 0 r ∙ ap (λ (k : ℕ). count_from 0 r ++ k ∷ []) (let e : 0 + r ≡ r = omega arith in e)

-- one region more of a whole file
pub recorded_next : (i : InodeId) (r : ℕ) (a m n : Attempted Key Delta) → Recorded i (OfLast ∷ region_keys (count_from 0 r)) a m
    → Recorded i (OfRegion r ∷ []) m n
    → Recorded i (OfLast ∷ region_keys (count_from 0 (r + 1))) a n
recorded_next i r a m n first next =
    subst (λ (ks : List FileKey). Recorded i ks a n)
    (sym (ap (λ (rs : List ℕ). OfLast ∷ region_keys rs) (count_next r) ∙ ap (λ (ks : List FileKey). OfLast ∷ ks)
    (map-append (λ q. OfRegion q) (count_from 0 r) (r ∷ []))))
    (recorded_on i (OfLast ∷ region_keys (count_from 0 r)) (OfRegion r ∷ []) a m n first next)

pub regions_next : (g : ℕ → Option RegionValue) (r : ℕ) → map g (count_from 0 (r + 1)) ≡ map g (count_from 0 r) ++ g r ∷ []
regions_next g r = ap (map g) (count_next r) ∙ map-append g (count_from 0 r) (r ∷ [])

pub length-counted : {A : Type 0} (g : ℕ → A) (a n : ℕ) → length (map g (count_from a n)) ≡ n
length-counted g a zero = refl
length-counted g a (suc n) = omega (arith, length-counted g (a + 1) n)

-- one region more that is set
pub puts-more : (i : InodeId) (r : ℕ) (vs : List (Option RegionValue)) (v : Option RegionValue)
    → put_regions i r (vs ++ v ∷ []) ≡ put_regions i r vs ++ put_region i (r + length vs) v
puts-more i r [] v = append-nil (put_region i r v) ∙ ap (λ (k : ℕ). put_region i k v) (let e : r ≡ r + 0 = omega arith in e)
puts-more i r (u ∷ vs) v =
    ap (λ (l : Edits). put_region i r u ++ l) (puts-more i (r + 1) vs v ∙ ap (λ (k : ℕ). put_regions i (r + 1) vs ++ put_region i k v)
    (let e : r + 1 + length vs ≡ r + suc (length vs) = omega arith in e))
    ∙ sym (append_assoc (put_region i r u) (put_regions i (r + 1) vs) (put_region i (r + suc (length vs)) v))

pub le-trans : (a b c : ℕ) → a ≤ b → b ≤ c → a ≤ c
le-trans a b c first next = omega arith

-- a mark lies within what grew since it was made
pub mark_within : {A : Type 0} (n : ℕ) (old new : List A) → n ≡ length old → GoesOn old new → n ≤ length new
mark_within n old new is on = omega (arith, is, ap length on.1, length-append old on.0)

-- one file has no more bytes than all
pub lens_one : (b : ℕ) (u : Map) (is : List InodeId) (k : ℕ) (none : InodeId) → k < length is → lens_of b u (get_or is k none ∷ []) ≤ lens_of b u is
lens_one b u [] k none below = absurd (omega arith)
lens_one b u (j ∷ is) zero none below = omega arith
lens_one b u (j ∷ is) (suc k) none below = omega (arith, lens_one b u is k none (omega arith))
