-- Bytes that are added at the end of a file.
use Rattle.std.proofs.Common.{◌≡◌, ◌≢◌, ℕ, ◌+◌, ◌*◌, ◌<◌, ◌≤◌, ◌^◌, nat_le, nat_eq, true, List, [], ◌∷◌, Some, None, refl, ap, sym, ◌∙◌, subst, arith, inl, inr}
use Rattle.std.proofs.lemmas.Bool.{cases_eq, cond-true, cond-false, leb-true, le-leb, lt-leb, eq-eqb, ne_eqb, and_parts, and_from}
use Rattle.wtf_overlay.specs.declared.part.Piece.{Piece}
use Rattle.wtf_overlay.specs.Origin.{Place, pieces_len, pieces_origin}
use Rattle.wtf_values.specs.Regions.{or_empty, with_pieces, fits_at_end}
use Rattle.wtf_model.specs.declared.limits.TheConstants.{MAX_REGIONS}
use Rattle.wtf_values.proofs.RegionLaws.{with_pieces-end}
use Rattle.wtf_meta.specs.Lists.{Lists}
use Rattle.wtf_meta.specs.Files.{FileView, IsFile, end_of, region_origin, file_origin, file_len, laid}
use Rattle.wtf_meta.specs.FileEdits.{FileEdit, PushRel, put_region, after, all_fit}
use Rattle.wtf_meta.specs.Ranges.{Lays}
use Rattle.wtf_meta.specs.Appends.{FileKey, OfLast, AddedTo, Appends, HasNoRoom, AgreeOn, length_keys, append_keys}
use Rattle.wtf_meta.proofs.RegionEnd.{with_pieces_origin}
use Rattle.wtf_meta.proofs.Touching.{agree_len}
use Rattle.wtf_meta.proofs.Laid.{grown_some, laid_is}
use Rattle.wtf_meta.proofs.Places.{at_place, by_places}
use Rattle.wtf_meta.proofs.OneRegion.{put_at, put_else, laid_in_file, laid_elsewhere}

-- the file with pieces added in region r
rel : FileView → ℕ → List Piece → FileView
rel v r ps = put_region v r (Some (with_pieces (or_empty (v.region r)) ps))

rel_ends : (b : ℕ) (v : FileView) (ps : List Piece) (q : ℕ) → b < 2 ^ 32 → end_of (v.region v.last) + pieces_len ps ≤ b → IsFile b v
    → end_of ((rel v v.last ps).region q) ≤ b
unfolding rel
rel_ends b v ps q small fits is = elim (cases_eq q v.last) [
  | inl e ↦ subst (λ j. end_of ((rel v v.last ps).region j) ≤ b) (sym e)
      (subst (λ w. end_of w ≤ b) (sym (put_at v v.last (Some (with_pieces (or_empty (v.region v.last)) ps))))
      (omega (arith, with_pieces-end (or_empty (v.region v.last)) ps (omega arith))))
  | inr differ ↦ subst (λ w. end_of w ≤ b) (sym (put_else v v.last q (Some (with_pieces (or_empty (v.region v.last)) ps)) differ)) (is.ends q)
]

rel_origin : (b : ℕ) (lists : Lists) (v : FileView) (ps : List Piece) (q y : ℕ) → b < 2 ^ 32 → end_of (v.region v.last) + pieces_len ps ≤ b → y < b
    → region_origin lists ((rel v v.last ps).region q) y ≡ laid (file_len b v) (pieces_len ps) (pieces_origin ps) (file_origin b lists v) (q * b + y)
unfolding rel
rel_origin b lists v ps q y small fits h = elim (cases_eq q v.last) [
  | inl e ↦ subst
      (λ j. region_origin lists ((rel v v.last ps).region j) y ≡ laid (file_len b v) (pieces_len ps) (pieces_origin ps) (file_origin b lists v) (j * b + y))
      (sym e)
      (ap (λ w. region_origin lists w y) (put_at v v.last (Some (with_pieces (or_empty (v.region v.last)) ps)))
      ∙ with_pieces_origin lists (or_empty (v.region v.last)) ps y (omega arith)
      ∙ laid_in_file b v.last (end_of (v.region v.last)) (pieces_len ps) (pieces_origin ps) (region_origin lists (v.region v.last)) (file_origin b lists v) y
      (sym (at_place b lists v v.last y h)))
  | inr differ ↦ ap (λ w. region_origin lists w y) (put_else v v.last q (Some (with_pieces (or_empty (v.region v.last)) ps)) differ)
      ∙ sym (at_place b lists v q y h)
      ∙ laid_elsewhere b v.last q (end_of (v.region v.last)) (pieces_len ps) (pieces_origin ps) (file_origin b lists v) y h fits differ
]

rel_last : (v : FileView) (ps : List Piece) → end_of (v.region v.last) + pieces_len ps < 2 ^ 32
    → end_of ((rel v v.last ps).region v.last) ≡ end_of (v.region v.last) + pieces_len ps
unfolding rel
rel_last v ps small = ap end_of (put_at v v.last (Some (with_pieces (or_empty (v.region v.last)) ps))) ∙ with_pieces-end (or_empty (v.region v.last)) ps small

rel_above : (v : FileView) (ps : List Piece) (q : ℕ) → v.last < q → v.region q ≡ None → (rel v v.last ps).region q ≡ None
unfolding rel
rel_above v ps q h none = put_else v v.last q (Some (with_pieces (or_empty (v.region v.last)) ps)) (λ e. omega arith) ∙ none

-- pieces that fit into the last region of a file are added to it
pub AddedTo-rel : (b : ℕ) (v : FileView) (ps : List Piece) → 0 < b → b < 2 ^ 32 → IsFile b v → all_fit (PushRel v.last ps b ∷ []) v ≡ true
    → AddedTo b (PushRel v.last ps b ∷ []) (pieces_len ps) (pieces_origin ps) v
unfolding rel
AddedTo-rel b v ps pos small is fit =
    let room : end_of (v.region v.last) + pieces_len ps ≤ b = leb-true _ _ (and_parts _ _ fit).0 in
    let made : after (PushRel v.last ps b ∷ []) v ≡ rel v v.last ps =
    ap (put_region v v.last)
    (cond-true (fits_at_end (v.region v.last) ps b) (Some (with_pieces (or_empty (v.region v.last)) ps)) (v.region v.last) (and_parts _ _ fit).0) in
    record {
      keeps = subst (IsFile b) (sym made) (record {
        ends = λ q. rel_ends b v ps q small room is;
        above = λ q h. rel_above v ps q h (is.above q h);
        some = λ h. omega (arith, rel_last v ps (omega arith), is.some h);
        few = is.few;
      });
      len = ap (file_len b) made ∙ (let d : v.last * b + end_of ((rel v v.last ps).region v.last) ≡ file_len b v + pieces_len ps =
          omega (arith, rel_last v ps (omega arith)) in d);
      origin = λ lists x. ap (λ (w : FileView). file_origin b lists w x) made
          ∙ by_places (λ x. file_origin b lists (rel v v.last ps) x ≡ laid (file_len b v) (pieces_len ps) (pieces_origin ps) (file_origin b lists v) x) b pos
          (λ q y h. at_place b lists (rel v v.last ps) q y h ∙ rel_origin b lists v ps q y small room h) x;
    }

-- and those that are laid at its end
pub AddedTo-laid : (b : ℕ) (ds : List FileEdit) (n : ℕ) (f : ℕ → List Place) (off : ℕ) (v : FileView) → 0 < n → IsFile b v → file_len b v ≡ off
    → Lays b ds off n f → AddedTo b ds n f v
AddedTo-laid b ds n f off v some is at lays = record {
  keeps = lays.keeps v is;
  len = lays.len v is ∙ grown_some (file_len b v) off n some ∙ omega arith;
  origin = λ lists x. lays.origin lists v is x ∙ ap (λ o. laid o n f (file_origin b lists v) x) (sym at);
}

-- an append of no byte records nothing
pub keys_none : (b : ℕ) (v : FileView) (n : ℕ) → n ≡ 0 → append_keys b v n ≡ []
keys_none b v n none = cond-true (nat_eq n 0) _ _ (eq-eqb n 0 none)

-- the last region, where the bytes fit into it
pub keys_rel : (b : ℕ) (v : FileView) (n : ℕ) → n ≢ 0 → end_of (v.region v.last) + n ≤ b → append_keys b v n ≡ OfLast ∷ []
keys_rel b v n some room = cond-false (nat_eq n 0) _ _ (ne_eqb n 0 some) ∙ cond-true (nat_le (end_of (v.region v.last) + n) b) _ _ (le-leb _ b room)

-- and its value too, where they do not
pub keys_laid : (b : ℕ) (v : FileView) (n : ℕ) → n ≢ 0 → b < end_of (v.region v.last) + n → append_keys b v n ≡ length_keys v
keys_laid b v n some full = cond-false (nat_eq n 0) _ _ (ne_eqb n 0 some)
    ∙ cond-false (nat_le (end_of (v.region v.last) + n) b) _ _ (lt-leb (end_of (v.region v.last) + n) b full)

-- no bytes
pub Appends-none : (b : ℕ) (read : FileView) (keys : List FileKey) (n : ℕ) (f : ℕ → List Place) → n ≡ 0 → Appends b read keys [] n f
Appends-none b read keys n f none = subst (λ m. Appends b read keys [] m f) (sym none) (record {
  fit = refl;
  each = λ v is agree fit. record {
    keeps = is;
    len = omega arith;
    origin = λ lists x. laid_is (file_len b v) 0 f (file_origin b lists v) x (file_origin b lists v x) (λ _. refl) (λ _. refl)
        (λ from to. absurd (omega arith));
  };
})

-- pieces that fit into the last region
pub Appends-rel : (b : ℕ) (read : FileView) (ps : List Piece) → 0 < b → b < 2 ^ 32 → pieces_len ps ≢ 0 → end_of (read.region read.last) + pieces_len ps ≤ b
    → Appends b read (append_keys b read (pieces_len ps)) (PushRel read.last ps b ∷ []) (pieces_len ps) (pieces_origin ps)
Appends-rel b read ps pos small some room = record {
  fit = and_from _ true (le-leb _ b room) refl;
  each = λ v is agree fit.
      let same : read.last ≡ v.last = (subst (λ ks. AgreeOn ks read v) (keys_rel b read (pieces_len ps) some room) agree).0 in
      subst (λ l. all_fit (PushRel l ps b ∷ []) v ≡ true
      → AddedTo b (PushRel l ps b ∷ []) (pieces_len ps) (pieces_origin ps) v) (sym same) (AddedTo-rel b v ps pos small is) fit;
}

same_len : (b : ℕ) (read v : FileView) (n : ℕ) → n ≢ 0 → b < end_of (read.region read.last) + n → AgreeOn (append_keys b read n) read v
    → file_len b v ≡ file_len b read
same_len b read v n some full agree = agree_len b read v (subst (λ ks. AgreeOn ks read v) (keys_laid b read n some full) agree)

-- those that do not, at the length that was read
pub Appends-laid : (b : ℕ) (read : FileView) (ds : List FileEdit) (n : ℕ) (f : ℕ → List Place) → n ≢ 0 → b < end_of (read.region read.last) + n
    → Lays b ds (file_len b read) n f
    → Appends b read (append_keys b read n) ds n f
Appends-laid b read ds n f some full lays = record {
  fit = lays.fit read;
  each = λ v is agree fit. AddedTo-laid b ds n f (file_len b read) v (omega arith) is (same_len b read v n some full agree) lays;
}

-- no file has room where the one that was read has none
pub HasNoRoom-full : (b : ℕ) (read : FileView) (n : ℕ) → n ≢ 0 → b < end_of (read.region read.last) + n → MAX_REGIONS * b < file_len b read + n
    → HasNoRoom b read (append_keys b read n) n
HasNoRoom-full b read n some full big = record {
  each = λ v is agree. omega (arith, same_len b read v n some full agree);
}
