-- Changes that lay pieces over a file, and that add them at its end.
use Rattle.std.proofs.Common.{◌≡◌, ◌≢◌, ◌⊎◌, ℕ, ◌+◌, ◌-◌, ◌*◌, ◌/◌, ◌<◌, ◌≤◌, ◌^◌, ◌++◌, refl, Bool, List, [], ◌∷◌, length, get_or, take, ap, sym, ◌∙◌, subst}
use Rattle.std.proofs.Common.{arith}
use Rattle.std.proofs.lemmas.List.{map-append}
use Rattle.wtf_base.specs.declared.ids.InodeId.{InodeId}
use Rattle.wtf_base.specs.declared.slice.Slice.{Slice}
use Rattle.wtf_occ.specs.Attempts.{Attempted}
use Rattle.wtf_occ.proofs.AttemptLaws.{GrowsBy-change}
use Rattle.wtf_overlay.specs.Origin.{Place, part_origin, pieces_len, pieces_origin}
use Rattle.wtf_overlay.specs.declared.part.Entry.{Entry}
use Rattle.wtf_overlay.specs.declared.part.Piece.{Piece}
use Rattle.wtf_model.specs.declared.limits.TheConstants.{MAX_REGIONS}
use Rattle.wtf_values.specs.declared.key.Key.{Key}
use Rattle.wtf_values.specs.declared.value.Delta.{Delta}
use Rattle.wtf_meta.specs.Bytes.{PartBytes, EditsBytes}
use Rattle.wtf_meta.specs.Files.{FileView, end_of, file_len}
use Rattle.wtf_meta.specs.FileEdits.{FileEdit, Push, PushRel, RaiseLast, edit_of, edits_of}
use Rattle.wtf_meta.specs.Ranges.{Covers}
use Rattle.wtf_meta.specs.Appends.{FileKey, OfLast, OfRegion, length_keys, append_keys}
use Rattle.wtf_meta.proofs.Named.{EditsBytes-append}
use Rattle.wtf_meta.proofs.Covering.{Covers-none}
use Rattle.wtf_meta.proofs.Piecewise.{Covers-part, Covers-piece, Lays-pieces, Lays-no_pieces}
use Rattle.wtf_meta.proofs.Appending.{keys_none, keys_rel, keys_laid, Appends-none, Appends-rel, Appends-laid}
use Rattle.wtf_region.specs.declared.added.Added.TheVariants.{Done}
use Rattle.wtf_region.specs.Laid.{ArePiecePushes}
use Rattle.wtf_region.specs.Edited.{Recorded, Edited, NamesOnly, CoversPart, LaysPieces, AddsPieces, IsAdded}
use Rattle.wtf_region.proofs.LaidLaws.{pushes_more, first_pieces_more, laid_all, laid_nothing}
use Rattle.wtf_region.proofs.Recording.{recorded_on, Edited-none, Edited-as, Edited-recorded}

-- one change
pub Edited-one : (i : InodeId) (d : FileEdit) (m n : Attempted Key Delta) → n ≡ record m { changes = m.changes ++ edit_of i d ∷ [] }
    → Edited i [] (λ ds. ds ≡ d ∷ []) m n
Edited-one i d m n is = record { edits = d ∷ []; grows = GrowsBy-change m n (edit_of i d) is; does = refl }

bytes_append : (P : List Place → Bool) (Q : Slice → Bool) (i : InodeId) (ds es : List FileEdit) → EditsBytes P Q (edits_of i ds)
    → EditsBytes P Q (edits_of i es) → EditsBytes P Q (edits_of i (ds ++ es))
bytes_append P Q i ds es first next = subst (EditsBytes P Q) (sym (map-append (edit_of i) ds es))
    (EditsBytes-append P Q (edits_of i ds) (edits_of i es) first next)

-- no byte of a piece was laid yet
pub part_none : (b off : ℕ) (i : InodeId) (p : Piece) → CoversPart b off i p 0 []
part_none b off i p = record { covers = Covers-none b off (part_origin p.part); exact = refl; names = λ P Q h. tt }

-- one entry more of a piece
pub part_more : (b off done r : ℕ) (i : InodeId) (p : Piece) (e : Entry) → 0 < b → e.off + e.len ≤ b → r * b + e.off ≡ off + done → done + e.len ≤ p.len
    → (done + e.len ≡ p.len) ⊎ (e.off + e.len ≡ b)
    → ((j : ℕ) → part_origin e.part j ≡ part_origin p.part (done + j)) → (ds es : List FileEdit) → CoversPart b off i p done ds → es ≡ Push r e ∷ []
    → CoversPart b off i p (done + e.len) (ds ++ es)
part_more b off done r i p e pos within place inside whole here ds es first is =
    subst (λ (l : List FileEdit). CoversPart b off i p (done + e.len) (ds ++ l)) (sym is) (record {
      covers = Covers-part b off done r e (part_origin p.part) ds pos within place (λ j h. here j) first.covers;
      exact =
          pushes_more b off p.len (part_origin p.part) 0 done r e ds first.exact (record {
            place = place;
            within = within;
            inside = inside;
            whole = whole;
            holds =
                λ j h. here j;
          });
      names = λ P Q h. bytes_append P Q i ds (Push r e ∷ []) (first.names P Q h) ((λ j k. ap P (here j) ∙ h (done + j) (omega (arith, k, inside))), tt);
    })

-- the changes lay the first k pieces, of `done` bytes, and name no other bytes than those of all pieces
pub record CoversFirst (b off : ℕ) (i : InodeId) (ps : List Piece) (k done : ℕ) (ds : List FileEdit) : Type 0 where
  pub covers : Covers b ds off done (pieces_origin (take k ps))
  pub exact : ArePiecePushes b off (take k ps) ds
  pub names : NamesOnly i ps ds

pub first_none : (b off : ℕ) (i : InodeId) (ps : List Piece) → CoversFirst b off i ps 0 0 []
first_none b off i ps = record { covers = Covers-none b off (pieces_origin []); exact = refl; names = λ P Q h. tt }

-- one piece more
pub first_more : (b off done k : ℕ) (i : InodeId) (ps : List Piece) (p : Piece) → k < length ps → p ≡ get_or ps k p → done ≡ pieces_len (take k ps)
    → (ds es : List FileEdit) → CoversFirst b off i ps k done ds → CoversPart b (off + done) i p p.len es
    → CoversFirst b off i ps (k + 1) (done + p.len) (ds ++ es)
first_more b off done k i ps p below is d ds es first next = record {
  covers = Covers-piece b off done k ps p ds es below is d first.covers next.covers;
  exact = first_pieces_more b off done k ps p ds es below is d first.exact next.exact;
  names = λ P Q h. bytes_append P Q i ds es (first.names P Q h) (next.names P Q (subst (λ (q : Piece). PartBytes P q.len q.part) (sym is) (h k p below)));
}

-- all pieces, and the last region
pub first_all : (b off done k last : ℕ) (i : InodeId) (ps : List Piece) → 0 < b → length ps ≤ k → done ≡ pieces_len (take k ps) → 0 < done
    → off + done ≤ MAX_REGIONS * b
    → last ≡ (off + done - 1) / b → (ds es : List FileEdit) → CoversFirst b off i ps k done ds → es ≡ RaiseLast last ∷ [] → LaysPieces b off i ps (ds ++ es)
first_all b off done k last i ps pos all d some cap l ds es first is = subst (λ (x : List FileEdit). LaysPieces b off i ps (ds ++ x)) (sym is) (record {
  lays = Lays-pieces b off done k last ps ds pos all d some cap l first.covers;
  exact = laid_all b off done k last ps ds all d some l first.exact;
  names = λ P Q h. bytes_append P Q i ds (RaiseLast last ∷ []) (first.names P Q h) (tt, tt);
})

-- no piece
pub first_nothing : (b off done k : ℕ) (i : InodeId) (ps : List Piece) → length ps ≤ k → done ≡ pieces_len (take k ps) → done ≡ 0 → (ds : List FileEdit)
    → CoversFirst b off i ps k done ds
    → LaysPieces b off i ps ds
first_nothing b off done k i ps all d none ds first = record {
  lays = Lays-no_pieces b off done k ps ds all d none first.covers;
  exact = laid_nothing b off done k ps ds all d none first.exact;
  names = first.names;
}

-- the length was read
pub recorded_length : (i : InodeId) (v : FileView) (last : ℕ) (a m n : Attempted Key Delta) → last ≡ v.last → Recorded i (OfLast ∷ []) a m
    → Recorded i (OfRegion last ∷ []) m n
    → Recorded i (length_keys v) a n
recorded_length i v last a m n is first next =
    subst (λ (r : ℕ). Recorded i (OfLast ∷ OfRegion r ∷ []) a n) is (recorded_on i (OfLast ∷ []) (OfRegion last ∷ []) a m n first next)

-- nothing was to add
pub adds_none : (b : ℕ) (i : InodeId) (v : FileView) (ps : List Piece) (a : Attempted Key Delta) → pieces_len ps ≡ 0 → IsAdded b i v ps a a Done
adds_none b i v ps a none =
    subst (λ (ks : List FileKey). Edited i ks (AddsPieces b i v ps) a a) (sym (keys_none b v (pieces_len ps) none))
    (Edited-none i (AddsPieces b i v ps) a (record {
      appends = Appends-none b v (append_keys b v (pieces_len ps)) (pieces_len ps) (pieces_origin ps) none;
      exact = record { none = λ e. refl; fits = λ more room. absurd (omega (arith, none, more)); laid = λ more full. absurd (omega (arith, none, more)) };
      names = λ P Q h. tt;
    }))

-- pieces that fit into the last region
pub adds_rel : (b : ℕ) (i : InodeId) (v : FileView) (last : ℕ) (ps : List Piece) (a m n : Attempted Key Delta) → 0 < b → b < 2 ^ 32 → pieces_len ps ≢ 0
    → end_of (v.region v.last) + pieces_len ps ≤ b → last ≡ v.last → Recorded i (OfLast ∷ []) a m
    → n ≡ record m { changes = m.changes ++ edit_of i (PushRel last ps b) ∷ [] } → IsAdded b i v ps a n Done
adds_rel b i v last ps a m n pos small some room is recorded made =
    subst (λ (ks : List FileKey). Edited i ks (AddsPieces b i v ps) a n) (sym (keys_rel b v (pieces_len ps) some room))
    (Edited-recorded i (OfLast ∷ []) (AddsPieces b i v ps) a m n recorded
    (Edited-as i [] (λ ds. ds ≡ PushRel last ps b ∷ []) (AddsPieces b i v ps) m n (Edited-one i (PushRel last ps b) m n made)
    (λ ds e. subst (AddsPieces b i v ps) (sym e) (subst (λ (r : ℕ). AddsPieces b i v ps (PushRel r ps b ∷ [])) (sym is) (record {
      appends = Appends-rel b v ps pos small some room;
      exact = record { none = λ e. absurd (some e); fits = λ more here. refl; laid = λ more full. absurd (omega (arith, room, full)) };
      names = λ P Q h. (h, tt);
    })))))

-- those that do not, at the length that was read
pub adds_laid : (b : ℕ) (i : InodeId) (v : FileView) (ps : List Piece) (a m n : Attempted Key Delta) → pieces_len ps ≢ 0
    → b < end_of (v.region v.last) + pieces_len ps
    → Recorded i (length_keys v) a m → Edited i [] (LaysPieces b (file_len b v) i ps) m n → IsAdded b i v ps a n Done
adds_laid b i v ps a m n some full recorded laid =
    subst (λ (ks : List FileKey). Edited i ks (AddsPieces b i v ps) a n) (sym (keys_laid b v (pieces_len ps) some full))
    (Edited-recorded i (length_keys v) (AddsPieces b i v ps) a m n recorded
    (Edited-as i [] (LaysPieces b (file_len b v) i ps) (AddsPieces b i v ps) m n laid
    (λ ds lays. record {
      appends = Appends-laid b v ds (pieces_len ps) (pieces_origin ps) some full lays.lays;
      exact = record { none = λ e. absurd (some e); fits = λ more room. absurd (omega (arith, full, room)); laid = λ more here. lays.exact };
      names = lays.names;
    })))
