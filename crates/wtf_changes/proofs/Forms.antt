-- The text and the reader of each record of changes belong together, and those of all changes.
use Rattle.std.proofs.Common.{◌≡◌, ℕ, zero, suc, ◌^◌, ◌<◌, cond, eqb, List, [], ◌∷◌, ◌++◌, length, Option, Some, None, refl, sym, ap, subst, ◌∙◌}
use Rattle.std.specs.Int.{w16, w32, w64, to_be_bytes}
use Rattle.std.proofs.lemmas.Bool.{eqb-true}
use Rattle.std.proofs.lemmas.List.{append-nil, nil_from_length}
use Rattle.wtf_base.specs.declared.ids.InodeId.{InodeId}
use Rattle.wtf_path.specs.Grammar.{IsPath}
use Rattle.wtf_values.specs.declared.value.Node.{Node}
use Rattle.wtf_values.specs.declared.value.Node.TheVariants.{Folder, File}
use Rattle.wtf_overlay.specs.Reading.{◌>>=◌, number_at}
use Rattle.wtf_spillfmt.proofs.Codecs.{Codec, IsBytes, IsBytes-rest, Takes, IsMade, some_is, bind_some, passed, codec_then, codec_as, codec_form, codec_only}
use Rattle.wtf_spillfmt.proofs.Codecs.{counted_codec, codec16, codec32, codec64}
use Rattle.wtf_imagefmt.specs.Rows.{ValueRow}
use Rattle.wtf_imagefmt.specs.Texts.{inode_text, node_text, name_text}
use Rattle.wtf_imagefmt.specs.Shapes.{ascends, IsInode}
use Rattle.wtf_imagefmt.specs.Reading.{inode_at, value_at}
use Rattle.wtf_imagefmt.proofs.Forms.{inode_codec, name_codec, value_codec}
use Rattle.wtf_changes.specs.declared.records.PathChange.{PathChange}
use Rattle.wtf_changes.specs.declared.records.FileChange.{FileChange}
use Rattle.wtf_changes.specs.Rows.{RegionChangeRow, ChangeRows}
use Rattle.wtf_changes.specs.Texts.{stands_text, path_text, paths_text, last_text, file_text, files_text, held_text, region_text, regions_text, changes_text}
use Rattle.wtf_changes.specs.Shapes.{path_before, file_before, region_before, IsStanding, IsLast, IsValueHeld, IsPathRow, IsFileRow, IsRegionRow, ArePaths}
use Rattle.wtf_changes.specs.Shapes.{AreFiles, AreRegions, AreChanges}
use Rattle.wtf_changes.specs.Reading.{stands_at, make_path, path_at, last_at, make_file, file_at, held_at, make_region, region_change_at, path_changes_at}
use Rattle.wtf_changes.specs.Reading.{files_at, regions_at, make_changes, changes_at, changes_of}

-- ---- paths

stands_takes : (bytes : List ℕ) (x : Option Node × List ℕ) → IsBytes bytes → stands_at bytes ≡ Some x → Takes bytes (stands_text x.0) x.1 × IsStanding x.0
unfolding stands_at stands_text node_text
stands_takes [] x fits e = absurd cc
stands_takes (zero ∷ bytes) x fits e =
    subst (λ (y : Option Node × List ℕ). Takes (0 ∷ bytes) (stands_text y.0) y.1 × IsStanding y.0) (some_is (Some Folder, bytes) x e)
    (record { parts = refl; rest_fits = IsBytes-rest 0 bytes fits }, tt)
stands_takes (suc zero ∷ bytes) x fits e =
    let b = bind_some (inode_at bytes) (λ s. Some (Some (File s.0), s.1)) x e in
    let t = inode_codec.takes bytes b.0 (IsBytes-rest 1 bytes fits) b.1 in
    subst (λ (y : Option Node × List ℕ). Takes (1 ∷ bytes) (stands_text y.0) y.1 × IsStanding y.0) (some_is (Some (File b.0.0), b.0.1) x b.2)
    (record { parts = ap (λ (w : List ℕ). 1 ∷ w) t.0.parts; rest_fits = t.0.rest_fits }, t.1)
stands_takes (suc (suc zero) ∷ bytes) x fits e =
    subst (λ (y : Option Node × List ℕ). Takes (2 ∷ bytes) (stands_text y.0) y.1 × IsStanding y.0) (some_is (None, bytes) x e)
    (record { parts = refl; rest_fits = IsBytes-rest 2 bytes fits }, tt)
stands_takes (suc (suc (suc n)) ∷ bytes) x fits e = absurd cc

stands_again : (o : Option Node) (rest : List ℕ) → IsStanding o → stands_at (stands_text o ++ rest) ≡ Some (o, rest)
unfolding stands_at stands_text node_text
stands_again None rest form = refl
stands_again (Some Folder) rest form = refl
stands_again (Some (File i)) rest form = ap (λ o. o >>= λ s. Some (Some (File s.0), s.1)) (inode_codec.again i rest form)

stands_codec : Codec stands_text IsStanding stands_at
stands_codec = record { takes = stands_takes; again = stands_again }

path_made : IsMade (λ (x : List ℕ × Option Node). name_text x.0 ++ stands_text x.1) (λ x. IsPath x.0 × IsStanding x.1) path_text IsPathRow make_path
    (λ r. (r.path, r.node))
unfolding path_text
path_made = record {
  text = λ x form. refl;
  form = λ x form. record { path = form.0; node = form.1 };
  back = λ r form. (form.path, form.node);
  same = λ r form. refl;
}

path_codec : Codec path_text IsPathRow path_at
unfolding path_at
path_codec = codec_as path_made (codec_then name_codec (λ p f. stands_codec))

paths_codec : Codec paths_text ArePaths path_changes_at
unfolding paths_text path_changes_at
paths_codec = codec_form
    (λ cs form. record { count = form.0.0; each = form.0.1; ascend = form.1 })
    (λ cs form. ((form.count, form.each), form.ascend))
    (codec_only (ascends path_before) (counted_codec w32 (2 ^ 32) codec32 path_codec))

-- ---- files

last_takes : (bytes : List ℕ) (x : Option ℕ × List ℕ) → IsBytes bytes → last_at bytes ≡ Some x → Takes bytes (last_text x.0) x.1 × IsLast x.0
unfolding last_at last_text
last_takes [] x fits e = absurd cc
last_takes (zero ∷ bytes) x fits e =
    subst (λ (y : Option ℕ × List ℕ). Takes (0 ∷ bytes) (last_text y.0) y.1 × IsLast y.0) (some_is (None, bytes) x e)
    (record { parts = refl; rest_fits = IsBytes-rest 0 bytes fits }, tt)
last_takes (suc zero ∷ bytes) x fits e =
    let b = bind_some (number_at w16 bytes) (λ s. Some (Some s.0, s.1)) x e in
    let t = codec16.takes bytes b.0 (IsBytes-rest 1 bytes fits) b.1 in
    subst (λ (y : Option ℕ × List ℕ). Takes (1 ∷ bytes) (last_text y.0) y.1 × IsLast y.0) (some_is (Some b.0.0, b.0.1) x b.2)
    (record { parts = ap (λ (w : List ℕ). 1 ∷ w) t.0.parts; rest_fits = t.0.rest_fits }, t.1)
last_takes (suc (suc n) ∷ bytes) x fits e = absurd cc

last_again : (o : Option ℕ) (rest : List ℕ) → IsLast o → last_at (last_text o ++ rest) ≡ Some (o, rest)
unfolding last_at last_text
last_again None rest form = refl
last_again (Some n) rest form = ap (λ o. o >>= λ s. Some (Some s.0, s.1)) (codec16.again n rest form)

last_codec : Codec last_text IsLast last_at
last_codec = record { takes = last_takes; again = last_again }

file_made : IsMade (λ (x : InodeId × Option ℕ). inode_text x.0 ++ last_text x.1) (λ x. IsInode x.0 × IsLast x.1) file_text IsFileRow make_file
    (λ r. (r.inode, r.last))
unfolding file_text
file_made = record {
  text = λ x form. refl;
  form = λ x form. record { inode = form.0; last = form.1 };
  back = λ r form. (form.inode, form.last);
  same = λ r form. refl;
}

file_codec : Codec file_text IsFileRow file_at
unfolding file_at
file_codec = codec_as file_made (codec_then inode_codec (λ i f. last_codec))

files_codec : Codec files_text AreFiles files_at
unfolding files_text files_at
files_codec = codec_form
    (λ cs form. record { count = form.0.0; each = form.0.1; ascend = form.1 })
    (λ cs form. ((form.count, form.each), form.ascend))
    (codec_only (ascends file_before) (counted_codec w32 (2 ^ 32) codec32 file_codec))

-- ---- regions

held_takes : (bytes : List ℕ) (x : Option ValueRow × List ℕ) → IsBytes bytes → held_at bytes ≡ Some x → Takes bytes (held_text x.0) x.1 × IsValueHeld x.0
unfolding held_at held_text
held_takes [] x fits e = absurd cc
held_takes (zero ∷ bytes) x fits e =
    subst (λ (y : Option ValueRow × List ℕ). Takes (0 ∷ bytes) (held_text y.0) y.1 × IsValueHeld y.0) (some_is (None, bytes) x e)
    (record { parts = refl; rest_fits = IsBytes-rest 0 bytes fits }, tt)
held_takes (suc zero ∷ bytes) x fits e =
    let b = bind_some (value_at bytes) (λ s. Some (Some s.0, s.1)) x e in
    let t = value_codec.takes bytes b.0 (IsBytes-rest 1 bytes fits) b.1 in
    subst (λ (y : Option ValueRow × List ℕ). Takes (1 ∷ bytes) (held_text y.0) y.1 × IsValueHeld y.0) (some_is (Some b.0.0, b.0.1) x b.2)
    (record { parts = ap (λ (w : List ℕ). 1 ∷ w) t.0.parts; rest_fits = t.0.rest_fits }, t.1)
held_takes (suc (suc n) ∷ bytes) x fits e = absurd cc

held_again : (o : Option ValueRow) (rest : List ℕ) → IsValueHeld o → held_at (held_text o ++ rest) ≡ Some (o, rest)
unfolding held_at held_text
held_again None rest form = refl
held_again (Some v) rest form = ap (λ o. o >>= λ s. Some (Some s.0, s.1)) (value_codec.again v rest form)

held_codec : Codec held_text IsValueHeld held_at
held_codec = record { takes = held_takes; again = held_again }

region_made : IsMade (λ (x : InodeId × (ℕ × Option ValueRow)). inode_text x.0 ++ (to_be_bytes w16 x.1.0 ++ held_text x.1.1))
    (λ x. IsInode x.0 × ((x.1.0 < 2 ^ 16) × IsValueHeld x.1.1))
    region_text IsRegionRow make_region (λ r. (r.inode, (r.number, r.value)))
unfolding region_text
region_made = record {
  text = λ x form. refl;
  form = λ x form. record { inode = form.0; number = form.1.0; value = form.1.1 };
  back = λ r form. (form.inode, (form.number, form.value));
  same = λ r form. refl;
}

region_codec : Codec region_text IsRegionRow region_change_at
unfolding region_change_at
region_codec = codec_as region_made (codec_then inode_codec (λ i f. codec_then codec16 (λ n g. held_codec)))

regions_codec : Codec regions_text AreRegions regions_at
unfolding regions_text regions_at
regions_codec = codec_form
    (λ cs form. record { count = form.0.0; each = form.0.1; ascend = form.1 })
    (λ cs form. ((form.count, form.each), form.ascend))
    (codec_only (ascends region_before) (counted_codec w32 (2 ^ 32) codec32 region_codec))

-- ---- all changes

changes_made : IsMade (λ (x : ℕ × (ℕ × (List PathChange × (List FileChange × List RegionChangeRow)))).
    to_be_bytes w64 x.0 ++ (to_be_bytes w64 x.1.0 ++ (paths_text x.1.1.0 ++ (files_text x.1.1.1.0 ++ regions_text x.1.1.1.1))))
    (λ x. (x.0 < 2 ^ 64) × ((x.1.0 < 2 ^ 64) × (ArePaths x.1.1.0 × (AreFiles x.1.1.1.0 × AreRegions x.1.1.1.1))))
    changes_text AreChanges make_changes (λ x. (x.installs, (x.next_tx, (x.paths, (x.files, x.regions)))))
unfolding changes_text
changes_made = record {
  text = λ x form. refl;
  form = λ x form. record { installs = form.0; next_tx = form.1.0; paths = form.1.1.0; files = form.1.1.1.0; regions = form.1.1.1.1 };
  back = λ x form. (form.installs, (form.next_tx, (form.paths, (form.files, form.regions))));
  same = λ x form. refl;
}

changes_codec : Codec changes_text AreChanges changes_at
unfolding changes_at
changes_codec = codec_as changes_made (codec_then codec64
    (λ n f. codec_then codec64 (λ t g. codec_then paths_codec (λ ps h. codec_then files_codec (λ fs i. regions_codec)))))

-- what is read has these bytes for its text
pub changes_takes : (bytes : List ℕ) (x : ChangeRows) → IsBytes bytes → changes_of bytes ≡ Some x → AreChanges x × (bytes ≡ changes_text x)
unfolding changes_of
changes_takes bytes x fits e =
    let a = bind_some (changes_at bytes) (λ x. cond (eqb (length x.1) 0) (Some x.0) None) x e in
    let g = passed (eqb (length a.0.1) 0) a.0.0 x a.2 in
    let t = changes_codec.takes bytes a.0 fits a.1 in
    let nothing : a.0.1 ≡ [] = nil_from_length a.0.1 (eqb-true _ _ g.0) in
    let whole : bytes ≡ changes_text a.0.0 = t.0.parts ∙ ap (λ (r : List ℕ). changes_text a.0.0 ++ r) nothing ∙ append-nil (changes_text a.0.0) in
    subst (λ (v : ChangeRows). AreChanges v × (bytes ≡ changes_text v)) g.1 (t.1, whole)

-- and a text is read as what has it
pub changes_again : (x : ChangeRows) → AreChanges x → changes_of (changes_text x) ≡ Some x
unfolding changes_of
changes_again x form =
    let read : changes_at (changes_text x) ≡ Some (x, []) = ap changes_at (sym (append-nil (changes_text x))) ∙ changes_codec.again x [] form in
    ap (λ o. o >>= λ x. cond (eqb (length x.1) 0) (Some x.0) None) read

-- two changes of one text are the same, and no text of changes is the front of another's
pub one_changes : (x y : ChangeRows) (rest : List ℕ) → AreChanges x → AreChanges y → changes_text y ≡ changes_text x ++ rest → (x ≡ y) × (rest ≡ [])
one_changes x y rest form its e =
    let left : changes_at (changes_text y) ≡ Some (x, rest) = ap changes_at e ∙ changes_codec.again x rest form in
    let right : changes_at (changes_text y) ≡ Some (y, []) = ap changes_at (sym (append-nil (changes_text y))) ∙ changes_codec.again y [] its in
    let same : (x, rest) ≡ (y, []) = some_is (x, rest) (y, []) (sym left ∙ right) in
    (ap (λ (p : ChangeRows × List ℕ). p.0) same, ap (λ (p : ChangeRows × List ℕ). p.1) same)
