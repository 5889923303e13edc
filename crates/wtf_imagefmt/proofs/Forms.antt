-- The text and the reader of each record of an image belong together, and those of the whole image.
use Rattle.std.proofs.Common.{◌≡◌, ℕ, zero, suc, ◌^◌, ◌<◌, Bool, true, false, ◌||◌, cond, eqb, List, [], ◌∷◌, ◌++◌, length, Option, Some, None, refl, sym, ap}
use Rattle.std.proofs.Common.{subst, ◌∙◌, arith}
use Rattle.std.specs.Prelude.{IsNone, is_none, bytes_eq, ⊤}
use Rattle.std.specs.List.{AllByRecursion}
use Rattle.std.specs.Int.{w16, w32, w64, to_be_bytes}
use Rattle.std.proofs.lemmas.Bool.{eqb-true}
use Rattle.std.proofs.lemmas.Slice.Eq.{bytes_eq-Decides}
use Rattle.std.proofs.lemmas.List.{append-nil, nil_from_length}
use Rattle.wtf_base.specs.declared.ids.InodeId.{InodeId}
use Rattle.wtf_path.specs.Grammar.{IsPath}
use Rattle.wtf_path.specs.Refusals.{refusal}
use Rattle.wtf_path.proofs.Refused.{grammar}
use Rattle.wtf_values.specs.declared.value.Node.{Node}
use Rattle.wtf_values.specs.declared.value.Node.TheVariants.{Folder, File}
use Rattle.wtf_overlay.specs.Texts.{entries_text}
use Rattle.wtf_overlay.specs.Shapes.{IsEntry}
use Rattle.wtf_overlay.specs.Reading.{◌>>=◌, counted_at}
use Rattle.wtf_spillfmt.proofs.Codecs.{Codec, IsBytes, IsBytes-rest, Takes, IsMade, some_is, bind_some, passed, codec_then, codec_as, codec_form, codec_only}
use Rattle.wtf_spillfmt.proofs.Codecs.{counted_codec, byte_codec, codec16, codec32, codec64, text_codec}
use Rattle.wtf_spillfmt.proofs.Lists.{entries_codec}
use Rattle.wtf_imagefmt.specs.declared.records.Version.{Version}
use Rattle.wtf_imagefmt.specs.declared.records.Version.TheVariants.{One, Two}
use Rattle.wtf_imagefmt.specs.declared.records.Header.{Header}
use Rattle.wtf_imagefmt.specs.declared.records.PathRecord.{PathRecord}
use Rattle.wtf_imagefmt.specs.Rows.{BaseRow, EntryRow, ValueRow, RegionRow, FileRow, ImageRows}
use Rattle.wtf_imagefmt.specs.Texts.{base_text, value_text, region_text, regions_text, inode_text, file_text, files_text, node_text, name_text, path_text}
use Rattle.wtf_imagefmt.specs.Texts.{paths_text, magic_of, header_text, image_text}
use Rattle.wtf_imagefmt.specs.Shapes.{ascends, path_before, file_before, region_before, IsBase, IsValue, IsRegion, IsInode, IsFileRow, IsNode, IsPathRow}
use Rattle.wtf_imagefmt.specs.Shapes.{IsHeader, ArePaths, AreFiles, IsImage}
use Rattle.wtf_imagefmt.specs.Reading.{make_value, value_at, make_region, region_at, make_inode, inode_at, make_file, file_at, node_at, is_path, name_at}
use Rattle.wtf_imagefmt.specs.Reading.{make_path, path_at, path_records_at, files_at, is_magic, version_of, version_at, make_header, header_at, make_image}
use Rattle.wtf_imagefmt.specs.Reading.{image_at, image_of}
use Rattle.wtf_imagefmt.proofs.BaseForms.{base_codec}

-- ---- regions

value_made : IsMade (λ (x : ℕ × (Option BaseRow × List EntryRow)). to_be_bytes w32 x.0 ++ (base_text x.1.0 ++ entries_text x.1.1))
    (λ x. (x.0 < 2 ^ 32) × (IsBase x.0 x.1.0 × ((length x.1.1 < 2 ^ 32) × AllByRecursion (IsEntry x.0) x.1.1)))
    value_text IsValue make_value (λ v. (v.end, (v.base, v.entries)))
unfolding value_text
value_made = record {
  text = λ x form. refl;
  form = λ x form. record { end = form.0; base = form.1.0; count = form.1.1.0; entries = form.1.1.1 };
  back = λ v form. (form.end, (form.base, (form.count, form.entries)));
  same = λ v form. refl;
}

pub value_codec : Codec value_text IsValue value_at
unfolding value_at
value_codec = codec_as value_made (codec_then codec32 (λ end f. codec_then (base_codec end) (λ base g. entries_codec end)))

region_made : IsMade (λ (x : ℕ × ValueRow). to_be_bytes w16 x.0 ++ value_text x.1) (λ x. (x.0 < 2 ^ 16) × IsValue x.1)
    region_text IsRegion make_region (λ r. (r.number, record { end = r.end; base = r.base; entries = r.entries }))
unfolding region_text value_text
region_made = record {
  text = λ x form. refl;
  form = λ x form. record { number = form.0; end = form.1.end; base = form.1.base; count = form.1.count; entries = form.1.entries };
  back = λ r form. (form.number, record { end = form.end; base = form.base; count = form.count; entries = form.entries });
  same = λ r form. refl;
}

pub region_codec : Codec region_text IsRegion region_at
unfolding region_at
region_codec = codec_as region_made (codec_then codec16 (λ number f. value_codec))

regions_codec : Codec regions_text (λ rs. (length rs < 2 ^ 16) × AllByRecursion IsRegion rs) (counted_at w16 region_at)
unfolding regions_text
regions_codec = counted_codec w16 (2 ^ 16) codec16 region_codec

-- ---- inodes and files

inode_made : IsMade (λ (x : ℕ × ℕ). to_be_bytes w64 x.0 ++ to_be_bytes w32 x.1) (λ x. (x.0 < 2 ^ 64) × (x.1 < 2 ^ 32)) inode_text IsInode make_inode
    (λ i. (i.tx.0, i.index))
unfolding inode_text
inode_made = record {
  text = λ x form. refl;
  form = λ x form. record { tx = form.0; index = form.1 };
  back = λ i form. (form.tx, form.index);
  same = λ i form. refl;
}

pub inode_codec : Codec inode_text IsInode inode_at
unfolding inode_at
inode_codec = codec_as inode_made (codec_then codec64 (λ tx f. codec32))

file_made : IsMade (λ (x : InodeId × (ℕ × List RegionRow)). inode_text x.0 ++ (to_be_bytes w16 x.1.0 ++ regions_text x.1.1))
    (λ x. IsInode x.0 × ((x.1.0 < 2 ^ 16) × (((length x.1.1 < 2 ^ 16) × AllByRecursion IsRegion x.1.1) × (ascends region_before x.1.1 ≡ true))))
    file_text IsFileRow make_file (λ f. (f.inode, (f.last, f.regions)))
unfolding file_text
file_made = record {
  text = λ x form. refl;
  form = λ x form. record { inode = form.0; last = form.1.0; count = form.1.1.0.0; regions = form.1.1.0.1; ascend = form.1.1.1 };
  back = λ f form. (form.inode, (form.last, ((form.count, form.regions), form.ascend)));
  same = λ f form. refl;
}

pub file_codec : Codec file_text IsFileRow file_at
unfolding file_at
file_codec = codec_as file_made (codec_then inode_codec (λ inode f. codec_then codec16 (λ last g. codec_only (ascends region_before) regions_codec)))

pub files_codec : Codec files_text AreFiles files_at
unfolding files_text files_at
files_codec = codec_form
    (λ fs form. record { count = form.0.0; each = form.0.1; ascend = form.1 })
    (λ fs form. ((form.count, form.each), form.ascend))
    (codec_only (ascends file_before) (counted_codec w32 (2 ^ 32) codec32 file_codec))

-- ---- paths

node_takes : (bytes : List ℕ) (x : Node × List ℕ) → IsBytes bytes → node_at bytes ≡ Some x → Takes bytes (node_text x.0) x.1 × IsNode x.0
unfolding node_at node_text
node_takes [] x fits e = absurd cc
node_takes (zero ∷ bytes) x fits e =
    subst (λ (y : Node × List ℕ). Takes (0 ∷ bytes) (node_text y.0) y.1 × IsNode y.0) (some_is (Folder, bytes) x e)
    (record { parts = refl; rest_fits = IsBytes-rest 0 bytes fits }, tt)
node_takes (suc zero ∷ bytes) x fits e =
    let b = bind_some (inode_at bytes) (λ s. Some (File s.0, s.1)) x e in
    let t = inode_codec.takes bytes b.0 (IsBytes-rest 1 bytes fits) b.1 in
    subst (λ (y : Node × List ℕ). Takes (1 ∷ bytes) (node_text y.0) y.1 × IsNode y.0) (some_is (File b.0.0, b.0.1) x b.2)
    (record { parts = ap (λ (w : List ℕ). 1 ∷ w) t.0.parts; rest_fits = t.0.rest_fits }, t.1)
node_takes (suc (suc n) ∷ bytes) x fits e = absurd cc

node_again : (o : Node) (rest : List ℕ) → IsNode o → node_at (node_text o ++ rest) ≡ Some (o, rest)
unfolding node_at node_text
node_again Folder rest form = refl
node_again (File i) rest form = ap (λ o. o >>= λ s. Some (File s.0, s.1)) (inode_codec.again i rest form)

pub node_codec : Codec node_text IsNode node_at
node_codec = record { takes = node_takes; again = node_again }

none_is : {A : Type 0} (o : Option A) → is_none o ≡ true → IsNone o
none_is None h = refl
none_is (Some x) h = absurd (cc)

is_none-none : {A : Type 0} (o : Option A) → IsNone o → is_none o ≡ true
is_none-none None h = refl
is_none-none (Some x) h = absurd (cc)

name_made : IsMade (λ (x : ℕ × List ℕ). to_be_bytes w16 x.0 ++ x.1) (λ x. (x.0 < 2 ^ 16) × (length x.1 ≡ x.0)) name_text (λ p. length p < 2 ^ 16) (λ x. x.1)
    (λ p. (length p, p))
unfolding name_text
name_made = record {
  text = λ x form. ap (λ (n : ℕ). to_be_bytes w16 n ++ x.1) form.1;
  form = λ x form. subst (λ (n : ℕ). n < 2 ^ 16) (sym form.1) form.0;
  back = λ p form. (form, refl);
  same = λ p form. refl;
}

pub name_codec : Codec name_text IsPath name_at
unfolding name_at
name_codec = codec_form
    (λ p form. (grammar p).0 (none_is (refusal p) form.1))
    (λ p form. (omega (arith, form.size), is_none-none (refusal p) ((grammar p).1 form)))
    (codec_only is_path (codec_as name_made (codec_then codec16 (λ n f. text_codec n))))

path_made : IsMade (λ (x : List ℕ × Node). name_text x.0 ++ node_text x.1) (λ x. IsPath x.0 × IsNode x.1) path_text IsPathRow make_path (λ r. (r.path, r.node))
unfolding path_text
path_made = record {
  text = λ x form. refl;
  form = λ x form. record { path = form.0; node = form.1 };
  back = λ r form. (form.path, form.node);
  same = λ r form. refl;
}

pub path_codec : Codec path_text IsPathRow path_at
unfolding path_at
path_codec = codec_as path_made (codec_then name_codec (λ p f. node_codec))

pub paths_codec : Codec paths_text ArePaths path_records_at
unfolding paths_text path_records_at
paths_codec = codec_form
    (λ rs form. record { count = form.0.0; each = form.0.1; ascend = form.1 })
    (λ rs form. ((form.count, form.each), form.ascend))
    (codec_only (ascends path_before) (counted_codec w32 (2 ^ 32) codec32 path_codec))

-- ---- the whole image

magic_read : (m : List ℕ) (b : Bool) → bytes_eq m (magic_of One) ≡ b → (b || bytes_eq m (magic_of Two)) ≡ true → magic_of (cond b One Two) ≡ m
magic_read m true is h = sym ((bytes_eq-Decides m (magic_of One)).0 is)
magic_read m false is h = sym ((bytes_eq-Decides m (magic_of Two)).0 h)

magic_form : (v : Version) → (length (magic_of v) ≡ 8) × (is_magic (magic_of v) ≡ true)
magic_form One = (refl, refl)
magic_form Two = (refl, refl)

version_again : (v : Version) → version_of (magic_of v) ≡ v
version_again One = refl
version_again Two = refl

version_made : IsMade (λ (m : List ℕ). m) (λ m. (length m ≡ 8) × (is_magic m ≡ true)) magic_of (λ v. ⊤) version_of magic_of
version_made = record {
  text = λ m form. magic_read m (bytes_eq m (magic_of One)) refl form.1;
  form = λ m form. tt;
  back = λ v form. magic_form v;
  same = λ v form. version_again v;
}

version_codec : Codec magic_of (λ v. ⊤) version_at
unfolding version_at
version_codec = codec_as version_made (codec_only is_magic (text_codec 8))

header_made : IsMade (λ (x : ℕ × (ℕ × (ℕ × (ℕ × ℕ)))).
    (x.0 ∷ []) ++ ((x.1.0 ∷ []) ++ (to_be_bytes w32 x.1.1.0 ++ (to_be_bytes w64 x.1.1.1.0 ++ to_be_bytes w64 x.1.1.1.1))))
    (λ x. (x.0 < 2 ^ 8) × ((x.1.0 < 2 ^ 8) × ((x.1.1.0 < 2 ^ 32) × ((x.1.1.1.0 < 2 ^ 64) × (x.1.1.1.1 < 2 ^ 64)))))
    header_text IsHeader make_header (λ h. (h.servers, (h.replicas, (h.region, (h.installs, h.next_tx)))))
unfolding header_text
header_made = record {
  text = λ x form. refl;
  form = λ x form. record { servers = form.0; replicas = form.1.0; region = form.1.1.0; installs = form.1.1.1.0; next_tx = form.1.1.1.1 };
  back = λ h form. (form.servers, (form.replicas, (form.region, (form.installs, form.next_tx))));
  same = λ h form. refl;
}

header_codec : Codec header_text IsHeader header_at
unfolding header_at
header_codec = codec_as header_made (codec_then byte_codec
    (λ a f. codec_then byte_codec (λ b g. codec_then codec32 (λ c h. codec_then codec64 (λ d i. codec64)))))

image_made : IsMade (λ (x : Version × (Header × (List PathRecord
    × List FileRow))). magic_of x.0 ++ (header_text x.1.0 ++ (paths_text x.1.1.0 ++ files_text x.1.1.1)))
    (λ x. ⊤ × (IsHeader x.1.0 × (ArePaths x.1.1.0 × AreFiles x.1.1.1)))
    image_text IsImage make_image (λ x. (x.version, (x.header, (x.paths, x.files))))
unfolding image_text
image_made = record {
  text = λ x form. refl;
  form = λ x form. record { header = form.1.0; paths = form.1.1.0; files = form.1.1.1 };
  back = λ x form. (tt, (form.header, (form.paths, form.files)));
  same = λ x form. refl;
}

image_codec : Codec image_text IsImage image_at
unfolding image_at
image_codec = codec_as image_made (codec_then version_codec (λ v f. codec_then header_codec (λ h g. codec_then paths_codec (λ ps i. files_codec))))

magic_some : (v : Version) (rest : List ℕ) → magic_of v ++ rest ≡ [] → ⊥
magic_some One rest none = cc
magic_some Two rest none = cc

-- no image is the text of no byte
pub text_some : (x : ImageRows) (bytes : List ℕ) → bytes ≡ image_text x → bytes ≡ [] → ⊥
unfolding image_text
text_some x bytes text none = magic_some x.version (header_text x.header ++ (paths_text x.paths ++ files_text x.files)) (sym text ∙ none)

-- what is read has these bytes for its text
pub image_takes : (bytes : List ℕ) (x : ImageRows) → IsBytes bytes → image_of bytes ≡ Some x → IsImage x × (bytes ≡ image_text x)
unfolding image_of
image_takes bytes x fits e =
    let a = bind_some (image_at bytes) (λ x. cond (eqb (length x.1) 0) (Some x.0) None) x e in
    let g = passed (eqb (length a.0.1) 0) a.0.0 x a.2 in
    let t = image_codec.takes bytes a.0 fits a.1 in
    let nothing : a.0.1 ≡ [] = nil_from_length a.0.1 (eqb-true _ _ g.0) in
    let whole : bytes ≡ image_text a.0.0 = t.0.parts ∙ ap (λ (r : List ℕ). image_text a.0.0 ++ r) nothing ∙ append-nil (image_text a.0.0) in
    subst (λ (v : ImageRows). IsImage v × (bytes ≡ image_text v)) g.1 (t.1, whole)

-- and a text is read as what has it
pub image_again : (x : ImageRows) → IsImage x → image_of (image_text x) ≡ Some x
unfolding image_of
image_again x form =
    let read : image_at (image_text x) ≡ Some (x, []) = ap image_at (sym (append-nil (image_text x))) ∙ image_codec.again x [] form in
    ap (λ o. o >>= λ x. cond (eqb (length x.1) 0) (Some x.0) None) read

-- two images of one text are the same, and no text of an image is the front of another's
pub one_image : (x y : ImageRows) (rest : List ℕ) → IsImage x → IsImage y → image_text y ≡ image_text x ++ rest → (x ≡ y) × (rest ≡ [])
one_image x y rest form its e =
    let left : image_at (image_text y) ≡ Some (x, rest) = ap image_at e ∙ image_codec.again x rest form in
    let right : image_at (image_text y) ≡ Some (y, []) = ap image_at (sym (append-nil (image_text y))) ∙ image_codec.again y [] its in
    let same : (x, rest) ≡ (y, []) = some_is (x, rest) (y, []) (sym left ∙ right) in
    (ap (λ (p : ImageRows × List ℕ). p.0) same, ap (λ (p : ImageRows × List ℕ). p.1) same)
