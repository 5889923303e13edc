-- Lists that are written are read again, and what is read was written.
use Rattle.std.proofs.Common.{◌≡◌, ℕ, ◌+◌, ◌-◌, ◌^◌, ◌<◌, ◌≤◌, true, false, Bool, cond, eqb, List, [], ◌∷◌, ◌++◌, length, Some, None, refl, sym, ap, subst, ◌∙◌, arith}
use Rattle.std.specs.List.{AllByRecursion}
use Rattle.std.specs.Int.{w32}
use Rattle.std.proofs.lemmas.Bool.{eqb-true}
use Rattle.std.proofs.lemmas.Slice.Eq.{bytes_eq-Decides}
use Rattle.std.proofs.lemmas.List.{append-nil, nil_from_length, length-map, length-append}
use Rattle.std.proofs.lemmas.List.Elements.{All-cons, All-head, All-tail}
use Rattle.wtf_overlay.specs.declared.part.Entry.{Entry}
use Rattle.wtf_overlay.specs.declared.error.NotCompact.{NotCompact}
use Rattle.wtf_overlay.specs.declared.error.NotCompact.TheVariants as cause
use Rattle.wtf_overlay.specs.Causes.{IsCause}
use Rattle.wtf_overlay.specs.Clips.{Within}
use Rattle.wtf_overlay.specs.Compact.{IsCompact, is_compact}
use Rattle.wtf_overlay.specs.Rows.{EntryRow, entry_row, entry_rows}
use Rattle.wtf_overlay.specs.Texts.{entries_text}
use Rattle.wtf_overlay.specs.Shapes.{IsEntry, AreEntries, HaveWidths}
use Rattle.wtf_overlay.specs.Reading.{◌>>=◌, counted_at, entry_at}
use Rattle.wtf_overlay.specs.Made.{entries_by}
use Rattle.wtf_overlay.specs.Spilled.{list_magic, is_list_magic, encoded, rows_at, rows_in, only_compact, decoded}
use Rattle.wtf_overlay.proofs.Clipping.{Within-nil}
use Rattle.wtf_overlay.proofs.Shown.{compact_count}
use Rattle.wtf_overlay.proofs.Tested.{test_compact, compact_test, entries_again, entries_made}
use Rattle.wtf_spillfmt.specs.declared.error.ListError.{ListError}
use Rattle.wtf_spillfmt.specs.declared.error.ListError.TheVariants as error
use Rattle.wtf_spillfmt.specs.Parses.{IsNoneOr, no_list_by}
use Rattle.wtf_spillfmt.specs.Lists.{AreBytes}
use Rattle.wtf_spillfmt.proofs.Codecs.{Codec, IsBytes, some_is, bind_some, passed, codec_then, codec_only, counted_codec, codec32, text_codec}
use Rattle.wtf_spillfmt.proofs.Forms.{entry_codec}

-- ---- rows

pub entries_codec : (end : ℕ) → Codec entries_text (λ es. (length es < 2 ^ 32) × AllByRecursion (IsEntry end) es) (counted_at w32 (entry_at end))
unfolding entries_text
entries_codec end = counted_codec w32 (2 ^ 32) codec32 (entry_codec end)

rows_codec : (region : ℕ) → Codec (λ (x : List ℕ × List EntryRow). x.0 ++ entries_text x.1)
    (λ x. ((length x.0 ≡ 4) × (is_list_magic x.0 ≡ true)) × ((length x.1 < 2 ^ 32) × AllByRecursion (IsEntry region) x.1)) (rows_at region)
unfolding rows_at
rows_codec region = codec_then (codec_only is_list_magic (text_codec 4)) (λ m f. entries_codec region)

-- rows are read of their text
rows_again : (region : ℕ) (rows : List EntryRow) → (length rows < 2 ^ 32) → AllByRecursion (IsEntry region) rows → rows_in region (list_magic ++ entries_text rows) ≡ Some rows
unfolding rows_in
rows_again region rows few form =
    let text = list_magic ++ entries_text rows in
    let read : rows_at region text ≡ Some ((list_magic, rows), []) =
    ap (rows_at region) (sym (append-nil text)) ∙ (rows_codec region).again (list_magic, rows) [] ((refl, refl), (few, form)) in
    ap (λ o. o >>= λ x. cond (eqb (length x.1) 0) (Some x.0.1) None) read

-- and what is read has these bytes for its text
rows_taken : (region : ℕ) (bytes : List ℕ) (rows : List EntryRow) → IsBytes bytes → rows_in region bytes ≡ Some rows
    → (bytes ≡ list_magic ++ entries_text rows) × AllByRecursion (IsEntry region) rows
unfolding rows_in
rows_taken region bytes rows fits e =
    let a = bind_some (rows_at region bytes) (λ x. cond (eqb (length x.1) 0) (Some x.0.1) None) rows e in
    let g = passed (eqb (length a.0.1) 0) a.0.0.1 rows a.2 in
    let t = (rows_codec region).takes bytes a.0 fits a.1 in
    let nothing : a.0.1 ≡ [] = nil_from_length a.0.1 (eqb-true _ _ g.0) in
    let m : a.0.0.0 ≡ list_magic = (bytes_eq-Decides a.0.0.0 list_magic).0 t.1.0.1 in
    let whole : bytes ≡ list_magic ++ entries_text a.0.0.1 =
    t.0.parts ∙ ap (λ (r : List ℕ). (a.0.0.0 ++ entries_text a.0.0.1) ++ r) nothing ∙ append-nil (a.0.0.0 ++ entries_text a.0.0.1)
    ∙ ap (λ (k : List ℕ). k ++ entries_text a.0.0.1) m in
    subst (λ (v : List EntryRow). (bytes ≡ list_magic ++ entries_text v) × AllByRecursion (IsEntry region) v) g.1 (whole, t.1.1.1)

-- ---- lists

form_of : (region : ℕ) (es : List Entry) → HaveWidths es → Within region es → AllByRecursion (IsEntry region) (entry_rows es)
form_of region [] wide within = tt
form_of region (e ∷ es) wide within =
    let fits : e.off + e.len < 2 ^ 32 = e.fits in
    let some : 0 < e.len = e.positive in (
      record {
        off = omega arith;
        len = omega arith;
        some = some;
        within = All-head (λ (e : Entry). e.off + e.len ≤ region) e es within;
        part = wide.0;
      },
      form_of region es wide.1 (All-tail (λ (e : Entry). e.off + e.len ≤ region) e es within),
    )

-- entries that were written can be counted, and each is in form
pub form_of_all : (region : ℕ) (es : List Entry) → length es < 2 ^ 32 → HaveWidths es → Within region es → AreEntries region (entry_rows es)
form_of_all region es few wide within = (subst (λ (n : ℕ). n < 2 ^ 32) (sym (length-map es entry_row)) few, form_of region es wide within)

below_last : (es : List Entry) → Within (2 ^ 32 - 1) es
below_last [] = Within-nil (2 ^ 32 - 1)
below_last (e ∷ es) = let fits : e.off + e.len < 2 ^ 32 = e.fits in All-cons (λ (e : Entry). e.off + e.len ≤ 2 ^ 32 - 1) e es (omega arith) (below_last es)

pub few_rows : (es : List Entry) → IsCompact es → length (entry_rows es) < 2 ^ 32
few_rows es c = let few : length es ≤ 2 ^ 32 - 1 = compact_count (2 ^ 32 - 1) es c (below_last es) in omega (arith, few, length-map es entry_row)

pub compact_only : (es : List Entry) → IsCompact es → only_compact es ≡ Some es
compact_only es c = ap (λ b. cond b (Some es) None) (compact_test es c)

-- a list is read of its bytes
pub round : (region : ℕ) (es : List Entry) → HaveWidths es → IsCompact es → Within region es → decoded region (encoded es) ≡ Some es
unfolding encoded decoded
round region es wide c within =
    ap (λ o. o >>= λ rows. entries_by rows >>= only_compact) (rows_again region (entry_rows es) (few_rows es c) (form_of region es wide within))
    ∙ ap (λ o. o >>= only_compact) (entries_again es)
    ∙ compact_only es c

record IsRead (region : ℕ) (bytes : List ℕ) (es : List Entry) : Type 0 where
  rows : List EntryRow
  read : rows_in region bytes ≡ Some rows
  made : entries_by rows ≡ Some es
  compact : is_compact es ≡ true

read_of : (region : ℕ) (bytes : List ℕ) (es : List Entry) → decoded region bytes ≡ Some es → IsRead region bytes es
unfolding decoded
read_of region bytes es e =
    let a = bind_some (rows_in region bytes) (λ rows. entries_by rows >>= only_compact) es e in
    let b = bind_some (entries_by a.0) only_compact es a.2 in
    let g = passed (is_compact b.0) b.0 es b.2 in
    record {
      rows = a.0;
      read = a.1;
      made = b.1 ∙ ap Some g.1;
      compact = sym (ap is_compact g.1) ∙ g.0;
    }

-- what was read is compact
pub read_compact : (region : ℕ) (bytes : List ℕ) (es : List Entry) → decoded region bytes ≡ Some es → IsCompact es
read_compact region bytes es e = test_compact es (read_of region bytes es e).compact

-- and has these bytes for its encoding
pub read_bytes : (region : ℕ) (bytes : List ℕ) (es : List Entry) → AreBytes bytes → decoded region bytes ≡ Some es → bytes ≡ encoded es
unfolding encoded
read_bytes region bytes es fits e =
    let r = read_of region bytes es e in
    let t = rows_taken region bytes r.rows fits r.read in
    t.0 ∙ ap (λ (rows : List EntryRow). list_magic ++ entries_text rows) (sym (entries_made r.rows es r.made))

within_rows : (region : ℕ) (es : List Entry) → AllByRecursion (IsEntry region) (entry_rows es) → Within region es
within_rows region [] form = Within-nil region
within_rows region (e ∷ es) form = All-cons (λ (e : Entry). e.off + e.len ≤ region) e es form.0.within (within_rows region es form.1)

-- and lies inside the region
pub read_within : (region : ℕ) (bytes : List ℕ) (es : List Entry) → AreBytes bytes → decoded region bytes ≡ Some es → Within region es
read_within region bytes es fits e =
    let r = read_of region bytes es e in
    let t = rows_taken region bytes r.rows fits r.read in
    within_rows region es (subst (λ (rows : List EntryRow). AllByRecursion (IsEntry region) rows) (sym (entries_made r.rows es r.made)) t.1)

-- two lists of one text are the same, and no list's bytes are the front of another's
pub apart : (es fs : List Entry) (rest : List ℕ) → HaveWidths es → HaveWidths fs → IsCompact es → IsCompact fs → encoded fs ≡ encoded es ++ rest → (es ≡ fs) × (rest ≡ [])
unfolding encoded
apart es fs rest wide its compact also is =
    let region : ℕ = 2 ^ 32 - 1 in
    let first = (rows_codec region).again (list_magic, entry_rows es) rest ((refl, refl), (few_rows es compact, form_of region es wide (below_last es))) in
    let second = (rows_codec region).again (list_magic, entry_rows fs) [] ((refl, refl), (few_rows fs also, form_of region fs its (below_last fs))) in
    let left : rows_at region (encoded fs) ≡ Some ((list_magic, entry_rows es), rest) = ap (rows_at region) is ∙ first in
    let right : rows_at region (encoded fs) ≡ Some ((list_magic, entry_rows fs), []) = ap (rows_at region) (sym (append-nil (encoded fs))) ∙ second in
    let same = some_is ((list_magic, entry_rows es), rest) ((list_magic, entry_rows fs), []) (sym left ∙ right) in
    let rows : entry_rows es ≡ entry_rows fs = ap (λ (p : (List ℕ × List EntryRow) × List ℕ). p.0.1) same in
    (some_is es fs (sym (entries_again es) ∙ ap entries_by rows ∙ entries_again fs), ap (λ (p : (List ℕ × List EntryRow) × List ℕ). p.1) same)

pub some_bytes : (es : List Entry) → 0 < length (encoded es)
unfolding encoded
some_bytes es =
    let four : length list_magic ≡ 4 = refl in
    omega (arith, four, length-append list_magic (entries_text (entry_rows es)))

-- ---- what decode answers

pub decoded_of : (region : ℕ) (bytes : List ℕ) (es : List Entry) → rows_in region bytes ≡ Some (entry_rows es) → decoded region bytes ≡ only_compact es
unfolding decoded
decoded_of region bytes es read =
    ap (λ o. o >>= λ rows. entries_by rows >>= only_compact) read ∙ ap (λ o. o >>= only_compact) (entries_again es)

pub decoded_none : (region : ℕ) (bytes : List ℕ) → rows_in region bytes ≡ None → decoded region bytes ≡ None
unfolding decoded
decoded_none region bytes none = ap (λ o. o >>= λ rows. entries_by rows >>= only_compact) none

-- a refusal of the rows is one of the list
pub none_decoded : (region : ℕ) (bytes : List ℕ) (why : ListError) → IsNoneOr (rows_in region bytes) why → IsNoneOr (decoded region bytes) why
none_decoded region bytes error.NotAList h = decoded_none region bytes h
none_decoded region bytes error.Memory h = tt

-- and so is one of the entries
pub only_decoded : (region : ℕ) (bytes : List ℕ) (es : List Entry) (why : ListError) → rows_in region bytes ≡ Some (entry_rows es) → IsNoneOr (only_compact es) why → IsNoneOr (decoded region bytes) why
only_decoded region bytes es why read h = subst (λ o. IsNoneOr o why) (sym (decoded_of region bytes es read)) h

test_fails : (es : List Entry) → (IsCompact es → ⊥) → is_compact es ≡ false
test_fails es not = by_test es not (is_compact es) refl
  where
    by_test : (es : List Entry) → (IsCompact es → ⊥) → (b : Bool) → is_compact es ≡ b → is_compact es ≡ false
    by_test es not true is = absurd (not (test_compact es is))
    by_test es not false is = is

pub not_only : (es : List Entry) → (IsCompact es → ⊥) → only_compact es ≡ None
not_only es not = ap (λ b. cond b (Some es) None) (test_fails es not)

-- entries that are refused are no list
pub refused : (region : ℕ) (es : List Entry) (why : NotCompact) → Within region es → IsCause region es why → IsNoneOr (only_compact es) (no_list_by why)
refused region es cause.Zeros within h = not_only es (λ c. h c.slices)
refused region es cause.Order within h = not_only es (λ c. h c.disjoint)
refused region es cause.Joins within h = not_only es (λ c. h c.joined)
refused region es cause.Past within h = absurd (h within)
refused region es cause.Memory within h = tt
