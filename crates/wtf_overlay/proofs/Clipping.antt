-- Lists cut at an end: which entries are left, and where their bytes come from.
use Rattle.std.proofs.Common.{◌≡◌, ℕ, ◌+◌, ◌-◌, ◌<◌, ◌≤◌, ◌^◌, ◌⊎◌, ◌++◌, max, List, [], ◌∷◌, map, get_or, take, length, refl, ap, sym, ◌∙◌, arith, inl, inr}
use mathlib.Core.HLevel.{is_prop→PathP}
use Rattle.std.specs.Coded.{le_prop}
use Rattle.std.proofs.lemmas.Bool.{cases_lt}
use Rattle.std.proofs.lemmas.List.{append-nil, append_assoc, take_more}
use Rattle.std.proofs.lemmas.List.Elements.{All-nil, All-cons, All-append, All-push, All-head, All-tail, All-weaker}
use Rattle.wtf_base.specs.declared.pointer.Pointer.{Pointer}
use Rattle.wtf_base.specs.declared.slice.Slice.{Slice}
use Rattle.wtf_base.specs.declared.slice.Extent.{Extent}
use Rattle.wtf_base.specs.declared.slice.Extents.{Extents}
use Rattle.wtf_base.specs.declared.slice.Extents.TheVariants.{One, Two, Three}
use Rattle.wtf_base.specs.Extents.{IsSound, IsSound_prop, pointer_to, pointers_to}
use Rattle.wtf_base.specs.Pointers.{part_of}
use Rattle.wtf_base.specs.Slices.{pointers_of}
use Rattle.wtf_overlay.specs.Lengths.{HasLength, HasLength_prop}
use Rattle.wtf_overlay.specs.declared.part.Part.{Part}
use Rattle.wtf_overlay.specs.declared.part.Part.TheVariants.{Zero, Held}
use Rattle.wtf_overlay.specs.declared.part.Entry.{Entry}
use Rattle.wtf_overlay.specs.Origin.{Place, place_in, part_origin, over, origin_from}
use Rattle.wtf_overlay.specs.Parts.{IsCut}
use Rattle.wtf_overlay.specs.Clips.{Within, slice_front, in_slice, part_front, front, below_end, below_end_some, below_end_within, clip_case, clip_entry, clip_list}
use Rattle.wtf_overlay.proofs.Origins.{over_before, over_after, over_within, within_past}

-- no entry at all ends past any end
pub Within-nil : (end : ℕ) → Within end []
Within-nil end = All-nil (λ (e : Entry). e.off + e.len ≤ end)

pub Within-weaker : (n m : ℕ) (es : List Entry) → n ≤ m → Within n es → Within m es
Within-weaker n m es le within =
    All-weaker (λ (e : Entry). e.off + e.len ≤ n) (λ (e : Entry). e.off + e.len ≤ m) (λ e k. omega arith) es within

pub Within-append : (n : ℕ) (es fs : List Entry) → Within n es → Within n fs → Within n (es ++ fs)
Within-append n es fs first next = All-append (λ (e : Entry). e.off + e.len ≤ n) es fs first next

-- one entry more
pub Within-push : (n : ℕ) (es : List Entry) (e : Entry) → Within n es → Within (max n (e.off + e.len)) (es ++ e ∷ [])
Within-push n es e within =
    let m = max n (e.off + e.len) in
    All-push (λ (e : Entry). e.off + e.len ≤ m) es e (Within-weaker n m es (omega arith) within) (omega arith)

Within-case : (end : ℕ) (e : Entry) (c : (e.off < end) ⊎ (end ≤ e.off)) → Within end (clip_case end e c)
Within-case end e (inl below) =
    All-cons (λ (e : Entry). e.off + e.len ≤ end) _ [] (omega arith) (All-nil (λ (e : Entry). e.off + e.len ≤ end))
Within-case end e (inr past) = All-nil (λ (e : Entry). e.off + e.len ≤ end)

-- nothing passes the end at which a list was cut
pub Within-clip : (end : ℕ) (es : List Entry) → Within end (clip_list end es)
Within-clip end [] = Within-nil end
Within-clip end (e ∷ es) = Within-append end (clip_entry end e) (clip_list end es) (Within-case end e (cases_lt e.off end)) (Within-clip end es)

-- entries are equal where their fields are
pub entry_eq : (x y : Entry) → x.off ≡ y.off → x.len ≡ y.len → x.part ≡ y.part → x ≡ y
entry_eq x y o l p = λ i. record {
  off = o i;
  len = l i;
  part = p i;
  positive = is_prop→PathP (λ j. 0 < l j) (λ j. le_prop) x.positive y.positive i;
  fits = is_prop→PathP (λ j. o j + l j < 2 ^ 32) (λ j. le_prop) x.fits y.fits i;
  held = is_prop→PathP (λ j. HasLength (l j) (p j)) (λ j. HasLength_prop (l j) (p j)) x.held y.held i;
}

-- and slices where their lengths and extents are
pub slice_eq : (s t : Slice) → s.len ≡ t.len → s.extents ≡ t.extents → s ≡ t
slice_eq s t l e = λ i. record {
  len = l i;
  extents = e i;
  sound = is_prop→PathP (λ j. IsSound (l j) (e j)) (λ j. IsSound_prop (l j) (e j)) s.sound t.sound i;
}

same_extent : (m n l : ℕ) (a b : Extent) → pointer_to m a ≡ part_of 0 n (pointer_to l b) → (m ≡ n) × (a ≡ b)
same_extent m n l a b h =
    let server : a.server ≡ b.server = ap (λ (p : Pointer). p.server) h in
    let file : a.file ≡ b.file = ap (λ (p : Pointer). p.file) h in
    let at : a.at ≡ b.at = ap (λ (p : Pointer). p.at) h ∙ omega arith in
    (ap (λ (p : Pointer). p.len) h, λ i. record { server = server i; file = file i; at = at i })

same_extents : (m n l : ℕ) (x y : Extents) → pointers_to m x ≡ map (part_of 0 n) (pointers_to l y) → (m ≡ n) × (x ≡ y)
same_extents m n l (One a) (One d) h =
    let p = same_extent m n l a d (ap (λ (ps : List Pointer). get_or ps 0 (pointer_to m a)) h) in
    (p.0, ap One p.1)
same_extents m n l (Two a b) (Two d e) h =
    let p = same_extent m n l a d (ap (λ (ps : List Pointer). get_or ps 0 (pointer_to m a)) h) in
    let q = same_extent m n l b e (ap (λ (ps : List Pointer). get_or ps 1 (pointer_to m a)) h) in
    (p.0, λ i. Two (p.1 i) (q.1 i))
same_extents m n l (Three a b c) (Three d e f) h =
    let p = same_extent m n l a d (ap (λ (ps : List Pointer). get_or ps 0 (pointer_to m a)) h) in
    let q = same_extent m n l b e (ap (λ (ps : List Pointer). get_or ps 1 (pointer_to m a)) h) in
    let r = same_extent m n l c f (ap (λ (ps : List Pointer). get_or ps 2 (pointer_to m a)) h) in
    (p.0, λ i. Three (p.1 i) (q.1 i) (r.1 i))
same_extents m n l (One a) (Two d e) h = absurd (cc)
same_extents m n l (One a) (Three d e f) h = absurd (cc)
same_extents m n l (Two a b) (One d) h = absurd (cc)
same_extents m n l (Two a b) (Three d e f) h = absurd (cc)
same_extents m n l (Three a b c) (One d) h = absurd (cc)
same_extents m n l (Three a b c) (Two d e) h = absurd (cc)

-- a slice cut from its start is its front
cut_front : (s t : Slice) (n : ℕ) (some : 0 < n) (le : n ≤ s.len) → pointers_of t ≡ map (part_of 0 n) (pointers_of s) → t ≡ slice_front n s some le
cut_front s t n some le h =
    let both = same_extents t.len n s.len t.extents s.extents h in
    slice_eq t (slice_front n s some le) both.0 both.1

-- and so is a part
pub cut_part_front : (n m : ℕ) (p q : Part) (len : HasLength m p) (some : 0 < n) (le : n ≤ m) → IsCut 0 n p q → q ≡ part_front n m p len some le
cut_part_front n m Zero Zero len some le cut = refl
cut_part_front n m Zero (Held t) len some le cut = absurd cut
cut_part_front n m (Held s) Zero len some le cut = absurd cut
cut_part_front n m (Held s) (Held t) len some le cut = ap Held (cut_front s t n some (in_slice n m s len le) cut)

front_case : (end : ℕ) (e x : Entry) (below : e.off < end) (c : (e.off < end) ⊎ (end ≤ e.off))
    → x ≡ front (below_end end e) e (below_end_some end e below) (below_end_within end e) → clip_case end e c ≡ x ∷ []
front_case end e x below (inl l) is =
    ap (λ (h : e.off < end). front (below_end end e) e (below_end_some end e h) (below_end_within end e) ∷ []) (le_prop l below) ∙ ap (λ (w : Entry). w ∷ []) (sym is)
front_case end e x below (inr past) is = absurd (omega arith)

-- what is left of an entry that begins below the end
pub clip_entry_front : (end : ℕ) (e x : Entry) (below : e.off < end) → x.off ≡ e.off → x.len ≡ below_end end e
    → x.part ≡ part_front (below_end end e) e.len e.part e.held (below_end_some end e below) (below_end_within end e)
    → clip_entry end e ≡ x ∷ []
clip_entry_front end e x below o l p = front_case end e x below (cases_lt e.off end)
    (entry_eq x (front (below_end end e) e (below_end_some end e below) (below_end_within end e)) o l p)

case_none : (end : ℕ) (e : Entry) (c : (e.off < end) ⊎ (end ≤ e.off)) → end ≤ e.off → clip_case end e c ≡ []
case_none end e (inl l) h = absurd (omega arith)
case_none end e (inr past) h = refl

-- and of one that begins at the end or above
pub clip_entry_none : (end : ℕ) (e : Entry) → end ≤ e.off → clip_entry end e ≡ []
clip_entry_none end e h = case_none end e (cases_lt e.off end) h

pub clip_list-append : (end : ℕ) (es fs : List Entry) → clip_list end (es ++ fs) ≡ clip_list end es ++ clip_list end fs
clip_list-append end [] fs = refl
clip_list-append end (e ∷ es) fs =
    ap (λ l. clip_entry end e ++ l) (clip_list-append end es fs) ∙ sym (append_assoc (clip_entry end e) (clip_list end es) (clip_list end fs))

pub clip_list-push : (end : ℕ) (es : List Entry) (e : Entry) → clip_list end (es ++ e ∷ []) ≡ clip_list end es ++ clip_entry end e
clip_list-push end es e = clip_list-append end es (e ∷ []) ∙ ap (λ l. clip_list end es ++ l) (append-nil (clip_entry end e))

front_all : (n m : ℕ) (p : Part) (len : HasLength m p) (some : 0 < n) (le : n ≤ m) → n ≡ m → part_front n m p len some le ≡ p
front_all n m Zero len some le is = refl
front_all n m (Held s) len some le is = ap Held (slice_eq (slice_front n s some (in_slice n m s len le)) s (is ∙ sym len) refl)

-- an entry that does not pass the end is left as it is
pub clip_entry_within : (end : ℕ) (e : Entry) → e.off + e.len ≤ end → clip_entry end e ≡ e ∷ []
clip_entry_within end e within =
    let below : e.off < end = omega (arith, e.positive) in
    let all : below_end end e ≡ e.len = omega arith in
    clip_entry_front end e e below refl (sym all)
    (sym (front_all (below_end end e) e.len e.part e.held (below_end_some end e below) (below_end_within end e) all))

-- and so is a list of such
pub clip_list_within : (end : ℕ) (es : List Entry) → Within end es → clip_list end es ≡ es
clip_list_within end [] within = refl
clip_list_within end (e ∷ es) within =
    let first : e.off + e.len ≤ end = All-head (λ (e : Entry). e.off + e.len ≤ end) e es within in
    let rest = clip_list_within end es (All-tail (λ (e : Entry). e.off + e.len ≤ end) e es within) in
    ap (λ l. l ++ clip_list end es) (clip_entry_within end e first) ∙ ap (λ l. e ∷ l) rest

places_front : (n m i : ℕ) (e : Extents) → map (place_in i) (pointers_to n e) ≡ map (place_in i) (pointers_to m e)
places_front n m i (One a) = refl
places_front n m i (Two a b) = refl
places_front n m i (Three a b c) = refl

part_origin-front : (n m : ℕ) (p : Part) (len : HasLength m p) (some : 0 < n) (le : n ≤ m) (i : ℕ)
    → part_origin (part_front n m p len some le) i ≡ part_origin p i
part_origin-front n m Zero len some le i = refl
part_origin-front n m (Held s) len some le i = places_front n s.len i s.extents

over_front : (end : ℕ) (e : Entry) (below : List Place) (x : ℕ) (l : e.off < end) → x < end
    → over (front (below_end end e) e (below_end_some end e l) (below_end_within end e)) x below ≡ over e x below
over_front end e below x l h =
    let f = front (below_end end e) e (below_end_some end e l) (below_end_within end e) in
    elim (cases_lt x e.off) [
      | inl before ↦ over_before f x below before ∙ sym (over_before e x below before)
      | inr from ↦ elim (cases_lt x (e.off + e.len)) [
        | inl to ↦ over_within f x below from (omega arith)
            ∙ part_origin-front (below_end end e) e.len e.part e.held (below_end_some end e l) (below_end_within end e) (x - e.off)
            ∙ sym (over_within e x below from to)
        | inr past ↦ over_after f x below (omega arith) ∙ sym (over_after e x below past)
      ]
    ]

clip_more : (end : ℕ) (e : Entry) (es : List Entry) (below : List Place) (x : ℕ) (c : (e.off < end) ⊎ (end ≤ e.off)) → x < end
    → ((b : List Place) → origin_from b (clip_list end es) x ≡ origin_from b es x)
    → origin_from below (clip_case end e c ++ clip_list end es) x ≡ origin_from (over e x below) es x
clip_more end e es below x (inl l) h rest =
    ap (λ w. origin_from w (clip_list end es) x) (over_front end e below x l h) ∙ rest (over e x below)
clip_more end e es below x (inr past) h rest =
    rest below ∙ ap (λ w. origin_from w es x) (sym (over_before e x below (omega arith)))

-- below the end at which it was cut a list shows what it did
pub clip_below : (below : List Place) (end : ℕ) (es : List Entry) (x : ℕ) → x < end → origin_from below (clip_list end es) x ≡ origin_from below es x
clip_below below end [] x h = refl
clip_below below end (e ∷ es) x h = clip_more end e es below x (cases_lt e.off end) h (λ b. clip_below b end es x h)

-- and from there on what is below it
pub clip_past : (below : List Place) (end : ℕ) (es : List Entry) (x : ℕ) → end ≤ x → origin_from below (clip_list end es) x ≡ below
clip_past below end es x past = within_past below end (clip_list end es) x (Within-clip end es) past

-- one entry more, which was read
pub clip_list_more : (end : ℕ) (es : List Entry) (i : ℕ) (e : Entry) → i < length es → get_or es i e ≡ e
    → clip_list end (take (i + 1) es) ≡ clip_list end (take i es) ++ clip_entry end e
clip_list_more end es i e h is = ap (clip_list end) (take_more es i e h ∙ ap (λ w. take i es ++ w ∷ []) is) ∙ clip_list-push end (take i es) e
