-- A text is a path exactly where nothing is refused.
use Rattle.std.proofs.Common.{◌≡◌, ◌≢◌, ℕ, ◌<◌, ◌≤◌, Bool, true, false, List, [], ◌∷◌, length, Option, Some, None, refl, sym, ap, ◌∙◌, subst, arith, length-append}
use Rattle.std.specs.Prelude.{not, ◌&&◌, ◌==◌, ◌↔◌, nat_lt, if◌then◌else◌, IsNone}
use Rattle.std.specs.List.{All, list_any, join_with_byte}
use Rattle.std.proofs.lemmas.Bool.{false_from_ne_true, not-false, ltb-false, le-ltb, eqb-true, or_parts}
use Rattle.std.proofs.lemmas.Bool.Decides.{nat_tests}
use Rattle.std.proofs.lemmas.List.Elements.{All-nil, All-cons, All-head, All-tail, All-append, All-weaker}
use Rattle.std.proofs.lemmas.List.Folds.{list_any_none}
use Rattle.wtf_path.specs.declared.error.PathError.{PathError}
use Rattle.wtf_path.specs.declared.error.PathError.TheVariants.{Empty, NotAbsolute, BadByte, TooLong, TooDeep, DotName}
use Rattle.wtf_path.specs.Grammar.{IsName, IsPath, spelling}
use Rattle.wtf_path.specs.Parts.{is_slash, parts_of, names_of}
use Rattle.wtf_path.specs.Refusals.{is_empty, begins_with_slash, is_graphic, is_dot_name, has_bad_byte, refusal}
use Rattle.wtf_path.proofs.Splits.{Within, HasNoSlash, parts_of-some, parts_of_within, join-parts_of, split-join}

-- a byte of a name
abbrev pub IsNameByte : ℕ → Type 0
IsNameByte b = (33 ≤ b) × (b ≤ 126) × (b ≢ 47)

abbrev pub IsGraphic : ℕ → Type 0
IsGraphic b = is_graphic b ≡ true

graphic-from_range : (b : ℕ) → 33 ≤ b → b ≤ 126 → IsGraphic b
graphic-from_range b low high = grind (arith, nat_tests)

range-from_graphic : (b : ℕ) → IsGraphic b → (33 ≤ b) × (b ≤ 126)
range-from_graphic b h = grind (arith, nat_tests)

name-has_no_slash : (n : List ℕ) → IsName n → HasNoSlash n
name-has_no_slash n name =
    All-weaker IsNameByte (λ b. is_slash b ≡ false) (λ b p. false_from_ne_true (is_slash b) (λ e. p.2 (eqb-true b 47 e))) n name.bytes

name-is_graphic : (n : List ℕ) → IsName n → All IsGraphic n
name-is_graphic n name = All-weaker IsNameByte IsGraphic (λ b p. graphic-from_range b p.0 p.1) n name.bytes

name-some : (n : List ℕ) → IsName n → 0 < length n
name-some [] name = absurd (name.some refl)
name-some (b ∷ bs) name = omega arith

name-not_dots : (n : List ℕ) → IsName n → is_dot_name n ≡ false
name-not_dots [] name = absurd (name.some refl)
name-not_dots (a ∷ []) name = false_from_ne_true (a == 46) (λ e. name.not_dot (ap (λ x. x ∷ []) (eqb-true a 46 e)))
name-not_dots (a ∷ b ∷ []) name =
    false_from_ne_true (a == 46 && b == 46) (λ e. name.not_dot_dot (let k : (a ≡ 46) × (b ≡ 46) = grind (arith, nat_tests) in cc))
name-not_dots (a ∷ b ∷ c ∷ n) name = refl

name-from_parts : (n : List ℕ) → is_dot_name n ≡ false → All (Within IsGraphic) n → IsName n
name-from_parts n dots bytes = record {
  some = λ e. let k : is_dot_name n ≡ true = ap is_dot_name e in cc;
  not_dot = λ e. let k : is_dot_name n ≡ true = ap is_dot_name e in cc;
  not_dot_dot = λ e. let k : is_dot_name n ≡ true = ap is_dot_name e in cc;
  bytes = All-weaker (Within IsGraphic) IsNameByte (λ b p.
      let r = range-from_graphic b p.0 in (r.0, r.1, λ e. let k : is_slash b ≡ true = ap is_slash e in let f = p.1 in cc)) n bytes;
}

names-from_parts : (ns : List (List ℕ)) → list_any is_dot_name ns ≡ false → All (All (Within IsGraphic)) ns → All IsName ns
names-from_parts [] dots all = All-nil IsName
names-from_parts (n ∷ ns) dots all =
    let here = or_parts (is_dot_name n) (list_any is_dot_name ns) dots in
    All-cons IsName n ns (name-from_parts n here.0 (All-head (All (Within IsGraphic)) n ns all))
    (names-from_parts ns here.1 (All-tail (All (Within IsGraphic)) n ns all))

graphic-from_none : (bs : List ℕ) → has_bad_byte bs ≡ false → All IsGraphic bs
graphic-from_none [] h = All-nil IsGraphic
graphic-from_none (b ∷ bs) h =
    let here = or_parts (not (is_graphic b)) (has_bad_byte bs) h in
    All-cons IsGraphic b bs (not-false (is_graphic b) here.0) (graphic-from_none bs here.1)

joined_some : (n : List ℕ) (ns : List (List ℕ)) → 0 < length n → 0 < length (join_with_byte 47 (n ∷ ns))
joined_some n [] h = h
joined_some n (m ∷ ns) h = omega (arith, length-append n (47 ∷ join_with_byte 47 (m ∷ ns)))

-- the names of a path are those that spell it
pub parts_of-join : (ns : List (List ℕ)) → All IsName ns → parts_of (join_with_byte 47 ns) ≡ ns
parts_of-join [] all = refl
parts_of-join (n ∷ ns) all =
    parts_of-some (join_with_byte 47 (n ∷ ns)) (joined_some n ns (name-some n (All-head IsName n ns all)))
    ∙ split-join n ns (All-weaker IsName HasNoSlash name-has_no_slash (n ∷ ns) all)

joined_all : (P : ℕ → Type 0) → P 47 → (ns : List (List ℕ)) → All (All P) ns → All P (join_with_byte 47 ns)
joined_all P slash [] all = All-nil P
joined_all P slash (n ∷ []) all = All-head (All P) n [] all
joined_all P slash (n ∷ m ∷ ns) all =
    All-append P n (47 ∷ join_with_byte 47 (m ∷ ns)) (All-head (All P) n (m ∷ ns) all)
    (All-cons P 47 (join_with_byte 47 (m ∷ ns)) slash (joined_all P slash (m ∷ ns) (All-tail (All P) n (m ∷ ns) all)))

-- the refusals in their order
abbrev chain : Bool → Bool → Bool → Bool → Bool → Bool → Option PathError
chain a b c d e f =
    if a then Some Empty
    else (if not b then Some NotAbsolute
    else (if c then Some BadByte
    else (if d then Some TooLong
    else (if e then Some TooDeep
    else (if f then Some DotName
    else None)))))

chain-none : (a b c d e f : Bool) → a ≡ false → b ≡ true → c ≡ false → d ≡ false → e ≡ false → f ≡ false → chain a b c d e f ≡ None
chain-none a b c d e f ha hb hc hd he hf = rw (ha, hb, hc, hd, he, hf) refl

record Passes (a b c d e f : Bool) : Type 0 where
  some : a ≡ false
  absolute : b ≡ true
  bytes : c ≡ false
  size : d ≡ false
  depth : e ≡ false
  names : f ≡ false

passes : (a b c d e f : Bool) → chain a b c d e f ≡ None → Passes a b c d e f
passes true b c d e f h = absurd cc
passes false false c d e f h = absurd cc
passes false true true d e f h = absurd cc
passes false true false true e f h = absurd cc
passes false true false false true f h = absurd cc
passes false true false false false true h = absurd cc
passes false true false false false false h =
    record { some = refl; absolute = refl; bytes = refl; size = refl; depth = refl; names = refl }

some-not_empty : (b : ℕ) (bs : List ℕ) → is_empty (b ∷ bs) ≡ false
some-not_empty b bs = false_from_ne_true (is_empty (b ∷ bs)) (λ e. let k = eqb-true (length (b ∷ bs)) 0 e in absurd (omega arith))

spelled_none : (ns : List (List ℕ)) → All IsName ns → length ns ≤ 32 → length (spelling ns) ≤ 1023 → refusal (spelling ns) ≡ None
spelled_none ns all depth size =
    let names = parts_of-join ns all in
    let bytes : All IsGraphic (spelling ns) =
    All-cons IsGraphic 47 (join_with_byte 47 ns) refl (joined_all IsGraphic refl ns (All-weaker IsName (All IsGraphic) name-is_graphic ns all)) in
    chain-none (is_empty (spelling ns)) (begins_with_slash (spelling ns)) (has_bad_byte (spelling ns)) (nat_lt 1023 (length (spelling ns)))
    (nat_lt 32 (length (names_of (spelling ns)))) (list_any is_dot_name (names_of (spelling ns)))
    (some-not_empty 47 (join_with_byte 47 ns)) refl
    (list_any_none (λ b. not (is_graphic b)) (spelling ns) (All-weaker IsGraphic (λ b. not (is_graphic b) ≡ false) (λ b p. ap not p) (spelling ns) bytes))
    (le-ltb 1023 (length (spelling ns)) size)
    (le-ltb 32 (length (names_of (spelling ns))) (rw names depth))
    (rw names (list_any_none is_dot_name ns (All-weaker IsName (λ n. is_dot_name n ≡ false) name-not_dots ns all)))

pub refused_none : (text : List ℕ) → IsPath text → refusal text ≡ None
refused_none text path =
    let size : length (spelling path.names) ≤ 1023 = subst (λ t. length t ≤ 1023) path.spelled path.size in
    rw path.spelled (spelled_none path.names path.each path.depth size)

pub path-from_none : (text : List ℕ) → refusal text ≡ None → IsPath text
path-from_none [] none = absurd cc
path-from_none (s ∷ bs) none =
    let p = passes (is_empty (s ∷ bs)) (begins_with_slash (s ∷ bs)) (has_bad_byte (s ∷ bs)) (nat_lt 1023 (length (s ∷ bs)))
    (nat_lt 32 (length (parts_of bs))) (list_any is_dot_name (parts_of bs)) none in
    let slash : s ≡ 47 = eqb-true s 47 p.absolute in
    record {
      names = parts_of bs;
      spelled = rw (join-parts_of bs) (ap (λ b. b ∷ bs) slash);
      each = names-from_parts (parts_of bs) p.names (parts_of_within IsGraphic bs (All-tail IsGraphic s bs (graphic-from_none (s ∷ bs) p.bytes)));
      depth = ltb-false 32 (length (parts_of bs)) p.depth;
      size = ltb-false 1023 (length (s ∷ bs)) p.size;
    }

none-from_is : (o : Option PathError) → IsNone o → o ≡ None
none-from_is None h = refl
none-from_is (Some e) h = absurd cc

-- nothing is refused of paths, and of them alone
pub grammar : (text : List ℕ) → IsNone (refusal text) ↔ IsPath text
grammar text = (λ h. path-from_none text (none-from_is (refusal text) h), λ path. subst IsNone (sym (refused_none text path)) refl)
