-- A path cut at its last slash: the name, and the directory that it stands in.
use Rattle.std.proofs.Common.{append_assoc, take, ◌≡◌, ◌≢◌, ℕ, ◌+◌, ◌<◌, ◌≤◌, Bool, true, false, List, [], ◌∷◌, ◌++◌, length, Some, refl, sym, ap, ◌∙◌, subst, arith, length-append}
use Rattle.std.specs.Prelude.{codes, ◌==◌}
use Rattle.std.specs.List.{All, slice_split}
use Rattle.std.proofs.lemmas.Bool.{false_from_ne_true, eqb-true}
use Rattle.std.proofs.lemmas.List.Elements.{All-nil, All-cons, All-head, All-tail, All-weaker}
use Rattle.std.proofs.lemmas.List.Splits.{slice_split_none, join_with_byte-slice_split}
use Rattle.wtf_path.specs.Grammar.{IsName, IsPath, spelling}
use Rattle.wtf_path.specs.Parts.{is_slash, names_of, last_name, without_last, name_of, parent_of, parent_with, entry_prefix}
use Rattle.wtf_path.specs.Slashes.{IsAroundLast}
use Rattle.wtf_path.proofs.Splits.{HasNoSlash, parts_of-some, split-last}
use Rattle.wtf_path.proofs.Refused.{parts_of-join}

-- the names of a path are those that it is spelled by
names_of-path : (text : List ℕ) (path : IsPath text) → names_of text ≡ path.names
names_of-path text path = rw path.spelled (parts_of-join path.names path.each)

pub names-are_names : (text : List ℕ) → IsPath text → All IsName (names_of text)
names-are_names text path = subst (All IsName) (sym (names_of-path text path)) path.each

pub names-at_most_32 : (text : List ℕ) → IsPath text → length (names_of text) ≤ 32
names-at_most_32 text path = rw (names_of-path text path) path.depth

last_name-append : (ns : List (List ℕ)) (n : List ℕ) → last_name (ns ++ n ∷ []) ≡ n
last_name-append [] n = refl
last_name-append (m ∷ []) n = refl
last_name-append (m ∷ k ∷ ns) n = last_name-append (k ∷ ns) n

without_last-append : (ns : List (List ℕ)) (n : List ℕ) → without_last (ns ++ n ∷ []) ≡ ns
without_last-append [] n = refl
without_last-append (m ∷ []) n = refl
without_last-append (m ∷ k ∷ ns) n = ap (λ ns. m ∷ ns) (without_last-append (k ∷ ns) n)

parent_with-append : (ns : List (List ℕ)) (n : List ℕ) → parent_with (ns ++ n ∷ []) ≡ Some (spelling ns)
parent_with-append [] n = refl
parent_with-append (m ∷ ns) n = ap (λ ns. Some (spelling ns)) (without_last-append (m ∷ ns) n)

all-front : (P : List ℕ → Type 0) (ns : List (List ℕ)) (n : List ℕ) → All P (ns ++ n ∷ []) → All P ns
all-front P [] n all = All-nil P
all-front P (m ∷ ns) n all = All-cons P m ns (All-head P m (ns ++ n ∷ []) all) (all-front P ns n (All-tail P m (ns ++ n ∷ []) all))

all-last : (P : List ℕ → Type 0) (ns : List (List ℕ)) (n : List ℕ) → All P (ns ++ n ∷ []) → P n
all-last P [] n all = All-head P n [] all
all-last P (m ∷ ns) n all = all-last P ns n (All-tail P m (ns ++ n ∷ []) all)

clear-after : (after : List ℕ) → All (λ b. b ≢ 47) after → HasNoSlash after
clear-after after last =
    All-weaker (λ b. b ≢ 47) (λ b. is_slash b ≡ false) (λ b ne. false_from_ne_true (is_slash b) (λ e. ne (eqb-true b 47 e))) after last

-- the names in front of the last slash
abbrev front_names : List ℕ → List (List ℕ)
front_names [] = []
front_names (b ∷ bs) = slice_split is_slash bs

-- behind the root's slash stands no name, and behind each other last slash the last one
names-around : (before after : List ℕ) → HasNoSlash after → 0 < length before + length after → names_of (before ++ 47 ∷ after) ≡ front_names before ++ after ∷ []
names-around [] [] clear some = absurd (omega arith)
names-around [] (b ∷ bs) clear some = slice_split_none is_slash (b ∷ bs) clear
names-around (f ∷ fs) after clear some =
    parts_of-some (fs ++ 47 ∷ after) (omega (arith, length-append fs (47 ∷ after))) ∙ split-last fs after clear

name_of-around : (before after : List ℕ) → HasNoSlash after → name_of (before ++ 47 ∷ after) ≡ after
name_of-around [] [] clear = refl
name_of-around [] (b ∷ bs) clear = ap last_name (names-around [] (b ∷ bs) clear (omega arith))
name_of-around (f ∷ fs) after clear =
    ap last_name (names-around (f ∷ fs) after clear (omega arith)) ∙ last_name-append (slice_split is_slash fs) after

parent_of-around : (before after : List ℕ) → HasNoSlash after → 0 < length before + length after → parent_of (before ++ 47 ∷ after) ≡ Some (spelling (front_names before))
parent_of-around before after clear some =
    ap parent_with (names-around before after clear some) ∙ parent_with-append (front_names before) after

all-around : (before after : List ℕ) → HasNoSlash after → 0 < length before + length after → IsPath (before ++ 47 ∷ after) → All IsName (front_names before ++ after ∷ [])
all-around before after clear some path =
    subst (All IsName) (names-around before after clear some) (names-are_names (before ++ 47 ∷ after) path)

last-is_name : (before after : List ℕ) → HasNoSlash after → IsPath (before ++ 47 ∷ after) → before ++ 47 ∷ after ≢ codes "/" → IsName after
last-is_name [] [] clear path other = absurd (other refl)
last-is_name [] (b ∷ bs) clear path other = all-last IsName [] (b ∷ bs) (all-around [] (b ∷ bs) clear (omega arith) path)
last-is_name (f ∷ fs) after clear path other =
    all-last IsName (slice_split is_slash fs) after (all-around (f ∷ fs) after clear (omega arith) path)

-- what stands behind the last slash is the name
pub name-cut : (text before after : List ℕ) → IsAroundLast text before after → after ≡ name_of text
name-cut text before after cut = rw cut.joined (sym (name_of-around before after (clear-after after cut.last)))

pub name-is_name : (text before after : List ℕ) → IsAroundLast text before after → IsPath text → text ≢ codes "/" → IsName after
name-is_name text before after cut path other = last-is_name before after (clear-after after cut.last) (subst IsPath cut.joined path)
    (λ e. other (cut.joined ∙ e))

-- that parent is the directory of a path
pub record IsParent (text parent : List ℕ) : Type 0 where
  pub value : Some parent ≡ parent_of text
  pub well_formed : IsPath parent
  pub prefix : (rest : List ℕ) × (text ≡ parent ++ rest)
  pub joined : text ≡ entry_prefix parent ++ name_of text

root-is_parent : (after : List ℕ) → HasNoSlash after → 0 < length after → IsParent (47 ∷ after) (47 ∷ [])
root-is_parent after clear some = record {
  value = sym (parent_of-around [] after clear (omega arith));
  well_formed = record { names = []; spelled = refl; each = All-nil IsName; depth = omega arith; size = omega arith };
  prefix = (after, refl);
  joined = rw (name_of-around [] after clear) refl;
}

begins : (f : ℕ) (fs after : List ℕ) → IsPath ((f ∷ fs) ++ 47 ∷ after) → f ≡ 47
begins f fs after path = let e = path.spelled in cc

front-is_path : (fs after : List ℕ) → HasNoSlash after → IsPath ((47 ∷ fs) ++ 47 ∷ after) → IsPath (47 ∷ fs)
front-is_path fs after clear path =
    let all = all-around (47 ∷ fs) after clear (omega arith) path in
    let depth : length (slice_split is_slash fs ++ after ∷ []) ≤ 32 =
    subst (λ ns. length ns ≤ 32) (names-around (47 ∷ fs) after clear (omega arith)) (names-at_most_32 ((47 ∷ fs) ++ 47 ∷ after) path) in
    record {
      names = slice_split is_slash fs;
      spelled = rw (join_with_byte-slice_split 47 fs) refl;
      each = all-front IsName (slice_split is_slash fs) after all;
      depth = omega (arith, length-append (slice_split is_slash fs) (after ∷ []));
      size = let size = path.size in omega (arith, length-append fs (47 ∷ after));
    }

front-is_parent : (fs after : List ℕ) → HasNoSlash after → IsPath ((47 ∷ fs) ++ 47 ∷ after) → IsParent ((47 ∷ fs) ++ 47 ∷ after) (47 ∷ fs)
front-is_parent [] after clear path =
    let all = all-around (47 ∷ []) after clear (omega arith) path in
    absurd ((All-head IsName [] (after ∷ []) all).some refl)
front-is_parent (g ∷ gs) after clear path = record {
  value = sym (parent_of-around (47 ∷ g ∷ gs) after clear (omega arith) ∙ ap (λ t. Some (47 ∷ t)) (join_with_byte-slice_split 47 (g ∷ gs)));
  well_formed = front-is_path (g ∷ gs) after clear path;
  prefix = (47 ∷ after, refl);
  joined = rw (name_of-around (47 ∷ g ∷ gs) after clear) (sym (append_assoc (47 ∷ g ∷ gs) (47 ∷ []) after));
}

some-is_parent : (f : ℕ) (fs after : List ℕ) → HasNoSlash after → IsPath ((f ∷ fs) ++ 47 ∷ after) → IsParent ((f ∷ fs) ++ 47 ∷ after) (f ∷ fs)
some-is_parent f fs after clear path =
    let P : ℕ → Type 0 = λ b. IsPath ((b ∷ fs) ++ 47 ∷ after) → IsParent ((b ∷ fs) ++ 47 ∷ after) (b ∷ fs) in
    subst P (sym (begins f fs after path)) (front-is_parent fs after clear) path

-- where nothing stands before the last slash, the parent is the root
pub parent-root : (path text before after : List ℕ) (b : Bool) → text ≡ path → IsAroundLast text before after → b ≡ (length before == 0) → b ≡ true → (length text ≡ 1 → ⊥) → IsParent path (take 1 text)
parent-root path text [] after b same cut e is some =
    let size : (length (47 ∷ after) ≡ 1 → ⊥) = subst (λ t. length t ≡ 1 → ⊥) cut.joined some in
    subst (λ t. IsParent t (take 1 text)) same (rw cut.joined (root-is_parent after (clear-after after cut.last) (omega arith)))
parent-root path text (f ∷ fs) after b same cut e is some =
    let k = eqb-true (length (f ∷ fs)) 0 (sym e ∙ is) in absurd (omega arith)

-- else it is what stands before the last slash
pub parent-before : (path text before after : List ℕ) (b : Bool) → text ≡ path → IsAroundLast text before after → b ≡ (length before == 0) → b ≡ false → IsPath path → IsParent path before
parent-before path text [] after b same cut e is-not valid = absurd cc
parent-before path text (f ∷ fs) after b same cut e is-not valid =
    let joined = sym same ∙ cut.joined in
    rw joined (some-is_parent f fs after (clear-after after cut.last) (subst IsPath joined valid))
