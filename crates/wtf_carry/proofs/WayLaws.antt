-- The directories on the way to a path.
use Rattle.std.proofs.Common.{◌≡◌, ℕ, ◌+◌, ◌<◌, ◌≤◌, List, [], ◌∷◌, ◌++◌, length, codes, Some, None, refl, sym, ap, ◌∙◌, arith, append_assoc}
use Rattle.std.specs.Prelude.{All}
use Rattle.std.specs.List.{join_with_byte}
use Rattle.std.proofs.lemmas.List.{length-append, append-nil}
use Rattle.std.proofs.lemmas.List.Elements.{All-head, All-tail}
use Rattle.wtf_path.specs.Grammar.{IsName, IsPath, spelling}
use Rattle.wtf_path.specs.Parts.{names_of, without_last, parent_with, parent_of}
use Rattle.wtf_path.proofs.Refused.{parts_of-join}
use Rattle.wtf_model.specs.Tree.{root}
use Rattle.wtf_script.specs.ScriptLines.{line_feed}
use Rattle.wtf_carry.specs.Asked.{asked_text, mkdir_line}
use Rattle.wtf_carry.specs.Ways.{mkdirs, HasWays}
use Rattle.wtf_carry.proofs.Carried.{text_of-append}

names-are : (p : List ℕ) (is : IsPath p) → names_of p ≡ is.names
names-are p is = ap names_of is.spelled ∙ parts_of-join is.names is.each

no-names : (ns : List (List ℕ)) → parent_with ns ≡ None → ns ≡ []
no-names [] e = refl
no-names (n ∷ ns) e = absurd cc

pub no-parent : (p : List ℕ) → IsPath p → parent_of p ≡ None → p ≡ root
no-parent p is e = is.spelled ∙ ap spelling (no-names is.names (ap parent_with (sym (names-are p is)) ∙ e))

joined-more : (n : List ℕ) (xs : List (List ℕ)) → length (join_with_byte 47 (n ∷ xs)) ≤ length n + 1 + length (join_with_byte 47 xs)
joined-more n [] = omega arith
joined-more n (x ∷ xs) = omega (arith, length-append n (47 ∷ join_with_byte 47 (x ∷ xs)))

some-bytes : (n : List ℕ) → IsName n → 0 < length n
some-bytes [] is = absurd (is.some refl)
some-bytes (b ∷ bs) is = omega arith

shorter-names : (n : List ℕ) (ns : List (List ℕ)) → All IsName (n ∷ ns)
    → length (join_with_byte 47 (without_last (n ∷ ns))) < length (join_with_byte 47 (n ∷ ns))
shorter-names n [] each = some-bytes n (All-head IsName n [] each)
shorter-names n (m ∷ ns) each =
    omega (
      arith,
      length-append n (47 ∷ join_with_byte 47 (m ∷ ns)),
      joined-more n (without_last (m ∷ ns)),
      shorter-names m ns
          (All-tail IsName n (m ∷ ns) each),
    )

shorter-parent : (ns : List (List ℕ)) (d : List ℕ) → All IsName ns → parent_with ns ≡ Some d → length d < length (spelling ns)
shorter-parent [] d each e = absurd cc
shorter-parent (n ∷ ns) d each e =
    let k : spelling (without_last (n ∷ ns)) ≡ d = cc in
    omega (arith, ap length k, shorter-names n ns each)

-- the directory that a path stands in is shorter
pub shorter : (p d : List ℕ) → IsPath p → parent_of p ≡ Some d → length d < length p
shorter p d is e = omega (arith, shorter-parent is.names d is.each (ap parent_with (sym (names-are p is)) ∙ e), ap length is.spelled)

pub ways-more : (path d old then now : List ℕ) → parent_of path ≡ Some d → (length d ≡ 1 → ⊥) → IsPath d → HasWays d old then
    → now ≡ then ++ ((codes "c0 mkdir " ++ d) ++ line_feed ∷ []) → HasWays path old now
ways-more path d old then now e long is h to = record {
  up = d ∷ h.up;
  is = (e, (λ k. long (ap length k)), is, h.is);
  new_is = to ∙ ap (λ (l : List ℕ). l ++ ((codes "c0 mkdir " ++ d) ++ line_feed ∷ [])) h.new_is
      ∙ append_assoc old (asked_text (mkdirs h.up)) ((codes "c0 mkdir " ++ d) ++ line_feed ∷ [])
      ∙ ap (λ (l : List ℕ). old ++ l) (ap (λ (l : List ℕ). asked_text (mkdirs h.up) ++ l) (sym (append-nil ((codes "c0 mkdir " ++ d) ++ line_feed ∷ [])))
      ∙ sym (text_of-append (mkdirs h.up) (mkdir_line d ∷ [])));
}
