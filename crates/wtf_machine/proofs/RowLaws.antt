-- Two shown trees are compared row by row.
use Rattle.std.proofs.Common.{◌≡◌, ◌↔◌, ℕ, Bool, true, false, ◌&&◌, nat_eq, List, [], ◌∷◌, Option, Some, None, IsTrue, refl, sym, ap, ap₂, subst, ◌∙◌}
use Rattle.std.specs.Prelude.{bytes_eq}
use Rattle.std.specs.Option.{option_eq}
use Rattle.std.specs.Cmp.Lexicographic.{pointwise}
use Rattle.std.proofs.lemmas.Bool.{eqb-true, eq-eqb, and_from}
use Rattle.std.proofs.lemmas.Slice.Eq.{bytes_eq-Decides}
use Rattle.wtf_model.specs.declared.answer.Answer.{Answer}
use Rattle.wtf_model.specs.declared.answer.Answer.TheVariants as answer
use Rattle.wtf_model.specs.declared.lists.Row.{Row}

abbrev row_eq : Row → Row → Bool
row_eq x y = bytes_eq x.path y.path && option_eq nat_eq x.len y.len

both : (a b : Bool) → (a && b) ≡ true → (a ≡ true) × (b ≡ true)
both true b h = (refl, h)
both false b h = absurd (cc)

lens_same : (x y : Option ℕ) → option_eq nat_eq x y ≡ true → x ≡ y
lens_same None None h = refl
lens_same None (Some n) h = absurd (cc)
lens_same (Some n) None h = absurd (cc)
lens_same (Some n) (Some k) h = ap (λ x. Some x) (eqb-true n k h)

lens_again : (x : Option ℕ) → option_eq nat_eq x x ≡ true
lens_again None = refl
lens_again (Some n) = eq-eqb n n refl

row_same : (x y : Row) → row_eq x y ≡ true → x ≡ y
row_same x y h =
    let parts = both (bytes_eq x.path y.path) (option_eq nat_eq x.len y.len) h in
    ap₂ (λ p n. record { path = p; len = n }) ((bytes_eq-Decides x.path y.path).0 parts.0) (lens_same x.len y.len parts.1)

row_again : (x : Row) → row_eq x x ≡ true
row_again x = and_from (bytes_eq x.path x.path) (option_eq nat_eq x.len x.len) ((bytes_eq-Decides x.path x.path).1 refl) (lens_again x.len)

rows_same : (xs ys : List Row) → pointwise row_eq xs ys ≡ true → xs ≡ ys
rows_same [] [] h = refl
rows_same [] (y ∷ ys) h = absurd (cc)
rows_same (x ∷ xs) [] h = absurd (cc)
rows_same (x ∷ xs) (y ∷ ys) h = let parts = both (row_eq x y) (pointwise row_eq xs ys) h in ap₂ (λ a b. a ∷ b) (row_same x y parts.0) (rows_same xs ys parts.1)

rows_again : (xs : List Row) → pointwise row_eq xs xs ≡ true
rows_again [] = refl
rows_again (x ∷ xs) = and_from (row_eq x x) (pointwise row_eq xs xs) (row_again x) (rows_again xs)

tree_rows : (xs ys : List Row) → answer.Tree xs ≡ answer.Tree ys → xs ≡ ys
tree_rows xs ys h = cc

-- the answer shows these rows
pub shows_rows : (a : Answer) (shown rows now : List Row) (b : Bool) → a ≡ answer.Tree shown → rows ≡ now → b ≡ pointwise row_eq shown rows
    → IsTrue b ↔ (a ≡ answer.Tree now)
shows_rows a shown rows now b is made eq = (
  (λ yes. is ∙ ap (λ x. answer.Tree x) (rows_same shown rows (sym eq ∙ yes) ∙ made)),
  (λ same. let one : shown ≡ rows = tree_rows shown now (sym is ∙ same) ∙ sym made in eq ∙ subst (λ x. pointwise row_eq shown x ≡ true) one (rows_again shown)),
)
