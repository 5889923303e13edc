-- Tables of the names in directories, made path by path.
use Rattle.std.proofs.Common.{◌≡◌, ℕ, ◌+◌, ◌<◌, Bool, cond, List, [], ◌∷◌, ◌++◌, take, length, get_or, Option, Some, refl, sym, ap, ◌∙◌, inl, inr}
use Rattle.std.specs.Option.{unwrap_or}
use Rattle.std.specs.Map.{lookup}
use Rattle.std.specs.BTreeMap.{is_at}
use Rattle.std.specs.Prelude.{bytes_eq}
use Rattle.std.specs.Ordering.{nat_cmp}
use Rattle.std.specs.Cmp.Lexicographic.{slice_cmp}
use Rattle.std.proofs.lemmas.Bool.{cases_Bool}
use Rattle.std.proofs.lemmas.List.{take_more}
use Rattle.std.proofs.lemmas.Map.Text.{is_eq-slice_cmp}
use Rattle.std.proofs.lemmas.Slice.Eq.{bytes_eq-Decides}
use Rattle.wtf_path.specs.Parts.{parent_of, name_of}
use Rattle.wtf_values.specs.Names.{NamesOf, no_names, with_name}
use Rattle.wtf_model.specs.Tree.{is_at as stands_at}
use Rattle.wtf_imagefmt.specs.declared.records.PathRecord.{PathRecord}
use Rattle.wtf_imagefmt.specs.Lookups.{added_name, names_from, names_under}
use Rattle.wtf_image.specs.Tables.{table_names}

abbrev Dirs : Type 0
Dirs = List (List ℕ × NamesOf)

abbrev at : Dirs → List ℕ → Option NamesOf
at es d = lookup (is_at (slice_cmp nat_cmp d)) es

-- a table in which one directory has other names
pub names_set : (old new : Dirs) (d up : List ℕ) (name : List ℕ) (names : NamesOf) → at new d ≡ cond (is_at (slice_cmp nat_cmp up) d) (Some names) (at old d)
    → names ≡ with_name (table_names old up) name → table_names new d
    ≡ cond (is_at (slice_cmp nat_cmp up) d) (with_name (table_names old d) name) (table_names old d)
names_set old new d up name names set is =
    let test : is_at (slice_cmp nat_cmp up) d ≡ bytes_eq up d = is_eq-slice_cmp up d in
    let put = λ (b : Bool). unwrap_or (cond b (Some names) (at old d)) no_names in
    let more = λ (b : Bool). cond b (with_name (table_names old d) name) (table_names old d) in
    ap (λ o. unwrap_or o no_names) set ∙ elim (cases_Bool (bytes_eq up d)) [
      | inl tie ↦ ap put (test ∙ tie) ∙ is ∙ ap (λ x. with_name (table_names old x) name) ((bytes_eq-Decides up d).0 tie) ∙ ap more (sym (test ∙ tie))
      | inr off ↦ ap put (test ∙ off) ∙ ap more (sym (test ∙ off))
    ]

-- the directory in which a path stands has its name
pub name_added : (old new : Dirs) (d up p : List ℕ)
    → table_names new d ≡ cond (is_at (slice_cmp nat_cmp up) d) (with_name (table_names old d) (name_of p)) (table_names old d)
    → parent_of p ≡ Some up → table_names new d ≡ added_name d p (table_names old d)
name_added old new d up p set parent =
    let test : is_at (slice_cmp nat_cmp up) d ≡ bytes_eq up d = is_eq-slice_cmp up d in
    set ∙ ap (λ b. cond b (with_name (table_names old d) (name_of p)) (table_names old d)) test
    ∙ sym (ap (λ o. cond (stands_at d o) (with_name (table_names old d) (name_of p)) (table_names old d)) parent)

names_from-push : (s : NamesOf) (d : List ℕ) (rs : List PathRecord) (r : PathRecord) → names_from s d (rs ++ r ∷ []) ≡ added_name d r.path (names_from s d rs)
names_from-push s d [] r = refl
names_from-push s d (x ∷ rs) r = names_from-push (added_name d x.path s) d rs r

pub names_more : (d : List ℕ) (rs : List PathRecord) (i : ℕ) (r : PathRecord) → i < length rs → r ≡ get_or rs i r
    → names_under d (take (i + 1) rs) ≡ added_name d r.path (names_under d (take i rs))
names_more d rs i r lt is =
    ap (names_under d) (take_more rs i r lt ∙ ap (λ (y : PathRecord). take i rs ++ y ∷ []) (sym is)) ∙ names_from-push no_names d (take i rs) r
