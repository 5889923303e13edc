-- The changes and the keys of a call, by the way that it takes.
use Rattle.std.proofs.Common.{◌≡◌, ℕ, ◌++◌, cond, length, List, [], ◌∷◌, Option, None, Some, Result, Ok, Err, refl, sym, ap, ◌∙◌, subst, append-nil, eq-eqb}
use Rattle.std.proofs.Common.{ne_eqb}
use Rattle.wtf_base.specs.declared.ids.InodeId.{InodeId}
use Rattle.wtf_path.specs.Parts.{parent_of}
use Rattle.wtf_occ.specs.Attempts.{Attempted, GrowsBy}
use Rattle.wtf_model.specs.declared.answer.Word.{Word}
use Rattle.wtf_model.specs.declared.answer.Word.TheVariants.{Root, NotEmpty}
use Rattle.wtf_model.specs.Tree.{◌>>=◌}
use Rattle.wtf_values.specs.declared.key.Key.{Key}
use Rattle.wtf_values.specs.declared.key.Key.TheVariants.{Links}
use Rattle.wtf_values.specs.declared.value.Delta.{Delta}
use Rattle.wtf_values.specs.Names.{NamesOf, names_in}
use Rattle.wtf_meta.specs.Maps.{Map, Edits}
use Rattle.wtf_meta.specs.NameEdits.{link_count, mkdir_edits, rmdir_edits, create_edits, rename_edits, link_edits}
use Rattle.wtf_index.specs.Checks.{target_of, source_of, directory_of, is_inner, is_bare, bare_of}
use Rattle.wtf_index.specs.Recorded.{source_keys, target_keys, count_keys, unlink_keys, rename_keys, keys_if}
use Rattle.wtf_index.specs.Changed.{edits_if, edits_in, mkdir_changes, create_changes, rmdir_changes, unlink_by, unlink_changes, rename_changes, link_changes}
use Rattle.wtf_index.proofs.Checked.{inner}

-- the same keys and changes by other names
pub went_as : (old new : Attempted Key Delta) (ks ls : List Key) (cs ds : Edits) → ls ≡ ks → ds ≡ cs → GrowsBy old new ks cs → GrowsBy old new ls ds
went_as old new ks ls cs ds keys changes went =
    subst (λ (l : List Key). GrowsBy old new l ds) (sym keys) (subst (λ (l : Edits). GrowsBy old new ks l) (sym changes) went)

-- changes that would be made in the directory of the root are none
edits_of_root : {A : Type 0} (r : Result A Word) (o : Option (List ℕ)) (made : A → List ℕ → Edits) → o ≡ None → edits_if r (λ a. edits_in o (made a)) ≡ []
edits_of_root (Ok a) o made none = ap (λ (d : Option (List ℕ)). edits_in d (made a)) none
edits_of_root (Err word) o made none = refl

full_is : (names : NamesOf) → (length (names_in names) ≡ 0 → ⊥) → is_bare names ≡ Err NotEmpty
full_is names some = ap (λ c. cond c (Ok tt) (Err NotEmpty)) (ne_eqb (length (names_in names)) 0 some)

empty_is : (names : NamesOf) → length (names_in names) ≡ 0 → is_bare names ≡ Ok tt
empty_is names none = ap (λ c. cond c (Ok tt) (Err NotEmpty)) (eq-eqb (length (names_in names)) 0 none)

module _ (b : Map) (p : List ℕ) where
  pub mkdir_none : (word : Word) → target_of b p ≡ Err word → mkdir_changes b p ≡ []
  mkdir_none word e = ap (λ (r : Result (List ℕ) Word). edits_if r (λ dir. mkdir_edits dir p)) e

  pub mkdir_some : (dir : List ℕ) → target_of b p ≡ Ok dir → mkdir_changes b p ≡ mkdir_edits dir p
  mkdir_some dir e = ap (λ (r : Result (List ℕ) Word). edits_if r (λ d. mkdir_edits d p)) e

  pub create_none : (i : InodeId) (word : Word) → target_of b p ≡ Err word → create_changes b p i ≡ []
  create_none i word e = ap (λ (r : Result (List ℕ) Word). edits_if r (λ dir. create_edits dir p i)) e

  pub create_some : (i : InodeId) (dir : List ℕ) → target_of b p ≡ Ok dir → create_changes b p i ≡ create_edits dir p i
  create_some i dir e = ap (λ (r : Result (List ℕ) Word). edits_if r (λ d. create_edits d p i)) e

  -- a directory that is asked whether it may go
  inner_is : (dir : List ℕ) → parent_of p ≡ Some dir → is_inner p ≡ Ok tt
  inner_is dir up = ap (λ c. cond c (Err Root) (Ok tt)) (inner p dir up)

  bare_is : (dir : List ℕ) (r : Result NamesOf Word) → parent_of p ≡ Some dir → directory_of b p ≡ r → bare_of b p ≡ (r >>= is_bare)
  bare_is dir r up e =
      ap (λ (z : Result (Unit {0}) Word). z >>= (λ _. directory_of b p >>= is_bare)) (inner_is dir up)
      ∙ ap (λ (z : Result NamesOf Word). z >>= is_bare) e

  abbrev goes : Result (Unit {0}) Word → Edits
  goes r = edits_if r (λ bare. edits_in (parent_of p) (λ dir. rmdir_edits dir p))

  pub rmdir_of_root : parent_of p ≡ None → rmdir_changes b p ≡ []
  rmdir_of_root none = edits_of_root (bare_of b p) (parent_of p) (λ bare dir. rmdir_edits dir p) none

  pub rmdir_none : (dir : List ℕ) (word : Word) → parent_of p ≡ Some dir → directory_of b p ≡ Err word → rmdir_changes b p ≡ []
  rmdir_none dir word up e = ap goes (bare_is dir (Err word) up e)

  pub rmdir_full : (dir : List ℕ) (names : NamesOf) → parent_of p ≡ Some dir → directory_of b p ≡ Ok names → (length (names_in names) ≡ 0 → ⊥) → rmdir_changes b p ≡ []
  rmdir_full dir names up e some = ap goes (bare_is dir (Ok names) up e ∙ full_is names some)

  pub rmdir_some : (dir : List ℕ) (names : NamesOf) → parent_of p ≡ Some dir → directory_of b p ≡ Ok names → length (names_in names) ≡ 0 → rmdir_changes b p ≡ rmdir_edits dir p
  rmdir_some dir names up e none =
      ap goes (bare_is dir (Ok names) up e ∙ empty_is names none) ∙ ap (λ (d : Option (List ℕ)). edits_in d (λ up_dir. rmdir_edits up_dir p)) up

  abbrev unlinks : Result InodeId Word → Edits
  unlinks r = edits_if r (λ i. edits_in (parent_of p) (λ dir. unlink_by (link_count (b (Links i))) dir p i))

  pub unlink_none : (word : Word) → source_of b p ≡ Err word → unlink_changes b p ≡ []
  unlink_none word e = ap unlinks e

  pub unlink_of_root : parent_of p ≡ None → unlink_changes b p ≡ []
  unlink_of_root none = edits_of_root (source_of b p) (parent_of p) (λ i dir. unlink_by (link_count (b (Links i))) dir p i) none

  pub unlink_some : (dir : List ℕ) (i : InodeId) (links : ℕ) → parent_of p ≡ Some dir → source_of b p ≡ Ok i → link_count (b (Links i)) ≡ links
      → unlink_changes b p ≡ unlink_by links dir p i
  unlink_some dir i links up e count =
      ap unlinks e
      ∙ ap (λ (o : Option (List ℕ)). edits_in o (λ d. unlink_by (link_count (b (Links i))) d p i)) up
      ∙ ap (λ n. unlink_by n dir p i) count

  -- and its keys
  pub unlink_stops : (word : Word) → source_of b p ≡ Err word → unlink_keys b p ≡ source_keys p
  unlink_stops word e = ap (λ (r : Result InodeId Word). source_keys p ++ count_keys r) e ∙ append-nil (source_keys p)

  pub unlink_goes_on : (i : InodeId) → source_of b p ≡ Ok i → unlink_keys b p ≡ source_keys p ++ Links i ∷ []
  unlink_goes_on i e = ap (λ (r : Result InodeId Word). source_keys p ++ count_keys r) e

  module _ (q : List ℕ) where
    abbrev moves : Result InodeId Word → Result (List ℕ) Word → Option (List ℕ) → Edits
    moves r t o = edits_if r (λ i. edits_if t (λ dir. edits_in o (λ up. rename_edits up p dir q i)))

    pub rename_none : (word : Word) → source_of b p ≡ Err word → rename_changes b p q ≡ []
    rename_none word e = ap (λ (r : Result InodeId Word). moves r (target_of b q) (parent_of p)) e

    pub rename_nowhere : (i : InodeId) (word : Word) → source_of b p ≡ Ok i → target_of b q ≡ Err word → rename_changes b p q ≡ []
    rename_nowhere i word e f =
        ap (λ (r : Result InodeId Word). moves r (target_of b q) (parent_of p)) e ∙ ap (λ (t : Result (List ℕ) Word). moves (Ok i) t (parent_of p)) f

    pub rename_of_root : (i : InodeId) → source_of b p ≡ Ok i → parent_of p ≡ None → rename_changes b p q ≡ []
    rename_of_root i e none =
        ap (λ (r : Result InodeId Word). moves r (target_of b q) (parent_of p)) e
        ∙ edits_of_root (target_of b q) (parent_of p) (λ dir up. rename_edits up p dir q i) none

    pub rename_some : (up dir : List ℕ) (i : InodeId) → parent_of p ≡ Some up → source_of b p ≡ Ok i → target_of b q ≡ Ok dir → rename_changes b p q ≡ rename_edits up p dir q i
    rename_some up dir i above e f =
        ap (λ (r : Result InodeId Word). moves r (target_of b q) (parent_of p)) e
        ∙ ap (λ (t : Result (List ℕ) Word). moves (Ok i) t (parent_of p)) f
        ∙ ap (λ (o : Option (List ℕ)). moves (Ok i) (Ok dir) o) above

    abbrev adds : Result InodeId Word → Result (List ℕ) Word → Edits
    adds r t = edits_if r (λ i. edits_if t (λ dir. link_edits dir q i))

    pub link_none : (word : Word) → source_of b p ≡ Err word → link_changes b p q ≡ []
    link_none word e = ap (λ (r : Result InodeId Word). adds r (target_of b q)) e

    pub link_nowhere : (i : InodeId) (word : Word) → source_of b p ≡ Ok i → target_of b q ≡ Err word → link_changes b p q ≡ []
    link_nowhere i word e f = ap (λ (r : Result InodeId Word). adds r (target_of b q)) e ∙ ap (λ (t : Result (List ℕ) Word). adds (Ok i) t) f

    pub link_some : (dir : List ℕ) (i : InodeId) → source_of b p ≡ Ok i → target_of b q ≡ Ok dir → link_changes b p q ≡ link_edits dir q i
    link_some dir i e f = ap (λ (r : Result InodeId Word). adds r (target_of b q)) e ∙ ap (λ (t : Result (List ℕ) Word). adds (Ok i) t) f

    -- and their keys
    pub rename_stops : (word : Word) → source_of b p ≡ Err word → rename_keys b p q ≡ source_keys p
    rename_stops word e = ap (λ (r : Result InodeId Word). source_keys p ++ keys_if r (target_keys b q)) e ∙ append-nil (source_keys p)

    pub rename_goes_on : (i : InodeId) → source_of b p ≡ Ok i → rename_keys b p q ≡ source_keys p ++ target_keys b q
    rename_goes_on i e = ap (λ (r : Result InodeId Word). source_keys p ++ keys_if r (target_keys b q)) e
