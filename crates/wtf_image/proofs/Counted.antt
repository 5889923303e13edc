-- How many paths of an image name an inode.
use Rattle.std.proofs.Common.{◌≡◌, ◌≢◌, ℕ, ◌+◌, ◌-◌, ◌<◌, ◌≤◌, Bool, true, false, cond, List, [], ◌∷◌, length, Option, None, Some, is_some, refl, sym, ap}
use Rattle.std.proofs.Common.{subst, ◌∙◌, arith, inl, inr, zero-add}
use Rattle.std.specs.FinMap.{get, remove, len, contains_key, get-remove, len-remove}
use Rattle.std.specs.FinMap.Entries.{find}
use Rattle.std.specs.List.{list_all, flat_map}
use Rattle.std.specs.Option.{option_or}
use Rattle.std.specs.Ordering.{is_eq, eq_by_cmp, nat_cmp}
use Rattle.std.specs.Cmp.Lexicographic.{slice_cmp, nat_list_cmp_total}
use Rattle.std.proofs.lemmas.Bool.{and_parts, both_ways, true≢false, cases_Bool, cases_lt, le-leb, lt-leb}
use Rattle.std.proofs.lemmas.List.Sums.{sum_by-cons}
use Rattle.wtf_base.specs.declared.ids.InodeId.{InodeId}
use Rattle.wtf_model.specs.Tree.{PathSet, has_path, without_path, path_count, Tree}
use Rattle.wtf_model.proofs.PathLaws.{has-without_other, in-without, count-without, count-some}
use Rattle.wtf_model.proofs.Sizes.{some-key}
use Rattle.wtf_values.specs.Keys.{key_cmp, inode_cmp}
use Rattle.wtf_values.specs.declared.key.Key.{Key}
use Rattle.wtf_values.specs.declared.key.Key.TheVariants.{Inode, Links}
use Rattle.wtf_values.specs.declared.value.Node.{Node}
use Rattle.wtf_values.specs.declared.value.Node.TheVariants.{Folder, File}
use Rattle.wtf_values.proofs.KeyLaws.{at_itself, at_none, at_same}
use Rattle.wtf_imagefmt.specs.declared.records.PathRecord.{PathRecord}
use Rattle.wtf_imagefmt.specs.Rows.{FileRow, ImageRows}
use Rattle.wtf_imagefmt.specs.Shapes.{ascends, path_before}
use Rattle.wtf_imagefmt.specs.Lookups.{Plain, CountIs, node_at, last_at, is_name_of, times_named, count_row, row_at}
use Rattle.wtf_image.specs.Rules.{is_recorded_node, is_recorded}
use Rattle.wtf_image.specs.Seeds.{count_seed_by, count_seed}
use Rattle.wtf_image.proofs.Found.{missing_after, tail_ascends}
use Rattle.wtf_image.proofs.SaveTree.{tie_itself, tie_same}
use Rattle.wtf_image.proofs.SeedLaws.{find-both}

pub inode_same : (i j : InodeId) → is_eq (inode_cmp i j) ≡ true → i ≡ j
inode_same i j h = let same : Inode i ≡ Inode j = at_same (Inode i) (Inode j) h in cc

-- ---- the number that is said

pub count_kept : (n : ℕ) → 2 ≤ n → count_row n ≡ Some (CountIs n)
count_kept n several = ap (λ b. cond b (Some (CountIs n)) None) (le-leb 2 n several)

pub count_few : (n : ℕ) → n < 2 → count_row n ≡ None
count_few n few = ap (λ b. cond b (Some (CountIs n)) None) (lt-leb 2 n few)

-- ---- one path more

pub count_cons : (i : InodeId) (r : PathRecord) (rs : List PathRecord) → times_named (r ∷ rs) i ≡ cond (is_name_of i r.node) 1 0 + times_named rs i
count_cons i r rs = sum_by-cons (λ (r : PathRecord). cond (is_name_of i r.node) 1 0) r rs

module _ (i : InodeId) (r : PathRecord) (rs : List PathRecord) where
  one_more : is_name_of i r.node ≡ true → times_named (r ∷ rs) i ≡ 1 + times_named rs i
  one_more named = count_cons i r rs ∙ ap (λ b. cond b 1 0 + times_named rs i) named

  no_more : is_name_of i r.node ≡ false → times_named (r ∷ rs) i ≡ times_named rs i
  no_more off = count_cons i r rs ∙ ap (λ b. cond b 1 0 + times_named rs i) off ∙ zero-add (times_named rs i)

name_is : (i : InodeId) (n : Node) → is_name_of i n ≡ true → n ≡ File i
name_is i Folder h = absurd (cc)
name_is i (File j) h = ap File (inode_same j i h)

is_name : (i : InodeId) (n : Node) → n ≡ File i → is_name_of i n ≡ true
is_name i n e = ap (is_name_of i) e ∙ at_itself (Inode i)

-- a path that names it is one of them
pub named_some : (i : InodeId) (p : List ℕ) (rs : List PathRecord) → node_at rs p ≡ Some (File i) → 1 ≤ times_named rs i
named_some i p [] here = absurd (cc)
named_some i p (r ∷ rs) here = elim (cases_Bool (is_eq (slice_cmp nat_cmp p r.path))) [
  | inl tie ↦ (
      let node : Some r.node ≡ Some (File i) = sym (ap (λ b. cond b (Some r.node) (node_at rs p)) tie) ∙ here in
      let is : times_named (r ∷ rs) i ≡ 1 + times_named rs i = one_more i r rs (is_name i r.node (cc)) in
      omega (arith, is))
  | inr off ↦ (
      let later : 1 ≤ times_named rs i = named_some i p rs (sym (ap (λ b. cond b (Some r.node) (node_at rs p)) off) ∙ here) in
      omega (arith, count_cons i r rs, later))
]

-- none does where each that is named has a record, and it has none
pub none_named : (fs : List FileRow) (i : InodeId) (rs : List PathRecord) → list_all (is_recorded fs) rs ≡ true → is_some (last_at fs i) ≡ false
    → times_named rs i ≡ 0
none_named fs i [] all none = refl
none_named fs i (r ∷ rs) all none =
    let both = and_parts (is_recorded fs r) (list_all (is_recorded fs) rs) all in
    elim (cases_Bool (is_name_of i r.node)) [
      | inl named ↦ (
          let recorded : is_some (last_at fs i) ≡ true = sym (ap (is_recorded_node fs) (name_is i r.node named)) ∙ both.0 in
          absurd (both_ways _ none recorded))
      | inr off ↦ no_more i r rs off ∙ none_named fs i rs both.1 none
    ]

-- ---- a set of just the paths that name it has as many

-- what is found behind the front is not at the path of the front
not_front : (r : PathRecord) (rs : List PathRecord) (p : List ℕ) (n : Node) → ascends path_before (r ∷ rs) ≡ true → node_at rs p ≡ Some n → p ≢ r.path
not_front r rs p n h e same =
    let bad : None ≡ Some n = sym (ap (node_at rs) same ∙ missing_after r rs h) ∙ e in
    absurd (cc)

-- and what is not at the path of the front is found behind it
behind_front : (r : PathRecord) (rs : List PathRecord) (p : List ℕ) → p ≢ r.path → node_at (r ∷ rs) p ≡ node_at rs p
behind_front r rs p other = elim (cases_Bool (is_eq (slice_cmp nat_cmp p r.path))) [
  | inl tie ↦ absurd (other (tie_same p r.path tie))
  | inr off ↦ ap (λ b. cond b (Some r.node) (node_at rs p)) off
]

at_front : (r : PathRecord) (rs : List PathRecord) → node_at (r ∷ rs) r.path ≡ Some r.node
at_front r rs = ap (λ b. cond b (Some r.node) (node_at rs r.path)) (tie_itself r.path)

none_counted : (s : PathSet) → ((p : List ℕ) → has_path s p ≡ true → ⊥) → path_count s ≡ 0
none_counted s none = elim (cases_lt 0 (path_count s)) [
  | inl some ↦ (let (p, has) = some-key s some in absurd (none p has))
  | inr few ↦ omega (arith, few)
]

pub names_counted : (i : InodeId) (rs : List PathRecord) (s : PathSet) → ascends path_before rs ≡ true
    → ((p : List ℕ) → has_path s p ≡ true → node_at rs p ≡ Some (File i))
    → ((p : List ℕ) → node_at rs p ≡ Some (File i) → has_path s p ≡ true) → times_named rs i ≡ path_count s
names_counted i [] s h lead all = sym (none_counted s (λ p has. let bad : None ≡ Some (File i) = lead p has in absurd (cc)))
names_counted i (r ∷ rs) s h lead all = elim (cases_Bool (is_name_of i r.node)) [
  | inl named ↦ (
      let has : has_path s r.path ≡ true = all r.path (at_front r rs ∙ ap (λ n. Some n) (name_is i r.node named)) in
      let fewer : times_named rs i ≡ path_count (without_path s r.path) = names_counted i rs (without_path s r.path) (tail_ascends r rs h)
      (λ p left. let (other, had) = in-without s r.path p left in sym (behind_front r rs p other) ∙ lead p had)
      (λ p e. let other = not_front r rs p (File i) h e in has-without_other s r.path p other ∙ all p (behind_front r rs p other ∙ e)) in
      let less : path_count (without_path s r.path) ≡ path_count s - 1 = count-without s r.path has in
      let some : 1 ≤ path_count s = count-some s r.path has in
      let more : times_named (r ∷ rs) i ≡ 1 + times_named rs i = one_more i r rs named in
      omega (arith, fewer, less, some, more))
  | inr off ↦ (
      let other : (p : List ℕ) → has_path s p ≡ true → p ≢ r.path = λ p has same.
      let node : Some r.node ≡ Some (File i) = sym (at_front r rs) ∙ ap (node_at (r ∷ rs)) (sym same) ∙ lead p has in
      both_ways _ off (is_name i r.node (cc)) in
      no_more i r rs off ∙ names_counted i rs s (tail_ascends r rs h)
      (λ p has. sym (behind_front r rs p (other p has)) ∙ lead p has)
      (λ p e. all p (behind_front r rs p (not_front r rs p (File i) h e) ∙ e)))
]

-- ---- the seeds of numbers of paths

either_none : (b : Bool) (o : Option Plain) → o ≡ None → cond b o o ≡ None
either_none true o e = e
either_none false o e = e

nothing_or : (b : Bool) (o : Option Plain) → option_or o (cond b o None) ≡ o
nothing_or true None = refl
nothing_or false None = refl
nothing_or b (Some s) = refl

module _ (times : InodeId → ℕ) where
  abbrev found : InodeId → List FileRow → Option Plain
  found i fs = find key_cmp (Links i) (flat_map (count_seed times) fs)

  one_count : (i j : InodeId) (o : Option Plain) → find key_cmp (Links i) (count_seed_by j o) ≡ cond (eq_by_cmp inode_cmp i j) o None
  one_count i j None = sym (either_none (eq_by_cmp inode_cmp i j) None refl)
  one_count i j (Some s) = refl

  count_found : (i : InodeId) (fs : List FileRow) → found i fs ≡ cond (is_some (last_at fs i)) (count_row (times i)) None
  count_found i [] = refl
  count_found i (f ∷ fs) =
      find-both key_cmp (Links i) (count_seed times f) (flat_map (count_seed times) fs)
      ∙ ap (λ o. option_or o (found i fs)) (one_count i f.inode (count_row (times f.inode)))
      ∙ elim (cases_Bool (eq_by_cmp inode_cmp i f.inode)) [
        | inl tie ↦ ap (λ b. option_or (cond b (count_row (times f.inode)) None) (found i fs)) tie
            ∙ ap (λ j. option_or (count_row (times j)) (found i fs)) (sym (inode_same i f.inode tie))
            ∙ ap (option_or (count_row (times i))) (count_found i fs)
            ∙ nothing_or (is_some (last_at fs i)) (count_row (times i))
            ∙ sym (ap (λ b. cond (is_some (cond b (Some f.last) (last_at fs i))) (count_row (times i)) None) tie)
        | inr off ↦ ap (λ b. option_or (cond b (count_row (times f.inode)) None) (found i fs)) off
            ∙ count_found i fs
            ∙ sym (ap (λ b. cond (is_some (cond b (Some f.last) (last_at fs i))) (count_row (times i)) None) off)
      ]

no_count_by : (q : Key) → ((i : InodeId) → q ≢ Links i) → (j : InodeId) (o : Option Plain) → find key_cmp q (count_seed_by j o) ≡ None
no_count_by q off j None = refl
no_count_by q off j (Some s) = ap (λ b. cond b (Some s) None) (at_none q (Links j) (off j))

pub no_count : (q : Key) → ((i : InodeId) → q ≢ Links i) → (times : InodeId → ℕ) (fs : List FileRow) → find key_cmp q (flat_map (count_seed times) fs) ≡ None
no_count q off times [] = refl
no_count q off times (f ∷ fs) =
    find-both key_cmp q (count_seed times f) (flat_map (count_seed times) fs)
    ∙ ap (λ o. option_or o (find key_cmp q (flat_map (count_seed times) fs))) (no_count_by q off f.inode (count_row (times f.inode)))
    ∙ no_count q off times fs

-- where each inode that a path names has a record, they say of each inode what the image says
pub count_said : (x : ImageRows) (i : InodeId) → list_all (is_recorded x.files) x.paths ≡ true
    → find key_cmp (Links i) (flat_map (count_seed (times_named x.paths)) x.files) ≡ row_at x (Links i)
count_said x i recorded =
    count_found (times_named x.paths) i x.files ∙ elim (cases_Bool (is_some (last_at x.files i))) [
      | inl some ↦ ap (λ b. cond b (count_row (times_named x.paths i)) None) some
      | inr none ↦ ap (λ b. cond b (count_row (times_named x.paths i)) None) none ∙ sym (ap count_row (none_named x.files i x.paths recorded none))
    ]

-- ---- how many paths an image has

-- a tree of which each path is found in rows has no more paths than there are rows
module _ (t : Tree) (p : List ℕ) where
  left_over : (q : List ℕ) → contains_key (remove t p) q ≡ true → (q ≢ p) × (contains_key t q ≡ true)
  left_over q has = elim (cases_Bool (eq_by_cmp (slice_cmp nat_cmp) q p)) [
    | inl tie ↦ absurd (true≢false (sym has ∙ ap is_some (get-remove nat_list_cmp_total t p q) ∙ ap (λ b. is_some (cond b None (get t q))) tie))
    | inr off ↦ (
      (λ same. both_ways _ off (subst (λ z. eq_by_cmp (slice_cmp nat_cmp) q z ≡ true) same (tie_itself q))),
      sym (ap is_some (get-remove nat_list_cmp_total t p q) ∙ ap (λ b. is_some (cond b None (get t q))) off) ∙ has,
    )
  ]

  -- it loses one path at most
  one_fewer : len t ≤ len (remove t p) + 1
  one_fewer = by_key (contains_key t p) (len-remove nat_list_cmp_total t p)
    where
      by_key : (b : Bool) {n : ℕ} → n ≡ cond b (len t - 1) (len t) → len t ≤ n + 1
      by_key true is = omega (arith, is)
      by_key false is = omega (arith, is)

pub paths_few : (rs : List PathRecord) (t : Tree) → ascends path_before rs ≡ true → ((p : List ℕ) → contains_key t p ≡ true → is_some (node_at rs p) ≡ true)
    → len t ≤ length rs
paths_few [] t h all = elim (cases_lt 0 (len t)) [
  | inl some ↦ (let (p, has) = some-key t some in absurd (true≢false (sym (all p has))))
  | inr few ↦ omega (arith, few)
]
paths_few (r ∷ rs) t h all =
    let fewer : len (remove t r.path) ≤ length rs = paths_few rs (remove t r.path) (tail_ascends r rs h) (λ p has.
    let (other, had) = left_over t r.path p has in
    ap is_some (sym (behind_front r rs p other)) ∙ all p had) in
    omega (arith, fewer, one_fewer t r.path)
