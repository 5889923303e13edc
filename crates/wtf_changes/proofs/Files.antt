-- Laws of the files of a draft: what changes make of each of them and of its regions.
use Rattle.std.proofs.Common.{◌≡◌, ℕ, Bool, true, false, cond, T, List, [], ◌∷◌, map, Option, None, Some, IsSome, refl, sym, ap, subst, ◌∙◌, inl, inr}
use Rattle.std.proofs.lemmas.Bool.{cases_Bool, both_ways}
use Rattle.std.proofs.lemmas.Cmp.{nat_cmp_total}
use Rattle.std.specs.List.{AllByRecursion}
use Rattle.std.specs.Map.{remove_entry}
use Rattle.std.specs.BTreeMap.{is_at, insert_entry}
use Rattle.std.specs.declared.cmp.Ordering.{Ordering}
use Rattle.std.specs.declared.cmp.Ordering.TheVariants.{Less, Equal, Greater}
use Rattle.std.specs.Ordering.{nat_cmp, is_eq, eq_by_cmp, match_ordering, ordering_then}
use Rattle.std.specs.Cmp.{IsTotalOrder, tied_itself}
use Rattle.std.specs.FinMap.Entries.{find, is_sorted}
use Rattle.wtf_base.specs.declared.ids.InodeId.{InodeId}
use Rattle.wtf_overlay.specs.Reading.{◌>>=◌}
use Rattle.wtf_values.specs.Keys.{inode_cmp, same_inode}
use Rattle.wtf_values.specs.declared.key.Key.TheVariants.{Inode, Region}
use Rattle.wtf_values.proofs.KeyLaws.{key_total, inode_itself}
use Rattle.wtf_imagefmt.specs.Lookups.{place_cmp}
use Rattle.wtf_imagefmt.specs.Rows.{ValueRow}
use Rattle.wtf_changes.specs.declared.records.FileChange.{FileChange}
use Rattle.wtf_changes.specs.Rows.{RegionChangeRow}
use Rattle.wtf_changes.specs.Drafts.{put_back, FileEntry, with_last, file_found, file_set, files_set, nowhere, with_region, region_set_in, regions_set}
use Rattle.wtf_changes.specs.Since.{last_change, value_change}
use Rattle.wtf_changes.proofs.Sets.{first, second, tied_is, latest, find-lookup, behind_none, find-put_back, find-set, set-sorted, put_back-sorted}

-- the orders of inodes and of regions
pub inode_total : IsTotalOrder inode_cmp
inode_total = record {
  antisymm = λ i j. key_total.antisymm (Inode i) (Inode j);
  trans = λ i j k. key_total.trans (Inode i) (Inode j) (Inode k);
  congr = λ i j k. key_total.congr (Inode i) (Inode j) (Inode k);
}

pub place_total : IsTotalOrder place_cmp
place_total = record {
  antisymm = λ a b. key_total.antisymm (Region a.0 a.1) (Region b.0 b.1);
  trans = λ a b c. key_total.trans (Region a.0 a.1) (Region b.0 b.1) (Region c.0 c.1);
  congr = λ a b c. key_total.congr (Region a.0 a.1) (Region b.0 b.1) (Region c.0 c.1);
}

abbrev pub Entries : Type 0
Entries = List (InodeId × FileEntry)

-- the regions of each file are in order
abbrev pub InOrder : Entries → Type 0
InOrder es = AllByRecursion (λ e. T (is_sorted nat_cmp e.1.regions)) es

pub record AreFilesSorted (es : Entries) : Type 0 where
  pub keys : T (is_sorted inode_cmp es)
  pub regions : InOrder es

-- ---- all values of entries

module _ {K X : Type 0} (R : K → K → Ordering) (P : X → Type 0) where
  pub all-insert : (es : List (K × X)) (k : K) (v : X) → AllByRecursion (λ e. P e.1) es → P v → AllByRecursion (λ e. P e.1) (insert_entry R es k v)
  all-insert [] k v h p = (p, tt)
  all-insert (e ∷ es) k v h p = elim (R k e.0) as (λ r. AllByRecursion (λ e. P e.1)
      (match_ordering r ((k, v) ∷ e ∷ es) ((e.0, v) ∷ es) (e ∷ insert_entry R es k v))) [
        | Less ↦ (p, h)
        | Equal ↦ (p, h.1)
        | Greater ↦ (h.0, all-insert es k v h.1 p)
      ]

  pub all-remove : (es : List (K × X)) (k : K) → AllByRecursion (λ e. P e.1) es → AllByRecursion (λ e. P e.1) (remove_entry (is_at (R k)) es)
  all-remove [] k h = tt
  all-remove (e ∷ es) k h = elim (is_at (R k) e.0) as (λ b. AllByRecursion (λ e. P e.1) (cond b es (e ∷ remove_entry (is_at (R k)) es))) [
    | true ↦ h.1
    | false ↦ (h.0, all-remove es k h.1)
  ]

  pub all-found : (es : List (K × X)) (k : K) (v : X) → AllByRecursion (λ e. P e.1) es → find R k es ≡ Some v → P v
  all-found [] k v h e = absurd (cc)
  all-found (d ∷ es) k v h e = elim (cases_Bool (eq_by_cmp R k d.0)) [
    | inl t ↦ (let is : Some d.1 ≡ Some v = sym (ap (λ b. cond b (Some d.1) (find R k es)) t) ∙ e in let it : d.1 ≡ v = cc in subst P it h.0)
    | inr t ↦ all-found es k v h.1 (sym (ap (λ b. cond b (Some d.1) (find R k es)) t) ∙ e)
  ]

pub set_file-all : (es : Entries) (i : InodeId) (f : FileEntry) → InOrder es → T (is_sorted nat_cmp f.regions) → InOrder (insert_entry inode_cmp es i f)
set_file-all es i f h p = all-insert inode_cmp (λ (g : FileEntry). T (is_sorted nat_cmp g.regions)) es i f h p

back-sorted : (es : Entries) (i : InodeId) (f : FileEntry) → AreFilesSorted es → T (is_sorted nat_cmp f.regions) → AreFilesSorted (put_back inode_cmp es i f)
back-sorted es i f h p = record {
  keys = put_back-sorted inode_total es i f h.keys;
  regions = all-insert inode_cmp (λ (g : FileEntry). T (is_sorted nat_cmp g.regions)) (remove_entry (is_at (inode_cmp i)) es) i f
      (all-remove inode_cmp (λ (g : FileEntry). T (is_sorted nat_cmp g.regions)) es i h.regions) p;
}

-- what is found of an inode has its regions in order
pub found-sorted : (es : Entries) (i : InodeId) (f : FileEntry) → AreFilesSorted es → find inode_cmp i es ≡ Some f → T (is_sorted nat_cmp f.regions)
found-sorted es i f h e = all-found inode_cmp (λ (g : FileEntry). T (is_sorted nat_cmp g.regions)) es i f h.regions e

-- ---- last regions

-- what a file is behind the changes
abbrev pub file_latest : Option (Option ℕ) → Option FileEntry → Option FileEntry
file_latest None f = f
file_latest (Some None) f = None
file_latest (Some (Some n)) f = Some (with_last n f)

last-sorted : (n : ℕ) (o : Option FileEntry) → ((f : FileEntry) → o ≡ Some f → T (is_sorted nat_cmp f.regions)) → T (is_sorted nat_cmp (with_last n o).regions)
last-sorted n None h = tt
last-sorted n (Some f) h = h f refl

pub file_set-sorted : (es : Entries) (i : InodeId) (o : Option ℕ) → AreFilesSorted es → AreFilesSorted (file_set es i o)
file_set-sorted es i None h = record {
  keys = set-sorted inode_total es i None h.keys;
  regions = all-remove inode_cmp (λ (g : FileEntry). T (is_sorted nat_cmp g.regions)) es i h.regions;
}
file_set-sorted es i (Some n) h =
    back-sorted es i (with_last n (file_found es i)) h (last-sorted n (file_found es i) (λ f e. found-sorted es i f h (find-lookup inode_cmp i es ∙ e)))

pub files_set-sorted : (es : Entries) (cs : List FileChange) → AreFilesSorted es → AreFilesSorted (files_set es cs)
files_set-sorted es [] h = h
files_set-sorted es (c ∷ cs) h = files_set-sorted (file_set es c.inode c.last) cs (file_set-sorted es c.inode c.last h)

pub tied_inode : (i j : InodeId) → eq_by_cmp inode_cmp i j ≡ true → i ≡ j
tied_inode i j t = same_inode i j (tied_is _ t)

find-file_set : (q i : InodeId) (o : Option ℕ) (es : Entries) → T (is_sorted inode_cmp es)
    → find inode_cmp q (file_set es i o) ≡ cond (eq_by_cmp inode_cmp q i) (file_latest (Some o) (find inode_cmp i es)) (find inode_cmp q es)
find-file_set q i None es h = find-set inode_total q i None es h
find-file_set q i (Some n) es h =
    find-put_back inode_total q i (with_last n (file_found es i)) es h
    ∙ ap (λ f. cond (eq_by_cmp inode_cmp q i) (Some (with_last n f)) (find inode_cmp q es)) (sym (find-lookup inode_cmp i es))

pub find-files_set : (q : InodeId) (cs : List FileChange) (es : Entries) → AreFilesSorted es → T (is_sorted inode_cmp (map last_change cs))
    → find inode_cmp q (files_set es cs) ≡ file_latest (find inode_cmp q (map last_change cs)) (find inode_cmp q es)
find-files_set q [] es h g = refl
find-files_set q (c ∷ cs) es h g =
    find-files_set q cs (file_set es c.inode c.last) (file_set-sorted es c.inode c.last h) (second _ _ g)
    ∙ ap (file_latest (find inode_cmp q (map last_change cs))) (find-file_set q c.inode c.last es h.keys)
    ∙ one (eq_by_cmp inode_cmp q c.inode) refl
  where
    one : (b : Bool) → eq_by_cmp inode_cmp q c.inode ≡ b
        → file_latest (find inode_cmp q (map last_change cs)) (cond b (file_latest (Some c.last) (find inode_cmp c.inode es)) (find inode_cmp q es))
        ≡ file_latest (cond b (Some c.last) (find inode_cmp q (map last_change cs))) (find inode_cmp q es)
    one true t =
        ap (λ n. file_latest n (file_latest (Some c.last) (find inode_cmp c.inode es)))
        (behind_none inode_total q c.inode (map last_change cs) (tied_is _ t) (first _ _ g))
        ∙ ap (λ i. file_latest (Some c.last) (find inode_cmp i es)) (sym (tied_inode q c.inode t))
    one false t = refl

-- ---- regions

abbrev pub named : List RegionChangeRow → InodeId → ℕ → Option (Option ValueRow)
named cs i r = find place_cmp (i, r) (map value_change cs)

-- each region that is given has its file
abbrev pub HaveFiles : List RegionChangeRow → Entries → Type 0
HaveFiles cs es = (i : InodeId) (r : ℕ) (v : ValueRow) → named cs i r ≡ Some (Some v) → IsSome (find inode_cmp i es)

-- a file behind the changes of regions, by what it was
pub record IsFileAfter (cs : List RegionChangeRow) (i : InodeId) (f g : FileEntry) : Type 0 where
  pub last : g.last ≡ f.last
  pub regions : (r : ℕ) → find nat_cmp r g.regions ≡ latest (named cs i r) (find nat_cmp r f.regions)

pub record AreRegionsSet (cs : List RegionChangeRow) (es made : Entries) : Type 0 where
  pub is : regions_set es cs ≡ Some made
  pub sorted : AreFilesSorted made
  pub there : (i : InodeId) (f : FileEntry) → find inode_cmp i es ≡ Some f → (g : FileEntry) × (find inode_cmp i made ≡ Some g) × IsFileAfter cs i f g
  pub gone : (i : InodeId) → find inode_cmp i es ≡ None → find inode_cmp i made ≡ None

tied_parts : (o p : Ordering) → is_eq (ordering_then o p) ≡ true → (is_eq o ≡ true) × (is_eq p ≡ true)
tied_parts Less p t = cc
tied_parts Equal p t = (refl, t)
tied_parts Greater p t = cc

-- a change of a region of another file is not of this one
other : (c : RegionChangeRow) (cs : List RegionChangeRow) (i : InodeId) (r : ℕ) → eq_by_cmp inode_cmp i c.inode ≡ false → named (c ∷ cs) i r ≡ named cs i r
other c cs i r off = elim (cases_Bool (eq_by_cmp place_cmp (i, r) (c.inode, c.number))) [
  | inl t ↦ absurd (both_ways _ off (tied_parts _ _ t).0)
  | inr t ↦ ap (λ b. cond b (Some c.value) (named cs i r)) t
]

some_of : {A : Type 0} (o : Option A) (x : A) → o ≡ Some x → IsSome o
some_of o x e = subst (λ o. IsSome o) (sym e) refl

not_there : (o : Option FileEntry) → o ≡ None → IsSome o → ⊥
not_there None e h = absurd (cc)
not_there (Some f) e h = absurd (cc)

itself : (i : InodeId) (r : ℕ) → eq_by_cmp place_cmp (i, r) (i, r) ≡ true
itself i r = ap is_eq (tied_itself place_total (i, r))

-- what the first change says of its region, and what those behind it say of theirs
first_named : (c : RegionChangeRow) (cs : List RegionChangeRow) → named (c ∷ cs) c.inode c.number ≡ Some c.value
first_named c cs = ap (λ b. cond b (Some c.value) (named cs c.inode c.number)) (itself c.inode c.number)

later_named : (c : RegionChangeRow) (cs : List RegionChangeRow) → T (is_sorted place_cmp (map value_change (c ∷ cs)))
    → (i : InodeId) (r : ℕ) (o : Option ValueRow) → named cs i r ≡ Some o → named (c ∷ cs) i r ≡ Some o
later_named c cs g i r o e = elim (cases_Bool (eq_by_cmp place_cmp (i, r) (c.inode, c.number))) [
  | inl t ↦ (let bad : None ≡ Some o = sym (behind_none place_total (i, r) (c.inode, c.number) (map value_change cs) (tied_is _ t) (first _ _ g))
      ∙ e in absurd (cc))
  | inr t ↦ ap (λ b. cond b (Some c.value) (named cs i r)) t ∙ e
]

module _ (c : RegionChangeRow) (cs : List RegionChangeRow) (es : Entries) (g : T (is_sorted place_cmp (map value_change (c ∷ cs)))) where
  -- nothing comes of a region that is gone with its file
  skipped : find inode_cmp c.inode es ≡ None → c.value ≡ None → (made : Entries) → AreRegionsSet cs es made → AreRegionsSet (c ∷ cs) es made
  skipped none gone made rest = record {
    is = ap (λ o. region_set_in o es c >>= λ m. regions_set m cs) (sym (find-lookup inode_cmp c.inode es) ∙ none)
        ∙ ap (λ v. nowhere es v >>= λ m. regions_set m cs) gone ∙ rest.is;
    sorted = rest.sorted;
    there = λ i f e.
        let later = rest.there i f e in
        let off : eq_by_cmp inode_cmp i c.inode ≡ false = elim (cases_Bool (eq_by_cmp inode_cmp i c.inode)) [
          | inl t ↦ (let bad : Some f ≡ None = sym e ∙ ap (λ j. find inode_cmp j es) (tied_inode i c.inode t) ∙ none in absurd (cc))
          | inr t ↦ t
        ] in (
          later.0,
          later.1,
          record {
            last = later.2.last;
            regions = λ r. later.2.regions r
                ∙ ap (λ n. latest n (find nat_cmp r f.regions)) (sym (other c cs i r off));
          },
        );
    gone = rest.gone;
  }

  module _ (f : FileEntry) (here : find inode_cmp c.inode es ≡ Some f) (h : AreFilesSorted es) where
    abbrev new : FileEntry
    new = with_region f c.number c.value

    abbrev made : Entries
    made = put_back inode_cmp es c.inode new

    pub made-sorted : AreFilesSorted made
    made-sorted = back-sorted es c.inode new h (set-sorted nat_cmp_total f.regions c.number c.value (found-sorted es c.inode f h here))

    pub find-made : (i : InodeId) → find inode_cmp i made ≡ cond (eq_by_cmp inode_cmp i c.inode) (Some new) (find inode_cmp i es)
    find-made i = find-put_back inode_total i c.inode new es h.keys

    stays : (i : InodeId) → IsSome (find inode_cmp i es) → IsSome (find inode_cmp i made)
    stays i there = elim (cases_Bool (eq_by_cmp inode_cmp i c.inode)) [
      | inl t ↦ some_of _ new (find-made i ∙ ap (λ b. cond b (Some new) (find inode_cmp i es)) t)
      | inr t ↦ subst (λ o. IsSome o) (sym (find-made i ∙ ap (λ b. cond b (Some new) (find inode_cmp i es)) t)) there
    ]

    pub still : HaveFiles cs es → HaveFiles cs made
    still have i r v e = stays i (have i r v e)

    -- a region of the file that changed
    region-of : (k : FileEntry) → IsFileAfter cs c.inode new k → (r : ℕ)
        → find nat_cmp r k.regions ≡ latest (named (c ∷ cs) c.inode r) (find nat_cmp r f.regions)
    region-of k after r =
        after.regions r ∙ ap (latest (named cs c.inode r)) (find-set nat_cmp_total r c.number c.value f.regions (found-sorted es c.inode f h here))
        ∙ one (is_eq (nat_cmp r c.number)) refl
      where
        place : eq_by_cmp place_cmp (c.inode, r) (c.inode, c.number) ≡ is_eq (nat_cmp r c.number)
        place = ap (λ o. is_eq (ordering_then o (nat_cmp r c.number))) (inode_itself c.inode)

        one : (b : Bool) → is_eq (nat_cmp r c.number) ≡ b → latest (named cs c.inode r) (cond b c.value (find nat_cmp r f.regions))
            ≡ latest (named (c ∷ cs) c.inode r) (find nat_cmp r f.regions)
        one true t =
            ap (λ n. latest n c.value) (behind_none place_total (c.inode, r) (c.inode, c.number) (map value_change cs) (tied_is _ (place ∙ t)) (first _ _ g))
            ∙ sym (ap (λ b. latest (cond b (Some c.value) (named cs c.inode r)) (find nat_cmp r f.regions)) (place ∙ t))
        one false t = sym (ap (λ b. latest (cond b (Some c.value) (named cs c.inode r)) (find nat_cmp r f.regions)) (place ∙ t))

    pub given : (after : Entries) → AreRegionsSet cs made after → AreRegionsSet (c ∷ cs) es after
    given after rest = record {
      is = ap (λ o. region_set_in o es c >>= λ m. regions_set m cs) (sym (find-lookup inode_cmp c.inode es) ∙ here) ∙ rest.is;
      sorted = rest.sorted;
      there = λ i k e. elim (cases_Bool (eq_by_cmp inode_cmp i c.inode)) [
        | inl t ↦ (
            let same = tied_inode i c.inode t in
            let later = rest.there c.inode new (find-made c.inode
            ∙ ap (λ b. cond b (Some new) (find inode_cmp c.inode es)) (subst (λ j. eq_by_cmp inode_cmp j c.inode ≡ true) same t)) in
            let it : k ≡ f = (let is : Some k ≡ Some f = sym e ∙ ap (λ j. find inode_cmp j es) same ∙ here in cc) in (
              later.0,
              ap (λ j. find inode_cmp j after) same ∙ later.1,
              subst (λ (w : FileEntry). IsFileAfter (c ∷ cs) i w later.0) (sym it)
                  (record {
                    last = later.2.last;
                    regions = λ r. subst
                        (λ j. find nat_cmp r later.0.regions ≡ latest (named (c ∷ cs) j r) (find nat_cmp r f.regions)) (sym same) (region-of later.0 later.2 r);
                  }),
            ))
        | inr t ↦ (
            let later = rest.there i k (find-made i ∙ ap (λ b. cond b (Some new) (find inode_cmp i es)) t ∙ e) in (
              later.0,
              later.1,
              record {
                last = later.2.last;
                regions = λ r. later.2.regions r
                    ∙ ap (λ n. latest n (find nat_cmp r k.regions)) (sym (other c cs i r t));
              },
            ))
      ];
      gone = λ i e. elim (cases_Bool (eq_by_cmp inode_cmp i c.inode)) [
        | inl t ↦ (let bad : None ≡ Some f = sym e ∙ ap (λ j. find inode_cmp j es) (tied_inode i c.inode t) ∙ here in absurd (cc))
        | inr t ↦ rest.gone i (find-made i ∙ ap (λ b. cond b (Some new) (find inode_cmp i es)) t ∙ e)
      ];
    }

-- regions are set where each that is given has its file
pub regions_are_set : (cs : List RegionChangeRow) (es : Entries) → AreFilesSorted es → T (is_sorted place_cmp (map value_change cs)) → HaveFiles cs es
    → (made : Entries) × AreRegionsSet cs es made
regions_are_set [] es h g have = (
  es,
  record {
    is = refl;
    sorted = h;
    there = λ i f e. (f, e, record { last = refl; regions = λ r. refl });
    gone = λ i e. e;
  },
)
regions_are_set (c ∷ cs) es h g have = by (λ next in-order has. regions_are_set cs next in-order (second _ _ g) has) (find inode_cmp c.inode es) refl
  where
    no_value : (v : Option ValueRow) → c.value ≡ v → find inode_cmp c.inode es ≡ None → v ≡ None
    no_value None is none = refl
    no_value (Some v) is none =
        absurd (not_there (find inode_cmp c.inode es) none (have c.inode c.number v (first_named c cs ∙ ap (λ (o : Option ValueRow). Some o) is)))

    rest-have : HaveFiles cs es
    rest-have i r v e = have i r v (later_named c cs g i r (Some v) e)

    by : ((next : Entries) → AreFilesSorted next → HaveFiles cs next → (after : Entries) × AreRegionsSet cs next after)
        → (o : Option FileEntry) → find inode_cmp c.inode es ≡ o → (after : Entries) × AreRegionsSet (c ∷ cs) es after
    by go None none =
        let rest = go es h rest-have in
        (rest.0, skipped c cs es g none (no_value c.value refl none) rest.0 rest.1)
    by go (Some f) here =
        let rest = go (made c cs es g f here h) (made-sorted c cs es g f here h) (still c cs es g f here h rest-have) in
        (rest.0, given c cs es g f here h rest.0 rest.1)

-- whatever comes of regions that are set is in order
pub regions_set-sorted : (cs : List RegionChangeRow) (es after : Entries) → AreFilesSorted es → regions_set es cs ≡ Some after → AreFilesSorted after
regions_set-sorted [] es after h e = (let is : es ≡ after = cc in subst AreFilesSorted is h)
regions_set-sorted (c ∷ cs) es after h e = by (λ next in-order is. regions_set-sorted cs next after in-order is) (file_found es c.inode) refl c.value refl
  where
    by : ((next : Entries) → AreFilesSorted next → regions_set next cs ≡ Some after → AreFilesSorted after)
        → (o : Option FileEntry) → file_found es c.inode ≡ o → (v : Option ValueRow) → c.value ≡ v → AreFilesSorted after
    by go None none None v = go es h (sym (ap (λ o. region_set_in o es c >>= λ m. regions_set m cs) none
        ∙ ap (λ w. nowhere es w >>= λ m. regions_set m cs) v) ∙ e)
    by go None none (Some w) v =
        (let bad : None ≡ Some after = sym (ap (λ o. region_set_in o es c >>= λ m. regions_set m cs) none ∙ ap (λ w. nowhere es w >>= λ m. regions_set m cs) v)
        ∙ e in absurd (cc))
    by go (Some f) here v is =
        let found : find inode_cmp c.inode es ≡ Some f = find-lookup inode_cmp c.inode es ∙ here in
        let next : AreFilesSorted (put_back inode_cmp es c.inode (with_region f c.number c.value)) =
        back-sorted es c.inode (with_region f c.number c.value) h (set-sorted nat_cmp_total f.regions c.number c.value (found-sorted es c.inode f h found)) in
        go (put_back inode_cmp es c.inode (with_region f c.number c.value)) next (sym (ap (λ o. region_set_in o es c >>= λ m. regions_set m cs) here) ∙ e)
