-- What a store in memory tells after a call.
use Rattle.std.proofs.Common.{◌≡◌, ◌≢◌, ℕ, zero, suc, Bool, true, false, ◌<◌, ◌≤◌, ◌+◌, ◌-◌, ◌^◌, ◌⊎◌, inl, inr, cond, nat_lt, ◌&&◌, min, Some, None, List, [], ◌∷◌, ◌++◌, length, get_or, take, drop, set, refl, sym, ◌∙◌, ap, subst, arith, length-append, get_or-set_same, get_or-set_other}
use Rattle.std.specs.List.{slice_get}
use Rattle.std.proofs.lemmas.Bool.{and_from, cases_eq, cases_lt, le-ltb, lt-ltb}
use Rattle.std.proofs.lemmas.List.{get_or-take, get_or-drop}
use Rattle.std.proofs.lemmas.Option.{slice_get-get_or, slice_get_within, get_or_from_slice_get}
use Rattle.wtf_dev.specs.Store.{Range, Outside, Appended}
use Rattle.wtf_dev.specs.Calls.{CallCounts, CallsGoOn, IsCall}
use Rattle.wtf_dev.specs.Memory.{StoreState, StoreFollows, Zeroed, file_bytes, file_size, file_told, store_view}
use Rattle.wtf_dev.specs.MemoryLaws.{told_parts}

pub get_more : (xs ys : List ℕ) (i b : ℕ) → slice_get xs i ≡ Some b → slice_get (xs ++ ys) i ≡ Some b
get_more [] ys i b h = cc
get_more (x ∷ xs) ys zero b h = h
get_more (x ∷ xs) ys (suc i) b h = get_more xs ys i b h

pub get_after : (xs ys : List ℕ) (i k : ℕ) → i ≡ length xs + k → k < length ys → slice_get (xs ++ ys) i ≡ Some (get_or ys k 0)
get_after [] ys i k e h = subst (λ (n : ℕ). slice_get ys n ≡ Some (get_or ys k 0)) (omega (arith, e)) (slice_get-get_or ys k 0 h)
get_after (x ∷ xs) ys zero k e h = absurd (omega (arith, e))
get_after (x ∷ xs) ys (suc i) k e h = get_after xs ys i k (omega (arith, e)) h

-- the file `file` is now `next`, and the other files are as they were
pub told_set : (old new : StoreState) (file : ℕ) (next : List ℕ) (ranges : List Range) → new.files ≡ set old.files file next → file < length old.files
    → ((i b : ℕ) → Outside file i ranges → slice_get (file_bytes old file) i ≡ Some b → slice_get next i ≡ Some b)
    → (f i b : ℕ) → Outside f i ranges → slice_get (file_bytes old f) i ≡ Some b → slice_get (file_bytes new f) i ≡ Some b
told_set old new file next ranges is below step f i b out told = elim (cases_eq f file) [
  | inl e ↦
      let at : file_bytes new f ≡ next = ap (λ (l : List (List ℕ)). get_or l f []) is ∙ ap (λ n. get_or (set old.files file next) n []) e ∙ get_or-set_same old.files file next [] below in
      subst (λ (l : List ℕ). slice_get l i ≡ Some b) (sym at)
      (step i b (subst (λ n. Outside n i ranges) e out) (subst (λ n. slice_get (file_bytes old n) i ≡ Some b) e told))
  | inr ne ↦
      let at : file_bytes new f ≡ file_bytes old f = ap (λ (l : List (List ℕ)). get_or l f []) is ∙ get_or-set_other old.files file f next [] ne in
      subst (λ (l : List ℕ). slice_get l i ≡ Some b) (sym at) told
]

pub bytes_set : (old new : StoreState) (file : ℕ) (next : List ℕ) → new.files ≡ set old.files file next → file < length old.files → file_bytes new file ≡ next
bytes_set old new file next is below = ap (λ (l : List (List ℕ)). get_or l file []) is ∙ get_or-set_same old.files file next [] below

pub bytes_other : (old new : StoreState) (file f : ℕ) (next : List ℕ) → new.files ≡ set old.files file next → f ≢ file → file_bytes new f ≡ file_bytes old f
bytes_other old new file f next is ne = ap (λ (l : List (List ℕ)). get_or l f []) is ∙ get_or-set_other old.files file f next [] ne

pub size_set : (old new : StoreState) (file : ℕ) (next : List ℕ) → new.files ≡ set old.files file next → file < length old.files
    → length (file_bytes old file) ≤ length next → (f : ℕ) → length (file_bytes old f) ≤ length (file_bytes new f)
size_set old new file next is below more f = elim (cases_eq f file) [
  | inl e ↦ omega (arith, more, ap length (bytes_set old new file next is below), ap (λ n. length (file_bytes old n)) e, ap (λ n. length (file_bytes new n)) e)
  | inr ne ↦ omega (arith, ap length (bytes_other old new file f next is ne))
]

-- a byte of one of the eight files below its length is told
pub told_in : (s : StoreState) (f i b : ℕ) → f < 8 → i < file_size s f → slice_get (file_bytes s f) i ≡ Some b → file_told s f i ≡ Some b
told_in s f i b known below is =
    ap (λ t. cond t (slice_get (file_bytes s f) i) None) (and_from (nat_lt f 8) (nat_lt i (file_size s f)) (lt-ltb f 8 known) (lt-ltb i (file_size s f) below)) ∙ is

-- what is told goes on to be told, where no file is shorter
pub told_stays : (old new : StoreState) (ranges : List Range) → ((f : ℕ) → file_size old f ≤ file_size new f)
    → ((f i b : ℕ) → Outside f i ranges → slice_get (file_bytes old f) i ≡ Some b → slice_get (file_bytes new f) i ≡ Some b)
    → (f i b : ℕ) → Outside f i ranges → file_told old f i ≡ Some b → file_told new f i ≡ Some b
told_stays old new ranges sizes bytes f i b out told =
    let was = told_parts old f i b told in
    let grows = sizes f in
    told_in new f i b was.0.0 (omega (arith, was.0.1, grows)) (bytes f i b out was.1)

-- each byte below the length is there
held_below : (xs : List ℕ) (i n : ℕ) → i < min (length xs) n → slice_get xs i ≡ None → ⊥
held_below [] i n below none = omega (arith, below)
held_below (x ∷ xs) zero n below none = cc
held_below (x ∷ xs) (suc i) n below none = held_below xs i n (omega (arith, below)) none

-- so what is not told below the length is in no file, and is not told later
pub untold_stays : (old new : StoreState) (f i : ℕ) → i < file_size old f → file_told old f i ≡ None → file_told new f i ≡ None
untold_stays old new f i below none = elim (cases_lt f 8) [
  | inl known ↦
      let test = and_from (nat_lt f 8) (nat_lt i (file_size old f)) (lt-ltb f 8 known) (lt-ltb i (file_size old f) below) in
      absurd (held_below (file_bytes old f) i (2 ^ 61 - 1) below (sym (ap (λ t. cond t (slice_get (file_bytes old f) i) None) test) ∙ none))
  | inr past ↦ ap (λ t. cond (t && nat_lt i (file_size new f)) (slice_get (file_bytes new f) i) None) (le-ltb f 8 past)
]

-- a call, or several: more were counted, and no count fell
pub record Later (old new : CallCounts) : Type 0 where
  pub calls : CallsGoOn old new
  pub faults : old.faults ≤ new.faults

pub later_call : (failed : Bool) {a b : CallCounts} → IsCall failed a b → Later a b
later_call false c = record {
  calls = record { fails = c.counted.fails; calls = omega (arith, c.counted.calls); short = omega (arith, c.short) };
  faults = omega (arith, c.counted.faults);
}
later_call true c = record {
  calls = record { fails = c.counted.fails; calls = omega (arith, c.counted.calls); short = omega (arith, c.short) };
  faults = omega (arith, c.counted.faults);
}

-- the state of a store in memory
abbrev pub state : List (List ℕ) → CallCounts → ℕ → StoreState
state files calls syncs = record { files = files; calls = calls; syncs = syncs }

pub follows_grown : (old new : StoreState) (file : ℕ) (bytes : List ℕ) → new.files ≡ set old.files file (file_bytes old file ++ bytes) → file < length old.files
    → Later old.calls new.calls → new.syncs ≡ old.syncs → StoreFollows old new []
follows_grown old new file bytes is below n same =
    let sizes : (f : ℕ) → file_size old f ≤ file_size new f =
    λ f. omega (arith, size_set old new file _ is below (omega (arith, length-append (file_bytes old file) bytes)) f) in
    let stays : (f i b : ℕ) → Outside f i [] → file_told old f i ≡ Some b → file_told new f i ≡ Some b =
    told_stays old new [] sizes (told_set old new file _ [] is below (λ i b out told. get_more (file_bytes old file) bytes i b told)) in
    record {
      calls = n.calls;
      kept = record {
        faults = n.faults;
        syncs = omega (arith, same);
        tells = refl;
        size = sizes;
        bytes = stays;
        shown = stays;
        unshown = λ f i out low none. untold_stays old new f i low none;
      };
    }

pub appended_grown : (old new : StoreState) (file : ℕ) (bytes : List ℕ) (at : ℕ) → file < 8 → new.files ≡ set old.files file (file_bytes old file ++ bytes) → file < length old.files
    → length (file_bytes old file) + length bytes < 2 ^ 61 → at ≡ length (file_bytes old file) → Appended (store_view old) (store_view new) file bytes at
appended_grown old new file bytes at known is below room e =
    let size : file_size new file ≡ at + length bytes =
    omega (arith, ap length (bytes_set old new file _ is below), length-append (file_bytes old file) bytes, e, room) in
    record {
      at = omega (arith, e, room);
      size = size;
      bytes = λ told k h.
          told_in new file (at + k) _ known (omega (arith, size, h))
          (ap (λ (l : List ℕ). slice_get l (at + k)) (bytes_set old new file _ is below) ∙ get_after (file_bytes old file) bytes (at + k) k (omega (arith, e)) h);
    }

pub follows_zeroed : (old new : StoreState) (file at len : ℕ) (next : List ℕ) → new.files ≡ set old.files file next → file < length old.files
    → Zeroed (file_bytes old file) next at (at + len) → Later old.calls new.calls → new.syncs ≡ old.syncs → StoreFollows old new (record { file = file; at = at; len = len } ∷ [])
follows_zeroed old new file at len next is below z n same =
    let ranges : List Range = record { file = file; at = at; len = len } ∷ [] in
    let sizes : (f : ℕ) → file_size old f ≤ file_size new f = λ f. omega (arith, size_set old new file next is below (omega (arith, z.len)) f) in
    let stays : (f i b : ℕ) → Outside f i ranges → file_told old f i ≡ Some b → file_told new f i ≡ Some b =
    told_stays old new ranges sizes (told_set old new file next ranges is below (λ i b out told.
    let inside = slice_get_within (file_bytes old file) i b told in
    let far : (i < at) ⊎ (at + len ≤ i) = elim (cases_lt i at) [ inl lt ↦ inl lt | inr ge ↦ inr (out.0 refl ge) ] in
    let same : get_or next i 0 ≡ b = z.others i far ∙ get_or_from_slice_get (file_bytes old file) i b 0 told in
    slice_get-get_or next i 0 (omega (arith, inside, z.len)) ∙ ap Some same)) in
    record {
      calls = n.calls;
      kept = record {
        faults = n.faults;
        syncs = omega (arith, same);
        tells = refl;
        size = sizes;
        bytes = stays;
        shown = stays;
        unshown = λ f i out low none. untold_stays old new f i low none;
      };
    }

pub follows_more : (old : StoreState) (files next : List (List ℕ)) (a b : CallCounts) (s file : ℕ) (bytes : List ℕ) → state files a s ≡ old
    → next ≡ set files file (get_or files file [] ++ bytes) → file < length files → Later a b → StoreFollows old (state next b s) []
follows_more old files next a b s file bytes is more below l =
    subst (λ (o : StoreState). StoreFollows o (state next b s) []) is (follows_grown (state files a s) (state next b s) file bytes more below l refl)

pub appended_more : (old : StoreState) (files next : List (List ℕ)) (a b : CallCounts) (s file : ℕ) (bytes : List ℕ) (at : ℕ) → file < 8 → state files a s ≡ old
    → next ≡ set files file (get_or files file [] ++ bytes) → file < length files → length (get_or files file []) + length bytes < 2 ^ 61 → at ≡ length (get_or files file []) → Appended (store_view old) (store_view (state next b s)) file bytes at
appended_more old files next a b s file bytes at known is more below room e =
    subst (λ (o : StoreState). Appended (store_view o) (store_view (state next b s)) file bytes at) is (appended_grown (state files a s) (state next b s) file bytes at known more below room e)

pub follows_nothing : (old : StoreState) (files next : List (List ℕ)) (a b : CallCounts) (s file at len : ℕ) → state files a s ≡ old
    → ((v : List ℕ) × (next ≡ set files file v) × Zeroed (get_or files file []) v at (at + len)) → file < length files → Later a b
    → StoreFollows old (state next b s) (record { file = file; at = at; len = len } ∷ [])
follows_nothing old files next a b s file at len is z below l =
    subst (λ (o : StoreState). StoreFollows o (state next b s) (record { file = file; at = at; len = len } ∷ [])) is
    (follows_zeroed (state files a s) (state next b s) file at len z.0 z.1 below z.2 l refl)

pub zeros_told : (files next : List (List ℕ)) (b : CallCounts) (s file from to i : ℕ) → file < 8 → ((v : List ℕ) × (next ≡ set files file v) × Zeroed (get_or files file []) v from to)
    → file < length files → to ≤ min (length (get_or files file [])) (2 ^ 61 - 1) → from ≤ i → i < to → file_told (state next b s) file i ≡ Some 0
zeros_told files next b s file from to i known z below within low high =
    let at : get_or next file [] ≡ z.0 = ap (λ (l : List (List ℕ)). get_or l file []) z.1 ∙ get_or-set_same files file z.0 [] below in
    told_in (state next b s) file i 0 known (omega (arith, ap length at, high, within, z.2.len))
    (ap (λ (l : List ℕ). slice_get l i) at ∙ slice_get-get_or z.0 i 0 (omega (arith, high, within, z.2.len)) ∙ ap Some (z.2.zeros i low high))

pub read_told : (out xs : List ℕ) (at n k b : ℕ) → out ≡ take (at + n - at) (drop at xs) → length out ≡ n → k < length out → slice_get xs (at + k) ≡ Some b → get_or out k 0 ≡ b
read_told out xs at n k b e size h told =
    ap (λ (l : List ℕ). get_or l k 0) e ∙ get_or-take (at + n - at) (drop at xs) k 0 (omega (arith, h, size)) ∙ get_or-drop at xs k 0 ∙ get_or_from_slice_get xs (at + k) b 0 told
