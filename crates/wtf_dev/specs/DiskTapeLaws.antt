-- The disk in memory keeps to the laws of disks. Its `impl` gives this proof, so it stands beside the definitions.
use Rattle.std.specs.Prelude.{◌≡◌, ◌⊎◌, ℕ, ◌+◌, ◌-◌, ◌<◌, ◌≤◌, Bool, true, false, max, min, Option, None, Some, List, [], ◌∷◌, ◌++◌, length, take, drop, replicate, slice_get, refl}
use Rattle.std.proofs.Common.{arith, ◌∙◌, sym, ap, subst, inl, inr, get_or, cond, length-append, length-take, length-drop}
use Rattle.std.proofs.Math.ListN.{length-replicate}
use Rattle.std.proofs.lemmas.Bool.{cases_lt}
use Rattle.std.proofs.lemmas.Bool.Decides.{nat_tests}
use Rattle.std.proofs.lemmas.List.{get_or-take, get_or-drop, get_or_append_left, get_or-append_right, take_all}
use Rattle.std.proofs.lemmas.Option.{slice_get-get_or, slice_get_within, get_or_from_slice_get}
use Rattle.wtf_dev.specs.Disk.{IsFileImage, DiskLaws, overwritten}
use Rattle.wtf_dev.specs.declared.disk_call.DiskCall.{DiskCall}
use Rattle.wtf_dev.specs.declared.disk_call.DiskCall.TheVariants as call
use Rattle.wtf_dev.specs.DiskTape.{FileState, file_settled, told_outside, file_spoiled, file_written, file_after, file_after_all, disk_file, file_view, mem_disk}

over_length : (s bytes : List ℕ) (at : ℕ) → length (overwritten s at bytes) ≡ min at (length s) + length bytes + (length s - (at + length bytes))
over_length s bytes at = omega (
  arith,
  length-append (take at s ++ bytes) (drop (at + length bytes) s),
  length-append (take at s) bytes,
  length-take at s,
  length-drop (at + length bytes) s,
)

pub length-overwritten : (s bytes : List ℕ) (at : ℕ) → at ≤ length s → length (overwritten s at bytes) ≡ max (length s) (at + length bytes)
length-overwritten s bytes at inside =
    omega (arith, over_length s bytes at, inside)

over_longer : (s bytes : List ℕ) (at : ℕ) → length s ≤ length (overwritten s at bytes)
over_longer s bytes at = omega (arith, over_length s bytes at)

over_order : (s t xs ys : List ℕ) (at : ℕ) → length s ≤ length t → length xs ≡ length ys → length (overwritten s at xs) ≤ length (overwritten t at ys)
over_order s t xs ys at le same = omega (arith, le, same, over_length s xs at, over_length t ys at)

get_over : (s bytes : List ℕ) (at i d : ℕ) → i < length s → (i < at) ⊎ (at + length bytes ≤ i) → get_or (overwritten s at bytes) i d ≡ get_or s i d
get_over s bytes at i d below (inl lt) =
    get_or_append_left (take at s ++ bytes) (drop (at + length bytes) s) d i (omega (arith, lt, below, length-append (take at s) bytes, length-take at s))
    ∙ get_or_append_left (take at s) bytes d i (omega (arith, lt, below, length-take at s))
    ∙ get_or-take at s i d lt
get_over s bytes at i d below (inr ge) =
    get_or-append_right (take at s ++ bytes) (drop (at + length bytes) s) (at + length bytes) i d
    (omega (arith, ge, below, length-append (take at s) bytes, length-take at s)) ge
    ∙ get_or-drop (at + length bytes) s (i - (at + length bytes)) d
    ∙ ap (λ (k : ℕ). get_or s k d) (omega (arith, ge))

-- a byte outside the range stays
pub told_over : (s bytes : List ℕ) (at i b : ℕ) → (i < at) ⊎ (at + length bytes ≤ i) → slice_get s i ≡ Some b → slice_get (overwritten s at bytes) i ≡ Some b
told_over s bytes at i b out told =
    let within = slice_get_within s i b told in
    slice_get-get_or (overwritten s at bytes) i 0 (omega (arith, within, over_longer s bytes at))
    ∙ ap Some (get_over s bytes at i 0 within out ∙ get_or_from_slice_get s i b 0 told)

outside_below : (at n : ℕ) (told : ℕ → Option ℕ) (i : ℕ) → i < at → told_outside at n told i ≡ told i
outside_below at n told i lt = grind (arith, nat_tests)

outside_behind : (at n : ℕ) (told : ℕ → Option ℕ) (i : ℕ) → at + n ≤ i → told_outside at n told i ≡ told i
outside_behind at n told i ge = grind (arith, nat_tests)

outside_inside : (at n : ℕ) (told : ℕ → Option ℕ) (i : ℕ) → at ≤ i → i < at + n → told_outside at n told i ≡ None
outside_inside at n told i ge lt = grind (arith, nat_tests)

pub outside_same : (at n : ℕ) (told : ℕ → Option ℕ) (i : ℕ) → (i < at) ⊎ (at + n ≤ i) → told_outside at n told i ≡ told i
outside_same at n told i (inl lt) = outside_below at n told i lt
outside_same at n told i (inr ge) = outside_behind at n told i ge

-- what is told behind a write was told before, and is not in the range
outside_told : (at n : ℕ) (told : ℕ → Option ℕ) (i b : ℕ) → told_outside at n told i ≡ Some b → (told i ≡ Some b) × ((i < at) ⊎ (at + n ≤ i))
outside_told at n told i b is = elim (cases_lt i at) [
  | inl lt ↦ (sym (outside_below at n told i lt) ∙ is, inl lt)
  | inr ge ↦ elim (cases_lt i (at + n)) [
    | inl inside ↦ let none = outside_inside at n told i ge inside in absurd (cc (none, is))
    | inr behind ↦ (sym (outside_behind at n told i behind) ∙ is, inr behind)
  ]
]

-- the three contents of a file may each be left
pub record AreImages (s : FileState) : Type 0 where
  pub synced_in : length s.synced ≤ length s.seen
  pub seen_in : length s.seen ≤ length s.ones
  pub synced_told : (i b : ℕ) → s.told i ≡ Some b → slice_get s.synced i ≡ Some b
  pub seen_told : (i b : ℕ) → s.told i ≡ Some b → slice_get s.seen i ≡ Some b
  pub ones_told : (i b : ℕ) → s.told i ≡ Some b → slice_get s.ones i ≡ Some b

images_settled : (s : List ℕ) → AreImages (file_settled s)
images_settled s = record { synced_in = omega arith; seen_in = omega arith; synced_told = λ i b t. t; seen_told = λ i b t. t; ones_told = λ i b t. t }

pub many : (n : ℕ) → length {A = ℕ} (replicate n 1) ≡ n
many n = length-replicate n 1

images_spoiled : (at n : ℕ) (s : FileState) → AreImages s → AreImages (file_spoiled at n s)
images_spoiled at n s g = record {
  synced_in = g.synced_in;
  seen_in = omega (arith, g.seen_in, over_longer s.ones (replicate n 1) at);
  synced_told = λ i b t. g.synced_told i b (outside_told at n s.told i b t).0;
  seen_told = λ i b t. g.seen_told i b (outside_told at n s.told i b t).0;
  ones_told = λ i b t. let was = outside_told at n s.told i b t in
      told_over s.ones (replicate n 1) at i b (subst (λ (m : ℕ). (i < at) ⊎ (at + m ≤ i)) (sym (many n)) was.1) (g.ones_told i b was.0);
}

images_written : (at : ℕ) (bytes : List ℕ) (s : FileState) → AreImages s → AreImages (file_written at bytes s)
images_written at bytes s g = record {
  synced_in = omega (arith, g.synced_in, over_longer s.seen bytes at);
  seen_in = over_order s.seen s.ones bytes (replicate (length bytes) 1) at g.seen_in (sym (many (length bytes)));
  synced_told = λ i b t. g.synced_told i b (outside_told at (length bytes) s.told i b t).0;
  seen_told = λ i b t. let was = outside_told at (length bytes) s.told i b t in told_over s.seen bytes at i b was.1 (g.seen_told i b was.0);
  ones_told = (images_spoiled at (length bytes) s g).ones_told;
}

images_cond : (b : Bool) (s t : FileState) → AreImages s → AreImages t → AreImages (cond b s t)
images_cond true s t g h = g
images_cond false s t g h = h

images_after : (f : ℕ) (s : FileState) (x : DiskCall) → AreImages s → AreImages (file_after f s x)
images_after f s (call.Wrote file at bytes) g = images_cond _ _ _ (images_written at bytes.items s g) g
images_after f s (call.Spoiled file at len) g = images_cond _ _ _ (images_spoiled at len s g) g
images_after f s (call.Settled file) g = images_cond _ _ _ (images_settled s.seen) g

images_after_all : (f : ℕ) (s : FileState) (xs : List DiskCall) → AreImages s → AreImages (file_after_all f s xs)
images_after_all f s [] g = g
images_after_all f s (x ∷ xs) g = images_after_all f (file_after f s x) xs (images_after f s x g)

pub images_now : (noted : List DiskCall) (f : ℕ) → AreImages (disk_file noted f)
images_now noted f = images_after_all f (file_settled []) noted (images_settled [])

pub seen_image : (s : FileState) → AreImages s → IsFileImage (file_view s) s.seen
seen_image s g = record { least = g.synced_in; most = g.seen_in; bytes = g.seen_told }

whole : (noted : List DiskCall) (k f : ℕ) → length noted ≤ k → disk_file (take k noted) f ≡ disk_file noted f
whole noted k f le = ap (λ (l : List DiskCall). disk_file l f) (take_all k noted le)

pub mem_disk_laws : DiskLaws mem_disk
mem_disk_laws = record {
  counts_now = λ d t c tells le now. (
    length d.noted,
    le,
    omega arith,
    λ f. subst (λ (s : FileState). IsFileImage (file_view s) (c f)) (sym (whole d.noted (length d.noted) f (omega arith))) (now f),
  );
  only_now = λ d c tells left. λ f. subst (λ (s : FileState). IsFileImage (file_view s) (c f)) (whole d.noted left.0 f left.1) (left.3 f);
  reads = λ d tells f. seen_image (disk_file d.noted f) (images_now d.noted f);
  lengths = λ d f tells. refl;
}
