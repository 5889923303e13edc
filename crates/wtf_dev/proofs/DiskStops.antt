-- What a stop leaves of a disk in memory, as a disk of its own.
use Rattle.std.specs.Prelude.{◌≡◌, ◌≢◌, ℕ, ◌+◌, ◌<◌, ◌≤◌, Bool, true, false, List, [], refl}
use Rattle.std.proofs.Common.{arith, ◌∙◌, sym, ap, subst, inl, inr, cond}
use Rattle.std.proofs.lemmas.Bool.{cases_eq, cases_lt}
use Rattle.wtf_dev.specs.Disk.{DiskFileView, IsFileImage}
use Rattle.wtf_dev.specs.declared.disk_call.DiskCall.{DiskCall}
use Rattle.wtf_dev.specs.DiskTape.{FileState, IsLeftover, disk_file, file_after, file_settled, file_view, picked}
use Rattle.wtf_dev.specs.DiskTapeLaws.{AreImages, images_now, seen_image}

-- the first n files of a tape are what a stop leaves of another, by choice, and the rest is empty
pub record AreRestored (pick : ℕ) (noted tape : List DiskCall) (n : ℕ) : Type 0 where
  pub done : (f : ℕ) → f < n → disk_file tape f ≡ file_settled (picked pick (disk_file noted f))
  pub rest : (f : ℕ) → n ≤ f → disk_file tape f ≡ file_settled []

pub restored_none : (pick : ℕ) (noted : List DiskCall) → AreRestored pick noted [] 0
restored_none pick noted = record { done = λ f lt. absurd (omega (arith, lt)); rest = λ f le. refl }

-- one file more
pub restored_one : {pick : ℕ} {noted old new : List DiskCall} (file : ℕ) (bytes : List ℕ) → AreRestored pick noted old file
    → bytes ≡ picked pick (disk_file noted file)
    → disk_file new file ≡ file_settled bytes → ((f : ℕ) → f ≢ file → disk_file new f ≡ disk_file old f) → AreRestored pick noted new (file + 1)
restored_one {pick} {noted} {old} {new} file bytes are is here others = record {
  done = λ f lt. elim (cases_eq f file) [
    | inl e ↦ subst (λ (k : ℕ). disk_file new k ≡ file_settled (picked pick (disk_file noted k))) (sym e) (here ∙ ap file_settled is)
    | inr ne ↦ others f ne ∙ are.done f (omega (arith, lt, ne))
  ];
  rest = λ f le. others f (omega (arith, le)) ∙ are.rest f (omega (arith, le));
}

synced_image : (s : FileState) → AreImages s → IsFileImage (file_view s) s.synced
synced_image s g = record { least = omega arith; most = omega (arith, g.synced_in, g.seen_in); bytes = g.synced_told }

ones_image : (s : FileState) → AreImages s → IsFileImage (file_view s) s.ones
ones_image s g = record { least = omega (arith, g.synced_in, g.seen_in); most = omega arith; bytes = g.ones_told }

either : (b : Bool) (v : DiskFileView) (c d : List ℕ) → IsFileImage v c → IsFileImage v d → IsFileImage v (cond b c d)
either true v c d p q = p
either false v c d p q = q

picked_image : (pick : ℕ) (s : FileState) → AreImages s → IsFileImage (file_view s) (picked pick s)
picked_image pick s g = either _ (file_view s) s.synced _ (synced_image s g) (either _ (file_view s) s.seen s.ones (seen_image s g) (ones_image s g))

-- what is restored is what a stop may leave
pub restored_left : (pick : ℕ) (noted tape : List DiskCall) → AreRestored pick noted tape 8 → ((f : ℕ) → 8 ≤ f → (disk_file noted f).seen ≡ [])
    → (f : ℕ) → IsFileImage (file_view (disk_file noted f)) (disk_file tape f).seen
restored_left pick noted tape are past f = elim (cases_lt f 8) [
  | inl lt ↦ subst (IsFileImage (file_view (disk_file noted f))) (sym (ap (λ (s : FileState). s.seen) (are.done f lt)))
      (picked_image pick (disk_file noted f) (images_now noted f))
  | inr ge ↦
      subst (IsFileImage (file_view (disk_file noted f))) (past f ge ∙ sym (ap (λ (s : FileState). s.seen) (are.rest f ge)))
      (seen_image (disk_file noted f) (images_now noted f))
]

-- a file behind one call more
pub leftover_more : {seen left more next : List ℕ} {ones o : Bool} {file f : ℕ} (x : DiskCall) (s t : FileState) → o ≡ ones → f ≡ file → t ≡ file_after file s x
    → IsLeftover ones seen left s → ((s : FileState) → IsLeftover o seen left s → IsLeftover o more next (file_after f s x)) → IsLeftover ones more next t
leftover_more {seen} {left} {more} {next} {ones} {o} {file} {f} x s t same_ones same_file is had redone =
    subst (λ (z : FileState). IsLeftover ones more next z) (sym is)
    (subst (λ (k : ℕ). IsLeftover ones more next (file_after k s x)) same_file
    (subst (λ (b : Bool). ((z : FileState) → IsLeftover b seen left z → IsLeftover b more next (file_after f z x))) same_ones redone s had))
