-- What a stop leaves of a journal to which images were handed. A keeper gives the proof that such spans join, so that stands here.
use Rattle.std.specs.Prelude.{zero, suc}
use Rattle.std.proofs.Common.{◌≡◌, ◌∙◌, ◌⊎◌, ◌++◌, ℕ, List, None, Some, true, inl, inr, ⊎_elim, arith}
use Rattle.std.specs.List.{Contains}
use Rattle.std.proofs.lemmas.List.Elements.{Contains-append_left, Contains-append_right}
use Rattle.wtf_imagefmt.specs.Images.{HasText}
use Rattle.wtf_imagefmt.specs.Rows.{ImageRows}
use Rattle.wtf_dev.specs.Disk.{DiskContent, DiskKind, DiskLaws, DiskLeaves, DiskView, IsFileImage, MayLeave}
use Rattle.wtf_journal.specs.Held.{held_by}
use Rattle.wtf_journal.specs.Moments.{joins}
use Rattle.wtf_journal.specs.Scan.{JournalGives, KeepsMeaning, SameMeaning}

-- the journal stands for this image
pub record StandsForImage (c image : List ℕ) : Type 0 where
  pub rows : ImageRows
  pub text : HasText rows image
  pub gives : JournalGives held_by None c (Some rows)

-- it stands for what it could stand for before, or for one of the images
abbrev pub MeansOneOf : DiskView → List (List ℕ) → DiskContent → Type 0
MeansOneOf old images c = KeepsMeaning held_by None old c ⊎ ((image : List ℕ) × Contains images image × StandsForImage (c 0) image)

meaning_on : (a b c : List ℕ) → SameMeaning held_by None a b → SameMeaning held_by None b c → SameMeaning held_by None a c
meaning_on a b c p q = record {
  same = λ held. (λ gives. (q.same held).0 ((p.same held).0 gives), λ gives. (p.same held).1 ((q.same held).1 gives));
  bad = λ none. q.bad (λ held gives. none held ((p.same held).1 gives)) ∙ p.bad none;
}

-- one file in place of the first
abbrev with_first : List ℕ → DiskContent → DiskContent
with_first c0 c zero = c0
with_first c0 c (suc f) = c (suc f)

module _ {D : Type 0} (kind : DiskKind D) (laws : DiskLaws kind) (a b : D) (xs ys : List (List ℕ)) (tells : (kind.view a).tells ≡ true)
    (still : (kind.view b).tells ≡ true) (first : DiskLeaves kind a b (MeansOneOf (kind.view a) xs)) where
  may : (c0 : List ℕ) → IsFileImage ((kind.view b).file 0) c0 → MayLeave (kind.view b) (with_first c0 (λ f. ((kind.view b).file f).seen))
  may c0 image zero = image
  may c0 image (suc f) = laws.reads b still (suc f)

  -- what was left at the middle
  middle : (c0 : List ℕ) → IsFileImage ((kind.view b).file 0) c0
      → IsFileImage ((kind.view a).file 0) c0 ⊎ MeansOneOf (kind.view a) xs (with_first c0 (λ f. ((kind.view b).file f).seen))
  middle c0 image =
      let c : DiskContent = with_first c0 (λ f. ((kind.view b).file f).seen) in
      ⊎_elim
      (λ left. inl (laws.only_now a c tells left 0))
      (λ means. inr means)
      (first.since (kind.view a).moment c (omega arith) (laws.counts_now b (kind.view a).moment c still first.later (may c0 image)))

  later : (c : DiskContent) → MeansOneOf (kind.view b) ys c → MeansOneOf (kind.view a) (xs ++ ys) c
  later c (inr new) = inr (new.0, Contains-append_right xs ys new.0 new.1, new.2)
  later c (inl (c0, image, keeps)) = ⊎_elim
      (λ was. inl (c0, was, keeps))
      (λ means. ⊎_elim
      (λ kept. inl (kept.0, kept.1, meaning_on kept.0 c0 (c 0) kept.2 keeps))
      (λ old. inr (
        old.0,
        Contains-append_left xs ys old.0 old.1,
        record { rows = old.2.rows; text = old.2.text; gives = (keeps.same (Some old.2.rows)).0 old.2.gives },
      ))
      means)
      (middle c0 image)

  pub means_on : (d : D) → DiskLeaves kind b d (MeansOneOf (kind.view b) ys) → DiskLeaves kind a d (MeansOneOf (kind.view a) (xs ++ ys))
  means_on d second = joins kind a b d (MeansOneOf (kind.view a) xs) (MeansOneOf (kind.view b) ys) (MeansOneOf (kind.view a) (xs ++ ys)) first second
      (λ c means. ⊎_elim (λ kept. inl kept) (λ old. inr (old.0, Contains-append_left xs ys old.0 old.1, old.2)) means) later
