-- What a stop leaves in a write over a file of which nothing was pending.
use Rattle.std.proofs.Common.{◌≡◌, ◌⊎◌, ◌<◌, ◌≤◌, ◌+◌, ◌∙◌, ℕ, List, length, get_or, take, drop, inl, inr, sym, arith, length-take, length-drop}
use Rattle.std.specs.Prelude.{max}
use Rattle.std.proofs.lemmas.List.{same_lists, get_or-take, get_or-drop}
use Rattle.std.proofs.lemmas.Option.{slice_get-get_or, get_or_from_slice_get}
use Rattle.wtf_dev.specs.Disk.{DiskContent, DiskFileView, DiskView, IsFileImage, IsSettled, Pends}
use Rattle.wtf_journal.specs.Through.{TornFrom}

-- any bytes in the range and past the old end, and the same elsewhere
pub record Torn (at n : ℕ) (s c : List ℕ) : Type 0 where
  pub front : take at c ≡ take at s
  pub back : drop (at + n) c ≡ drop (at + n) s
  pub no_shorter : length s ≤ length c

module _ (s c : List ℕ) (v w : DiskFileView) (at n : ℕ) (settled : IsSettled s v) (pends : Pends at n v w) (image : IsFileImage w c) where
  get_outside : (i d : ℕ) → i < length s → (i < at) ⊎ (at + n ≤ i) → get_or c i d ≡ get_or s i d
  get_outside i d below out = get_or_from_slice_get c i (get_or s i d) d
      (image.bytes i (get_or s i d) (pends.told i (get_or s i d) out (settled.told i ∙ slice_get-get_or s i d below)))

  longer : length s ≤ length c
  longer = omega (arith, image.least, pends.least, settled.least)

  shorter : length c ≤ max (length s) (at + n)
  shorter = omega (arith, image.most, pends.most, settled.most)

  front : at ≤ length s → take at c ≡ take at s
  front inside = same_lists (take at c) (take at s) (omega (arith, length-take at c, length-take at s, longer, inside)) (λ k d h.
      let here : k < at = omega (arith, h, length-take at c) in
      get_or-take at c k d here ∙ get_outside k d (omega (arith, here, inside)) (inl here) ∙ sym (get_or-take at s k d here))

  back : drop (at + n) c ≡ drop (at + n) s
  back = same_lists (drop (at + n) c) (drop (at + n) s) (omega (arith, length-drop (at + n) c, length-drop (at + n) s, longer, shorter)) (λ k d h.
      let here : at + n + k < length s = omega (arith, h, length-drop (at + n) c, shorter) in
      get_or-drop (at + n) c k d ∙ get_outside (at + n + k) d here (inr (omega arith)) ∙ sym (get_or-drop (at + n) s k d))

  pub torn_image : at ≤ length s → Torn at n s c
  torn_image inside = record { front = front inside; back = back; no_shorter = longer }

pub torn_from : (s : List ℕ) (c : DiskContent) (old : DiskView) (file at n : ℕ) → IsSettled s (old.file file) → at ≤ length s → TornFrom old file at n c
    → Torn at n s (c file)
torn_from s c old file at n settled inside torn = torn_image s (c file) (old.file file) torn.view at n settled torn.pends torn.here inside
