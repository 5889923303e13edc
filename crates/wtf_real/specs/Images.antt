-- What contracts see of the file of an image: its count of faults, and what was asked of its folder.
use Rattle.std.specs.Prelude.{ℕ, false, List, [], ◌++◌, Option, None}
use Rattle.wtf_dev.specs.Keep.{KeeperView, KeeperKept}
use Rattle.wtf_real.specs.Asked.{ImageOp, Call}
use Rattle.wtf_dev.specs.MemoryLaws.{keeper_kept_same, keeper_kept_on}

pub record ImageState : Type 0 where
  pub faults : ℕ
  -- so far, in order, where the folder tells it
  pub asked : Option (List (Call ImageOp))

abbrev pub image_view : ImageState → KeeperView
image_view s = record { faults = s.faults; held = None; tells = false }

-- a later state after an earlier one, between which these images were handed over
abbrev pub ImageFollows : ImageState → ImageState → List (List ℕ) → Type 0
ImageFollows old new images = KeeperKept (image_view old) (image_view new) images

pub image_same : (s : ImageState) → ImageFollows s s []
image_same s = keeper_kept_same (image_view s)

pub image_on : (a b c : ImageState) (xs ys : List (List ℕ)) → ImageFollows a b xs → ImageFollows b c ys → ImageFollows a c (xs ++ ys)
image_on a b c xs ys p q = keeper_kept_on (image_view a) (image_view b) (image_view c) xs ys p q
