-- What was asked of files, in order, where they tell it.
use Rattle.std.specs.Prelude.{◌≡◌, ◌⊎◌, ℕ, ◌<◌, Bool, true, false, List, [], ◌∷◌, ◌++◌, Option, Some, None, Result, Ok, Err, length, take, drop, map, slice_set, slice_index_or}
use Rattle.wtf_real.specs.declared.image_files.ImageName.{ImageName}
use Rattle.wtf_real.specs.declared.image_files.ImageName.TheVariants.{Beside}

-- bytes that were read from a place on, bytes or zeros that are written there, and the file brought to where it lasts
pub data FileOp : Type 0 where
  ReadAt : (at : ℕ) (bytes : List ℕ) → FileOp
  WriteAt : (at : ℕ) (bytes : List ℕ) → FileOp
  ZeroAt : (at len : ℕ) → FileOp
  Sync : FileOp

-- the image taken, a file of this name made anew with these bytes, the one written last brought to where it lasts, the file
-- beside put in the place of the image, and the names of the folder brought to where they last
pub data ImageOp : Type 0 where
  Take : (image : List ℕ) → ImageOp
  Write : (name : ImageName) (bytes : List ℕ) → ImageOp
  SyncWritten : ImageOp
  Rename : ImageOp
  SyncNames : ImageOp

-- one call, and whether it did what it was asked: else it may have done a part
pub record Call (Op : Type 0) : Type 0 where
  pub op : Op
  pub done : Bool

-- the calls so far, and then one more
abbrev pub then_call : {Op : Type 0} → Op → Bool → Option (List (Call Op)) → Option (List (Call Op))
then_call op done None = None
then_call op done (Some calls) = Some (calls ++ record { op = op; done = done } ∷ [])

-- This one thing failed, and nothing else was asked. A call may come to nothing before it is heard of.
abbrev pub HasFailed : {Op : Type 0} → Op → Option (List (Call Op)) → Option (List (Call Op)) → Type 0
HasFailed op old new = (new ≡ old) ⊎ (new ≡ then_call op false old)

-- this one thing was asked, and nothing else
abbrev pub IsAsked : {A E Op : Type 0} → Result A E → Op → Option (List (Call Op)) → Option (List (Call Op)) → Type 0
IsAsked (Ok a) op old new = new ≡ then_call op true old
IsAsked (Err e) op old new = HasFailed op old new

-- the calls so far, and then all of these, each done
abbrev pub then_calls : {Op : Type 0} → List Op → Option (List (Call Op)) → Option (List (Call Op))
then_calls [] told = told
then_calls (op ∷ ops) told = then_calls ops (then_call op true told)

-- one of these things failed, those before it were done, and those behind it were not asked
abbrev pub HasFailedAt : {Op : Type 0} → List Op → Option (List (Call Op)) → Option (List (Call Op)) → Type 0
HasFailedAt [] old new = ⊥
HasFailedAt (op ∷ ops) old new = HasFailed op old new ⊎ HasFailedAt ops (then_call op true old) new

-- all of these things were asked in order and nothing else, up to the first that failed
abbrev pub AreAsked : {A E Op : Type 0} → Result A E → List Op → Option (List (Call Op)) → Option (List (Call Op)) → Type 0
AreAsked (Ok a) ops old new = new ≡ then_calls ops old
AreAsked (Err e) ops old new = HasFailedAt ops old new

-- How an image takes the place of another: it is written beside, and where it lasts it is put in its place.
abbrev pub replacing : List ℕ → List ImageOp
replacing bytes = Write Beside bytes ∷ SyncWritten ∷ Rename ∷ SyncNames ∷ []

-- one of several files got a call, and the others none
abbrev pub with_call : ℕ → FileOp → Bool → List (Option (List (Call FileOp))) → List (Option (List (Call FileOp)))
with_call file op done all = slice_set all file (then_call op done (slice_index_or all file None))

-- one of several files was asked this one thing, and the others nothing
abbrev pub IsAskedOf : {A E : Type 0} → Result A E → ℕ → FileOp → List (Option (List (Call FileOp))) → List (Option (List (Call FileOp))) → Type 0
IsAskedOf (Ok a) file op old new = new ≡ with_call file op true old
IsAskedOf (Err e) file op old new = (new ≡ old) ⊎ (new ≡ with_call file op false old)

-- the first files were brought to where they last, and nothing else was asked
abbrev pub synced_to : ℕ → List (Option (List (Call FileOp))) → List (Option (List (Call FileOp)))
synced_to n all = map (then_call Sync true) (take n all) ++ drop n all

-- Each of several files was brought to where it lasts, and nothing else was asked; or one was not, and those before it were.
abbrev pub AreSynced : {A E : Type 0} → Result A E → List (Option (List (Call FileOp))) → List (Option (List (Call FileOp))) → Type 0
AreSynced (Ok a) old new = new ≡ map (then_call Sync true) old
AreSynced {A} {E} (Err e) old new = (k : ℕ) × (k < length old) × ((new ≡ synced_to k old) ⊎ (new ≡ with_call k Sync false (synced_to k old)))
