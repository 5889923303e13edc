-- What lines leave alone of the stores, and which images they hand to the keeper.
use Rattle.std.specs.Prelude.{◌≡◌, ◌⊎◌, ℕ, Bool, false, List, [], ◌∷◌, ◌++◌, Option, None, Some, Result, Ok, Err}
use Rattle.wtf_dev.specs.Store.{StoreKind}
use Rattle.wtf_replica.specs.Outs.{IsLeftDown, SameFrom, SameSyncs}
use Rattle.wtf_replica.specs.Spans.{Span, span}
use Rattle.wtf_model.specs.declared.answer.Answer.{Answer}
use Rattle.wtf_model.specs.declared.answer.Answer.TheVariants as answer
use Rattle.wtf_model.specs.declared.event.Event.TheVariants as event
use Rattle.wtf_model.specs.Lines.{Line}
use Rattle.wtf_model.specs.Servers.{down_after}
use Rattle.wtf_image.specs.Images.{HasText}
use Rattle.wtf_image.specs.Rows.{ImageRows}
use Rattle.wtf_serve.specs.Engines.{is_save}
use Rattle.wtf_serve.specs.Scripts.{IsEndStatus, IsWholeStatus}

-- The store of each server that is down is as it was; and no store was synced, but where one may be.
pub record SparesStores {S : Type 0} (kind : StoreKind S) (t : Span S) (may_sync : Bool) : Type 0 where
  pub down : IsLeftDown t
  pub unsynced : may_sync ≡ false → SameSyncs kind t.before t.after

-- this is one image, of so many installs
pub record IsOneImage (installs : ℕ) (images : List (List ℕ)) : Type 0 where
  pub image : List ℕ
  pub one : images ≡ image ∷ []
  pub rows : ImageRows
  pub text : HasText rows image
  pub number : rows.header.installs ≡ installs

-- no image, or one
abbrev pub IsOneAtMost : List (List ℕ) → Type 0
IsOneAtMost images = (images ≡ []) ⊎ ((installs : ℕ) × IsOneImage installs images)

-- The images that a line handed to the keeper: a save that was answered hands the image of as many installs as it says, one that failed
-- one at most, and no other line any.
abbrev pub LineHands : Line → Answer → List (List ℕ) → Type 0
LineHands (Ok event.Save) (answer.Saved n) images = IsOneImage n images
LineHands (Ok event.Save) answer.FaultSave images = IsOneAtMost images
LineHands line a images = images ≡ []

-- Along lines with their answers, in order:

-- the stores go from `before` to `after`, and each line spares them, where these servers are down before the first; a save alone may sync
abbrev pub SparesAlong : {S : Type 0} → StoreKind S → (ℕ → Bool) → List Line → List Answer → List S → List S → Type 0
SparesAlong kind down [] [] before after = after ≡ before
SparesAlong {S} kind down (line ∷ lines) (a ∷ answers) before after =
    (mid : List S) × SparesStores kind (span down before mid) (is_save line) × SparesAlong kind (down_after down line a) lines answers mid after
SparesAlong kind down lines answers before after = ⊥

-- these images were handed to the keeper
abbrev pub HandsAlong : List Line → List Answer → List (List ℕ) → Type 0
HandsAlong [] [] images = images ≡ []
HandsAlong (line ∷ lines) (a ∷ answers) images =
    (own : List (List ℕ)) × (rest : List (List ℕ)) × (images ≡ own ++ rest) × LineHands line a own × HandsAlong lines answers rest
HandsAlong lines answers images = ⊥

-- Of one line, where memory was wanted before its answer if there is none:

abbrev pub answer_of : {E : Type 0} → Result Answer E → Option Answer
answer_of (Ok a) = Some a
answer_of (Err why) = None

abbrev pub may_sync : Line → Option Answer → Bool
may_sync line None = false
may_sync line (Some a) = is_save line

abbrev pub MayHand : Line → Option Answer → List (List ℕ) → Type 0
MayHand line None images = images ≡ []
MayHand line (Some a) images = LineHands line a images

-- The stores behind those of so many servers are as they were.
pub record LineSpares {S : Type 0} (kind : StoreKind S) (handed : List (List ℕ) → Type 0) (servers : ℕ) (t : Span S) (line : Line) (a : Option Answer)
    : Type 0 where
  pub stores : SparesStores kind t (may_sync line a)
  pub past : SameFrom servers t.before t.after
  pub images : List (List ℕ)
  pub hands : MayHand line a images
  pub handed_are : handed images

-- What comes behind the last line, by the status: the closing save, which leaves each server that is down alone, and each store behind those of so
-- many servers, and hands one image to the keeper, or one at most where it failed; or, with a status that says of no save, nothing is synced, and
-- nothing handed.
pub record EndSpares {S : Type 0} (kind : StoreKind S) (handed : List (List ℕ) → Type 0) (servers : ℕ) (t : Span S) (status : ℕ) : Type 0 where
  pub down : IsLeftDown t
  pub past : SameFrom servers t.before t.after
  pub images : List (List ℕ)
  pub handed_are : handed images
  pub saved : IsEndStatus status → (installs : ℕ) × IsOneImage installs images
  pub failed : status ≡ 5 → IsOneAtMost images
  pub unsaved : (IsWholeStatus status → ⊥) → SameSyncs kind t.before t.after × (images ≡ [])
