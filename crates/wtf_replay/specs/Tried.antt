-- What an attempt, or a commit, makes of a transaction and of the store.
use Rattle.std.specs.Prelude.{◌≡◌, ◌<◌, ◌≤◌, ℕ, ◌+◌, if◌then◌else◌, nat_eq, Bool, List, true, false, Some, is_some, IsSome, Result, OnErr}
use Rattle.wtf_base.specs.declared.fault.Fault.{Fault}
use Rattle.wtf_kv.specs.Edits.{Agree, versions_with}
use Rattle.wtf_kv.specs.Stores.{Store, times_pinned, versions_of, version_of}
use Rattle.wtf_occ.specs.Attempts.{Attempted}
use Rattle.wtf_overlay.specs.declared.part.Piece.{Piece}
use Rattle.wtf_occ.specs.Tries.{IsInstalled, key_in_the_way}
use Rattle.wtf_values.specs.declared.key.Key.{Key}
use Rattle.wtf_values.specs.declared.value.Value.{Value}
use Rattle.wtf_values.specs.declared.value.Delta.{Delta}
use Rattle.wtf_values.specs.Keys.{key_cmp}
use Rattle.wtf_values.specs.Outcomes.{outcome_of}
use Rattle.wtf_model.specs.declared.answer.Answer.{Answer}
use Rattle.wtf_model.specs.declared.answer.Answer.TheVariants as answer
use Rattle.wtf_model.specs.declared.op.Op.{Op}
use Rattle.wtf_meta.specs.Maps.{AllFit, with, metadata_at}
use Rattle.wtf_meta.specs.Lists.{ListFact, TellLists}
use Rattle.wtf_meta.specs.Contents.{Told, lists_in}
use Rattle.wtf_meta.specs.Sessions.{SessionView}
use Rattle.wtf_meta.specs.Calls.{Fact, TellFacts, IsRun}
use Rattle.wtf_replay.specs.Views.{TxnView, is_txn_live, rebased}
use Rattle.wtf_replay.specs.Sounds.{caller_at, did_by}

-- the maps up to the number are what they were
abbrev pub KeepsMaps : Store Key Value → Store Key Value → Type 0
KeepsMaps old new = (n : ℕ) → n ≤ old.number → metadata_at new n ≡ metadata_at old n

-- each key has the versions that it had
abbrev pub KeepsVersions : Store Key Value → Store Key Value → Type 0
KeepsVersions old new = (q : Key) → versions_of key_cmp new q ≡ versions_of key_cmp old q

-- each number is pinned as often as it was
abbrev pub KeepsPins : Store Key Value → Store Key Value → Type 0
KeepsPins old new = (n : ℕ) → times_pinned new n ≡ times_pinned old n

-- an install, with its result: the pins and the maps up to the number are what they were, and where it was not done, so are the
-- number and all versions
pub record LeavesStore {A : Type 0} (old new : Store Key Value) (r : Result A Fault) : Type 0 where
  pub pins : new.pins ≡ old.pins
  pub maps : KeepsMaps old new
  pub err : OnErr r ((new.number ≡ old.number) × KeepsVersions old new)

-- one pin has moved from b to n
abbrev pub MovesPin : ℕ → ℕ → Store Key Value → Store Key Value → Type 0
MovesPin b n old new =
    (m : ℕ) → times_pinned new m + (if nat_eq m b then 1 else 0) ≡ times_pinned old m + (if nat_eq m n then 1 else 0)

-- no key was in the way: the changes are installed, and the transaction has ended
pub record IsCommitted (kv after : Store Key Value) (old new : TxnView) (n : ℕ) : Type 0 where
  pub installed : IsInstalled key_cmp outcome_of old.at kv after n
  pub is : new ≡ record old { ended = true }
  pub pins : after.pins ≡ kv.pins

-- a key was in the way: the base is the number now, with its pin, and all calls are to be replayed there
pub record IsRetried (kv after : Store Key Value) (old new : TxnView) (b n : ℕ) : Type 0 where
  pub in_the_way : IsSome (key_in_the_way key_cmp outcome_of old.at kv)
  pub moved : (q : Key) → key_in_the_way key_cmp outcome_of old.at kv ≡ Some q → b < version_of key_cmp kv kv.number q
  pub base_is : b ≡ old.at.base
  pub number_is : n ≡ kv.number
  pub later : b < n
  pub number : after.number ≡ kv.number
  pub versions : KeepsVersions kv after
  pub pins : MovesPin b n kv after
  pub is : new ≡ rebased old n

-- what comes of an attempt that is not refused
abbrev pub IsAttempted : Store Key Value → Store Key Value → TxnView → TxnView → Answer → Type 0
IsAttempted kv after old new (answer.Committed n) = IsCommitted kv after old new n
IsAttempted kv after old new (answer.Retry b n) = IsRetried kv after old new b n
IsAttempted kv after old new a = ⊥

-- From where a commit goes on. A live transaction is installed as it stands where no key is in the way, and a replay that
-- runs at the number goes on there; else all calls are to be made once more at the number.
abbrev pub is_free : Store Key Value → TxnView → Bool
is_free kv x = if is_some (key_in_the_way key_cmp outcome_of x.at kv) then false else true

abbrev pub stays_at : Store Key Value → TxnView → Bool
stays_at kv x = if is_txn_live x then is_free kv x else nat_eq x.at.base kv.number

abbrev pub commit_from : Store Key Value → TxnView → TxnView
commit_from kv x = if stays_at kv x then x else rebased x kv.number

-- A commit by its meaning: an attempt did the calls, on the map at its base, which has what the map now has at its recorded
-- keys; so run on each tree for which the map now stands, over stores that tell its facts, and whose slices decode to the lists
-- that it read, the calls answer what was shown; and the next map is the map now with its changes, of which alone each key has a
-- new version.
pub record IsFinal (size : ℕ) (told : Told) (kv after : Store Key Value) (x : TxnView) (ops : List (Op (List ℕ))) (n : ℕ) : Type 0 where
  pub at : Attempted Key Delta
  pub session : SessionView
  pub facts : List Fact
  pub stored : List Piece
  pub lists : List ListFact
  pub told_are : TellFacts told facts
  pub lists_are : TellLists (lists_in size told) lists
  pub run : IsRun (caller_at size x.tx 0) (metadata_at kv at.base) session (did_by at facts stored lists) (ops, x.log.shown)
  pub agree : Agree at.reads (metadata_at kv at.base) (metadata_at kv kv.number)
  pub fits : AllFit at.changes (metadata_at kv kv.number)
  pub next : n ≡ kv.number + 1
  pub number : after.number ≡ n
  pub map : metadata_at after n ≡ with at.changes (metadata_at kv kv.number)
  pub versions : (q : Key) → versions_of key_cmp after q
      ≡ versions_with key_cmp outcome_of at.changes n q (metadata_at kv kv.number q) (versions_of key_cmp kv q)
