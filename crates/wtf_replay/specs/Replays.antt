-- What a replay makes of a transaction, by steps or whole.
use Rattle.std.specs.Prelude.{◌≡◌, ℕ, ◌+◌, List, true, Option, Some, None, ⊤}
use Rattle.wtf_kv.specs.Stores.{Store}
use Rattle.wtf_values.specs.declared.key.Key.{Key}
use Rattle.wtf_values.specs.declared.value.Value.{Value}
use Rattle.wtf_model.specs.declared.answer.Answer.{Answer, Aborted'}
use Rattle.wtf_model.specs.declared.answer.Answer.TheVariants as answer
use Rattle.wtf_model.specs.declared.op.Op.{Op}
use Rattle.wtf_model.specs.Tree.{Tree}
use Rattle.wtf_model.specs.Transaction.{answers_of}
use Rattle.wtf_model.specs.Lawful.{Deviates}
use Rattle.wtf_meta.specs.Maps.{Map, metadata_at}
use Rattle.wtf_meta.specs.Contents.{Told}
use Rattle.wtf_meta.specs.Trees.{Stands}
use Rattle.wtf_meta.specs.Calls.{cap_for}
use Rattle.wtf_replay.specs.Views.{TxnView}
use Rattle.wtf_replay.specs.Sounds.{LogStands, caller_at}
use Rattle.wtf_replay.specs.Tried.{IsFinal}

-- one more call was replayed, and answered what was shown
pub record IsReplayed (old new : TxnView) (i : ℕ) : Type 0 where
  pub index : i ≡ old.replayed + 1
  pub base : new.at.base ≡ old.at.base
  pub is : new ≡ record old { at = new.at; session = new.session; replayed = i }

-- the transaction has ended, with its base and its log
pub record IsTxnOver (old new : TxnView) : Type 0 where
  pub tx : new.tx ≡ old.tx
  pub base : new.at.base ≡ old.at.base
  pub log : new.log ≡ old.log
  pub ended : new.ended ≡ true

-- the next call answered otherwise than was shown
pub record IsAborted (old new : TxnView) (i : ℕ) : Type 0 where
  pub index : i ≡ old.replayed + 1
  pub over : IsTxnOver old new

-- what comes of a step that is not refused
abbrev pub IsStepped : TxnView → TxnView → Answer → Type 0
IsStepped old new (answer.Replayed i) = IsReplayed old new i
IsStepped old new (Aborted' i box a) = IsAborted old new i
IsStepped old new a = ⊥

-- on each tree for which the map stands, the calls first answer otherwise than was shown at call i, and there a
abbrev pub DeviatesOn : Map → ℕ → Told → TxnView → List (Op (List ℕ)) → ℕ → Answer → Type 0
DeviatesOn w size told x ops i a =
    (t : Tree) → Stands size told x.tx 0 w t → Deviates (answers_of (cap_for (caller_at size x.tx 0)) t ops) x.log.shown i a

-- the meaning of an attempt
abbrev pub IsTrueAttempt : ℕ → Told → Store Key Value → Store Key Value → TxnView × TxnView → List (Op (List ℕ)) → Answer → Type 0
IsTrueAttempt size told kv after both ops (answer.Committed n) = IsFinal size told kv after both.0 ops n
IsTrueAttempt size told kv after both ops (answer.Retry b n) = LogStands size after told both.1 ops
IsTrueAttempt size told kv after both ops a = ⊤

-- the meaning of a step: the transaction goes on, or its calls deviate at the base
abbrev pub IsTrueStep : ℕ → Told × Told → Store Key Value → TxnView × TxnView → List (Op (List ℕ)) → Answer → Type 0
IsTrueStep size told kv both ops (answer.Replayed i) = LogStands size kv told.1 both.1 ops
IsTrueStep size told kv both ops (Aborted' i box a) = DeviatesOn (metadata_at kv both.0.at.base) size told.0 both.0 ops i a
IsTrueStep size told kv both ops a = ⊤

-- what comes of a commit, which never asks for another try
abbrev pub IsEnded : Store Key Value → Store Key Value → Answer → Type 0
IsEnded kv after (answer.Committed n) = (n ≡ kv.number + 1) × (after.number ≡ n)
IsEnded kv after (Aborted' i box a) = after.number ≡ kv.number
IsEnded kv after a = ⊥

-- the meaning of a commit, by what the stores tell before and after: a run on the map now, or calls that deviate there
abbrev pub IsTrueEnd : ℕ → Told × Told → Store Key Value → Store Key Value → TxnView → List (Op (List ℕ)) → Answer → Type 0
IsTrueEnd size told kv after x ops (answer.Committed n) = IsFinal size told.1 kv after x ops n
IsTrueEnd size told kv after x ops (Aborted' i box a) = DeviatesOn (metadata_at kv kv.number) size told.0 x ops i a
IsTrueEnd size told kv after x ops a = ⊤

-- a whole replay: all answers are what was shown, or one is not
abbrev pub IsReplay : ℕ → Store Key Value → Told × Told → TxnView → List (Op (List ℕ)) → Option (ℕ × Answer) → Type 0
IsReplay size kv told x ops None = LogStands size kv told.1 x ops
IsReplay size kv told x ops (Some p) = DeviatesOn (metadata_at kv x.at.base) size told.0 x ops p.0 p.1
