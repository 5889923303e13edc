-- What a commit installs: what the calls did that it had to make once more, and nothing else; and why it gives up.
-- NSDI 2016, section 2.6 (the transaction is replayed, and installed where it shows the same).
use Rattle.std.specs.Prelude.{◌≡◌, ℕ, ◌+◌, List}
use Rattle.wtf_kv.specs.Edits.{versions_with}
use Rattle.wtf_kv.specs.Stores.{Store, versions_of}
use Rattle.wtf_model.specs.declared.answer.Answer.{Answer, Aborted'}
use Rattle.wtf_model.specs.declared.answer.Answer.TheVariants as answer
use Rattle.wtf_values.specs.declared.key.Key.{Key}
use Rattle.wtf_values.specs.declared.value.Value.{Value}
use Rattle.wtf_values.specs.Keys.{key_cmp}
use Rattle.wtf_values.specs.Outcomes.{outcome_of}
use Rattle.wtf_meta.specs.Lists.{ListFact}
use Rattle.wtf_meta.specs.Maps.{metadata_at}
use Rattle.wtf_meta.specs.Calls.{InHand}
use Rattle.wtf_replay.specs.Views.{TxnView}
use Rattle.wtf_replay.specs.Tried.{KeepsVersions}
use Rattle.wtf_replay.specs.Effects.{Scope, AllRedone, StopsAt}

-- All calls that were left of a transaction were made once more, and all lists that they asked for are recalled, of none if none was left;
-- and each key has the versions that it had, and at n the one, if any, that the changes make which were made then.
pub record Installs (b : Scope) (kv after : Store Key Value) (x : TxnView) (n : ℕ) : Type 0 where
  pub hand : InHand
  pub lists : List ListFact
  pub redone : AllRedone b kv x lists hand
  pub recalls : b.recalls lists
  pub next : n ≡ kv.number + 1
  pub number : after.number ≡ n
  pub versions : (q : Key) → versions_of key_cmp after q
      ≡ versions_with key_cmp outcome_of hand.at.changes n q (metadata_at kv kv.number q) (versions_of key_cmp kv q)

-- call i, from 1 on, answered a when it was made once more, which is not what was shown; each key has the versions that it had
pub record GaveUp (b : Scope) (kv after : Store Key Value) (x : TxnView) (i : ℕ) (a : Answer) : Type 0 where
  pub stops : StopsAt b kv x i a
  pub versions : KeepsVersions kv after

-- a commit installs, or gives up
abbrev pub IsInstall : Scope → Store Key Value → Store Key Value → TxnView → Answer → Type 0
IsInstall b kv after x (answer.Committed n) = Installs b kv after x n
IsInstall b kv after x (Aborted' i box a) = GaveUp b kv after x i a
IsInstall b kv after x a = ⊥
