-- What contracts see of a transaction.
-- NSDI 2016, section 2.6 (a transaction logs its calls with what was shown of them, and is replayed after a conflict).
use Rattle.std.specs.Prelude.{ℕ, ◌==◌, Bool, false, nat_le, [], length}
use Rattle.wtf_occ.specs.Attempts.{Attempted}
use Rattle.wtf_values.specs.declared.key.Key.{Key}
use Rattle.wtf_values.specs.declared.value.Delta.{Delta}
use Rattle.wtf_model.specs.declared.limits.TheConstants.{MAX_LOGGED}
use Rattle.wtf_log.specs.Calls.{Calls, no_calls}
use Rattle.wtf_meta.specs.Sessions.{SessionView, nothing_open}
use Rattle.wtf_meta.specs.Calls.{InHand}

-- its number, its attempt, its handles and slices, its calls with what was shown of each, how many of them are done at the
-- base of the attempt, and whether it has ended
pub record TxnView : Type 0 where
  pub tx : ℕ
  pub at : Attempted Key Delta
  pub session : SessionView
  pub log : Calls
  pub replayed : ℕ
  pub ended : Bool

-- an attempt at a number that has done nothing
abbrev pub untouched : ℕ → Attempted Key Delta
untouched base = record { base = base; reads = []; changes = [] }

-- a transaction that begins at a number
abbrev pub begun : ℕ → ℕ → TxnView
begun tx base = record { tx = tx; at = untouched base; session = nothing_open; log = no_calls; replayed = 0; ended = false }

-- one that begins again at a number, where all its calls are to be replayed
abbrev pub rebased : TxnView → ℕ → TxnView
rebased x base = record x { at = untouched base; session = nothing_open; replayed = 0 }

-- all of its calls are done at its base
abbrev pub is_txn_live : TxnView → Bool
is_txn_live x = x.replayed == length x.log.ops

-- its log takes no more calls
abbrev pub is_full : TxnView → Bool
is_full x = nat_le MAX_LOGGED (length x.log.ops)

-- an attempt with what its transaction has in hand
abbrev pub in_hand : Attempted Key Delta → SessionView → InHand
in_hand at session = record { at = at; session = session }

abbrev pub hand_of : TxnView → InHand
hand_of x = in_hand x.at x.session

-- a transaction whose first k calls are done
abbrev pub replaying : ℕ → Attempted Key Delta → SessionView → Calls → ℕ → TxnView
replaying tx at session log k = record { tx = tx; at = at; session = session; log = log; replayed = k; ended = false }
