-- Calls of a log that are made once more, over stores that go on.
use Rattle.std.proofs.Common.{◌≡◌, ◌≢◌, ◌<◌, ◌≤◌, ℕ, ◌+◌, List, [], length, Some, arith, slice_get}
use Rattle.wtf_base.specs.declared.kept.Kept.{Kept}
use Rattle.wtf_dev.specs.Store.{Range, StoreKind, KindLaws}
use Rattle.wtf_kv.specs.Stores.{Store}
use Rattle.wtf_model.specs.declared.answer.Answer.{Answer}
use Rattle.wtf_model.specs.declared.op.Op.{Op}
use Rattle.wtf_values.specs.declared.key.Key.{Key}
use Rattle.wtf_values.specs.declared.value.Value.{Value}
use Rattle.wtf_log.specs.Calls.{own_of}
use Rattle.wtf_log.specs.Standing.{OpStandsFor}
use Rattle.wtf_log.proofs.StandingLaws.{OpsStandFor-get}
use Rattle.wtf_meta.specs.Contents.{Told}
use Rattle.wtf_meta.specs.Maps.{metadata_at, seen}
use Rattle.wtf_region.specs.declared.dev.Dev.{Dev}
use Rattle.wtf_region.specs.Devs.{GoesOn, told_in}
use Rattle.wtf_replay.specs.Views.{TxnView, hand_of}
use Rattle.wtf_replay.specs.Insides.{HandBytes, TxnBytes}
use Rattle.wtf_replay.specs.Sounds.{tells_slice, caller_at, LogStands, IsToldStep, IsDue, TellsMap, TellsHand, IsAwayTxn}
use Rattle.wtf_replay.specs.Replays.{DeviatesOn}
use Rattle.wtf_replay.proofs.Sounding.{element, sound_later, sound_replayed}
use Rattle.wtf_replay.proofs.Deviating.{deviates}
use Rattle.wtf_replay.proofs.Later.{tells_on, deviates_since}
use Rattle.wtf_replay.proofs.Naming.{known_as, hand_known, sound_known}

-- the next call, as the log keeps it and as it was given
pub record Next (told : Told) (x : TxnView) (ops : List (Op (List ℕ))) : Type 0 where
  pub kept : Op Kept
  pub op : Op (List ℕ)
  pub at_kept : slice_get x.log.ops x.replayed ≡ Some kept
  pub at_op : slice_get ops x.replayed ≡ Some op
  pub stands : OpStandsFor (tells_slice told) kept op

-- stores that tell the map at the base tell what a transaction sees, and has in hand
pub tells_hand : {S : Type 0} (kind : StoreKind S) (dev : Dev S) (ranges : List (ℕ × Range)) (kv : Store Key Value) (x : TxnView) (ops : List (Op (List ℕ)))
    → LogStands dev.settings.region kv (told_in kind dev) x ops
    → TellsMap kind dev ranges (metadata_at kv x.at.base) → IsAwayTxn kind dev ranges kv x → TellsHand kind dev ranges (seen kv x.at) x.session
tells_hand kind dev ranges kv x ops sound tells away =
    let known = sound_known kind dev ranges kv x ops sound tells away in
    let map = hand_known kind dev ranges kv (hand_of x) (known_as kind dev ranges (λ P Q. TxnBytes P Q kv x) (λ P Q. HandBytes P Q kv (hand_of x))
    (λ P Q h. h.hand) known) in
    record { seen = record { all = tells.all; map = map.0; cache = tells.cache; away = map.1 }; slices = known.0.hand.slices }

module _ {S : Type 0} {kind : StoreKind S} (laws : KindLaws kind) {before after : Dev S} (goes : GoesOn kind before after []) (ranges : List (ℕ × Range))
    (kv : Store Key Value) (x : TxnView) (ops : List (Op (List ℕ)))
    (sound : LogStands before.settings.region kv (told_in kind before) x ops) (tells : TellsMap kind before ranges (metadata_at kv x.at.base))
    (away : IsAwayTxn kind before ranges kv x) (left : x.replayed < length x.log.ops) where
  abbrev size : ℕ
  size = before.settings.region

  pub next : Next (told_in kind before) x ops
  next =
      let kept = element x.log.ops x.replayed left in
      let there = OpsStandFor-get (tells_slice (told_in kind before)) x.log.ops ops x.replayed kept.0 sound.ops_are kept.1 in
      record { kept = kept.0; op = there.0; at_kept = kept.1; at_op = there.1.0; stands = there.1.1 }

  most : x.replayed ≤ length x.log.ops
  most = omega (arith, left)

  sound_now : LogStands size kv (told_in kind after) x ops
  sound_now = sound_later size kv (told_in kind before) (told_in kind after) x ops (tells_on laws goes.each) sound

  -- each call that is made once more so
  abbrev pub Steps : TxnView → Answer → Type 0
  Steps new a =
      (kept : Op Kept) (o : Op (List ℕ)) → slice_get x.log.ops x.replayed ≡ Some kept → TellsHand kind before ranges (seen kv x.at) x.session → OpStandsFor
      (tells_slice (told_in kind before)) kept o
      → IsToldStep (told_in kind after) (own_of kept) (caller_at size x.tx x.replayed) (seen kv x.at) (hand_of x) (hand_of new) o a

  -- and answers what was shown
  pub again_same : (new : TxnView) (a : Answer) → Steps new a → slice_get x.log.shown x.replayed ≡ Some a → new.tx ≡ x.tx → new.log ≡ x.log
      → new.replayed ≡ x.replayed + 1 → LogStands size kv (told_in kind after) new ops
  again_same new a steps shown tx same_log replayed =
      sound_replayed size kv (told_in kind after) x new ops next.op a next.kept sound_now most
      (steps next.kept next.op next.at_kept (tells_hand kind before ranges kv x ops sound tells away) next.stands)
      next.at_kept next.at_op shown tx same_log replayed

  -- or answers otherwise
  abbrev pub Dues : Answer → Type 0
  Dues a =
      (kept : Op Kept) (o : Op (List ℕ)) → slice_get x.log.ops x.replayed ≡ Some kept → TellsHand kind before ranges (seen kv x.at) x.session → OpStandsFor
      (tells_slice (told_in kind before)) kept o
      → IsDue (told_in kind after) (caller_at size x.tx x.replayed) (seen kv x.at) x.session o a

  pub again_other : (a : Answer) → Dues a → slice_get x.log.shown x.replayed ≢ Some a
      → DeviatesOn (metadata_at kv x.at.base) size (told_in kind before) x ops (x.replayed + 1) a
  again_other a dues differs =
      deviates_since (metadata_at kv x.at.base) size (told_in kind before) (told_in kind after) x ops (x.replayed + 1) a (tells_on laws goes.each)
      (deviates size kv (told_in kind after) x ops sound_now next.op a most
      (dues next.kept next.op next.at_kept (tells_hand kind before ranges kv x ops sound tells away) next.stands) next.at_op differs)
