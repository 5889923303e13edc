-- What a transaction names lies inside the stores: no call needs more of them over every device, and what other calls do
-- to the stores leaves it so.
use Rattle.std.specs.Prelude.{◌≡◌, ℕ, Bool, true, List, [], Option}
use Rattle.std.specs.List.{All}
use Rattle.wtf_base.specs.declared.settings.Settings.{Settings}
use Rattle.wtf_base.specs.declared.slice.Slice.{Slice}
use Rattle.wtf_dev.specs.Store.{Range, StoreKind}
use Rattle.wtf_kv.specs.Stores.{Store}
use Rattle.wtf_overlay.specs.Origin.{Place}
use Rattle.wtf_values.specs.declared.key.Key.{Key}
use Rattle.wtf_values.specs.declared.value.Value.{Value}
use Rattle.wtf_log.specs.Calls.{Calls, own_of}
use Rattle.wtf_meta.specs.Lists.{ListFact, TellLists}
use Rattle.wtf_meta.specs.Bytes.{MapBytes, EditsBytes, ListsBytes, any_slice}
use Rattle.wtf_meta.specs.Contents.{Told, is_told, is_listed, list_has, lists_in}
use Rattle.wtf_meta.specs.Maps.{metadata_at}
use Rattle.wtf_meta.specs.Sessions.{SessionBytes}
use Rattle.wtf_meta.specs.Calls.{InHand}
use Rattle.wtf_region.specs.declared.dev.Dev.{Dev}
use Rattle.wtf_region.specs.Apart.{are_apart}
use Rattle.wtf_region.specs.Devs.{told_in, RemembersTrue}
use Rattle.wtf_region.specs.Inside.{is_inside}
use Rattle.wtf_region.specs.Reads.{AreInsideLists}
use Rattle.wtf_rw.specs.Stored.{SliceBytes}
use Rattle.wtf_replay.specs.Views.{TxnView, hand_of}

-- the slice decodes over these stores to a list, and P holds of each byte of it
abbrev pub lists_have : ℕ → Told → (List Place → Bool) → Slice → Bool
lists_have b told P s = list_has P (lists_in b told s)

-- P holds of the places of each byte that an attempt names: in the map at its base, in what its changes bring, and in the
-- slices in hand; and Q of each slice that is a base of these
pub record HandBytes (P : List Place → Bool) (Q : Slice → Bool) (kv : Store Key Value) (hand : InHand) : Type 0 where
  pub base : MapBytes P Q (metadata_at kv hand.at.base)
  pub changes : EditsBytes P Q hand.at.changes
  pub slices : SessionBytes P hand.session

-- and of those of the slices that a log keeps
abbrev pub LogBytes : (List Place → Bool) → Calls → Type 0
LogBytes P log = All (λ o. SliceBytes P (own_of o)) log.ops

-- and of each byte that a transaction names
pub record TxnBytes (P : List Place → Bool) (Q : Slice → Bool) (kv : Store Key Value) (x : TxnView) : Type 0 where
  pub hand : HandBytes P Q kv (hand_of x)
  pub log : LogBytes P x.log

-- all of them lie inside the stores
abbrev pub IsHandInside : {S : Type 0} → StoreKind S → List S → Settings → Store Key Value → InHand → Type 0
IsHandInside kind shelf settings kv hand = HandBytes (is_inside kind shelf settings) any_slice kv hand

abbrev pub IsLogInside : {S : Type 0} → StoreKind S → List S → Settings → Calls → Type 0
IsLogInside kind shelf settings log = LogBytes (is_inside kind shelf settings) log

abbrev pub IsInsideTxn : {S : Type 0} → StoreKind S → List S → Settings → Store Key Value → TxnView → Type 0
IsInsideTxn kind shelf settings kv x = TxnBytes (is_inside kind shelf settings) any_slice kv x

-- What is told of a test of bytes and one of bases is so of these two: that the stores tell each byte, also those that the lists
-- of bases name, and that each lies apart from the ranges.
abbrev pub IsKnown : {S : Type 0} → StoreKind S → Dev S → List (ℕ × Range) → ((List Place → Bool) → (Slice → Bool) → Type 0) → Type 0
IsKnown kind dev ranges Of =
    Of (is_told (told_in kind dev)) (is_listed dev.settings.region (told_in kind dev))
    × Of (are_apart ranges) (lists_have dev.settings.region (told_in kind dev) (are_apart ranges))

-- Calls read lists of bases. Over a cache that was true, and where all that was named is known, the stores tell these lists; and
-- what holds of the places of all that was named and of a hole, and of what these lists name, holds of all that is named now.
pub record HaveNamed {S : Type 0} (kind : StoreKind S) (old new : Dev S) (Was Is : (List Place → Bool) → (Slice → Bool) → Type 0) : Type 0 where
  pub lists : List ListFact
  pub inside : AreInsideLists kind new lists
  pub told : (ranges : List (ℕ × Range)) → RemembersTrue kind old ranges → IsKnown kind old ranges Was
      → TellLists (lists_in new.settings.region (told_in kind new)) lists
  pub names : (P : List Place → Bool) (Q : Slice → Bool) → P [] ≡ true → Was P Q → ListsBytes P Q lists → Is P Q

-- of what is in hand, where one slice was stored
abbrev pub NamesHand : {S : Type 0} → StoreKind S → (old new : Dev S) → Store Key Value → InHand → InHand → Option Slice → Type 0
NamesHand kind old new kv was is own = HaveNamed kind old new (λ P Q. HandBytes P Q kv was) (λ P Q. SliceBytes P own → HandBytes P Q kv is)

-- the same of a call that is made once more, by the slice of a log
abbrev pub NamesAgain : {S : Type 0} → StoreKind S → (old new : Dev S) → Store Key Value → InHand → InHand → Calls → Type 0
NamesAgain kind old new kv was is log = HaveNamed kind old new (λ P Q. HandBytes P Q kv was × LogBytes P log) (λ P Q. HandBytes P Q kv is)

-- of a transaction
abbrev pub NamesTxn : {S : Type 0} → StoreKind S → (old new : Dev S) → Store Key Value → TxnView → TxnView → Option Slice → Type 0
NamesTxn kind old new kv was is own = HaveNamed kind old new (λ P Q. TxnBytes P Q kv was) (λ P Q. SliceBytes P own → TxnBytes P Q kv is)

-- and of the map now, by a transaction that ends
abbrev pub NamesNow : {S : Type 0} → StoreKind S → (old new : Dev S) → Store Key Value → Store Key Value → TxnView → Type 0
NamesNow kind old new kv after x =
    HaveNamed kind old new (λ P Q. TxnBytes P Q kv x × MapBytes P Q (metadata_at kv kv.number)) (λ P Q. MapBytes P Q (metadata_at after after.number))
