-- What a transaction names goes on lying inside the stores.
use Rattle.std.proofs.Common.{◌≡◌, ℕ, ◌≤◌, Bool, true, List, [], ◌∷◌, length, Option, None, Some, slice_get, refl, sym, subst}
use Rattle.std.specs.Prelude.{IfSome}
use Rattle.wtf_base.specs.declared.slice.Slice.{Slice}
use Rattle.std.proofs.lemmas.List.Elements.{All-weaker, All-get_or}
use Rattle.std.proofs.lemmas.Option.{get_or_from_slice_get, slice_get_within}
use Rattle.wtf_base.specs.declared.kept.Kept.{Kept}
use Rattle.wtf_base.specs.declared.settings.Settings.{Settings}
use Rattle.wtf_dev.specs.Store.{StoreKind, KindLaws}
use Rattle.wtf_dev.specs.Each.{EachFollows}
use Rattle.wtf_kv.specs.Stores.{Store}
use Rattle.wtf_kv.specs.declared.changes.Change.TheVariants as change
use Rattle.wtf_occ.specs.Attempts.{Attempted}
use Rattle.wtf_overlay.specs.Origin.{Place}
use Rattle.wtf_model.specs.declared.answer.Answer.{Answer}
use Rattle.wtf_model.specs.declared.op.Op.{Op}
use Rattle.wtf_values.specs.declared.key.Key.{Key}
use Rattle.wtf_values.specs.declared.value.Value.{Value}
use Rattle.wtf_values.specs.declared.value.Delta.{Delta}
use Rattle.wtf_values.specs.declared.value.Delta.TheVariants as delta
use Rattle.wtf_log.specs.Calls.{Calls, own_of}
use Rattle.wtf_meta.specs.Bytes.{MapBytes, EditsBytes, DeltaBytes, PiecesBytes, ListsBytes, any_slice}
use Rattle.wtf_meta.specs.Maps.{Map, Edits, metadata_at, seen}
use Rattle.wtf_meta.specs.Sessions.{SessionView, SessionBytes}
use Rattle.wtf_meta.specs.Calls.{Caller, InHand, IsStep}
use Rattle.wtf_meta.proofs.MapBytes.{with_bytes}
use Rattle.wtf_meta.proofs.Named.{EditsBytes-append}
use Rattle.wtf_meta.proofs.Weaker.{part_stays, value_stays, map_stays, pieces_stay, session_stays}
use Rattle.wtf_region.specs.Inside.{is_inside, IsStoredInside}
use Rattle.wtf_region.proofs.InsideLaws.{inside_stays}
use Rattle.wtf_rw.specs.Stored.{SliceBytes}
use Rattle.wtf_rw.proofs.InsideWays.{slice_stays}
use Rattle.wtf_replay.specs.Views.{TxnView, in_hand}
use Rattle.wtf_replay.specs.Tried.{KeepsMaps}
use Rattle.wtf_replay.specs.Insides.{HandBytes, LogBytes, IsHandInside, IsLogInside, IsInsideTxn}

-- what follows of the places of a byte does so of all that changes bring
module _ (P R : List Place → Bool) (places : (qs : List Place) → P qs ≡ true → R qs ≡ true) (Q O : Slice → Bool)
    (slices : (s : Slice) → Q s ≡ true → O s ≡ true) where
  delta_stays : (d : Delta) → DeltaBytes P Q d → DeltaBytes R O d
  delta_stays (delta.Push e) h = part_stays P R places e.len e.part h
  delta_stays (delta.PushRel ps b) h = pieces_stay P R places ps h
  delta_stays (delta.Put v) h = value_stays P R places Q O slices (Some v) h
  delta_stays d h = tt

  pub edits_stay : (cs : Edits) → EditsBytes P Q cs → EditsBytes R O cs
  edits_stay [] h = tt
  edits_stay (change.Delta key d ∷ cs) h = (delta_stays d h.0, edits_stay cs h.1)
  edits_stay (change.Cut from to ∷ cs) h = (tt, edits_stay cs h.1)

-- the map that an attempt sees lies inside
pub hand_seen : {S : Type 0} (kind : StoreKind S) (shelf : List S) (settings : Settings) (kv : Store Key Value) (hand : InHand)
    → IsHandInside kind shelf settings kv hand → IsStoredInside kind shelf settings (seen kv hand.at)
hand_seen kind shelf settings kv hand h =
    with_bytes (is_inside kind shelf settings) any_slice refl hand.at.changes (metadata_at kv hand.at.base) h.base h.changes

module _ {S : Type 0} {kind : StoreKind S} (laws : KindLaws kind) {old new : List S} (each : EachFollows kind old new []) (settings : Settings)
    (enough : settings.servers ≤ length old) where
  on : (places : List Place) → is_inside kind old settings places ≡ true → is_inside kind new settings places ≡ true
  on = inside_stays laws each settings enough

  -- and goes on doing so
  pub map_later : (w : Map) → IsStoredInside kind old settings w → IsStoredInside kind new settings w
  map_later w h = map_stays (is_inside kind old settings) (is_inside kind new settings) on any_slice any_slice (λ s is. is) w h

  pub hand_later : (kv : Store Key Value) (hand : InHand) → IsHandInside kind old settings kv hand → IsHandInside kind new settings kv hand
  hand_later kv hand h = record {
    base = map_later (metadata_at kv hand.at.base) h.base;
    changes = edits_stay (is_inside kind old settings) (is_inside kind new settings) on any_slice any_slice (λ s is. is) hand.at.changes h.changes;
    slices = session_stays (is_inside kind old settings) (is_inside kind new settings) on hand.session h.slices;
  }

  pub slice_later : (o : Option _) → SliceBytes (is_inside kind old settings) o → SliceBytes (is_inside kind new settings) o
  slice_later o h = slice_stays (is_inside kind old settings) (is_inside kind new settings) on o h

  pub log_later : (log : Calls) → IsLogInside kind old settings log → IsLogInside kind new settings log
  log_later log h = All-weaker (λ (o : Op Kept). SliceBytes (is_inside kind old settings) (own_of o))
      (λ (o : Op Kept). SliceBytes (is_inside kind new settings) (own_of o)) (λ (o : Op Kept) was. slice_later (own_of o) was) log.ops h

  pub inside_later : (kv : Store Key Value) (x : TxnView) → IsInsideTxn kind old settings kv x → IsInsideTxn kind new settings kv x
  inside_later kv x h = record { hand = hand_later kv (in_hand x.at x.session) h.hand; log = log_later x.log h.log }

-- what holds of the bytes that an attempt names goes on holding after a step, where it holds of what that stored, and of what the
-- lists name that it read
pub named_step : (P : List Place → Bool) (Q : Slice → Bool) → P [] ≡ true
    → (kv : Store Key Value) (x : Caller) (old new : InHand) (o : Op (List ℕ)) (a : Answer)
    → HandBytes P Q kv old → (step : IsStep x (seen kv old.at) old new o a) → PiecesBytes P step.did.stored → ListsBytes P Q step.did.lists
    → HandBytes P Q kv new
named_step P Q hole kv x old new o a h step stored lists =
    let names = step.is_call.names P Q hole (with_bytes P Q hole old.at.changes (metadata_at kv old.at.base) h.base h.changes) h.slices stored lists in
    record {
      base = subst (λ n. MapBytes P Q (metadata_at kv n)) (sym step.grows.base) h.base;
      changes = subst (EditsBytes P Q) (sym step.grows.changes) (EditsBytes-append P Q old.at.changes step.did.edits h.changes names.edits);
      slices = names.slices;
    }

-- and where nothing but keys came
pub named_same : (P : List Place → Bool) (Q : Slice → Bool) (kv : Store Key Value) (old new : InHand) → new.at.base ≡ old.at.base
    → new.at.changes ≡ old.at.changes → new.session ≡ old.session
    → HandBytes P Q kv old → HandBytes P Q kv new
named_same P Q kv old new base changes session h = record {
  base = subst (λ n. MapBytes P Q (metadata_at kv n)) (sym base) h.base;
  changes = subst (EditsBytes P Q) (sym changes) h.changes;
  slices = subst (SessionBytes P) (sym session) h.slices;
}

-- each slice of a log is one of them
pub log_at : (P : List Place → Bool) (log : Calls) (k : ℕ) (o : Op Kept) → slice_get log.ops k ≡ Some o → LogBytes P log → SliceBytes P (own_of o)
log_at P log k o at all = subst (λ (q : Op Kept). SliceBytes P (own_of q)) (get_or_from_slice_get log.ops k o o at)
    (All-get_or (λ (q : Op Kept). SliceBytes P (own_of q)) log.ops k o (slice_get_within log.ops k o at) all)

-- a slice that is kept is the one that was stored
pub slice_from : (P : List Place → Bool) (o own : Option Slice) → IfSome o (λ s. own ≡ Some s) → SliceBytes P own → SliceBytes P o
slice_from P None own is h = tt
slice_from P (Some s) own is h = subst (SliceBytes P) is h

-- and over a store that shows the same at the base
pub hand_kept : {S : Type 0} (kind : StoreKind S) (shelf : List S) (settings : Settings) (kv after : Store Key Value) (at into : Attempted Key Delta)
    (s : SessionView) → into ≡ at → at.base ≤ kv.number → KeepsMaps kv after
    → IsHandInside kind shelf settings kv (in_hand at s) → IsHandInside kind shelf settings after (in_hand into s)
hand_kept kind shelf settings kv after at into s same below maps h = subst (λ a. IsHandInside kind shelf settings after (in_hand a s)) (sym same) (record {
  base = subst (IsStoredInside kind shelf settings) (sym (maps at.base below)) h.base;
  changes = h.changes;
  slices = h.slices;
})

pub txn_kept : {S : Type 0} (kind : StoreKind S) (shelf : List S) (settings : Settings) (kv after : Store Key Value) (x y : TxnView) → y.at ≡ x.at
    → y.session ≡ x.session → y.log ≡ x.log → x.at.base ≤ kv.number → KeepsMaps kv after
    → IsInsideTxn kind shelf settings kv x → IsInsideTxn kind shelf settings after y
txn_kept kind shelf settings kv after x y at session log below maps h = record {
  hand = subst (λ s. IsHandInside kind shelf settings after (in_hand y.at s)) (sym session)
      (hand_kept kind shelf settings kv after x.at y.at x.session at below maps h.hand);
  log = subst (λ l. IsLogInside kind shelf settings l) (sym log) h.log;
}
