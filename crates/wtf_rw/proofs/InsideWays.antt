-- What a call leaves lies inside the stores, where what it met did.
use Rattle.std.proofs.Common.{◌≡◌, ℕ, ◌≤◌, Bool, true, List, [], length, replicate, Option, None, Some, refl, sym, subst}
use Rattle.std.proofs.lemmas.List.{length-replicate}
use Rattle.wtf_base.specs.declared.settings.Settings.{Settings}
use Rattle.wtf_base.specs.declared.slice.Slice.{Slice}
use Rattle.wtf_base.specs.Slices.{len_of}
use Rattle.wtf_dev.specs.Store.{StoreKind, KindLaws}
use Rattle.wtf_kv.specs.Stores.{Store}
use Rattle.wtf_occ.specs.Attempts.{Attempted}
use Rattle.wtf_occ.proofs.AttemptLaws.{map_seen-by}
use Rattle.wtf_overlay.specs.Origin.{Place}
use Rattle.wtf_overlay.specs.declared.part.Part.{Part}
use Rattle.wtf_overlay.specs.declared.part.Part.TheVariants.{Held}
use Rattle.wtf_overlay.specs.declared.part.Piece.{Piece}
use Rattle.wtf_ring.specs.Points.{PlaceView}
use Rattle.wtf_model.specs.declared.answer.Answer.{Answer}
use Rattle.wtf_values.specs.declared.key.Key.{Key}
use Rattle.wtf_values.specs.declared.value.Delta.{Delta}
use Rattle.wtf_values.specs.declared.value.Value.{Value}
use Rattle.wtf_values.specs.Keys.{key_cmp}
use Rattle.wtf_values.specs.Outcomes.{outcome_of}
use Rattle.wtf_meta.specs.declared.session.Handle.{Handle}
use Rattle.wtf_meta.specs.Lists.{ListFact}
use Rattle.wtf_meta.specs.Bytes.{PartBytes, PiecesBytes, MapBytes, ListsBytes, any_slice}
use Rattle.wtf_meta.specs.Calls.{Did, Names}
use Rattle.wtf_meta.specs.Maps.{Map, seen}
use Rattle.wtf_meta.specs.Sessions.{SessionView, handle_in}
use Rattle.wtf_meta.proofs.ListFacts.{ListsBytes-all}
use Rattle.wtf_meta.proofs.MapBytes.{with_bytes}
use Rattle.wtf_meta.proofs.Named.{PiecesBytes-none, PiecesBytes-push}
use Rattle.wtf_region.specs.declared.dev.Dev.{Dev}
use Rattle.wtf_region.specs.Devs.{GoesOn, stores, inside_of}
use Rattle.wtf_region.specs.Inside.{is_inside}
use Rattle.wtf_region.proofs.InsideLaws.{inside_stays, slice_inside}
use Rattle.wtf_rw.specs.declared.op.Given.TheVariants.{Fresh, Stored}
use Rattle.wtf_rw.specs.declared.op.RwOp.{RwOp}
use Rattle.wtf_rw.specs.declared.op.RwOp.TheVariants as rw
use Rattle.wtf_steps.specs.Scenes.{Scene, AreInside}
use Rattle.wtf_rw.specs.Ops.{DoesRw, Writes, IsWhole, IsRwStep, OwnBy, IsRwOwn, RwBytes}
use Rattle.wtf_steps.specs.Steps.{in_hand}
use Rattle.wtf_rw.specs.Stored.{ArePieces, SliceBytes, IsOwn}
use Rattle.wtf_meta.proofs.Weaker.{part_stays, map_stays, session_stays}

module _ (P Q : List Place → Bool) (stays : (places : List Place) → P places ≡ true → Q places ≡ true) where
  pub slice_stays : (o : Option Slice) → SliceBytes P o → SliceBytes Q o
  slice_stays None h = tt
  slice_stays (Some s) h = part_stays P Q stays (len_of s) (Held s) h

  given_stays : (o : RwOp) → RwBytes P o → RwBytes Q o
  given_stays (rw.Write f (Fresh bs)) h = tt
  given_stays (rw.Write f (Stored kept)) h = slice_stays kept.slice h
  given_stays (rw.Append f (Fresh bs)) h = tt
  given_stays (rw.Append f (Stored kept)) h = slice_stays kept.slice h
  given_stays (rw.Open f p) h = tt
  given_stays (rw.Close f) h = tt
  given_stays (rw.Seek f place) h = tt
  given_stays (rw.Tell f) h = tt
  given_stays (rw.Read f n) h = tt
  given_stays (rw.Truncate f n) h = tt
  given_stays (rw.Punch f n) h = tt
  given_stays (rw.Stat p) h = tt

-- the slice that a call stored lies inside the stores
own_inside : {S : Type 0} (kind : StoreKind S) (old new : Dev S) (place : PlaceView) (bytes : List ℕ) (own : Option Slice) → IsOwn kind old new place bytes own
    → SliceBytes (is_inside kind (stores new) old.settings) own
own_inside kind old new place bytes None is = tt
own_inside kind old new place bytes (Some s) is = slice_inside kind (stores new) old.settings s is.1 is.2

own_by_inside : {S : Type 0} (kind : StoreKind S) (old new : Dev S) (o : Option Handle) (place : Handle → PlaceView) (bytes : List ℕ) (own : Option Slice)
    → OwnBy kind old new o place bytes own → SliceBytes (is_inside kind (stores new) old.settings) own
own_by_inside kind old new None place bytes own is = subst (SliceBytes (is_inside kind (stores new) old.settings)) (sym is.1) tt
own_by_inside kind old new (Some h) place bytes own is = own_inside kind old new (place h) bytes own is

no_slice_inside : (P : List Place → Bool) (own : Option Slice) → own ≡ None → SliceBytes P own
no_slice_inside P own is = subst (SliceBytes P) (sym is) tt

pub rw_own_inside : {S : Type 0} (kind : StoreKind S) (old new : Dev S) (w : Map) (s : SessionView) (o : RwOp) (own : Option Slice)
    → IsRwOwn kind old new w s o own
    → SliceBytes (is_inside kind (stores new) old.settings) own
rw_own_inside kind old new w s (rw.Write f (Fresh bs)) own is = own_by_inside kind old new (handle_in s f) _ bs.now own is
rw_own_inside kind old new w s (rw.Append f (Fresh bs)) own is = own_by_inside kind old new (handle_in s f) _ bs.now own is
rw_own_inside kind old new w s (rw.Read f n) own is = no_slice_inside (is_inside kind (stores new) old.settings) own is
rw_own_inside kind old new w s (rw.Write f (Stored kept)) own is = no_slice_inside (is_inside kind (stores new) old.settings) own is.1
rw_own_inside kind old new w s (rw.Append f (Stored kept)) own is = no_slice_inside (is_inside kind (stores new) old.settings) own is.1
rw_own_inside kind old new w s (rw.Open f p) own is = no_slice_inside (is_inside kind (stores new) old.settings) own is.1
rw_own_inside kind old new w s (rw.Close f) own is = no_slice_inside (is_inside kind (stores new) old.settings) own is.1
rw_own_inside kind old new w s (rw.Seek f place) own is = no_slice_inside (is_inside kind (stores new) old.settings) own is.1
rw_own_inside kind old new w s (rw.Tell f) own is = no_slice_inside (is_inside kind (stores new) old.settings) own is.1
rw_own_inside kind old new w s (rw.Truncate f n) own is = no_slice_inside (is_inside kind (stores new) old.settings) own is.1
rw_own_inside kind old new w s (rw.Punch f n) own is = no_slice_inside (is_inside kind (stores new) old.settings) own is.1
rw_own_inside kind old new w s (rw.Stat p) own is = no_slice_inside (is_inside kind (stores new) old.settings) own is.1

-- P holds of the bytes that a call stored itself or was given
pub own_named : (P : List Place → Bool) (own : Option Slice) (ps : List Piece) → ArePieces own ps → SliceBytes P own → PiecesBytes P ps
own_named P None ps is h = subst (λ (qs : List Piece). PiecesBytes P qs) (sym is) (PiecesBytes-none P)
own_named P (Some s) ps is h =
    subst (λ (qs : List Piece). PiecesBytes P qs) (sym is.one)
    (PiecesBytes-push P [] is.piece (PiecesBytes-none P)
    (subst (λ (n : ℕ). PartBytes P n is.piece.part) (sym is.len) (subst (λ (q : Part). PartBytes P (len_of s) q) (sym is.part) h)))

none_named : (P : List Place → Bool) (ps : List Piece) → ps ≡ [] → PiecesBytes P ps
none_named P ps is = subst (λ (qs : List Piece). PiecesBytes P qs) (sym is) (PiecesBytes-none P)

pub does_named : (P : List Place → Bool) {S : Type 0} (sc : Scene S) (o : RwOp) (own : Option Slice) (bytes : List ℕ) (did : Did) → DoesRw sc o own bytes did
    → RwBytes P o → SliceBytes P own
    → PiecesBytes P did.stored
does_named P sc (rw.Write f (Fresh bs)) own bytes did does given stored = own_named P own did.stored does.stored stored
does_named P sc (rw.Write f (Stored kept)) own bytes did does given stored = does.0.named P given
does_named P sc (rw.Append f (Fresh bs)) own bytes did does given stored = own_named P own did.stored does.stored stored
does_named P sc (rw.Append f (Stored kept)) own bytes did does given stored = does.0.named P given
does_named P sc (rw.Read f n) own bytes did does given stored = none_named P did.stored does.0.stored
does_named P sc (rw.Open f p) own bytes did does given stored = none_named P did.stored does.0.stored
does_named P sc (rw.Close f) own bytes did does given stored = none_named P did.stored does.0.stored
does_named P sc (rw.Seek f place) own bytes did does given stored = none_named P did.stored does.0.stored
does_named P sc (rw.Tell f) own bytes did does given stored = none_named P did.stored does.0.stored
does_named P sc (rw.Truncate f n) own bytes did does given stored = none_named P did.stored does.0.stored
does_named P sc (rw.Punch f n) own bytes did does given stored = none_named P did.stored does.0.stored
does_named P sc (rw.Stat p) own bytes did does given stored = none_named P did.stored does.0.stored

no_lists : (P : List Place → Bool) (lists : List ListFact) → lists ≡ [] → ListsBytes P any_slice lists
no_lists P lists is = subst (ListsBytes P any_slice) (sym is) tt

-- the lists that a call read name only bytes inside the stores
does_lists : {S : Type 0} (sc : Scene S) (o : RwOp) (own : Option Slice) (bytes : List ℕ) (did : Did) → DoesRw sc o own bytes did
    → ListsBytes (inside_of sc.kind sc.after) any_slice did.lists
does_lists sc (rw.Write f (Fresh bs)) own bytes did does = no_lists (inside_of sc.kind sc.after) did.lists does.lists
does_lists sc (rw.Write f (Stored kept)) own bytes did does = no_lists (inside_of sc.kind sc.after) did.lists does.0.lists
does_lists sc (rw.Append f (Fresh bs)) own bytes did does = no_lists (inside_of sc.kind sc.after) did.lists does.lists
does_lists sc (rw.Append f (Stored kept)) own bytes did does = no_lists (inside_of sc.kind sc.after) did.lists does.0.lists
does_lists sc (rw.Read f n) own bytes did does = ListsBytes-all (inside_of sc.kind sc.after) any_slice did.lists does.0.inside
does_lists sc (rw.Open f p) own bytes did does = no_lists (inside_of sc.kind sc.after) did.lists does.0.lists
does_lists sc (rw.Close f) own bytes did does = no_lists (inside_of sc.kind sc.after) did.lists does.0.lists
does_lists sc (rw.Seek f place) own bytes did does = no_lists (inside_of sc.kind sc.after) did.lists does.0.lists
does_lists sc (rw.Tell f) own bytes did does = no_lists (inside_of sc.kind sc.after) did.lists does.0.lists
does_lists sc (rw.Truncate f n) own bytes did does = no_lists (inside_of sc.kind sc.after) did.lists does.0.lists
does_lists sc (rw.Punch f n) own bytes did does = no_lists (inside_of sc.kind sc.after) did.lists does.0.lists
does_lists sc (rw.Stat p) own bytes did does = no_lists (inside_of sc.kind sc.after) did.lists does.0.lists

-- some bytes that the data may be
pub some_data : (o : RwOp) → (bytes : List ℕ) × Writes o bytes
some_data (rw.Write f (Fresh bs)) = (bs.now, refl)
some_data (rw.Write f (Stored kept)) = (replicate kept.len 0, length-replicate kept.len 0)
some_data (rw.Append f (Fresh bs)) = (bs.now, refl)
some_data (rw.Append f (Stored kept)) = (replicate kept.len 0, length-replicate kept.len 0)
some_data (rw.Open f p) = ([], tt)
some_data (rw.Close f) = ([], tt)
some_data (rw.Seek f place) = ([], tt)
some_data (rw.Tell f) = ([], tt)
some_data (rw.Read f n) = ([], tt)
some_data (rw.Truncate f n) = ([], tt)
some_data (rw.Punch f n) = ([], tt)
some_data (rw.Stat p) = ([], tt)

pub keeps_inside : {S : Type 0} {kind : StoreKind S} → KindLaws kind
    → (old new : Dev S) (kv : Store Key Value) (at into : Attempted Key Delta) (s t : SessionView) (o : RwOp) (own : Option Slice) (a : Answer)
    → old.settings.servers ≤ length (stores old) → GoesOn kind old new []
    → IsRwStep (record { kind = kind; before = old; after = new; map = seen kv at }) old.settings.region (in_hand at s) (in_hand into t) o own a
    → IsRwOwn kind old new (seen kv at) s o own → IsWhole o → RwBytes (is_inside kind (stores old) old.settings) o
    → AreInside kind (stores old) old.settings (seen kv at) s
    → AreInside kind (stores new) old.settings (seen kv into) t
keeps_inside {kind = kind} laws old new kv at into s t o own a enough goes step stored whole given were =
    let P : List Place → Bool = is_inside kind (stores old) old.settings in
    let R : List Place → Bool = is_inside kind (stores new) old.settings in
    let stays : (places : List Place) → P places ≡ true → R places ≡ true = inside_stays laws goes.each old.settings enough in
    let (bytes, writes) = some_data o in
    let one = step (record { size = old.settings.region; tx = 0; calls = 0 }) bytes refl writes whole in
    let brought =
    does_named R (record { kind = kind; before = old; after = new; map = seen kv at }) o own bytes one.did one.more (given_stays P R stays o given)
    (rw_own_inside kind old new (seen kv at) s o own stored) in
    let lists : ListsBytes R any_slice one.did.lists =
    subst (λ (st : Settings). ListsBytes (is_inside kind (stores new) st) any_slice one.did.lists) goes.settings
    (does_lists (record { kind = kind; before = old; after = new; map = seen kv at }) o own bytes one.did one.more) in
    let map : MapBytes R any_slice (seen kv at) = map_stays P R stays any_slice any_slice (λ sl is. is) (seen kv at) were.0 in
    let names : Names (seen kv at) s t one.did R any_slice = one.is_call.names R any_slice refl map (session_stays P R stays s were.1) brought lists in (
      subst (λ (w : Map). MapBytes R any_slice w) (sym (map_seen-by key_cmp outcome_of kv at into one.did.keys one.did.edits one.grows))
          (with_bytes R any_slice refl one.did.edits (seen kv at) map names.edits),
      names.slices,
    )
