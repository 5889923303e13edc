-- What a call on slices leaves lies inside the stores, where what it met did.
use Rattle.std.proofs.Common.{◌≡◌, ◌-◌, ◌≤◌, Bool, true, List, [], length, refl, sym, subst, arith}
use Rattle.wtf_base.specs.declared.ids.InodeId.{InodeId}
use Rattle.wtf_base.specs.declared.settings.Settings.{Settings}
use Rattle.wtf_dev.specs.Store.{StoreKind, KindLaws}
use Rattle.wtf_kv.specs.Stores.{Store}
use Rattle.wtf_occ.specs.Attempts.{Attempted}
use Rattle.wtf_occ.proofs.AttemptLaws.{map_seen-by}
use Rattle.wtf_overlay.specs.Origin.{Place}
use Rattle.wtf_overlay.specs.declared.part.Piece.{Piece}
use Rattle.wtf_model.specs.declared.answer.Answer.{Answer}
use Rattle.wtf_values.specs.declared.key.Key.{Key}
use Rattle.wtf_values.specs.declared.value.Delta.{Delta}
use Rattle.wtf_values.specs.declared.value.Value.{Value}
use Rattle.wtf_values.specs.Keys.{key_cmp}
use Rattle.wtf_values.specs.Outcomes.{outcome_of}
use Rattle.wtf_meta.specs.Lists.{ListFact}
use Rattle.wtf_meta.specs.Bytes.{PiecesBytes, MapBytes, ListsBytes, any_slice}
use Rattle.wtf_meta.specs.Calls.{Caller, Did, Names}
use Rattle.wtf_meta.specs.Maps.{Map, seen}
use Rattle.wtf_meta.specs.Sessions.{SessionView}
use Rattle.wtf_meta.proofs.ListFacts.{ListsBytes-all}
use Rattle.wtf_meta.proofs.MapBytes.{with_bytes}
use Rattle.wtf_meta.proofs.Named.{PiecesBytes-none}
use Rattle.wtf_meta.proofs.Weaker.{map_stays, session_stays}
use Rattle.wtf_region.specs.declared.dev.Dev.{Dev}
use Rattle.wtf_region.specs.Devs.{GoesOn, stores, inside_of}
use Rattle.wtf_region.specs.Inside.{is_inside}
use Rattle.wtf_region.proofs.InsideLaws.{inside_stays}
use Rattle.wtf_steps.specs.Scenes.{Scene, AreInside}
use Rattle.wtf_steps.specs.Steps.{in_hand}
use Rattle.wtf_slicing.specs.declared.op.SliceOp.{SliceOp}
use Rattle.wtf_slicing.specs.declared.op.SliceOp.TheVariants.{Yank, Peek, Cut, Paste, Glue, Concat, Copy}
use Rattle.wtf_slicing.specs.Ops.{DoesSlice, IsSliceStep}

-- no call stored a byte
pub stores_none : {S : Type 0} (sc : Scene S) (s : SessionView) (o : SliceOp) (did : Did) → DoesSlice sc s o did → did.stored ≡ []
stores_none sc s (Yank f n label) did does = does.stored
stores_none sc s (Peek label off n) did does = does.stored
stores_none sc s (Cut label off n made) did does = does.stored
stores_none sc s (Paste f label) did does = does.stored
stores_none sc s (Glue f label) did does = does.stored
stores_none sc s (Concat q ps) did does = does.stored
stores_none sc s (Copy p q) did does = does.stored

no_lists : (P : List Place → Bool) (lists : List ListFact) → lists ≡ [] → ListsBytes P any_slice lists
no_lists P lists is = subst (ListsBytes P any_slice) (sym is) tt

-- the lists that a call read name only bytes inside the stores
does_lists : {S : Type 0} (sc : Scene S) (s : SessionView) (o : SliceOp) (did : Did) → DoesSlice sc s o did
    → ListsBytes (inside_of sc.kind sc.after) any_slice did.lists
does_lists sc s (Yank f n label) did does = ListsBytes-all (inside_of sc.kind sc.after) any_slice did.lists does.inside
does_lists sc s (Peek label off n) did does = no_lists (inside_of sc.kind sc.after) did.lists does.lists
does_lists sc s (Cut label off n made) did does = no_lists (inside_of sc.kind sc.after) did.lists does.lists
does_lists sc s (Paste f label) did does = no_lists (inside_of sc.kind sc.after) did.lists does.lists
does_lists sc s (Glue f label) did does = no_lists (inside_of sc.kind sc.after) did.lists does.lists
does_lists sc s (Concat q ps) did does = ListsBytes-all (inside_of sc.kind sc.after) any_slice did.lists does.inside
does_lists sc s (Copy p q) did does = no_lists (inside_of sc.kind sc.after) did.lists does.lists

pub keeps_inside : {S : Type 0} {kind : StoreKind S} → KindLaws kind
    → (old new : Dev S) (kv : Store Key Value) (at into : Attempted Key Delta) (s t : SessionView) (made : InodeId) (o : SliceOp) (a : Answer)
    → old.settings.servers ≤ length (stores old) → GoesOn kind old new []
    → IsSliceStep (record { kind = kind; before = old; after = new; map = seen kv at }) old.settings.region made (in_hand at s) (in_hand into t) o a
    → 1 ≤ made.index → AreInside kind (stores old) old.settings (seen kv at) s → AreInside kind (stores new) old.settings (seen kv into) t
keeps_inside {kind = kind} laws old new kv at into s t made o a enough goes step counted were =
    let P : List Place → Bool = is_inside kind (stores old) old.settings in
    let R : List Place → Bool = is_inside kind (stores new) old.settings in
    let stays : (places : List Place) → P places ≡ true → R places ≡ true = inside_stays laws goes.each old.settings enough in
    let x : Caller = record { size = old.settings.region; tx = made.tx.0; calls = made.index - 1 } in
    let one = step x refl (record { tx = refl; index = omega (arith, counted) }) in
    let none = stores_none (record { kind = kind; before = old; after = new; map = seen kv at }) s o one.did one.more in
    let brought : PiecesBytes R one.did.stored = subst (λ (qs : List Piece). PiecesBytes R qs) (sym none) (PiecesBytes-none R) in
    let lists : ListsBytes R any_slice one.did.lists =
    subst (λ (st : Settings). ListsBytes (is_inside kind (stores new) st) any_slice one.did.lists) goes.settings
    (does_lists (record { kind = kind; before = old; after = new; map = seen kv at }) s o one.did one.more) in
    let map : MapBytes R any_slice (seen kv at) = map_stays P R stays any_slice any_slice (λ sl is. is) (seen kv at) were.0 in
    let names : Names (seen kv at) s t one.did R any_slice = one.is_call.names R any_slice refl map (session_stays P R stays s were.1) brought lists in (
      subst (λ (w : Map). MapBytes R any_slice w) (sym (map_seen-by key_cmp outcome_of kv at into one.did.keys one.did.edits one.grows))
          (with_bytes R any_slice refl one.did.edits (seen kv at) map names.edits),
      names.slices,
    )
