-- What calls name that read lists of bases: a step of one, one after another, and where no list was read.
use Rattle.std.proofs.Common.{◌≡◌, ℕ, Bool, true, List, [], ◌∷◌, ◌++◌, Option, None, Some, refl, sym, ap, ◌∙◌, subst}
use Rattle.std.specs.Prelude.{IfSome}
use Rattle.std.specs.List.{All}
use Rattle.std.proofs.lemmas.List.Elements.{All-nil, All-cons, All-append, All-weaker}
use Rattle.wtf_base.specs.declared.kept.Kept.{Kept}
use Rattle.wtf_base.specs.declared.settings.Settings.{Settings}
use Rattle.wtf_base.specs.declared.slice.Slice.{Slice}
use Rattle.wtf_dev.specs.Store.{Range, StoreKind, KindLaws}
use Rattle.wtf_kv.specs.Stores.{Store}
use Rattle.wtf_overlay.specs.Origin.{Place}
use Rattle.wtf_model.specs.declared.op.Op.{Op}
use Rattle.wtf_model.specs.declared.op.Op.TheVariants as op
use Rattle.wtf_values.specs.declared.key.Key.{Key}
use Rattle.wtf_values.specs.declared.value.Value.{Value}
use Rattle.wtf_log.specs.Calls.{Calls, own_of}
use Rattle.wtf_log.specs.Standing.{OpStandsFor, OpsStandFor}
use Rattle.wtf_meta.specs.Lists.{ListFact, TellLists}
use Rattle.wtf_meta.specs.Bytes.{MapBytes, EntryBytes, ListsBytes, any_slice}
use Rattle.wtf_meta.specs.Contents.{Told, is_told, is_listed, list_has, lists_in}
use Rattle.wtf_meta.specs.Maps.{metadata_at, seen}
use Rattle.wtf_meta.specs.Calls.{InHand}
use Rattle.wtf_meta.proofs.ListFacts.{TellLists-append, ListsBytes-parts, ListsBytes-all}
use Rattle.wtf_meta.proofs.ListTests.{entries_from}
use Rattle.wtf_meta.proofs.MapBytes.{with_bytes}
use Rattle.wtf_meta.proofs.Nothing.{nothing_kept}
use Rattle.wtf_meta.proofs.Telling.{TellsOn, TellLists-later, told_lists}
use Rattle.wtf_meta.proofs.Weaker.{entries_stay, map_stays, session_stays}
use Rattle.wtf_region.specs.declared.dev.Dev.{Dev}
use Rattle.wtf_region.specs.Apart.{are_apart}
use Rattle.wtf_region.specs.Devs.{GoesOn, stores, told_in, inside_of, RemembersTrue}
use Rattle.wtf_region.specs.Inside.{is_inside}
use Rattle.wtf_region.specs.Reads.{AreInsideLists}
use Rattle.wtf_region.proofs.InsideLaws.{inside_stays}
use Rattle.wtf_rw.specs.Stored.{SliceBytes}
use Rattle.wtf_rw.proofs.InsideWays.{slice_stays}
use Rattle.wtf_replay.specs.Views.{TxnView, hand_of}
use Rattle.wtf_replay.specs.Insides.{HandBytes, LogBytes, TxnBytes, HaveNamed, IsKnown, NamesAgain, lists_have}
use Rattle.wtf_replay.specs.Sounds.{LogStands, TellsMap, IsAwayTxn, tells_slice}
use Rattle.wtf_replay.proofs.Insiding.{edits_stay}
use Rattle.wtf_replay.proofs.Later.{Of, IsWeaker, tells_on, known_later}
use Rattle.wtf_replay.proofs.RwLaws.{told_slice}

-- what is named goes on passing tests that more pass
pub hand_weaker : (kv : Store Key Value) (hand : InHand) → IsWeaker (λ P Q. HandBytes P Q kv hand)
hand_weaker kv hand P R places Q O slices h = record {
  base = map_stays P R places Q O slices (metadata_at kv hand.at.base) h.base;
  changes = edits_stay P R places Q O slices hand.at.changes h.changes;
  slices = session_stays P R places hand.session h.slices;
}

pub again_weaker : (kv : Store Key Value) (hand : InHand) (log : Calls) → IsWeaker (λ P Q. HandBytes P Q kv hand × LogBytes P log)
again_weaker kv hand log P R places Q O slices h = (
  hand_weaker kv hand P R places Q O slices h.0,
  All-weaker (λ (o : Op Kept). SliceBytes P (own_of o)) (λ (o : Op Kept). SliceBytes R (own_of o))
      (λ (o : Op Kept) was. slice_stays P R places (own_of o) was) log.ops h.1,
)

-- lists that slices decode to have such bytes, where the slices pass the test that theirs do
lists_known : (P : List Place → Bool) (b : ℕ) (told : Told) (fs : List ListFact) → TellLists (lists_in b told) fs → ListsBytes P (lists_have b told P) fs
lists_known P b told [] tell = tt
lists_known P b told (f ∷ fs) tell = ((λ has. entries_from P f.list (ap (list_has P) (sym tell.0) ∙ has)), lists_known P b told fs tell.1)

-- where nothing was read
pub named_none : {S : Type 0} {kind : StoreKind S} {old new : Dev S} {Was Is : Of}
    → ((P : List Place → Bool) (Q : Slice → Bool) → P [] ≡ true → Was P Q → Is P Q) → HaveNamed kind old new Was Is
named_none {kind = kind} {new = new} h = record {
  lists = [];
  inside = All-nil (λ (f : ListFact). All (EntryBytes (inside_of kind new)) f.list);
  told = λ ranges cache known. tt;
  names = λ P Q hole was lists. h P Q hole was;
}

-- what is named by what calls named
pub named_by : {S : Type 0} {kind : StoreKind S} {old new : Dev S} {Was Is More Less : Of} → HaveNamed kind old new Was Is
    → ((P : List Place → Bool) (Q : Slice → Bool) → More P Q → Was P Q)
    → ((P : List Place → Bool) (Q : Slice → Bool) → P [] ≡ true → More P Q → Is P Q → Less P Q) → HaveNamed kind old new More Less
named_by {kind = kind} {old = old} h was is =
    let told : Told = told_in kind old in
    let z = old.settings.region in
    record {
      lists = h.lists;
      inside = h.inside;
      told = λ ranges cache known.
          h.told ranges cache (was (is_told told) (is_listed z told) known.0, was (are_apart ranges) (lists_have z told (are_apart ranges)) known.1);
      names = λ P Q hole more lists. is P Q hole more (h.names P Q hole (was P Q more) lists);
    }

module _ {S : Type 0} {kind : StoreKind S} (laws : KindLaws kind) {old mid : Dev S} (goes : GoesOn kind old mid []) where
  -- what is known of what was named is known of what is named now
  pub known_on : (Was Is : Of) → IsWeaker Was → HaveNamed kind old mid Was Is → (ranges : List (ℕ × Range))
      → RemembersTrue kind old ranges → IsKnown kind old ranges Was
      → IsKnown kind mid ranges Is
  known_on Was Is weaker h ranges cache known =
      let now : Told = told_in kind mid in
      let y = mid.settings.region in
      let away = are_apart ranges in
      let lists : TellLists (lists_in y now) h.lists = h.told ranges cache known in
      let there = known_later laws goes Was weaker ranges known in (
        h.names (is_told now) (is_listed y now) refl there.0 (told_lists y now h.lists lists),
        h.names away (lists_have y now away) refl there.1 (lists_known away y now h.lists lists),
      )

  -- lists that named only bytes inside the stores go on doing so
  lists_inside : {new : Dev S} → GoesOn kind mid new [] → (fs : List ListFact) → AreInsideLists kind mid fs → AreInsideLists kind new fs
  lists_inside {new} more fs h =
      let P = is_inside kind (stores mid) mid.settings in
      let R = is_inside kind (stores new) mid.settings in
      let stays : (qs : List Place) → P qs ≡ true → R qs ≡ true = inside_stays laws more.each mid.settings goes.sound.shelf in
      subst (λ (st : Settings). All (λ (f : ListFact). All (EntryBytes (is_inside kind (stores new) st)) f.list) fs) (sym more.settings)
      (All-weaker (λ (f : ListFact). All (EntryBytes P) f.list) (λ (f : ListFact). All (EntryBytes R) f.list) (λ f was. entries_stay P R stays f.list was) fs h)

  -- what was named by one call after another
  pub named_on : {new : Dev S} → GoesOn kind mid new [] → (Was Mid Is : Of) → IsWeaker Was → HaveNamed kind old mid Was Mid → HaveNamed kind mid new Mid Is
      → HaveNamed kind old new Was Is
  named_on {new} more Was Mid Is weaker first next =
      let now : Told = told_in kind mid in
      let last : Told = told_in kind new in
      let on : TellsOn now last = tells_on laws more.each in
      record {
        lists = first.lists ++ next.lists;
        inside = All-append (λ (f : ListFact). All (EntryBytes (inside_of kind new)) f.list) first.lists next.lists
            (lists_inside more first.lists first.inside) next.inside;
        told = λ ranges cache known.
            let one : TellLists (lists_in mid.settings.region now) first.lists = first.told ranges cache known in
            let kept : TellLists (lists_in new.settings.region last) first.lists =
            subst (λ (st : Settings). TellLists (lists_in st.region last) first.lists) (sym more.settings)
            (TellLists-later now last mid.settings.region first.lists on one) in
            TellLists-append (lists_in new.settings.region last) first.lists next.lists kept
            (next.told ranges (goes.lists ranges cache) (known_on Was Mid weaker first ranges cache known));
        names = λ P Q hole was lists.
            let parts = ListsBytes-parts P Q first.lists next.lists lists in
            next.names P Q hole (first.names P Q hole was parts.0) parts.1;
      }

-- calls of a log that were made once more keep its slices
pub again_beside : {S : Type 0} (kind : StoreKind S) (old new : Dev S) (kv : Store Key Value) (was is : InHand) (log : Calls)
    → NamesAgain kind old new kv was is log
    → HaveNamed kind old new (λ P Q. HandBytes P Q kv was × LogBytes P log) (λ P Q. HandBytes P Q kv is × LogBytes P log)
again_beside kind old new kv was is log h = named_by h (λ P Q were. were) (λ P Q hole were are. (are, were.1))

pub again_on : {S : Type 0} {kind : StoreKind S} → KindLaws kind → {old mid new : Dev S} → GoesOn kind old mid [] → GoesOn kind mid new []
    → (kv : Store Key Value) (was at is : InHand) (log : Calls)
    → NamesAgain kind old mid kv was at log → NamesAgain kind mid new kv at is log → NamesAgain kind old new kv was is log
again_on {kind = kind} laws {old = old} {mid = mid} goes more kv was at is log first next =
    named_on laws goes more (λ P Q. HandBytes P Q kv was × LogBytes P log) (λ P Q. HandBytes P Q kv at × LogBytes P log) (λ P Q. HandBytes P Q kv is)
    (again_weaker kv was log)
    (again_beside kind old mid kv was at log first) next

-- what is known of what is in hand is known of the map that it sees
pub hand_known : {S : Type 0} (kind : StoreKind S) (dev : Dev S) (ranges : List (ℕ × Range)) (kv : Store Key Value) (hand : InHand)
    → IsKnown kind dev ranges (λ P Q. HandBytes P Q kv hand)
    → IsKnown kind dev ranges (λ P Q. MapBytes P Q (seen kv hand.at))
hand_known kind dev ranges kv hand known =
    let told : Told = told_in kind dev in
    let z = dev.settings.region in
    let base = metadata_at kv hand.at.base in (
      with_bytes (is_told told) (is_listed z told) refl hand.at.changes base known.0.base known.0.changes,
      with_bytes (are_apart ranges) (lists_have z told (are_apart ranges)) refl hand.at.changes base known.1.base known.1.changes,
    )

-- such lists name none but these bytes, by the settings of before
pub named_inside : {S : Type 0} (kind : StoreKind S) (old new : Dev S) → GoesOn kind old new [] → (fs : List ListFact) → AreInsideLists kind new fs
    → ListsBytes (is_inside kind (stores new) old.settings) any_slice fs
named_inside kind old new goes fs h =
    subst (λ (st : Settings). ListsBytes (is_inside kind (stores new) st) any_slice fs) goes.settings (ListsBytes-all (inside_of kind new) any_slice fs h)

-- the slices of logged calls that stand for calls are told
slice_told : (told : Told) (o : Option Slice) (bytes : List ℕ) → IfSome o (λ s. tells_slice told s bytes) → SliceBytes (is_told told) o
slice_told told None bytes h = tt
slice_told told (Some s) bytes h = told_slice told (Some s) bytes h

op_told : (told : Told) (k : Op Kept) (o : Op (List ℕ)) → OpStandsFor (tells_slice told) k o → SliceBytes (is_told told) (own_of k)
op_told told (op.Write f kept) o g = slice_told told kept.slice g.bytes g.stands.slice
op_told told (op.Append f kept) o g = slice_told told kept.slice g.bytes g.stands.slice
op_told told k o g = tt

pub ops_told : (told : Told) (ks : List (Op Kept)) (os : List (Op (List ℕ))) → OpsStandFor (tells_slice told) ks os
    → All (λ (k : Op Kept). SliceBytes (is_told told) (own_of k)) ks
ops_told told [] [] h = All-nil (λ (k : Op Kept). SliceBytes (is_told told) (own_of k))
ops_told told (k ∷ ks) (o ∷ os) h = All-cons (λ (q : Op Kept). SliceBytes (is_told told) (own_of q)) k ks (op_told told k o h.0) (ops_told told ks os h.1)
ops_told told [] (o ∷ os) h = absurd h
ops_told told (k ∷ ks) [] h = absurd h

-- of a transaction whose calls stand for what it did, all that it names is known
pub sound_known : {S : Type 0} (kind : StoreKind S) (dev : Dev S) (ranges : List (ℕ × Range)) (kv : Store Key Value) (x : TxnView) (ops : List (Op (List ℕ)))
    → LogStands dev.settings.region kv (told_in kind dev) x ops
    → TellsMap kind dev ranges (metadata_at kv x.at.base) → IsAwayTxn kind dev ranges kv x → IsKnown kind dev ranges (λ P Q. TxnBytes P Q kv x)
sound_known kind dev ranges kv x ops sound tells away =
    let told : Told = told_in kind dev in
    let z = dev.settings.region in
    let names = sound.run.names (is_told told) (is_listed z told) refl tells.map (nothing_kept (is_told told)) sound.stored_are
    (told_lists z told sound.lists sound.lists_are) in
    (record { hand = record { base = tells.map; changes = names.edits; slices = names.slices }; log = ops_told told x.log.ops ops sound.ops_are }, away)

-- what is known of more is known of this
pub known_as : {S : Type 0} (kind : StoreKind S) (dev : Dev S) (ranges : List (ℕ × Range)) (F G : Of)
    → ((P : List Place → Bool) (Q : Slice → Bool) → F P Q → G P Q) → IsKnown kind dev ranges F → IsKnown kind dev ranges G
known_as kind dev ranges F G onto known =
    let told : Told = told_in kind dev in
    let z = dev.settings.region in
    (onto (is_told told) (is_listed z told) known.0, onto (are_apart ranges) (lists_have z told (are_apart ranges)) known.1)

known_apart : {S : Type 0} (kind : StoreKind S) (dev : Dev S) (ranges : List (ℕ × Range)) (F : Of) → IsKnown kind dev ranges F
    → F (are_apart ranges) (lists_have dev.settings.region (told_in kind dev) (are_apart ranges))
known_apart kind dev ranges F known = known.1

-- so a transaction names nothing in the ranges after calls that were made once more
pub replay_away : {S : Type 0} {kind : StoreKind S} → KindLaws kind → {old mid : Dev S} → GoesOn kind old mid []
    → (ranges : List (ℕ × Range)) (kv : Store Key Value) (x y : TxnView) (ops : List (Op (List ℕ)))
    → LogStands old.settings.region kv (told_in kind old) x ops → TellsMap kind old ranges (metadata_at kv x.at.base) → IsAwayTxn kind old ranges kv x
    → y.log ≡ x.log
    → NamesAgain kind old mid kv (hand_of x) (hand_of y) x.log → IsAwayTxn kind mid ranges kv y
replay_away {kind = kind} laws {old = old} {mid = mid} goes ranges kv x y ops sound tells away log names =
    let known = known_as kind old ranges (λ P Q. TxnBytes P Q kv x) (λ P Q. HandBytes P Q kv (hand_of x) × LogBytes P x.log) (λ P Q h. (h.hand, h.log))
    (sound_known kind old ranges kv x ops sound tells away) in
    let later = known_on laws goes (λ P Q. HandBytes P Q kv (hand_of x) × LogBytes P x.log) (λ P Q. HandBytes P Q kv (hand_of y) × LogBytes P x.log)
    (again_weaker kv (hand_of x) x.log)
    (again_beside kind old mid kv (hand_of x) (hand_of y) x.log names) ranges tells.cache known in
    let now = known_apart kind mid ranges (λ P Q. HandBytes P Q kv (hand_of y) × LogBytes P x.log) later in
    record { hand = now.0; log = subst (LogBytes (are_apart ranges)) (sym log) now.1 }
