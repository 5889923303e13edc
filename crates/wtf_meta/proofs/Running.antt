-- A transaction's calls, and one call more: on every map on which they were the definitions' run, they are one call longer.
use Rattle.std.proofs.Common.{◌≡◌, ℕ, ◌+◌, Bool, true, List, [], ◌∷◌, ◌++◌, length, sym, ap, subst, ◌∙◌}
use Rattle.std.proofs.lemmas.List.{length_push}
use Rattle.wtf_base.specs.declared.slice.Slice.{Slice}
use Rattle.wtf_kv.proofs.EditLaws.{over-append, Agree-parts, Agree-over, Fits-parts, Fits-append}
use Rattle.wtf_overlay.specs.Origin.{Place}
use Rattle.wtf_model.specs.declared.answer.Answer.{Answer}
use Rattle.wtf_model.specs.declared.item.Item.{Item}
use Rattle.wtf_model.specs.declared.op.Op.{Op}
use Rattle.wtf_model.specs.Tree.{Tree}
use Rattle.wtf_model.specs.Session.{Session, fresh}
use Rattle.wtf_model.specs.Call.{call}
use Rattle.wtf_model.specs.Transaction.{session_after}
use Rattle.wtf_model.specs.Items.{reads, writes, reads_of, writes_of}
use Rattle.wtf_model.proofs.Laws.{session_from-push, answers_from-push}
use Rattle.wtf_model.proofs.ItemLaws.{reads_from-push, writes_from-push}
use Rattle.wtf_values.specs.Keys.{key_cmp}
use Rattle.wtf_values.specs.Outcomes.{outcome_of}
use Rattle.wtf_meta.specs.Maps.{Map, Edits, with}
use Rattle.wtf_meta.specs.Bytes.{MapBytes, PiecesBytes, ListsBytes}
use Rattle.wtf_meta.specs.Contents.{Told, lists_in}
use Rattle.wtf_meta.specs.Trees.{Stands, Own}
use Rattle.wtf_meta.specs.Sessions.{SessionView, Holds, SessionBytes, nothing_open}
use Rattle.wtf_meta.specs.Feet.{Feet}
use Rattle.wtf_meta.specs.Calls.{Caller, cap_for, Did, then_did, Names, IsDone, IsCall, Ran, IsRun}
use Rattle.wtf_meta.proofs.FeetLaws.{feet_on}
use Rattle.wtf_meta.proofs.Named.{PiecesBytes-parts, EditsBytes-append}
use Rattle.wtf_meta.proofs.Facts.{TellFacts-parts, FactsBytes-append}
use Rattle.wtf_meta.proofs.ListFacts.{TellLists-parts, ListSlices-append, ListsBytes-parts}
use Rattle.wtf_meta.proofs.MapBytes.{with_bytes}

-- changes, one list after another
pub with-append : (cs ds : Edits) (w : Map) → with (cs ++ ds) w ≡ with ds (with cs w)
with-append cs ds w = over-append key_cmp outcome_of cs ds w

-- inodes that come in two steps
pub Own-on : (tx : ℕ) (a b c : Map) → Own tx a b → Own tx b c → Own tx a c
Own-on tx a b c first then = λ i other none. then i other (first i other none)

module _ (x : Caller) (b : Map) (s t : SessionView) (did more : Did) (ops : List (Op (List ℕ))) (shown : List Answer) (o : Op (List ℕ)) (a : Answer) where
  -- the caller, once these calls are made
  abbrev next : Caller
  next = record x { calls = length ops }

  names_on : IsRun x b s did (ops, shown) → IsCall next (with did.edits b) s t more o a → (P : List Place → Bool) (Q : Slice → Bool) → P [] ≡ true
      → MapBytes P Q b → SessionBytes P nothing_open
      → PiecesBytes P (did.stored ++ more.stored) → ListsBytes P Q (did.lists ++ more.lists) → Names b nothing_open t (then_did did more) P Q
  names_on run one P Q hole map none stored lists =
      let parts = PiecesBytes-parts P did.stored more.stored stored in
      let known = ListsBytes-parts P Q did.lists more.lists lists in
      let first = run.names P Q hole map none parts.0 known.0 in
      let then = one.names P Q hole (with_bytes P Q hole did.edits b map first.edits) first.slices parts.1 known.1 in
      record {
        edits = EditsBytes-append P Q did.edits more.edits first.edits then.edits;
        facts = FactsBytes-append P did.facts more.facts first.facts then.facts;
        slices = then.slices;
        lists = ListSlices-append P Q did.lists more.lists first.lists then.lists;
      }

  ran_on : (told : Told) (w : Map) (tree : Tree) → Ran x told w (with did.edits w) s tree (ops, shown)
      → IsDone next told (with did.edits w) (with more.edits (with did.edits w)) t (call (cap_for x) (session_after (cap_for x) tree ops) o) a
      → Ran x told w (with (did.edits ++ more.edits) w) t tree (ops ++ o ∷ [], shown ++ a ∷ [])
  ran_on told w tree ran done =
      let cap : ℕ = cap_for x in
      let new : Map = with more.edits (with did.edits w) in
      let map : with (did.edits ++ more.edits) w ≡ new = with-append did.edits more.edits w in
      let session : session_after cap tree (ops ++ o ∷ []) ≡ (call cap (session_after cap tree ops) o).session = session_from-push cap (fresh tree) ops o in
      let count : length (ops ++ o ∷ []) ≡ length ops + 1 = length_push ops o in
      record {
        answers = answers_from-push cap (fresh tree) ops o ∙ ap (λ l. l ++ (call cap (session_after cap tree ops) o).answer ∷ []) ran.answers
            ∙ ap (λ y. shown ++ y ∷ []) (sym done.answer);
        stands = subst (λ m. Stands x.size told x.tx (length (ops ++ o ∷ [])) m (session_after cap tree (ops ++ o ∷ [])).tree) (sym map)
            (subst (λ n. Stands x.size told x.tx n new (session_after cap tree (ops ++ o ∷ [])).tree) (sym count)
            (subst (λ S. Stands x.size told x.tx (length ops + 1) new S.tree) (sym session) done.stands));
        holds = subst (λ m. Holds told m t (session_after cap tree (ops ++ o ∷ []))) (sym map) (subst (λ S. Holds told new t S) (sym session) done.holds);
        own = subst (λ m. Own x.tx w m) (sym map) (Own-on x.tx w (with did.edits w) new ran.own done.own);
      }

  feet_ran : (w : Map) (tree : Tree) → Feet x.tx w did.keys did.edits (reads_of (cap_for x) tree ops) (writes_of (cap_for x) tree ops)
      → Feet x.tx (with did.edits w) more.keys more.edits
      (reads (session_after (cap_for x) tree ops) o) (writes (cap_for x) (session_after (cap_for x) tree ops) o)
      → Feet x.tx w (did.keys ++ more.keys) (did.edits ++ more.edits) (reads_of (cap_for x) tree (ops ++ o ∷ [])) (writes_of (cap_for x) tree (ops ++ o ∷ []))
  feet_ran w tree first then =
      let cap : ℕ = cap_for x in
      let S : Session = session_after cap tree ops in
      let R : List Item = reads_of cap tree ops in
      let W : List Item = writes_of cap tree ops in
      subst (λ l. Feet x.tx w (did.keys ++ more.keys) (did.edits ++ more.edits) l (writes_of cap tree (ops ++ o ∷ [])))
      (sym (reads_from-push cap (fresh tree) ops o))
      (subst (λ l. Feet x.tx w (did.keys ++ more.keys) (did.edits ++ more.edits) (R ++ reads S o) l) (sym (writes_from-push cap (fresh tree) ops o))
      (feet_on x.tx w did.keys did.edits R W first (reads S o) (writes cap S o) more.keys more.edits then))

  -- one call more
  pub run_on : IsRun x b s did (ops, shown) → IsCall next (with did.edits b) s t more o a → IsRun x b t (then_did did more) (ops ++ o ∷ [], shown ++ a ∷ [])
  run_on run one = record {
    fits = Fits-append key_cmp outcome_of did.edits more.edits b run.fits one.fits;
    names = names_on run one;
    acts = λ told w tree agree fit facts lists stands.
        let keys = Agree-parts did.keys more.keys b w agree in
        let fits = Fits-parts key_cmp outcome_of did.edits more.edits w fit in
        let tell = TellFacts-parts told did.facts more.facts facts in
        let read = TellLists-parts (lists_in x.size told) did.lists more.lists lists in
        let ran = run.acts told w tree keys.0 fits.0 tell.0 read.0 stands in ran_on told w tree ran
        (one.acts told (with did.edits w) (session_after (cap_for x) tree ops)
        (Agree-over key_cmp outcome_of more.keys did.edits b w keys.1) fits.1 tell.1 read.1 ran.stands ran.holds);
    feet = λ told w tree agree fit facts lists stands.
        let keys = Agree-parts did.keys more.keys b w agree in
        let fits = Fits-parts key_cmp outcome_of did.edits more.edits w fit in
        let tell = TellFacts-parts told did.facts more.facts facts in
        let read = TellLists-parts (lists_in x.size told) did.lists more.lists lists in
        let ran = run.acts told w tree keys.0 fits.0 tell.0 read.0 stands in feet_ran w tree (run.feet told w tree keys.0 fits.0 tell.0 read.0 stands)
        (one.feet told (with did.edits w) (session_after (cap_for x) tree ops)
        (Agree-over key_cmp outcome_of more.keys did.edits b w keys.1) fits.1 tell.1 read.1 ran.stands ran.holds);
  }
