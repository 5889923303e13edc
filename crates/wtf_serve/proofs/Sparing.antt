-- What a line leaves alone, by what the core promises; and what lines do, one after the other.
use Rattle.std.proofs.Common.{◌≡◌, ◌≢◌, ◌⊎◌, ℕ, Bool, true, false, List, [], ◌∷◌, ◌++◌, None, Some, Ok, Err, refl, sym, ◌∙◌, ap, subst, arith}
use Rattle.std.proofs.Common.{append_assoc, inl, inr, true≢false}
use Rattle.std.proofs.lemmas.List.{append-nil}
use Rattle.wtf_base.specs.declared.settings.Settings.{Settings}
use Rattle.wtf_dev.specs.Keep.{KeeperView}
use Rattle.wtf_dev.specs.Store.{StoreKind}
use Rattle.wtf_replica.specs.Downs.{is_down}
use Rattle.wtf_replica.specs.Outs.{SameSyncs}
use Rattle.wtf_replica.specs.Spans.{Span, span}
use Rattle.wtf_model.specs.declared.answer.Answer.{Answer}
use Rattle.wtf_model.specs.declared.answer.Answer.TheVariants as answer
use Rattle.wtf_model.specs.declared.event.Event.{Event}
use Rattle.wtf_model.specs.declared.event.Event.TheVariants as event
use Rattle.wtf_model.specs.Lines.{Line, state_after}
use Rattle.wtf_model.specs.Servers.{none_down, down_after, downs_after}
use Rattle.wtf_core.specs.Keeping.{KeeperSpan, keeper_span, KeeperTurn, Hands}
use Rattle.wtf_core.specs.Promises.{CoreStays, scene}
use Rattle.wtf_core.specs.Saves.{SaveTurn, AreUp}
use Rattle.wtf_core.specs.Turns.{IsLine}
use Rattle.wtf_core.specs.Views.{TablesView, CoreView}
use Rattle.wtf_serve.specs.Engines.{is_save_event, is_save}
use Rattle.wtf_serve.specs.Logs.{Log, asked, last_downs}
use Rattle.wtf_serve.specs.Scripts.{line_of, IsEndStatus, end_status}
use Rattle.wtf_serve.specs.Sparing.{SparesStores, IsOneImage, IsOneAtMost, LineHands, SparesAlong, HandsAlong, LineSpares, EndSpares}
use Rattle.wtf_serve.proofs.RanLaws.{longer, asked-longer}

-- stores at which nothing was done
pub stores_spared : {S : Type 0} (kind : StoreKind S) (down : ℕ → Bool) (may_sync : Bool) (stores : List S)
    → SparesStores kind (span down stores stores) may_sync
stores_spared kind down may_sync stores = record { down = λ k d is. refl; unsynced = λ never k d there. refl }

-- ---- One line, by what the core promises

-- what was handed over is one image
one_image : {S : Type 0} (kind : StoreKind S) (t : Span S) (k : KeeperSpan) (settings : Settings) (tables : TablesView) (hands : Hands kind t k settings tables)
    → IsOneImage tables.kv.number (hands.bytes ∷ [])
one_image kind t k settings tables hands = record {
  image = hands.bytes;
  one = refl;
  rows = hands.image.rows;
  text = hands.image.text;
  number = ap (λ header. header.installs) hands.image.header;
}

module _ {K S : Type 0} (view : K → KeeperView) (follows : K → K → List (List ℕ) → Type 0) (itself : (s : K) → follows s s []) (refused : K → K → Type 0)
    (old new : K) (kind : StoreKind S) (before after : List S) (core core' : CoreView) where
  abbrev t : Span S
  t = span (is_down core.replicas) before after

  abbrev k : KeeperSpan
  k = keeper_span view follows refused old new

  -- a keeper that is as it was was handed nothing
  handed_none : new ≡ old → follows old new []
  handed_none same = subst (λ (s : K). follows old s []) (sym same) (itself old)

  abbrev HandsFor : Event → Answer → Type 0
  HandsFor e a = (images : List (List ℕ)) × LineHands (Ok e) a images × follows old new images

  save_hands : (Up : Type 0) (tables : TablesView) (a : Answer) → KeeperTurn kind t k core.settings core.tables core'.tables event.Save a
      → SaveTurn Up core.tables tables a → HandsFor event.Save a
  save_hands Up tables (answer.Saved n) turn is = (
    turn.hands.bytes ∷ [],
    subst (λ (m : ℕ). IsOneImage m (turn.hands.bytes ∷ [])) (sym is.0) (one_image kind t k core.settings core.tables turn.hands),
    turn.hands.handed,
  )
  save_hands Up tables answer.FaultSave (inl failed) is = ([], inl refl, handed_none failed.untouched)
  save_hands Up tables answer.FaultSave (inr failed) is = (
    failed.hands.bytes ∷ [],
    inr (core.tables.kv.number, one_image kind t k core.settings core.tables failed.hands),
    failed.hands.handed,
  )
  save_hands Up tables a turn is = absurd is

  event_hands : (e : Event) (a : Answer) → KeeperTurn kind t k core.settings core.tables core'.tables e a → IsLine kind t core core' e a → HandsFor e a
  event_hands event.Save a turn line = save_hands (AreUp core.replicas core.settings.servers) line.answered.tables a turn line.turn.0
  event_hands e a turn line = ([], refl, handed_none turn)

  unsynced : (e : Event) → CoreStays kind (scene before (view old) core) (scene after (view new) core') e → is_save_event e ≡ false
      → SameSyncs kind before after
  unsynced event.Save stays is = absurd (true≢false is)
  unsynced e stays is = stays.leaves.syncs

  -- one that was answered
  pub event_spares : (e : Event) (a : Answer) → KeeperTurn kind t k core.settings core.tables core'.tables e a → IsLine kind t core core' e a
      → CoreStays kind (scene before (view old) core) (scene after (view new) core') e
      → LineSpares kind (follows old new) core.settings.servers t (Ok e) (Some a)
  event_spares e a turn line stays =
      let (images, hands, handed) = event_hands e a turn line in
      record {
        stores = record { down = stays.leaves.down; unsynced = unsynced e stays };
        past = stays.leaves.past;
        images = images;
        hands = hands;
        handed_are = handed;
      }

-- ---- a save that was answered otherwise than `saved` has failed
pub failed_hands : (a : Answer) (images : List (List ℕ)) → ((n : ℕ) → a ≢ answer.Saved n) → LineHands (Ok event.Save) a images → IsOneAtMost images
failed_hands (answer.Saved n) images other hands = absurd (other n refl)
failed_hands answer.FaultSave images other hands = hands
failed_hands a images other hands = inl hands

-- a line that is answered hands one image at most, and only a save hands one, or syncs
at_most : (a : Answer) (images : List (List ℕ)) → LineHands (Ok event.Save) a images → IsOneAtMost images
at_most (answer.Saved n) images hands = inr (n, hands)
at_most answer.FaultSave images hands = hands
at_most a images hands = inl hands

pub save_or_none : {S : Type 0} (kind : StoreKind S) (t : Span S) (line : Line) (a : Answer) (images : List (List ℕ)) → SparesStores kind t (is_save line)
    → LineHands line a images → (SameSyncs kind t.before t.after × (images ≡ [])) ⊎ ((line ≡ Ok event.Save) × IsOneAtMost images)
save_or_none kind t (Ok event.Save) a images stores hands = inr (refl, at_most a images hands)
save_or_none kind t (Ok e) a images stores hands = inl (stores.unsynced refl, hands)
save_or_none kind t (Err bad) a images stores hands = inl (stores.unsynced refl, hands)

-- ---- what comes of the closing save
module _ {S : Type 0} (kind : StoreKind S) (handed : List (List ℕ) → Type 0) (servers : ℕ) (t : Span S) where
  -- it saved, with the status of a script that was read to its end
  ends_whole : (bad : Bool) → IsEndStatus (end_status bad)
  ends_whole true = inr refl
  ends_whole false = inl refl

  pub saved_spares : (bad : Bool) (a : Answer) (n : ℕ) → a ≡ answer.Saved n → LineSpares kind handed servers t (Ok event.Save) (Some a)
      → EndSpares kind handed servers t (end_status bad)
  saved_spares bad a n is here = record {
    down = here.stores.down;
    past = here.past;
    images = here.images;
    handed_are = here.handed_are;
    saved = λ _. (n, subst (λ (b : Answer). LineHands (Ok event.Save) b here.images) is here.hands);
    failed = λ e. absurd (omega (arith, e, ends_whole bad));
    unsaved = λ other. absurd (other (inl (ends_whole bad)));
  }

  -- it failed
  pub failed_spares : (a : Answer) → ((n : ℕ) → a ≢ answer.Saved n) → LineSpares kind handed servers t (Ok event.Save) (Some a)
      → EndSpares kind handed servers t 5
  failed_spares a other here = record {
    down = here.stores.down;
    past = here.past;
    images = here.images;
    handed_are = here.handed_are;
    saved = λ e. absurd (omega (arith, e));
    failed = λ _. failed_hands a here.images other here.hands;
    unsaved = λ not. absurd (not (inr refl));
  }

  -- memory was wanted
  pub wanted_spares : LineSpares kind handed servers t (Ok event.Save) None → EndSpares kind handed servers t 7
  wanted_spares here = record {
    down = here.stores.down;
    past = here.past;
    images = here.images;
    handed_are = here.handed_are;
    saved = λ e. absurd (omega (arith, e));
    failed = λ e. absurd (omega (arith, e));
    unsaved = λ _. (here.stores.unsynced refl, here.hands);
  }

-- or what the sink held back was not brought out, so that there is none
pub unsaved_spares : {S : Type 0} (kind : StoreKind S) (handed : List (List ℕ) → Type 0) (servers : ℕ) (down : ℕ → Bool) (stores : List S) → handed []
    → EndSpares kind handed servers (span down stores stores) 4
unsaved_spares kind handed servers down stores nothing = record {
  down = λ k d is. refl;
  past = λ k d there. refl;
  images = [];
  handed_are = nothing;
  saved = λ e. absurd (omega (arith, e));
  failed = λ e. absurd (omega (arith, e));
  unsaved = λ _. ((λ k d there. refl), refl);
}

-- ---- Lines, and one more

spares_push : {S : Type 0} (kind : StoreKind S) (down : ℕ → Bool) (lines : List Line) (answers : List Answer) (before mid after : List S) (line : Line)
    (a : Answer)
    → SparesAlong kind down lines answers before mid → SparesStores kind (span (downs_after down lines answers) mid after) (is_save line)
    → SparesAlong kind down (lines ++ line ∷ []) (answers ++ a ∷ []) before after
unfolding state_after
spares_push kind down [] [] before mid after line a same here =
    (after, subst (λ stores. SparesStores kind (span down stores after) (is_save line)) same here, refl)
spares_push kind down [] (b ∷ answers) before mid after line a early here = absurd early
spares_push kind down (l ∷ lines) [] before mid after line a early here = absurd early
spares_push kind down (l ∷ lines) (b ∷ answers) before mid after line a (next, first, later) here =
    (next, first, spares_push kind (down_after down l b) lines answers next mid after line a later here)

hands_push : (lines : List Line) (answers : List Answer) (images own : List (List ℕ)) (line : Line) (a : Answer) → HandsAlong lines answers images
    → LineHands line a own → HandsAlong (lines ++ line ∷ []) (answers ++ a ∷ []) (images ++ own)
hands_push [] [] images own line a none here =
    (own, [], ap (λ (x : List (List ℕ)). x ++ own) none ∙ sym (append-nil own), here, refl)
hands_push [] (b ∷ answers) images own line a early here = absurd early
hands_push (l ∷ lines) [] images own line a early here = absurd early
hands_push (l ∷ lines) (b ∷ answers) images own line a (mine, rest, is, first, later) here = (
  mine,
  rest ++ own,
  ap (λ (x : List (List ℕ)). x ++ own) is ∙ append_assoc mine rest own,
  first,
  hands_push lines answers rest own line a later here,
)

-- what the lines so far left alone
pub record Spared {S : Type 0} (kind : StoreKind S) (handed : List (List ℕ) → Type 0) (log : Log) (before now : List S) : Type 0 where
  pub along : SparesAlong kind none_down (asked log) log.answers before now
  pub images : List (List ℕ)
  pub each : HandsAlong (asked log) log.answers images
  pub handed_are : handed images

pub spared_none : {S : Type 0} (kind : StoreKind S) (handed : List (List ℕ) → Type 0) (stores : List S) → handed []
    → Spared kind handed (record { lines = []; answers = [] }) stores stores
spared_none kind handed stores nothing = record { along = refl; images = []; each = refl; handed_are = nothing }

pub spared_more : {S : Type 0} (kind : StoreKind S) (handed more both : List (List ℕ) → Type 0)
    → ((xs ys : List (List ℕ)) → handed xs → more ys → both (xs ++ ys)) → (log : Log) (before mid after : List S) → Spared kind handed log before mid
    → (servers : ℕ) (line : List ℕ) (a : Answer) → LineSpares kind more servers (span (last_downs log) mid after) (line_of line) (Some a)
    → Spared kind both (longer log line a) before after
spared_more kind handed more both join log before mid after s servers line a here = record {
  along = subst (λ (x : List Line). SparesAlong kind none_down x (log.answers ++ a ∷ []) before after) (sym (asked-longer log line a))
      (spares_push kind none_down (asked log) log.answers before mid after (line_of line) a s.along here.stores);
  images = s.images ++ here.images;
  each = subst (λ (x : List Line). HandsAlong x (log.answers ++ a ∷ []) (s.images ++ here.images)) (sym (asked-longer log line a))
      (hands_push (asked log) log.answers s.images here.images (line_of line) a s.each here.hands);
  handed_are = join s.images here.images s.handed_are here.handed_are;
}
