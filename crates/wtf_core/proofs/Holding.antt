-- What a keeper holds goes on being an image that is kept for it.
use Rattle.wtf_core.proofs.Common.{Contains, Settings, Event, plain, CoreView, AreSound, IsTidied, SaveTurn, LineTurn, IsHeldBy, HoldsKept, live_upto, ⊎_elim}
use Rattle.wtf_core.proofs.Common.{option_map, Contains-append_left, Contains-push, Contains-push_cases, metadata_at, KeeperFailed, kept_pinned, pinned_live, ℕ}
use Rattle.wtf_core.proofs.Common.{KeeperKept, StoreKind, Answer, BesideView, TablesView, with_image, only_image, KeeperSpan, SyncFailed, KeeperTurn, IsImageAt}
use Rattle.wtf_core.proofs.Common.{Span, Map, Says, Saves, Hands, ◌≡◌, ◌≢◌, ◌≤◌, true, List, [], ◌∷◌, Some, sym, ap, ◌∙◌, subst, ◌⊎◌, inl, inr, arith}
use Rattle.wtf_core.proofs.Moves.{GoesLive, goes_live, line_moves}

-- what every keeper keeps to
pub record KeeperLaws (k : KeeperSpan) : Type 0 where
  pub kept : (images : List (List ℕ)) → k.handed images → KeeperKept k.before k.after images
  pub same : k.untouched → k.after ≡ k.before

image_at_on : (old new : TablesView) (settings : Settings) (n : ℕ) (bytes : List ℕ) → metadata_at new.kv n ≡ metadata_at old.kv n → old.next_tx ≤ new.next_tx
    → IsImageAt old settings n bytes → IsImageAt new settings n bytes
image_at_on old new settings n bytes same more h = record {
  rows = h.rows;
  next = h.next;
  begun = let le = h.begun in omega (arith, le, more);
  text = h.text;
  header = h.header;
  says = subst (λ (w : Map). Says (λ q. option_map plain (w q)) h.rows) (sym same) h.says;
}

-- the maps of the images stay, and none of these goes
held_on : (old new : TablesView) (settings : Settings) (bytes : List ℕ) → old.next_tx ≤ new.next_tx → (old.beside.none ≡ true → new.beside.none ≡ true)
    → ((n : ℕ) → Contains old.beside.images n → Contains new.beside.images n × (metadata_at new.kv n ≡ metadata_at old.kv n)) → IsHeldBy old settings bytes
    → IsHeldBy new settings bytes
held_on old new settings bytes more none images (inl (empty, is)) = inl (empty, none is)
held_on old new settings bytes more none images (inr (n, there, image)) = let on =
    images n there in inr (n, on.0, image_at_on old new settings n bytes on.1 more image)

live_held : (old new : TablesView) (settings : Settings) (bytes : List ℕ) → AreSound old → GoesLive old new → IsHeldBy old settings bytes
    → IsHeldBy new settings bytes
live_held old new settings bytes sound h held =
    held_on old new settings bytes h.more (λ is. h.saved.1 ∙ is)
    (λ n there. (subst (λ (l : List ℕ). Contains l n) (sym h.saved.0) there, h.maps n (pinned_live old.kv n (kept_pinned old n sound there)))) held

pub tidied_held : (old new : TablesView) (settings : Settings) (bytes : List ℕ) → AreSound old → IsTidied old new → IsHeldBy old settings bytes
    → IsHeldBy new settings bytes
tidied_held old new settings bytes sound h held =
    held_on old new settings bytes (let next = h.next_tx in omega (arith, next)) (λ is. ap (λ (s : BesideView). s.none) h.beside ∙ is)
    (λ n there. (subst (λ (s : BesideView). Contains s.images n) (sym h.beside) there, h.maps n (pinned_live old.kv n (kept_pinned old n sound there)))) held

-- one image was handed over
pub handed_one : (bytes image : List ℕ) → Contains (bytes ∷ []) image → bytes ≡ image
handed_one bytes image there = ⊎_elim (λ never. absurd (let below = never.1 in omega (arith, below))) (λ same. same) (Contains-push_cases [] bytes image there)

module _ {S : Type 0} (kind : StoreKind S) (t : Span S) (k : KeeperSpan) (laws : KeeperLaws k) (settings : Settings) (old new : TablesView)
    (sound : AreSound old) where
  -- the new image is that of the number
  new_held : (now : BesideView) → Saves old new now → (hands : Hands kind t k settings old) → IsImageAt new settings old.kv.number hands.bytes
  new_held now saves hands = record {
    rows = hands.image.rows;
    next = old.next_tx;
    begun = let next = saves.next_tx in omega (arith, next);
    text = hands.image.text;
    header = hands.image.header;
    says = subst (λ (w : Map). Says (λ q. option_map plain (w q)) hands.image.rows) (sym (saves.maps old.kv.number (omega arith))) hands.image.says;
  }

  stays_held : (now : BesideView) → Saves old new now → new.beside ≡ old.beside → (bytes : List ℕ) → IsHeldBy old settings bytes → IsHeldBy new settings bytes
  stays_held now saves same bytes held = live_held old new settings bytes sound
      (record {
        maps = λ n live. saves.maps n (live_upto old n sound live);
        more = let next = saves.next_tx in omega (arith, next);
        saved = (ap (λ (b : BesideView). b.images) same, ap (λ (b : BesideView). b.none) same);
      }) held

  -- the others stay beside it
  beside_held : (now : BesideView) → Saves old new now → new.beside ≡ with_image old.beside old.kv.number → (bytes : List ℕ) → IsHeldBy old settings bytes
      → IsHeldBy new settings bytes
  beside_held now saves is bytes held =
      held_on old new settings bytes (let next = saves.next_tx in omega (arith, next)) (λ none. ap (λ (s : BesideView). s.none) is ∙ none)
      (λ n there. (
        subst (λ (s : BesideView). Contains s.images n) (sym is) (Contains-append_left old.beside.images (old.kv.number ∷ []) n there),
        saves.maps n (sound.kept n there),
      )) held

  failed_held : (now : BesideView) → Saves old new now → KeeperFailed kind t k settings old new → HoldsKept k.before settings old
      → HoldsKept k.after settings new
  failed_held now saves failed (bytes, held, is) = ⊎_elim
      (λ stays. (bytes, stays, beside_held now saves failed.beside bytes is))
      (λ (image, there, holds).
      let same : failed.hands.bytes ≡ image = handed_one failed.hands.bytes image there in (
        failed.hands.bytes,
        holds ∙ ap Some (sym same),
        inr (
          old.kv.number,
          subst (λ (s : BesideView). Contains s.images old.kv.number) (sym failed.beside) (Contains-push old.beside.images old.kv.number),
          (new_held now saves failed.hands),
        ),
      ))
      ((laws.kept (failed.hands.bytes ∷ []) failed.hands.handed).bytes bytes held)

  untouched_held : (now : BesideView) → Saves old new now → SyncFailed kind t k settings old new → HoldsKept k.before settings old
      → HoldsKept k.after settings new
  untouched_held now saves failed (bytes, held, is) = (bytes, ap (λ v. v.held) (laws.same failed.untouched) ∙ held, stays_held now saves failed.beside bytes is)

  either_held : (now : BesideView) → Saves old new now → SyncFailed kind t k settings old new ⊎ KeeperFailed kind t k settings old new
      → HoldsKept k.before settings old → HoldsKept k.after settings new
  either_held now saves (inl failed) held = untouched_held now saves failed held
  either_held now saves (inr failed) held = failed_held now saves failed held

  pub save_held : (Up : Type 0) (a : Answer) → SaveTurn Up old new a → KeeperTurn kind t k settings old new Event.Save a → k.before.tells ≡ true
      → HoldsKept k.before settings old → HoldsKept k.after settings new
  save_held Up (Answer.Saved n) (number, up, saves) did tells held = (
    did.hands.bytes,
    did.held tells,
    inr (
      old.kv.number,
      subst (λ (s : BesideView). Contains s.images old.kv.number) (sym saves.beside)
          (subst (λ j. Contains (only_image old.beside j).images old.kv.number) (sym number) (Contains-push [] old.kv.number)),
      new_held (only_image old.beside n) saves did.hands,
    ),
  )
  save_held Up Answer.FaultSave (inl saves) did tells held = either_held old.beside saves did held
  save_held Up Answer.FaultSave (inr saves) did tells held = either_held (with_image old.beside old.kv.number) saves did held
  save_held Up a turn did tells held = absurd turn

-- what the keeper was handed is so also where versions that no one sees are dropped
module _ {S : Type 0} (kind : StoreKind S) (t : Span S) (k : KeeperSpan) (settings : Settings) (old mid new : TablesView) (same : new.beside ≡ mid.beside) where
  pub keeper_on : (e : Event) (a : Answer) → KeeperTurn kind t k settings old mid e a → KeeperTurn kind t k settings old new e a
  keeper_on Event.Save (Answer.Saved n) h = h
  keeper_on Event.Save Answer.FaultSave (inl h) = inl (record { out = h.out; untouched = h.untouched; beside = same ∙ h.beside })
  keeper_on Event.Save Answer.FaultSave (inr h) = inr (record { hands = h.hands; rose = h.rose; refused = h.refused; beside = same ∙ h.beside })
  keeper_on Event.Save a h = h
  keeper_on e a h = h

-- each line
module _ {S : Type 0} (kind : StoreKind S) (t : Span S) (k : KeeperSpan) (laws : KeeperLaws k) (old new : CoreView)
    (sound : AreSound old.tables) (a : Answer) where
  other_held : (e : Event) → e ≢ Event.Save → LineTurn kind t old new e a → k.untouched → HoldsKept k.before old.settings old.tables
      → HoldsKept k.after old.settings new.tables
  other_held e ne turn untouched (bytes, held, is) = (
    bytes,
    ap (λ v. v.held) (laws.same untouched) ∙ held,
    live_held old.tables new.tables old.settings bytes sound (goes_live old.tables new.tables e a (line_moves kind t old new sound a e turn) ne) is,
  )

  pub line_held : (e : Event) → LineTurn kind t old new e a → KeeperTurn kind t k old.settings old.tables new.tables e a → k.before.tells ≡ true
      → HoldsKept k.before old.settings old.tables → HoldsKept k.after old.settings new.tables
  line_held Event.Save turn did tells held = save_held kind t k laws old.settings old.tables new.tables sound _ a turn.0 did tells held
  line_held e turn did tells held = other_held e (λ is. absurd (cc)) turn did held
