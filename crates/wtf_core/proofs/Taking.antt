-- What a keeper holds goes on being an image that a run can begin with, and after a save it is that of the core.
use Rattle.wtf_core.proofs.Common.{append-nil, Settings, AreSettings, KeeperView, StoreKind, size_in, Span, Answer, Event, Machine, MapBytes, any_slice, Told}
use Rattle.wtf_core.proofs.Common.{is_inside, HasText, IsKept, ImageRows, are_inside, image_text, one_image, is_kept, stands_savable, TablesView, metadata_now}
use Rattle.wtf_core.proofs.Common.{AreSound, TablesStand, SaveTurn, KeeperSpan, Hands, KeeperFailed, KeeperTurn, CoreView, LineTurn, IsImageFor, IsImageWith}
use Rattle.wtf_core.proofs.Common.{IsTakenFor, HoldsTaken, HoldsWith, scene, CoreLeaves, ◌≡◌, ◌≤◌, ◌^◌, ℕ, true, List, [], ◌∷◌, Some, sym, ap, ◌∙◌, subst, inl}
use Rattle.wtf_core.proofs.Common.{inr, ⊎_elim, arith}
use Rattle.wtf_core.proofs.{Moves.Rises, Holding.KeeperLaws, Holding.handed_one, Pointing.rows_inside, Pointing.taken_on}

-- bytes are one image at most
pub same_rows : (x y : ImageRows) (bytes : List ℕ) → HasText x bytes → HasText y bytes → x ≡ y
same_rows x y bytes one two = (one_image x y [] one.shape two.shape (sym two.text ∙ one.text ∙ sym (append-nil (image_text x)))).0

-- ---- over longer files, and up to greater numbers
module _ (size later : ℕ → ℕ → ℕ) (grows : (k f : ℕ) → size k f ≤ later k f) (settings : Settings) (n next n' next' : ℕ) (more : n ≤ n') (after : next ≤ next')
    (bytes : List ℕ) where
  pub image_on : IsImageFor size settings n next bytes → IsImageFor later settings n' next' bytes
  image_on h = record {
    rows = h.rows;
    taken = taken_on size later grows bytes h.rows h.taken;
    settings_are = h.settings_are;
    installs = omega (arith, h.installs, more);
    next_tx = omega (arith, h.next_tx, after);
  }

  pub taken_for_on : IsTakenFor size settings n next bytes → IsTakenFor later settings n' next' bytes
  taken_for_on (inl none) = inl none
  taken_for_on (inr is) = inr (image_on is)

-- an image with just these numbers
pub image_with : (size : ℕ → ℕ → ℕ) (settings : Settings) (n next n' next' : ℕ) (bytes : List ℕ) → n ≤ n' → next ≤ next'
    → IsImageWith size settings n next bytes → IsImageFor size settings n' next' bytes
image_with size settings n next n' next' bytes more after h = record {
  rows = h.rows;
  taken = h.taken;
  settings_are = h.settings_are;
  installs = omega (arith, h.installs, more);
  next_tx = omega (arith, h.next_tx, after);
}

module _ {S : Type 0} (kind : StoreKind S) (t : Span S) (grows : (k f : ℕ) → size_in kind t.before k f ≤ size_in kind t.after k f) (k : KeeperSpan)
    (keeper : KeeperLaws k) (settings : Settings) (old new : TablesView) (told : Told) (m : Machine)
    (limits : AreSettings settings.servers settings.replicas settings.region) (begun_one : AreSound old) (few : old.kv.number ≤ 2 ^ 62)
    (next : old.next_tx ≤ 2 ^ 62) (st : TablesStand settings.region told old m)
    (inside : MapBytes (is_inside kind t.before settings) any_slice (metadata_now old.kv)) (rises : Rises old new) where
  abbrev Before : Type 0
  Before = HoldsTaken k.before (size_in kind t.before) settings old.kv.number old.next_tx

  abbrev After : Type 0
  After = HoldsTaken k.after (size_in kind t.after) settings new.kv.number new.next_tx

  -- the new image is one of the core as it is
  handed_image : (hands : Hands kind t k settings old) → IsImageWith (size_in kind t.after) settings old.kv.number old.next_tx hands.bytes
  handed_image hands =
      let save = hands.image in
      let kept : IsKept old.kv settings old.next_tx hands.bytes =
      is_kept old.kv settings old.next_tx hands.bytes save limits few next (stands_savable settings.region told old.next_tx 0 (metadata_now old.kv) m.now
      (st.later old.next_tx (omega arith)) old.next_tx begun_one.begun st.before) in
      let same : save.rows ≡ kept.rows = same_rows save.rows kept.rows hands.bytes save.text kept.text in
      let pointers : are_inside (size_in kind t.before) save.rows ≡ true =
      rows_inside kind t.before settings (metadata_now old.kv) inside save.rows save.text.shape save.says (ap (λ h. h.servers) save.header) in
      record {
        rows = kept.rows;
        taken = taken_on (size_in kind t.before) (size_in kind t.after) grows hands.bytes kept.rows (record {
          text = kept.text;
          good = kept.good;
          tree = kept.tree;
          inside = subst (λ (x : ImageRows). are_inside (size_in kind t.before) x ≡ true) same pointers;
        });
        settings_are = record {
          servers = sym (ap (λ h. h.servers) kept.header);
          replicas = sym (ap (λ h. h.replicas) kept.header);
          region = sym (ap (λ h. h.region) kept.header);
        };
        installs = ap (λ h. h.installs) kept.header;
        next_tx = ap (λ h. h.next_tx) kept.header;
      }

  handed_taken : (hands : Hands kind t k settings old) → IsTakenFor (size_in kind t.after) settings new.kv.number new.next_tx hands.bytes
  handed_taken hands = inr (image_with
      (size_in kind t.after) settings old.kv.number old.next_tx new.kv.number new.next_tx hands.bytes rises.no_fewer rises.no_earlier (handed_image hands))

  stays_taken : (bytes : List ℕ) → IsTakenFor (size_in kind t.before) settings old.kv.number old.next_tx bytes
      → IsTakenFor (size_in kind t.after) settings new.kv.number new.next_tx bytes
  stays_taken bytes is =
      taken_for_on (size_in kind t.before) (size_in kind t.after)
      grows settings old.kv.number old.next_tx new.kv.number new.next_tx rises.no_fewer rises.no_earlier bytes is

  untouched_taken : k.untouched → Before → After
  untouched_taken untouched (bytes, held, is) = (bytes, ap (λ v. v.held) (keeper.same untouched) ∙ held, stays_taken bytes is)

  failed_taken : KeeperFailed kind t k settings old new → Before → After
  failed_taken failed (bytes, held, is) = ⊎_elim
      (λ stays. (bytes, stays, stays_taken bytes is))
      (λ (image, there, holds).
      let same : failed.hands.bytes ≡ image = handed_one failed.hands.bytes image there in
      (failed.hands.bytes, holds ∙ ap Some (sym same), handed_taken failed.hands))
      ((keeper.kept (failed.hands.bytes ∷ []) failed.hands.handed).bytes bytes held)

  save_taken : (Up : Type 0) (a : Answer) → SaveTurn Up old new a → KeeperTurn kind t k settings old new Event.Save a → k.before.tells ≡ true → Before → After
  save_taken Up (Answer.Saved n) turn did tells held = (did.hands.bytes, did.held tells, handed_taken did.hands)
  save_taken Up Answer.FaultSave turn (inl did) tells held = untouched_taken did.untouched held
  save_taken Up Answer.FaultSave turn (inr did) tells held = failed_taken did held
  save_taken Up a turn did tells held = absurd turn

  -- after `saved` the keeper holds the image of the core
  pub saved_now : (n : ℕ) → KeeperTurn kind t k settings old new Event.Save (Answer.Saved n) → k.before.tells ≡ true
      → HoldsWith k.after (size_in kind t.after) settings old.kv.number old.next_tx
  saved_now n did tells = (did.hands.bytes, did.held tells, handed_image did.hands)

-- up to numbers that are the same
pub numbers_on : (v : KeeperView) (size : ℕ → ℕ → ℕ) (settings : Settings) (n next n' next' : ℕ) → n' ≡ n → next' ≡ next → HoldsTaken v size settings n next
    → HoldsTaken v size settings n' next'
numbers_on v size settings n next n' next' same_n same_next (bytes, held, is) =
    (bytes, held, taken_for_on size size (λ k f. omega arith) settings n next n' next' (omega (arith, same_n)) (omega (arith, same_next)) bytes is)

-- each line
module _ {S : Type 0} (kind : StoreKind S) (t : Span S) (grows : (k f : ℕ) → size_in kind t.before k f ≤ size_in kind t.after k f) (k : KeeperSpan)
    (keeper : KeeperLaws k) (told : Told) (old new : CoreView) (m : Machine)
    (limits : AreSettings old.settings.servers old.settings.replicas old.settings.region) (sound : AreSound old.tables) (few : old.tables.kv.number ≤ 2 ^ 62)
    (next : old.tables.next_tx ≤ 2 ^ 62) (st : TablesStand old.settings.region told old.tables m)
    (inside : MapBytes (is_inside kind t.before old.settings) any_slice (metadata_now old.tables.kv)) (rises : Rises old.tables new.tables) (a : Answer) where
  other_taken : k.untouched → HoldsTaken k.before (size_in kind t.before) old.settings old.tables.kv.number old.tables.next_tx
      → HoldsTaken k.after (size_in kind t.after) old.settings new.tables.kv.number new.tables.next_tx
  other_taken untouched held = untouched_taken kind t grows k keeper old.settings old.tables new.tables told m limits sound few next st inside rises
      untouched held

  pub line_taken : (e : Event) → LineTurn kind t old new e a → KeeperTurn kind t k old.settings old.tables new.tables e a → k.before.tells ≡ true
      → HoldsTaken k.before (size_in kind t.before) old.settings old.tables.kv.number old.tables.next_tx
      → HoldsTaken k.after (size_in kind t.after) old.settings new.tables.kv.number new.tables.next_tx
  line_taken Event.Save turn did tells held = save_taken kind t grows k keeper old.settings old.tables new.tables told m limits sound few next st inside rises
      _ a turn.0 did tells held
  line_taken e turn did tells held = other_taken did held

  save_leaves : (b : Answer) → KeeperTurn kind t k old.settings old.tables new.tables Event.Save b → k.before.tells ≡ true
      → CoreLeaves kind (scene t.before k.before old) (scene t.after k.after new) Event.Save b
  save_leaves (Answer.Saved n) did tells = saved_now kind t grows k keeper old.settings old.tables new.tables told m limits sound few next st inside rises n
      did tells
  save_leaves b did tells = tt

  pub line_leaves : (e : Event) (b : Answer) → KeeperTurn kind t k old.settings old.tables new.tables e b → k.before.tells ≡ true
      → CoreLeaves kind (scene t.before k.before old) (scene t.after k.after new) e b
  line_leaves Event.Save b did tells = save_leaves b did tells
  line_leaves e b did tells = tt
