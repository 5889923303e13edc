-- What a keeper holds goes on standing for one of the trees that the machine may have saved.
use Rattle.wtf_core.proofs.Common.{Contains, Settings, ImageRows, text_some, says_all, CoreView, AreSound, SaveTurn, LineTurn, IsImageAt, HoldsKept, HoldsTree}
use Rattle.wtf_core.proofs.Common.{option_map, StoreKind, root_alone, TablesView, TablesStand, KeeperSpan, KeeperTurn, kept_pinned, pinned_live, KeepsImages, ℕ}
use Rattle.wtf_core.proofs.Common.{Contains-append_left, Contains-push, byte_at, with_job-rest, put_in_place-rest, scanning-rest, same_optional, stands_savable}
use Rattle.wtf_core.proofs.Common.{AreSettings, dropped-rest, scanned-rest, metadata_at, metadata_now, KeeperFailed, IsImageOfTree, IsImageOfOne, Stands-later}
use Rattle.wtf_core.proofs.Common.{Span, Key, Tree, Told, Map, ◌≡◌, ◌≢◌, ◌≤◌, ◌^◌, true, List, [], ◌∷◌, ◌++◌, Some, refl, sym, ap, ◌∙◌, inl, inr}
use Rattle.wtf_core.proofs.Common.{Answer, Event, Machine, after, saved, Stands, TellsOn, IsKept, plain, row_at, is_kept, Hands, IsHeldBy, subst, ⊎_elim, arith}
use Rattle.wtf_core.proofs.{Moves.GoesLive, Moves.goes_live, Moves.line_moves, Holding.KeeperLaws, Holding.handed_one, Stamped.event_stamped, Taking.same_rows}

-- ---- only a save changes the trees that may be saved
event_may : (m : Machine) (e : Event) (a : Answer) → e ≢ Event.Save → (after m e a).may_be_saved ≡ m.may_be_saved
event_may m (Event.Client c v) a ne = (event_stamped m (Event.Client c v) a tt tt).may ne
event_may m (Event.Plan j kind p r) a ne = ap (λ (x : Machine). x.may_be_saved) (with_job-rest m j kind p r a)
event_may m (Event.Put j) a ne = ap (λ (x : Machine). x.may_be_saved) (put_in_place-rest m j a)
event_may m (Event.DropJob j) a ne = ap (λ (x : Machine). x.may_be_saved) (dropped-rest m j a)
event_may m Event.Scan a ne = ap (λ (x : Machine). x.may_be_saved) (scanning-rest m a)
event_may m (Event.Piece k) a ne = ap (λ (x : Machine). x.may_be_saved) (scanned-rest m a)
event_may m (Event.Down k) a ne = (event_stamped m (Event.Down k) a tt tt).may ne
event_may m (Event.Up k) a ne = (event_stamped m (Event.Up k) a tt tt).may ne
event_may m Event.Save a ne = absurd (ne refl)
event_may m e a ne = refl

-- ---- the trees of images
module _ (told later : Told) (on : TellsOn told later) where
  image_later : (bytes : List ℕ) (t : Tree) → IsImageOfTree told bytes t → IsImageOfTree later bytes t
  image_later bytes t h = record {
    rows = h.rows;
    map = h.map;
    text = h.text;
    says = h.says;
    stands = λ tx le. Stands-later told later on h.rows.header.region tx 0 h.map t (h.stands tx le);
  }

  one_later : (bytes : List ℕ) (may more : List Tree) → ((t : Tree) → Contains may t → Contains more t) → IsImageOfOne told bytes may
      → IsImageOfOne later bytes more
  one_later bytes may more on_list (inl (empty, there)) = inl (empty, on_list root_alone there)
  one_later bytes may more on_list (inr (t, there, image)) = inr (t, on_list t there, image_later bytes t image)

module _ {S : Type 0} (kind : StoreKind S) (span : Span S) (k : KeeperSpan) (laws : KeeperLaws k) (settings : Settings) (old new : TablesView)
    (told later : Told) (on : TellsOn told later) (m : Machine) (limits : AreSettings settings.servers settings.replicas settings.region)
    (begun_one : AreSound old) (few : old.kv.number ≤ 2 ^ 62) (next : old.next_tx ≤ 2 ^ 62) (st : TablesStand settings.region told old m) where
  -- the new image is that of the tree now
  handed_tree : (hands : Hands kind span k settings old) → IsImageOfTree later hands.bytes m.now
  handed_tree hands =
      let kept : IsKept old.kv settings old.next_tx hands.bytes =
      is_kept old.kv settings old.next_tx hands.bytes hands.image limits few next (stands_savable settings.region told old.next_tx 0 (metadata_now old.kv) m.now
      (st.later old.next_tx (omega arith)) old.next_tx begun_one.begun st.before) in
      let region : kept.rows.header.region ≡ settings.region = ap (λ h. h.region) kept.header in
      let begins : kept.rows.header.next_tx ≡ old.next_tx = ap (λ h. h.next_tx) kept.header in
      record {
        rows = kept.rows;
        map = metadata_now old.kv;
        text = kept.text;
        says = λ q. sym (kept.map q);
        stands = λ tx le. subst (λ b. Stands b later tx 0 (metadata_now old.kv) m.now) (sym region)
            (Stands-later told later on settings.region tx 0 (metadata_now old.kv) m.now (st.later tx (subst (λ n. n ≤ tx) begins le)));
      }

  untouched_tree : (more : List Tree) → ((t : Tree) → Contains m.may_be_saved t → Contains more t) → k.untouched → HoldsTree k.before told m.may_be_saved
      → HoldsTree k.after later more
  untouched_tree more listed untouched (bytes, held, is) =
      (bytes, ap (λ v. v.held) (laws.same untouched) ∙ held, one_later told later on bytes m.may_be_saved more listed is)

  failed_tree : KeeperFailed kind span k settings old new → HoldsTree k.before told m.may_be_saved → HoldsTree k.after later (m.may_be_saved ++ m.now ∷ [])
  failed_tree failed (bytes, held, is) = ⊎_elim
      (λ stays. (
        bytes,
        stays,
        one_later told later on bytes m.may_be_saved (m.may_be_saved ++ m.now ∷ [])
            (λ t there. Contains-append_left m.may_be_saved (m.now ∷ []) t there) is,
      ))
      (λ (image, there, holds).
      let same : failed.hands.bytes ≡ image = handed_one failed.hands.bytes image there in
      (failed.hands.bytes, holds ∙ ap Some (sym same), inr (m.now, Contains-push m.may_be_saved m.now, handed_tree failed.hands)))
      ((laws.kept (failed.hands.bytes ∷ []) failed.hands.handed).bytes bytes held)

  save_tree : (Up : Type 0) (a : Answer) → SaveTurn Up old new a → KeeperTurn kind span k settings old new Event.Save a → k.before.tells ≡ true
      → HoldsTree k.before told m.may_be_saved → HoldsTree k.after later (saved m a).may_be_saved
  save_tree Up (Answer.Saved n) turn did tells held = (did.hands.bytes, did.held tells, inr (m.now, Contains-push [] m.now, handed_tree did.hands))
  save_tree Up Answer.FaultSave turn (inl did) tells held = untouched_tree (m.may_be_saved ++ m.now ∷ [])
      (λ t there. Contains-append_left m.may_be_saved (m.now ∷ []) t there) did.untouched held
  save_tree Up Answer.FaultSave turn (inr did) tells held = failed_tree did held
  save_tree Up a turn did tells held = absurd turn

-- ---- a line that leaves the keeper
module _ {S : Type 0} (kind : StoreKind S) (span : Span S) (old new : CoreView) (m : Machine) (begun : AreSound old.tables)
    (st : TablesStand old.settings.region (byte_at kind span.before) old.tables m) (keeps : KeepsImages kind span old new)
    (goes : GoesLive old.tables new.tables) where
  abbrev told : Told
  told = byte_at kind span.before

  abbrev later : Told
  later = byte_at kind span.after

  -- what an image at a number says of each key is what the map there has
  said_at : (n : ℕ) → Contains old.tables.beside.images n → (bytes : List ℕ) (at : IsImageAt old.tables old.settings n bytes) (q : Key)
      → row_at at.rows q ≡ option_map plain (metadata_at old.tables.kv n q)
  said_at n there bytes at q =
      let is = st.images n there in
      let next : ℕ = old.tables.next_tx in
      let w : Map = metadata_at old.tables.kv n in
      says_all old.settings.region next (λ p. option_map plain (w p))
      (stands_savable old.settings.region told next 0 w is.tree (is.stands next (omega arith)) next begun.begun is.before) at.rows at.text.shape at.says q

  -- so the tree of the image at that number is what it was
  image_kept : (n : ℕ) → Contains old.tables.beside.images n → (bytes : List ℕ) → IsImageAt old.tables old.settings n bytes → (t : Tree)
      → IsImageOfTree told bytes t → IsImageOfTree later bytes t
  image_kept n there bytes at t image =
      let same : at.rows ≡ image.rows = same_rows at.rows image.rows bytes at.text image.text in
      let map : image.map ≡ metadata_at old.tables.kv n =
      λ i q. same_optional (image.map q) (metadata_at old.tables.kv n q)
      (image.says q ∙ ap (λ (x : ImageRows). row_at x q) (sym same) ∙ said_at n there bytes at q) i in
      let region : image.rows.header.region ≡ old.settings.region =
      ap (λ (x : ImageRows). x.header.region) (sym same) ∙ ap (λ h. h.region) at.header in
      let still : Contains new.tables.beside.images n = subst (λ l. Contains l n) (sym goes.saved.0) there in
      let maps : metadata_at new.tables.kv n ≡ metadata_at old.tables.kv n =
      goes.maps n (pinned_live old.tables.kv n (kept_pinned old.tables n begun there)) in
      record {
        rows = image.rows;
        map = image.map;
        text = image.text;
        says = image.says;
        stands = λ tx le.
            subst (λ b. Stands b later tx 0 image.map t) (sym region) (subst (λ w. Stands old.settings.region later tx 0 w t) (maps ∙ sym map)
            (keeps n there still tx t (subst (λ w. Stands old.settings.region told tx 0 w t) map
            (subst (λ b. Stands b told tx 0 image.map t) region (image.stands tx le)))));
      }

  -- and so is that of what the keeper holds
  pub kept_tree : (k : KeeperSpan) → KeeperLaws k → (may more : List Tree) → ((t : Tree) → Contains may t → Contains more t) → k.untouched
      → HoldsKept k.before old.settings old.tables → HoldsTree k.before told may → HoldsTree k.after later more
  kept_tree k laws may more listed untouched (kept, has, at) (bytes, held, is) =
      let same : kept ≡ bytes = let both : Some kept ≡ Some bytes = sym has ∙ held in cc in
      (bytes, ap (λ v. v.held) (laws.same untouched) ∙ held, by is (subst (λ l. IsHeldBy old.tables old.settings l) same at))
    where
      by : IsImageOfOne told bytes may → IsHeldBy old.tables old.settings bytes → IsImageOfOne later bytes more
      by (inl (empty, there)) at = inl (empty, listed root_alone there)
      by (inr (t, there, image)) (inl (empty, none)) = absurd (text_some image.rows bytes image.text.text empty)
      by (inr (t, there, image)) (inr (n, here, at)) = inr (t, listed t there, image_kept n here bytes at t image)

-- each line
module _ {S : Type 0} (kind : StoreKind S) (span : Span S) (k : KeeperSpan) (laws : KeeperLaws k) (old new : CoreView) (m : Machine)
    (limits : AreSettings old.settings.servers old.settings.replicas old.settings.region) (sound : AreSound old.tables) (few : old.tables.kv.number ≤ 2 ^ 62)
    (next : old.tables.next_tx ≤ 2 ^ 62)
    (st : TablesStand old.settings.region (byte_at kind span.before) old.tables m) (keeps : KeepsImages kind span old new) (a : Answer) where
  other_tree : (e : Event) → e ≢ Event.Save → LineTurn kind span old new e a → k.untouched → HoldsKept k.before old.settings old.tables
      → HoldsTree k.before (byte_at kind span.before) m.may_be_saved → HoldsTree k.after (byte_at kind span.after) (after m e a).may_be_saved
  other_tree e ne turn untouched kept held =
      kept_tree kind span old new m sound st keeps (goes_live old.tables new.tables e a (line_moves kind span old new sound a e turn) ne)
      k laws m.may_be_saved (after m e a).may_be_saved
      (λ t there. subst (λ l. Contains l t) (sym (event_may m e a ne)) there) untouched kept held

  pub line_tree : (e : Event) → (((j : ℕ) → e ≢ Event.Collect j) → TellsOn (byte_at kind span.before) (byte_at kind span.after))
      → LineTurn kind span old new e a → KeeperTurn kind span k old.settings old.tables new.tables e a
      → k.before.tells ≡ true → HoldsKept k.before old.settings old.tables
      → HoldsTree k.before (byte_at kind span.before) m.may_be_saved → HoldsTree k.after (byte_at kind span.after) (after m e a).may_be_saved
  line_tree Event.Save on turn did tells kept held = save_tree kind span k laws old.settings old.tables new.tables (byte_at kind span.before)
      (byte_at kind span.after) (on (λ j is. absurd (cc))) m limits sound few next st _ a turn.0 did tells held
  line_tree e on turn did tells kept held = other_tree e (λ is. absurd (cc)) turn did kept held
