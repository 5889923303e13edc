-- A save keeps the tables sound, and what they stand for.
use Rattle.wtf_core.proofs.Common.{get, Contains, Contains-append_left, Contains-push, Answer, Tree, root_alone, Machine, saved, Told, metadata_at, Stands}
use Rattle.wtf_core.proofs.Common.{TellsOn, BesideView, TablesView, of_client, of_label, metadata_now, AreSound, IsImageTree, StandsForSlot, StandsForLabel}
use Rattle.wtf_core.proofs.Common.{TablesStand, with_image, only_image, Saves, SaveTurn, since_kept, touched_kept, job_upto, txn_on, untouched_same, slot_on}
use Rattle.wtf_core.proofs.Common.{untouched_job, job_on, label_on, before_same, image_on, Stands-later, ◌≡◌, ◌≤◌, ℕ, true, List, [], ◌∷◌, ◌++◌, refl, sym, ap}
use Rattle.wtf_core.proofs.Common.{◌∙◌, subst, inl, inr, ⊎_elim, true≢false, arith, added_cases, only_cases, Settings, StoreKind, SameLengths, Span, Event}
use Rattle.wtf_core.proofs.Common.{CoreView, no_load, AddsBytes, IsLine}

module _ (old new : TablesView) (now : BesideView) (sound : AreSound old) (saves : Saves old new now) where
  saves_more : old.next_tx ≤ new.next_tx
  saves_more = let next = saves.next_tx in omega (arith, next)

  saves_now : metadata_now new.kv ≡ metadata_now old.kv
  saves_now = ap (metadata_at new.kv) saves.number ∙ saves.maps old.kv.number (omega arith)

  module _ (size : ℕ) (told later : Told) (m : Machine) (st : TablesStand size told old m) (on : TellsOn told later) where
    trees_on : (tx : ℕ) → Stands size told tx 0 (metadata_now old.kv) m.now → Stands size later tx 0 (metadata_now new.kv) m.now
    trees_on tx s = subst (λ w. Stands size later tx 0 w m.now) (sym saves_now) (Stands-later told later on size tx 0 (metadata_now old.kv) m.now s)

    -- the image of the number is that of the tree now
    pub new_image : (more : List Tree) → Contains more m.now → IsImageTree size later new old.kv.number more
    new_image more listed =
        let same : metadata_at new.kv old.kv.number ≡ metadata_now old.kv = saves.maps old.kv.number (omega arith) in
        record {
          tree = m.now;
          listed = listed;
          before = before_same old.next_tx new.next_tx (metadata_now old.kv) (metadata_at new.kv old.kv.number) same saves_more st.before;
          stands = λ tx le. subst (λ w. Stands size later tx 0 w m.now) (sym same)
              (Stands-later told later on size tx 0 (metadata_now old.kv) m.now (st.later tx (let up = saves_more in omega (arith, up, le))));
        }

    -- and one of before is that of its tree
    pub old_image : (more : List Tree) (n : ℕ) → ((t : Tree) → Contains m.may_be_saved t → Contains more t) → Contains old.beside.images n
        → IsImageTree size later new n more
    old_image more n listed there =
        image_on size told later old new n m.may_be_saved more on (saves.maps n (sound.kept n there)) saves_more listed (st.images n there)

    -- they stand for the machine with other trees that may be saved
    pub saves_stand : (may : List Tree) → now.jobs ≡ old.beside.jobs → (now.none ≡ true → Contains may root_alone)
        → ((n : ℕ) → Contains now.images n → IsImageTree size later new n may) → TablesStand size later new (record m { may_be_saved = may })
    saves_stand may jobs none images = record {
      number = st.number ∙ sym saves.number;
      each = λ c. subst (λ l. StandsForSlot size later new.kv m.now (of_client l c) (get m.transactions c)) (sym saves.clients)
          (subst (λ o. StandsForSlot size later new.kv m.now (of_client old.clients c) o)
          (sym (untouched_same (get m.transactions c) (get m.transactions c) refl))
          (slot_on size told later old.kv new.kv m.now m.now [] (of_client old.clients c) (get m.transactions c)
          (λ x t is txn. txn_on size told later old.kv new.kv m.now m.now x t [] on (sound.each c x is).based saves.maps (trees_on x.tx txn.now)
          (since_kept old.kv new.kv x.tx x.at.base t.touched txn.since (sound.each c x is).based saves.maps saves.number saves.versions) txn) (st.each c)));
      jobs = λ j.
          let same : of_label new.beside.jobs j ≡ of_label old.beside.jobs j = ap (λ (b : BesideView). of_label b.jobs j) saves.beside
          ∙ ap (λ l. of_label l j) jobs in
          subst (λ s. StandsForLabel size later new.kv s (get m.jobs j)) (sym same)
          (subst (λ o. StandsForLabel size later new.kv (of_label old.beside.jobs j) o) (sym (untouched_job (get m.jobs j) (get m.jobs j) refl))
          (label_on size told later old.kv new.kv [] (of_label old.beside.jobs j) (get m.jobs j)
          (λ x t is job. job_on size told later old.kv new.kv x t [] on (saves.maps x.base (job_upto old j x sound is))
          (touched_kept old.kv new.kv x.base t.touched job.touched (job_upto old j x sound is) saves.maps saves.number saves.versions) job) (st.jobs j)));
      later = λ tx le. trees_on tx (st.later tx (let up = saves_more in omega (arith, up, le)));
      before = before_same old.next_tx new.next_tx (metadata_now old.kv) (metadata_now new.kv) saves_now saves_more st.before;
      none = λ is. none (sym (ap (λ (s : BesideView). s.none) saves.beside) ∙ is);
      images = λ n there. images n (subst (λ (s : BesideView). Contains s.images n) saves.beside there);
    }

module _ (Up : Type 0) (old new : TablesView) (sound : AreSound old) where
  -- and they stand for the machine that has saved
  pub save_stands : (size : ℕ) (told later : Told) (m : Machine) (a : Answer) → TablesStand size told old m → TellsOn told later → SaveTurn Up old new a
      → TablesStand size later new (saved m a)
  save_stands size told later m (Answer.Saved n) st on (is, up, saves) =
      saves_stand old new (only_image old.beside n) sound saves size told later m st on (m.now ∷ []) refl
      (λ never. absurd (true≢false (sym never)))
      (λ k there. subst (λ j. IsImageTree size later new j (m.now ∷ [])) (sym is ∙ only_cases old.beside n k there)
      (new_image old new (only_image old.beside n) sound saves size told later m st on (m.now ∷ []) (Contains-push [] m.now)))
  save_stands size told later m Answer.FaultSave st on (inl saves) =
      let more : List Tree = m.may_be_saved ++ m.now ∷ [] in
      saves_stand old new old.beside sound saves size told later m st on more refl
      (λ none. Contains-append_left m.may_be_saved (m.now ∷ []) root_alone (st.none none))
      (λ k there. old_image old new old.beside sound saves size told later m st on more k
      (λ t listed. Contains-append_left m.may_be_saved (m.now ∷ []) t listed) there)
  save_stands size told later m Answer.FaultSave st on (inr saves) =
      let more : List Tree = m.may_be_saved ++ m.now ∷ [] in
      let now : BesideView = with_image old.beside old.kv.number in
      saves_stand old new now sound saves size told later m st on more refl
      (λ none. Contains-append_left m.may_be_saved (m.now ∷ []) root_alone (st.none none))
      (λ k there. ⊎_elim
      (λ was. old_image old new now sound saves size told later m st on more k (λ t listed. Contains-append_left m.may_be_saved (m.now ∷ []) t listed) was)
      (λ same. subst (λ j. IsImageTree size later new j more) same
      (new_image old new now sound saves size told later m st on more (Contains-push m.may_be_saved m.now))) (added_cases old.beside old.kv.number k there))
  save_stands size told later m a st on turn = absurd turn

-- ---- a line of a save adds no byte to the stores
-- it adds no byte
save_lengths : {S : Type 0} (kind : StoreKind S) (t : Span S) (settings : Settings) (Up : Type 0) (old new : TablesView) (a : Answer) → SaveTurn Up old new a
    → AddsBytes kind t settings no_load a → SameLengths kind t.before t.after
save_lengths kind t settings Up old new (Answer.Saved n) turn adds = adds
save_lengths kind t settings Up old new Answer.FaultSave turn adds = adds
save_lengths kind t settings Up old new a turn adds = absurd turn

pub line_lengths : {S : Type 0} (kind : StoreKind S) (t : Span S) (settings : Settings) (old new : CoreView) (a : Answer)
    → IsLine kind t old new Event.Save a → AddsBytes kind t settings no_load a → SameLengths kind t.before t.after
line_lengths kind t settings old new a line adds = save_lengths kind t settings _ old.tables line.answered.tables a line.turn.0 adds
