-- What a line of a job leaves to the clients and to the other jobs.
use Rattle.wtf_clients.proofs.Common.{if◌then◌else◌, Contains, get, option_map, cases_Bool, eqb-true, times_pinned, any-count, count-any, Item, root_alone}
use Rattle.wtf_clients.proofs.Common.{Machine, touch, touch_job, Told, Stands, TellsOn, KeepsMaps, AreBefore, JobView, BesideView, TablesView, of_client}
use Rattle.wtf_clients.proofs.Common.{of_label, with_labels, metadata_now, all_owned, planned, all_kept, AreSound, StandsForSlot, StandsForLabel, TablesStand}
use Rattle.wtf_clients.proofs.Common.{SinceBase, HasForm, KeepsOthers, ◌≡◌, ◌≢◌, ◌≤◌, ◌<◌, ℕ, ◌+◌, nat_eq, List, ◌++◌, Option, None, Some, refl, sym, ap, ◌∙◌}
use Rattle.wtf_clients.proofs.Common.{subst, ⊎_elim, arith}
use Rattle.wtf_clients.proofs.{Pins.number_cases, Pins.base_pinned, Images.image_on, SinceLaws.TouchedSince, Frames.open_on, Frames.txn_on, Frames.slot_on}
use Rattle.wtf_clients.proofs.{Frames.job_on, Frames.label_on, JobPins.job_upto}

-- What a line changed of the tables: label j has now this job, or none; the number did not fall, and each map up to it stays.
pub record JobTurned (old new : TablesView) (j : ℕ) (now : Option JobView) : Type 0 where
  pub keeps : KeepsOthers old new j now
  pub later : old.kv.number ≤ new.kv.number
  pub maps : KeepsMaps old.kv new.kv
  pub pins : (n : ℕ) → times_pinned new.kv n + planned n (of_label old.beside.jobs j) ≡ times_pinned old.kv n + planned n now
  pub based : (x : JobView) → now ≡ Some x → x.base ≤ new.kv.number
  pub formed : (x : JobView) → now ≡ Some x → HasForm x.target x.value

module _ (old new : TablesView) (j : ℕ) (now : Option JobView) (sound : AreSound old) (turned : JobTurned old new j now) where
  job_clients : (c : ℕ) → of_client new.clients c ≡ of_client old.clients c
  job_clients c = ap (λ l. of_client l c) turned.keeps.clients

  job_images : new.beside.images ≡ old.beside.images
  job_images = ap (λ (b : BesideView). b.images) turned.keeps.beside

  job_none : new.beside.none ≡ old.beside.none
  job_none = ap (λ (b : BesideView). b.none) turned.keeps.beside

  job_more : old.next_tx ≤ new.next_tx
  job_more = let next = turned.keeps.next_tx in omega (arith, next)

  -- a number is pinned as often as it is owned
  job_pins : (n : ℕ) → times_pinned new.kv n ≡ all_owned n new.clients + all_kept n new.beside
  job_pins n =
      let moved = turned.pins n in
      let set = turned.keeps.jobs.pins n in
      let was = sound.pins n in
      let owned : all_owned n new.clients ≡ all_owned n old.clients = ap (all_owned n) turned.keeps.clients in
      let kept : all_kept n new.beside ≡ all_kept n (with_labels old.beside new.beside.jobs new.beside.scan_jobs) = ap (all_kept n) turned.keeps.beside in
      omega (arith, moved, set, was, owned, kept)

  -- what is pinned was so, or is the base of the job
  job_upto_by : (n : ℕ) (s : Option JobView) → now ≡ s → 0 < times_pinned new.kv n → n ≤ new.kv.number
  job_upto_by n None is some =
      let moved = turned.pins n in
      let own : planned n now ≡ 0 = ap (planned n) is in
      let le = sound.upto n (any-count n old.kv.pins (omega (arith, moved, own, some))) in
      let up = turned.later in
      omega (arith, le, up)
  job_upto_by n (Some x) is some = ⊎_elim
      (λ here.
      let same : n ≡ x.base = eqb-true n x.base here in
      let based = turned.based x is in
      omega (arith, same, based))
      (λ other.
      let moved = turned.pins n in
      let own : planned n now ≡ 0 = ap (planned n) is ∙ ap (λ b. if b then 1 else 0) other in
      let le = sound.upto n (any-count n old.kv.pins (omega (arith, moved, own, some))) in
      let up = turned.later in
      omega (arith, le, up))
      (cases_Bool (nat_eq n x.base))

  image_before : (n : ℕ) → Contains new.beside.images n → Contains old.beside.images n
  image_before n here = subst (λ l. Contains l n) job_images here

  -- the tables stay sound
  pub job_sound : AreSound new
  job_sound = record {
    begun = let was = sound.begun in let more = job_more in omega (arith, was, more);
    each = λ c x is.
        let was : of_client old.clients c ≡ Some x = sym (job_clients c) ∙ is in
        open_on old.kv new.kv old.next_tx new.next_tx x (sound.each c x was) turned.later turned.maps job_more
        (base_pinned new.kv new.clients new.beside c x job_pins is);
    pins = job_pins;
    upto = λ n pinned. job_upto_by n now refl (count-any n new.kv.pins pinned);
    kept = λ n here. let was = sound.kept n (image_before n here) in let up = turned.later in omega (arith, was, up);
    apart = λ c d x y is its same. sound.apart c d x y (sym (job_clients c) ∙ is) (sym (job_clients d) ∙ its) same;
    formed = λ l x is. ⊎_elim
        (λ same. turned.formed x (sym turned.keeps.jobs.is ∙ ap (of_label new.beside.jobs) (sym same) ∙ is))
        (λ other. sound.formed l x (sym (turned.keeps.jobs.others l other) ∙ is))
        (number_cases l j);
  }

  -- And they stand for the machine, where the label's own job does, the tree stays, and the transactions and the other jobs see these items
  -- touched.
  module _ (size : ℕ) (told later : Told) (m after : Machine) (more : List Item) (st : TablesStand size told old m) (on : TellsOn told later) where
    pub job_stands : after.number ≡ new.kv.number → after.now ≡ m.now → after.may_be_saved ≡ m.may_be_saved
        → ((c : ℕ) → get after.transactions c ≡ option_map (touch more) (get m.transactions c))
        → ((l : ℕ) → l ≢ j → get after.jobs l ≡ option_map (touch_job more) (get m.jobs l))
        → ((tx : ℕ) → Stands size told tx 0 (metadata_now old.kv) m.now → Stands size later tx 0 (metadata_now new.kv) m.now)
        → ((tx base : ℕ) (items : List Item) → base ≤ old.kv.number → Stands size told tx 0 (metadata_now old.kv) m.now → SinceBase old.kv tx base items
        → SinceBase new.kv tx base (items ++ more))
        → ((base : ℕ) (items : List Item) → base ≤ old.kv.number → TouchedSince old.kv base items → TouchedSince new.kv base (items ++ more))
        → AreBefore new.next_tx (metadata_now new.kv) → StandsForLabel size later new.kv now (get after.jobs j) → TablesStand size later new after
    job_stands number tree may transactions others trees since touched before own =
        let now_tree : (tx : ℕ) → Stands size told tx 0 (metadata_now old.kv) m.now → Stands size later tx 0 (metadata_now new.kv) after.now = λ tx was.
        subst (λ t. Stands size later tx 0 (metadata_now new.kv) t) (sym tree) (trees tx was) in
        record {
          number = number;
          each = λ c.
              subst (λ s. StandsForSlot size later new.kv after.now s (get after.transactions c)) (sym (job_clients c))
              (subst (λ o. StandsForSlot size later new.kv after.now (of_client old.clients c) o) (sym (transactions c))
              (slot_on size told later old.kv new.kv m.now after.now more (of_client old.clients c) (get m.transactions c)
              (λ x t is txn. txn_on size told later old.kv new.kv m.now after.now x t more on (sound.each c x is).based turned.maps (now_tree x.tx txn.now)
              (since x.tx x.at.base t.touched (sound.each c x is).based txn.now txn.since) txn) (st.each c)));
          jobs = λ l. ⊎_elim
              (λ same.
              subst (λ k. StandsForLabel size later new.kv (of_label new.beside.jobs k) (get after.jobs k)) (sym same)
              (subst (λ s. StandsForLabel size later new.kv s (get after.jobs j)) (sym turned.keeps.jobs.is) own))
              (λ ne.
              subst (λ s. StandsForLabel size later new.kv s (get after.jobs l)) (sym (turned.keeps.jobs.others l ne))
              (subst (λ o. StandsForLabel size later new.kv (of_label old.beside.jobs l) o) (sym (others l ne))
              (label_on size told later old.kv new.kv more (of_label old.beside.jobs l) (get m.jobs l)
              (λ x t is job. job_on size told later old.kv new.kv x t more on (turned.maps x.base (job_upto old l x sound is))
              (touched x.base t.touched (job_upto old l x sound is) job.touched) job) (st.jobs l)))) (number_cases l j);
          later = λ tx le. now_tree tx (st.later tx (let up = job_more in omega (arith, up, le)));
          before = before;
          none = λ is. subst (λ l. Contains l root_alone) (sym may) (st.none (sym job_none ∙ is));
          images = λ n there.
              let was : Contains old.beside.images n = image_before n there in
              image_on size told later old new n m.may_be_saved after.may_be_saved on (turned.maps n (sound.kept n was)) job_more
              (λ t listed. subst (λ l. Contains l t) (sym may) listed) (st.images n was);
        }
