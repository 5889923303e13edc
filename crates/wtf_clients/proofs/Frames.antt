-- What a line of one client leaves to the others.
use Rattle.wtf_clients.proofs.Common.{IsTrue, is_pinned, any-count, count-any, root_alone, touch_job, is_listed, MaybeBytes, BesideView, TablesView, append-nil}
use Rattle.wtf_clients.proofs.Common.{if◌then◌else◌, get, times_pinned, KeepsVersions, target_region, metadata_now, StandsForTxn, StandsForSlot, StandsForLabel}
use Rattle.wtf_clients.proofs.Common.{cases_Bool, option_map, Store, Transaction, metadata_at, sound_later, sound_along, KeepsRegion, StandsForJob, TablesStand}
use Rattle.wtf_clients.proofs.Common.{eqb-true, Contains, Machine, is_told, KeepsMaps, AreBefore, of_client, of_label, all_owned, all_kept, AreSound, SinceBase}
use Rattle.wtf_clients.proofs.Common.{Key, Item, Tree, Job, Told, Map, Sets, ◌≡◌, ◌≢◌, ◌≤◌, ◌<◌, ℕ, ◌+◌, List, ◌++◌, None, Some, refl, sym, ap, ◌∙◌, ◌⊎◌}
use Rattle.wtf_clients.proofs.Common.{Value, touch, AllFit, LeadsTo, Stands, TellsOn, TxnView, JobView, owned, IsOpen, nat_eq, [], Option, subst, ⊎_elim, arith}
use Rattle.wtf_clients.proofs.{Pins.number_cases, Pins.base_pinned, Images.before_same, Images.image_on, SinceLaws.TouchedSince, SinceLaws.since_kept}
use Rattle.wtf_clients.proofs.{SinceLaws.touched_kept, JobKeeping.known_later, JobKeeping.keeps_later, JobPins.job_upto, Later.Stands-later}

-- What a line of client c changed of the tables: its own transaction is now this one, or none. It is the one that it was by
-- its number, or the one that begins next.
pub record Turned (old new : TablesView) (c : ℕ) (now : Option TxnView) : Type 0 where
  pub sets : Sets c now old.clients new.clients
  pub later : old.kv.number ≤ new.kv.number
  pub maps : KeepsMaps old.kv new.kv
  pub more : old.next_tx ≤ new.next_tx
  pub pins : (n : ℕ) → times_pinned new.kv n + owned n (of_client old.clients c) ≡ times_pinned old.kv n + owned n now
  pub own : (x : TxnView) → now ≡ Some x → IsOpen new.kv new.next_tx x
  pub beside : new.beside ≡ old.beside
  pub whose : (x : TxnView) → now ≡ Some x → (x.tx ≡ old.next_tx) ⊎ ((y : TxnView) × (of_client old.clients c ≡ Some y) × (x.tx ≡ y.tx))

-- a transaction that is open stays so over a store in which its base is pinned and shows the same
pub open_on : (kv after : Store Key Value) (next more : ℕ) (x : TxnView) → IsOpen kv next x → kv.number ≤ after.number → KeepsMaps kv after → next ≤ more
    → IsTrue (is_pinned after x.at.base) → IsOpen after more x
open_on kv after next more x is later maps up pinned =
    let based = is.based in
    let older = is.older in
    record {
      going = is.going;
      fit =
          record { pinned = pinned; fits = subst (λ w. AllFit x.at.changes w) (sym (maps x.at.base based)) is.fit.fits; log = is.fit.log; most = is.fit.most };
      based = omega (arith, based, later);
      older = omega (arith, older, up);
    }

-- And so does what it stands for, with the map now and the tree now that come, and what others touch.
pub txn_on : (size : ℕ) (told later : Told) (kv after : Store Key Value) (was is : Tree) (x : TxnView) (t : Transaction) (more : List Item) → TellsOn told later
    → x.at.base ≤ kv.number → KeepsMaps kv after → Stands size later x.tx 0 (metadata_now after) is → SinceBase after x.tx x.at.base (t.touched ++ more)
    → StandsForTxn size told kv was x t → StandsForTxn size later after is x (touch more t)
txn_on size told later kv after was is x t more on based maps now since st =
    let same : metadata_at after x.at.base ≡ metadata_at kv x.at.base = maps x.at.base based in
    record {
      sound = sound_later size after told later x t.ops on (sound_along size kv after told x t.ops same st.sound);
      base = st.base;
      shown = st.shown;
      replayed = st.replayed;
      tree = Stands-later told later on size x.tx 0 (metadata_at after x.at.base) t.tree (subst (λ w. Stands size told x.tx 0 w t.tree) (sym same) st.tree);
      now = now;
      since = since;
    }

-- where others touch nothing, a client has what it had
pub untouched_same : (o p : Option Transaction) → p ≡ o → p ≡ option_map (touch []) o
untouched_same None p same = same
untouched_same (Some t) p same = same ∙ ap (λ l. Some (record t { touched = l })) (sym (append-nil t.touched))

-- and so does what a client has, a transaction or none
pub slot_on : (size : ℕ) (told later : Told) (kv after : Store Key Value) (was is : Tree) (more : List Item) (s : Option TxnView) (o : Option Transaction)
    → ((x : TxnView) (t : Transaction) → s ≡ Some x → StandsForTxn size told kv was x t → StandsForTxn size later after is x (touch more t))
    → StandsForSlot size told kv was s o → StandsForSlot size later after is s (option_map (touch more) o)
slot_on size told later kv after was is more None None f st = tt
slot_on size told later kv after was is more None (Some t) f st = absurd st
slot_on size told later kv after was is more (Some x) None f st = absurd st
slot_on size told later kv after was is more (Some x) (Some t) f st = f x t refl st

-- ---- jobs

-- where others touch nothing, a label has what it had
pub untouched_job : (o p : Option Job) → p ≡ o → p ≡ option_map (touch_job []) o
untouched_job None p same = same
untouched_job (Some t) p same = same ∙ ap (λ l. Some (record t { touched = l })) (sym (append-nil t.touched))

-- a job goes on to stand for the machine's, with what others touch
pub job_on : (size : ℕ) (told later : Told) (kv after : Store Key Value) (x : JobView) (t : Job) (more : List Item) → TellsOn told later
    → metadata_at after x.base ≡ metadata_at kv x.base → TouchedSince after x.base (t.touched ++ more) → StandsForJob size told kv x t
    → StandsForJob size later after x (touch_job more t)
job_on size told later kv after x t more on same touched st = record {
  path = st.path;
  region = st.region;
  kind = st.kind;
  base = st.base;
  leads = subst (λ (w : Map). LeadsTo w x.path x.target.inode) (sym same) st.leads;
  known = subst (λ (w : Map). MaybeBytes (is_told later) (is_listed size later) (target_region w x.target)) (sym same)
      (known_later told later on size (target_region (metadata_at kv x.base) x.target) st.known);
  keeps = subst (λ (w : Map). KeepsRegion size later (target_region w x.target) x.value) (sym same)
      (keeps_later told later on size (target_region (metadata_at kv x.base) x.target) x.value st.known st.keeps);
  touched = touched;
}

-- and so does what a label has
pub label_on : (size : ℕ) (told later : Told) (kv after : Store Key Value) (more : List Item) (s : Option JobView) (o : Option Job)
    → ((x : JobView) (t : Job) → s ≡ Some x → StandsForJob size told kv x t → StandsForJob size later after x (touch_job more t))
    → StandsForLabel size told kv s o → StandsForLabel size later after s (option_map (touch_job more) o)
label_on size told later kv after more None None f st = tt
label_on size told later kv after more None (Some t) f st = absurd st
label_on size told later kv after more (Some x) None f st = absurd st
label_on size told later kv after more (Some x) (Some t) f st = f x t refl st

module _ (old new : TablesView) (c : ℕ) (now : Option TxnView) (sound : AreSound old) (turned : Turned old new c now) where
  -- a number is pinned as often as it is owned
  pins_are : (n : ℕ) → times_pinned new.kv n ≡ all_owned n new.clients + all_kept n new.beside
  pins_are n =
      let moved = turned.pins n in
      let set = turned.sets.pins n in
      let was = sound.pins n in
      let kept : all_kept n new.beside ≡ all_kept n old.beside = ap (all_kept n) turned.beside in
      omega (arith, moved, set, was, kept)

  -- an image that may be on the keeper was there before
  kept_before : (n : ℕ) → Contains new.beside.images n → Contains old.beside.images n
  kept_before n here = subst (λ (s : BesideView). Contains s.images n) turned.beside here

  -- no number that is pinned is of an install to come: it was pinned before, or is the base of the transaction
  upto_by : (n : ℕ) (s : Option TxnView) → now ≡ s → 0 < times_pinned new.kv n → n ≤ new.kv.number
  upto_by n None is some =
      let moved = turned.pins n in
      let own : owned n now ≡ 0 = ap (owned n) is in
      let le = sound.upto n (any-count n old.kv.pins (omega (arith, moved, own, some))) in
      let up = turned.later in
      omega (arith, le, up)
  upto_by n (Some x) is some = ⊎_elim
      (λ here.
      let same : n ≡ x.at.base = eqb-true n x.at.base here in
      let based = (turned.own x is).based in
      omega (arith, same, based))
      (λ other.
      let moved = turned.pins n in
      let own : owned n now ≡ 0 = ap (owned n) is ∙ ap (λ b. if b then 1 else 0) other in
      let le = sound.upto n (any-count n old.kv.pins (omega (arith, moved, own, some))) in
      let up = turned.later in
      omega (arith, le, up))
      (cases_Bool (nat_eq n x.at.base))

  upto_now : (n : ℕ) → IsTrue (is_pinned new.kv n) → n ≤ new.kv.number
  upto_now n pinned = upto_by n now refl (count-any n new.kv.pins pinned)

  kept_now : (n : ℕ) → Contains new.beside.images n → n ≤ new.kv.number
  kept_now n here =
      let was = sound.kept n (kept_before n here) in
      let up = turned.later in
      omega (arith, was, up)

  -- no other client has a transaction of the number that this one has now
  alone : (d : ℕ) (x y : TxnView) → d ≢ c → now ≡ Some x → of_client old.clients d ≡ Some y → x.tx ≢ y.tx
  alone d x y other is its same = ⊎_elim
      (λ next. let older = (sound.each d y its).older in absurd (omega (arith, next, same, older)))
      (λ was. other (sound.apart d c y was.0 its was.1 (sym same ∙ was.2)))
      (turned.whose x is)

  -- each transaction is open: the client's own by its turn, and the others as they were
  open_now : (d : ℕ) (x : TxnView) → of_client new.clients d ≡ Some x → IsOpen new.kv new.next_tx x
  open_now d x is = ⊎_elim
      (λ same. turned.own x (sym turned.sets.is ∙ ap (of_client new.clients) (sym same) ∙ is))
      (λ other.
      let was : of_client old.clients d ≡ Some x = sym (turned.sets.others d other) ∙ is in
      open_on old.kv new.kv old.next_tx new.next_tx x (sound.each d x was) turned.later turned.maps turned.more
      (base_pinned new.kv new.clients new.beside d x pins_are is)) (number_cases d c)

  -- and no two have one number
  apart_now : (d e : ℕ) (x y : TxnView) → of_client new.clients d ≡ Some x → of_client new.clients e ≡ Some y → x.tx ≡ y.tx → d ≡ e
  apart_now d e x y is its same = ⊎_elim
      (λ dc. ⊎_elim
      (λ ec. dc ∙ sym ec)
      (λ ec. absurd (alone e x y ec (sym turned.sets.is ∙ ap (of_client new.clients) (sym dc) ∙ is) (sym (turned.sets.others e ec) ∙ its) same))
      (number_cases e c))
      (λ dc. ⊎_elim
      (λ ec. absurd (alone d y x dc (sym turned.sets.is ∙ ap (of_client new.clients) (sym ec) ∙ its) (sym (turned.sets.others d dc) ∙ is) (sym same)))
      (λ ec. sound.apart d e x y (sym (turned.sets.others d dc) ∙ is) (sym (turned.sets.others e ec) ∙ its) same)
      (number_cases e c)) (number_cases d c)

-- the tables stay sound
pub sound_turned : (old new : TablesView) (c : ℕ) (now : Option TxnView) → AreSound old → Turned old new c now → AreSound new
sound_turned old new c now sound turned = record {
  begun = let was = sound.begun in let up = turned.more in omega (arith, was, up);
  each = open_now old new c now sound turned;
  pins = pins_are old new c now sound turned;
  upto = upto_now old new c now sound turned;
  kept = kept_now old new c now sound turned;
  apart = apart_now old new c now sound turned;
  formed = λ j x is. sound.formed j x (ap (λ (b : BesideView). of_label b.jobs j) (sym turned.beside) ∙ is);
}

-- And they stand for the machine, where the client's own transaction does, and the tree now, which no inode of a transaction
-- to come is in; and where the other transactions, and the jobs, see these items touched.
pub stands_turned : (size : ℕ) (told later : Told) (old new : TablesView) (m after : Machine) (c : ℕ) (now : Option TxnView) (more : List Item)
    → AreSound old → TablesStand size told old m → TellsOn told later → Turned old new c now
    → ((d : ℕ) → d ≢ c → get after.transactions d ≡ option_map (touch more) (get m.transactions d))
    → ((d : ℕ) (x : TxnView) (items : List Item) → d ≢ c → of_client old.clients d ≡ Some x → SinceBase old.kv x.tx x.at.base items
    → SinceBase new.kv x.tx x.at.base (items ++ more)) → ((j : ℕ) → get after.jobs j ≡ option_map (touch_job more) (get m.jobs j))
    → ((base : ℕ) (items : List Item) → base ≤ old.kv.number → TouchedSince old.kv base items → TouchedSince new.kv base (items ++ more))
    → after.number ≡ new.kv.number → after.may_be_saved ≡ m.may_be_saved → AreBefore new.next_tx (metadata_now new.kv)
    → StandsForSlot size later new.kv after.now now (get after.transactions c)
    → ((tx : ℕ) → ((x : TxnView) → of_client old.clients c ≡ Some x → tx ≢ x.tx) → Stands size told tx 0 (metadata_now old.kv) m.now
    → Stands size later tx 0 (metadata_now new.kv) after.now) → TablesStand size later new after
stands_turned size told later old new m after c now more sound st on turned others since jobs touched number may before here trees =
    let apart : (d : ℕ) (x y : TxnView) → d ≢ c → of_client old.clients d ≡ Some x → of_client old.clients c ≡ Some y → x.tx ≢ y.tx =
    λ d x y ne is its same. ne (sound.apart d c x y is its same) in
    let other : (d : ℕ) → d ≢ c → StandsForSlot size later new.kv after.now (of_client old.clients d) (option_map (touch more) (get m.transactions d)) = λ d ne.
    slot_on size told later old.kv new.kv m.now after.now more (of_client old.clients d) (get m.transactions d)
    (λ x t is txn. txn_on size told later old.kv new.kv m.now after.now x t more on (sound.each d x is).based turned.maps
    (trees x.tx (λ y its. apart d x y ne is its) txn.now) (since d x t.touched ne is txn.since) txn) (st.each d) in
    record {
      number = number;
      each = λ d. ⊎_elim
          (λ same.
          subst (λ k. StandsForSlot size later new.kv after.now (of_client new.clients k) (get after.transactions k)) (sym same)
          (subst (λ s. StandsForSlot size later new.kv after.now s (get after.transactions c)) (sym turned.sets.is) here))
          (λ ne.
          subst (λ s. StandsForSlot size later new.kv after.now s (get after.transactions d)) (sym (turned.sets.others d ne))
          (subst (λ o. StandsForSlot size later new.kv after.now (of_client old.clients d) o) (sym (others d ne)) (other d ne))) (number_cases d c);
      jobs = λ j.
          let same : of_label new.beside.jobs j ≡ of_label old.beside.jobs j = ap (λ (s : BesideView). of_label s.jobs j) turned.beside in
          subst (λ s. StandsForLabel size later new.kv s (get after.jobs j)) (sym same)
          (subst (λ o. StandsForLabel size later new.kv (of_label old.beside.jobs j) o) (sym (jobs j))
          (label_on size told later old.kv new.kv more (of_label old.beside.jobs j) (get m.jobs j)
          (λ x t is job. job_on size told later old.kv new.kv x t more on (turned.maps x.base (job_upto old j x sound is))
          (touched x.base t.touched (job_upto old j x sound is) job.touched) job) (st.jobs j)));
      later = λ tx le.
          let up = turned.more in
          trees tx (λ x is same. let older = (sound.each c x is).older in absurd (omega (arith, older, same, up, le))) (st.later tx (omega (arith, up, le)));
      before = before;
      none = λ is. subst (λ l. Contains l root_alone) (sym may) (st.none (sym (ap (λ (s : BesideView). s.none) turned.beside) ∙ is));
      images = λ n there.
          let was : Contains old.beside.images n = kept_before old new c now sound turned n there in
          image_on size told later old new n m.may_be_saved after.may_be_saved on (turned.maps n (sound.kept n was)) turned.more
          (λ t listed. subst (λ l. Contains l t) (sym may) listed) (st.images n was);
    }

-- So they do where nothing was installed, for a machine that differs in the client's own transaction alone.
pub stands_kept : (size : ℕ) (told later : Told) (old new : TablesView) (m after : Machine) (c : ℕ) (now : Option TxnView) → AreSound old
    → TablesStand size told old m → TellsOn told later → Turned old new c now → new.kv.number ≡ old.kv.number → KeepsVersions old.kv new.kv
    → ((d : ℕ) → d ≢ c → get after.transactions d ≡ get m.transactions d) → after.number ≡ m.number → after.now ≡ m.now → after.may_be_saved ≡ m.may_be_saved
    → after.jobs ≡ m.jobs → StandsForSlot size later new.kv after.now now (get after.transactions c) → TablesStand size later new after
stands_kept size told later old new m after c now sound st on turned number versions others number2 tree may jobs here =
    let same : metadata_now new.kv ≡ metadata_now old.kv = ap (metadata_at new.kv) number ∙ turned.maps old.kv.number (omega arith) in
    stands_turned size told later old new m after c now [] sound st on turned
    (λ d ne. untouched_same (get m.transactions d) (get after.transactions d) (others d ne))
    (λ d x items ne is was. since_kept old.kv new.kv x.tx x.at.base items was (sound.each d x is).based turned.maps number versions)
    (λ j. untouched_job (get m.jobs j) (get after.jobs j) (ap (λ js. get js j) jobs))
    (λ base items based was. touched_kept old.kv new.kv base items was based turned.maps number versions)
    (number2 ∙ st.number ∙ sym number) may (before_same old.next_tx new.next_tx (metadata_now old.kv) (metadata_now new.kv) same turned.more st.before) here
    (λ tx other was. subst (λ u. Stands size later tx 0 (metadata_now new.kv) u) (sym tree)
    (subst (λ w. Stands size later tx 0 w m.now) (sym same) (Stands-later told later on size tx 0 (metadata_now old.kv) m.now was)))
