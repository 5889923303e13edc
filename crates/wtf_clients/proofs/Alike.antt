-- Tables that show the same stand for the same machine.
use Rattle.wtf_clients.proofs.Common.{get, is_live, Contains, Tree, Transaction, Job, Machine, MaybeBytes, Told, is_told, is_listed, Map, metadata_at, LeadsTo}
use Rattle.wtf_clients.proofs.Common.{Stands, TxnView, sound_along, JobView, target_region, KeepsRegion, TablesView, of_client, of_label, metadata_now}
use Rattle.wtf_clients.proofs.Common.{AreSound, StandsForTxn, StandsForSlot, StandsForJob, StandsForLabel, TablesStand, above, NoneMoved, ◌≡◌, ◌≤◌, ℕ, IsTrue}
use Rattle.wtf_clients.proofs.Common.{Option, None, Some, refl, sym, ap, ◌∙◌, subst, arith, IsPrunedFrom, BesideView, KeepsBut}
use Rattle.wtf_clients.proofs.{Images.kept_pinned, Images.before_same, Images.image_on, JobPins.job_pinned, Lives.pinned_live, Lives.number_live}
use Rattle.wtf_clients.proofs.{SinceLaws.touched_still, SinceLaws.since_along, AboveLaws.above-kept}

-- Tables that show the same: the number, what can be read, who is open and the images. No key has a version above a number where it had none.
pub record ShowsAlike (old new : TablesView) : Type 0 where
  pub number : new.kv.number ≡ old.kv.number
  pub maps : (n : ℕ) → IsTrue (is_live old.kv n) → metadata_at new.kv n ≡ metadata_at old.kv n
  pub moved : (b : ℕ) → NoneMoved (above old.kv b) (above new.kv b)
  pub next_tx : new.next_tx ≡ old.next_tx
  pub clients : new.clients ≡ old.clients
  pub jobs : new.beside.jobs ≡ old.beside.jobs
  pub images : new.beside.images ≡ old.beside.images
  pub none : new.beside.none ≡ old.beside.none

module _ (old new : TablesView) (sound : AreSound old) (alike : ShowsAlike old new) where
  now_same : metadata_now new.kv ≡ metadata_now old.kv
  now_same = ap (metadata_at new.kv) alike.number ∙ alike.maps old.kv.number (number_live old.kv)

  base_same : (c : ℕ) (x : TxnView) → of_client old.clients c ≡ Some x → metadata_at new.kv x.at.base ≡ metadata_at old.kv x.at.base
  base_same c x there = alike.maps x.at.base (pinned_live old.kv x.at.base (sound.each c x there).fit.pinned)

  next_up : old.next_tx ≤ new.next_tx
  next_up = let next = alike.next_tx in omega (arith, next)

  txn_still : (size : ℕ) (told : Told) (now : Tree) (c : ℕ) (x : TxnView) (t : Transaction) → of_client old.clients c ≡ Some x
      → StandsForTxn size told old.kv now x t → StandsForTxn size told new.kv now x t
  txn_still size told now c x t there stands = record {
    sound = sound_along size old.kv new.kv told x t.ops (base_same c x there) stands.sound;
    base = stands.base;
    shown = stands.shown;
    replayed = stands.replayed;
    tree = subst (λ (w : Map). Stands size told x.tx 0 w t.tree) (sym (base_same c x there)) stands.tree;
    now = subst (λ (w : Map). Stands size told x.tx 0 w now) (sym now_same) stands.now;
    since = since_along old.kv new.kv x.tx x.at.base t.touched stands.since (base_same c x there) now_same (alike.moved x.at.base);
  }

  slot_still : (size : ℕ) (told : Told) (now : Tree) (c : ℕ) (s : Option TxnView) (t : Option Transaction) → of_client old.clients c ≡ s
      → StandsForSlot size told old.kv now s t → StandsForSlot size told new.kv now s t
  slot_still size told now c None None here stands = tt
  slot_still size told now c (Some x) (Some t) here stands = txn_still size told now c x t here stands
  slot_still size told now c None (Some t) here stands = absurd stands
  slot_still size told now c (Some x) None here stands = absurd stands

  -- so it is at the base of a job
  job_same : (j : ℕ) (x : JobView) → of_label old.beside.jobs j ≡ Some x → metadata_at new.kv x.base ≡ metadata_at old.kv x.base
  job_same j x there = alike.maps x.base (pinned_live old.kv x.base (job_pinned old j x sound there))

  job_still : (size : ℕ) (told : Told) (j : ℕ) (x : JobView) (t : Job) → of_label old.beside.jobs j ≡ Some x → StandsForJob size told old.kv x t
      → StandsForJob size told new.kv x t
  job_still size told j x t there stands = record {
    path = stands.path;
    region = stands.region;
    kind = stands.kind;
    base = stands.base;
    leads = subst (λ (w : Map). LeadsTo w x.path x.target.inode) (sym (job_same j x there)) stands.leads;
    known = subst (λ (w : Map). MaybeBytes (is_told told) (is_listed size told) (target_region w x.target)) (sym (job_same j x there)) stands.known;
    keeps = subst (λ (w : Map). KeepsRegion size told (target_region w x.target) x.value) (sym (job_same j x there)) stands.keeps;
    touched = touched_still old.kv new.kv x.base t.touched stands.touched (job_same j x there) now_same (alike.moved x.base);
  }

  label_still : (size : ℕ) (told : Told) (j : ℕ) (s : Option JobView) (t : Option Job) → of_label old.beside.jobs j ≡ s
      → StandsForLabel size told old.kv s t → StandsForLabel size told new.kv s t
  label_still size told j None None here stands = tt
  label_still size told j (Some x) (Some t) here stands = job_still size told j x t here stands
  label_still size told j None (Some t) here stands = absurd stands
  label_still size told j (Some x) None here stands = absurd stands

  pub alike_stand : (size : ℕ) (told : Told) (m : Machine) → TablesStand size told old m → TablesStand size told new m
  alike_stand size told m stands = record {
    number = stands.number ∙ sym alike.number;
    each = λ c. subst (λ l. StandsForSlot size told new.kv m.now (of_client l c) (get m.transactions c)) (sym alike.clients)
        (slot_still size told m.now c (of_client old.clients c) (get m.transactions c) refl (stands.each c));
    jobs = λ j.
        subst (λ l. StandsForLabel size told new.kv (of_label l j) (get m.jobs j)) (sym alike.jobs)
        (label_still size told j (of_label old.beside.jobs j) (get m.jobs j) refl (stands.jobs j));
    later = λ tx le. subst (λ (w : Map). Stands size told tx 0 w m.now) (sym now_same) (stands.later tx (subst (λ n. n ≤ tx) alike.next_tx le));
    before = before_same old.next_tx new.next_tx (metadata_now old.kv) (metadata_now new.kv) now_same next_up stands.before;
    none = λ is. stands.none (sym alike.none ∙ is);
    images = λ n here.
        let there : Contains old.beside.images n = subst (λ l. Contains l n) alike.images here in
        image_on size told told old new n m.may_be_saved m.may_be_saved (λ p b is. is)
        (alike.maps n (pinned_live old.kv n (kept_pinned old n sound there))) next_up (λ t listed. listed) (stands.images n there);
  }

-- ---- tables stand for the machine as before, where versions that no one sees are gone and only the scans may be others
module _ (old new : TablesView) (sound : AreSound old) (pruned : IsPrunedFrom old.kv new.kv) (keeps : KeepsBut old new) where
  -- no key has a version above a base that had none
  pruned_alike : ShowsAlike old new
  pruned_alike = record {
    number = pruned.number;
    maps = pruned.maps;
    moved = λ b q. above-kept old.kv.pins old.kv new.kv b q (pruned.kept q);
    next_tx = keeps.next_tx;
    clients = keeps.clients;
    jobs = ap (λ (b : BesideView). b.jobs) keeps.beside;
    images = ap (λ (b : BesideView). b.images) keeps.beside;
    none = ap (λ (b : BesideView). b.none) keeps.beside;
  }

  pub pruned_stand : (size : ℕ) (told : Told) (m : Machine) → TablesStand size told old m → TablesStand size told new m
  pruned_stand = alike_stand old new sound pruned_alike
