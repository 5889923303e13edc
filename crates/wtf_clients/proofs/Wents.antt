-- Lines that store nothing: what is named then was named, and whoever is open goes on from who was.
use Rattle.wtf_clients.proofs.Common.{IsTrue, Place, Store, Value, Answer, NoJob, begun, Saves, Begins, Tries, TryTurn, Drops, false, [], Option, subst, ⊎_elim}
use Rattle.wtf_clients.proofs.Common.{slice_index_or, Key, metadata_at, nothing_kept, lists_have, try_refusal, RefusesJob, FollowsTxn, NamesTables, MatchOption}
use Rattle.wtf_clients.proofs.Common.{All-nil, is_live, is_told, TellsOn, TxnView, rebased, JobView, PutTurn, AreSound, IsTidied, Refuses, Retries, of_label, ℕ}
use Rattle.wtf_clients.proofs.Common.{is_pinned, is_listed, DropsJob, DropTurn, IsOwnTxn, with_image, only_image, SaveTurn, BesideView, TablesView, of_client}
use Rattle.wtf_clients.proofs.Common.{Word, InTx, NoTx, Told, Puts, Went, ◌≡◌, Bool, true, List, None, Some, inl, inr, refl, sym, ap, ◌∙◌}
use Rattle.wtf_clients.specs.Named.{ListedBytes}
use Rattle.wtf_clients.proofs.{Goings.stays_txn, Goings.stays_job, JobPins.job_pinned, Lives.pinned_live, Lives.Reaches, Lives.same_reaches, Pins.number_cases}
use Rattle.wtf_clients.proofs.{Goings.own_txn_later, Goings.own_job_later, Goings.stays_went, JobFrames.JobTurned, JobTurning.put_turned, ToldLaws.tables_later}
use Rattle.wtf_clients.proofs.{Goings.client_went, Lives.begun_reaches, Lives.moved_reaches, Lives.saved_reaches, SafeLaws.map_region, Staying.keeps_stays}
use Rattle.wtf_clients.proofs.{Goings.ends_went, Lives.live_upto, Lives.same_kept, Lives.added_kept, Lives.only_kept, Pins.base_pinned}
use Rattle.wtf_clients.proofs.{JobTurning.put_reaches, JobTurning.drop_turned, JobTurning.drop_reaches, ScanLaws.own_txn_along, ScanLaws.own_job_along}

-- what stands beside of which a line that is no scan says nothing new, but for the jobs
record SameScans (old new : BesideView) : Type 0 where
  gc : new.gc ≡ old.gc
  scan_tx : new.scan_tx ≡ old.scan_tx
  marks : new.scan_jobs ≡ old.scan_jobs

module _ (size : ℕ) (told later : Told) (on : TellsOn told later) (Added : (List Place → Bool) → Type 0) (old new : TablesView) (sound : AreSound old)
    (known : ListedBytes size told (is_told told) old) (names : NamesTables old new) where
  abbrev Gone : Type 0
  Gone = Went size told later Added old new

  carries : (P : List Place → Bool) → P [] ≡ true → Added P → ListedBytes size told P old → ListedBytes size later P new
  carries P hole added h = names P (lists_have size later P) hole (tables_later size told later P on old h)

  same_one : (x y : TxnView) → Some x ≡ Some y → x ≡ y
  same_one x y e = cc

  -- ---- clients
  pub refuse_went : (c : ℕ) (w : Word) (a : Answer) → Refuses old new c w a → Gone
  refuse_went c w a turn =
      let st = keeps_stays old new c turn.keeps in
      stays_went size told later on Added old new c sound known (of_client old.clients c) st.clients st.maps (same_reaches old.kv new.kv st.pins) st.beside
      names (λ y is. is)

  -- one that begins has stored nothing
  begins_went : (c : ℕ) (a : Answer) → of_client old.clients c ≡ None → Begins old new c a → Gone
  begins_went c a none turn =
      let x : TxnView = begun old.next_tx old.kv.number in
      client_went size told later on Added old new c (Some x) sound turn.clients (λ n le. ap (λ (s : Store Key Value). metadata_at s n) turn.kv)
      (begun_reaches old.kv new.kv turn.pinned) turn.beside known carries
      (λ y is. subst (FollowsTxn Added (of_client old.clients c)) (same_one x y is) (subst (λ o. FollowsTxn Added o x) (sym none) (λ P added. All-nil _)))
      (λ y is own. subst (IsOwnTxn size later new.kv) (same_one x y is)
      (λ P hole base log. record { hand = record { base = base; changes = tt; slices = nothing_kept P }; log = log }))

  pub begin_went : (c : ℕ) (a : Answer) → MatchOption (of_client old.clients c) (Begins old new c a) (λ x. Refuses old new c InTx a) → Gone
  begin_went c a turn = by (of_client old.clients c) refl turn
    where
      by : (o : Option TxnView) → of_client old.clients c ≡ o → MatchOption o (Begins old new c a) (λ x. Refuses old new c InTx a) → Gone
      by None is t = begins_went c a is t
      by (Some x) is t = refuse_went c InTx a t

  -- one that is to be replayed has its log
  retries_went : (c : ℕ) (x : TxnView) (b n : ℕ) → of_client old.clients c ≡ Some x → Retries old new c x b n → Gone
  retries_went c x b n there turn =
      let is : turn.later ≡ rebased x n = turn.retried.is in
      client_went size told later on Added old new c (Some turn.later) sound turn.clients turn.maps
      (moved_reaches old.kv new.kv b n turn.retried.number_is turn.retried.pins) turn.beside known carries
      (λ y e. subst (FollowsTxn Added (of_client old.clients c)) (sym is ∙ same_one turn.later y e)
      (subst (λ o. FollowsTxn Added o (rebased x n)) (sym there) (refl, λ P added h. h)))
      (λ y e own. subst (IsOwnTxn size later new.kv) (sym is ∙ same_one turn.later y e)
      (λ P hole base log. record { hand = record { base = base; changes = tt; slices = nothing_kept P }; log = log }))

  tries_went : (c : ℕ) (x : TxnView) (a : Answer) → of_client old.clients c ≡ Some x → Tries old new c x a → Gone
  tries_went c x (Answer.Committed n) there turn = ends_went size told later on Added old new c sound known turn.mid x turn.ends carries
  tries_went c x (Answer.Retry b n) there turn = retries_went c x b n there turn
  tries_went c x a there turn = absurd turn

  pub attempt_went : (c : ℕ) (a : Answer) → MatchOption (of_client old.clients c) (Refuses old new c NoTx a) (λ x. TryTurn old new c x a) → Gone
  attempt_went c a turn = by (of_client old.clients c) refl turn
    where
      live : (x : TxnView) (r : Option Word) → of_client old.clients c ≡ Some x → MatchOption r (Tries old new c x a) (λ w. Refuses old new c w a) → Gone
      live x None there t = tries_went c x a there t
      live x (Some w) there t = refuse_went c w a t

      by : (o : Option TxnView) → of_client old.clients c ≡ o → MatchOption o (Refuses old new c NoTx a) (λ x. TryTurn old new c x a) → Gone
      by None is t = refuse_went c NoTx a t
      by (Some x) is t = live x (try_refusal x) is t

  pub abort_went : (c : ℕ) (a : Answer) → MatchOption (of_client old.clients c) (Refuses old new c NoTx a) (λ x. Drops old new c x a) → Gone
  abort_went c a turn = by (of_client old.clients c) refl turn
    where
      by : (o : Option TxnView) → of_client old.clients c ≡ o → MatchOption o (Refuses old new c NoTx a) (λ x. Drops old new c x a) → Gone
      by None is t = refuse_went c NoTx a t
      by (Some x) is t = ends_went size told later on Added old new c sound known old.kv x t.1 carries

  -- ---- lines that leave the clients
  module _ (clients : new.clients ≡ old.clients) (maps : (n : ℕ) → IsTrue (is_live old.kv n) → metadata_at new.kv n ≡ metadata_at old.kv n)
      (reach : Reaches old.kv new.kv) (scans : SameScans old.beside new.beside)
      (jobs : (j : ℕ) (y : JobView) → of_label new.beside.jobs j ≡ Some y → of_label old.beside.jobs j ≡ Some y) where
    there : (c : ℕ) (y : TxnView) → of_client new.clients c ≡ Some y → of_client old.clients c ≡ Some y
    there c y is = ap (λ l. of_client l c) (sym clients) ∙ is

    leaves_went : Gone
    leaves_went = record {
      carries = carries;
      maps = λ n pinned. maps n (reach n pinned);
      gc = scans.gc;
      scan_tx = scans.scan_tx;
      txns = λ c y is. stays_txn Added (of_client old.clients c) y (there c y is);
      jobs = λ j y is. stays_job Added (of_label old.beside.jobs j) y (jobs j y is);
      scan_jobs = λ j x is. ap (λ l. slice_index_or l j false) scans.marks;
      own_txns = λ owned c y is.
          let was = there c y is in
          own_txn_along size later old.kv new.kv y
          (maps y.at.base (pinned_live old.kv y.at.base (base_pinned old.kv old.clients old.beside c y sound.pins was)))
          (own_txn_later size told later on old.kv y (known.each c y was).hand.base (owned c y was));
      own_jobs = λ owned j y is.
          let was = jobs j y is in
          let live = pinned_live old.kv y.base (job_pinned old j y sound was) in
          own_job_along size later old.kv new.kv y (maps y.base live) (own_job_later size told later on old.kv y
          (map_region (is_told told) (is_listed size told) (metadata_at old.kv y.base) (known.live y.base live) y.target.inode y.target.region)
          (owned j y was));
    }

  pub tidy_went : IsTidied old new → Gone
  tidy_went tidy =
      leaves_went tidy.clients tidy.maps (λ n pinned. pinned_live old.kv n (subst (λ l. IsTrue (is_pinned (record old.kv { pins = l }) n)) tidy.pins pinned))
      (record {
        gc = ap (λ (b : BesideView). b.gc) tidy.beside;
        scan_tx = ap (λ (b : BesideView). b.scan_tx) tidy.beside;
        marks = ap (λ (b : BesideView). b.scan_jobs) tidy.beside;
      })
      (λ j y is. ap (λ (b : BesideView). of_label b.jobs j) (sym tidy.beside) ∙ is)

  pub same_went : new ≡ old → Gone
  same_went e =
      leaves_went (ap (λ (t : TablesView). t.clients) e) (λ n live. ap (λ (t : TablesView). metadata_at t.kv n) e)
      (λ n pinned. pinned_live old.kv n (subst (λ (t : TablesView). IsTrue (is_pinned t.kv n)) e pinned))
      (record {
        gc = ap (λ (t : TablesView). t.beside.gc) e;
        scan_tx = ap (λ (t : TablesView). t.beside.scan_tx) e;
        marks = ap (λ (t : TablesView). t.beside.scan_jobs) e;
      })
      (λ j y is. ap (λ (t : TablesView). of_label t.beside.jobs j) (sym e) ∙ is)

  -- ---- a save
  saves_went : (now : BesideView) → SameScans old.beside now → now.jobs ≡ old.beside.jobs → Reaches old.kv new.kv → Saves old new now → Gone
  saves_went now same jobs reach saves =
      leaves_went saves.clients (λ n live. saves.maps n (live_upto old n sound live)) reach
      (record {
        gc = ap (λ (b : BesideView). b.gc) saves.beside ∙ same.gc;
        scan_tx = ap (λ (b : BesideView). b.scan_tx) saves.beside ∙ same.scan_tx;
        marks = ap (λ (b : BesideView). b.scan_jobs) saves.beside ∙ same.marks;
      })
      (λ j y is. ap (λ l. of_label l j) (sym (ap (λ (b : BesideView). b.jobs) saves.beside ∙ jobs)) ∙ is)

  same_scans : SameScans old.beside old.beside
  same_scans = record { gc = refl; scan_tx = refl; marks = refl }

  pub save_went : (Up : Type 0) (a : Answer) → SaveTurn Up old new a → Gone
  save_went Up (Answer.Saved n) (number, up, saves) =
      saves_went (only_image old.beside n) (record { gc = refl; scan_tx = refl; marks = refl }) refl
      (saved_reaches old new (only_image old.beside n) (λ k. only_kept old n k number) saves) saves
  save_went Up Answer.FaultSave (inl saves) = saves_went old.beside same_scans refl (saved_reaches old new old.beside (same_kept old) saves) saves
  save_went Up Answer.FaultSave (inr saves) =
      saves_went (with_image old.beside old.kv.number) (record { gc = refl; scan_tx = refl; marks = refl }) refl
      (saved_reaches old new (with_image old.beside old.kv.number) (added_kept old) saves) saves
  save_went Up a turn = absurd turn

  -- ---- a put, and a drop
  gone_went : (j : ℕ) → JobTurned old new j None → Reaches old.kv new.kv → new.beside.scan_jobs ≡ old.beside.scan_jobs → Gone
  gone_went j turned reach marks =
      leaves_went turned.keeps.clients (λ n live. turned.maps n (live_upto old n sound live)) reach
      (record { gc = ap (λ (b : BesideView). b.gc) turned.keeps.beside; scan_tx = ap (λ (b : BesideView). b.scan_tx) turned.keeps.beside; marks = marks })
      (λ l y is. ⊎_elim
      (λ same. absurd (let none : None ≡ Some y = sym turned.keeps.jobs.is ∙ ap (of_label new.beside.jobs) (sym same) ∙ is in cc))
      (λ other. sym (turned.keeps.jobs.others l other) ∙ is)
      (number_cases l j))

  pub put_went : (j : ℕ) (a : Answer) → PutTurn old new j a → Gone
  put_went j a turn = by (of_label old.beside.jobs j) refl turn
    where
      by : (o : Option JobView) → of_label old.beside.jobs j ≡ o → MatchOption o (RefusesJob old new NoJob a) (λ x. Puts old new j x a) → Gone
      by None is t = same_went t.same
      by (Some x) is t = gone_went j (put_turned old new j sound x is a t) (put_reaches old new j sound x is a t) t.marks

  pub drop_went : (j : ℕ) (a : Answer) → DropTurn old new j a → Gone
  drop_went j a turn = by (of_label old.beside.jobs j) refl turn
    where
      by : (o : Option JobView) → of_label old.beside.jobs j ≡ o → MatchOption o (RefusesJob old new NoJob a) (λ x. DropsJob old new j x a) → Gone
      by None is t = same_went t.same
      by (Some x) is t = gone_went j (drop_turned old new j sound x is a t) (drop_reaches old new j sound x is a t) t.marks
