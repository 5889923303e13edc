use Rattle.wtf_clients.proofs.Common.{TablesView, IsAlike, NoneOld, refl, sym, ◌∙◌, subst, times_pinned, any-count, count-any, metadata_at, IsPinnedFor}
use Rattle.wtf_clients.proofs.Common.{same_versions, BesideView, without_hands, AreSound, all_owned, all_kept, ◌≡◌, ℕ, ◌+◌, [], ap, arith}
use Rattle.wtf_clients.proofs.{Making.on_err, Making.nothing_there, ScanFrames.start_sound, Lives.tables_of, Lives.pinned_live, ScanFrames.same_maps}
use Rattle.wtf_clients.proofs.{ScanFrames.sound_scanned}
use Rattle.wtf_clients.proofs.tables.Tables.scan.Goals as goal

-- ---- a scan that was to begin, where memory was short: all that is seen of the tables is what it was
module _ (old new : TablesView) (pins : IsPinnedFor [] old.kv new.kv) (clients : new.clients ≡ old.clients) (next : new.next_tx ≡ old.next_tx)
    (beside : new.beside ≡ old.beside) where
  as_often : (n : ℕ) → times_pinned new.kv n ≡ times_pinned old.kv n
  as_often n = let more = pins.pins n in omega (arith, more)

  unstarted_alike : IsAlike old new
  unstarted_alike = record {
    clients = ap without_hands clients;
    number = pins.number;
    map = ap (metadata_at new.kv) pins.number ∙ same_maps old.kv new.kv pins.number pins.cells old.kv.number;
    versions = λ q. same_versions old.kv new.kv pins.number pins.cells q;
    pins = as_often;
    next_tx = next;
    beside = beside;
  }

  unstarted_sound : AreSound old → AreSound new
  unstarted_sound sound =
      sound_scanned old new sound pins.number
      (λ n pinned.
      let some = count-any n new.kv.pins pinned in
      let same = as_often n in
      pinned_live old.kv n (any-count n old.kv.pins (omega (arith, some, same))))
      (λ n live. same_maps old.kv new.kv pins.number pins.cells n)
      (λ n.
      as_often n ∙ sound.pins n
      ∙ sym (ap (λ (b : BesideView). all_owned n new.clients + all_kept n b) beside ∙ ap (λ l. all_owned n l + all_kept n old.beside) clients))
      clients next (ap (λ (b : BesideView). b.images) beside) (ap (λ (b : BesideView). b.jobs) beside)

-- memory was short
pub invariant_of-self : goal.invariant_of-self
invariant_of-self g c =
    let old = tables_of c.self.inside in
    let new : TablesView = record old { kv = c.begin_scan.new.kv; beside = c.begin_scan.new.self } in
    let did = c.in_err-begin_scan.ensures in
    unstarted_sound old new did.pins refl refl did.same c.self.invariant

pub returns-in_err-begin_scan-clause-err : goal.returns-in_err-begin_scan-clause-err
returns-in_err-begin_scan-clause-err g c =
    let old = tables_of c.self.inside in
    let new : TablesView = record old { kv = c.begin_scan.new.kv; beside = c.begin_scan.new.self } in
    let did = c.in_err-begin_scan.ensures in
    on_err c.from_residual.result (IsAlike c.args.self.now new)
    (subst (λ (t : TablesView). IsAlike t new) c.self.view_is (unstarted_alike old new did.pins refl refl did.same))

-- it began
pub invariant_of-self-2 : goal.invariant_of-self-2
invariant_of-self-2 g c =
    let old = tables_of c.self.inside in
    let new : TablesView = record old { kv = c.begin_scan.new.kv; beside = c.begin_scan.new.self } in
    let did = c.in_ok-begin_scan.ensures in
    start_sound g.S.SliceStore.kind c.args.shelf.now old new c.self.invariant (record {
      free = nothing_there old.beside.gc.running (sym c.scans.ensures ∙ c.if-scans.false);
      no_txn = subst NoneOld (sym c.self.view_is) c.in_default.ensures;
      no_job = c.in_default-lowest_old.ensures;
      starts = did.starts;
      scan_tx = did.scan_tx;
      scan_jobs = did.scan_jobs;
      beside = did.rest;
      clients = refl;
      next_tx = refl;
    })
