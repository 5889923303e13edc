-- A run that ends before its first line is written.
use Rattle.std.proofs.Common.{◌≡◌, ◌≢◌, ◌↔◌, ◌⊎◌, ◌<◌, ◌≤◌, ℕ, false, List, [], length, Some, refl, sym, ◌∙◌, ap, arith, inl, inr}
use Rattle.wtf_dev.specs.Counts.{Rose}
use Rattle.wtf_dev.specs.Keep.{KeeperView}
use Rattle.wtf_dev.specs.Streams.{SinkView}
use Rattle.wtf_dev.specs.Store.{StoreKind, KindLaws}
use Rattle.wtf_dev.proofs.Each.{each_same, each_on}
use Rattle.wtf_model.specs.Servers.{none_down, is_device_fault, is_device_fault_of_run, count_along}
use Rattle.wtf_image.specs.Rules.{size_in}
use Rattle.wtf_serve.specs.Endings.{Devices, IsServedStatus, IsKeeperKept, Served}
use Rattle.wtf_serve.specs.Logs.{Log, first_line, last_downs}
use Rattle.wtf_serve.specs.Openings.{Opening, IsTakenOver}
use Rattle.wtf_serve.specs.Stocks.{Stock, stock, KeeperGoesOn}
use Rattle.wtf_serve.specs.Turns.{WroteFront}
use Rattle.wtf_serve.proofs.Closing.{closing_rose, still_status}
use Rattle.wtf_serve.proofs.Finishing.{never, enough}
use Rattle.wtf_serve.proofs.RanLaws.{ran_none}
use Rattle.wtf_serve.proofs.Telling.{some_same, told_none, told_other}

module _ {S : Type 0} (kind : StoreKind S) (laws : KindLaws kind) (handed : List (List ℕ) → Type 0) (opening : Opening) (start : Devices S)
    (keeper' : KeeperView)
    (kept : IsKeeperKept handed start.stock.keeper keeper') (keeper : KeeperGoesOn start.stock.keeper keeper') where
  unstarted_as : (status : ℕ) (sink' : SinkView) → (status ≡ 2) ⊎ (status ≡ 4) ⊎ (status ≡ 7)
      → (status ≡ 2) ↔ (length start.stock.shelf < opening.settings.servers)
      → (status ≡ 4 → IsTakenOver (size_in kind start.stock.shelf) opening.bytes)
      → (status ≡ 4 → (old : List ℕ) → start.sink.taken ≡ Some old → WroteFront old (first_line opening) sink'.taken)
      → (status ≢ 4 → sink' ≡ start.sink) → (status ≡ 4 → Rose start.sink.faults sink'.faults) → start.sink.faults ≤ sink'.faults
      → Served kind handed opening status start (record { source = start.source; sink = sink'; stock = stock start.stock.shelf keeper' })
  unstarted_as status sink' which few_stores taken cut unwritten cause faults =
      let statuses : IsServedStatus status = elim which [
        | inl e ↦ inr (inl e)
        | inr (inl e) ↦ inr (inr (inr (inl e)))
        | inr (inr e) ↦ inr
            (inr (inr (inr (inl e))))
      ] in
      let end : Stock S = stock start.stock.shelf keeper' in
      let same : KeeperGoesOn keeper' keeper' = record { faults = omega arith; tells = refl } in
      let ran = ran_none kind laws opening start.stock end refl keeper.faults in
      record {
        log = record { lines = []; answers = [] };
        started = false;
        taken = 0;
        mid = end;
        ran = ran;
        rest = [];
        rest_none = λ _. refl;
        rest_line = inl refl;
        rest_follows = each_same laws start.stock.shelf;
        at_end = λ _. refl;
        rest_adds = λ whole. absurd (omega (arith, whole, which));
        unstarted = λ _. record { status_is = which; none = refl; source_is = refl; shelf_is = refl; kept = kept; sink_is = unwritten };
        sound = λ is. elim is [ inl started ↦ absurd (cc) | inr four ↦ taken four ];
        read = λ script e. told_other script start.source.rest start.source.rest (record { bytes = []; count = 0; ended = false }) [] status
            (λ d. omega (arith, d, which)) (λ d. omega (arith, d, which)) (λ d. omega (arith, d, which)) (λ _. (refl, omega arith))
            (λ _. ([], script, refl, e, omega arith)) (told_none script start.source.rest e);
        wrote = λ old e. record {
          whole = λ is. absurd (cc);
          cut = λ is. absurd (cc);
          cut_first = λ _ is. cut is old e;
          nothing = λ _ other. ap (λ (x : SinkView). x.taken) (unwritten other) ∙ e;
        };
        given = λ h. omega (arith, h);
        limit = never status 9 (λ d. omega (arith, d, which)) 0 (omega arith);
        counted = λ script left e f. omega (arith, ap length (some_same script left (sym e ∙ f)));
        statuses = statuses;
        ended = λ ends. absurd (omega (arith, ends, which));
        few_stores = few_stores;
        unread = λ is. refl;
        source_cause = λ d. absurd (omega (arith, d, which));
        sink_cause = cause;
        save_cause = λ d. absurd (omega (arith, d, which));
        source_faults = omega arith;
        sink_faults = faults;
        sink_still = λ other. ap (λ (x : SinkView). x.faults) (unwritten other);
        faults = closing_rose laws opening.settings status (last_downs (record { lines = []; answers = [] })) start.stock end end
            (count_along (is_device_fault opening.settings) none_down [] []) (each_same laws start.stock.shelf) same
            (λ d. absurd (omega (arith, d, which))) ran.faults;
        faults_of_run = λ by empty. closing_rose laws opening.settings status (last_downs (record { lines = []; answers = [] })) start.stock end end
            (count_along (is_device_fault_of_run opening.settings) none_down [] []) (each_same laws start.stock.shelf) same
            (λ d. absurd (omega (arith, d, which))) (ran.faults_of_run by empty);
        follows_on = each_on laws ran.follows_on (each_same laws start.stock.shelf);
        complete = λ many still up end. (
          refl,
          still_status status start.source.faults start.source.faults start.sink.faults sink'.faults statuses (λ is. omega (arith, many, few_stores.0 is))
              (λ d. absurd (omega (arith, d, which))) cause (λ d. absurd (omega (arith, d, which))) still.source_is still.sink_is,
        );
        left = λ is. absurd (cc);
        left_within = λ is. absurd (cc);
        next = λ is. absurd (cc);
        quiet = λ k ends. absurd (omega (arith, ends, which));
      }

  -- for want of memory
  pub unstarted : opening.settings.servers ≤ length start.stock.shelf
      → Served kind handed opening 7 start (record { source = start.source; sink = start.sink; stock = stock start.stock.shelf keeper' })
  unstarted many =
      unstarted_as 7 start.sink (inr (inr refl)) (enough 7 (length start.stock.shelf) opening.settings.servers (λ e. omega (arith, e)) many)
      (λ e. absurd (omega (arith, e))) (λ e. absurd (omega (arith, e))) (λ _. refl) (λ e. absurd (omega (arith, e))) (omega arith)

  -- as the sink failed
  pub unwritten : (sink' : SinkView) → opening.settings.servers ≤ length start.stock.shelf → IsTakenOver (size_in kind start.stock.shelf) opening.bytes
      → ((old : List ℕ) → start.sink.taken ≡ Some old → WroteFront old (first_line opening) sink'.taken) → Rose start.sink.faults sink'.faults
      → start.sink.faults ≤ sink'.faults
      → Served kind handed opening 4 start (record { source = start.source; sink = sink'; stock = stock start.stock.shelf keeper' })
  unwritten sink' many taken cut cause faults =
      unstarted_as 4 sink' (inr (inl refl)) (enough 4 (length start.stock.shelf) opening.settings.servers (λ e. omega (arith, e)) many)
      (λ _. taken) (λ _. cut) (λ other. absurd (other refl)) (λ _. cause) faults

  -- with fewer stores than servers
  pub refused : length start.stock.shelf < opening.settings.servers
      → Served kind handed opening 2 start (record { source = start.source; sink = start.sink; stock = stock start.stock.shelf keeper' })
  refused few = unstarted_as 2 start.sink (inl refl) ((λ _. few), (λ _. refl))
      (λ e. absurd (omega (arith, e))) (λ e. absurd (omega (arith, e))) (λ _. refl) (λ e. absurd (omega (arith, e))) (omega arith)

  -- ---- no line was answered
  abbrev no_line : Log
  no_line = record { lines = []; answers = [] }

  pub unstarted_log : (many : opening.settings.servers ≤ length start.stock.shelf) → (unstarted many).log ≡ no_line
  unfolding unstarted_as unstarted
  unstarted_log many = refl

  pub unwritten_log : (sink' : SinkView) (many : opening.settings.servers ≤ length start.stock.shelf)
      (taken : IsTakenOver (size_in kind start.stock.shelf) opening.bytes)
      (cut : (old : List ℕ) → start.sink.taken ≡ Some old → WroteFront old (first_line opening) sink'.taken) (cause : Rose start.sink.faults sink'.faults)
      (faults : start.sink.faults ≤ sink'.faults) → (unwritten sink' many taken cut cause faults).log ≡ no_line
  unfolding unstarted_as unwritten
  unwritten_log sink' many taken cut cause faults = refl

  -- ---- nor had the stores changed
  abbrev here : Stock S
  here = stock start.stock.shelf keeper'

  pub unwritten_mid : (sink' : SinkView) (many : opening.settings.servers ≤ length start.stock.shelf)
      (taken : IsTakenOver (size_in kind start.stock.shelf) opening.bytes)
      (cut : (old : List ℕ) → start.sink.taken ≡ Some old → WroteFront old (first_line opening) sink'.taken) (cause : Rose start.sink.faults sink'.faults)
      (faults : start.sink.faults ≤ sink'.faults) → (unwritten sink' many taken cut cause faults).mid ≡ here
  unfolding unstarted_as unwritten
  unwritten_mid sink' many taken cut cause faults = refl

  pub refused_log : (few : length start.stock.shelf < opening.settings.servers) → (refused few).log ≡ no_line
  unfolding unstarted_as refused
  refused_log few = refl

  pub refused_mid : (few : length start.stock.shelf < opening.settings.servers) → (refused few).mid ≡ here
  unfolding unstarted_as refused
  refused_mid few = refl
