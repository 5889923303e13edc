-- What holds of the tables goes on holding where their number is watched from then on.
use Rattle.std.proofs.Common.{◌≡◌, ℕ, Bool, true, false, List, [], Some, refl, sym, ap, ◌∙◌, subst, ⊎_elim, arith}
use Rattle.std.specs.Option.{option_map}
use Rattle.std.specs.Prelude.{IsTrue, slice_index_or, ⊤}
use Rattle.wtf_base.specs.Places.{Place}
use Rattle.wtf_kv.specs.Stores.{is_live}
use Rattle.wtf_meta.specs.Contents.{Told, is_told}
use Rattle.wtf_meta.specs.Maps.{metadata_at}
use Rattle.wtf_model.specs.Machines.{Machine}
use Rattle.wtf_replay.specs.Insides.{lists_have}
use Rattle.wtf_replay.specs.Views.{TxnView}
use Rattle.wtf_compact.specs.Jobs.{JobView}
use Rattle.wtf_gc.specs.Views.{RunView}
use Rattle.wtf_clients.specs.Named.{ListedBytes}
use Rattle.wtf_clients.specs.Safe.{IsSafe, LieIn, Went}
use Rattle.wtf_clients.specs.Saves.{Saves}
use Rattle.wtf_clients.specs.Serves.{NamesTables}
use Rattle.wtf_clients.specs.Sounds.{AreSound}
use Rattle.wtf_clients.specs.Standing.{HasKinds, ScansStand, StampsStand, TablesStand}
use Rattle.wtf_clients.specs.Views.{BesideView, TablesView, metadata_now, of_client, of_label, watching}
use Rattle.wtf_clients.proofs.Goings.{stays_txn, stays_job}
use Rattle.wtf_clients.proofs.JobPins.{job_pinned}
use Rattle.wtf_clients.proofs.Lives.{Reaches, live_cases, live_upto, now_bytes, number_live, pinned_live, saved_reaches, watching_kept}
use Rattle.wtf_clients.proofs.Naming.{live_along, now_along, txn_along}
use Rattle.wtf_clients.proofs.Pins.{base_pinned}
use Rattle.wtf_clients.proofs.SafeLaws.{went_safe}
use Rattle.wtf_clients.proofs.ScanLaws.{own_job_along, own_txn_along}
use Rattle.wtf_clients.proofs.Soundness.{watched_sound}
use Rattle.wtf_core.proofs.Quieted.{seen_pinned}
use Rattle.wtf_core.proofs.SaveLaws.{saves_stand, old_image}

-- a set of tables of which the number is watched from then on
module _ (old new : TablesView) (sound : AreSound old) (saves : Saves old new (watching old.beside old.kv.number)) where
  abbrev pub now : BesideView
  now = watching old.beside old.kv.number

  reach : Reaches old.kv new.kv
  reach = saved_reaches old new now (watching_kept old) saves

  pub live_was : (n : ℕ) → IsTrue (is_live new.kv n) → IsTrue (is_live old.kv n)
  live_was n live = ⊎_elim
      (λ here. subst (λ k. IsTrue (is_live old.kv k)) (sym (here ∙ saves.number)) (number_live old.kv))
      (λ pinned. reach n pinned)
      (live_cases new.kv n live)

  pub map_was : (n : ℕ) → IsTrue (is_live old.kv n) → metadata_at new.kv n ≡ metadata_at old.kv n
  map_was n live = saves.maps n (live_upto old n sound live)

  pub now_was : metadata_now new.kv ≡ metadata_now old.kv
  now_was = ap (metadata_at new.kv) saves.number ∙ saves.maps old.kv.number (omega arith)

  client_was : (c : ℕ) (y : TxnView) → of_client new.clients c ≡ Some y → of_client old.clients c ≡ Some y
  client_was c y is = ap (λ l. of_client l c) (sym saves.clients) ∙ is

  job_was : (j : ℕ) (y : JobView) → of_label new.beside.jobs j ≡ Some y → of_label old.beside.jobs j ≡ Some y
  job_was j y is = ap (λ (b : BesideView). of_label b.jobs j) (sym saves.beside) ∙ is

  -- ---- the bytes that they name
  pub names_behind : NamesTables old new
  names_behind P Q hole h = record {
    live = live_along P Q old new sound saves.maps reach h (now_along P Q old.kv new.kv saves.number saves.maps (now_bytes P Q old h));
    each = λ c x there.
        let was = client_was c x there in
        txn_along P Q old.kv new.kv x (saves.maps x.at.base (sound.each c x was).based) (h.each c x was);
    planned = λ j x there. h.planned j x (job_was j x there);
  }

  pub listed_behind : (size : ℕ) (told : Told) (P : List Place → Bool) → P [] ≡ true → ListedBytes size told P old → ListedBytes size told P new
  listed_behind size told P hole h = names_behind P (lists_have size told P) hole h

  -- ---- collection stays safe
  module _ (size : ℕ) (told : Told) where
    abbrev Added : (List Place → Bool) → Type 0
    Added P = ⊤

    went : Went size told told Added old new
    went = record {
      carries = λ P hole added h. listed_behind size told P hole h;
      maps = λ n pinned. map_was n (reach n pinned);
      gc = ap (λ (b : BesideView). b.gc) saves.beside;
      scan_tx = ap (λ (b : BesideView). b.scan_tx) saves.beside;
      txns = λ c y is. stays_txn Added (of_client old.clients c) y (client_was c y is);
      jobs = λ j y is. stays_job Added (of_label old.beside.jobs j) y (job_was j y is);
      scan_jobs = λ j x is. ap (λ (b : BesideView). slice_index_or b.scan_jobs j false) saves.beside;
      own_txns = λ owned c y is.
          let was = client_was c y is in
          own_txn_along size told old.kv new.kv y
          (map_was y.at.base (pinned_live old.kv y.at.base (base_pinned old.kv old.clients old.beside c y sound.pins was))) (owned c y was);
      own_jobs = λ owned j y is.
          let was = job_was j y is in
          own_job_along size told old.kv new.kv y (map_was y.base (pinned_live old.kv y.base (job_pinned old j y sound was))) (owned j y was);
    }

    pub safe_behind : (length : ℕ → ℕ → ℕ) → LieIn old.beside.gc length → ListedBytes size told (is_told told) old → IsSafe size told old
        → IsSafe size told new
    safe_behind length lie names safe =
        went_safe size told told Added length old new (λ p byte is. is) names lie (λ X low. tt)
        (λ r runs n seen. (
          pinned_live old.kv n (seen_pinned old r n sound runs seen),
          seen_pinned new r n (watched_sound old new sound saves) (ap (λ (b : BesideView). b.gc.running) saves.beside ∙ runs) seen,
        ))
        went safe

    -- ---- they stand for what they stood for
    pub tables_behind : (m : Machine) → TablesStand size told old m → TablesStand size told new m
    tables_behind m st =
        saves_stand old new now sound saves size told told m st (λ p byte is. is) m.may_be_saved refl st.none
        (λ n there. old_image old new now sound saves size told told m st (λ p byte is. is) m.may_be_saved n (λ t listed. listed) there)

  stamps_behind : (m : Machine) → StampsStand old m → StampsStand new m
  stamps_behind m st =
      subst (λ (b : BesideView). StampsStand (record new { beside = b }) m) (sym saves.beside)
      (subst (λ n. StampsStand (record new { beside = now; next_tx = n }) m) (sym saves.next_tx)
      (subst (λ l. StampsStand (record new { beside = now; next_tx = old.next_tx; clients = l }) m) (sym saves.clients)
      (record { listed = st.listed; begun = st.begun; txns = st.txns; order = st.order; jobs = st.jobs })))

  pub scans_behind : (m : Machine) → ScansStand old m → ScansStand new m
  scans_behind m st = record {
    stamps = stamps_behind m st.stamps;
    parts = st.parts ∙ ap (λ (b : BesideView). option_map (λ (r : RunView). r.left) b.gc.running) (sym saves.beside);
    some = λ r is. st.some r (ap (λ (b : BesideView). b.gc.running) (sym saves.beside) ∙ is);
    scans = ap (λ (b : BesideView). b.gc.finished) saves.beside ∙ st.scans;
    kinds = λ n live. let was = live_was n live in subst HasKinds (sym (map_was n was)) (st.kinds n was);
  }
