-- Dropping versions that no one sees changes nothing that holds.
use Rattle.wtf_core.proofs.Common.{option_map, is_pinned, is_live, Machine, Told, metadata_at, TxnView, RunView, BesideView, TablesView, of_client, CoreView}
use Rattle.wtf_core.proofs.Common.{AreSound, IsTidied, HasKinds, StampsStand, ScansStand, StandsFor, pinned_live, number_live, live_cases, tidied_moved}
use Rattle.wtf_core.proofs.Common.{ShowsAlike, alike_stand, ◌≡◌, ℕ, IsTrue, Some, sym, ap, subst, ◌∙◌, ⊎_elim, arith}

-- what is pinned was, and what can be read could be
pinned_same : (old new : TablesView) → IsTidied old new → (n : ℕ) → IsTrue (is_pinned new.kv n) → IsTrue (is_pinned old.kv n)
pinned_same old new tidy n pinned = subst (λ l. IsTrue (is_pinned (record old.kv { pins = l }) n)) tidy.pins pinned

pub live_same : (old new : TablesView) → IsTidied old new → (n : ℕ) → IsTrue (is_live new.kv n) → IsTrue (is_live old.kv n)
live_same old new tidy n live = ⊎_elim
    (λ now. subst (λ k. IsTrue (is_live old.kv k)) (sym (now ∙ tidy.number)) (number_live old.kv))
    (λ pinned. pinned_live old.kv n (pinned_same old new tidy n pinned))
    (live_cases new.kv n live)

module _ (old new : TablesView) (sound : AreSound old) (tidy : IsTidied old new) where
  -- the map at the base of an open transaction, and the map now, are what they were
  pub base_same : (c : ℕ) (x : TxnView) → of_client old.clients c ≡ Some x → metadata_at new.kv x.at.base ≡ metadata_at old.kv x.at.base
  base_same c x there = tidy.maps x.at.base (pinned_live old.kv x.at.base (sound.each c x there).fit.pinned)

-- versions that no one sees are gone
pub tidied_alike : (old new : TablesView) → IsTidied old new → ShowsAlike old new
tidied_alike old new tidy = record {
  number = tidy.number;
  maps = tidy.maps;
  moved = λ b. tidied_moved old new b tidy;
  next_tx = tidy.next_tx;
  clients = tidy.clients;
  jobs = ap (λ (b : BesideView). b.jobs) tidy.beside;
  images = ap (λ (b : BesideView). b.images) tidy.beside;
  none = ap (λ (b : BesideView). b.none) tidy.beside;
}

-- the scans stand as before
tidied_scans : (old new : TablesView) (m : Machine) → IsTidied old new → ScansStand old m → ScansStand new m
tidied_scans old new m tidy st = record {
  stamps = subst (λ (b : BesideView). StampsStand (record new { beside = b }) m) (sym tidy.beside) (record {
    listed = st.stamps.listed;
    begun = let was = st.stamps.begun in let next = tidy.next_tx in omega (arith, was, next);
    txns = λ c x t there is. st.stamps.txns c x t (was c x there) is;
    order = λ c d x y t u xc tc yd ud low. st.stamps.order c d x y t u (was c x xc) tc (was d y yd) ud low;
    jobs = st.stamps.jobs;
  });
  parts = st.parts ∙ ap (λ (b : BesideView). option_map (λ (r : RunView). r.left) b.gc.running) (sym tidy.beside);
  some = λ r is. st.some r (ap (λ (b : BesideView). b.gc.running) (sym tidy.beside) ∙ is);
  scans = ap (λ (b : BesideView). b.gc.finished) tidy.beside ∙ st.scans;
  kinds = λ n live. let old_live = live_same old new tidy n live in subst HasKinds (sym (tidy.maps n old_live)) (st.kinds n old_live);
}
  where
    was : (c : ℕ) (x : TxnView) → of_client new.clients c ≡ Some x → of_client old.clients c ≡ Some x
    was c x there = ap (λ l. of_client l c) (sym tidy.clients) ∙ there

-- the core stands for the machine as before
pub core_tidied : (told : Told) (old new : CoreView) (m : Machine) → AreSound old.tables → IsTidied old.tables new.tables
    → new ≡ record old { tables = new.tables } → StandsFor told old m → StandsFor told new m
core_tidied told old new m sound tidy rest stands = subst (λ (core : CoreView). StandsFor told core m) (sym rest) (record {
  settings = stands.settings;
  tables = alike_stand old.tables new.tables sound (tidied_alike old.tables new.tables tidy) old.settings.region told m stands.tables;
  down = stands.down;
  scans = tidied_scans old.tables new.tables m tidy stands.scans;
})
