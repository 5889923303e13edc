use Rattle.std.proofs.Common.{ℕ, [], length, refl, subst}
use Rattle.std.specs.Prelude.{IfOk, IfErr}
use Rattle.std.proofs.lemmas.Result.{IfOk-weaker}
use Rattle.wtf_base.specs.declared.settings.Settings.{Settings}
use Rattle.wtf_ring.specs.Orders.{IsOrder}
use Rattle.wtf_ring.specs.Points.{PlaceView}
use Rattle.wtf_replica.specs.Copies.{IsStored, GrowsOnce}
use Rattle.wtf_replica.specs.Downs.{during, settings_of}
use Rattle.wtf_replica.specs.Faults.{IsWriteFault}
use Rattle.wtf_region.specs.Inside.{IsOnServers}
use Rattle.wtf_region.proofs.InsideLaws.{stored_on, unnamed}
use Rattle.wtf_region.proofs.Spans.{goes_by}
use Rattle.wtf_region.proofs.store.store_bytes.Goals as goal

pub returns : goal.returns
returns g c =
    let kind = g.S.SliceStore.kind in
    let dev = c.args.dev.now in
    let bytes = c.args.bytes.now in
    let made = c.create.ensures in
    let r = c.create.result in
    let t = during dev.replicas.now dev.shelf.now c.create.new.shelf in
    let place = c.place-place.result.now in
    let at = c.place-place.ensures.value in
    let settings = c.requires.sound.replicas in
    let left = c.place-place.follows.holds-at-none in
    let order = subst (λ (n : ℕ). IsOrder n place.servers) c.requires.sound.ring at.order in
    record {
      stored = subst (λ (p : PlaceView). IfOk r (IsStored kind t dev.settings.replicas p bytes)) at.value
          (subst (λ (st : Settings). IfOk r (IsStored kind t st.replicas place bytes)) settings made.stored);
      holds = made.holds;
      inside = made.inside;
      known = IfOk-weaker r (IsStored kind t (settings_of dev.replicas.now).replicas place bytes) (IsOnServers dev.settings.servers)
          (λ s stored. stored_on dev.settings.servers stored order.known)
          made.stored;
      fault = subst (λ (st : Settings). IfErr r (IsWriteFault kind t st)) settings made.fault;
      down = made.down;
      order = subst (λ (p : PlaceView). IsOrder dev.settings.servers p.servers) at.value order;
      grows = subst (λ (p : PlaceView). GrowsOnce kind t p (length bytes)) at.value made.grows;
      lists = left.1;
      syncs = made.syncs;
      dev = goes_by g.met.S.SliceStore.laws dev _ [] c.requires.sound refl refl left.1 left.0 refl refl refl made.follows
          (λ k d low. made.grows.beside k d (unnamed dev.settings.servers place.servers k order low));
    }
