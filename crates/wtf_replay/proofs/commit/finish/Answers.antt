use Rattle.std.proofs.Common.{◌≡◌, nat_eq, count_by, length, refl, sym, ap, ◌∙◌, subst, inl, inr}
use Rattle.std.specs.Prelude.{IfSome}
use Rattle.std.proofs.lemmas.Result.{IfOk-weaker, IfErr-weaker}
use Rattle.wtf_replica.specs.Bytes.{byte_at}
use Rattle.wtf_occ.specs.Attempts.{Attempted, Grows}
use Rattle.wtf_values.specs.declared.key.Key.{Key}
use Rattle.wtf_values.specs.declared.value.Delta.{Delta}
use Rattle.wtf_meta.specs.Contents.{Told}
use Rattle.wtf_meta.specs.Bytes.{MapBytes}
use Rattle.wtf_meta.specs.Maps.{metadata_at}
use Rattle.wtf_meta.specs.Trees.{Stands}
use Rattle.wtf_meta.proofs.MapBytes.{with_bytes}
use Rattle.wtf_region.specs.Devs.{stores}
use Rattle.wtf_replay.specs.Views.{TxnView, in_hand, replaying}
use Rattle.wtf_replay.specs.Insides.{NamesNow}
use Rattle.wtf_replay.specs.Sounds.{TellsMap}
use Rattle.wtf_replay.specs.Replays.{IsReplay}
use Rattle.wtf_replay.specs.Effects.{scope, StopsAt}
use Rattle.wtf_replay.proofs.Naming.{named_none, named_by}
use Rattle.wtf_replay.proofs.Trying.{final_from}
use Rattle.wtf_replay.proofs.Ending.{ended_aborted, true_end_aborted, final_as, on_ok_any, on_err_any}
use Rattle.wtf_replay.proofs.Faulting.{replay_fault, end_short}
use Rattle.wtf_replay.proofs.Installing.{installs_from, install_aborted}
use Rattle.wtf_replay.proofs.commit.finish.Goals as goal

-- a call gave a fault
pub returns-in-Err-clause-made : goal.returns-in-Err-clause-made
returns-in-Err-clause-made g c =
    let kv = c.args.kv.now in
    let dev = c.args.dev.now in
    let kind = g.S.SliceStore.kind in
    let old = replaying c.args.tx.0 c.args.at.now c.args.session.now c.args.log.now c.args.from in
    let made = c.in-Err.ensures.made in
    record {
      ended = tt;
      installs = tt;
      meaning = tt;
      named = tt;
      maps = λ n le. refl;
      pins = λ n. refl;
      err_store = (refl, λ q. refl);
      fault = inr made.fault;
      due = λ ops start.
          let map : TellsMap kind dev start.0 (metadata_at kv c.args.at.now.base) =
          subst (λ n. TellsMap kind dev start.0 (metadata_at kv n)) (sym c.requires.base) start.1 in
          λ t st. replay_fault g.met.S.SliceStore.laws dev c.replay_from.new.dev kv old ops c.in-Err.why start.0 map start.2 start.3 made.fault t
          (subst (λ n. Stands dev.settings.region (byte_at kind (stores dev)) c.args.tx.0 0 (metadata_at kv n) t) (sym c.requires.base) st);
      reads = made.reads;
      dev = made.dev;
    }

-- one answered otherwise than was shown
pub returns-in-Some-clause-made : goal.returns-in-Some-clause-made
returns-in-Some-clause-made g c =
    let kind = g.S.SliceStore.kind in
    let kv = c.args.kv.now in
    let dev = c.args.dev.now in
    let into = c.replay_from.new.dev in
    let size = dev.settings.region in
    let before : Told = byte_at kind (stores dev) in
    let told : Told × Told = (before, byte_at kind (stores into)) in
    let old = replaying c.args.tx.0 c.args.at.now c.args.session.now c.args.log.now c.args.from in
    let new = replaying c.args.tx.0 c.replay_from.new.at c.replay_from.new.session c.args.log.now (length c.args.log.now.ops) in
    let made = c.in-Ok.ensures.made in
    let r = c.aborted.result in
    let is = c.aborted.ensures in
    let i = c.in-Some.both.0 in
    let a = c.in-Some.both.1 in
    let base : kv.number ≡ c.replay_from.new.at.base = sym (made.grows.base ∙ c.requires.base) in
    let stops : StopsAt (scope kind dev into) kv old i a =
    subst (λ z. IfSome z (λ p. StopsAt (scope kind dev into) kv old p.0 p.1)) c.in-Some.is made.stops in
    record {
      ended = IfOk-weaker r _ _ (λ q at. ended_aborted q i a kv kv at refl) is.made;
      installs = IfOk-weaker r _ _ (λ q at. install_aborted q i a (scope kind dev into) kv kv old at (record { stops = stops; versions = λ k. refl })) is.made;
      meaning = IfOk-weaker r _ _ (λ q at ops start.
          let map : TellsMap kind dev start.0 (metadata_at kv c.args.at.now.base) =
          subst (λ n. TellsMap kind dev start.0 (metadata_at kv n)) (sym c.requires.base) start.1 in
          let other = subst (λ z. IsReplay size kv told new ops z) c.in-Some.is (made.replay ops start.0 map start.2 start.3) in
          true_end_aborted q i a size told kv kv old ops at
          (λ t st. other t (subst (λ b. Stands size before c.args.tx.0 0 (metadata_at kv b) t) base st))) is.made;
      named = let none : NamesNow kind dev into kv kv old = named_none (λ P Q hole were. were.1) in on_ok_any r none;
      maps = λ n le. refl;
      pins = λ n. refl;
      err_store = on_err_any r (refl, λ q. refl);
      fault = IfErr-weaker r _ _ (λ why short. inl short) is.fault;
      due = IfErr-weaker r _ _ (λ why short ops start. end_short dev.settings (metadata_at kv kv.number) before old why short) is.fault;
      reads = made.reads;
      dev = made.dev;
    }

-- what was done is installed
pub returns-in-Ok-install_now-clause-made : goal.returns-in-Ok-install_now-clause-made
returns-in-Ok-install_now-clause-made g c =
    let kind = g.S.SliceStore.kind in
    let kv = c.args.kv.now in
    let dev = c.args.dev.now in
    let into = c.replay_from.new.dev in
    let after = c.install_now.new.kv in
    let size = dev.settings.region in
    let later : Told = byte_at kind (stores into) in
    let told : Told × Told = (byte_at kind (stores dev), later) in
    let old : TxnView = replaying c.args.tx.0 c.args.at.now c.args.session.now c.args.log.now c.args.from in
    let new = replaying c.args.tx.0 c.replay_from.new.at c.replay_from.new.session c.args.log.now (length c.args.log.now.ops) in
    let made = c.in-Ok.ensures.made in
    let n = c.in-Ok-install_now.n in
    let installed = c.in-Ok-install_now.ensures.installed in
    let leaves = c.in-Ok-install_now.ensures.leaves in
    let base : c.replay_from.new.at.base ≡ kv.number = made.grows.base ∙ c.requires.base in
    let redone = made.redone c.in_default.is in
    record {
      ended = (installed.next, installed.number);
      installs = installs_from (scope kind dev into) kv after old redone.0 (in_hand c.replay_from.new.at c.replay_from.new.session) n redone.1 redone.2
          installed;
      meaning = λ ops start.
          let map : TellsMap kind dev start.0 (metadata_at kv c.args.at.now.base) =
          subst (λ m. TellsMap kind dev start.0 (metadata_at kv m)) (sym c.requires.base) start.1 in
          let whole = subst (λ z. IsReplay size kv told new ops z) c.in_default.is (made.replay ops start.0 map start.2 start.3) in
          final_as size later kv after new old ops n refl refl (final_from size kv later new ops whole after n c.requires.log refl installed);
      named = named_by made.named (λ P Q were. (were.0.hand, were.0.log)) (λ P Q hole were are.
          let was = subst (λ m. MapBytes P Q (metadata_at kv m)) base are.base in
          subst (MapBytes P Q) (sym (ap (metadata_at after) installed.number ∙ installed.map))
          (with_bytes P Q hole c.replay_from.new.at.changes (metadata_at kv kv.number) was are.changes));
      maps = leaves.maps;
      pins = λ m. ap (count_by (nat_eq m)) leaves.pins;
      err_store = tt;
      fault = tt;
      due = tt;
      reads = made.reads;
      dev = made.dev;
    }

pub returns-in-Err-install_now-clause-made : goal.returns-in-Err-install_now-clause-made
returns-in-Err-install_now-clause-made g c =
    let kind = g.S.SliceStore.kind in
    let kv = c.args.kv.now in
    let dev = c.args.dev.now in
    let old = replaying c.args.tx.0 c.args.at.now c.args.session.now c.args.log.now c.args.from in
    let made = c.in-Ok.ensures.made in
    let leaves = c.in-Err-install_now.ensures.leaves in
    let short = c.in-Err-install_now.ensures.fault in
    record {
      ended = tt;
      installs = tt;
      meaning = tt;
      named = tt;
      maps = leaves.maps;
      pins = λ m. ap (count_by (nat_eq m)) leaves.pins;
      err_store = leaves.err;
      fault = inl short;
      due = λ ops start. end_short dev.settings (metadata_at kv kv.number) (byte_at kind (stores dev)) old c.in-Err-install_now.why short;
      reads = made.reads;
      dev = made.dev;
    }

pub returns-in-Ok-install_now-clause-grows : goal.returns-in-Ok-install_now-clause-grows
returns-in-Ok-install_now-clause-grows g c =
    subst (λ (at : Attempted Key Delta). Grows c.args.at.now at) (sym c.in-Ok-install_now.ensures.same) c.in-Ok.ensures.made.grows

pub returns-in-Err-install_now-clause-grows : goal.returns-in-Err-install_now-clause-grows
returns-in-Err-install_now-clause-grows g c =
    subst (λ (at : Attempted Key Delta). Grows c.args.at.now at) (sym c.in-Err-install_now.ensures.same) c.in-Ok.ensures.made.grows
