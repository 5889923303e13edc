use Rattle.std.proofs.Common.{◌≡◌, ◌≢◌, ◌<◌, ◌≤◌, ◌+◌, ◌-◌, ◌++◌, ℕ, [], length, true, false, Some, slice_get, refl, sym, ap, ◌∙◌, subst, arith}
use Rattle.wtf_base.specs.declared.settings.Settings.{Settings}
use Rattle.wtf_occ.specs.Attempts.{Attempted}
use Rattle.wtf_occ.proofs.AttemptLaws.{GrowsBy-nothing, Grows-by, Grows-on}
use Rattle.wtf_replica.specs.Bytes.{byte_at}
use Rattle.wtf_values.specs.declared.key.Key.{Key}
use Rattle.wtf_values.specs.declared.value.Delta.{Delta}
use Rattle.wtf_meta.specs.Maps.{AllFit, metadata_at}
use Rattle.wtf_meta.specs.Trees.{Stands}
use Rattle.wtf_region.specs.Devs.{stores, is_down_in}
use Rattle.wtf_region.proofs.Recalls.{recalls_same, recalls_on}
use Rattle.wtf_region.proofs.ShowLaws.{reads_nothing, reads_over}
use Rattle.wtf_region.proofs.Spans.{goes_nowhere, goes_on}
use Rattle.wtf_replay.specs.Views.{in_hand, replaying}
use Rattle.wtf_replay.specs.Insides.{IsHandInside, IsLogInside}
use Rattle.wtf_replay.specs.Replays.{DeviatesOn}
use Rattle.wtf_replay.specs.Sounds.{LogStands, TellsMap, IsAwayTxn}
use Rattle.wtf_replay.specs.Works.{work}
use Rattle.wtf_replay.proofs.Again.{again_same, again_other}
use Rattle.wtf_replay.proofs.Insiding.{log_later}
use Rattle.wtf_replay.proofs.Later.{tells_on, tells_map_on, deviates_since}
use Rattle.wtf_replay.proofs.Naming.{named_none, again_on, replay_away}
use Rattle.wtf_replay.proofs.Stepping.{next_named, next_fit, next_told, next_due, next_makes, next_redoes, again_inside}
use Rattle.wtf_replay.specs.Effects.{Scope, scope, AreRedone}
use Rattle.wtf_replay.proofs.EffectLaws.{redone_none, redone_more, stops_at, makes_later, redo_later, redone_later}
use Rattle.wtf_replay.proofs.Scopes.{scope_later, scope_since}
use Rattle.wtf_replay.proofs.replay.replay_from.Goals as goal

-- no call was made once more yet
pub loop-k-init : goal.loop-k-init
loop-k-init g c =
    let kind = g.S.SliceStore.kind in
    let kv = c.args.kv.now in
    let dev = c.args.dev.now in
    let log = c.args.log.now in
    let hand = in_hand c.args.at.now c.args.session.now in
    record {
      from = omega arith;
      upto = c.requires.from;
      end = c.len-k-end.ensures.ops;
      grows = Grows-by c.args.at.now c.args.at.now [] [] (GrowsBy-nothing c.args.at.now);
      fit = c.requires.fits;
      inside = c.requires.inside;
      named = named_none (λ P Q hole were. were.0);
      logged = c.requires.logged;
      reads = reads_nothing kind (is_down_in dev) (stores dev);
      dev = goes_nowhere g.met.S.SliceStore.laws dev c.requires.sound;
      redone = (
        [],
        redone_none (scope kind dev dev) kv (replaying c.args.tx.0 c.args.at.now c.args.session.now log c.args.from) (c.args.from - c.args.from) hand
            (omega arith) refl,
        recalls_same kind dev dev refl,
      );
      sound = λ ops ranges tells away start. start;
    }

pub loop-k-preserved : goal.loop-k-preserved
unfolding redo_later makes_later next_redoes next_makes
loop-k-preserved g c =
    let kind = g.S.SliceStore.kind in
    let laws = g.met.S.SliceStore.laws in
    let kv = c.args.kv.now in
    let log = c.args.log.now in
    let dev = c.args.dev.now in
    let mid = c.loop-k.dev in
    let new = c.make_again.new.dev in
    let inv = c.loop-k.invariant in
    let end = inv.end in
    let from = inv.from in
    let test = c.loop-k-test.true in
    let left : c.loop-k.k < length log.ops = omega (arith, test, end) in
    let x = replaying c.args.tx.0 c.loop-k.at c.loop-k.session log c.loop-k.k in
    let y = replaying c.args.tx.0 c.make_again.new.at c.make_again.new.session log (c.loop-k.k + 1) in
    let size : mid.settings.region ≡ dev.settings.region = ap (λ (s : Settings). s.region) inv.dev.settings in
    let start = replaying c.args.tx.0 c.args.at.now c.args.session.now log c.args.from in
    let here : c.loop-k.k ≡ start.replayed + (c.loop-k.k - c.args.from) = omega (arith, from) in
    let whole : Scope = scope kind dev new in
    let there = in_hand c.loop-k.at c.loop-k.session in
    let next = in_hand c.make_again.new.at c.make_again.new.session in
    let enough : dev.settings.servers ≤ length (stores mid) = subst (λ (s : Settings). s.servers ≤ length (stores mid)) inv.dev.settings inv.dev.sound.shelf in
    let w = work kind mid new kv there next in
    let made = c.in-Ok.ensures.made in
    let a = c.in-Ok.both.0 in
    let shown = made.same.0 c.if-not-same.false in
    let named = next_named w c.args.tx.0 log c.loop-k.k a made.next in
    let inside : IsHandInside kind (stores mid) mid.settings kv there =
    subst (λ (s : Settings). IsHandInside kind (stores mid) s kv there) (sym inv.dev.settings) inv.inside in
    let logged : IsLogInside kind (stores mid) mid.settings log =
    subst (λ (s : Settings). IsLogInside kind (stores mid) s log) (sym inv.dev.settings) inv.logged in
    record {
      from = omega (arith, from);
      upto = omega (arith, left);
      end = end;
      grows = Grows-on c.args.at.now c.loop-k.at c.make_again.new.at inv.grows made.grows;
      fit = next_fit w c.args.tx.0 log c.loop-k.k a made.next inv.fit;
      inside = subst (λ (s : Settings). IsHandInside kind (stores new) s kv next) inv.dev.settings
          (again_inside laws made.dev inv.dev.sound.shelf kv there next log named inside logged);
      named = again_on laws inv.dev made.dev kv (in_hand c.args.at.now c.args.session.now) there next log inv.named named;
      logged = log_later laws made.dev.each dev.settings enough log inv.logged;
      reads = reads_over kind dev mid new inv.dev inv.reads made.reads;
      dev = goes_on laws inv.dev made.dev;
      redone =
          let one = redo_later (scope kind mid new) whole (sym size) (scope_since laws new inv.dev) kv start c.loop-k.k there next
          (next_redoes w c.args.tx.0 log c.loop-k.k a made.next shown start refl refl) in (
            inv.redone.0 ++ one.makes.lists,
            redone_more whole kv start (c.loop-k.k - c.args.from) (c.loop-k.k + 1 - c.args.from) c.loop-k.k inv.redone.0 there next (omega (arith, from)) here
                (redone_later (scope kind dev mid) whole refl (scope_later laws dev made.dev) kv start
                (c.loop-k.k - c.args.from) inv.redone.0 there inv.redone.1) one,
            recalls_on laws inv.dev made.dev inv.redone.0 one.makes.lists inv.redone.2 made.next.again.acted.recalls,
          );
      sound = λ ops ranges tells away begins.
          let tells_mid : TellsMap kind mid ranges (metadata_at kv c.loop-k.at.base) =
          subst (λ n. TellsMap kind mid ranges (metadata_at kv n)) (sym inv.grows.base)
          (tells_map_on laws inv.dev ranges (metadata_at kv c.args.at.now.base) tells) in
          let away_mid : IsAwayTxn kind mid ranges kv x = replay_away laws inv.dev ranges kv start x ops begins tells away refl inv.named in
          let sound : LogStands mid.settings.region kv (byte_at kind (stores mid)) x ops =
          subst (λ z. LogStands z kv (byte_at kind (stores mid)) x ops) (sym size)
          (inv.sound ops ranges tells away begins) in
          subst (λ z. LogStands z kv (byte_at kind (stores new)) y ops) size
          (again_same laws made.dev ranges kv x ops sound tells_mid away_mid left y a
          (λ kept o at. next_told w c.args.tx.0 log c.loop-k.k a made.next laws made.dev c.requires.log shown ranges kept o at) shown refl refl refl);
    }

-- a call gave a fault
pub returns-in-Err : goal.returns-in-Err
returns-in-Err g c =
    let inv = c.loop-k.invariant in
    let kv = c.args.kv.now in
    let made = c.in-Err.ensures.made in
    record {
      made = record {
        replay = tt;
        redone = tt;
        stops = tt;
        named = tt;
        fault = record {
          mid = c.loop-k.dev;
          goes = inv.dev;
          at = c.loop-k.at;
          session = c.loop-k.session;
          k = c.loop-k.k;
          from = inv.from;
          base = inv.grows.base;
          lists = inv.redone.0;
          redone = inv.redone.1;
          recalls = inv.redone.2;
          named = inv.named;
          done = inv.sound;
          fault = made.fault;
        };
        fit = subst (λ (a : Attempted Key Delta). AllFit a.changes (metadata_at kv a.base)) (sym made.err.0) inv.fit;
        grows = Grows-on c.args.at.now c.loop-k.at c.make_again.new.at inv.grows made.grows;
        reads = reads_over g.S.SliceStore.kind c.args.dev.now c.loop-k.dev c.make_again.new.dev inv.dev inv.reads made.reads;
        dev = goes_on g.met.S.SliceStore.laws inv.dev made.dev;
      };
    }

-- or answered otherwise than was shown
pub returns-then-not-same : goal.returns-then-not-same
unfolding makes_later next_makes
returns-then-not-same g c =
    let kind = g.S.SliceStore.kind in
    let laws = g.met.S.SliceStore.laws in
    let kv = c.args.kv.now in
    let log = c.args.log.now in
    let dev = c.args.dev.now in
    let mid = c.loop-k.dev in
    let new = c.make_again.new.dev in
    let inv = c.loop-k.invariant in
    let end = inv.end in
    let test = c.loop-k-test.true in
    let left : c.loop-k.k < length log.ops = omega (arith, test, end) in
    let x = replaying c.args.tx.0 c.loop-k.at c.loop-k.session log c.loop-k.k in
    let size : mid.settings.region ≡ dev.settings.region = ap (λ (s : Settings). s.region) inv.dev.settings in
    let begun = replaying c.args.tx.0 c.args.at.now c.args.session.now log c.args.from in
    let there = in_hand c.loop-k.at c.loop-k.session in
    let next = in_hand c.make_again.new.at c.make_again.new.session in
    let w = work kind mid new kv there next in
    let made = c.in-Ok.ensures.made in
    let a = c.in-Ok.both.0 in
    let from = inv.from in
    let here : c.loop-k.k ≡ begun.replayed + (c.loop-k.k - c.args.from) = omega (arith, from) in
    let whole : Scope = scope kind dev new in
    let differs : slice_get log.shown c.loop-k.k ≢ Some a = λ e.
    let hit : c.in-Ok.both.1 ≡ true = made.same.1 e in let bad : true ≡ false = sym hit ∙ c.if-not-same.true in cc in
    record {
      made = record {
        replay = λ ops ranges tells away start.
            let tells_mid : TellsMap kind mid ranges (metadata_at kv c.loop-k.at.base) =
            subst (λ n. TellsMap kind mid ranges (metadata_at kv n)) (sym inv.grows.base)
            (tells_map_on laws inv.dev ranges (metadata_at kv c.args.at.now.base) tells) in
            let away_mid : IsAwayTxn kind mid ranges kv x = replay_away laws inv.dev ranges kv begun x ops start tells away refl inv.named in
            let sound : LogStands mid.settings.region kv (byte_at kind (stores mid)) x ops =
            subst (λ z. LogStands z kv (byte_at kind (stores mid)) x ops) (sym size)
            (inv.sound ops ranges tells away start) in
            let other = again_other laws made.dev ranges kv x ops sound tells_mid away_mid left a
            (λ kept o at. next_due w c.args.tx.0 log c.loop-k.k a made.next ranges kept o at) differs in
            let there_too = subst (λ z. DeviatesOn (metadata_at kv c.loop-k.at.base) z (byte_at kind (stores mid)) x ops (c.loop-k.k + 1) a) size other in
            let first = deviates_since (metadata_at kv c.loop-k.at.base) dev.settings.region (byte_at kind (stores dev)) (byte_at kind (stores mid)) x ops
            (c.loop-k.k + 1) a (tells_on laws inv.dev.each) there_too in
            λ t st. first t (subst (λ b. Stands dev.settings.region (byte_at kind (stores dev)) c.args.tx.0 0 (metadata_at kv b) t) made.grows.base st);
        redone = λ none. absurd (cc);
        stops =
            let one = makes_later (scope kind mid new) whole (sym size) (scope_since laws new inv.dev) kv begun c.loop-k.k a there next
            (next_makes w c.args.tx.0 log c.loop-k.k a made.next begun refl refl) in
            stops_at whole kv begun (c.loop-k.k - c.args.from) c.loop-k.k inv.redone.0 there next a here
            (redone_later (scope kind dev mid) whole refl (scope_later laws dev made.dev) kv begun (c.loop-k.k - c.args.from) inv.redone.0 there inv.redone.1)
            one differs (recalls_on laws inv.dev made.dev inv.redone.0 one.lists inv.redone.2 made.next.again.acted.recalls);
        named = again_on laws inv.dev made.dev kv (in_hand c.args.at.now c.args.session.now) there next log inv.named
            (next_named w c.args.tx.0 log c.loop-k.k a made.next);
        fault = tt;
        fit = next_fit w c.args.tx.0 log c.loop-k.k a made.next inv.fit;
        grows = Grows-on c.args.at.now c.loop-k.at c.make_again.new.at inv.grows made.grows;
        reads = reads_over kind dev mid new inv.dev inv.reads made.reads;
        dev = goes_on laws inv.dev made.dev;
      };
    }

-- all calls were made once more, and each answered what was shown
pub returns : goal.returns
returns g c =
    let kind = g.S.SliceStore.kind in
    let kv = c.args.kv.now in
    let dev = c.args.dev.now in
    let log = c.args.log.now in
    let inv = c.loop-k.invariant in
    let end = inv.end in
    let upto = inv.upto in
    let all : c.loop-k.k ≡ length log.ops = omega (arith, end, upto, c.loop-k-test.false) in
    record {
      made = record {
        replay = λ ops ranges tells away start.
            subst (λ (n : ℕ). LogStands dev.settings.region kv (byte_at kind (stores c.loop-k.dev))
            (replaying c.args.tx.0 c.loop-k.at c.loop-k.session log n) ops) all (inv.sound ops ranges tells away start);
        redone = λ none. (
          inv.redone.0,
          subst (λ (n : ℕ). AreRedone (scope kind dev c.loop-k.dev) kv
              (replaying c.args.tx.0 c.args.at.now c.args.session.now log c.args.from) (n - c.args.from)
              inv.redone.0 (in_hand c.loop-k.at c.loop-k.session)) all inv.redone.1,
          inv.redone.2,
        );
        stops = tt;
        named = inv.named;
        fault = tt;
        fit = inv.fit;
        grows = inv.grows;
        reads = inv.reads;
        dev = inv.dev;
      };
    }
