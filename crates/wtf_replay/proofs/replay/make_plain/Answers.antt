use Rattle.std.proofs.Common.{◌≡◌, [], refl, subst}
use Rattle.std.proofs.lemmas.Result.{IfOk-weaker, IfErr-weaker, on_err_weaker}
use Rattle.wtf_base.specs.declared.fault.Fault.TheVariants as fault
use Rattle.wtf_meta.specs.Maps.{seen}
use Rattle.wtf_region.specs.Devs.{stores, is_down_in}
use Rattle.wtf_region.proofs.Recalls.{recalls_same}
use Rattle.wtf_region.proofs.ShowLaws.{reads_nothing}
use Rattle.wtf_region.proofs.Spans.{goes_nowhere}
use Rattle.wtf_steps.specs.Faults.{MayFault}
use Rattle.wtf_slicing.specs.Sights.{sight}
use Rattle.wtf_replay.specs.Views.{in_hand}
use Rattle.wtf_replay.specs.Works.{work, scene_of}
use Rattle.wtf_replay.proofs.EffectLaws.{if_all, reads_slice, reads_name, acts_slice, holds_slice}
use Rattle.wtf_replay.proofs.Insiding.{hand_seen}
use Rattle.wtf_replay.proofs.Looking.{name_work}
use Rattle.wtf_replay.proofs.SliceLaws.{memory_fault, memory_due, slice_ways, slice_work}
use Rattle.wtf_replay.proofs.replay.make_plain.Goals as goal

pub call-requires-clause-inside : goal.call-requires-clause-inside
call-requires-clause-inside g c = (
  hand_seen g.S.SliceStore.kind (stores c.args.dev.now) c.args.dev.now.settings c.args.kv.now (in_hand c.args.at.now c.args.session.now) c.requires.inside,
  c.requires.inside.slices,
)

pub call-requires-clause-form : goal.call-requires-clause-form
call-requires-clause-form g c =
    let ways = slice_ways g.S.SliceStore.kind c.args.dev.now c.args.dev.now
    (seen c.args.kv.now c.args.at.now) c.args.session.now c.in-Some.made c.args.op.now c.in-Some.ensures in
    ways.form c.requires.form

pub returns-in-Some : goal.returns-in-Some
returns-in-Some g c =
    let kind = g.S.SliceStore.kind in
    let dev = c.args.dev.now in
    let into = c.call.new.dev in
    let kv = c.args.kv.now in
    let s = c.args.session.now in
    let op = c.args.op.now in
    let made = c.in-Some.made in
    let w = work kind dev into kv (in_hand c.args.at.now s) (in_hand c.call.new.at c.call.new.s) in
    let b = seen kv c.args.at.now in
    let ways = slice_ways kind dev into b s made op c.in-Some.ensures in
    let call = c.call.ensures.call in
    record {
      made = record {
        does = IfOk-weaker c.call.result _ _ (λ a step x own p plain by. slice_work w own made x p a (step x by.size_is by.next) (ways.is p plain)) call.step;
        acted = if_all c.call.result _ _ call.keys call.done (λ a keys one n own.
            let lists = one.recalls.facts in
            record {
              lists = lists;
              known = one.recalls.known;
              recalls = one.recalls.recalls;
              reads = reads_slice dev.settings.region b s c.args.new a lists made op c.in-Some.ensures one.recalls.reads;
              acts = acts_slice dev.settings.region b s c.args.new a c.args.at.now c.call.new.at call.grows.base lists
                  n own made op c.in-Some.ensures keys one.makes;
              holds = holds_slice (sight dev.settings.region b s c.args.new lists) s c.call.new.s a own made op c.in-Some.ensures one.holds;
            });
        logged = call.logged;
        err = c.call.ensures.err;
        fault = IfErr-weaker c.call.result _ _ ways.fault call.fault;
        due = IfErr-weaker c.call.result _ _ (λ why may p plain. subst (λ q. MayFault dev.settings b s q why) (ways.is p plain) may) call.due;
        grows = call.grows;
        still = λ quiet. call.still (ways.still quiet);
        reads = call.reads;
        dev = call.dev;
      };
    }

pub returns-in-None : goal.returns-in-None
returns-in-None g c =
    let kind = g.S.SliceStore.kind in
    let dev = c.args.dev.now in
    let kv = c.args.kv.now in
    let s = c.args.session.now in
    let op = c.args.op.now in
    let w = work kind dev dev kv (in_hand c.args.at.now s) (in_hand c.make_name.new.at s) in
    let b = seen kv c.args.at.now in
    let name = c.make_name.ensures in
    record {
      made = record {
        does = IfOk-weaker c.make_name.result _ _ (λ a named x own p plain by.
            name_work w own x p a (named.step x p plain by.next) refl) name.named;
        acted = IfOk-weaker c.make_name.result _ _ (λ a named n own. record {
          lists = [];
          known = λ ranges cache told away. tt;
          recalls = recalls_same kind dev dev refl;
          reads = reads_name (sight dev.settings.region b s c.args.new []) op a c.requires.plain c.in-None.ensures refl;
          acts = named.acts dev.settings.region n own;
          holds = named.holds dev.settings.region own;
        }) name.named;
        logged = IfOk-weaker c.make_name.result _ _ (λ a named. named.logged) name.named;
        err = on_err_weaker c.make_name.result (λ same. (same, refl)) name.err;
        fault = IfErr-weaker c.make_name.result _ _
            (λ why is. memory_fault (scene_of w) (λ d y. y ≡ fault.Memory) s op why (λ d. is) (λ peeks. refl) is) name.fault;
        due = IfErr-weaker c.make_name.result _ _ (λ why is p plain. memory_due dev.settings b s p why is) name.fault;
        grows = name.grows;
        still = λ quiet. refl;
        reads = reads_nothing kind (is_down_in dev) (stores dev);
        dev = goes_nowhere g.met.S.SliceStore.laws dev c.requires.sound;
      };
    }
