use Rattle.std.proofs.Common.{ℕ, Option, None, sym, subst}
use Rattle.wtf_region.specs.Devs.{stores, between}
use Rattle.wtf_meta.specs.Maps.{seen}
use Rattle.wtf_model.specs.Form.{IsData}
use Rattle.wtf_ring.specs.Points.{PlaceView}
use Rattle.wtf_rw.specs.Ops.{rw_len}
use Rattle.wtf_replay.specs.Causes.{grown_place}
use Rattle.wtf_steps.specs.Faults.{MayFault}
use Rattle.wtf_steps.specs.Leaving.{LeavesStores}
use Rattle.wtf_steps.proofs.Leaving.{leaves_read}
use Rattle.wtf_slicing.specs.Sights.{sight}
use Rattle.wtf_replay.specs.Views.{in_hand}
use Rattle.wtf_replay.specs.Built.{IsFresh, call_data, data_len}
use Rattle.wtf_replay.specs.Sounds.{tells_slice}
use Rattle.wtf_replay.specs.Works.{work, told_now}
use Rattle.wtf_replay.proofs.EffectLaws.{reads_rw, acts_fresh, holds_fresh}
use Rattle.wtf_replay.proofs.Insiding.{hand_seen}
use Rattle.wtf_replay.proofs.Making.{rw_work}
use Rattle.wtf_replay.proofs.OpLaws.{made_as, plain_self, form_plain}
use Rattle.wtf_replay.proofs.RwLaws.{fresh_ways, fresh_tell, own_len_of}
use Rattle.wtf_replay.proofs.SliceLaws.{plain_own, plain_lacks, plain_place, plain_fault}
use Rattle.wtf_replay.proofs.replay.make_fresh.Goals as goal

pub call-requires-clause-inside : goal.call-requires-clause-inside
call-requires-clause-inside g c =
    hand_seen g.S.SliceStore.kind (stores c.args.dev.now) c.args.dev.now.settings c.args.kv.now (in_hand c.args.at.now
    c.args.session.now) c.requires.inside

pub make_plain-requires-clause-form : goal.make_plain-requires-clause-form
make_plain-requires-clause-form g c = form_plain IsData c.args.op.now c.requires.form

-- a call on handles or bytes
pub returns-in-Ok : goal.returns-in-Ok
returns-in-Ok g c =
    let kind = g.S.SliceStore.kind in
    let dev = c.args.dev.now in
    let into = c.call.new.dev in
    let kv = c.args.kv.now in
    let s = c.args.session.now in
    let b = seen kv c.args.at.now in
    let o = c.args.op.now in
    let r = c.in-Some.made in
    let d = c.in-Ok.done in
    let w = work kind dev into kv (in_hand c.args.at.now s) (in_hand c.call.new.at c.call.new.s) in
    let made = made_as r o c.in-Some.ensures in
    let ways = fresh_ways kind dev into b s r o c.in-Some.ensures in
    let call = c.in-Ok.ensures.call in
    let lists = call.recalls.facts in
    let own = ways.own d.own call.own in
    let lacks = ways.lacks d.own d.answer call.lacks in
    record {
      made = record {
        first = record {
          does = λ x by.
              rw_work w r d.own (call_data o) x o d.answer d.own (λ P has. made.bytes P) (λ P has. has)
              (call.step x (call_data o) by.size_is made.writes made.whole) made.is
              (λ tell. fresh_tell (tells_slice (told_now w)) r o (call_data o) c.in-Some.ensures);
          acted = record {
            lists = lists;
            known = call.recalls.known;
            recalls = call.recalls.recalls;
            reads = reads_rw dev.settings.region b s c.args.new d.answer lists IsFresh r o c.in-Some.ensures call.recalls.reads;
            acts = acts_fresh dev.settings.region b s c.args.new d.answer c.args.at.now c.call.new.at call.grows.base lists
                r o d.own c.in-Some.ensures call.keys call.made;
            holds = holds_fresh (sight dev.settings.region b s c.args.new lists) s c.call.new.s d.answer r o d.own c.in-Some.ensures
                (own_len_of kind dev into b s o d.own own) lacks call.holds;
          };
          own = own;
          lacks = lacks;
          done = call.done;
          logged = call.logged;
        };
        err = tt;
        fault = tt;
        due = tt;
        grows = call.grows;
        leaves = subst (λ (n : ℕ). LeavesStores kind (grown_place dev b s o) n (between dev into)) ways.len
            (subst (λ (p : Option PlaceView). LeavesStores kind p (rw_len r) (between dev into)) ways.place call.leaves);
        reads = λ none. call.reads (ways.none none);
        dev = call.dev;
      };
    }

pub returns-in-Err : goal.returns-in-Err
returns-in-Err g c =
    let kind = g.S.SliceStore.kind in
    let dev = c.args.dev.now in
    let s = c.args.session.now in
    let b = seen c.args.kv.now c.args.at.now in
    let o = c.args.op.now in
    let r = c.in-Some.made in
    let made = made_as r o c.in-Some.ensures in
    let ways = fresh_ways kind dev c.call.new.dev b s r o c.in-Some.ensures in
    let call = c.in-Err.ensures.call in
    record {
      made = record {
        first = tt;
        err = c.in-Err.ensures.err;
        fault = ways.fault c.in-Err.why call.fault;
        due = subst (λ q. MayFault dev.settings b s q c.in-Err.why) made.is (call.due (call_data o) made.writes);
        grows = call.grows;
        leaves = subst (λ (n : ℕ). LeavesStores kind (grown_place dev b s o) n (between dev c.call.new.dev)) ways.len
            (subst (λ (p : Option PlaceView). LeavesStores kind p (rw_len r) (between dev c.call.new.dev)) ways.place call.leaves);
        reads = λ none. call.reads (ways.none none);
        dev = call.dev;
      };
    }

-- or one without data
pub returns-in-Ok-make_plain : goal.returns-in-Ok-make_plain
returns-in-Ok-make_plain g c =
    let kind = g.S.SliceStore.kind in
    let b = seen c.args.kv.now c.args.at.now in
    let o = c.args.op.now in
    let plain = c.in-Ok-make_plain.ensures.made in
    record {
      made = record {
        first = record {
          does = λ x by. plain.does x None o (plain_self o c.in-None.ensures) by;
          acted = plain.acted (data_len o) None;
          own = plain_own kind c.args.dev.now c.make_plain.new.dev b c.args.session.now o c.in-None.ensures plain.still;
          lacks = plain_lacks o c.in-Ok-make_plain.answer c.in-None.ensures;
          done = λ some. absurd (cc);
          logged = plain.logged;
        };
        err = tt;
        fault = tt;
        due = tt;
        grows = plain.grows;
        leaves = subst (λ (p : Option PlaceView). LeavesStores g.S.SliceStore.kind p (data_len o) (between c.args.dev.now c.make_plain.new.dev))
            (sym (plain_place c.args.dev.now b c.args.session.now o c.in-None.ensures))
            (leaves_read g.S.SliceStore.kind (between c.args.dev.now c.make_plain.new.dev) (data_len o) plain.reads);
        reads = λ none. plain.reads;
        dev = plain.dev;
      };
    }

pub returns-in-Err-make_plain : goal.returns-in-Err-make_plain
returns-in-Err-make_plain g c =
    let b = seen c.args.kv.now c.args.at.now in
    let o = c.args.op.now in
    let plain = c.in-Err-make_plain.ensures.made in
    record {
      made = record {
        first = tt;
        err = plain.err;
        fault = plain_fault g.S.SliceStore.kind c.args.dev.now c.make_plain.new.dev b c.args.session.now o c.in-None.ensures
            c.in-Err-make_plain.why plain.fault;
        due = plain.due o (plain_self o c.in-None.ensures);
        grows = plain.grows;
        leaves = subst (λ (p : Option PlaceView). LeavesStores g.S.SliceStore.kind p (data_len o) (between c.args.dev.now c.make_plain.new.dev))
            (sym (plain_place c.args.dev.now b c.args.session.now o c.in-None.ensures))
            (leaves_read g.S.SliceStore.kind (between c.args.dev.now c.make_plain.new.dev) (data_len o) plain.reads);
        reads = λ none. plain.reads;
        dev = plain.dev;
      };
    }
