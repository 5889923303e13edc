use Rattle.std.proofs.Common.{ℕ, List, None, sym, ap, ◌∙◌, subst, inl, inr}
use Rattle.wtf_base.specs.declared.settings.Settings.{Settings}
use Rattle.wtf_base.specs.Slices.{len_of}
use Rattle.wtf_overlay.specs.Origin.{part_origin}
use Rattle.wtf_overlay.specs.declared.part.Part.TheVariants.{Held}
use Rattle.wtf_model.specs.Form.{IsKeptData}
use Rattle.wtf_model.specs.declared.op.Op.{Op}
use Rattle.wtf_log.specs.Calls.{own_of}
use Rattle.wtf_log.specs.Standing.{OpStandsFor}
use Rattle.wtf_log.proofs.StandingLaws.{OpStandsFor-weaker}
use Rattle.wtf_meta.specs.Contents.{Told}
use Rattle.wtf_meta.specs.Maps.{seen}
use Rattle.wtf_meta.specs.Calls.{Caller}
use Rattle.wtf_meta.proofs.Telling.{TellBytes-later}
use Rattle.wtf_region.specs.Devs.{stores}
use Rattle.wtf_steps.specs.Faults.{MayFault}
use Rattle.wtf_rw.specs.Ops.{op_of, rw_keys, IsWhole}
use Rattle.wtf_rw.specs.Stored.{SliceBytes}
use Rattle.wtf_slicing.specs.Sights.{sight}
use Rattle.wtf_replay.specs.Views.{in_hand}
use Rattle.wtf_replay.specs.Built.{IsStored}
use Rattle.wtf_replay.specs.Effects.{kept_len}
use Rattle.wtf_replay.specs.Sounds.{tells_slice, IsDue}
use Rattle.wtf_replay.specs.Works.{IsCaller, IsWork, work, told_then, told_now}
use Rattle.wtf_replay.proofs.EffectLaws.{reads_rw, acts_again, holds_again}
use Rattle.wtf_replay.proofs.Insiding.{hand_seen}
use Rattle.wtf_replay.proofs.Later.{tells_on}
use Rattle.wtf_replay.proofs.Making.{rw_work, refused_work, due_step, due_alone}
use Rattle.wtf_replay.proofs.OpLaws.{stands_plain, form_plain}
use Rattle.wtf_replay.proofs.RwLaws.{again_ways, brought_for, again_tell, none_stored, lacks_bare}
use Rattle.wtf_replay.proofs.SliceLaws.{plain_whole}
use Rattle.wtf_replay.proofs.Stepping.{told_of, tell_of}
use Rattle.wtf_replay.proofs.replay.make_stored.Goals as goal

pub call-requires-clause-inside : goal.call-requires-clause-inside
call-requires-clause-inside g c =
    hand_seen g.S.SliceStore.kind (stores c.args.dev.now) c.args.dev.now.settings c.args.kv.now (in_hand c.args.at.now
    c.args.session.now) c.requires.inside

pub make_plain-requires-clause-form : goal.make_plain-requires-clause-form
make_plain-requires-clause-form g c = form_plain IsKeptData c.args.op.now c.requires.form

-- a call on handles or bytes
pub returns-in-Ok : goal.returns-in-Ok
returns-in-Ok g c =
    let kind = g.S.SliceStore.kind in
    let dev = c.args.dev.now in
    let into = c.call.new.dev in
    let kv = c.args.kv.now in
    let s = c.args.session.now in
    let b = seen kv c.args.at.now in
    let r = c.in-Some.made in
    let k = c.args.op.now in
    let d = c.in-Ok.done in
    let w = work kind dev into kv (in_hand c.args.at.now s) (in_hand c.call.new.at c.call.new.s) in
    let before : Told = told_then w in
    let told : Told = told_now w in
    let ways = again_ways kind dev into b s r k c.in-Some.ensures in
    let call = c.in-Ok.ensures.call in
    let lists = call.recalls.facts in
    let none = none_stored kind dev into b s r d.own ways.none call.own in
    let size = sym (ap (λ (st : Settings). st.region) call.dev.settings) in
    let whole : IsWhole r → (x : Caller) (o : Op (List ℕ)) → IsCaller dev.settings.region c.args.new x → OpStandsFor (λ sl bytes. Unit {0}) k o
    → IsWork w x (own_of k) o d.answer = λ full x o by stands.
    let gave = brought_for (λ sl bytes. Unit {0}) r k o c.in-Some.ensures stands in
    rw_work w r d.own gave.bytes x o d.answer (own_of k) ways.given (λ P has. subst (SliceBytes P) (sym none) tt)
    (call.step x gave.bytes by.size_is gave.writes full) gave.is (again_tell told r k o gave.bytes c.in-Some.ensures gave.is) in
    record {
      made = record {
        again = record {
          does = λ kept x o by stands. elim kept [
            | inl full ↦ whole (ways.whole full) x o by stands
            | inr refused ↦ elim ways.either [
              | inl full ↦ whole full x o by stands
              | inr lacks ↦
                  let gave = brought_for (λ sl bytes. Unit {0}) r k o c.in-Some.ensures stands in
                  let what = call.refused refused in
                  refused_work w (own_of k) x dev.settings.region r gave.bytes o d.answer lacks refused
                  (call.answers x gave.bytes by.size_is gave.writes (lacks_bare r lacks)) gave.is call.grows call.keys what.2 what.3
            ]
          ];
          whole = elim ways.kept [
            | inl full ↦ inl full
            | inr lacks ↦ inr (call.bare (lacks_bare r lacks))
          ];
          due = λ x o by ranges tells stands.
              let later = OpStandsFor-weaker (tells_slice before) (tells_slice told) k o
              (λ sl bytes has. TellBytes-later before told (len_of sl) (part_origin (Held sl)) bytes (tells_on g.met.S.SliceStore.laws call.dev.each)) stands in
              let any = OpStandsFor-weaker (tells_slice before) (λ sl bytes. Unit {0}) k o (λ sl bytes has h. tt) stands in
              elim ways.either [
                | inl full ↦
                    due_step told (own_of k) x b w.old w.new o d.answer
                    (told_of w x (own_of k) o d.answer (whole full x o by any) (by.size_is ∙ size) ranges tells (tell_of told k o later))
                | inr lacks ↦
                    let gave = brought_for (λ sl bytes. Unit {0}) r k o c.in-Some.ensures any in
                    subst (λ q. IsDue told x b s q d.answer) gave.is
                    (due_alone told x b s (rw_keys dev.settings.region b s r) (op_of r gave.bytes) d.answer
                    (call.answers x gave.bytes by.size_is gave.writes (lacks_bare r lacks)))
              ];
          acted = record {
            lists = lists;
            known = call.recalls.known;
            recalls = call.recalls.recalls;
            reads = reads_rw dev.settings.region b s c.args.new d.answer lists IsStored r k c.in-Some.ensures call.recalls.reads;
            acts = acts_again dev.settings.region b s c.args.new d.answer c.args.at.now c.call.new.at call.grows.base lists
                r k d.own c.in-Some.ensures call.keys call.made;
            holds = holds_again (sight dev.settings.region b s c.args.new lists) s c.call.new.s d.answer r k c.in-Some.ensures call.holds;
          };
          logged = call.logged;
        };
        err = tt;
        fault = tt;
        may = tt;
        grows = call.grows;
        still = λ quiet. call.still (ways.still quiet);
        reads = call.reads ways.none;
        dev = call.dev;
      };
    }

pub returns-in-Err : goal.returns-in-Err
returns-in-Err g c =
    let kind = g.S.SliceStore.kind in
    let dev = c.args.dev.now in
    let s = c.args.session.now in
    let b = seen c.args.kv.now c.args.at.now in
    let r = c.in-Some.made in
    let k = c.args.op.now in
    let ways = again_ways kind dev c.call.new.dev b s r k c.in-Some.ensures in
    let call = c.in-Err.ensures.call in
    record {
      made = record {
        again = tt;
        err = c.in-Err.ensures.err;
        fault = ways.fault c.in-Err.why call.fault;
        may = λ o stands.
            let gave = brought_for (λ p bytes. Unit {0}) r k o c.in-Some.ensures stands in
            subst (λ q. MayFault dev.settings b s q c.in-Err.why) gave.is (call.due gave.bytes gave.writes);
        grows = call.grows;
        still = λ quiet. call.still (ways.still quiet);
        reads = call.reads ways.none;
        dev = call.dev;
      };
    }

-- or one without data
pub returns-in-Ok-make_plain : goal.returns-in-Ok-make_plain
returns-in-Ok-make_plain g c =
    let kind = g.S.SliceStore.kind in
    let dev = c.args.dev.now in
    let into = c.make_plain.new.dev in
    let k = c.args.op.now in
    let a = c.in-Ok-make_plain.answer in
    let w = work kind dev into c.args.kv.now (in_hand c.args.at.now c.args.session.now) (in_hand c.make_plain.new.at c.make_plain.new.session) in
    let plain = c.in-Ok-make_plain.ensures.made in
    let size = sym (ap (λ (st : Settings). st.region) plain.dev.settings) in
    record {
      made = record {
        again = record {
          does = λ kept x o by stands. plain.does x (own_of k) o (stands_plain (λ p bytes. Unit {0}) k o c.in-None.ensures stands) by;
          whole = inl (plain_whole k c.in-None.ensures);
          due = λ x o by ranges tells stands.
              due_step (told_now w) None x (seen c.args.kv.now c.args.at.now) w.old w.new o a
              (told_of w x None o a (plain.does x None o (stands_plain (tells_slice (told_then w)) k o c.in-None.ensures stands) by)
              (by.size_is ∙ size) ranges tells tt);
          acted = plain.acted (kept_len k) (own_of k);
          logged = plain.logged;
        };
        err = tt;
        fault = tt;
        may = tt;
        grows = plain.grows;
        still = plain.still;
        reads = plain.reads;
        dev = plain.dev;
      };
    }

pub returns-in-Err-make_plain : goal.returns-in-Err-make_plain
returns-in-Err-make_plain g c =
    let b = seen c.args.kv.now c.args.at.now in
    let k = c.args.op.now in
    let plain = c.in-Err-make_plain.ensures.made in
    record {
      made = record {
        again = tt;
        err = plain.err;
        fault = plain.fault;
        may = λ o stands. plain.due o (stands_plain (λ p bytes. Unit {0}) k o c.in-None.ensures stands);
        grows = plain.grows;
        still = plain.still;
        reads = plain.reads;
        dev = plain.dev;
      };
    }
