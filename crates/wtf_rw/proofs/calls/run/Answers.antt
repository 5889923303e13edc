use Rattle.std.proofs.Common.{Ok, refl, ap, ◌∙◌}
use Rattle.wtf_occ.specs.Attempts.{Attempted}
use Rattle.wtf_values.specs.declared.key.Key.{Key}
use Rattle.wtf_values.specs.declared.value.Delta.{Delta}
use Rattle.wtf_meta.specs.Maps.{seen}
use Rattle.wtf_rw.specs.declared.op.Given.TheVariants.{Fresh, Stored}
use Rattle.wtf_rw.specs.declared.op.RwOp.TheVariants as rw
use Rattle.wtf_steps.specs.Steps.{in_hand}
use Rattle.wtf_steps.proofs.Handing.{hand_stays}
use Rattle.wtf_rw.specs.Held.{RwHolds}
use Rattle.wtf_rw.proofs.Dispatch.{named, plain_call, looks_plain, looks_nowhere, only_is, no_keys, if_ok_all, on_ok, write_of, append_of, read_of}
use Rattle.wtf_rw.proofs.calls.run.Goals as goal

pub returns-in-Open : goal.returns-in-Open
returns-in-Open g c =
    let dev = c.args.dev.now in
    let b = dev.settings.region in
    let w = seen c.args.kv.now c.args.at.now in
    let old = in_hand c.args.at.now c.args.s.now in
    let new = in_hand c.open.new.at c.open.new.s in
    let p = rw.Open c.in-Open.f c.in-Open.p in
    plain_call g.met.S.SliceStore.laws dev c.requires.sound w old new c.args.op.now p c.open.result c.plain.result c.in-Open.is c.plain.ensures tt
    (looks_plain b w old new p c.open.result (c.open.ensures.step b) c.open.ensures.holds c.open.ensures.looks refl (λ bare. bare))

pub returns-in-Close : goal.returns-in-Close
returns-in-Close g c =
    let dev = c.args.dev.now in
    let b = dev.settings.region in
    let at = c.args.at.now in
    let s = c.args.s.now in
    let t = c.close-answer.new.s in
    let w = seen c.args.kv.now at in
    let a = c.close-answer.result in
    let p = rw.Close c.in-Close.f in
    let out = only_is c.only.result a c.only.ensures.answer c.only.ensures.own in
    plain_call g.met.S.SliceStore.laws dev c.requires.sound w (in_hand at s) (in_hand at t) c.args.op.now p (Ok a) (Ok c.only.result) c.in-Close.is out tt
    (looks_plain b w (in_hand at s) (in_hand at t) p (Ok a) (λ x bytes size writes whole. c.close-answer.ensures.step x w (in_hand at s) refl)
    c.close-answer.ensures.holds
    (looks_nowhere at s t a c.close-answer.ensures.logged c.close-answer.ensures.holds.refused) refl (λ bare. bare))

pub returns-in-Seek : goal.returns-in-Seek
returns-in-Seek g c =
    let dev = c.args.dev.now in
    let b = dev.settings.region in
    let w = seen c.args.kv.now c.args.at.now in
    let old = in_hand c.args.at.now c.args.s.now in
    let new = in_hand c.seek.new.at c.seek.new.s in
    let p = rw.Seek c.in-Seek.f c.in-Seek.place in
    plain_call g.met.S.SliceStore.laws dev c.requires.sound w old new c.args.op.now p c.seek.result c.plain-in-Seek.result c.in-Seek.is
    c.plain-in-Seek.ensures tt
    (looks_plain b w old new p c.seek.result c.seek.ensures.step c.seek.ensures.holds c.seek.ensures.looks refl (λ bare. bare))

pub returns-in-Tell : goal.returns-in-Tell
returns-in-Tell g c =
    let dev = c.args.dev.now in
    let b = dev.settings.region in
    let at = c.args.at.now in
    let s = c.args.s.now in
    let w = seen c.args.kv.now at in
    let a = c.tell-answer.result in
    let p = rw.Tell c.in-Tell.f in
    let out = only_is c.only-in-Tell.result a c.only-in-Tell.ensures.answer c.only-in-Tell.ensures.own in
    plain_call g.met.S.SliceStore.laws dev c.requires.sound w (in_hand at s) (in_hand at s) c.args.op.now p (Ok a) (Ok c.only-in-Tell.result) c.in-Tell.is out
    tt
    (looks_plain b w (in_hand at s) (in_hand at s) p (Ok a) (λ x bytes size writes whole. c.tell-answer.ensures.step x w (in_hand at s) refl)
    (hand_stays a (RwHolds b w p) s refl)
    (looks_nowhere at s s a c.tell-answer.ensures.logged (λ h. refl)) refl (λ bare. bare))

pub returns-in-Read : goal.returns-in-Read
returns-in-Read g c =
    let dev = c.args.dev.now in
    let left = c.read.new.dev in
    let kind = g.S.SliceStore.kind in
    let w = seen c.args.kv.now c.args.at.now in
    let old = in_hand c.args.at.now c.args.s.now in
    let new = in_hand c.read.new.at c.read.new.s in
    let f = c.in-Read.f in
    let n = c.in-Read.n in
    let read = c.read.ensures in
    named (record { kind = kind; before = dev; after = left; map = w }) old new c.args.op.now (rw.Read f n) c.read.result c.in-Read.is
    (read_of kind dev left w old new f n c.read.result read.step read.holds read.recalls read.fault read.due read.reads read.dev)

pub returns-in-Fresh : goal.returns-in-Fresh
returns-in-Fresh g c =
    let dev = c.args.dev.now in
    let left = c.write_fresh.new.dev in
    let kind = g.S.SliceStore.kind in
    let w = seen c.args.kv.now c.args.at.now in
    let old = in_hand c.args.at.now c.args.s.now in
    let new = in_hand c.write_fresh.new.at c.write_fresh.new.s in
    let f = c.in-Write.f in
    let bs = c.in-Fresh.bytes in
    let put = c.write_fresh.ensures in
    named (record { kind = kind; before = dev; after = left; map = w }) old new c.args.op.now (rw.Write f (Fresh bs)) c.write_fresh.result
    (c.in-Write.is ∙ ap (rw.Write f) c.in-Fresh.is)
    (write_of kind dev left w old new f bs c.write_fresh.result put.keys put.step put.made put.holds put.own put.due put.leaves put.puts)

pub returns-in-Stored : goal.returns-in-Stored
returns-in-Stored g c =
    let dev = c.args.dev.now in
    let b = dev.settings.region in
    let w = seen c.args.kv.now c.args.at.now in
    let old = in_hand c.args.at.now c.args.s.now in
    let new = in_hand c.write_stored.new.at c.write_stored.new.s in
    let p = rw.Write c.in-Write.f (Stored c.in-Stored.kept) in
    let r = c.write_stored.result in
    let put = c.write_stored.ensures in
    plain_call g.met.S.SliceStore.laws dev c.requires.sound w old new c.args.op.now p r c.plain-in-Stored.result
    (c.in-Write.is ∙ ap (rw.Write c.in-Write.f) c.in-Stored.is) c.plain-in-Stored.ensures tt (record {
      keys = no_keys r old.at.reads new.at.reads put.keys;
      step = put.step w;
      made = put.made;
      holds = put.holds;
      answers = put.answers w;
      bare = on_ok _ _ r (λ same bare. (ap (λ (at : Attempted Key Delta). at.changes) (same bare).0, (same bare).1)) put.bare;
      logged = put.alters.logged;
      refused = put.alters.refused;
      err = put.alters.err;
      grows = put.alters.grows;
    })

pub returns-in-Fresh-data : goal.returns-in-Fresh-data
returns-in-Fresh-data g c =
    let dev = c.args.dev.now in
    let left = c.append_fresh.new.dev in
    let kind = g.S.SliceStore.kind in
    let w = seen c.args.kv.now c.args.at.now in
    let old = in_hand c.args.at.now c.args.s.now in
    let new = in_hand c.append_fresh.new.at c.args.s.now in
    let f = c.in-Append.f in
    let bs = c.in-Fresh-data.bytes in
    let put = c.append_fresh.ensures in
    named (record { kind = kind; before = dev; after = left; map = w }) old new c.args.op.now (rw.Append f (Fresh bs)) c.append_fresh.result
    (c.in-Append.is ∙ ap (rw.Append f) c.in-Fresh-data.is)
    (append_of kind dev left w old new f bs c.append_fresh.result refl put.keys put.step put.made put.own put.due put.leaves put.puts)

pub returns-in-Stored-data : goal.returns-in-Stored-data
returns-in-Stored-data g c =
    let dev = c.args.dev.now in
    let b = dev.settings.region in
    let w = seen c.args.kv.now c.args.at.now in
    let s = c.args.s.now in
    let old = in_hand c.args.at.now s in
    let new = in_hand c.append_stored.new.at s in
    let p = rw.Append c.in-Append.f (Stored c.in-Stored-data.kept) in
    let r = c.append_stored.result in
    let put = c.append_stored.ensures in
    plain_call g.met.S.SliceStore.laws dev c.requires.sound w old new c.args.op.now p r c.plain-in-Stored-data.result
    (c.in-Append.is ∙ ap (rw.Append c.in-Append.f) c.in-Stored-data.is)
    c.plain-in-Stored-data.ensures tt (record {
      keys = put.keys;
      step = put.step;
      made = put.made;
      holds = if_ok_all _ r (λ a. hand_stays a (RwHolds b w p) s refl);
      answers = put.answers;
      bare = on_ok _ _ r (λ same bare. (same bare, refl)) put.bare;
      logged = put.alters.logged;
      refused = put.alters.refused;
      err = put.alters.err;
      grows = put.alters.grows;
    })

pub returns-in-Truncate : goal.returns-in-Truncate
returns-in-Truncate g c =
    let dev = c.args.dev.now in
    let b = dev.settings.region in
    let w = seen c.args.kv.now c.args.at.now in
    let s = c.args.s.now in
    let old = in_hand c.args.at.now s in
    let new = in_hand c.truncate.new.at s in
    let p = rw.Truncate c.in-Truncate.f c.in-Truncate.n in
    let r = c.truncate.result in
    let cuts = c.truncate.ensures in
    plain_call g.met.S.SliceStore.laws dev c.requires.sound w old new c.args.op.now p r c.plain-in-Truncate.result c.in-Truncate.is
    c.plain-in-Truncate.ensures tt (record {
      keys = no_keys r old.at.reads new.at.reads cuts.keys;
      step = cuts.step w;
      made = cuts.made;
      holds = if_ok_all _ r (λ a. hand_stays a (RwHolds b w p) s refl);
      answers = if_ok_all _ r (λ a x bytes size writes bare. absurd bare);
      bare = on_ok _ _ r (λ same bare. absurd bare) cuts.keys;
      logged = cuts.alters.logged;
      refused = cuts.alters.refused;
      err = cuts.alters.err;
      grows = cuts.alters.grows;
    })

pub returns-in-Punch : goal.returns-in-Punch
returns-in-Punch g c =
    let dev = c.args.dev.now in
    let b = dev.settings.region in
    let w = seen c.args.kv.now c.args.at.now in
    let s = c.args.s.now in
    let old = in_hand c.args.at.now s in
    let new = in_hand c.punch.new.at s in
    let p = rw.Punch c.in-Punch.f c.in-Punch.n in
    let r = c.punch.result in
    let cuts = c.punch.ensures in
    plain_call g.met.S.SliceStore.laws dev c.requires.sound w old new c.args.op.now p r c.plain-in-Punch.result c.in-Punch.is c.plain-in-Punch.ensures tt
    (record {
      keys = no_keys r old.at.reads new.at.reads cuts.keys;
      step = cuts.step w;
      made = cuts.made;
      holds = if_ok_all _ r (λ a. hand_stays a (RwHolds b w p) s refl);
      answers = if_ok_all _ r (λ a x bytes size writes bare. absurd bare);
      bare = on_ok _ _ r (λ same bare. absurd bare) cuts.keys;
      logged = cuts.alters.logged;
      refused = cuts.alters.refused;
      err = cuts.alters.err;
      grows = cuts.alters.grows;
    })

pub returns-in-Stat : goal.returns-in-Stat
returns-in-Stat g c =
    let dev = c.args.dev.now in
    let b = dev.settings.region in
    let w = seen c.args.kv.now c.args.at.now in
    let s = c.args.s.now in
    let old = in_hand c.args.at.now s in
    let new = in_hand c.stat.new.at s in
    let p = rw.Stat c.in-Stat.p in
    let r = c.stat.result in
    plain_call g.met.S.SliceStore.laws dev c.requires.sound w old new c.args.op.now p r c.plain-in-Stat.result c.in-Stat.is c.plain-in-Stat.ensures tt
    (looks_plain b w old new p r (c.stat.ensures.step s) (if_ok_all _ r (λ a. hand_stays a (RwHolds b w p) s refl)) (c.stat.ensures.looks s) refl
    (λ bare. bare))
