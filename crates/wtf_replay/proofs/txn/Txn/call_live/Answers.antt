use Rattle.std.proofs.lemmas.List.{length_push}
use Rattle.std.proofs.lemmas.List.Elements.{All-push}
use Rattle.std.proofs.Common.{◌≡◌, ◌≢◌, ◌≤◌, ◌+◌, ℕ, List, length, refl, sym, ap, ◌∙◌, subst, arith}
use Rattle.std.specs.Prelude.{IsTrue, Ok, Err}
use Rattle.wtf_base.specs.declared.ids.InodeId.{InodeId}
use Rattle.wtf_base.specs.declared.settings.Settings.{Settings}
use Rattle.wtf_base.specs.Slices.{len_of}
use Rattle.wtf_overlay.specs.Origin.{part_origin}
use Rattle.wtf_overlay.specs.declared.part.Part.TheVariants.{Held}
use Rattle.wtf_replica.specs.Bytes.{byte_at}
use Rattle.wtf_kv.specs.Stores.{is_pinned}
use Rattle.wtf_occ.specs.Attempts.{Attempted}
use Rattle.wtf_model.specs.declared.limits.TheConstants.{MAX_LOGGED}
use Rattle.wtf_values.specs.declared.key.Key.{Key}
use Rattle.wtf_values.specs.declared.value.Delta.{Delta}
use Rattle.wtf_log.specs.Calls.{Calls, own_of}
use Rattle.wtf_log.specs.Standing.{OpStandsFor}
use Rattle.wtf_log.proofs.StandingLaws.{OpStandsFor-weaker}
use Rattle.wtf_meta.specs.Contents.{Told, TellBytes}
use Rattle.wtf_meta.specs.Maps.{seen}
use Rattle.wtf_meta.specs.Calls.{Caller}
use Rattle.wtf_region.specs.Devs.{stores}
use Rattle.wtf_region.specs.Inside.{is_inside}
use Rattle.wtf_rw.specs.Stored.{SliceBytes, TellSlice}
use Rattle.wtf_rw.proofs.AppendWays.{mark_within}
use Rattle.wtf_replay.specs.Views.{TxnView, hand_of}
use Rattle.wtf_replay.specs.Called.{IsCalled}
use Rattle.wtf_replay.specs.Refusals.{unmade}
use Rattle.wtf_replay.specs.Verbs.{turn, CallOf}
use Rattle.wtf_replay.specs.Built.{call_data}
use Rattle.wtf_replay.specs.Fits.{IsFit, IsLog}
use Rattle.wtf_replay.specs.Insides.{IsInsideTxn, IsLogInside, LogBytes, NamesTxn}
use Rattle.wtf_replay.specs.Sounds.{caller_at, tells_slice, IsToldStep}
use Rattle.wtf_replay.specs.Works.{IsCaller, work, sight_of}
use Rattle.wtf_replay.proofs.Again.{tells_hand}
use Rattle.wtf_replay.proofs.Insiding.{log_later, inside_later, slice_from}
use Rattle.wtf_replay.proofs.Keeping.{log_called}
use Rattle.wtf_replay.proofs.Later.{tells_on}
use Rattle.wtf_replay.proofs.Naming.{named_by}
use Rattle.wtf_replay.proofs.RwLaws.{own_known, own_len_of, own_inside_of, own_told_of}
use Rattle.wtf_replay.proofs.SliceLaws.{peek_left, call_short, memory_due}
use Rattle.wtf_replay.proofs.Sounding.{sound_called, sound_later}
use Rattle.wtf_replay.proofs.Stepping.{told_of, named_of, fit_of, inside_by}
use Rattle.wtf_replay.proofs.Turning.{if_none, unmade_none, put_back}
use Rattle.wtf_replay.proofs.txn.Txn.call_live.Goals as goal

pub kept_of-kept-requires-clause-own : goal.kept_of-kept-requires-clause-own
kept_of-kept-requires-clause-own g c =
    own_len_of g.S.SliceStore.kind c.args.dev.now c.make_fresh.new.dev (seen c.args.kv.now c.self.inside.at) c.self.inside.session c.args.op c.in-Ok.done.own
    c.in-Ok.ensures.made.first.own

pub note-requires-clause-logged : goal.note-requires-clause-logged
note-requires-clause-logged g c = c.in-Ok.ensures.made.first.logged

pub note-requires-clause-room : goal.note-requires-clause-room
note-requires-clause-room g c = subst (λ (y : TxnView). length y.log.ops ≢ MAX_LOGGED) (sym c.self.view_is) c.requires.room

pub rewind-requires-clause-reads : goal.rewind-requires-clause-reads
rewind-requires-clause-reads g c =
    mark_within c.mark-mark.result.reads c.self.inside.at.reads c.make_fresh.new.at.reads (ap (λ m. m.reads) c.mark-mark.ensures)
    c.in-Ok.ensures.made.grows.reads

pub rewind-requires-clause-changes : goal.rewind-requires-clause-changes
rewind-requires-clause-changes g c =
    mark_within c.mark-mark.result.changes c.self.inside.at.changes c.make_fresh.new.at.changes (ap (λ m. m.changes) c.mark-mark.ensures)
    c.in-Ok.ensures.made.grows.changes

pub returns : goal.returns
returns g c =
    let kind = g.S.SliceStore.kind in
    let laws = g.met.S.SliceStore.laws in
    let kv = c.args.kv.now in
    let dev = c.args.dev.now in
    let into = c.make_fresh.new.dev in
    let size = dev.settings.region in
    let before : Told = byte_at kind (stores dev) in
    let told : Told = byte_at kind (stores into) in
    let P = is_inside kind (stores into) dev.settings in
    let o = c.args.op in
    let own = c.in-Ok.done.own in
    let a = c.in-Ok.done.answer in
    let kept = c.kept_of-kept in
    let made = c.in-Ok.ensures.made in
    let first = made.first in
    let i = c.self.inside in
    let x : TxnView = record { tx = i.tx.0; at = i.at; session = i.session; log = i.log; replayed = i.replayed; ended = i.ended } in
    let new : TxnView = record x {
      at = c.make_fresh.new.at;
      session = c.make_fresh.new.session;
      log = c.note.new.log;
      replayed = c.self.inside.replayed + 1;
    } in
    let fit : IsFit kv x = subst (λ y. IsFit kv y) (sym c.self.view_is) c.requires.fit in
    let live : x.replayed ≡ length x.log.ops = subst (λ (y : TxnView). y.replayed ≡ length y.log.ops) (sym c.self.view_is) c.requires.live in
    let room : length x.log.ops ≢ MAX_LOGGED = subst (λ (y : TxnView). length y.log.ops ≢ MAX_LOGGED) (sym c.self.view_is) c.requires.room in
    let logged = log_called x.log kept.result a fit.log room kept.ensures.form first.logged (kept.ensures.kept.lacks a first.lacks) in
    let was : IsInsideTxn kind (stores dev) dev.settings kv x =
    subst (λ y. IsInsideTxn kind (stores dev) dev.settings kv y) (sym c.self.view_is) c.requires.inside in
    let later = log_later laws made.dev.each dev.settings c.requires.sound.shelf x.log was.log in
    let w = work kind dev into kv (hand_of x) (hand_of new) in
    let by : Caller = caller_at size x.tx x.replayed in
    let inode : InodeId = record { tx = c.self.inside.tx; index = c.self.inside.replayed + 1 } in
    let calls : IsCaller size inode by = record { size_is = refl; next = record { tx = refl; index = refl } } in
    let does = first.does by calls in
    let hand = named_of w by own o a does in
    let own_inside = own_inside_of kind dev into (seen kv x.at) x.session o own first.own in
    let called : IsCalled x new o own a = record {
      kept = kept.result;
      kept_is = kept.ensures.kept;
      lacks = first.lacks;
      logged = record { answer = first.logged; log = c.in_default.ensures.ok; tx = refl; grows = made.grows; replayed = refl; ended = refl };
    } in
    let names : NamesTxn kind dev into kv x new own =
    named_by hand (λ R Q were. were.hand) (λ R Q hole were are stored. record {
      hand = are stored;
      log = subst (LogBytes R) (sym c.in_default.ensures.ok) (All-push (λ k. SliceBytes R (own_of k)) x.log.ops kept.result were.log
          (slice_from R (own_of kept.result) own kept.ensures.kept.own_is stored));
    }) in
    record {
      call =
          subst (λ (y : TxnView). CallOf (turn kind dev into kv kv y new) o (Ok a)) c.self.view_is (record {
            instead = if_none (unmade x) _ (unmade_none x live room fit.log.few);
            made = λ going. record {
              own = own;
              called = called;
              lists = first.acted.lists;
              known = first.acted.known;
              recalls = first.acted.recalls;
              reads = first.acted.reads;
              acts = first.acted.acts;
              holds = first.acted.holds;
              stored = first.own;
              named = names;
              done = first.done;
            };
            meaning = λ going ops start.
                let told_own : TellSlice told own (call_data o) = own_told_of kind dev into
                (seen kv x.at) x.session o own made.dev.each.same_length start.1.all first.own in
                let stands : OpStandsFor (tells_slice told) kept.result o =
                OpStandsFor-weaker _ (tells_slice told) kept.result o
                (λ s bytes there h. subst (λ (l : List ℕ). TellBytes told (len_of s) (part_origin (Held s)) l) (sym h.1)
                (subst (λ z. TellSlice told z (call_data o)) h.0 told_own)) kept.ensures.kept.stands in
                let steps = told_of w by own o a does (sym (ap (λ (st : Settings). st.region) made.dev.settings)) start.0
                (tells_hand kind dev start.0 kv x ops start.3 start.1 start.2) told_own in
                sound_called size kv told x new ops o a kept.result (sound_later size kv before told x ops
                (tells_on laws made.dev.each) start.3) fit.log live
                (subst (λ z. IsToldStep told z (caller_at size x.tx x.replayed) (seen kv x.at) (hand_of x) (hand_of new) o a)
                (sym (own_known kind dev into (seen kv x.at) x.session kept.result o own kept.ensures.kept first.own)) steps)
                refl c.in_default.ensures.ok refl stands;
            fit = record {
              pinned = subst (λ b. IsTrue (is_pinned kv b)) (sym made.grows.base) fit.pinned;
              fits = fit_of w by own o a does fit.fits;
              log = subst (λ l. IsLog l) (sym c.in_default.ensures.ok) logged;
              most = subst (λ l. c.self.inside.replayed + 1 ≤ length l.ops) (sym c.in_default.ensures.ok)
                  (let more = length_push x.log.ops kept.result in omega (arith, live, more));
            };
            inside = record {
              hand = inside_by laws made.dev c.requires.sound.shelf kv (hand_of x) (hand_of new) own hand was.hand own_inside;
              log = subst (λ l. IsLogInside kind (stores into) dev.settings l) (sym c.in_default.ensures.ok)
                  (All-push (λ k. SliceBytes P (own_of k)) x.log.ops kept.result later
                  (slice_from P (own_of kept.result) own kept.ensures.kept.own_is own_inside));
            };
            err = tt;
            err_hand = tt;
            fault = tt;
            due = tt;
            leaves = made.leaves;
            reads = made.reads;
            dev = made.dev;
          });
    }

-- the call gave a fault: the attempt and the session are what they were
pub returns-in-Err : goal.returns-in-Err
returns-in-Err g c =
    let kind = g.S.SliceStore.kind in
    let kv = c.args.kv.now in
    let dev = c.args.dev.now in
    let into = c.make_fresh.new.dev in
    let o = c.args.op in
    let why = c.in-Err.why in
    let made = c.in-Err.ensures.made in
    let i = c.self.inside in
    let x : TxnView = record { tx = i.tx.0; at = i.at; session = i.session; log = i.log; replayed = i.replayed; ended = i.ended } in
    let fit : IsFit kv x = subst (λ y. IsFit kv y) (sym c.self.view_is) c.requires.fit in
    let live : x.replayed ≡ length x.log.ops = subst (λ (y : TxnView). y.replayed ≡ length y.log.ops) (sym c.self.view_is) c.requires.live in
    let room : length x.log.ops ≢ MAX_LOGGED = subst (λ (y : TxnView). length y.log.ops ≢ MAX_LOGGED) (sym c.self.view_is) c.requires.room in
    let was : IsInsideTxn kind (stores dev) dev.settings kv x =
    subst (λ y. IsInsideTxn kind (stores dev) dev.settings kv y) (sym c.self.view_is) c.requires.inside in
    let same : record x { at = c.make_fresh.new.at; session = c.make_fresh.new.session } ≡ x =
    put_back x c.make_fresh.new.at c.make_fresh.new.session made.err.0 made.err.1 in
    let there : CallOf (turn kind dev into kv kv x x) o (Err why) = record {
      instead = if_none (unmade x) _ (unmade_none x live room fit.log.few);
      made = λ going. tt;
      meaning = λ going. tt;
      fit = fit;
      inside = inside_later g.met.S.SliceStore.laws made.dev.each dev.settings c.requires.sound.shelf kv x was;
      err = λ other. refl;
      err_hand = refl;
      fault = made.fault;
      due = made.due;
      leaves = made.leaves;
      reads = made.reads;
      dev = made.dev;
    } in
    record {
      call =
          subst (λ (y : TxnView). CallOf (turn kind dev into kv kv y (record x { at = c.make_fresh.new.at; session = c.make_fresh.new.session })) o
          (Err why)) c.self.view_is
          (subst (λ (y : TxnView). CallOf (turn kind dev into kv kv x y) o (Err why)) (sym same) there);
    }

-- the log took no memory: the attempt is what it was, and handles may have moved
pub returns-in-Err-note : goal.returns-in-Err-note
returns-in-Err-note g c =
    let kind = g.S.SliceStore.kind in
    let kv = c.args.kv.now in
    let dev = c.args.dev.now in
    let into = c.make_fresh.new.dev in
    let o = c.args.op in
    let why = c.in-Err-note.why in
    let short = c.in-Err-note.ensures.fault in
    let made = c.in-Ok.ensures.made in
    let first = made.first in
    let own = c.in-Ok.done.own in
    let i = c.self.inside in
    let x : TxnView = record { tx = i.tx.0; at = i.at; session = i.session; log = i.log; replayed = i.replayed; ended = i.ended } in
    let moved : TxnView = record x { session = c.make_fresh.new.session } in
    let new : TxnView = record x { at = c.rewind.new.self; session = c.make_fresh.new.session; log = c.note.new.log } in
    let fit : IsFit kv x = subst (λ y. IsFit kv y) (sym c.self.view_is) c.requires.fit in
    let live : x.replayed ≡ length x.log.ops = subst (λ (y : TxnView). y.replayed ≡ length y.log.ops) (sym c.self.view_is) c.requires.live in
    let room : length x.log.ops ≢ MAX_LOGGED = subst (λ (y : TxnView). length y.log.ops ≢ MAX_LOGGED) (sym c.self.view_is) c.requires.room in
    let was : IsInsideTxn kind (stores dev) dev.settings kv x =
    subst (λ y. IsInsideTxn kind (stores dev) dev.settings kv y) (sym c.self.view_is) c.requires.inside in
    let later = inside_later g.met.S.SliceStore.laws made.dev.each dev.settings c.requires.sound.shelf kv x was in
    let grown = hand_of (record x { at = c.make_fresh.new.at; session = c.make_fresh.new.session }) in
    let w = work kind dev into kv (hand_of x) grown in
    let by : Caller = caller_at dev.settings.region x.tx x.replayed in
    let inode : InodeId = record { tx = c.self.inside.tx; index = c.self.inside.replayed + 1 } in
    let calls : IsCaller dev.settings.region inode by = record { size_is = refl; next = record { tx = refl; index = refl } } in
    let hand = inside_by g.met.S.SliceStore.laws made.dev c.requires.sound.shelf kv (hand_of x) grown own
    (named_of w by own o c.in-Ok.done.answer (first.does by calls)) was.hand (own_inside_of kind dev into (seen kv x.at) x.session o own first.own) in
    let back : c.rewind.new.self ≡ x.at = c.rewind.ensures.back c.self.inside.at made.grows c.mark-mark.ensures in
    let same : new ≡ moved =
    ap (λ (a : Attempted Key Delta). record moved { at = a; log = c.note.new.log }) back
    ∙ ap (λ (l : Calls). record moved { log = l }) c.in-Err-note.ensures.err in
    let there : CallOf (turn kind dev into kv kv x moved) o (Err why) = record {
      instead = if_none (unmade x) _ (unmade_none x live room fit.log.few);
      made = λ going. tt;
      meaning = λ going. tt;
      fit = record { pinned = fit.pinned; fits = fit.fits; log = fit.log; most = fit.most };
      inside = record { hand = record { base = later.hand.base; changes = later.hand.changes; slices = hand.slices }; log = later.log };
      err = λ other. absurd (other short);
      err_hand = refl;
      fault = call_short kind dev into (seen kv x.at) x.session o why
          (peek_left kind dev into (sight_of w inode first.acted.lists) o c.in-Ok.done.answer first.acted.reads first.acted.recalls) short;
      due = memory_due dev.settings (seen kv x.at) x.session o why short;
      leaves = made.leaves;
      reads = made.reads;
      dev = made.dev;
    } in
    record {
      call =
          subst (λ (y : TxnView). CallOf (turn kind dev into kv kv y new) o (Err why)) c.self.view_is
          (subst (λ (y : TxnView). CallOf (turn kind dev into kv kv x y) o (Err why)) (sym same) there);
    }
