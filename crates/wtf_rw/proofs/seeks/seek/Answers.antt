use Rattle.std.proofs.Common.{◌≡◌, ℕ, ◌*◌, [], Option, Some, None, refl, sym, ap, ◌∙◌, subst}
use Rattle.std.specs.Option.{option_map}
use Rattle.wtf_base.specs.declared.ids.InodeId.{InodeId}
use Rattle.wtf_occ.specs.Attempts.{GrowsBy}
use Rattle.wtf_occ.proofs.AttemptLaws.{GrowsBy-nothing}
use Rattle.wtf_model.specs.declared.answer.Answer.{Answer}
use Rattle.wtf_model.specs.declared.answer.Answer.TheVariants as answer
use Rattle.wtf_model.specs.declared.answer.Word.TheVariants.{NoHandle, Range}
use Rattle.wtf_model.specs.declared.limits.TheConstants.{MAX_REGIONS}
use Rattle.wtf_model.specs.declared.op.Op.TheVariants as op
use Rattle.wtf_model.specs.declared.op.Seek.{Seek}
use Rattle.wtf_model.specs.declared.op.Seek.TheVariants as to
use Rattle.wtf_meta.specs.declared.session.Handle.{Handle}
use Rattle.wtf_meta.specs.Maps.{Map, seen}
use Rattle.wtf_meta.specs.Files.{file_len}
use Rattle.wtf_meta.specs.FileEdits.{file_of}
use Rattle.wtf_meta.specs.Sessions.{SessionView, SetsHandle, handle_in, moved_to}
use Rattle.wtf_meta.specs.Calls.{Caller, cap_for, IsCall}
use Rattle.wtf_steps.specs.Holding.{LeavesHand}
use Rattle.wtf_steps.specs.Steps.{in_hand}
use Rattle.wtf_steps.proofs.Handing.{hand_refused, hand_goes}
use Rattle.wtf_rw.specs.Held.{SeeksTo}
use Rattle.wtf_rw.specs.Recorded.{place_keys}
use Rattle.wtf_rw.specs.Seeks.{lands, IsSought}
use Rattle.wtf_model.proofs.ByteLaws.{seek-none}
use Rattle.wtf_steps.proofs.Ways.{only_keys, no_handle, step_of, spot_open, spot_closed}
use Rattle.wtf_rw.proofs.Ways.{seeks, seeks_nowhere}
use Rattle.wtf_rw.proofs.seeks.seek.Goals as goal

pub returns-in_default-clause-step : goal.returns-in_default-clause-step
returns-in_default-clause-step c x bytes size writes whole =
    let s = c.args.s.now in
    let f = c.args.f in
    let b = seen c.args.kv.now c.args.at.now in
    step_of x b (in_hand c.args.at.now s) (in_hand c.args.at.now s) [] (op.Seek f c.args.place) (answer.Refused NoHandle) (GrowsBy-nothing c.args.at.now)
    (no_handle x b s f (op.Seek f c.args.place) (spot_closed c.handle_of.result (handle_in s f) c.handle_of.ensures c.in_default.is)
    (λ S none. seek-none (cap_for x) S f c.args.place none))

sought_call : (x : Caller) (b : Map) (s t : SessionView) (f : ℕ) (h : Handle) (place : Seek) (len : ℕ) (where_to : Option ℕ) (a : Answer)
    → handle_in s f ≡ Some h
    → (place ≡ to.End → len ≡ file_len x.size (file_of h.inode b)) → where_to ≡ lands (cap_for x) len h.off place → IsSought f where_to s t a
    → IsCall x b s t (only_keys (place_keys b h.inode place)) (op.Seek f place) a
sought_call x b s t f h place len (Some n) a e is leads sought =
    subst (λ (r : Answer). IsCall x b s t (only_keys (place_keys b h.inode place)) (op.Seek f place) r) (sym sought.1)
    (seeks x b s t f h place len n e is (sym leads) (subst (λ (o : Option Handle). SetsHandle f (option_map (moved_to n) o) s t) e sought.0))
sought_call x b s t f h place len None a e is leads sought =
    subst (λ (r : Answer). IsCall x b s t (only_keys (place_keys b h.inode place)) (op.Seek f place) r) (sym sought.1)
    (subst (λ (v : SessionView). IsCall x b s v (only_keys (place_keys b h.inode place)) (op.Seek f place) (answer.Refused Range)) (sym sought.0)
    (seeks_nowhere x b s f h place len e is (sym leads)))

-- the length of a file counts for a seek to its end alone
lands_len : (place : Seek) (cap len most off : ℕ) → (place ≡ to.End → len ≡ most) → lands cap len off place ≡ lands cap most off place
lands_len (to.Set n) cap len most off is = refl
lands_len (to.Fwd n) cap len most off is = refl
lands_len (to.Back n) cap len most off is = refl
lands_len to.End cap len most off is = ap Some (is refl)

sought_holds : (b : ℕ) (w : Map) (s t : SessionView) (f : ℕ) (h : Handle) (place : Seek) (where_to : Option ℕ) (a : Answer) → handle_in s f ≡ Some h
    → where_to ≡ lands (MAX_REGIONS * b) (file_len b (file_of h.inode w)) h.off place → IsSought f where_to s t a → LeavesHand a (SeeksTo b w f place) s t
sought_holds b w s t f h place (Some n) a e leads sought =
    subst (λ (r : Answer). LeavesHand r (SeeksTo b w f place) s t) (sym sought.1)
    (hand_goes answer.Okay (SeeksTo b w f place) s t (λ r. r) (record {
      handle = h;
      stood = e;
      off = n;
      to = sym leads;
      moved = subst (λ (o : Option Handle). SetsHandle f (option_map (moved_to n) o) s t) e sought.0;
    }))
sought_holds b w s t f h place None a e leads sought =
    subst (λ (v : SessionView). LeavesHand a (SeeksTo b w f place) s v) (sym sought.0) (hand_refused a Range (SeeksTo b w f place) s sought.1)

pub returns-in_default-clause-holds : goal.returns-in_default-clause-holds
returns-in_default-clause-holds c =
    hand_refused (answer.Refused NoHandle) NoHandle (SeeksTo c.args.settings.region (seen c.args.kv.now c.args.at.now) c.args.f c.args.place) c.args.s.now refl

pub returns-clause-holds : goal.returns-clause-holds
returns-clause-holds c =
    let s = c.args.s.now in
    let f = c.args.f in
    let b = seen c.args.kv.now c.args.at.now in
    let z = c.args.settings.region in
    let place = c.args.place in
    let open_at = spot_open c.handle_of.result (handle_in s f) c.in-Some.spot c.handle_of.ensures c.in-Some.is in
    let h = open_at.handle in
    let len : place ≡ to.End → c.in_ok-len.len ≡ file_len z (file_of h.inode b) = λ e. c.in_ok-len.ensures.value e ∙ ap
    (λ (i : InodeId). file_len z (file_of i b)) open_at.inode in
    let leads : c.landing-to.result ≡ lands (MAX_REGIONS * z) (file_len z (file_of h.inode b)) h.off place =
    c.landing-to.ensures ∙ ap (λ (n : ℕ). lands n c.in_ok-len.len c.in-Some.spot.off place) c.cap.ensures ∙ ap
    (λ (n : ℕ). lands (MAX_REGIONS * z) c.in_ok-len.len n place) open_at.off
    ∙ lands_len place (MAX_REGIONS * z) c.in_ok-len.len (file_len z (file_of h.inode b)) h.off len in
    sought_holds z b s c.move_to-answer.new.s f h place c.landing-to.result c.move_to-answer.result open_at.is leads c.move_to-answer.ensures.sought

pub returns-clause-step : goal.returns-clause-step
returns-clause-step c x bytes size writes whole =
    let s = c.args.s.now in
    let f = c.args.f in
    let b = seen c.args.kv.now c.args.at.now in
    let place = c.args.place in
    let open_at = spot_open c.handle_of.result (handle_in s f) c.in-Some.spot c.handle_of.ensures c.in-Some.is in
    let h = open_at.handle in
    let len : place ≡ to.End → c.in_ok-len.len ≡ file_len x.size (file_of h.inode b) = λ e.
    c.in_ok-len.ensures.value e ∙ ap (λ (n : ℕ). file_len n (file_of c.in-Some.spot.inode b)) (sym size)
    ∙ ap (λ (i : InodeId). file_len x.size (file_of i b)) open_at.inode in
    let leads : c.landing-to.result ≡ lands (cap_for x) c.in_ok-len.len h.off place =
    c.landing-to.ensures ∙ ap (λ (n : ℕ). lands n c.in_ok-len.len c.in-Some.spot.off place) (c.cap.ensures ∙ ap (λ (n : ℕ). 4096 * n) (sym size))
    ∙ ap (λ (n : ℕ). lands (cap_for x) c.in_ok-len.len n place) open_at.off in
    step_of x b (in_hand c.args.at.now s) (in_hand c.len_for.new.at c.move_to-answer.new.s) (place_keys b h.inode place) (op.Seek f place)
    c.move_to-answer.result
    (subst (λ (i : InodeId). GrowsBy c.args.at.now c.len_for.new.at (place_keys b i place) []) open_at.inode c.in_ok-len.ensures.went)
    (sought_call x b s c.move_to-answer.new.s f h place c.in_ok-len.len c.landing-to.result c.move_to-answer.result open_at.is len leads
    c.move_to-answer.ensures.sought)
