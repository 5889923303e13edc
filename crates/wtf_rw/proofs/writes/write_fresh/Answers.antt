use Rattle.std.proofs.Common.{◌≡◌, ℕ, ◌+◌, [], ◌∷◌, length, Option, Some, refl, sym, ap, ◌∙◌, subst, arith, inl, inr}
use Rattle.std.specs.Option.{option_map}
use Rattle.wtf_base.specs.declared.ids.InodeId.{InodeId}
use Rattle.wtf_base.specs.declared.slice.Slice.{Slice}
use Rattle.wtf_occ.proofs.AttemptLaws.{GrowsBy-nothing}
use Rattle.wtf_model.specs.Steps.{IsLogged}
use Rattle.wtf_model.specs.declared.answer.Answer.{Answer}
use Rattle.wtf_model.specs.declared.answer.Answer.TheVariants as answer
use Rattle.wtf_model.specs.declared.answer.Word.TheVariants.{NoHandle, TooBig}
use Rattle.wtf_model.specs.declared.op.Op.TheVariants as op
use Rattle.wtf_replica.specs.Bytes.{byte_at}
use Rattle.wtf_replica.specs.Copies.{IsStored}
use Rattle.wtf_meta.specs.declared.session.Handle.{Handle}
use Rattle.wtf_meta.specs.Sessions.{handle_in, SetsHandle, moved_to}
use Rattle.wtf_meta.specs.Calls.{cap_for}
use Rattle.wtf_region.specs.declared.dev.Dev.{Dev}
use Rattle.wtf_region.specs.Devs.{stores, between, place_in}
use Rattle.wtf_region.specs.Edited.{Edited, LaysPieces}
use Rattle.wtf_steps.specs.Steps.{in_hand, IsRefusal}
use Rattle.wtf_model.proofs.ByteLaws.{write-none}
use Rattle.wtf_steps.proofs.Ways.{no_handle, spot_open, spot_closed}
use Rattle.wtf_steps.proofs.FileWays.{brings, writes}
use Rattle.wtf_rw.proofs.FileWays.{writes_nothing, writes_too_far}
use Rattle.wtf_rw.proofs.StoredBytes.{tell_stored, step_only}
use Rattle.wtf_rw.proofs.FaultWays.{write_due}
use Rattle.wtf_steps.specs.declared.handles.Spot.{Spot}
use Rattle.wtf_steps.specs.Made.{LaysAt}
use Rattle.wtf_steps.specs.Holding.{MovesOn}
use Rattle.wtf_steps.proofs.Handing.{hand_refused, hand_stays, hand_goes, moves_on, moves_nowhere}
use Rattle.wtf_steps.proofs.Leaving.{leaves_all, leaves_put}
use Rattle.wtf_rw.specs.Ops.{place_at}
use Rattle.wtf_rw.specs.Stored.{IsOwn}
use Rattle.wtf_steps.proofs.Making.{makes_refused, lays_none, makes_laid}
use Rattle.wtf_rw.specs.Changed.{OfSlice}
use Rattle.wtf_rw.proofs.MadeWays.{brings_no_slice, brings_slice, some_none, puts_nothing, memory_short}
use Rattle.wtf_meta.specs.Maps.{Edits}
use Rattle.wtf_rw.proofs.writes.write_fresh.Goals as goal

pub returns-in_default-clause-step : goal.returns-in_default-clause-step
returns-in_default-clause-step g c x b size =
    let s = c.args.s.now in
    let f = c.args.f in
    let o = op.Write f c.args.bytes.now in
    let at = in_hand c.args.at.now s in
    step_only g.S.SliceStore.kind (stores c.args.dev.now) (stores c.args.dev.now) c.only.result x b at at [] o (answer.Refused NoHandle) c.only.ensures.answer
    c.only.ensures.own (GrowsBy-nothing c.args.at.now)
    (no_handle x b s f o (spot_closed c.handle_of.result (handle_in s f) c.handle_of.ensures c.in_default.is)
    (λ S none. write-none (cap_for x) S f c.args.bytes.now none))

pub returns-then-len-eq0-clause-step : goal.returns-then-len-eq0-clause-step
returns-then-len-eq0-clause-step g c x b size =
    let s = c.args.s.now in
    let f = c.args.f in
    let o = op.Write f c.args.bytes.now in
    let at = in_hand c.args.at.now s in
    let open_at = spot_open c.handle_of.result (handle_in s f) c.in-Some.spot c.handle_of.ensures c.in-Some.is in
    step_only g.S.SliceStore.kind (stores c.args.dev.now) (stores c.args.dev.now) c.only-then-len-eq0.result x b at at [] o answer.Okay
    c.only-then-len-eq0.ensures.answer c.only-then-len-eq0.ensures.own (GrowsBy-nothing c.args.at.now)
    (writes_nothing x b s f open_at.handle open_at.is c.args.bytes.now c.if-len-eq0.true)

pub returns-then-not-ends_within-clause-step : goal.returns-then-not-ends_within-clause-step
returns-then-not-ends_within-clause-step g c x b size =
    let s = c.args.s.now in
    let f = c.args.f in
    let o = op.Write f c.args.bytes.now in
    let at = in_hand c.args.at.now s in
    let open_at = spot_open c.handle_of.result (handle_in s f) c.in-Some.spot c.handle_of.ensures c.in-Some.is in
    let past = c.ends_within.ensures.past c.if-not-ends_within.true in
    step_only g.S.SliceStore.kind (stores c.args.dev.now) (stores c.args.dev.now) c.only-then-not-ends_within.result x b at at [] o (answer.Refused TooBig)
    c.only-then-not-ends_within.ensures.answer c.only-then-not-ends_within.ensures.own (GrowsBy-nothing c.args.at.now)
    (writes_too_far x b s f open_at.handle open_at.is c.args.bytes.now (omega (arith, c.if-len-eq0.false))
    (omega (arith, past, c.cap.ensures, size, open_at.off)))

pub returns-in-Ok-lay-clause-step : goal.returns-in-Ok-lay-clause-step
returns-in-Ok-lay-clause-step g c x b size =
    let s = c.args.s.now in
    let t = c.lay.new.s in
    let f = c.args.f in
    let bytes = c.args.bytes.now in
    let open_at = spot_open c.handle_of.result (handle_in s f) c.in-Some.spot c.handle_of.ensures c.in-Some.is in
    let h = open_at.handle in
    let p = c.piece_of.result in
    let slice = c.in-Ok.slice in
    let len : p.len ≡ length bytes = c.piece_of.ensures.len ∙ c.in-Ok.ensures.stored.len in
    let fit = c.ends_within.ensures.within c.if-not-ends_within.false in
    let edited : Edited h.inode [] (LaysPieces x.size h.off h.inode (p ∷ [])) c.args.at.now c.lay.new.at =
    subst (λ (i : InodeId). Edited i [] (LaysPieces x.size h.off i (p ∷ [])) c.args.at.now c.lay.new.at) open_at.inode
    (subst (λ (k : ℕ). Edited c.in-Some.spot.inode [] (LaysPieces x.size k c.in-Some.spot.inode (p ∷ [])) c.args.at.now c.lay.new.at) open_at.off
    (subst (λ (z : ℕ). Edited c.in-Some.spot.inode [] (LaysPieces z c.in-Some.spot.off c.in-Some.spot.inode (p ∷ [])) c.args.at.now c.lay.new.at) (sym size)
    c.in-Ok-lay.ensures.laid)) in
    let to : c.in-Some.spot.off + p.len ≡ h.off + length bytes = omega (arith, open_at.off, len) in
    let set : SetsHandle f (Some (moved_to (h.off + length bytes) h)) s t =
    subst (λ (k : ℕ). SetsHandle f (Some (moved_to k h)) s t) to
    (subst (λ (o : Option Handle). SetsHandle f (option_map (moved_to (c.in-Some.spot.off + p.len)) o) s t) open_at.is c.in-Ok-lay.ensures.moved) in
    record {
      did = brings h.inode [] edited.edits (p ∷ []) bytes;
      grows = edited.grows;
      is_call = writes x b s f h open_at.is t edited.edits (p ∷ []) bytes (omega (arith, c.if-len-eq0.false))
          (omega (arith, fit, c.cap.ensures, size, open_at.off))
          (omega (arith, len)) edited.does set;
      more = record {
        stored = record { piece = p; one = refl; len = c.piece_of.ensures.len; part = c.piece_of.ensures.part };
        lists = refl;
        told = λ tells. (
          tell_stored (byte_at g.S.SliceStore.kind (stores c.store_bytes.new.dev)) slice p bytes c.piece_of.ensures.len c.piece_of.ensures.part
              c.in-Ok.ensures.stored.len (c.in-Ok.ensures.holds tells),
          tt,
        );
      };
    }

pub returns-in-Err-clause-due : goal.returns-in-Err-clause-due
returns-in-Err-clause-due g c w =
    let s = c.args.s.now in
    let f = c.args.f in
    let open_at = spot_open c.handle_of.result (handle_in s f) c.in-Some.spot c.handle_of.ensures c.in-Some.is in
    let fit = c.ends_within.ensures.within c.if-not-ends_within.false in
    write_due g.S.SliceStore.kind (between c.args.dev.now c.store_bytes.new.dev) c.args.dev.now.settings w s f open_at.handle c.args.bytes.now c.in-Err.why
    open_at.is
    (omega (arith, c.if-len-eq0.false)) (omega (arith, fit, c.cap.ensures, open_at.off)) c.in-Err.ensures.fault

pub returns-in_default-clause-made : goal.returns-in_default-clause-made
returns-in_default-clause-made g c =
    let at = c.args.at.now in
    let F : Edits → Type 0 = OfSlice c.only.result.own (LaysAt c.args.dev.now.settings.region (handle_in c.args.s.now c.args.f)) in
    makes_refused c.only.result.answer NoHandle F at at c.only.ensures.answer refl

pub returns-then-len-eq0-clause-made : goal.returns-then-len-eq0-clause-made
returns-then-len-eq0-clause-made g c =
    let at = c.args.at.now in
    let z = c.args.dev.now.settings.region in
    let o = handle_in c.args.s.now c.args.f in
    brings_no_slice c.only-then-len-eq0.result.answer c.only-then-len-eq0.result.own (LaysAt z o) at at c.only-then-len-eq0.ensures.own (lays_none z o) refl

pub returns-then-not-ends_within-clause-made : goal.returns-then-not-ends_within-clause-made
returns-then-not-ends_within-clause-made g c =
    let at = c.args.at.now in
    let F : Edits → Type 0 = OfSlice c.only-then-not-ends_within.result.own (LaysAt c.args.dev.now.settings.region (handle_in c.args.s.now c.args.f)) in
    makes_refused c.only-then-not-ends_within.result.answer TooBig F at at c.only-then-not-ends_within.ensures.answer refl

pub returns-in-Ok-lay-clause-made : goal.returns-in-Ok-lay-clause-made
returns-in-Ok-lay-clause-made g c =
    let s = c.args.s.now in
    let f = c.args.f in
    let z = c.args.dev.now.settings.region in
    let o = handle_in s f in
    let p = c.piece_of.result in
    let open_at = spot_open c.handle_of.result o c.in-Some.spot c.handle_of.ensures c.in-Some.is in
    brings_slice answer.Okay answer.Okay (Some c.in-Ok.slice) c.in-Ok.slice p (LaysAt z o) c.args.at.now c.lay.new.at refl refl c.piece_of.ensures.len
    c.piece_of.ensures.part
    (makes_laid z o open_at.handle c.in-Some.spot.inode c.in-Some.spot.off (p ∷ []) c.args.at.now c.lay.new.at open_at.is open_at.inode open_at.off
    c.in-Ok-lay.ensures.laid)

pub returns-in_default-clause-holds : goal.returns-in_default-clause-holds
returns-in_default-clause-holds g c = hand_refused c.only.result.answer NoHandle (MovesOn c.args.f (λ h. length c.args.bytes.now)) c.args.s.now
    c.only.ensures.answer

pub returns-then-not-ends_within-clause-holds : goal.returns-then-not-ends_within-clause-holds
returns-then-not-ends_within-clause-holds g c = hand_refused c.only-then-not-ends_within.result.answer TooBig
    (MovesOn c.args.f (λ h. length c.args.bytes.now)) c.args.s.now c.only-then-not-ends_within.ensures.answer

pub returns-then-len-eq0-clause-holds : goal.returns-then-len-eq0-clause-holds
returns-then-len-eq0-clause-holds g c =
    let s = c.args.s.now in
    let f = c.args.f in
    let n : Handle → ℕ = λ h. length c.args.bytes.now in
    let open_at = spot_open c.handle_of.result (handle_in s f) c.in-Some.spot c.handle_of.ensures c.in-Some.is in
    hand_stays c.only-then-len-eq0.result.answer (MovesOn f n) s (moves_nowhere f n s open_at.handle open_at.is c.if-len-eq0.true)

pub returns-in-Ok-lay-clause-holds : goal.returns-in-Ok-lay-clause-holds
returns-in-Ok-lay-clause-holds g c =
    let s = c.args.s.now in
    let t = c.lay.new.s in
    let f = c.args.f in
    let p = c.piece_of.result in
    let n : Handle → ℕ = λ h. length c.args.bytes.now in
    let open_at = spot_open c.handle_of.result (handle_in s f) c.in-Some.spot c.handle_of.ensures c.in-Some.is in
    let len : p.len ≡ length c.args.bytes.now = c.piece_of.ensures.len ∙ c.in-Ok.ensures.stored.len in
    hand_goes answer.Okay (MovesOn f n) s t (λ h. h)
    (moves_on f (c.in-Some.spot.off + p.len) n s t open_at.handle open_at.is (omega (arith, open_at.off, len)) c.in-Ok-lay.ensures.moved)

-- the bytes go where the handle stands
same_place : {S : Type 0} (dev : Dev S) (k : Spot) (h : Handle) → k.inode ≡ h.inode → k.off ≡ h.off → place_in dev k.inode k.off ≡ place_at dev h
same_place dev k h inode off = ap (λ (i : InodeId). place_in dev i k.off) inode ∙ ap (λ (n : ℕ). place_in dev h.inode n) off

pub returns-in_default-clause-leaves : goal.returns-in_default-clause-leaves
returns-in_default-clause-leaves g c = leaves_all g.S.SliceStore.kind (option_map (place_at c.args.dev.now) (handle_in c.args.s.now c.args.f))
    (length c.args.bytes.now) c.args.dev.now

pub returns-then-len-eq0-clause-leaves : goal.returns-then-len-eq0-clause-leaves
returns-then-len-eq0-clause-leaves g c = leaves_all g.S.SliceStore.kind (option_map (place_at c.args.dev.now) (handle_in c.args.s.now c.args.f))
    (length c.args.bytes.now) c.args.dev.now

pub returns-then-not-ends_within-clause-leaves : goal.returns-then-not-ends_within-clause-leaves
returns-then-not-ends_within-clause-leaves g c = leaves_all g.S.SliceStore.kind (option_map (place_at c.args.dev.now)
    (handle_in c.args.s.now c.args.f)) (length c.args.bytes.now) c.args.dev.now

pub returns-in-Err-clause-leaves : goal.returns-in-Err-clause-leaves
returns-in-Err-clause-leaves g c =
    let o = handle_in c.args.s.now c.args.f in
    let dev = c.args.dev.now in
    let spot = c.in-Some.spot in
    let open_at = spot_open c.handle_of.result o spot c.handle_of.ensures c.in-Some.is in
    leaves_put g.S.SliceStore.kind (between dev c.store_bytes.new.dev) o (place_at dev) open_at.handle (length c.args.bytes.now)
    (place_in dev spot.inode spot.off) open_at.is (same_place dev spot open_at.handle open_at.inode open_at.off)
    c.in-Err.ensures.down c.in-Err.ensures.grows c.in-Err.ensures.syncs

pub returns-in-Ok-lay-clause-leaves : goal.returns-in-Ok-lay-clause-leaves
returns-in-Ok-lay-clause-leaves g c =
    let o = handle_in c.args.s.now c.args.f in
    let dev = c.args.dev.now in
    let spot = c.in-Some.spot in
    let open_at = spot_open c.handle_of.result o spot c.handle_of.ensures c.in-Some.is in
    leaves_put g.S.SliceStore.kind (between dev c.store_bytes.new.dev) o (place_at dev) open_at.handle (length c.args.bytes.now)
    (place_in dev spot.inode spot.off) open_at.is (same_place dev spot open_at.handle open_at.inode open_at.off)
    c.in-Ok.ensures.down c.in-Ok.ensures.grows c.in-Ok.ensures.syncs

pub returns-in-Err-lay-clause-leaves : goal.returns-in-Err-lay-clause-leaves
returns-in-Err-lay-clause-leaves g c =
    let o = handle_in c.args.s.now c.args.f in
    let dev = c.args.dev.now in
    let spot = c.in-Some.spot in
    let open_at = spot_open c.handle_of.result o spot c.handle_of.ensures c.in-Some.is in
    leaves_put g.S.SliceStore.kind (between dev c.store_bytes.new.dev) o (place_at dev) open_at.handle (length c.args.bytes.now)
    (place_in dev spot.inode spot.off) open_at.is (same_place dev spot open_at.handle open_at.inode open_at.off)
    c.in-Ok.ensures.down c.in-Ok.ensures.grows c.in-Ok.ensures.syncs

pub returns-in_default-clause-puts : goal.returns-in_default-clause-puts
returns-in_default-clause-puts g c =
    let s = c.args.s.now in
    puts_nothing g.met.S.SliceStore.laws c.args.dev.now c.requires.sound (in_hand c.args.at.now s) (handle_in s c.args.f) c.args.bytes.now
    c.only.result c.only.ensures.own
    (subst (λ (a : Answer). IsLogged a) (sym c.only.ensures.answer) tt)
    (inr (subst (λ (a : Answer). IsRefusal a) (sym c.only.ensures.answer) tt))

pub returns-then-len-eq0-clause-puts : goal.returns-then-len-eq0-clause-puts
returns-then-len-eq0-clause-puts g c =
    let s = c.args.s.now in
    puts_nothing g.met.S.SliceStore.laws c.args.dev.now c.requires.sound (in_hand c.args.at.now s) (handle_in s c.args.f) c.args.bytes.now
    c.only-then-len-eq0.result c.only-then-len-eq0.ensures.own
    (subst (λ (a : Answer). IsLogged a) (sym c.only-then-len-eq0.ensures.answer) tt)
    (inl c.if-len-eq0.true)

pub returns-then-not-ends_within-clause-puts : goal.returns-then-not-ends_within-clause-puts
returns-then-not-ends_within-clause-puts g c =
    let s = c.args.s.now in
    puts_nothing g.met.S.SliceStore.laws c.args.dev.now c.requires.sound (in_hand c.args.at.now s) (handle_in s c.args.f) c.args.bytes.now
    c.only-then-not-ends_within.result c.only-then-not-ends_within.ensures.own
    (subst (λ (a : Answer). IsLogged a) (sym c.only-then-not-ends_within.ensures.answer) tt)
    (inr (subst (λ (a : Answer). IsRefusal a) (sym c.only-then-not-ends_within.ensures.answer) tt))

pub returns-in-Ok-lay-clause-puts : goal.returns-in-Ok-lay-clause-puts
returns-in-Ok-lay-clause-puts g c =
    let open_at = spot_open c.handle_of.result (handle_in c.args.s.now c.args.f) c.in-Some.spot c.handle_of.ensures c.in-Some.is in
    record {
      closed = λ shut. absurd (some_none open_at.handle (sym open_at.is ∙ shut));
      lacks = λ none. absurd (some_none c.in-Ok.slice none);
      done = λ some. refl;
      logged = tt;
      refused = λ h. absurd h;
      fault = tt;
      lists = c.in-Ok.ensures.lists;
      err = tt;
      grows = c.in-Ok-lay.ensures.grows;
      dev = c.in-Ok.ensures.dev;
    }

pub returns-in-Err-lay-clause-puts : goal.returns-in-Err-lay-clause-puts
returns-in-Err-lay-clause-puts g c = record {
  closed = tt;
  lacks = tt;
  done = tt;
  logged = tt;
  refused = tt;
  fault = memory_short g.S.SliceStore.kind c.args.dev.now c.store_bytes.new.dev c.args.bytes.now;
  lists = c.in-Ok.ensures.lists;
  err = c.in-Err-lay.ensures.err;
  grows = c.in-Err-lay.ensures.grows;
  dev = c.in-Ok.ensures.dev;
}

pub returns-in-Ok-lay-clause-own : goal.returns-in-Ok-lay-clause-own
returns-in-Ok-lay-clause-own g c h e =
    let dev = c.args.dev.now in
    let slice = c.in-Ok.slice in
    let spot = c.in-Some.spot in
    let kind = g.S.SliceStore.kind in
    let open_at = spot_open c.handle_of.result (handle_in c.args.s.now c.args.f) spot c.handle_of.ensures c.in-Some.is in
    let both : Some open_at.handle ≡ Some h = sym open_at.is ∙ e in
    let same : open_at.handle ≡ h = cc in
    let inode : spot.inode ≡ h.inode = open_at.inode ∙ ap (λ (k : Handle). k.inode) same in
    let off : spot.off ≡ h.off = open_at.off ∙ ap (λ (k : Handle). k.off) same in
    let here = subst (λ (n : ℕ). IsStored kind (between dev c.store_bytes.new.dev) dev.settings.replicas (place_in dev spot.inode n) c.args.bytes.now slice)
    off c.in-Ok.ensures.stored in (
      subst (λ (i : InodeId). IsStored kind (between dev c.store_bytes.new.dev) dev.settings.replicas (place_in dev i h.off) c.args.bytes.now slice) inode here,
      c.in-Ok.ensures.inside,
      c.in-Ok.ensures.known,
    )

pub returns-in_default-clause-own : goal.returns-in_default-clause-own
returns-in_default-clause-own g c h e =
    let dev = c.args.dev.now in
    subst (λ (o : Option Slice). IsOwn g.S.SliceStore.kind dev dev (place_in dev h.inode h.off) c.args.bytes.now o)
    (sym c.only.ensures.own) refl

pub returns-then-len-eq0-clause-own : goal.returns-then-len-eq0-clause-own
returns-then-len-eq0-clause-own g c h e =
    let dev = c.args.dev.now in
    subst (λ (o : Option Slice). IsOwn g.S.SliceStore.kind dev dev (place_in dev h.inode h.off) c.args.bytes.now o)
    (sym c.only-then-len-eq0.ensures.own) refl

pub returns-then-not-ends_within-clause-own : goal.returns-then-not-ends_within-clause-own
returns-then-not-ends_within-clause-own g c h e =
    let dev = c.args.dev.now in
    subst (λ (o : Option Slice). IsOwn g.S.SliceStore.kind dev dev (place_in dev h.inode h.off) c.args.bytes.now o)
    (sym c.only-then-not-ends_within.ensures.own) refl
