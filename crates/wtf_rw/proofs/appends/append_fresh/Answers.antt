use Rattle.std.proofs.Common.{◌≡◌, ℕ, [], ◌∷◌, length, Option, Some, refl, sym, ap, ◌∙◌, subst, arith, inl, inr}
use Rattle.wtf_base.specs.declared.ids.InodeId.{InodeId}
use Rattle.wtf_base.specs.declared.slice.Slice.{Slice}
use Rattle.wtf_occ.specs.Attempts.{Attempted, Grows}
use Rattle.wtf_occ.proofs.AttemptLaws.{GrowsBy-nothing, Grows-by}
use Rattle.wtf_overlay.specs.Origin.{pieces_len}
use Rattle.wtf_model.specs.Steps.{IsLogged}
use Rattle.wtf_model.specs.declared.answer.Answer.{Answer}
use Rattle.wtf_model.specs.declared.answer.Answer.TheVariants as answer
use Rattle.wtf_model.specs.declared.answer.Word.TheVariants.{NoHandle, TooBig}
use Rattle.wtf_model.specs.declared.op.Op.TheVariants as op
use Rattle.wtf_replica.specs.Bytes.{byte_at}
use Rattle.wtf_values.specs.declared.key.Key.{Key}
use Rattle.wtf_values.specs.declared.value.Delta.{Delta}
use Rattle.wtf_meta.specs.declared.session.Handle.{Handle}
use Rattle.wtf_meta.specs.Maps.{Edits, seen}
use Rattle.wtf_meta.specs.FileEdits.{file_of}
use Rattle.wtf_meta.specs.Appends.{keys_of, length_keys, append_keys as file_append_keys}
use Rattle.wtf_meta.specs.Sessions.{handle_in}
use Rattle.wtf_meta.specs.Calls.{cap_for}
use Rattle.std.specs.Prelude.{IfSome, IsSome}
use Rattle.wtf_replica.specs.Copies.{IsStored}
use Rattle.wtf_region.specs.Devs.{stores, between, place_in}
use Rattle.wtf_region.specs.declared.added.Added.{Added}
use Rattle.wtf_region.specs.declared.added.Added.TheVariants as added
use Rattle.wtf_region.specs.Edited.{IsFileEnd, Recorded, LacksRoom, IsAdded}
use Rattle.std.specs.Option.{option_map}
use Rattle.wtf_region.proofs.Spans.{goes_nowhere}
use Rattle.wtf_steps.specs.Steps.{in_hand, IsRefusal}
use Rattle.wtf_steps.proofs.Leaving.{leaves_all, leaves_put}
use Rattle.wtf_rw.specs.Ops.{place_at_end}
use Rattle.wtf_rw.specs.Stored.{HasRoom, ArePieces, IsOwn, end_place}
use Rattle.wtf_model.proofs.ByteLaws.{append-none}
use Rattle.wtf_steps.proofs.Ways.{no_handle, spot_open, spot_closed}
use Rattle.wtf_rw.proofs.StoredBytes.{tell_stored, step_only}
use Rattle.wtf_rw.proofs.AppendWays.{step_added, adds, adds_nothing, nothing_told, adds_full, full_keys, added_in_room}
use Rattle.wtf_steps.proofs.AppendWays.{keys_due, added_keys}
use Rattle.wtf_rw.proofs.FaultWays.{append_due}
use Rattle.std.proofs.lemmas.List.{append-nil}
use Rattle.wtf_steps.specs.Made.{AddsAt}
use Rattle.wtf_steps.proofs.Making.{makes_refused, adds_none, makes_added}
use Rattle.wtf_rw.specs.Changed.{OfSlice}
use Rattle.wtf_rw.proofs.MadeWays.{brings_no_slice, brings_slice, some_none, not_some, puts_nothing, memory_short}
use Rattle.wtf_rw.proofs.appends.append_fresh.Goals as goal

pub returns-in_default-clause-step : goal.returns-in_default-clause-step
returns-in_default-clause-step g c x size =
    let s = c.args.s.now in
    let f = c.args.f in
    let b = seen c.args.kv.now c.args.at.now in
    let o = op.Append f c.args.bytes.now in
    let at = in_hand c.args.at.now s in
    step_only g.S.SliceStore.kind (stores c.args.dev.now) (stores c.args.dev.now) c.only.result x b at at [] o (answer.Refused NoHandle) c.only.ensures.answer
    c.only.ensures.own (GrowsBy-nothing c.args.at.now)
    (no_handle x b s f o (spot_closed c.handle_of.result (handle_in s f) c.handle_of.ensures c.in_default.is)
    (λ S none. append-none (cap_for x) S f c.args.bytes.now none))

pub returns-then-len-eq0-clause-step : goal.returns-then-len-eq0-clause-step
returns-then-len-eq0-clause-step g c x size =
    let s = c.args.s.now in
    let f = c.args.f in
    let b = seen c.args.kv.now c.args.at.now in
    let bytes = c.args.bytes.now in
    let open_at = spot_open c.handle_of.result (handle_in s f) c.in-Some.spot c.handle_of.ensures c.in-Some.is in
    let one = adds_nothing x b s f open_at.handle bytes c.args.at.now open_at.is c.if-len-eq0.true in
    step_added g.S.SliceStore.kind (stores c.args.dev.now) (stores c.args.dev.now) c.only-then-len-eq0.result x b s f [] bytes c.args.at.now c.args.at.now
    answer.Okay c.only-then-len-eq0.ensures.answer
    (subst (λ (w : Option Slice). ArePieces w []) (sym c.only-then-len-eq0.ensures.own) refl)
    (λ tells. nothing_told (byte_at g.S.SliceStore.kind (stores c.args.dev.now)) bytes c.if-len-eq0.true) one

pub returns-in-Ok-clause-step : goal.returns-in-Ok-clause-step
returns-in-Ok-clause-step g c x size =
    let s = c.args.s.now in
    let f = c.args.f in
    let b = seen c.args.kv.now c.args.at.now in
    let bytes = c.args.bytes.now in
    let open_at = spot_open c.handle_of.result (handle_in s f) c.in-Some.spot c.handle_of.ensures c.in-Some.is in
    let h = open_at.handle in
    let i0 = c.in-Some.spot.inode in
    let lacks0 : LacksRoom x.size (file_of i0 b) (length bytes) = subst (λ (z : ℕ). LacksRoom z (file_of i0 b) (length bytes)) (sym size)
    (c.room.ensures.full (file_of i0 b) c.file_end-end.ensures.end c.in_default-room.is) in
    let lacks : LacksRoom x.size (file_of h.inode b) (length bytes) = subst (λ (i : InodeId). LacksRoom x.size (file_of i b) (length bytes)) open_at.inode
    lacks0 in
    let recorded : Recorded i0 (length_keys (file_of i0 b)) c.args.at.now c.file_len.new.at =
    subst (λ (a : Attempted Key Delta). Recorded i0 (length_keys (file_of i0 (seen c.args.kv.now a))) a c.file_len.new.at) c.file_end-end.ensures.same
    c.in-Ok.ensures.recorded in
    let went : Recorded h.inode (file_append_keys x.size (file_of h.inode b) (length bytes)) c.args.at.now c.file_len.new.at =
    subst (λ (i : InodeId). Recorded i (file_append_keys x.size (file_of i b) (length bytes)) c.args.at.now c.file_len.new.at) open_at.inode
    (full_keys x.size i0 b (length bytes) c.args.at.now c.file_len.new.at c.if-len-eq0.false lacks0 recorded) in
    step_only g.S.SliceStore.kind (stores c.args.dev.now) (stores c.args.dev.now) c.only-in-Ok.result x b (in_hand c.args.at.now s)
    (in_hand c.file_len.new.at s)
    (keys_of h.inode (file_append_keys x.size (file_of h.inode b) (length bytes))) (op.Append f bytes) (answer.Refused TooBig) c.only-in-Ok.ensures.answer
    c.only-in-Ok.ensures.own went
    (adds_full x b s f h bytes open_at.is c.if-len-eq0.false lacks)

pub returns-in-Ok-clause-keys : goal.returns-in-Ok-clause-keys
returns-in-Ok-clause-keys g c =
    let s = c.args.s.now in
    let f = c.args.f in
    let b = seen c.args.kv.now c.args.at.now in
    let i = c.in-Some.spot.inode in
    let z = c.args.dev.now.settings.region in
    let n = length c.args.bytes.now in
    let old = c.args.at.now in
    let new = c.file_len.new.at in
    let open_at = spot_open c.handle_of.result (handle_in s f) c.in-Some.spot c.handle_of.ensures c.in-Some.is in
    let lacks : LacksRoom z (file_of i b) n = c.room.ensures.full (file_of i b) c.file_end-end.ensures.end c.in_default-room.is in
    let recorded : Recorded i (length_keys (file_of i b)) old new =
    subst (λ (a : Attempted Key Delta). Recorded i (length_keys (file_of i (seen c.args.kv.now a))) a new) c.file_end-end.ensures.same
    c.in-Ok.ensures.recorded in
    let went : Recorded i (file_append_keys z (file_of i b) n) old new = full_keys z i b n old new c.if-len-eq0.false lacks recorded in
    keys_due z b (handle_in s f) open_at.handle i n n new.reads old.reads open_at.is open_at.inode refl went.reads

pub store_bytes-requires-clause-cap : goal.store_bytes-requires-clause-cap
store_bytes-requires-clause-cap g c =
    let b = seen c.args.kv.now c.args.at.now in
    let i = c.in-Some.spot.inode in
    let z = c.args.dev.now.settings.region in
    let off : c.in-Some-room.off ≡ end_place z (file_of i b) =
    subst (λ (o : Option ℕ). IfSome o (λ k. k ≡ end_place z (file_of i b))) c.in-Some-room.is (c.room.ensures.place (file_of i b) c.file_end-end.ensures.end) in
    omega (arith, off, c.args.dev.now.settings.limits)

pub returns-in-Ok-add_at-clause-keys : goal.returns-in-Ok-add_at-clause-keys
returns-in-Ok-add_at-clause-keys g c =
    let s = c.args.s.now in
    let f = c.args.f in
    let b = seen c.args.kv.now c.args.at.now in
    let i = c.in-Some.spot.inode in
    let z = c.args.dev.now.settings.region in
    let p = c.piece_of.result in
    let r = c.in-Ok-add_at.field-0 in
    let len : p.len ≡ length c.args.bytes.now = c.piece_of.ensures.len ∙ c.in-Ok-store_bytes.ensures.stored.len in
    let open_at = spot_open c.handle_of.result (handle_in s f) c.in-Some.spot c.handle_of.ensures c.in-Some.is in
    keys_due z b (handle_in s f) open_at.handle i (pieces_len (p ∷ [])) (length c.args.bytes.now) c.add_at.new.at.reads c.args.at.now.reads open_at.is
    open_at.inode (omega (arith, len))
    (added_keys z i (file_of i b) (p ∷ []) c.args.at.now c.add_at.new.at r
    (subst (λ (a : Attempted Key Delta). IsAdded z i (file_of i b) (p ∷ []) a c.add_at.new.at r) c.file_end-end.ensures.same
    (c.in-Ok-add_at.ensures.added (file_of i b) c.file_end-end.ensures.end)))

pub returns-in-Ok-add_at-clause-step : goal.returns-in-Ok-add_at-clause-step
returns-in-Ok-add_at-clause-step g c x size =
    let s = c.args.s.now in
    let f = c.args.f in
    let b = seen c.args.kv.now c.args.at.now in
    let bytes = c.args.bytes.now in
    let p = c.piece_of.result in
    let slice = c.in-Ok-store_bytes.slice in
    let at = c.args.at.now in
    let new = c.add_at.new.at in
    let r = c.in-Ok-add_at.field-0 in
    let len : p.len ≡ length bytes = c.piece_of.ensures.len ∙ c.in-Ok-store_bytes.ensures.stored.len in
    let open_at = spot_open c.handle_of.result (handle_in s f) c.in-Some.spot c.handle_of.ensures c.in-Some.is in
    let h = open_at.handle in
    let i0 = c.in-Some.spot.inode in
    let z = c.args.dev.now.settings.region in
    let end : IsFileEnd (file_of i0 b) c.file_end-end.result = c.file_end-end.ensures.end in
    let room : HasRoom z (file_of i0 b) (length bytes) = c.room.ensures.room (file_of i0 b) end
    (subst (λ (o : Option ℕ). IsSome o) (sym c.in-Some-room.is) refl) in
    let lacks : r ≡ added.TooBig → LacksRoom z (file_of i0 b) (length bytes) = λ e. subst (λ (k : ℕ). LacksRoom z (file_of i0 b) k) (omega (arith, len))
    (c.in-Ok-add_at.ensures.full (file_of i0 b) end e) in
    let done : r ≡ added.Done = added_in_room z (file_of i0 b) (length bytes) r room lacks in
    let laid : IsAdded z i0 (file_of i0 b) (p ∷ []) at new r =
    subst (λ (a : Attempted Key Delta). IsAdded z i0 (file_of i0 b) (p ∷ []) a new r) c.file_end-end.ensures.same
    (c.in-Ok-add_at.ensures.added (file_of i0 b) end) in
    let is : IsAdded x.size h.inode (file_of h.inode b) (p ∷ []) at new added.Done =
    subst (λ (i : InodeId). IsAdded x.size i (file_of i b) (p ∷ []) at new added.Done) open_at.inode
    (subst (λ (y : ℕ). IsAdded y i0 (file_of i0 b) (p ∷ []) at new added.Done) (sym size)
    (subst (λ (q : Added). IsAdded z i0 (file_of i0 b) (p ∷ []) at new q) done laid)) in
    step_added g.S.SliceStore.kind (stores c.args.dev.now) (stores c.store_bytes.new.dev) (record { answer = answer.Okay; own = Some slice }) x b s f (p ∷ [])
    bytes at new answer.Okay refl
    (record { piece = p; one = refl; len = c.piece_of.ensures.len; part = c.piece_of.ensures.part })
    (λ tells. tell_stored (byte_at g.S.SliceStore.kind (stores c.store_bytes.new.dev)) slice p bytes c.piece_of.ensures.len c.piece_of.ensures.part
    c.in-Ok-store_bytes.ensures.stored.len (c.in-Ok-store_bytes.ensures.holds tells))
    (adds x b s f h (p ∷ []) bytes at new added.Done open_at.is (omega (arith, len)) is)

pub returns-in-Err-store_bytes-clause-due : goal.returns-in-Err-store_bytes-clause-due
returns-in-Err-store_bytes-clause-due g c =
    let s = c.args.s.now in
    let f = c.args.f in
    let b = seen c.args.kv.now c.args.at.now in
    let bytes = c.args.bytes.now in
    let settings = c.args.dev.now.settings in
    let open_at = spot_open c.handle_of.result (handle_in s f) c.in-Some.spot c.handle_of.ensures c.in-Some.is in
    let room0 : HasRoom settings.region (file_of c.in-Some.spot.inode b) (length bytes) = c.room.ensures.room (file_of c.in-Some.spot.inode b)
    c.file_end-end.ensures.end (subst (λ (o : Option ℕ). IsSome o) (sym c.in-Some-room.is) refl) in
    let room : HasRoom settings.region (file_of open_at.handle.inode b) (length bytes) = subst
    (λ (i : InodeId). HasRoom settings.region (file_of i b) (length bytes)) open_at.inode room0 in
    append_due g.S.SliceStore.kind (between c.args.dev.now c.store_bytes.new.dev) settings b s f open_at.handle bytes c.in-Err-store_bytes.why open_at.is
    (omega (arith, c.if-len-eq0.false)) room c.in-Err-store_bytes.ensures.fault

pub returns-in-Ok-add_at-clause-own : goal.returns-in-Ok-add_at-clause-own
returns-in-Ok-add_at-clause-own g c h e =
    let s = c.args.s.now in
    let f = c.args.f in
    let b = seen c.args.kv.now c.args.at.now in
    let dev = c.args.dev.now in
    let slice = c.in-Ok-store_bytes.slice in
    let kind = g.S.SliceStore.kind in
    let open_at = spot_open c.handle_of.result (handle_in s f) c.in-Some.spot c.handle_of.ensures c.in-Some.is in
    let both : Some open_at.handle ≡ Some h = sym open_at.is ∙ e in
    let same : open_at.handle ≡ h = cc in
    let inode : c.in-Some.spot.inode ≡ h.inode = open_at.inode ∙ ap (λ (k : Handle). k.inode) same in
    let off : c.in-Some-room.off ≡ end_place dev.settings.region (file_of c.in-Some.spot.inode b) =
    subst (λ (o : Option ℕ). IfSome o (λ k. k ≡ end_place dev.settings.region (file_of c.in-Some.spot.inode b))) c.in-Some-room.is
    (c.room.ensures.place (file_of c.in-Some.spot.inode b) c.file_end-end.ensures.end) in
    let at_end = subst (λ (k : ℕ). IsStored kind (between dev c.store_bytes.new.dev) dev.settings.replicas (place_in dev c.in-Some.spot.inode k)
    c.args.bytes.now slice) off c.in-Ok-store_bytes.ensures.stored in (
      subst (λ (i : InodeId). IsStored kind (between dev c.store_bytes.new.dev) dev.settings.replicas
          (place_in dev i (end_place dev.settings.region (file_of i b))) c.args.bytes.now slice) inode at_end,
      c.in-Ok-store_bytes.ensures.inside,
      c.in-Ok-store_bytes.ensures.known,
    )

pub returns-in_default-clause-made : goal.returns-in_default-clause-made
returns-in_default-clause-made g c =
    let at = c.args.at.now in
    let b = seen c.args.kv.now at in
    let F : Edits → Type 0 = OfSlice c.only.result.own (AddsAt c.args.dev.now.settings.region b (handle_in c.args.s.now c.args.f)) in
    makes_refused c.only.result.answer NoHandle F at at c.only.ensures.answer refl

pub returns-then-len-eq0-clause-made : goal.returns-then-len-eq0-clause-made
returns-then-len-eq0-clause-made g c =
    let at = c.args.at.now in
    let b = seen c.args.kv.now at in
    let z = c.args.dev.now.settings.region in
    let o = handle_in c.args.s.now c.args.f in
    brings_no_slice c.only-then-len-eq0.result.answer c.only-then-len-eq0.result.own (AddsAt z b o) at at c.only-then-len-eq0.ensures.own (adds_none z b o) refl

pub returns-in-Ok-clause-made : goal.returns-in-Ok-clause-made
returns-in-Ok-clause-made g c =
    let at = c.args.at.now in
    let new = c.file_len.new.at in
    let b = seen c.args.kv.now at in
    let i = c.in-Some.spot.inode in
    let F : Edits → Type 0 = OfSlice c.only-in-Ok.result.own (AddsAt c.args.dev.now.settings.region b (handle_in c.args.s.now c.args.f)) in
    let recorded : Recorded i (length_keys (file_of i b)) at new =
    subst (λ (a : Attempted Key Delta). Recorded i (length_keys (file_of i (seen c.args.kv.now a))) a new) c.file_end-end.ensures.same
    c.in-Ok.ensures.recorded in
    makes_refused c.only-in-Ok.result.answer TooBig F at new c.only-in-Ok.ensures.answer (recorded.changes ∙ append-nil at.changes)

pub returns-in-Ok-add_at-clause-made : goal.returns-in-Ok-add_at-clause-made
returns-in-Ok-add_at-clause-made g c =
    let s = c.args.s.now in
    let f = c.args.f in
    let b = seen c.args.kv.now c.args.at.now in
    let bytes = c.args.bytes.now in
    let p = c.piece_of.result in
    let slice = c.in-Ok-store_bytes.slice in
    let at = c.args.at.now in
    let new = c.add_at.new.at in
    let r = c.in-Ok-add_at.field-0 in
    let o = handle_in s f in
    let len : p.len ≡ length bytes = c.piece_of.ensures.len ∙ c.in-Ok-store_bytes.ensures.stored.len in
    let open_at = spot_open c.handle_of.result o c.in-Some.spot c.handle_of.ensures c.in-Some.is in
    let i = c.in-Some.spot.inode in
    let z = c.args.dev.now.settings.region in
    let end : IsFileEnd (file_of i b) c.file_end-end.result = c.file_end-end.ensures.end in
    let room : HasRoom z (file_of i b) (length bytes) = c.room.ensures.room (file_of i b) end
    (subst (λ (m : Option ℕ). IsSome m) (sym c.in-Some-room.is) refl) in
    let lacks : r ≡ added.TooBig → LacksRoom z (file_of i b) (length bytes) = λ e. subst (λ (k : ℕ). LacksRoom z (file_of i b) k) (omega (arith, len))
    (c.in-Ok-add_at.ensures.full (file_of i b) end e) in
    let done : r ≡ added.Done = added_in_room z (file_of i b) (length bytes) r room lacks in
    let laid : IsAdded z i (file_of i b) (p ∷ []) at new r =
    subst (λ (a : Attempted Key Delta). IsAdded z i (file_of i b) (p ∷ []) a new r) c.file_end-end.ensures.same
    (c.in-Ok-add_at.ensures.added (file_of i b) end) in
    let is : IsAdded z i (file_of i b) (p ∷ []) at new added.Done = subst (λ (q : Added). IsAdded z i (file_of i b) (p ∷ []) at new q) done laid in
    brings_slice answer.Okay answer.Okay (Some slice) slice p (AddsAt z b o) at new refl refl c.piece_of.ensures.len c.piece_of.ensures.part
    (makes_added z b o open_at.handle i (p ∷ []) at new added.Done open_at.is open_at.inode is)

ends_at : (r : Option ℕ) (k n : ℕ) → r ≡ Some k → IfSome r (λ j. j ≡ n) → k ≡ n
ends_at r k n is at = subst (λ (o : Option ℕ). IfSome o (λ j. j ≡ n)) is at

pub returns-in_default-clause-leaves : goal.returns-in_default-clause-leaves
returns-in_default-clause-leaves g c =
    let dev = c.args.dev.now in
    leaves_all g.S.SliceStore.kind (option_map (place_at_end dev (seen c.args.kv.now c.args.at.now)) (handle_in c.args.s.now c.args.f))
    (length c.args.bytes.now) dev

pub returns-then-len-eq0-clause-leaves : goal.returns-then-len-eq0-clause-leaves
returns-then-len-eq0-clause-leaves g c =
    let dev = c.args.dev.now in
    leaves_all g.S.SliceStore.kind (option_map (place_at_end dev (seen c.args.kv.now c.args.at.now)) (handle_in c.args.s.now c.args.f))
    (length c.args.bytes.now) dev

pub returns-in-Ok-clause-leaves : goal.returns-in-Ok-clause-leaves
returns-in-Ok-clause-leaves g c =
    let dev = c.args.dev.now in
    leaves_all g.S.SliceStore.kind (option_map (place_at_end dev (seen c.args.kv.now c.args.at.now)) (handle_in c.args.s.now c.args.f))
    (length c.args.bytes.now) dev

pub returns-in-Err-clause-leaves : goal.returns-in-Err-clause-leaves
returns-in-Err-clause-leaves g c =
    let dev = c.args.dev.now in
    leaves_all g.S.SliceStore.kind (option_map (place_at_end dev (seen c.args.kv.now c.args.at.now)) (handle_in c.args.s.now c.args.f))
    (length c.args.bytes.now) dev

pub returns-in-Err-store_bytes-clause-leaves : goal.returns-in-Err-store_bytes-clause-leaves
returns-in-Err-store_bytes-clause-leaves g c =
    let dev = c.args.dev.now in
    let w = seen c.args.kv.now c.args.at.now in
    let o = handle_in c.args.s.now c.args.f in
    let i = c.in-Some.spot.inode in
    let open_at = spot_open c.handle_of.result o c.in-Some.spot c.handle_of.ensures c.in-Some.is in
    let at_end : c.in-Some-room.off ≡ end_place dev.settings.region (file_of i w) = ends_at c.room.result c.in-Some-room.off
    (end_place dev.settings.region (file_of i w)) c.in-Some-room.is
    (c.room.ensures.place (file_of i w) c.file_end-end.ensures.end) in
    leaves_put g.S.SliceStore.kind (between dev c.store_bytes.new.dev) o (place_at_end dev w) open_at.handle (length c.args.bytes.now)
    (place_in dev i c.in-Some-room.off) open_at.is
    (ap (λ (n : ℕ). place_in dev i n) at_end ∙ ap (λ (j : InodeId). place_in dev j (end_place dev.settings.region (file_of j w))) open_at.inode)
    c.in-Err-store_bytes.ensures.down c.in-Err-store_bytes.ensures.grows c.in-Err-store_bytes.ensures.syncs

pub returns-in-Ok-add_at-clause-leaves : goal.returns-in-Ok-add_at-clause-leaves
returns-in-Ok-add_at-clause-leaves g c =
    let dev = c.args.dev.now in
    let w = seen c.args.kv.now c.args.at.now in
    let o = handle_in c.args.s.now c.args.f in
    let i = c.in-Some.spot.inode in
    let open_at = spot_open c.handle_of.result o c.in-Some.spot c.handle_of.ensures c.in-Some.is in
    let at_end : c.in-Some-room.off ≡ end_place dev.settings.region (file_of i w) = ends_at c.room.result c.in-Some-room.off
    (end_place dev.settings.region (file_of i w)) c.in-Some-room.is
    (c.room.ensures.place (file_of i w) c.file_end-end.ensures.end) in
    leaves_put g.S.SliceStore.kind (between dev c.store_bytes.new.dev) o (place_at_end dev w) open_at.handle (length c.args.bytes.now)
    (place_in dev i c.in-Some-room.off) open_at.is
    (ap (λ (n : ℕ). place_in dev i n) at_end ∙ ap (λ (j : InodeId). place_in dev j (end_place dev.settings.region (file_of j w))) open_at.inode)
    c.in-Ok-store_bytes.ensures.down c.in-Ok-store_bytes.ensures.grows c.in-Ok-store_bytes.ensures.syncs

pub returns-in-Err-add_at-clause-leaves : goal.returns-in-Err-add_at-clause-leaves
returns-in-Err-add_at-clause-leaves g c =
    let dev = c.args.dev.now in
    let w = seen c.args.kv.now c.args.at.now in
    let o = handle_in c.args.s.now c.args.f in
    let i = c.in-Some.spot.inode in
    let open_at = spot_open c.handle_of.result o c.in-Some.spot c.handle_of.ensures c.in-Some.is in
    let at_end : c.in-Some-room.off ≡ end_place dev.settings.region (file_of i w) = ends_at c.room.result c.in-Some-room.off
    (end_place dev.settings.region (file_of i w)) c.in-Some-room.is
    (c.room.ensures.place (file_of i w) c.file_end-end.ensures.end) in
    leaves_put g.S.SliceStore.kind (between dev c.store_bytes.new.dev) o (place_at_end dev w) open_at.handle (length c.args.bytes.now)
    (place_in dev i c.in-Some-room.off) open_at.is
    (ap (λ (n : ℕ). place_in dev i n) at_end ∙ ap (λ (j : InodeId). place_in dev j (end_place dev.settings.region (file_of j w))) open_at.inode)
    c.in-Ok-store_bytes.ensures.down c.in-Ok-store_bytes.ensures.grows c.in-Ok-store_bytes.ensures.syncs

pub returns-in_default-clause-puts : goal.returns-in_default-clause-puts
returns-in_default-clause-puts g c =
    let s = c.args.s.now in
    puts_nothing g.met.S.SliceStore.laws c.args.dev.now c.requires.sound (in_hand c.args.at.now s) (handle_in s c.args.f) c.args.bytes.now
    c.only.result c.only.ensures.own
    (subst (λ (a : Answer). IsLogged a) (sym c.only.ensures.answer) tt)
    (inr (subst (λ (a : Answer). IsRefusal a) (sym c.only.ensures.answer) tt))

pub returns-then-len-eq0-clause-puts : goal.returns-then-len-eq0-clause-puts
returns-then-len-eq0-clause-puts g c =
    let s = c.args.s.now in
    puts_nothing g.met.S.SliceStore.laws c.args.dev.now c.requires.sound (in_hand c.args.at.now s) (handle_in s c.args.f) c.args.bytes.now
    c.only-then-len-eq0.result c.only-then-len-eq0.ensures.own
    (subst (λ (a : Answer). IsLogged a) (sym c.only-then-len-eq0.ensures.answer) tt)
    (inl c.if-len-eq0.true)

pub returns-in_default-clause-own : goal.returns-in_default-clause-own
returns-in_default-clause-own g c h e =
    let dev = c.args.dev.now in
    let place = place_in dev h.inode (end_place dev.settings.region (file_of h.inode (seen c.args.kv.now c.args.at.now))) in
    subst (λ (o : Option Slice). IsOwn g.S.SliceStore.kind dev dev place c.args.bytes.now o) (sym c.only.ensures.own) refl

pub returns-then-len-eq0-clause-own : goal.returns-then-len-eq0-clause-own
returns-then-len-eq0-clause-own g c h e =
    let dev = c.args.dev.now in
    let place = place_in dev h.inode (end_place dev.settings.region (file_of h.inode (seen c.args.kv.now c.args.at.now))) in
    subst (λ (o : Option Slice). IsOwn g.S.SliceStore.kind dev dev place c.args.bytes.now o) (sym c.only-then-len-eq0.ensures.own) refl

pub returns-in-Ok-clause-own : goal.returns-in-Ok-clause-own
returns-in-Ok-clause-own g c h e =
    let dev = c.args.dev.now in
    let place = place_in dev h.inode (end_place dev.settings.region (file_of h.inode (seen c.args.kv.now c.args.at.now))) in
    subst (λ (o : Option Slice). IsOwn g.S.SliceStore.kind dev dev place c.args.bytes.now o) (sym c.only-in-Ok.ensures.own) refl

pub returns-in-Ok-clause-puts : goal.returns-in-Ok-clause-puts
returns-in-Ok-clause-puts g c =
    let dev = c.args.dev.now in
    let at = c.args.at.now in
    let new = c.file_len.new.at in
    let b = seen c.args.kv.now at in
    let i = c.in-Some.spot.inode in
    let open_at = spot_open c.handle_of.result (handle_in c.args.s.now c.args.f) c.in-Some.spot c.handle_of.ensures c.in-Some.is in
    let recorded : Recorded i (length_keys (file_of i b)) at new =
    subst (λ (a : Attempted Key Delta). Recorded i (length_keys (file_of i (seen c.args.kv.now a))) a new) c.file_end-end.ensures.same
    c.in-Ok.ensures.recorded in
    record {
      closed = λ shut. absurd (some_none open_at.handle (sym open_at.is ∙ shut));
      lacks = λ own. inr (subst (λ (a : Answer). IsRefusal a) (sym c.only-in-Ok.ensures.answer) tt);
      done = λ some. absurd (not_some c.only-in-Ok.result.own c.only-in-Ok.ensures.own some);
      logged = subst (λ (a : Answer). IsLogged a) (sym c.only-in-Ok.ensures.answer) tt;
      refused = λ refusal. (refl, c.only-in-Ok.ensures.own, recorded.changes ∙ append-nil at.changes, refl);
      fault = tt;
      lists = refl;
      err = tt;
      grows = Grows-by at new _ _ recorded;
      dev = goes_nowhere g.met.S.SliceStore.laws dev c.requires.sound;
    }

pub returns-in-Err-clause-puts : goal.returns-in-Err-clause-puts
returns-in-Err-clause-puts g c =
    let dev = c.args.dev.now in
    record {
      closed = tt;
      lacks = tt;
      done = tt;
      logged = tt;
      refused = tt;
      fault = memory_short g.S.SliceStore.kind dev dev c.args.bytes.now;
      lists = refl;
      err = refl;
      grows = subst (λ (a : Attempted Key Delta). Grows a c.file_len.new.at) c.file_end-end.ensures.same c.in-Err.ensures.grows;
      dev = goes_nowhere g.met.S.SliceStore.laws dev c.requires.sound;
    }

pub returns-in-Ok-add_at-clause-puts : goal.returns-in-Ok-add_at-clause-puts
returns-in-Ok-add_at-clause-puts g c =
    let open_at = spot_open c.handle_of.result (handle_in c.args.s.now c.args.f) c.in-Some.spot c.handle_of.ensures c.in-Some.is in
    record {
      closed = λ shut. absurd (some_none open_at.handle (sym open_at.is ∙ shut));
      lacks = λ none. absurd (some_none c.in-Ok-store_bytes.slice none);
      done = λ some. refl;
      logged = tt;
      refused = λ h. absurd h;
      fault = tt;
      lists = c.in-Ok-store_bytes.ensures.lists;
      err = tt;
      grows = subst (λ (a : Attempted Key Delta). Grows a c.add_at.new.at) c.file_end-end.ensures.same c.in-Ok-add_at.ensures.grows;
      dev = c.in-Ok-store_bytes.ensures.dev;
    }

pub returns-in-Err-add_at-clause-puts : goal.returns-in-Err-add_at-clause-puts
returns-in-Err-add_at-clause-puts g c = record {
  closed = tt;
  lacks = tt;
  done = tt;
  logged = tt;
  refused = tt;
  fault = memory_short g.S.SliceStore.kind c.args.dev.now c.store_bytes.new.dev c.args.bytes.now;
  lists = c.in-Ok-store_bytes.ensures.lists;
  err = refl;
  grows = subst (λ (a : Attempted Key Delta). Grows a c.add_at.new.at) c.file_end-end.ensures.same c.in-Err-add_at.ensures.grows;
  dev = c.in-Ok-store_bytes.ensures.dev;
}
