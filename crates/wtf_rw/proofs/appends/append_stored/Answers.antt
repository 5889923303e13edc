use Rattle.std.proofs.Common.{◌≡◌, ℕ, [], ◌∷◌, replicate, Option, Some, refl, sym, ap, ◌∙◌, subst, arith}
use Rattle.std.proofs.lemmas.List.{length-replicate}
use Rattle.wtf_base.specs.declared.ids.InodeId.{InodeId}
use Rattle.wtf_base.specs.Slices.{HasLength, len_of}
use Rattle.wtf_occ.proofs.AttemptLaws.{GrowsBy-nothing}
use Rattle.wtf_overlay.specs.Origin.{pieces_len}
use Rattle.wtf_model.specs.declared.answer.Answer.{Answer}
use Rattle.wtf_model.specs.declared.answer.Answer.TheVariants as answer
use Rattle.wtf_model.specs.declared.answer.Word.TheVariants.{NoHandle}
use Rattle.wtf_model.specs.declared.op.Op.TheVariants as op
use Rattle.wtf_meta.specs.declared.session.Handle.{Handle}
use Rattle.wtf_meta.specs.Maps.{Edits, seen}
use Rattle.wtf_meta.specs.FileEdits.{file_of}
use Rattle.wtf_meta.specs.Appends.{keys_of, append_keys as file_append_keys}
use Rattle.wtf_meta.specs.Sessions.{handle_in}
use Rattle.wtf_meta.specs.Calls.{cap_for}
use Rattle.wtf_region.specs.Edited.{IsAdded}
use Rattle.wtf_steps.specs.Steps.{in_hand, answer_of}
use Rattle.wtf_steps.specs.Recorded.{append_keys}
use Rattle.wtf_rw.specs.Stored.{Answers}
use Rattle.wtf_model.proofs.ByteLaws.{append-none}
use Rattle.wtf_steps.proofs.Ways.{no_handle, spot_open, spot_closed}
use Rattle.wtf_rw.proofs.StoredBytes.{step_stored}
use Rattle.wtf_rw.proofs.AppendWays.{adds, adds_nothing, mark_within, rewound, hole_tells, adds_answer, nothing_answer, closed_answer}
use Rattle.wtf_rw.proofs.AppendWays.{step_brought, step_nothing}
use Rattle.wtf_steps.proofs.AppendWays.{added_keys, keys_due}
use Rattle.wtf_steps.specs.Made.{AddsAt}
use Rattle.wtf_steps.proofs.Making.{makes_refused, adds_none, makes_added}
use Rattle.wtf_rw.specs.Changed.{OfSlice}
use Rattle.wtf_rw.proofs.MadeWays.{no_slice_kept, brings_no_slice, brings_slice, some_none, alters_nothing}
use Rattle.wtf_rw.proofs.appends.append_stored.Goals as goal

pub returns-in_default-clause-step : goal.returns-in_default-clause-step
returns-in_default-clause-step c x bytes size len has =
    let s = c.args.s.now in
    let f = c.args.f in
    let b = seen c.args.kv.now c.args.at.now in
    let at = in_hand c.args.at.now s in
    step_stored c.args.kept.slice bytes x b at at [] (op.Append f bytes) (answer.Refused NoHandle) (GrowsBy-nothing c.args.at.now)
    (no_handle x b s f (op.Append f bytes) (spot_closed c.handle_of.result (handle_in s f) c.handle_of.ensures c.in_default.is)
    (λ S none. append-none (cap_for x) S f bytes none))

pub returns-in_default-clause-answers : goal.returns-in_default-clause-answers
returns-in_default-clause-answers c x bytes size len bare =
    let b = seen c.args.kv.now c.args.at.now in
    closed_answer x b c.args.s.now c.args.f (append_keys c.args.settings.region b (handle_in c.args.s.now c.args.f) c.args.kept.len) bytes
    (spot_closed c.handle_of.result (handle_in c.args.s.now c.args.f) c.handle_of.ensures c.in_default.is)

pub returns-then-kept-eq0-clause-step : goal.returns-then-kept-eq0-clause-step
returns-then-kept-eq0-clause-step c x bytes size len has =
    let s = c.args.s.now in
    let f = c.args.f in
    let b = seen c.args.kv.now c.args.at.now in
    let open_at = spot_open c.handle_of.result (handle_in s f) c.in-Some.spot c.handle_of.ensures c.in-Some.is in
    step_nothing c.args.kept.slice x b s f bytes c.args.at.now (len ∙ c.if-kept-eq0.true)
    (adds_nothing x b s f open_at.handle bytes c.args.at.now open_at.is (len ∙ c.if-kept-eq0.true))

pub returns-then-kept-eq0-clause-answers : goal.returns-then-kept-eq0-clause-answers
returns-then-kept-eq0-clause-answers c x bytes size len bare =
    let b = seen c.args.kv.now c.args.at.now in
    let open_at = spot_open c.handle_of.result (handle_in c.args.s.now c.args.f) c.in-Some.spot c.handle_of.ensures c.in-Some.is in
    nothing_answer x b c.args.s.now c.args.f open_at.handle (append_keys c.args.settings.region b (handle_in c.args.s.now c.args.f) c.args.kept.len) bytes
    open_at.is (len ∙ c.if-kept-eq0.true)

pub returns-in_default-slice-clause-keys : goal.returns-in_default-slice-clause-keys
returns-in_default-slice-clause-keys c =
    let s = c.args.s.now in
    let f = c.args.f in
    let b = seen c.args.kv.now c.args.at.now in
    let i = c.in-Some.spot.inode in
    let z = c.args.settings.region in
    let p = c.of-hole.result in
    let back = rewound c.args.at.now c.add_pieces.new.at c.rewind.new.self c.mark-after.result.reads c.mark-before.result.changes c.rewind.ensures.cut
    (ap (λ m. m.reads) c.mark-after.ensures) (ap (λ m. m.changes) c.mark-before.ensures) c.in_ok-added.ensures.grows in
    let open_at = spot_open c.handle_of.result (handle_in s f) c.in-Some.spot c.handle_of.ensures c.in-Some.is in
    back.reads ∙ keys_due z b (handle_in s f) open_at.handle i (pieces_len (p ∷ [])) c.args.kept.len c.add_pieces.new.at.reads c.args.at.now.reads open_at.is
    open_at.inode (omega (arith, c.of-hole.ensures.len))
    (added_keys z i (file_of i b) (p ∷ []) c.args.at.now c.add_pieces.new.at c.in_ok-added.added c.in_ok-added.ensures.added)

pub rewind-requires-clause-changes : goal.rewind-requires-clause-changes
rewind-requires-clause-changes c =
    mark_within c.mark-before.result.changes c.args.at.now.changes c.add_pieces.new.at.changes (ap (λ m. m.changes) c.mark-before.ensures)
    c.in_ok-added.ensures.grows.changes

pub returns-in_default-slice-clause-bare : goal.returns-in_default-slice-clause-bare
returns-in_default-slice-clause-bare c none =
    let back = rewound c.args.at.now c.add_pieces.new.at c.rewind.new.self c.mark-after.result.reads c.mark-before.result.changes c.rewind.ensures.cut
    (ap (λ m. m.reads) c.mark-after.ensures) (ap (λ m. m.changes) c.mark-before.ensures) c.in_ok-added.ensures.grows in
    back.changes

pub returns-in_default-slice-clause-alters : goal.returns-in_default-slice-clause-alters
returns-in_default-slice-clause-alters c =
    let back = rewound c.args.at.now c.add_pieces.new.at c.rewind.new.self c.mark-after.result.reads c.mark-before.result.changes c.rewind.ensures.cut
    (ap (λ m. m.reads) c.mark-after.ensures) (ap (λ m. m.changes) c.mark-before.ensures) c.in_ok-added.ensures.grows in
    record { logged = c.answer_to.ensures.logged; refused = λ h. (back.changes, refl); err = tt; grows = back.grows }

pub returns-in_default-slice-clause-answers : goal.returns-in_default-slice-clause-answers
returns-in_default-slice-clause-answers c x bytes size same bare =
    let s = c.args.s.now in
    let f = c.args.f in
    let b = seen c.args.kv.now c.args.at.now in
    let p = c.of-hole.result in
    let n = c.args.kept.len in
    let r = c.in_ok-added.added in
    let at = c.args.at.now in
    let new = c.add_pieces.new.at in
    let open_at = spot_open c.handle_of.result (handle_in s f) c.in-Some.spot c.handle_of.ensures c.in-Some.is in
    let h = open_at.handle in
    let is : IsAdded x.size h.inode (file_of h.inode b) (p ∷ []) at new r =
    subst (λ (i : InodeId). IsAdded x.size i (file_of i b) (p ∷ []) at new r) open_at.inode
    (subst (λ (z : ℕ). IsAdded z c.in-Some.spot.inode (file_of c.in-Some.spot.inode b) (p ∷ []) at new r) (sym size) c.in_ok-added.ensures.added) in
    let due : Answers x b s (keys_of h.inode (file_append_keys x.size (file_of h.inode b) (pieces_len (p ∷ [])))) (op.Append f bytes) (answer_of r) =
    adds_answer x b s f h (p ∷ []) bytes (replicate n 0) at new r open_at.is (omega (arith, c.of-hole.ensures.len, same)) (length-replicate n 0 ∙ sym same)
    (λ told. hole_tells told p n c.of-hole.ensures.len c.of-hole.ensures.part) is in
    let count : pieces_len (p ∷ []) ≡ n = omega (arith, c.of-hole.ensures.len) in
    subst (λ (a : Answer). Answers x b s (append_keys c.args.settings.region b (handle_in s f) n) (op.Append f bytes) a) (sym c.answer_to.ensures.value)
    (subst (λ (o : Option Handle). Answers x b s (append_keys c.args.settings.region b o n) (op.Append f bytes) (answer_of r)) (sym open_at.is)
    (subst (λ (z : ℕ). Answers x b s (append_keys z b (Some h) n) (op.Append f bytes) (answer_of r)) size
    (subst (λ (k : ℕ). Answers x b s (keys_of h.inode (file_append_keys x.size (file_of h.inode b) k)) (op.Append f bytes) (answer_of r)) count due)))

pub returns-clause-keys : goal.returns-clause-keys
returns-clause-keys c =
    let s = c.args.s.now in
    let f = c.args.f in
    let b = seen c.args.kv.now c.args.at.now in
    let i = c.in-Some.spot.inode in
    let z = c.args.settings.region in
    let p = c.piece_of.result in
    let kept : len_of c.in-Some-slice.slice ≡ c.args.kept.len = subst (HasLength c.args.kept.len) c.in-Some-slice.is c.args.kept.held in
    let open_at = spot_open c.handle_of.result (handle_in s f) c.in-Some.spot c.handle_of.ensures c.in-Some.is in
    keys_due z b (handle_in s f) open_at.handle i (pieces_len (p ∷ [])) c.args.kept.len c.add_pieces-2.new.at.reads c.args.at.now.reads open_at.is open_at.inode
    (omega (arith, c.piece_of.ensures.len, kept))
    (added_keys z i (file_of i b) (p ∷ []) c.args.at.now c.add_pieces-2.new.at c.in_ok-added-2.added c.in_ok-added-2.ensures.added)

pub returns-clause-step : goal.returns-clause-step
returns-clause-step c x bytes size same has =
    let s = c.args.s.now in
    let f = c.args.f in
    let b = seen c.args.kv.now c.args.at.now in
    let p = c.piece_of.result in
    let r = c.in_ok-added-2.added in
    let at = c.args.at.now in
    let new = c.add_pieces-2.new.at in
    let slice = c.in-Some-slice.slice in
    let kept : len_of slice ≡ c.args.kept.len = subst (HasLength c.args.kept.len) c.in-Some-slice.is c.args.kept.held in
    let open_at = spot_open c.handle_of.result (handle_in s f) c.in-Some.spot c.handle_of.ensures c.in-Some.is in
    let h = open_at.handle in
    let is : IsAdded x.size h.inode (file_of h.inode b) (p ∷ []) at new r =
    subst (λ (i : InodeId). IsAdded x.size i (file_of i b) (p ∷ []) at new r) open_at.inode
    (subst (λ (z : ℕ). IsAdded z c.in-Some.spot.inode (file_of c.in-Some.spot.inode b) (p ∷ []) at new r) (sym size) c.in_ok-added-2.ensures.added) in
    step_brought c.args.kept.slice slice p x b s f bytes at new (answer_of r) c.answer_to-2.result c.answer_to-2.ensures.value c.in-Some-slice.is
    c.piece_of.ensures.len c.piece_of.ensures.part
    (adds x b s f h (p ∷ []) bytes at new r open_at.is (omega (arith, c.piece_of.ensures.len, kept, same)) is)

pub returns-in_default-clause-made : goal.returns-in_default-clause-made
returns-in_default-clause-made c =
    let at = c.args.at.now in
    let F : Edits → Type 0 = OfSlice c.args.kept.slice (AddsAt c.args.settings.region (seen c.args.kv.now at) (handle_in c.args.s.now c.args.f)) in
    makes_refused (answer.Refused NoHandle) NoHandle F at at refl refl

pub returns-then-kept-eq0-clause-made : goal.returns-then-kept-eq0-clause-made
returns-then-kept-eq0-clause-made c =
    let at = c.args.at.now in
    let b = seen c.args.kv.now at in
    let z = c.args.settings.region in
    let o = handle_in c.args.s.now c.args.f in
    brings_no_slice answer.Okay c.args.kept.slice (AddsAt z b o) at at (no_slice_kept c.args.kept.slice c.args.kept.len c.args.kept.held c.if-kept-eq0.true)
    (adds_none z b o) refl

pub returns-in_default-slice-clause-made : goal.returns-in_default-slice-clause-made
returns-in_default-slice-clause-made c =
    let at = c.args.at.now in
    let b = seen c.args.kv.now at in
    let z = c.args.settings.region in
    let o = handle_in c.args.s.now c.args.f in
    let back = rewound at c.add_pieces.new.at c.rewind.new.self c.mark-after.result.reads c.mark-before.result.changes c.rewind.ensures.cut
    (ap (λ m. m.reads) c.mark-after.ensures) (ap (λ m. m.changes) c.mark-before.ensures) c.in_ok-added.ensures.grows in
    brings_no_slice c.answer_to.result c.args.kept.slice (AddsAt z b o) at c.rewind.new.self c.in_default-slice.is (adds_none z b o) back.changes

pub returns-clause-made : goal.returns-clause-made
returns-clause-made c =
    let s = c.args.s.now in
    let f = c.args.f in
    let at = c.args.at.now in
    let new = c.add_pieces-2.new.at in
    let b = seen c.args.kv.now at in
    let z = c.args.settings.region in
    let o = handle_in s f in
    let p = c.piece_of.result in
    let r = c.in_ok-added-2.added in
    let i = c.in-Some.spot.inode in
    let open_at = spot_open c.handle_of.result o c.in-Some.spot c.handle_of.ensures c.in-Some.is in
    brings_slice c.answer_to-2.result (answer_of r) c.args.kept.slice c.in-Some-slice.slice p (AddsAt z b o) at new c.answer_to-2.ensures.value
    c.in-Some-slice.is c.piece_of.ensures.len c.piece_of.ensures.part
    (makes_added z b o open_at.handle i (p ∷ []) at new r open_at.is open_at.inode c.in_ok-added-2.ensures.added)

pub returns-in_default-clause-alters : goal.returns-in_default-clause-alters
returns-in_default-clause-alters c = alters_nothing (in_hand c.args.at.now c.args.s.now) (answer.Refused NoHandle) tt

pub returns-then-kept-eq0-clause-alters : goal.returns-then-kept-eq0-clause-alters
returns-then-kept-eq0-clause-alters c = alters_nothing (in_hand c.args.at.now c.args.s.now) answer.Okay tt

pub returns-clause-bare : goal.returns-clause-bare
returns-clause-bare c none = absurd (some_none c.in-Some-slice.slice (sym c.in-Some-slice.is ∙ none))
