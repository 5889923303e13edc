use Rattle.std.proofs.Common.{◌+◌, Some, refl, sym, ◌∙◌, subst, arith}
use Rattle.wtf_model.specs.declared.answer.Answer.TheVariants as answer
use Rattle.wtf_model.specs.declared.answer.Word.TheVariants.{NoSlice, Range}
use Rattle.wtf_model.specs.declared.op.Op.TheVariants as op
use Rattle.wtf_meta.specs.Sessions.{SessionView, slice_in, SetsSlice}
use Rattle.wtf_meta.specs.Calls.{cap_for}
use Rattle.wtf_model.proofs.SliceLaws.{cut-none}
use Rattle.wtf_steps.proofs.Handing.{hand_refused, hand_goes}
use Rattle.wtf_slicing.specs.Held.{Cuts}
use Rattle.wtf_slicing.proofs.Parts.{there, never_set, within_some, plans_of}
use Rattle.wtf_slicing.proofs.SliceWays.{no_slice, cuts_past, cuts, step_plain}
use Rattle.wtf_slicing.proofs.cutting.cut.Goals as goal

pub returns-in_default-clause-step : goal.returns-in_default-clause-step
returns-in_default-clause-step c x b now e =
    let s = c.args.s.now in
    let o = op.Cut c.args.from c.args.off c.args.len c.args.to in
    step_plain s s x b now o (answer.Refused NoSlice) e
    (no_slice x b s c.args.from o (never_set (slice_in s c.args.from) (sym c.in_default.is ∙ c.slice_len.ensures))
    (λ S none. cut-none (cap_for x) S c.args.from c.args.off c.args.len c.args.to none))

pub returns-in_default-clause-holds : goal.returns-in_default-clause-holds
returns-in_default-clause-holds c = hand_refused (answer.Refused NoSlice) NoSlice (Cuts c.args.from c.args.off c.args.len c.args.to) c.args.s.now refl

pub returns-then-not-is_part-clause-step : goal.returns-then-not-is_part-clause-step
returns-then-not-is_part-clause-step c x b now e =
    let s = c.args.s.now in
    let is = there (slice_in s c.args.from) c.in-Some.whole (sym c.in-Some.is ∙ c.slice_len.ensures) in
    step_plain s s x b now (op.Cut c.args.from c.args.off c.args.len c.args.to) (answer.Refused Range) e
    (cuts_past x b s c.args.from c.args.off c.args.len c.args.to is.pieces is.is
    (omega (arith, is.len, c.is_part.ensures.past c.if-not-is_part.true, c.requires.off, c.requires.len)))

pub returns-then-not-is_part-clause-holds : goal.returns-then-not-is_part-clause-holds
returns-then-not-is_part-clause-holds c = hand_refused (answer.Refused Range) Range (Cuts c.args.from c.args.off c.args.len c.args.to) c.args.s.now refl

pub cut_pieces-requires-clause-within : goal.cut_pieces-requires-clause-within
cut_pieces-requires-clause-within c =
    let o = slice_in c.args.s.now c.args.from in
    let is = there o c.in-Some.whole (sym c.in-Some.is ∙ c.slice_len.ensures) in
    within_some o is.pieces (c.args.off + c.args.len) is.is (omega (arith, is.len, c.is_part.ensures.inside c.if-not-is_part.false))

pub returns-clause-step : goal.returns-clause-step
returns-clause-step c x b now e =
    let s = c.args.s.now in
    let t = c.put_slice.new.self in
    let o = slice_in s c.args.from in
    let is = there o c.in-Some.whole (sym c.in-Some.is ∙ c.slice_len.ensures) in
    let set : SetsSlice c.args.to (Some c.in_ok-part.part.items) s t = subst (λ (v : SessionView). SetsSlice c.args.to
    (Some c.in_ok-part.part.items) v t) c.cut_pieces.ensures.same c.put_slice.ensures in
    step_plain s t x b now (op.Cut c.args.from c.args.off c.args.len c.args.to) answer.Okay e
    (cuts x b s t c.args.from c.args.off c.args.len c.args.to is.pieces c.in_ok-part.part.items is.is
    (omega (arith, is.len, c.is_part.ensures.inside c.if-not-is_part.false))
    (plans_of o is.pieces c.in_ok-part.part.items c.args.off c.args.len is.is c.in_ok-part.ensures.part) set)

pub returns-clause-holds : goal.returns-clause-holds
returns-clause-holds c =
    let s = c.args.s.now in
    let t = c.put_slice.new.self in
    let o = slice_in s c.args.from in
    let is = there o c.in-Some.whole (sym c.in-Some.is ∙ c.slice_len.ensures) in
    hand_goes answer.Okay (Cuts c.args.from c.args.off c.args.len c.args.to) s t (λ h. h) (record {
      pieces = is.pieces;
      stood = is.is;
      within = omega (arith, is.len, c.is_part.ensures.inside c.if-not-is_part.false);
      part = c.in_ok-part.part.items;
      plans = plans_of o is.pieces c.in_ok-part.part.items c.args.off c.args.len is.is c.in_ok-part.ensures.part;
      kept = subst (λ (v : SessionView). SetsSlice c.args.to (Some c.in_ok-part.part.items) v t) c.cut_pieces.ensures.same c.put_slice.ensures;
    })
