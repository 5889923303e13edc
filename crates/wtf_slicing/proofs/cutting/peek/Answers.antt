use Rattle.std.proofs.Common.{◌+◌, ◌≤◌, ℕ, List, [], Option, refl, sym, ◌∙◌, subst, arith, inr}
use Rattle.wtf_occ.proofs.AttemptLaws.{GrowsBy-nothing}
use Rattle.wtf_overlay.specs.Origin.{Plans, pieces_len, pieces_origin}
use Rattle.wtf_overlay.specs.declared.part.Piece.{Piece}
use Rattle.wtf_replica.specs.Bytes.{byte_at}
use Rattle.wtf_model.specs.declared.answer.Answer.TheVariants as answer
use Rattle.wtf_model.specs.declared.answer.Word.TheVariants.{NoSlice, Range}
use Rattle.wtf_model.specs.declared.op.Op.TheVariants as op
use Rattle.wtf_meta.specs.Bytes.{PiecesBytes}
use Rattle.wtf_meta.specs.Sessions.{SessionView, slice_in}
use Rattle.wtf_meta.specs.Calls.{cap_for, IsCall}
use Rattle.wtf_meta.proofs.Named.{PiecesBytes-cut}
use Rattle.wtf_region.specs.Devs.{stores, is_down_in, inside_of, between}
use Rattle.wtf_region.specs.Inside.{is_inside}
use Rattle.wtf_region.specs.Showing.{Shown, IsShowFault, pieces_in, AreReadable}
use Rattle.wtf_region.proofs.InsideLaws.{readable_from}
use Rattle.wtf_region.proofs.ShowLaws.{reads_nothing}
use Rattle.wtf_region.proofs.Spans.{goes_nowhere}
use Rattle.wtf_steps.proofs.ReadWays.{shows}
use Rattle.wtf_slicing.specs.Shown.{LacksSlice}
use Rattle.wtf_model.proofs.SliceLaws.{peek-none}
use Rattle.wtf_slicing.proofs.Parts.{there, never_set, within_some, plans_of}
use Rattle.wtf_slicing.proofs.SliceWays.{no_slice, peeks_past, peeks, step_told}
use Rattle.wtf_slicing.proofs.PeekWays.{part_tells, peek_due}
use Rattle.wtf_slicing.proofs.cutting.peek.Goals as goal

pub returns-in_default-clause-step : goal.returns-in_default-clause-step
returns-in_default-clause-step g c x b now e =
    let s = c.args.s.now in
    let o = op.Peek c.args.from c.args.off c.args.len in
    step_told g.S.SliceStore.kind (stores c.args.dev.now) (stores c.args.dev.now) s x b now o (answer.Refused NoSlice) e
    (no_slice x b s c.args.from o (never_set (slice_in s c.args.from) (sym c.in_default.is ∙ c.slice_len.ensures))
    (λ S none. peek-none (cap_for x) S c.args.from c.args.off c.args.len none))

pub cut_pieces-requires-clause-within : goal.cut_pieces-requires-clause-within
cut_pieces-requires-clause-within g c =
    let o = slice_in c.args.s.now c.args.from in
    let is = there o c.in-Some.whole (sym c.in-Some.is ∙ c.slice_len.ensures) in
    within_some o is.pieces (c.args.off + c.args.len) is.is (omega (arith, is.len, c.is_part.ensures.inside c.if-not-is_part.false))

pub returns-then-not-is_part-clause-step : goal.returns-then-not-is_part-clause-step
returns-then-not-is_part-clause-step g c x b now e =
    let s = c.args.s.now in
    let is = there (slice_in c.args.s.now c.args.from) c.in-Some.whole (sym c.in-Some.is ∙ c.slice_len.ensures) in
    let ps = is.pieces in
    step_told g.S.SliceStore.kind (stores c.args.dev.now) (stores c.args.dev.now) s x b now (op.Peek c.args.from c.args.off c.args.len) (answer.Refused Range) e
    (peeks_past x b s c.args.from c.args.off c.args.len ps is.is (omega
    (arith, is.len, c.is_part.ensures.past c.if-not-is_part.true, c.requires.off, c.requires.len)))

pub show-requires-clause-readable : goal.show-requires-clause-readable
show-requires-clause-readable g c =
    let kind = g.S.SliceStore.kind in
    let dev = c.args.dev.now in
    let is = there (slice_in c.args.s.now c.args.from) c.in-Some.whole (sym c.in-Some.is ∙ c.slice_len.ensures) in
    let ps = is.pieces in
    let within : c.args.off + c.args.len ≤ pieces_len ps = omega (arith, is.len, c.is_part.ensures.inside c.if-not-is_part.false) in
    let out = c.in-Ok.part.items in
    let plans : Plans out c.args.len (λ i. pieces_origin ps (c.args.off + i)) = plans_of
    (slice_in c.args.s.now c.args.from) ps out c.args.off c.args.len is.is c.in-Ok.ensures.part in
    let inside : PiecesBytes (is_inside kind (stores dev) dev.settings) out =
    PiecesBytes-cut (is_inside kind (stores dev) dev.settings) ps out c.args.off c.args.len (c.requires.inside c.args.from ps is.is) within plans in
    subst (λ (qs : List Piece). AreReadable kind dev qs) (sym c.as_slice.ensures.value)
    (λ k d below. readable_from kind dev out c.requires.sound inside k d below)

pub returns-in-Err-show-clause-fault : goal.returns-in-Err-show-clause-fault
returns-in-Err-show-clause-fault g c =
    let kind = g.S.SliceStore.kind in
    let dev = c.args.dev.now in
    let new = c.show.new.dev in
    let is = there (slice_in c.args.s.now c.args.from) c.in-Some.whole (sym c.in-Some.is ∙ c.slice_len.ensures) in
    let ps = is.pieces in
    let within : c.args.off + c.args.len ≤ pieces_len ps = omega (arith, is.len, c.is_part.ensures.inside c.if-not-is_part.false) in
    let out = c.in-Ok.part.items in
    let plans : Plans out c.args.len (λ i. pieces_origin ps (c.args.off + i)) = plans_of
    (slice_in c.args.s.now c.args.from) ps out c.args.off c.args.len is.is c.in-Ok.ensures.part in
    let n = c.args.len in
    subst (λ (o : Option (List Piece)). LacksSlice kind dev new o c.args.off n c.in-Err-show.why) (sym is.is) (
      inr (record {
        mid = dev;
        goes = goes_nowhere g.met.S.SliceStore.laws dev c.requires.sound;
        pieces = out;
        are = plans;
        inside = PiecesBytes-cut (inside_of kind dev) ps out c.args.off n (c.requires.inside c.args.from ps is.is)
            within plans;
        fault = subst (λ (qs : List Piece). IsShowFault kind (between dev new) (pieces_in 0 n qs) c.in-Err-show.why) c.as_slice.ensures.value
            c.in-Err-show.ensures.fault;
      }),
      c.in-Err-show.ensures.lists,
    )

pub returns-in-Err-show-clause-due : goal.returns-in-Err-show-clause-due
returns-in-Err-show-clause-due g c w =
    let kind = g.S.SliceStore.kind in
    let dev = c.args.dev.now in
    let new = c.show.new.dev in
    let is = there (slice_in c.args.s.now c.args.from) c.in-Some.whole (sym c.in-Some.is ∙ c.slice_len.ensures) in
    let ps = is.pieces in
    let within : c.args.off + c.args.len ≤ pieces_len ps = omega (arith, is.len, c.is_part.ensures.inside c.if-not-is_part.false) in
    let out = c.in-Ok.part.items in
    let plans : Plans out c.args.len (λ i. pieces_origin ps (c.args.off + i)) = plans_of
    (slice_in c.args.s.now c.args.from) ps out c.args.off c.args.len is.is c.in-Ok.ensures.part in
    let n = c.args.len in
    let inside : PiecesBytes (is_inside kind (stores dev) dev.settings) out =
    PiecesBytes-cut (is_inside kind (stores dev) dev.settings) ps out c.args.off n (c.requires.inside c.args.from ps is.is) within plans in
    peek_due kind (between dev new) (stores dev) dev.settings w c.args.s.now c.args.from c.args.off n ps out
    c.in-Err-show.why is.is within c.requires.sound.shelf inside
    (subst (λ (qs : List Piece). IsShowFault kind (between dev new) (pieces_in 0 n qs) c.in-Err-show.why) c.as_slice.ensures.value c.in-Err-show.ensures.fault)

pub returns-clause-step : goal.returns-clause-step
returns-clause-step g c x b now e =
    let kind = g.S.SliceStore.kind in
    let dev = c.args.dev.now in
    let s = c.args.s.now in
    let is = there (slice_in c.args.s.now c.args.from) c.in-Some.whole (sym c.in-Some.is ∙ c.slice_len.ensures) in
    let ps = is.pieces in
    let within : c.args.off + c.args.len ≤ pieces_len ps = omega (arith, is.len, c.is_part.ensures.inside c.if-not-is_part.false) in
    let out = c.in-Ok.part.items in
    let plans : Plans out c.args.len (λ i. pieces_origin ps (c.args.off + i)) = plans_of
    (slice_in c.args.s.now c.args.from) ps out c.args.off c.args.len is.is c.in-Ok.ensures.part in
    let off = c.args.off in
    let n = c.args.len in
    let bytes = c.show.new.out.items in
    let shown : Shown (byte_at kind (stores dev)) n (λ j. pieces_origin out (0 + j)) [] bytes =
    subst (λ (old : List ℕ). Shown (byte_at kind (stores dev)) n (λ j. pieces_origin out (0 + j)) old bytes) c.new-out.ensures.items
    (subst (λ (qs : List Piece). Shown (byte_at kind (stores dev)) n (λ j. pieces_origin qs (0 + j)) c.new-out.result.items bytes) c.as_slice.ensures.value
    c.in-Ok-show.ensures.shown) in
    record {
      did = shows [] [] out bytes;
      grows = GrowsBy-nothing now.at;
      is_call = subst (λ (v : SessionView). IsCall x b v v (shows [] [] out bytes) (op.Peek c.args.from off n) (answer.Shown c.of.result)) (sym e)
          (subst (λ (l : List ℕ). IsCall x b s s (shows [] [] out bytes) (op.Peek c.args.from off n) (answer.Shown l)) (sym c.of.ensures)
          (peeks x b s c.args.from off n ps out bytes is.is within plans));
      more = record {
        stored = refl;
        lists = refl;
        told = λ told. (part_tells g.met.S.SliceStore.laws c.in-Ok-show.ensures.dev.each ps out off n bytes within plans shown (told c.args.from ps is.is), tt);
      };
    }

pub returns-in_default-clause-shows : goal.returns-in_default-clause-shows
returns-in_default-clause-shows g c =
    let dev = c.args.dev.now in
    record {
      same = refl;
      logged = tt;
      refused = λ h. refl;
      lists = refl;
      reads = reads_nothing g.S.SliceStore.kind (is_down_in dev) (stores dev);
      dev = goes_nowhere g.met.S.SliceStore.laws dev c.requires.sound;
    }

pub returns-then-not-is_part-clause-shows : goal.returns-then-not-is_part-clause-shows
returns-then-not-is_part-clause-shows g c =
    let dev = c.args.dev.now in
    record {
      same = refl;
      logged = tt;
      refused = λ h. refl;
      lists = refl;
      reads = reads_nothing g.S.SliceStore.kind (is_down_in dev) (stores dev);
      dev = goes_nowhere g.met.S.SliceStore.laws dev c.requires.sound;
    }

pub returns-in-Err-clause-shows : goal.returns-in-Err-clause-shows
returns-in-Err-clause-shows g c =
    let dev = c.args.dev.now in
    record {
      same = c.in-Err.ensures.same;
      logged = tt;
      refused = tt;
      lists = refl;
      reads = reads_nothing g.S.SliceStore.kind (is_down_in dev) (stores dev);
      dev = goes_nowhere g.met.S.SliceStore.laws dev c.requires.sound;
    }

pub returns-in-Err-show-clause-shows : goal.returns-in-Err-show-clause-shows
returns-in-Err-show-clause-shows g c = record {
  same = c.in-Ok.ensures.same;
  logged = tt;
  refused = tt;
  lists = c.in-Err-show.ensures.lists;
  reads = c.in-Err-show.ensures.reads;
  dev = c.in-Err-show.ensures.dev;
}

pub returns-clause-shows : goal.returns-clause-shows
returns-clause-shows g c = record {
  same = c.in-Ok.ensures.same;
  logged = tt;
  refused = λ h. absurd h;
  lists = c.in-Ok-show.ensures.lists;
  reads = c.in-Ok-show.ensures.reads;
  dev = c.in-Ok-show.ensures.dev;
}
