use Rattle.std.proofs.Common.{◌≡◌, ◌+◌, ◌-◌, ◌/◌, [], ◌∷◌, arith, refl, subst, sym}
use Rattle.wtf_occ.specs.Attempts.{Attempted}
use Rattle.wtf_occ.proofs.AttemptLaws.{GrowsBy-nothing, Grows-by, Grows-on}
use Rattle.wtf_values.specs.declared.key.Key.{Key}
use Rattle.wtf_values.specs.declared.value.Delta.{Delta}
use Rattle.wtf_meta.specs.FileEdits.{RaiseLast}
use Rattle.wtf_meta.proofs.Piecewise.{pieces_len_more, pieces_len_take}
use Rattle.wtf_region.specs.Holding.{held_over}
use Rattle.wtf_region.specs.Edited.{Edited, CoversPart, LaysPieces}
use Rattle.wtf_region.proofs.Held.{held_none}
use Rattle.wtf_region.proofs.Recording.{Edited-none, Edited-more, Edited-as}
use Rattle.wtf_region.proofs.PieceEdits.{CoversFirst, Edited-one, first_none, first_more, first_all, first_nothing}
use Rattle.wtf_region.proofs.changing.put_pieces.Goals as goal

pub loop-piece-init : goal.loop-piece-init
loop-piece-init c =
    let b = c.args.settings.region in
    let i = c.args.inode in
    let at = c.args.at.now in
    let F = CoversFirst b c.args.off i c.args.pieces.now 0 0 in
    record {
      done = omega arith;
      made = subst (λ (x : Attempted Key Delta). Edited i [] F at x)
          (sym (held_none i (record { region = 0; pushes = c.new.result }) at c.new.ensures.items))
          (Edited-none i F at (first_none b c.args.off i c.args.pieces.now));
      grows = Grows-by at at [] [] (GrowsBy-nothing at);
    }

pub overflow_add-off : goal.overflow_add-off
overflow_add-off c = omega (arith, c.args.settings.limits, pieces_len_take c.args.pieces.now c.loop-piece.piece-index)

pub put_piece-requires-clause-cap : goal.put_piece-requires-clause-cap
put_piece-requires-clause-cap c =
    omega (
      arith,
      pieces_len_more c.args.pieces.now c.loop-piece.piece-index c.piece-item.result (omega arith) c.piece-item.is,
      pieces_len_take
          c.args.pieces.now (c.loop-piece.piece-index + 1),
    )

pub overflow_add-done : goal.overflow_add-done
overflow_add-done c =
    omega (
      arith,
      c.args.settings.limits,
      pieces_len_more c.args.pieces.now c.loop-piece.piece-index c.piece-item.result (omega arith) c.piece-item.is,
      pieces_len_take c.args.pieces.now (c.loop-piece.piece-index + 1),
    )

pub loop-piece-preserved : goal.loop-piece-preserved
loop-piece-preserved c =
    let b = c.args.settings.region in
    let off = c.args.off in
    let i = c.args.inode in
    let p = c.piece-item.result in
    let ps = c.args.pieces.now in
    let n = c.loop-piece.piece-index in
    let done = c.loop-piece.done in
    let mid = held_over i c.loop-piece.held c.loop-piece.at in
    let now = held_over i c.put_piece.new.held c.put_piece.new.at in
    record {
      done = omega (arith, c.loop-piece.invariant.done, pieces_len_more ps n p (omega arith) c.piece-item.is);
      made = Edited-more i [] [] (CoversFirst b off i ps n done) (CoversPart b (off + done) i p p.len) (CoversFirst b off i ps (n + 1) (done + p.len))
          c.args.at.now mid now c.loop-piece.invariant.made c.in_ok-put_piece.ensures.ok
          (first_more b off done n i ps p (omega arith) c.piece-item.is c.loop-piece.invariant.done);
      grows = Grows-on c.args.at.now c.loop-piece.at c.put_piece.new.at c.loop-piece.invariant.grows c.in_ok-put_piece.ensures.grows;
    }

pub returns-in_ok-delta-clause-ok : goal.returns-in_ok-delta-clause-ok
returns-in_ok-delta-clause-ok c =
    let b = c.args.settings.region in
    let off = c.args.off in
    let i = c.args.inode in
    let ps = c.args.pieces.now in
    let n = c.loop-piece.piece-index in
    let done = c.loop-piece.done in
    let last = (off + done - 1) / b in
    let now = c.lay.new.at in
    Edited-more i [] [] (CoversFirst b off i ps n done) (λ ds. ds ≡ RaiseLast last ∷ []) (LaysPieces b off i ps) c.args.at.now now c.delta.new.self
    (subst (λ (x : Attempted Key Delta). Edited i [] (CoversFirst b off i ps n done) c.args.at.now x) (sym c.in_ok-lay.ensures.ok) c.loop-piece.invariant.made)
    (Edited-one i (RaiseLast last) now c.delta.new.self c.in_ok-delta.ensures.ok)
    (first_all b off done n last i ps (omega (arith, c.args.settings.limits)) (omega arith) c.loop-piece.invariant.done (omega arith)
    (omega (arith, c.requires, c.loop-piece.invariant.done, pieces_len_take ps n)) refl)

pub returns-else-done-gt0-clause-ok : goal.returns-else-done-gt0-clause-ok
returns-else-done-gt0-clause-ok c =
    let b = c.args.settings.region in
    let off = c.args.off in
    let i = c.args.inode in
    let ps = c.args.pieces.now in
    let n = c.loop-piece.piece-index in
    let done = c.loop-piece.done in
    let now = c.lay.new.at in
    Edited-as i [] (CoversFirst b off i ps n done) (LaysPieces b off i ps) c.args.at.now now
    (subst (λ (x : Attempted Key Delta). Edited i [] (CoversFirst b off i ps n done) c.args.at.now x) (sym c.in_ok-lay.ensures.ok) c.loop-piece.invariant.made)
    (first_nothing b off done n i ps (omega arith) c.loop-piece.invariant.done (omega arith))

pub returns-in_err-put_piece-clause-grows : goal.returns-in_err-put_piece-clause-grows
returns-in_err-put_piece-clause-grows c =
    Grows-on c.args.at.now c.loop-piece.at c.put_piece.new.at c.loop-piece.invariant.grows c.in_err-put_piece.ensures.grows

pub returns-in_err-lay-clause-grows : goal.returns-in_err-lay-clause-grows
returns-in_err-lay-clause-grows c =
    Grows-on c.args.at.now c.loop-piece.at c.lay.new.at c.loop-piece.invariant.grows c.in_err-lay.ensures.grows

pub returns-in_err-delta-clause-grows : goal.returns-in_err-delta-clause-grows
returns-in_err-delta-clause-grows c =
    let at = c.args.at.now in
    let mid = c.lay.new.at in
    Grows-on at mid c.delta.new.self (Grows-on at c.loop-piece.at mid c.loop-piece.invariant.grows c.in_ok-lay.ensures.grows) c.in_err-delta.ensures.grows

pub returns-in_ok-delta-clause-grows : goal.returns-in_ok-delta-clause-grows
returns-in_ok-delta-clause-grows c =
    let at = c.args.at.now in
    let mid = c.lay.new.at in
    Grows-on at mid c.delta.new.self (Grows-on at c.loop-piece.at mid c.loop-piece.invariant.grows c.in_ok-lay.ensures.grows) c.in_ok-delta.ensures.grows

pub returns-else-done-gt0-clause-grows : goal.returns-else-done-gt0-clause-grows
returns-else-done-gt0-clause-grows c =
    Grows-on c.args.at.now c.loop-piece.at c.lay.new.at c.loop-piece.invariant.grows c.in_ok-lay.ensures.grows
