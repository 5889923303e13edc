use Rattle.std.proofs.Common.{◌≡◌, ℕ, ◌+◌, [], ◌∷◌, arith, ap, ◌∙◌, subst}
use Rattle.wtf_occ.proofs.AttemptLaws.{GrowsBy-nothing, Grows-by, Grows-on}
use Rattle.wtf_overlay.specs.Origin.{part_origin}
use Rattle.wtf_overlay.specs.declared.part.Part.{Part}
use Rattle.wtf_meta.specs.FileEdits.{Push}
use Rattle.wtf_region.specs.Holding.{held_over}
use Rattle.wtf_region.specs.Edited.{Edited, CoversPart}
use Rattle.wtf_region.proofs.Recording.{Edited-none, Edited-more}
use Rattle.wtf_region.proofs.LaidLaws.{entry_whole}
use Rattle.wtf_region.proofs.PieceEdits.{Edited-one, part_none, part_more}
use Rattle.wtf_region.proofs.changing.put_piece.Goals as goal

pub loop-done-init : goal.loop-done-init
loop-done-init c = record {
  upto = omega arith;
  made =
      Edited-none c.args.inode (CoversPart c.args.size c.args.off c.args.inode c.args.piece.now 0) (held_over c.args.inode c.args.held.now c.args.at.now)
      (part_none c.args.size c.args.off c.args.inode c.args.piece.now);
  grows = Grows-by c.args.at.now c.args.at.now [] [] (GrowsBy-nothing c.args.at.now);
}

pub loop-done-preserved : goal.loop-done-preserved
loop-done-preserved c =
    let b = c.args.size in
    let off = c.args.off in
    let i = c.args.inode in
    let p = c.args.piece.now in
    let done = c.loop-done.done in
    let r = c.part_at-part.result.region in
    let e = c.of-entry.result in
    let here = c.of-entry.ensures in
    let place = c.part_at-part.ensures in
    let from = held_over i c.args.held.now c.args.at.now in
    let mid = held_over i c.loop-done.held c.loop-done.at in
    let now = held_over i c.hold.new.held c.hold.new.at in
    record {
      grows = Grows-on c.args.at.now c.loop-done.at c.hold.new.at c.loop-done.invariant.grows c.in_ok-hold.ensures.grows;
      upto = omega (arith, place.inside);
      made = subst (λ (n : ℕ). Edited i [] (CoversPart b off i p (done + n)) from now) here.len
          (Edited-more i [] [] (CoversPart b off i p done) (λ ds. ds ≡ Push r e ∷ []) (CoversPart b off i p (done + e.len)) from mid now
          c.loop-done.invariant.made (Edited-one i (Push r e) mid now c.in_ok-hold.ensures.ok)
          (part_more b off done r i p e c.requires.size (omega (arith, place.within, here.off, here.len)) (omega (arith, place.place, here.off))
          (omega (arith, place.inside, here.len))
          (entry_whole b done p.len c.part_at-part.result.off c.part_at-part.result.len e here.off here.len place.whole)
          (λ j. ap (λ (q : Part). part_origin q j) here.part ∙ c.part_of-within.ensures.origin j)));
    }

pub returns-in_err-hold-clause-grows : goal.returns-in_err-hold-clause-grows
returns-in_err-hold-clause-grows c = Grows-on c.args.at.now c.loop-done.at c.hold.new.at c.loop-done.invariant.grows c.in_err-hold.ensures.grows
