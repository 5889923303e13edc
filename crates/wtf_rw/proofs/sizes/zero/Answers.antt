use Rattle.std.proofs.Common.{◌≡◌, ℕ, ◌+◌, ◌-◌, ◌/◌, ◌%◌, ◌<◌, ◌++◌, min, List, [], ◌∷◌, sym, subst, arith}
use Rattle.std.proofs.lemmas.Nat.{mod_below}
use Rattle.wtf_meta.specs.FileEdits.{FileEdit, ZeroWithin}
use Rattle.wtf_region.proofs.Recording.{Edited-none, Edited-more, Edited-as}
use Rattle.wtf_region.proofs.PieceEdits.{Edited-one}
use Rattle.wtf_rw.specs.Sizes.{Zeroes, ZeroesRegions}
use Rattle.wtf_rw.proofs.SizeEdits.{zeroes_none, zeroes_more, zeroes_all, zeroes_past}
use Rattle.wtf_rw.proofs.sizes.zero.Goals as goal

pub returns-then-off-cap-clause-ok : goal.returns-then-off-cap-clause-ok
returns-then-off-cap-clause-ok c =
    let i = c.args.inode in
    let b = c.args.settings.region in
    Edited-none i (Zeroes b i c.args.off c.args.n) c.args.at.now
    (zeroes_past b c.args.off c.args.n i (omega (arith, c.args.settings.limits)) (omega (arith, c.cap-cap.ensures, c.if-off-cap.true)))

pub loop-done-init : goal.loop-done-init
loop-done-init c =
    let i = c.args.inode in
    let b = c.args.settings.region in
    record {
      upto = omega arith;
      made = Edited-none i (ZeroesRegions b i c.args.off c.min-len.result 0) c.args.at.now (zeroes_none b c.args.off c.min-len.result i);
    }

pub loop-done-preserved : goal.loop-done-preserved
loop-done-preserved c =
    let i = c.args.inode in
    let b = c.args.settings.region in
    let off = c.args.off in
    let done = c.loop-done.done in
    let len = c.min-len.result in
    let r : ℕ = (off + done) / b in
    let from : ℕ = (off + done) % b in
    let upto = c.min-upto.result in
    let inside : from < b = mod_below (off + done) b (omega (arith, c.args.settings.limits)) in
    let below : done < len = omega (arith, c.loop-done-test.true) in
    let end : upto ≡ min b (from + (len - done)) = omega (arith, c.min-upto.ensures) in
    record {
      upto = omega (arith, c.min-upto.ensures, inside, below);
      made = Edited-more i [] [] (ZeroesRegions b i off len done) (λ ds. ds ≡ ZeroWithin r from upto ∷ []) (ZeroesRegions b i off len (done + (upto - from)))
          c.args.at.now c.loop-done.at c.delta.new.self
          c.loop-done.invariant.made (Edited-one i (ZeroWithin r from upto) c.loop-done.at c.delta.new.self c.in_ok-delta.ensures.ok)
          (λ ds es z e. subst (λ (l : List FileEdit). ZeroesRegions b i off len (done + (upto - from)) (ds ++ l)) (sym e)
          (zeroes_more b off len done upto i ds (omega (arith, c.args.settings.limits)) (omega (arith, c.args.settings.limits))
          (omega (arith, end, inside, below)) end z));
    }

pub returns-clause-ok : goal.returns-clause-ok
returns-clause-ok c =
    let i = c.args.inode in
    let b = c.args.settings.region in
    let off = c.args.off in
    let done = c.loop-done.done in
    let len = c.min-len.result in
    let all : done ≡ len = omega (arith, c.loop-done.invariant.upto, c.loop-done-test.false) in
    Edited-as i [] (ZeroesRegions b i off len done) (Zeroes b i off c.args.n) c.args.at.now c.loop-done.at c.loop-done.invariant.made
    (λ ds z. zeroes_all b off c.args.n len i ds (omega (arith, c.args.settings.limits))
    (omega (arith, c.min-len.ensures, c.cap-cap.ensures)) (omega (arith, c.cap-cap.ensures, c.if-off-cap.false))
    (subst (λ (k : ℕ). ZeroesRegions b i off len k ds) all z))
