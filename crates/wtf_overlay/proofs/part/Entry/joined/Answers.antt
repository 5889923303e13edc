use Rattle.std.proofs.Common.{◌≡◌, refl, subst, arith}
use Rattle.wtf_base.specs.Slices.{len_of}
use Rattle.wtf_overlay.specs.Lengths.{HasLength}
use Rattle.wtf_overlay.proofs.Joining.{IsJoin-of}
use Rattle.wtf_overlay.proofs.part.Entry.joined.Goals as goal

pub returns-in-Some : goal.returns-in-Some
returns-in-Some c =
    let e = c.args.self.now in
    let f = c.args.next.now in
    let s = c.in-Held-Held.slice in
    let r = c.in-Held-Held.after in
    let whole : len_of s ≡ e.len = subst (λ p. HasLength e.len p) c.in-Held-Held.is-0 e.held in
    let found = c.in-Some.ensures.found.0 refl in
    IsJoin-of e f c.of.result s r c.in-Some.both c.in-Held-Held.is-0 c.in-Held-Held.is-1 c.of.ensures.part
    (omega arith) c.of.ensures.off c.of.ensures.len found.0 c.in-Some.ensures.value whole
