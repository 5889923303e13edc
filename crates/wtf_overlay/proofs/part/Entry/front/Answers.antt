use Rattle.std.proofs.Common.{◌≡◌, ◌∙◌, subst}
use Rattle.wtf_overlay.specs.Parts.{IsCut}
use Rattle.wtf_overlay.specs.Clips.{below_end, below_end_some, below_end_within}
use Rattle.wtf_overlay.proofs.Clipping.{clip_entry_front, cut_part_front}
use Rattle.wtf_overlay.proofs.part.Entry.front.Goals as goal

pub returns : goal.returns
returns c =
    let e = c.args.self.now in
    let n = below_end c.args.end e in
    let len : c.min-len.result ≡ n = c.min-len.ensures in
    clip_entry_front c.args.end e c.of.result c.requires c.of.ensures.off (c.of.ensures.len ∙ len)
    (c.of.ensures.part
    ∙ cut_part_front n e.len e.part c.cut-part.result e.held (below_end_some c.args.end e c.requires) (below_end_within c.args.end e)
    (subst (λ m. IsCut 0 m e.part c.cut-part.result) len c.cut-part.ensures.cut))
