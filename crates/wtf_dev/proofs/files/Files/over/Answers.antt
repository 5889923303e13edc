use Rattle.std.proofs.Common.{◌≡◌, ◌<◌, ◌∙◌, [], List, ℕ, arith, length, get_or, ap, sym}
use Rattle.wtf_dev.specs.Disk.{overwritten}
use Rattle.wtf_dev.proofs.Lists.{file_lists-get, lists_changed, lists_same, over_short, short_get, short_set}
use Rattle.wtf_dev.proofs.files.Files.over.Goals as goal

pub returns-clause-over : goal.returns-clause-over
returns-clause-over c = λ done.
    lists_changed c.self.inside.held c.args.file c.index-self-file.result _ c.args.self.now (λ l. overwritten l c.args.at c.args.bytes.now) c.self.view_is
    (omega (arith, c.requires.file, c.self.ranges)) (c.over.ensures.over done)

pub returns-clause-same : goal.returns-clause-same
returns-clause-same c = λ kept.
    lists_same c.self.inside.held c.args.file c.index-self-file.result _ c.args.self.now c.self.view_is
    (omega (arith, c.requires.file, c.self.ranges)) (c.over.ensures.same kept)

pub invariant_of-self : goal.invariant_of-self
invariant_of-self c =
    let below : c.args.file < length c.self.inside.held = omega (arith, c.requires.file, c.self.ranges) in
    let here : (get_or c.self.inside.held c.args.file c.index-self-file.result).items ≡ get_or c.args.self.now c.args.file [] =
    sym (file_lists-get c.self.inside.held c.args.file c.index-self-file.result below) ∙ ap (λ (l : List (List ℕ)). get_or l c.args.file []) c.self.view_is in
    short_set c.self.inside.held c.args.file _ c.self.invariant
    (over_short c.over.result _ (get_or c.self.inside.held c.args.file c.index-self-file.result).items c.args.bytes.now c.args.at
    c.over.ensures.over c.over.ensures.same
    (omega (arith, c.requires.inside, ap length here))
    (omega (arith, c.if-bytes-at.false, c.requires.inside, c.bytes-held.ensures.fits, ap length c.bytes-held.ensures.value))
    (short_get c.self.inside.held c.args.file c.index-self-file.result c.self.invariant below))
