use Rattle.std.proofs.Common.{◌≡◌, ◌∙◌, ◌++◌, ◌∷◌, [], ℕ, List, ap, get_or, set, rules, sym}
use Rattle.wtf_dev.specs.Disk.{overwritten}
use Rattle.wtf_dev.specs.declared.disk_call.DiskCall.{DiskCall}
use Rattle.wtf_dev.specs.declared.disk_call.DiskCall.TheVariants as call
use Rattle.wtf_dev.proofs.DiskTapes.{holds_written}
use Rattle.wtf_dev.proofs.tape.Tape.write.Goals as goal

pub invariant_of-self-else-not-over : goal.invariant_of-self-else-not-over
invariant_of-self-else-not-over c =
    let same : c.in-Ok.copy.items ≡ c.args.bytes.now = search rules in
    holds_written c.self.inside.noted.items c.note.new.noted.items c.self.inside.held c.over.new.self c.args.file c.args.at c.in-Ok.copy c.over.ensures.within
    (c.note.ensures.noted c.if-not-note.false)
    (c.over.ensures.over c.if-not-over.false
    ∙ ap (λ (b : List ℕ). set c.self.inside.held c.args.file (overwritten (get_or c.self.inside.held c.args.file []) c.args.at b)) (sym same))
    c.self.invariant

pub returns-clause-noted : goal.returns-clause-noted
returns-clause-noted c = λ done.
    let same : c.in-Ok.copy.items ≡ c.args.bytes.now = search rules in (
      c.in-Ok.copy,
      same,
      c.note.ensures.noted c.if-not-note.false ∙ ap (λ (l : List DiskCall). l ++ call.Wrote c.args.file c.args.at c.in-Ok.copy ∷ []) c.self.view_is,
    )
