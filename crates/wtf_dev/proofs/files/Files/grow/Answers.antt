use Rattle.std.proofs.Common.{◌∙◌, cond, [], ◌++◌, arith, length, get_or, ap, sym}
use Rattle.wtf_dev.proofs.Lists.{short_set, lists_changed, lists_same, file_lists-get, cond_short}
use Rattle.wtf_dev.proofs.files.Files.grow.Goals as goal

pub returns-clause-grown : goal.returns-clause-grown
returns-clause-grown c = λ ok.
    lists_changed c.self.inside.held c.args.file c.index-self-file.result _ c.args.self.now (λ l. l ++ c.args.bytes.now) c.self.view_is (omega (arith, c.requires, c.self.ranges))
    (c.extend_from_slice.ensures.items ∙ ap (λ b. cond b ((get_or c.self.inside.held c.args.file c.index-self-file.result).items ++ c.args.bytes.now) (get_or c.self.inside.held c.args.file c.index-self-file.result).items) (sym c.is_ok.ensures.value ∙ ok))

pub returns-clause-same : goal.returns-clause-same
returns-clause-same c = λ no.
    lists_same c.self.inside.held c.args.file c.index-self-file.result _ c.args.self.now c.self.view_is (omega (arith, c.requires, c.self.ranges))
    (c.extend_from_slice.ensures.items ∙ ap (λ b. cond b ((get_or c.self.inside.held c.args.file c.index-self-file.result).items ++ c.args.bytes.now) (get_or c.self.inside.held c.args.file c.index-self-file.result).items) (sym c.is_ok.ensures.value ∙ no))

pub invariant_of-self : goal.invariant_of-self
invariant_of-self c =
    short_set c.self.inside.held c.args.file _ c.self.invariant
    (cond_short _ _ (get_or c.self.inside.held c.args.file c.index-self-file.result).items c.args.bytes.now c.extend_from_slice.ensures.items
    (omega (arith, c.if-bytes.false, ap length c.bytes.ensures.value, ap (λ l. length (get_or l c.args.file [])) c.self.view_is, ap length (file_lists-get c.self.inside.held c.args.file c.index-self-file.result (omega (arith, c.requires, c.self.ranges))))))
