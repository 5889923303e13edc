use Rattle.std.proofs.Common.{[], ◌∷◌, ◌++◌, ap, ◌∙◌}
use Rattle.wtf_changes.specs.Drafts.{path_written}
use Rattle.wtf_changes.proofs.Steps.{moved}
use Rattle.wtf_changes.proofs.draft.write_paths.Goals as goal

pub loop-path-preserved : goal.loop-path-preserved
loop-path-preserved c =
    let made = c.loop-path.made.items in
    moved path_written made c.push.new.self.items c.loop-path.rest c.next.new.self c.args.paths.now.entries (c.in-Some.path.now, c.in-Some.node.now)
    c.in-Some.ensures.steps (c.in_ok-push.ensures.items
    ∙ ap (λ p. made ++ path_written (p, c.in-Some.node.now) ∷ []) c.in_ok-path.ensures) c.loop-path.invariant
