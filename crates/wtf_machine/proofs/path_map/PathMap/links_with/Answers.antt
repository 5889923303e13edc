use Rattle.std.proofs.Common.{sym, ap, ◌∙◌}
use Rattle.wtf_model.specs.Items.{links_of}
use Rattle.wtf_model.specs.Tree.{PathSet, no_paths, with_path, paths_of}
use Rattle.wtf_machine.proofs.path_map.PathMap.links_with.Goals as goal

pub returns-in_ok-links-in-Some : goal.returns-in_ok-links-in-Some
returns-in_ok-links-in-Some c =
    c.in_ok-links-in-Some.ensures
    ∙ ap (λ (x : PathSet). links_of x) (c.in_ok-paths-in-Some.ensures ∙ ap (λ q. with_path c.deref.result.now q) c.in_ok-more.ensures
    ∙ ap (λ (x : PathSet). with_path x c.args.more.now) (c.deref.ensures ∙ ap paths_of (sym c.in-Some.ensures.some)))

pub returns-in_ok-links-in-None : goal.returns-in_ok-links-in-None
returns-in_ok-links-in-None c =
    c.in_ok-links-in-None.ensures
    ∙ ap (λ (x : PathSet). links_of x) (c.in_ok-paths-in-None.ensures ∙ ap (λ q. with_path no_paths q) c.in_ok-more.ensures
    ∙ ap (λ (x : PathSet). with_path x c.args.more.now) (sym c.in-None.ensures.none))
