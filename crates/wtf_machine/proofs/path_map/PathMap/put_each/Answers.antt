use Rattle.std.proofs.Common.{◌∷◌, [], refl}
use Rattle.wtf_model.specs.Done.{put_all}
use Rattle.wtf_machine.proofs.OrderedLaws.{all-left, last-left}
use Rattle.wtf_machine.proofs.path_map.PathMap.put_each.Goals as goal

pub loop-path-init : goal.loop-path-init
unfolding put_all
loop-path-init c = ([], all-left _ _ _ c.args.paths.now c.iter-rest.ensures.rest c.paths.view_is c.iter-rest.ensures.ordered refl, refl)

pub loop-path-preserved : goal.loop-path-preserved
unfolding put_all
loop-path-preserved c =
    let (done, lists, is) = c.loop-path.invariant in (
      c.in-Some.path.now ∷ done,
      last-left _ _ _ _ _ done lists c.in-Some.ensures.steps,
      let put = c.in_ok-put.ensures.ok in
          let same_path = c.in_ok-path.ensures in
          let same_file = c.in_ok-file.ensures in
          cc,
    )
