use Rattle.std.proofs.Common.{◌≡◌, ◌||◌}
use Rattle.std.proofs.lemmas.Result.{on_ok_weaker}
use Rattle.wtf_base.specs.Places.{Place}
use Rattle.wtf_gc.specs.Extents.{extents_cover}
use Rattle.wtf_gc.specs.Named.{base_has, list_has}
use Rattle.wtf_gc.proofs.Adding.{adds_then}
use Rattle.wtf_gc.proofs.gather.add_region.Goals as goal

pub returns-clause-found : goal.returns-clause-found
returns-clause-found c =
    on_ok_weaker c.add_list.result
    (λ (h : (p : Place) → extents_cover c.add_list.new.found p ≡ (extents_cover c.add_base.new.to.found p || list_has c.args.v.now.list p)) p. adds_then
    (extents_cover c.args.to.now.found p) (extents_cover c.add_base.new.to.found p) (extents_cover c.add_list.new.found p) (base_has c.args.v.now.base p)
    (list_has c.args.v.now.list p) (c.in_ok-add_base.ensures.found p) (h p))
    c.add_list.ensures
