use Rattle.std.proofs.Common.{sym, ap, ◌∙◌}
use Rattle.std.proofs.lemmas.List.Sorted.{list_any-IsPermutation}
use Rattle.wtf_gc.specs.declared.extent.Extent.{Extent}
use Rattle.wtf_gc.specs.Extents.{has, extents_cover}
use Rattle.wtf_gc.proofs.extents.Extents.merge_when_due.Goals as goal

pub returns-in_err-list : goal.returns-in_err-list
returns-in_err-list c = λ p.
    sym (list_any-IsPermutation (λ (e : Extent). has e p) c.self.inside.list.items c.sort_by_key.new.self.items c.sort_by_key.ensures.permutation)
    ∙ ap (λ l. extents_cover l p) c.self.view_is

pub returns : goal.returns
returns c = λ p.
    c.in_ok-list.ensures p ∙ ap (λ l. extents_cover l p) c.as_slice.ensures.value
    ∙ sym (list_any-IsPermutation (λ (e : Extent). has e p) c.self.inside.list.items c.sort_by_key.new.self.items c.sort_by_key.ensures.permutation)
    ∙ ap (λ l. extents_cover l p) c.self.view_is
