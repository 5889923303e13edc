use Rattle.std.proofs.Common.{◌++◌, length, ap, ap₂, sym, ◌∙◌}
use Rattle.std.specs.Rc.{rc_slice_items}
use Rattle.wtf_chunks.proofs.Joined.{flat_map-same}
use Rattle.wtf_chunks.proofs.chunks.Chunks.share.Goals as goal

pub invariant_of-result : goal.invariant_of-result
invariant_of-result g c =
    let s = c.self.inside in
    let h = c.in_ok-sealed.ensures.cases in
    let o = c.in_ok-last.ensures.items ∙ c.as_slice.ensures.value in
    c.self.invariant ∙ ap length (sym (ap₂ (λ a b. a ++ b) (flat_map-same rc_slice_items s.sealed.items c.in_ok-sealed.sealed.items h.0) o))

pub returns : goal.returns
returns g c =
    let s = c.self.inside in
    let h = c.in_ok-sealed.ensures.cases in
    let o = c.in_ok-last.ensures.items ∙ c.as_slice.ensures.value in
    ap₂ (λ a b. a ++ b) (flat_map-same rc_slice_items s.sealed.items c.in_ok-sealed.sealed.items h.0) o ∙ c.self.view_is
