use Rattle.std.proofs.Common.{◌≡◌, ◌++◌, ◌∷◌, [], max, take, drop, subst, sym, ap, ◌∙◌, arith}
use Rattle.std.specs.Rc.{rc_slice_items}
use Rattle.wtf_overlay.specs.Clips.{Within}
use Rattle.wtf_overlay.specs.Origin.{origin_from}
use Rattle.wtf_overlay.specs.Runs.{IsRun}
use Rattle.wtf_overlay.specs.Edges.{EdgesIn}
use Rattle.wtf_overlay.specs.Stacks.{StandFor, stack}
use Rattle.wtf_overlay.proofs.Clipping.{Within-append, Within-weaker}
use Rattle.wtf_overlay.proofs.Origins.{origin_from-append}
use Rattle.wtf_overlay.proofs.Standing.{StandFor-append, StandFor-fold}
use Rattle.wtf_overlay.proofs.Tailing.{EdgesIn-split}
use Rattle.wtf_overlay.proofs.layers.Layers.push_run.Goals as goal

pub invariant_of-self-2 : goal.invariant_of-self-2
invariant_of-self-2 c =
    let old = c.self.inside in
    let more = c.args.run.now in
    let es = old.entries ++ more in
    let below = c.in_ok-below.below.items in
    let newest = c.in_ok-newest.newest.items in
    let top = c.in_ok-top.ensures in
    let n = c.in_ok-top.top.below in
    let shared = c.in_ok-shared.shared in
    let tail = c.as_slice.ensures.value in
    let rs = c.as_slice-2.ensures.value in
    let items : rc_slice_items shared ≡ c.in_ok-top.top.run.items = c.in_ok-shared.ensures in
    let list : c.extend.new.self ≡ es = c.in_ok-extend.ensures.ok in
    let runs : c.replace_top.new.runs.items ≡ take n old.runs.items ++ shared ∷ [] =
    c.replace_top.ensures ∙ ap (λ l. take n l ++ shared ∷ []) c.in_ok-reserve.ensures.items in
    let reach = c.reach_of.result in
    let most : c.max-self-inside.result ≡ max old.reach reach = c.max-self-inside.ensures in (
      subst (λ l. StandFor l c.replace_top.new.runs.items c.clear.new.self.items) (sym list)
          (subst (λ l. StandFor es c.replace_top.new.runs.items l) (sym c.clear.ensures.items)
          (subst (λ l. StandFor es l []) (sym runs)
          (StandFor-fold es (old.tail.items ++ more) newest old.runs.items n shared
          (StandFor-append old.entries old.tail.items more old.runs.items c.self.invariant.0)
          (λ b y l k. origin_from-append b old.tail.items more y
          ∙ ap (λ at. origin_from at more y) (ap (λ es. origin_from b es y) (sym tail) ∙ c.in_ok-below.ensures.same b y l k)
          ∙ sym (c.in_ok-newest.ensures.shows b y))
          (λ p edges.
          let k = EdgesIn-split p old.tail.items more edges in
          c.in_ok-newest.ensures.edges p k.1 (c.in_ok-below.ensures.edges p (rw tail k.0)))
          (subst (λ es. IsRun es) (sym items) top.run)
          (λ b y. ap (λ es. origin_from b es y) items ∙ top.shows b y ∙ ap (λ l. origin_from (stack (drop n l) b y) newest y) rs)
          (λ p own edges. subst (λ es. EdgesIn p es) (sym items) (top.edges p own (rw rs edges)))))),
      subst (λ l. Within c.max-self-inside.result l) (sym list)
          (Within-append c.max-self-inside.result old.entries more
          (Within-weaker old.reach c.max-self-inside.result old.entries (omega arith) c.self.invariant.1)
          (Within-weaker reach c.max-self-inside.result more (omega arith) c.reach_of.ensures)),
    )
