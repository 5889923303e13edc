use Rattle.std.proofs.Common.{◌++◌, ap, sym, subst, ◌∙◌}
use Rattle.wtf_overlay.specs.Origin.{origin_from}
use Rattle.wtf_overlay.specs.Runs.{SameWithin}
use Rattle.wtf_overlay.specs.Edges.{EdgesIn, is_edge}
use Rattle.wtf_overlay.specs.Stacks.{stack}
use Rattle.wtf_overlay.proofs.Origins.{origin_from-append}
use Rattle.wtf_overlay.proofs.Standing.{StandFor-append}
use Rattle.wtf_overlay.proofs.Tailing.{EdgesIn-split}
use Rattle.wtf_overlay.proofs.layers.Layers.shown_in.Goals as goal

pub shown-requires-clause-runs : goal.shown-requires-clause-runs
shown-requires-clause-runs c = rw c.as_slice-2.ensures.value c.self.invariant.0.runs

pub returns-clause-shows : goal.returns-clause-shows
returns-clause-shows c =
    let old = c.self.inside in
    let more = c.args.more.now in
    let all = c.in_ok-all.all.items in
    let newest = c.in_ok-newest.newest.items in
    let over = c.in_ok-over.over.items in
    let stand = StandFor-append old.entries old.tail.items more old.runs.items c.self.invariant.0 in
    subst (λ es. SameWithin c.args.from c.args.to (es ++ more) all) c.self.view_is (λ b y l k.
    let under = stack old.runs.items b y in
    sym (c.in_ok-all.ensures.shows b y l k ∙ ap (λ rs. origin_from (stack rs b y) newest y) c.as_slice-2.ensures.value
    ∙ sym (c.in_ok-newest.ensures.same under y l k)
    ∙ ap (λ es. origin_from (origin_from under es y) over y) c.as_slice.ensures.value
    ∙ sym (c.in_ok-over.ensures.same (origin_from under old.tail.items y) y l k)
    ∙ sym (origin_from-append under old.tail.items more y)
    ∙ stand.shows b y))

pub returns-clause-edges : goal.returns-clause-edges
returns-clause-edges c =
    let old = c.self.inside in
    let more = c.args.more.now in
    let all = c.in_ok-all.all.items in
    let stand = StandFor-append old.entries old.tail.items more old.runs.items c.self.invariant.0 in
    let p = is_edge (old.entries ++ more) in
    let k = EdgesIn-split p old.tail.items more stand.tail_edges in
    subst (λ es. EdgesIn (is_edge (es ++ more)) all) c.self.view_is
    (c.in_ok-all.ensures.edges p (c.in_ok-newest.ensures.edges p (c.in_ok-over.ensures.edges p k.1) (rw c.as_slice.ensures.value k.0))
    (rw c.as_slice-2.ensures.value stand.edges))
