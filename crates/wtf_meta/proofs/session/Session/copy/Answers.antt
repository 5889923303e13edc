use Rattle.std.proofs.Common.{map, ap, arith, rules, ◌∙◌}
use Rattle.std.specs.Option.{option_map}
use Rattle.wtf_meta.specs.declared.session.Held.{Held}
use Rattle.wtf_meta.specs.Sessions.{SessionView, items_of, session_view}
use Rattle.wtf_meta.proofs.Labels.{copied_more, copied_more_by, copied_all, copied_all_by}
use Rattle.wtf_meta.proofs.session.Session.copy.Goals as goal

pub loop-label-preserved : goal.loop-label-preserved
loop-label-preserved c =
    let inv = c.loop-label.invariant in
    record {
      lengths = search rules;
      handles = copied_more c.self.inside.held.value.handles c.loop-label.handles c.loop-label.label c.in_ok-handles.field-0
          (omega (arith, c.loop-label-test.true)) (omega (arith, c.loop-label-test.true)) inv.handles (search rules);
      slices = copied_more_by (option_map items_of) c.self.inside.held.value.slices c.loop-label.slices c.loop-label.label c.in_ok-slices.field-0
          c.index-deref-label-in-loop-label.result
          (omega (arith, c.loop-label-test.true)) (omega (arith, c.loop-label-test.true)) inv.slices (search rules) (search rules);
    }

pub returns : goal.returns
returns c =
    let inv = c.loop-label.invariant in
    let seen = map (option_map items_of) c.loop-label.slices in
    ap (λ (h : Held). session_view h.handles h.slices) c.in_ok-new.ensures.ok
    ∙ ap (λ hs. let s : SessionView = record { handles = hs; slices = seen } in s)
    (copied_all c.self.inside.held.value.handles c.loop-label.handles (omega (arith, inv.lengths, c.self.invariant))
    (λ k d h. inv.handles k d (omega (arith, h, inv.lengths, c.loop-label-test.false))))
    ∙ ap (λ ss. let s : SessionView = record { handles = c.self.inside.held.value.handles; slices = ss } in s)
    (copied_all_by (option_map items_of) c.self.inside.held.value.slices c.loop-label.slices (omega (arith, inv.lengths, c.self.invariant))
    (λ k d h. inv.slices k d (omega (arith, h, inv.lengths, c.loop-label-test.false))))
    ∙ c.self.view_is
