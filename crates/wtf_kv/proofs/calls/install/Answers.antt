use Rattle.std.proofs.Common.{sym, ap, subst, ◌∙◌, ◌≡◌, ◌≤◌, ◌+◌, inl}
use Rattle.wtf_kv.specs.Stores.{map_at}
use Rattle.wtf_kv.specs.Edits.{over}
use Rattle.wtf_kv.specs.declared.calls.Call.TheVariants.{Install}
use Rattle.wtf_kv.proofs.CallLaws.{made_where}
use Rattle.wtf_kv.proofs.calls.install.Goals as goal

pub returns-in-Ok-clause-step : goal.returns-in-Ok-clause-step
returns-in-Ok-clause-step g c =
    let order = g.K.Ord.cmp in
    let outcome = g.C.Cell.outcome in
    let old = c.args.kv.now in
    let ready = c.reserve_install.new.self in
    let new = c.install.new.self in
    let number : ready.number ≡ old.number = c.reserve_install.ensures.same.number in
    let before : map_at order ready ready.number ≡ map_at order old old.number = ap (map_at order ready) number ∙ c.reserve_install.ensures.maps old.number in
    made_where order outcome _ (Install c.args.changes.now) old new (sym c.if-not-has_room.ensures)
    (inl (record {
      fits = c.in-Ok.ensures.fit;
      number = c.install.ensures.number ∙ ap (λ n. n + 1) number;
      pins = c.install.ensures.pins ∙ c.reserve_install.ensures.same.pins;
      map = c.install.ensures.map
          ∙ ap (λ cs. over order outcome cs (map_at order ready ready.number)) c.in-Ok.ensures.changes
          ∙ ap (over order outcome c.args.changes.now) before;
      maps = λ n le. c.install.ensures.maps n (subst (λ m. n ≤ m) (sym number) le) ∙ c.reserve_install.ensures.maps n;
    }))
