use Rattle.std.proofs.Common.{sym, ap, subst, ◌∙◌}
use Rattle.std.proofs.lemmas.Result.{on_ok_weaker, IfErr-weaker}
use Rattle.wtf_kv.specs.Seen.{within}
use Rattle.wtf_kv.specs.Stores.{versions_in}
use Rattle.wtf_kv.specs.Edits.{first_unfit}
use Rattle.wtf_kv.specs.Causes.{IsCause}
use Rattle.wtf_kv.proofs.Prune.{within-upto}
use Rattle.wtf_kv.proofs.Staged.{cleared_same, cleared_values, is_ready}
use Rattle.wtf_kv.proofs.history.History.stage.Goals as goal

pub stage_all-requires-clause-clean : goal.stage_all-requires-clause-clean
stage_all-requires-clause-clean g c = λ q.
    subst (λ n. within n (versions_in g.K.Ord.cmp c.clear.new.self.cells q)) (sym c.clear.ensures.number)
    (subst (within c.args.self.now.number) (sym (c.clear.ensures.versions q)) (within-upto c.args.self.now.number _))

pub returns-clause-same : goal.returns-clause-same
returns-clause-same g c =
    let cleared = cleared_same g.K.Ord.cmp c.args.self.now c.clear.new.self c.clear.ensures.number c.clear.ensures.versions in
    record {
      number = c.stage_all.ensures.same.number ∙ c.clear.ensures.number;
      pins = c.stage_all.ensures.same.pins ∙ c.clear.ensures.pins;
      versions = λ q. c.stage_all.ensures.same.versions q ∙ cleared q;
    }

pub returns-clause-ready : goal.returns-clause-ready
returns-clause-ready g c = on_ok_weaker c.stage_all.result
    (is_ready g.K.Ord.cmp c.args.self.now c.clear.new.self c.clear.ensures.number c.clear.ensures.versions g.C.Cell.outcome c.stage_all.new.self c.args.changes.now c.stage_all.ensures.same) c.stage_all.ensures.ok

pub returns-clause-fit : goal.returns-clause-fit
returns-clause-fit g c =
    on_ok_weaker c.stage_all.result (λ fit. ap (first_unfit g.K.Ord.cmp g.C.Cell.outcome c.args.changes.now) (sym (cleared_values g.K.Ord.cmp c.args.self.now c.clear.new.self c.clear.ensures.number c.clear.ensures.versions)) ∙ fit) c.stage_all.ensures.fit

pub returns-clause-cause : goal.returns-clause-cause
returns-clause-cause g c =
    IfErr-weaker c.stage_all.result _ _ (λ why h. subst (λ f. IsCause why (first_unfit g.K.Ord.cmp g.C.Cell.outcome c.args.changes.now f)) (cleared_values g.K.Ord.cmp c.args.self.now c.clear.new.self c.clear.ensures.number c.clear.ensures.versions) h) c.stage_all.ensures.cause
