use Rattle.std.proofs.Common.{refl, sym, ap, subst, ◌∙◌, ◌+◌, length, take, arith}
use Rattle.std.proofs.lemmas.List.{take-take, length-take-le}
use Rattle.std.specs.Option.{unwrap_or}
use Rattle.wtf_kv.specs.Seen.{upto, ascends, within, is_settled}
use Rattle.wtf_kv.specs.Stores.{listed, versions_in, names}
use Rattle.wtf_kv.proofs.Prune.{ascends-upto, within-upto, within-more, within-cut}
use Rattle.wtf_kv.proofs.Updated.{upto-upto}
use Rattle.wtf_kv.proofs.history.History.clear.Goals as goal

pub invariant_of-self : goal.invariant_of-self
invariant_of-self g c =
    let order = g.K.Ord.cmp in
    let old = c.self.inside in
    let n = old.number in
    record {
      good = λ q.
          let vs = versions_in order (listed old.cells.entries) q in
          subst (λ ws. ascends ws × within (n + 1) ws) (sym (c.clear_cells.ensures.versions q)) (ascends-upto n vs (c.self.invariant.good q).0, within-more n (upto n vs) (within-upto n vs));
      noted = record {
        inside = (let long = ap length c.clear_cells.ensures.touched ∙ length-take-le old.fresh old.touched.items c.self.invariant.noted.inside in omega arith);
        clean = λ q none. subst (within n) (sym (c.clear_cells.ensures.versions q)) (within-upto n _);
      };
      loose = λ q none.
          ap is_settled (ap (upto n) (c.clear_cells.ensures.versions q) ∙ upto-upto n (versions_in order (listed old.cells.entries) q))
          ∙ c.self.invariant.loose q (ap (λ ts. names order ts q) (sym (ap (take old.fresh) c.clear_cells.ensures.touched ∙ take-take old.fresh old.fresh old.touched.items (omega arith))) ∙ none);
      marked = λ q none. subst (within (unwrap_or old.recent.since 0)) (sym (c.clear_cells.ensures.versions q)) (within-cut (unwrap_or old.recent.since 0) n (versions_in order (listed old.cells.entries) q) (c.self.invariant.marked q none));
    }

pub returns-clause-pins : goal.returns-clause-pins
returns-clause-pins g c = rw (← c.self.view_is) refl
