use Rattle.std.proofs.Common.{sym, ap, subst, ◌∙◌, ◌≡◌, ◌≤◌, ◌+◌, ◌∷◌, ◌++◌, [], take, length, length-append, arith}
use Rattle.std.specs.Option.{option_to_list}
use Rattle.std.proofs.lemmas.List.{take-append-le}
use Rattle.std.proofs.Math.ListN.{drop_of_length-le}
use Rattle.wtf_kv.specs.Stores.{listed, names, versions_in}
use Rattle.wtf_kv.specs.Inside.{Noted}
use Rattle.wtf_kv.proofs.Noting.{noted-pop, cleared-good, cleared-same}
use Rattle.wtf_kv.proofs.Next.{upto-all}
use Rattle.wtf_kv.proofs.cells.clear_cells.Goals as goal

pub loop-touched-preserved : goal.loop-touched-preserved
loop-touched-preserved g c =
    let ts = c.pop.new.self.items in
    let key = c.in-Some.key in
    let old = listed c.loop-touched.cells.entries in
    let new = listed c.clear_key.new.cells.entries in
    let popped : c.loop-touched.touched.items ≡ ts ++ key ∷ [] = c.pop.ensures.items ∙ ap (λ o. ts ++ option_to_list o) c.in-Some.is in
    let long : length c.loop-touched.touched.items ≡ length ts + 1 = ap length popped ∙ length-append ts (key ∷ []) in
    let le : c.args.fresh ≤ length ts = (let ok = c.loop-touched.touched.ok.0 in omega arith) in
    record {
      good = cleared-good g.K.Ord.cmp c.args.number c.args.fresh ts key old new c.clear_key.ensures c.loop-touched.invariant.good;
      noted = noted-pop g.K.Ord.cmp c.args.number c.args.fresh ts key old new c.clear_key.ensures le (subst (λ l. Noted g.K.Ord.cmp c.args.number c.args.fresh l old) popped c.loop-touched.invariant.noted);
      front = sym (take-append-le c.args.fresh ts (key ∷ []) le) ∙ ap (take c.args.fresh) (sym popped) ∙ c.loop-touched.invariant.front;
      same = λ q. cleared-same g.K.Ord.cmp c.args.number c.args.fresh ts key old new c.clear_key.ensures q ∙ c.loop-touched.invariant.same q;
    }

pub returns-clause-versions : goal.returns-clause-versions
returns-clause-versions g c = λ q.
    let ts = c.loop-touched.touched.items in
    let le : length ts ≤ c.args.fresh = (let ok = c.loop-touched.touched.ok.0 in omega arith) in
    let none = ap (λ l. names g.K.Ord.cmp l q) (drop_of_length-le ts {i = c.args.fresh} le) in
    sym (upto-all c.args.number (versions_in g.K.Ord.cmp (listed c.loop-touched.cells.entries) q) (c.loop-touched.invariant.noted.clean q none)) ∙ c.loop-touched.invariant.same q
