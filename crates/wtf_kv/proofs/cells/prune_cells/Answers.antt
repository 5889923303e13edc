use Rattle.std.proofs.Common.{sym, ap, subst, ◌∙◌, ◌≡◌, ◌≤◌, ◌<◌, ◌-◌, take, length, arith, ⊎_elim, true}
use Rattle.std.specs.BTreeMap.{is_at}
use Rattle.std.specs.List.{swap_remove}
use Rattle.std.specs.Cmp.{Equal-is}
use Rattle.std.proofs.lemmas.Bool.{cases_Bool}
use Rattle.std.proofs.lemmas.List.{get_or_default}
use Rattle.wtf_kv.specs.Seen.{is_settled}
use Rattle.wtf_kv.specs.Stores.{listed, names, versions_in}
use Rattle.wtf_kv.proofs.Loose.{step-either, step-done, step-left, names-last, names-not, names-swap_remove, take-swap_remove, settled_reported}
use Rattle.wtf_kv.proofs.cells.prune_cells.Goals as goal

pub loop-i-preserved : goal.loop-i-preserved
loop-i-preserved g c =
    let R = g.K.Ord.cmp in
    let ts = c.loop-i.touched.items in
    let i = c.loop-i.i in
    let k = c.index.result.now in
    let old = listed c.args.cells.now.entries in
    let now = listed c.loop-i.cells.entries in
    let new = listed c.prune_key-loose.new.cells.entries in
    let inv = c.loop-i.invariant in
    let step = c.prune_key-loose.ensures.versions in
    let le : i ≤ length ts = inv.within in
    let positive : 0 < i = omega arith in
    record {
      within = omega arith;
      either = λ q. step-either c.args.pins.now (is_at (R k) q) (versions_in R old q) (versions_in R now q) (versions_in R new q) (c.requires.order q) (step q) (inv.either q);
      done = λ q none. step-done c.args.pins.now (is_at (R k) q) (versions_in R old q) (versions_in R now q) (versions_in R new q) (c.requires.order q) (step q) (inv.either q)
          (λ apart. inv.done q (names-last R ts i k q positive le c.index.ensures none apart));
      loose = λ q none. ap is_settled (step-left c.args.pins.now (is_at (R k) q) (versions_in R old q) (versions_in R now q) (versions_in R new q) (c.requires.order q) (step q) (inv.either q) (names-not R ts i k q positive le c.index.ensures none)) ∙ inv.loose q none;
    }

pub loop-i-preserved-then-not-loose : goal.loop-i-preserved-then-not-loose
loop-i-preserved-then-not-loose g c =
    let R = g.K.Ord.cmp in
    let ts = c.loop-i.touched.items in
    let i = c.loop-i.i in
    let k = c.index.result.now in
    let old = listed c.args.cells.now.entries in
    let now = listed c.loop-i.cells.entries in
    let new = listed c.prune_key-loose.new.cells.entries in
    let inv = c.loop-i.invariant in
    let step = c.prune_key-loose.ensures.versions in
    let le : i ≤ length ts = inv.within in
    let positive : 0 < i = omega arith in
    let same : c.swap_remove.result ≡ k = c.swap_remove.ensures.value ∙ get_or_default ts (i - 1) c.swap_remove.result k (omega arith) ∙ sym c.index.ensures in
    let taken : c.swap_remove.new.self.items ≡ swap_remove ts (i - 1) k = c.swap_remove.ensures.items ∙ ap (swap_remove ts (i - 1)) same in
    let front : take (i - 1) c.swap_remove.new.self.items ≡ take (i - 1) ts = ap (take (i - 1)) taken ∙ take-swap_remove R ts i k k positive le c.index.ensures in
    record {
      within = (let ok = c.swap_remove.new.self.ok.0 in let ok2 = c.loop-i.touched.ok.0 in let len = c.swap_remove.ensures.len in omega arith);
      either = λ q. step-either c.args.pins.now (is_at (R k) q) (versions_in R old q) (versions_in R now q) (versions_in R new q) (c.requires.order q) (step q) (inv.either q);
      done = λ q none. step-done c.args.pins.now (is_at (R k) q) (versions_in R old q) (versions_in R now q) (versions_in R new q) (c.requires.order q) (step q) (inv.either q)
          (λ apart. inv.done q (names-last R ts i k q positive le c.index.ensures (ap (λ l. names R l q) (sym front) ∙ none) apart));
      loose = λ q none. ⊎_elim
          (λ here. let is : k ≡ q = g.met.K.StoreKey.exact k q ((Equal-is (R k q)).0 here) in
          subst (λ x. is_settled (versions_in R new x) ≡ true) is (settled_reported (is_settled (versions_in R new k)) c.prune_key-loose.result c.prune_key-loose.ensures.loose c.if-not-loose.true))
          (λ apart. ap is_settled (step-left c.args.pins.now (is_at (R k) q) (versions_in R old q) (versions_in R now q) (versions_in R new q) (c.requires.order q) (step q) (inv.either q) apart)
          ∙ inv.loose q (names-swap_remove R ts i k q positive le c.index.ensures (ap (λ l. names R l q) (sym taken) ∙ none) apart))
          (cases_Bool (is_at (R k) q));
    }
