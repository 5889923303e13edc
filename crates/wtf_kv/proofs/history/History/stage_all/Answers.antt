use Rattle.std.proofs.Common.{arith, sym, ap, ◌∙◌, ◌≡◌, ◌≤◌, ◌+◌, ◌-◌, ◌++◌, length, take, drop}
use Rattle.std.proofs.lemmas.List.{take_all, take-append-drop, drop-drop, length-drop}
use Rattle.wtf_kv.specs.Stores.{versions_in}
use Rattle.wtf_kv.specs.Staging.{next_value, staged_by, value_next}
use Rattle.wtf_kv.specs.Edits.{after_changes, versions_with}
use Rattle.wtf_kv.proofs.Fits.{take-further, unfit_step}
use Rattle.wtf_kv.proofs.Made.{made-append, made-next}
use Rattle.wtf_kv.proofs.history.History.stage_all.Goals as goal

pub loop-i-preserved : goal.loop-i-preserved
loop-i-preserved g c =
    let i = c.loop-i.i in
    let count = c.in-Ok.count in
    let all = c.args.changes.now in
    let rest = take (length all - i) (drop i all) in
    let part = take count rest in
    let order = g.K.Ord.cmp in
    let outcome = g.C.Cell.outcome in
    let start = c.args.self.now in
    let n = start.number in
    let old = start.cells in
    let now = c.loop-i.self in
    let next = c.stage_first.new.self in
    let number : now.number ≡ n = c.loop-i.invariant.same.number in
    let further : next.number ≡ now.number = c.stage_first.ensures.same.number in
    let long : length (drop i all) ≡ length all - i = length-drop i all in
    let whole : rest ≡ drop i all = take_all (length all - i) (drop i all) (omega arith) in
    let few : count ≤ length rest = c.in-Ok.ensures.some.1 in
    let front : take (i + count) all ≡ take i all ++ part = take-further all i count ∙ ap (λ l. take i all ++ take count l) (sym whole) in
    let back : drop count rest ≡ drop (i + count) all = ap (drop count) whole ∙ drop-drop count i all in
    let pushed : (q : g.row.K.Denot) → versions_in order next.cells q ≡ versions_with order outcome (take i all ++ part) (n + 1) q (next_value order start q) (versions_in order old q) = λ q.
    c.in-Ok.ensures.ok q ∙ ap (λ m. staged_by order outcome part m q (versions_in order now.cells q)) number ∙ ap (staged_by order outcome part n q) (c.loop-i.invariant.made q) ∙ made-append order outcome q n (versions_in order old q) (c.requires.clean q) (take i all) part in
    record {
      within = (let same = ap length whole in omega arith);
      same = record {
        number = further ∙ number;
        pins = c.stage_first.ensures.same.pins ∙ c.loop-i.invariant.same.pins;
        versions = λ q. c.stage_first.ensures.same.versions q ∙ c.loop-i.invariant.same.versions q;
      };
      made = λ q. pushed q ∙ sym (ap (λ cs. versions_with order outcome cs (n + 1) q (next_value order start q) (versions_in order old q)) front);
      fits = unfit_step order outcome part (drop (i + count) all) (drop i all) (next_value order now) (next_value order next) (ap (λ l. part ++ l) (sym back) ∙ take-append-drop count rest ∙ whole) c.in-Ok.ensures.fit
          (λ q. ap (λ m. value_next m (versions_in order next.cells q)) (further ∙ number)
          ∙ made-next order outcome q n (versions_in order old q) (c.requires.clean q) (take i all) part _ _ (c.loop-i.invariant.made q) (pushed q)
          ∙ ap (λ m. after_changes order outcome part q (value_next m (versions_in order now.cells q))) (sym number))
          ∙ c.loop-i.invariant.fits;
    }
