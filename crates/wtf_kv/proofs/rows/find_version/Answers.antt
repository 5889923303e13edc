use Rattle.std.proofs.Common.{arith, sym, ap, ◌∙◌, take}
use Rattle.wtf_kv.proofs.Sees.{seen_last, seen_none}
use Rattle.wtf_kv.proofs.rows.find_version.Goals as goal

pub returns-then-count-eq0 : goal.returns-then-count-eq0
returns-then-count-eq0 g c = sym (seen_none c.args.n c.args.versions.now (sym (ap (λ i. take i c.args.versions.now) c.if-count-eq0.true) ∙ c.count_upto-count.ensures.front))

pub returns : goal.returns
returns g c = sym (seen_last c.args.n c.count_upto-count.result c.args.versions.now c.index-versions-count.result (omega arith) c.count_upto-count.ensures.bound c.count_upto-count.ensures.front c.count_upto-count.ensures.holds c.index-versions-count.is)
