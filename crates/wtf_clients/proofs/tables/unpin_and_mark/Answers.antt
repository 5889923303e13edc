use Rattle.wtf_clients.proofs.Common.{eq-eqb, times_pinned, any-count, all_watched, ◌≡◌, ◌≤◌, ℕ, cond, refl, ap, ◌∙◌, arith}
use Rattle.wtf_clients.proofs.tables.unpin_and_mark.Goals as goal

pub unpin-requires : goal.unpin-requires
unpin-requires c =
    let n : ℕ = c.in-Some.n in
    let enough : all_watched n c.args.watched ≤ times_pinned c.args.kv.now n = c.requires n in
    let one : all_watched n c.args.watched ≡ 1 = ap (all_watched n) c.in-Some.is ∙ ap (λ b. cond b 1 0) (eq-eqb n n refl) in
    any-count n c.args.kv.now.pins (omega (arith, enough, one))
