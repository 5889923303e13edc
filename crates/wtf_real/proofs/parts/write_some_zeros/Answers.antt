use Rattle.std.proofs.Common.{rules, ◌≡◌, replicate, take, ℕ, List, subst}
use Rattle.std.proofs.lemmas.List.{take-replicate}
use Rattle.std.specs.Io.KnownBytes.{Appends}
use Rattle.wtf_real.proofs.parts.write_some_zeros.Goals as goal

pub returns-clause-written : goal.returns-clause-written
returns-clause-written g c =
    let zeros : take c.min-n.result (replicate 8192 0) ≡ replicate c.min-n.result 0 = take-replicate c.min-n.result 8192 0 (search rules) in
    subst (λ (bytes : List ℕ). Appends (g.W.Write.contents c.args.to.now) (g.W.Write.contents c.write_all.new.self) bytes) zeros c.in_ok-write_all.ensures.bytes
