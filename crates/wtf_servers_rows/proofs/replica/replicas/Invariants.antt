use Rattle.std.proofs.Common.{◌≡◌}
use Rattle.wtf_replica.specs.Downs.{settings_of}
use Rattle.wtf_servers_rows.proofs.replica.replicas.Given as goal

-- servers go down and the settings stay
abbrev pub invariant-loop-k : goal.invariant-loop-k
invariant-loop-k l = (settings_of l.replicas).servers ≡ l.servers
