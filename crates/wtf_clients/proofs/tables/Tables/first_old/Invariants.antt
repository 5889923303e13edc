use Rattle.wtf_clients.proofs.Common.{SeesUpto, ◌-◌, length}
use Rattle.wtf_clients.proofs.tables.Tables.first_old.Given as goal

-- the first entries were seen
abbrev pub invariant-loop-i : goal.invariant-loop-i
invariant-loop-i l = SeesUpto l.self.clients l.self.beside.scan_tx l.first l.least l.i

abbrev pub decreases-loop-i : goal.decreases-loop-i
decreases-loop-i l = length l.self.clients - l.i
