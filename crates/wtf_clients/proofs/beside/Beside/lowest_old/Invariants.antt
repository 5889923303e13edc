use Rattle.wtf_clients.proofs.Common.{is_old_job, ◌≡◌, ◌<◌, ℕ, false}
use Rattle.wtf_clients.proofs.beside.Beside.lowest_old.Given as goal

-- no label before is of a job that was open
abbrev pub invariant-loop-j : goal.invariant-loop-j
invariant-loop-j l = (i : ℕ) → i < l.j → is_old_job l.self i ≡ false
