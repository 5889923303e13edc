use Rattle.wtf_clients.proofs.Common.{MAX_JOBS, of_label, ◌≡◌, ◌<◌, ℕ, false, is_some, length, slice_index_or}
use Rattle.wtf_clients.proofs.beside.Beside.labels.Given as goal

-- the first labels are told
abbrev pub invariant-loop-j : goal.invariant-loop-j
invariant-loop-j l = (length l.labels ≡ MAX_JOBS) × ((i : ℕ) → i < l.j → slice_index_or l.labels i false ≡ is_some (of_label l.self.jobs i))
