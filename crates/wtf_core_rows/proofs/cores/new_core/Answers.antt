use Rattle.std.proofs.Common.{◌≡◌, ℕ, ◌+◌, ◌*◌, ◌≤◌, nat_lt, cond, Bool, [], true, false, sym, subst, true≢false, arith}
use Rattle.std.specs.Prelude.{slice_index_or}
use Rattle.wtf_clients.specs.Safe.{LieIn}
use Rattle.wtf_clients.specs.Views.{BesideView, unsaved}
use Rattle.wtf_core_rows.proofs.cores.new_core.Goals as goal

-- before the first scan the marks are 0, and nothing was freed
no_mark : (b : Bool) (i m : ℕ) → cond b (slice_index_or [] i 0) 0 ≤ m
no_mark true i m = omega arith
no_mark false i m = omega arith

lie_new : (length : ℕ → ℕ → ℕ) → LieIn unsaved.gc length
lie_new length = record {
  older = λ k f. no_mark (nat_lt f 8) (k * 8 + f) (length k f);
  newer = λ k f. no_mark (nat_lt f 8) (k * 8 + f) (length k f);
  last = λ k f. no_mark (nat_lt f 8) (k * 8 + f) (length k f);
  freed = λ p here. absurd (true≢false (sym here));
}

lie_first : (beside : BesideView) (length : ℕ → ℕ → ℕ) → beside ≡ unsaved → LieIn beside.gc length
lie_first beside length is = subst (λ (b : BesideView). LieIn b.gc length) (sym is) (lie_new length)

-- a new core names no byte
pub returns : goal.returns
returns c =
    let made = c.in_ok-new.ensures in
    let named = made.inside _ _ in
    record { tables = named.tables; lists = named.lists; scans = lie_first _ _ made.unsaved }
