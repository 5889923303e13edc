use Rattle.std.proofs.Common.{◌≡◌, ◌≤◌, ◌++◌, length, take, drop}
use Rattle.wtf_kv.specs.Seen.{kept_versions}
use Rattle.wtf_kv.proofs.rows.prune_versions.Given as goal

abbrev pub invariant-loop-i : goal.invariant-loop-i
invariant-loop-i g l = record {
  behind : l.kept ≤ l.i;
  long : length l.versions.items ≡ length l.initial.versions.items;
  rest : take l.kept l.versions.items ++ kept_versions l.pins (drop l.i l.versions.items) ≡ kept_versions l.pins l.initial.versions.items;
}
