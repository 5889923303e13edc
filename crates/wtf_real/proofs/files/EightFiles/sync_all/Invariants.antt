use Rattle.std.proofs.Common.{◌≡◌, ◌<◌, ◌≤◌, length}
use Rattle.wtf_real.specs.Asked.{synced_to}
use Rattle.wtf_real.proofs.files.EightFiles.sync_all.Given as goal

-- the files so far last
abbrev pub invariant-loop-file : goal.invariant-loop-file
invariant-loop-file g l = (l.file ≤ 8) × (l.self ≡ synced_to l.file l.initial.self) × (0 < l.file → length l.initial.self ≡ 8)
