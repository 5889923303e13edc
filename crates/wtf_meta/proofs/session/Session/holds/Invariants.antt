use Rattle.std.proofs.Common.{◌≡◌, ◌≢◌, ◌<◌, ℕ, Some}
use Rattle.wtf_meta.specs.declared.session.Handle.{Handle}
use Rattle.wtf_meta.specs.Sessions.{at_label}
use Rattle.wtf_meta.proofs.session.Session.holds.Given as goal

-- no handle so far is on the path
abbrev pub invariant-loop-handle : goal.invariant-loop-handle
invariant-loop-handle l = (k : ℕ) (h : Handle) → k < l.handle-index → at_label l.self.handles k ≡ Some h → h.path ≢ l.p
