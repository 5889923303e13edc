-- How many pieces a plan can still have.
use Rattle.std.specs.Prelude.{ℕ, ◌+◌, nat_lt, if◌then◌else◌, List, [], ◌∷◌}
use Rattle.wtf_overlay.specs.declared.part.Entry.{Entry}

-- how many of the entries' starts and ends lie above x
abbrev pub borders_above : List Entry → ℕ → ℕ
borders_above [] x = 0
borders_above (e ∷ es) x =
    (if nat_lt x e.off then 1 else 0) + (if nat_lt x (e.off + e.len) then 1 else 0) + borders_above es x
