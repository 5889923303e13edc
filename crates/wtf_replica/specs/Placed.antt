-- Pointers whose servers ascend.
use Rattle.std.specs.Prelude.{if◌then◌else◌, nat_lt, List, [], ◌∷◌}
use Rattle.wtf_base.specs.declared.pointer.Pointer.{Pointer}

-- these pointers and one more, before the first one of a later server
abbrev pub placed : Pointer → List Pointer → List Pointer
placed p [] = p ∷ []
placed p (q ∷ ps) = if nat_lt p.server.0 q.server.0 then p ∷ q ∷ ps else q ∷ placed p ps
