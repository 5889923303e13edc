-- Sets of places, as lists of extents.
use Rattle.std.specs.Prelude.{Bool, false, ◌&&◌, nat_eq, nat_le, nat_lt, List}
use Rattle.std.specs.List.{list_any}
use Rattle.wtf_base.specs.Places.{Place}
use Rattle.wtf_gc.specs.declared.extent.Extent.{Extent}

-- an extent has the byte at a place
abbrev pub has : Extent → Place → Bool
has e p = nat_eq p.server e.server && (nat_eq p.file e.file && (nat_le e.from p.at && nat_lt p.at e.to))

-- none
abbrev pub no_places : Place → Bool
no_places p = false

-- some extent does
abbrev pub extents_cover : List Extent → Place → Bool
extents_cover es p = list_any (λ e. has e p) es
