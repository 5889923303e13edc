-- What a call sees of what it works on.
use Rattle.std.specs.Prelude.{ℕ, List}
use Rattle.wtf_base.specs.declared.ids.InodeId.{InodeId}
use Rattle.wtf_meta.specs.Lists.{ListFact}
use Rattle.wtf_meta.specs.Maps.{Map}
use Rattle.wtf_meta.specs.Sessions.{SessionView}

-- how many bytes a region has, the map of its attempt, what is in hand, the inode of a file that it would make, and the lists of
-- bases that it read
pub record Sight : Type 0 where
  pub size : ℕ
  pub map : Map
  pub hand : SessionView
  pub new : InodeId
  pub lists : List ListFact

abbrev pub sight : ℕ → Map → SessionView → InodeId → List ListFact → Sight
sight size w s new lists = record { size = size; map = w; hand = s; new = new; lists = lists }
