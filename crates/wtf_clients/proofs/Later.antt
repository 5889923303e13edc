-- A map that stands for a tree stands for it where the stores tell more.
use Rattle.wtf_clients.proofs.Common.{Tree, Told, Map, Stands, TellsOn, stands_later, ℕ}

pub Stands-later : (told later : Told) → TellsOn told later → (b tx k : ℕ) (w : Map) (t : Tree) → Stands b told tx k w t → Stands b later tx k w t
Stands-later told later on b tx k w t st = stands_later b told later tx k w t on st
