-- Showing the bytes of pieces, and why they were not shown.
use Rattle.std.specs.Prelude.{◌≡◌, ◌<◌, ◌-◌, ◌++◌, ℕ, Bool, false, not, nat_eq, nat_le, if◌then◌else◌, List, [], ◌∷◌, length, slice_index, Option, None, Some}
use Rattle.std.specs.Prelude.{⊤}
use Rattle.std.specs.List.{All, Contains, filter}
use Rattle.wtf_base.specs.declared.pointer.Pointer.{Pointer}
use Rattle.wtf_base.specs.declared.slice.Slice.{Slice}
use Rattle.wtf_base.specs.Slices.{pointers_of}
use Rattle.wtf_base.specs.declared.fault.Fault.{Fault}
use Rattle.wtf_base.specs.declared.fault.Fault.TheVariants as fault
use Rattle.wtf_dev.specs.Store.{StoreKind}
use Rattle.wtf_overlay.specs.declared.part.Part.{Part}
use Rattle.wtf_overlay.specs.declared.part.Part.TheVariants.{Zero, Held}
use Rattle.wtf_overlay.specs.declared.part.Piece.{Piece}
use Rattle.wtf_overlay.specs.Origin.{Place}
use Rattle.wtf_overlay.specs.Meaning.{meaning}
use Rattle.wtf_replica.specs.Spans.{Span}
use Rattle.wtf_replica.specs.Copies.{IsReadable}
use Rattle.wtf_replica.specs.Faults.{AreAllOut}
use Rattle.wtf_replica.specs.Outs.{IsLeftDown, SameLengths, SameSyncs}
use Rattle.wtf_region.specs.Inside.{IsOnServers}
use Rattle.wtf_region.specs.Devs.{stores, is_down_in}
use Rattle.wtf_region.specs.declared.dev.Dev.{Dev}

-- no slice holds the part, or each copy of its slice is on a server of the settings, and on one that is not down lies inside its store
abbrev pub IsReadablePart : {S : Type 0} → StoreKind S → Dev S → Part → Type 0
IsReadablePart kind dev Zero = ⊤
IsReadablePart kind dev (Held s) = IsReadable kind (is_down_in dev) (stores dev) s × IsOnServers dev.settings.servers s

-- the same of each of the pieces
abbrev pub AreReadable : {S : Type 0} → StoreKind S → Dev S → List Piece → Type 0
AreReadable kind dev pieces = All (λ (p : Piece). IsReadablePart kind dev p.part) pieces

-- some copy of the part lies on a server that is up, or no slice holds it
abbrev pub IsUpPart : (ℕ → Bool) → Part → Type 0
IsUpPart down Zero = ⊤
IsUpPart down (Held s) = (p : Pointer) × Contains (pointers_of s) p × (down p.server.0 ≡ false)

-- how a byte is read: the one that its places give, if they do
abbrev pub Reading : Type 0
Reading = List Place → Option ℕ

-- n bytes with these places were read: where a reading gives a byte there, it is the one in the list
pub record GivesBytes (reading : Reading) (n : ℕ) (f : ℕ → List Place) (bytes : List ℕ) : Type 0 where
  pub len : length bytes ≡ n
  pub shows : (i b : ℕ) → i < n → reading (f i) ≡ Some b → slice_index bytes i ≡ b

-- they were added behind what was there
pub record Gives (reading : Reading) (n : ℕ) (f : ℕ → List Place) (old new : List ℕ) : Type 0 where
  pub bytes : List ℕ
  pub more : new ≡ old ++ bytes
  pub are : GivesBytes reading n f bytes

-- the bytes that all copies tell were read
abbrev pub ShowsBytes : (Place → Option ℕ) → (n : ℕ) → (ℕ → List Place) → List ℕ → Type 0
ShowsBytes told n f bytes = GivesBytes (meaning told) n f bytes

abbrev pub Shown : (Place → Option ℕ) → (n : ℕ) → (ℕ → List Place) → (old new : List ℕ) → Type 0
Shown told n f old new = Gives (meaning told) n f old new

-- the byte that places tell; there has to be one of them
abbrev pub told_by_some : (Place → Option ℕ) → Reading
told_by_some told [] = None
told_by_some told (p ∷ ps) = meaning told (p ∷ ps)

-- the byte at these places: 0 for a hole, else the one that every copy on a server that is up tells, if there is one and they agree
abbrev pub meaning_up : (ℕ → Bool) → (Place → Option ℕ) → Reading
meaning_up down told [] = Some 0
meaning_up down told (p ∷ ps) = told_by_some told (filter (λ (q : Place). not (down q.server)) (p ∷ ps))

-- the bytes that the copies on servers that are up tell were read, whatever the servers that are down hold
abbrev pub ShownLive : (ℕ → Bool) → (Place → Option ℕ) → (n : ℕ) → (ℕ → List Place) → (old new : List ℕ) → Type 0
ShownLive down told n f old new = Gives (meaning_up down told) n f old new

-- both
pub record ShownBoth (down : ℕ → Bool) (told : Place → Option ℕ) (n : ℕ) (f : ℕ → List Place) (old new : List ℕ) : Type 0 where
  pub shown : Shown told n f old new
  pub live : ShownLive down told n f old new

-- a list begins with an older one
abbrev pub BeginsWith : List ℕ → List ℕ → Type 0
BeginsWith old new = (more : List ℕ) × (new ≡ old ++ more)

-- the pieces that have one of the n bytes from off on
abbrev pub pieces_in : ℕ → ℕ → List Piece → List Piece
pieces_in off n [] = []
pieces_in off n (p ∷ ps) =
    if nat_eq n 0 then [] else (if nat_le p.len off then pieces_in (off - p.len) n ps else p ∷ pieces_in 0 (n - (p.len - off)) ps)

-- why a part was not shown: no copy of its slice was read, the last of them on server k
pub record LacksPart {S : Type 0} (kind : StoreKind S) (t : Span S) (part : Part) (k : ℕ) : Type 0 where
  pub slice : Slice
  pub held : part ≡ Held slice
  pub out : AreAllOut kind t slice k

-- why pieces were not shown: one of them was not, the first such one
pub record LacksPiece {S : Type 0} (kind : StoreKind S) (t : Span S) (pieces : List Piece) (k : ℕ) : Type 0 where
  pub before : List Piece
  pub piece : Piece
  pub after : List Piece
  pub split : pieces ≡ before ++ piece ∷ after
  pub lacks : LacksPart kind t piece.part k
  -- each piece before it has a copy on a server that is up
  pub earlier : All (λ (p : Piece). IsUpPart t.down p.part) before

-- the faults of a part; memory may be short at any time
abbrev pub IsPartFault : {S : Type 0} → StoreKind S → Span S → Part → Fault → Type 0
IsPartFault kind t part (fault.Read k) = LacksPart kind t part k.0
IsPartFault kind t part fault.Memory = ⊤
IsPartFault kind t part other = ⊥

-- and those of pieces
abbrev pub IsShowFault : {S : Type 0} → StoreKind S → Span S → List Piece → Fault → Type 0
IsShowFault kind t pieces (fault.Read k) = LacksPiece kind t pieces k.0
IsShowFault kind t pieces fault.Memory = ⊤
IsShowFault kind t pieces other = ⊥

-- the stores were only read: none on a server that is down was touched, no file grew, and none was synced
pub record OnlyRead {S : Type 0} (kind : StoreKind S) (t : Span S) : Type 0 where
  pub down : IsLeftDown t
  pub lengths : SameLengths kind t.before t.after
  pub syncs : SameSyncs kind t.before t.after
