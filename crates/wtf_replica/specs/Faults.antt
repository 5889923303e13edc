-- Why a call over servers gave a fault: the servers that are out.
use Rattle.std.specs.Prelude.{◌≡◌, ◌⊎◌, ℕ, ◌<◌, Bool, true, false, List, [], ◌∷◌, length}
use Rattle.std.specs.List.{All, Contains}
use Rattle.wtf_base.specs.declared.pointer.Pointer.{Pointer}
use Rattle.wtf_base.specs.declared.slice.Slice.{Slice}
use Rattle.wtf_base.specs.declared.settings.Settings.{Settings}
use Rattle.wtf_base.specs.declared.fault.Fault.{Fault}
use Rattle.wtf_base.specs.declared.fault.Fault.TheVariants as fault
use Rattle.wtf_base.specs.Slices.{pointers_of}
use Rattle.wtf_dev.specs.Store.{Range, StoreKind}
use Rattle.wtf_dev.specs.Each.{at_server}
use Rattle.wtf_replica.specs.Spans.{Span}
use Rattle.wtf_replica.specs.Outs.{IsOut}

-- the server of the last of these copies
abbrev pub last_server : List Pointer → ℕ → ℕ
last_server [] k = k
last_server (p ∷ ps) k = last_server ps p.server.0

-- the servers of all copies of a slice are out, and k is that of the last one
pub record AreAllOut {S : Type 0} (kind : StoreKind S) (t : Span S) (s : Slice) (k : ℕ) : Type 0 where
  pub out : All (λ p. IsOut kind t p.server.0) (pointers_of s)
  pub last : last_server (pointers_of s) 0 ≡ k

-- why a slice was not read
abbrev pub IsReadFault : {S : Type 0} → StoreKind S → Span S → Slice → Fault → Type 0
IsReadFault kind t s (fault.Read k) = AreAllOut kind t s k.0
IsReadFault kind t s other = ⊥

-- of n servers fewer than so many are not out
pub record AreTooFew {S : Type 0} (kind : StoreKind S) (t : Span S) (n replicas : ℕ) : Type 0 where
  pub rest : List ℕ
  pub few : length rest < replicas
  pub out : (k : ℕ) → k < n → Contains rest k ⊎ IsOut kind t k

-- why bytes were not stored
abbrev pub IsWriteFault : {S : Type 0} → StoreKind S → Span S → Settings → Fault → Type 0
IsWriteFault kind t settings fault.Write = AreTooFew kind t settings.servers settings.replicas
IsWriteFault kind t settings other = ⊥

-- why a range on server k was not freed
abbrev pub IsPunchFault : {S : Type 0} → StoreKind S → Span S → ℕ → Fault → Type 0
IsPunchFault kind t k (fault.Punch j) = (j.0 ≡ k) × IsOut kind t k
IsPunchFault kind t k other = ⊥

-- the ranges that a call punches on server k: on a server that is down it is not tried
abbrev pub punched_on : Bool → ℕ → Range → List (ℕ × Range)
punched_on true k range = []
punched_on false k range = at_server k (range ∷ [])
