-- What a line leaves alone, from what is known of its parts.
use Rattle.wtf_clients.proofs.Common.{Settings, StoreKind, IsLeftDown, SameLengths, SameSyncs, Span, span, Event, Verb, Dev, Remembered, remembered, between}
use Rattle.wtf_clients.proofs.Common.{[], GoesOn, OnlyRead, TxnView, lending, lent_by, line_asked, MakesNoCall, ReadsNoList, SyncsNone, GrowsOnly, LeavesAlone}
use Rattle.wtf_clients.proofs.Common.{TablesView}
use Rattle.wtf_clients.proofs.Common.{of_client, SameFrom, ◌≡◌, ◌≢◌, ℕ, List, Bool, Option, None, Some, IfSome, inl, refl, ap, subst}

-- stores that were not synced
pub syncs_none : {S : Type 0} (kind : StoreKind S) (t : Span S) (e : Event) → SameSyncs kind t.before t.after → SyncsNone kind t e
syncs_none kind t Event.Save h = tt
syncs_none kind t e h = h

-- a line that is lent nothing
pub leaves_none : {S : Type 0} (kind : StoreKind S) (down : ℕ → Bool) (shelf : List S) (settings : Settings) (lists : Remembered) (tables : TablesView)
    (e : Event) → LeavesAlone kind (span down shelf shelf) (lending settings lists lists) tables e
leaves_none kind down shelf settings lists tables e = record {
  down = λ k d low. refl;
  past = λ k d high. refl;
  syncs = syncs_none kind (span down shelf shelf) e (λ k d there. refl);
  files = inl (λ k d there f. refl);
  lists = λ none. refl;
}

-- a save, which syncs
pub save_leaves : {S : Type 0} (kind : StoreKind S) (down : ℕ → Bool) (old new : List S) (settings : Settings) (lists : Remembered) (tables : TablesView)
    → IsLeftDown (span down old new) → SameFrom settings.servers old new → SameLengths kind old new
    → LeavesAlone kind (span down old new) (lending settings lists lists) tables Event.Save
save_leaves kind down old new settings lists tables left past lengths =
    record { down = left; past = past; syncs = tt; files = inl lengths; lists = λ none. refl }

module _ {S : Type 0} (kind : StoreKind S) (dev new : Dev S) (tables : TablesView) (e : Event) where
  -- one that was lent devices
  pub leaves_by : IsLeftDown (between dev new) → SameFrom dev.settings.servers (between dev new).before (between dev new).after
      → SameSyncs kind (between dev new).before (between dev new).after
      → GrowsOnly kind (between dev new) (line_asked kind (between dev new) (lent_by dev new) tables e)
      → (ReadsNoList dev.settings.region tables e → remembered new ≡ remembered dev) → LeavesAlone kind (between dev new) (lent_by dev new) tables e
  leaves_by down past syncs files lists =
      record { down = down; past = past; syncs = syncs_none kind (between dev new) e syncs; files = files; lists = lists }

  -- and only read
  pub leaves_read : OnlyRead kind (between dev new) → GoesOn kind dev new [] → (ReadsNoList dev.settings.region tables e → remembered new ≡ remembered dev)
      → LeavesAlone kind (between dev new) (lent_by dev new) tables e
  leaves_read reads goes lists = leaves_by reads.down goes.past reads.syncs (inl reads.lengths) lists

-- a verb that is refused leaves the lists
pub refused_lists : {S : Type 0} (dev new : Dev S) {A : Type 0} (P : A → Type 0) (Q : Type 0) (o : Option A)
    → IfSome o (λ w. P w × Q × (new ≡ dev)) → o ≢ None → remembered new ≡ remembered dev
refused_lists dev new P Q None h some = absurd (some refl)
refused_lists dev new P Q (Some w) h some = ap (λ d. remembered d) h.2

-- a line of a client that has a transaction makes no call
pub none_made : (tables : TablesView) (c : ℕ) (x : TxnView) (v : Verb) → of_client tables.clients c ≡ Some x → MakesNoCall (of_client tables.clients c) v
    → MakesNoCall (Some x) v
none_made tables c x v there h = subst (λ o. MakesNoCall o v) there h
