-- What lines make of the lists that a core remembers.
use Rattle.wtf_core.proofs.Common.{MatchBool, Settings, EachFollows, Range, StoreKind, KindLaws, shown_byte, Answer, NoServer, Dev, with_ranges, CacheInside}
use Rattle.wtf_core.proofs.Common.{CacheTrue, IsSoundDev, GoesOn, stores, remembered, shown_in, inside_of, is_inside, CacheInside-on, CacheTrue-on, TablesView}
use Rattle.wtf_core.proofs.Common.{IsCoreMade, IsInside, KeepsLists, Switches, ServerTurn, CoreView, ◌≡◌, ◌≤◌, ℕ, nat_lt, Bool, true, false, List, [], length}
use Rattle.wtf_core.proofs.Common.{sym, ap, subst}

-- what a core lends to a line
pub sound_dev : {S : Type 0} (kind : StoreKind S) (dev : Dev S) (tables : TablesView) → IsCoreMade dev.settings tables dev.replicas.now dev.ring.now
    dev.cache.now → dev.settings.servers ≤ length (stores dev)
    → CacheInside (inside_of kind dev) (remembered dev) → IsSoundDev kind dev
sound_dev kind dev tables made enough lists = record { replicas = made.replicas_are; ring = made.ring_is; shelf = enough; cache = made.cache_is; lists = lists }

-- and what it finds then
pub goes_keeps : {S : Type 0} (kind : StoreKind S) (dev new : Dev S) {punched : List (ℕ × Range)} (old next : CoreView) → GoesOn kind dev new punched
    → dev.settings ≡ old.settings → remembered dev ≡ old.lists → next.lists ≡ remembered new → KeepsLists kind (stores dev) (stores new) punched old next
goes_keeps kind dev new {punched} old next goes settings was is = record {
  inside = subst (CacheInside (is_inside kind (stores new) old.settings)) (sym is)
      (subst (λ (st : Settings). CacheInside (is_inside kind (stores new) st) (remembered new)) settings
      (subst (λ (st : Settings). CacheInside (is_inside kind (stores new) st) (remembered new)) goes.settings goes.sound.lists));
  true_still = λ ranges h.
      subst (CacheTrue (shown_in kind new) old.settings.region (with_ranges ranges punched)) (sym is)
      (subst (λ (st : Settings). CacheTrue (shown_in kind new) st.region (with_ranges ranges punched) (remembered new)) settings
      (subst (λ (st : Settings). CacheTrue (shown_in kind new) st.region (with_ranges ranges punched) (remembered new)) goes.settings (goes.lists ranges
      (subst (λ (st : Settings). CacheTrue (shown_in kind dev) st.region ranges (remembered dev)) (sym settings)
      (subst (CacheTrue (shown_in kind dev) old.settings.region ranges) (sym was) h)))));
}

-- a line that is lent no store leaves them
pub still_keeps : {S : Type 0} (kind : StoreKind S) (shelf : List S) (old next : CoreView) → IsInside kind shelf old → next.lists ≡ old.lists
    → KeepsLists kind shelf shelf [] old next
still_keeps kind shelf old next inside same = record {
  inside = subst (CacheInside (is_inside kind shelf old.settings)) (sym same) inside.lists;
  true_still = λ ranges h. subst (CacheTrue (shown_byte kind shelf) old.settings.region ranges) (sym same) h;
}

-- and so does a save
pub save_keeps : {S : Type 0} {kind : StoreKind S} → KindLaws kind → (before after : List S) → EachFollows kind before after [] → (old next : CoreView) →
    old.settings.servers ≤ length before → IsInside kind before old
    → next.lists ≡ old.lists → KeepsLists kind before after [] old next
save_keeps {kind = kind} laws before after each old next enough inside same = record {
  inside = subst (CacheInside (is_inside kind after old.settings)) (sym same) (CacheInside-on laws each old.settings enough old.lists inside.lists);
  true_still = λ ranges h.
      subst (CacheTrue (shown_byte kind after) old.settings.region ranges) (sym same) (CacheTrue-on laws each old.settings enough old.settings.region ranges
      old.lists inside.lists h);
}

-- and so does a server that goes down, or comes up
server_same : (old new : CoreView) (k : ℕ) (down : Bool) (a : Answer) (there : Bool) → MatchBool there (Switches old new k down a)
    ((a ≡ Answer.Refused NoServer) × (new ≡ old)) → new.lists ≡ old.lists
server_same old new k down a true h = ap (λ (core : CoreView). core.lists) h.rest
server_same old new k down a false h = ap (λ (core : CoreView). core.lists) h.1

pub server_keeps : {S : Type 0} (kind : StoreKind S) (shelf : List S) (old new : CoreView) (k : ℕ) (down : Bool) (a : Answer) → IsInside kind shelf old →
    ServerTurn old new k down a → KeepsLists kind shelf shelf [] old new
server_keeps kind shelf old new k down a inside h = still_keeps kind shelf old new inside (server_same old new k down a (nat_lt k old.settings.servers) h)
