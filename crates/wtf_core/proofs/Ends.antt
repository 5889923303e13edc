-- What lines make of a core that are lent nothing of it, and what a save does.
use Rattle.wtf_core.proofs.Common.{true≢false, MatchBool, EachFollows, StoreKind, KindLaws, each_same, is_down, Remembered, SameSyncs, Span, span, Answer}
use Rattle.wtf_core.proofs.Common.{NoServer, Event, lending, LeavesAlone, TablesBytes, no_load, load_of, AreUp, SaveTurn, IsPlain, ServesLine, AreSound}
use Rattle.wtf_core.proofs.Common.{TablesView, leaves_none, LineEnds, IsInside, ServesTurn, Switches, ServerTurn, ShowsTree, IsTreeAnswer, LineTurn, CoreView}
use Rattle.wtf_core.proofs.Common.{lent_of, ◌≡◌, ◌≤◌, ℕ, nat_lt, Bool, true, false, List, [], length, Result, Ok, IfOk, OnErr, refl, sym, ap, subst}
use Rattle.wtf_core.proofs.{Answering.tree_plain, Answering.server_plain, Answering.still_serves, Lent.if_both, Lent.if_some, Lent.on_any, Lent.on_both}
use Rattle.wtf_core.proofs.{Lent.same_alike, Punching.IsUncollecting, Punching.none_keeps, Remembering.still_keeps, Remembering.save_keeps}
use Rattle.wtf_core.proofs.{Remembering.server_keeps, Telling.save_told}

-- ---- a server goes down, or comes up
server_rest : (old new : CoreView) (k : ℕ) (to there : Bool) (a : Answer) → MatchBool there (Switches old new k to a)
    ((a ≡ Answer.Refused NoServer) × (new ≡ old)) → (new.settings ≡ old.settings) × (new.closed ≡ old.closed) × (new.lists ≡ old.lists)
server_rest old new k to true a h = (ap (λ (c : CoreView). c.settings) h.rest, ap (λ (c : CoreView). c.closed) h.rest, ap (λ (c : CoreView). c.lists) h.rest)
server_rest old new k to false a h = (ap (λ (c : CoreView). c.settings) h.1, ap (λ (c : CoreView). c.closed) h.1, ap (λ (c : CoreView). c.lists) h.1)

-- one that is lent no store, and leaves the lists, leaves all alone
pub left_alone : {S : Type 0} (kind : StoreKind S) (shelf : List S) (old new : CoreView) (e : Event) → new.lists ≡ old.lists
    → LeavesAlone kind (span (is_down old.replicas) shelf shelf) (lent_of old new) old.tables e
left_alone kind shelf old new e same =
    subst (λ (l : Remembered). LeavesAlone kind (span (is_down old.replicas) shelf shelf) (lending old.settings old.lists l) old.tables e) (sym same)
    (leaves_none kind (is_down old.replicas) shelf old.settings old.lists old.tables e)

-- the tables name what they named
same_names : {S : Type 0} (kind : StoreKind S) (shelf : List S) (old new : CoreView) (e : Event) (a : Answer) → IsInside kind shelf old
    → new.tables ≡ old.tables
    → load_of e ≡ no_load → IsPlain a → ServesLine kind (span (is_down old.replicas) shelf shelf) (lent_of old new) old.tables new.tables e a
same_names kind shelf old new e a inside same none plain =
    still_serves kind (is_down old.replicas) shelf (lent_of old new) old.tables new.tables e a inside.tables
    (λ P Q hole was. subst (λ (t : TablesView). TablesBytes P Q t) (sym same) was) none plain

module _ {S : Type 0} {kind : StoreKind S} (laws : KindLaws kind) (shelf : List S) (old new : CoreView) (sound : AreSound old.tables)
    (inside : IsInside kind shelf old) where
  abbrev still : Span S
  still = span (is_down old.replicas) shelf shelf

  server_ends : {E : Type 0} (e : Event) (k : ℕ) (to : Bool) (a : Answer) (r : Result Answer E) → r ≡ Ok a → LineTurn kind still old new e a
      → ServesTurn kind still old new e a → IsUncollecting e → ServerTurn old new k to a → LineEnds kind still old new e r
  server_ends e k to a r is turn told plain h =
      let rest = server_rest old new k to (nat_lt k old.settings.servers) a h in
      subst (LineEnds kind still old new e) (sym is) (record {
        made = record {
          turn = turn;
          told = told;
          punched = none_keeps kind still old new sound e a turn plain (each_same laws shelf) (server_keeps kind shelf old new k to a inside h);
        };
        lost = tt;
        settings = rest.0;
        closed = rest.1;
        leaves = left_alone kind shelf old new e rest.2;
        sure = λ yes. refl;
      })

  pub down_ends : {E : Type 0} (k : ℕ) (a : Answer) (r : Result Answer E) → r ≡ Ok a → ServerTurn old new k true a
      → LineEnds kind still old new (Event.Down k) r
  down_ends k a r is h = server_ends (Event.Down k) k true a r is h tt tt h

  pub up_ends : {E : Type 0} (k : ℕ) (a : Answer) (r : Result Answer E) → r ≡ Ok a → ServerTurn old new k false a → LineEnds kind still old new (Event.Up k) r
  up_ends k a r is h = server_ends (Event.Up k) k false a r is h tt tt h

  pub server_serves : (e : Event) (k : ℕ) (to : Bool) (a : Answer) → load_of e ≡ no_load → ServerTurn old new k to a
      → ServesLine kind still (lent_of old new) old.tables new.tables e a
  server_serves e k to a none h =
      let both = server_plain old new k to (nat_lt k old.settings.servers) a h in
      same_names kind shelf old new e a inside both.1 none both.0

-- ---- the tree is shown
module _ {S : Type 0} {kind : StoreKind S} (laws : KindLaws kind) (shelf : List S) (core : CoreView) (sound : AreSound core.tables)
    (inside : IsInside kind shelf core) where
  abbrev here : Span S
  here = span (is_down core.replicas) shelf shelf

  pub tree_ends : {E : Type 0} (r : Result Answer E) → IfOk r (ShowsTree core.settings.region core.tables.kv) → IfOk r IsTreeAnswer
      → LineEnds kind here core core Event.Tree r
  tree_ends r shows tree = record {
    made = if_both r shows tree (λ a s t.
        let turn : LineTurn kind here core core Event.Tree a = (s, refl, t) in
        record {
          turn = turn;
          told = tt;
          punched = none_keeps kind here core core sound Event.Tree a turn tt (each_same laws shelf) (still_keeps kind shelf core core inside refl);
        });
    lost = on_any r (record { left = same_alike core.tables core.tables refl; follows = each_same laws shelf; unsynced = λ k d there. refl });
    settings = refl;
    closed = refl;
    leaves = left_alone kind shelf core core Event.Tree refl;
    sure = λ never. absurd (true≢false (sym never));
  }

  pub tree_serves : {E : Type 0} (r : Result Answer E) → IfOk r IsTreeAnswer
      → IfOk r (ServesLine kind here (lent_of core core) core.tables core.tables Event.Tree)
  tree_serves r tree = if_some r tree (λ a t. same_names kind shelf core core Event.Tree a inside refl refl (tree_plain a t))

-- ---- a save
module _ {S : Type 0} {kind : StoreKind S} (laws : KindLaws kind) (before after : List S) (old : CoreView) (new : TablesView) (sound : AreSound old.tables)
    (inside : IsInside kind before old) (enough : old.settings.servers ≤ length before) (follows : EachFollows kind before after []) where
  abbrev pub saved : CoreView
  saved = record { settings = old.settings; tables = new; replicas = old.replicas; closed = old.closed; lists = old.lists }

  abbrev through : Span S
  through = span (is_down old.replicas) before after

  pub save_ends : {E : Type 0} (r : Result Answer E) → IfOk r (SaveTurn (AreUp old.replicas old.settings.servers) old.tables new) → OnErr r (new ≡ old.tables)
      → OnErr r (after ≡ before) → LeavesAlone kind through (lent_of old saved) old.tables Event.Save → LineEnds kind through old saved Event.Save r
  save_ends r turn same unsynced leaves = record {
    made = if_some r turn (λ a h.
        let whole : LineTurn kind through old saved Event.Save a = (h, refl) in
        record {
          turn = whole;
          told = save_told laws (is_down old.replicas) before after follows old.settings enough old.lists
              (AreUp old.replicas old.settings.servers) old.tables new a sound h;
          punched = none_keeps kind through old saved sound Event.Save a whole tt follows
              (save_keeps laws before after follows old saved enough inside refl);
        });
    lost = on_both r same unsynced (λ is stay. record {
      left = same_alike old.tables new is;
      follows = follows;
      unsynced = subst (SameSyncs kind before) (sym stay) (λ k d there. refl);
    });
    settings = refl;
    closed = refl;
    leaves = leaves;
    sure = λ never. absurd (true≢false (sym never));
  }
