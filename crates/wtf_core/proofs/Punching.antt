-- What a line punches: a collection alone, and only garbage.
use Rattle.wtf_core.proofs.Common.{◌||◌, ⊤, true≢false, Place, EachFollows, Range, StoreKind, KindLaws, Answer, NoServer, NoScan, Event, is_down, punched_on}
use Rattle.wtf_core.proofs.Common.{Span, Dev, IsSoundDev, GoesOn, stores, remembered, is_down_in, goes_nowhere, goes_on, Extent, extents_cover, AreZeroed}
use Rattle.wtf_core.proofs.Common.{lie_in, tried_on, GcView, CollectTurn, CollectsSome, TablesView, front_apart, tried_among, IsUncollected, ArePunchedBy}
use Rattle.wtf_core.proofs.Common.{AreFreed, CountsAs, KeepsLists, KeepsPunched, LineTurn, CoreView, AreSound, ◌≡◌, ◌≢◌, ◌≤◌, ℕ, Bool, true, false, List, []}
use Rattle.wtf_core.proofs.Common.{◌++◌, length, refl, sym, ◌∙◌, ap, subst, arith}
use Rattle.wtf_core.proofs.{Moves.line_moves, Remembering.goes_keeps}

or_none : (b : Bool) → (b || false) ≡ b
or_none true = refl
or_none false = refl

-- ---- a line that punches nothing
unpunched_by : (gc : GcView) (e : Event) (a : Answer) → ((k : ℕ) → e ≢ Event.Collect k) → IsUncollected a → ArePunchedBy gc e a []
unpunched_by gc (Event.Collect k) a other none = absurd (other k refl)
unpunched_by gc e a other none = (refl, none)

counts_same : (old new : GcView) (a : Answer) → new.freed ≡ old.freed → CountsAs old new a []
counts_same old new (Answer.FaultPunch k) same =
    ([], [], refl, omega arith, λ p. ap (λ (es : List Extent). extents_cover es p) same ∙ sym (or_none (extents_cover old.freed p)))
counts_same old new a same = λ p. ap (λ (es : List Extent). extents_cover es p) same ∙ sym (or_none (extents_cover old.freed p))

freed_none : {S : Type 0} (kind : StoreKind S) (down : ℕ → Bool) (before after : List S) (old new : GcView) → new.freed ≡ old.freed
    → AreFreed kind down before after old new
freed_none kind down before after old new same =
    let none : (p : Place) → extents_cover old.freed p ≡ false → extents_cover new.freed p ≡ true → ⊥ =
    λ p was is. true≢false (sym is ∙ ap (λ (es : List Extent). extents_cover es p) same ∙ was) in
    record { up = λ p was is. absurd (none p was is); zeros = λ tells p was is. absurd (none p was is) }

-- ---- a collection
-- what it made zeros, and no more, came to count as freed
freed_by : {S : Type 0} (kind : StoreKind S) (before after : Dev S) (old new : GcView) (rs : List (ℕ × Range))
    → ((p : Place) → extents_cover new.freed p ≡ (extents_cover old.freed p || lie_in rs p)) → AreZeroed kind before after rs
    → AreFreed kind (is_down before.replicas.now) (stores before) (stores after) old new
freed_by kind before after old new rs counts zeroed =
    let among : (p : Place) → extents_cover old.freed p ≡ false → extents_cover new.freed p ≡ true → lie_in rs p ≡ true =
    λ p was is. sym (counts p ∙ ap (λ b. b || lie_in rs p) was) ∙ is in
    record { up = λ p was is. zeroed.up p (among p was is); zeros = λ tells p was is. zeroed.zeros tells p (among p was is) }

-- where a range was not freed at most one was punched
one_tried : (down : Bool) (k : ℕ) (r : Range) → length (punched_on down k r) ≤ 1
one_tried true k r = omega arith
one_tried false k r = omega arith

-- the lists that are remembered then are true, but of slices of which a byte was punched
module _ {S : Type 0} {kind : StoreKind S} (laws : KindLaws kind) (before after : Dev S) (sound : IsSoundDev kind before) (old new : CoreView) (k : ℕ)
    (settings : before.settings ≡ old.settings) (lent : before.replicas.now ≡ old.replicas) (was : remembered before ≡ old.lists)
    (is : new.lists ≡ remembered after) where
  kept_by : (a : Answer) (ranges : List (ℕ × Range)) → ArePunchedBy old.tables.beside.gc (Event.Collect k) a ranges
      → CountsAs old.tables.beside.gc new.tables.beside.gc a ranges
      → AreFreed kind (is_down before.replicas.now) (stores before) (stores after) old.tables.beside.gc new.tables.beside.gc → GoesOn kind before after ranges
      → KeepsPunched kind (stores before) (stores after) old new (Event.Collect k) a
  kept_by a ranges are counts freed goes = record {
    punches = record { ranges = ranges; are = are; counts = counts; follows = goes.each };
    freed = subst (λ r. AreFreed kind (is_down r) (stores before) (stores after) old.tables.beside.gc new.tables.beside.gc) lent freed;
    lists = goes_keeps kind before after old new goes settings was is;
  }

  none_kept : (w : _) → new.tables ≡ old.tables → after ≡ before → KeepsPunched kind (stores before) (stores after) old new (Event.Collect k) (Answer.Refused w)
  none_kept w same stay =
      kept_by (Answer.Refused w) [] (refl, tt)
      (counts_same old.tables.beside.gc new.tables.beside.gc (Answer.Refused w) (ap (λ (t : TablesView). t.beside.gc.freed) same))
      (freed_none kind (is_down before.replicas.now) (stores before) (stores after) old.tables.beside.gc new.tables.beside.gc
      (ap (λ (t : TablesView). t.beside.gc.freed) same)) (subst (λ (dev : Dev S). GoesOn kind before dev []) (sym stay) (goes_nowhere laws before sound))

  some_kept : (j : ℕ) → CollectsSome kind before after old.tables new.tables k j
      → KeepsPunched kind (stores before) (stores after) old new (Event.Collect k) (Answer.FaultPunch j)
  some_kept j h =
      let f = h.frees in
      let down : Bool = is_down_in f.mid k in
      kept_by (Answer.FaultPunch j) (f.ranges ++ tried_on f.mid (k, f.tried))
      (record {
        apart = front_apart f.ranges f.rest down k f.tried f.are.apart;
        among = λ p here. sym (f.are.exact p) ∙ tried_among down f.ranges f.rest k f.tried p here;
      })
      (f.ranges, tried_on f.mid (k, f.tried), refl, one_tried down k f.tried, f.counts.freed)
      (freed_by kind before after old.tables.beside.gc new.tables.beside.gc f.ranges f.counts.freed f.zeroed) (goes_on laws f.goes f.last)

  pub collect_keeps : (a : Answer) → CollectTurn kind before after old.tables new.tables k a
      → KeepsPunched kind (stores before) (stores after) old new (Event.Collect k) a
  collect_keeps (Answer.Refused NoServer) h = none_kept NoServer h.0 h.1
  collect_keeps (Answer.Refused NoScan) h = none_kept NoScan h.0 h.1
  collect_keeps (Answer.Collected n) h =
      kept_by (Answer.Collected n) h.1.frees.ranges (h.1.frees.are, h.1.frees.count) h.1.frees.counts.freed
      (freed_by kind before after old.tables.beside.gc new.tables.beside.gc h.1.frees.ranges h.1.frees.counts.freed h.1.frees.zeroed) h.1.frees.goes
  collect_keeps (Answer.FaultPunch j) h = some_kept j h.1
  collect_keeps a h = absurd h

-- ---- a line that collects nothing
abbrev pub IsUncollecting : Event → Type 0
IsUncollecting (Event.Collect k) = ⊥
IsUncollecting e = ⊤

uncollecting : (e : Event) → IsUncollecting e → (k : ℕ) → e ≢ Event.Collect k
uncollecting e plain k is = subst IsUncollecting is plain

pub none_keeps : {S : Type 0} (kind : StoreKind S) (t : Span S) (old new : CoreView) → AreSound old.tables → (e : Event) (a : Answer)
    → LineTurn kind t old new e a → IsUncollecting e → EachFollows kind t.before t.after [] → KeepsLists kind t.before t.after [] old new
    → KeepsPunched kind t.before t.after old new e a
none_keeps kind t old new sound e a turn plain follows lists =
    let other = uncollecting e plain in
    let moves = line_moves kind t old new sound a e turn in
    record {
      punches = record {
        ranges = [];
        are = unpunched_by old.tables.beside.gc e a other (moves.answer other);
        counts = counts_same old.tables.beside.gc new.tables.beside.gc a (moves.freed other);
        follows = follows;
      };
      freed = freed_none kind (is_down old.replicas) t.before t.after old.tables.beside.gc new.tables.beside.gc (moves.freed other);
      lists = lists;
    }
