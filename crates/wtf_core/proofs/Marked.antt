-- Marks of scans, and what was freed, lie in the files over each line.
use Rattle.wtf_core.proofs.Common.{EachFollows, Range, StoreKind, KindLaws, size_in, Span, Dev, Answer, ScanBusy, NoScan, Event, Extent, run_on, with_run}
use Rattle.wtf_core.proofs.Common.{with_finished, RunView, GcView, length_in, scan_of, AreUpto, LieIn, ScanTurn, StartsTurn, PieceTurn, PieceFails, DoesTurn}
use Rattle.wtf_core.proofs.Common.{AreSound, BesideView, TablesView, sizes_grow, collect_lie, collect_freed, lie_on, LineTurn, CoreView, ◌≡◌, ◌≤◌, ℕ, Bool}
use Rattle.wtf_core.proofs.Common.{true, false, cond, nat_eq, nat_lt, List, Option, Some, sym, subst, arith}
use Rattle.wtf_core.proofs.{Moves.line_moves, Stamped.IsOther}

-- ---- a scan
-- the length of a file as it is noted is at most its length
noted_upto : {S : Type 0} (kind : StoreKind S) (shelf : List S) (k f : ℕ) → length_in kind shelf k f ≤ size_in kind shelf k f
noted_upto kind shelf k f = by (nat_lt f 8) (size_in kind shelf k f)
  where
    by : (b : Bool) (n : ℕ) → cond b n 0 ≤ n
    by true n = omega arith
    by false n = omega arith

starts_lie : {S : Type 0} (kind : StoreKind S) (shelf : List S) (old new : TablesView) → StartsTurn kind shelf old new
    → LieIn old.beside.gc (size_in kind shelf) → LieIn new.beside.gc (size_in kind shelf)
starts_lie kind shelf old new h lie =
    subst (λ (g : GcView). LieIn g (size_in kind shelf)) (sym h.starts.is) (record {
      older = lie.older;
      newer = lie.newer;
      last = λ k f. let is = h.starts.mark k f in let le = noted_upto kind shelf k f in omega (arith, is, le);
      freed = lie.freed;
    })

scan_lie : {S : Type 0} (kind : StoreKind S) (shelf : List S) (old new : TablesView) (a : Answer) → ScanTurn kind shelf old new a
    → LieIn old.beside.gc (size_in kind shelf) → LieIn new.beside.gc (size_in kind shelf)
scan_lie kind shelf old new (Answer.Refused ScanBusy) h lie = subst (λ (t : TablesView). LieIn t.beside.gc (size_in kind shelf)) (sym h.0) lie
scan_lie kind shelf old new (Answer.Held who) h lie = subst (λ (t : TablesView). LieIn t.beside.gc (size_in kind shelf)) (sym h.0) lie
scan_lie kind shelf old new Answer.Scanning h lie = starts_lie kind shelf old new h lie
scan_lie kind shelf old new a h lie = absurd h

-- ---- parts of one
-- the marks of the scan that runs go on
parts_lie : (g : GcView) (r : RunView) (n : ℕ) (found : List Extent) (length : ℕ → ℕ → ℕ) → g.running ≡ Some r → LieIn g length
    → LieIn (with_run g (run_on r n found)) length
parts_lie g r n found length runs lie =
    let last : AreUpto r.scan length = subst (λ (o : Option RunView). AreUpto (scan_of o g.newer) length) runs lie.last in
    by last (nat_eq (run_on r n found).left 0)
  where
    by : AreUpto r.scan length → (b : Bool) → LieIn (cond b (with_finished g (run_on r n found).scan) (record g { running = Some (run_on r n found) })) length
    by last true = record { older = lie.newer; newer = last; last = last; freed = lie.freed }
    by last false = record { older = lie.older; newer = lie.newer; last = last; freed = lie.freed }

piece_lie : {S : Type 0} (kind : StoreKind S) (before after : Dev S) (old new : TablesView) (n : ℕ) (length : ℕ → ℕ → ℕ) (a : Answer)
    → PieceTurn kind before after old new n a → LieIn old.beside.gc length → LieIn new.beside.gc length
piece_lie kind before after old new n length a h lie = by a h
  where
    does : (left : ℕ) → DoesTurn kind before after old new n left → LieIn new.beside.gc length
    does left d = subst (λ (g : GcView). LieIn g length) (sym d.does.is) (parts_lie old.beside.gc d.does.run n d.does.found length d.does.was lie)

    fails : (b : Answer) → PieceFails kind before after old new n b → LieIn new.beside.gc length
    fails b f = subst (λ (s : BesideView). LieIn s.gc length) (sym f.pruned.beside) lie

    by : (b : Answer) → PieceTurn kind before after old new n b → LieIn new.beside.gc length
    by (Answer.Refused NoScan) g = subst (λ (t : TablesView). LieIn t.beside.gc length) (sym g.0) lie
    by (Answer.More left) g = does left g.1
    by Answer.Done g = does 0 g
    by b g = fails b g

-- ---- each line
module _ {S : Type 0} {kind : StoreKind S} (laws : KindLaws kind) (t : Span S) (old new : CoreView) (sound : AreSound old.tables) (a : Answer)
    (ranges : List (ℕ × Range)) (follows : EachFollows kind t.before t.after ranges) (lie : LieIn old.tables.beside.gc (size_in kind t.before)) where
  grown : (g : GcView) → LieIn g (size_in kind t.before) → LieIn g (size_in kind t.after)
  grown g h = lie_on g (size_in kind t.before) (size_in kind t.after) (sizes_grow laws t.before t.after ranges follows) h

  other_lie : (e : Event) → IsOther e → LineTurn kind t old new e a → LieIn new.tables.beside.gc (size_in kind t.after)
  other_lie e other turn = grown new.tables.beside.gc
      (subst (λ (g : GcView). LieIn g (size_in kind t.before)) (sym ((line_moves kind t old new sound a e turn).aged other).gc) lie)

  pub line_lie : (e : Event) → LineTurn kind t old new e a → LieIn new.tables.beside.gc (size_in kind t.after)
  line_lie Event.Scan turn = grown new.tables.beside.gc (scan_lie kind t.before old.tables new.tables a turn.0 lie)
  line_lie (Event.Piece n) turn =
      grown new.tables.beside.gc (piece_lie kind turn.0.before turn.0.after old.tables new.tables n (size_in kind t.before) a turn.0.did lie)
  line_lie (Event.Collect k) turn =
      let by = turn.0 in
      subst (λ (s : Span S). LieIn old.tables.beside.gc (size_in kind s.before) → LieIn new.tables.beside.gc (size_in kind s.after)) by.lent.span_is
      (collect_lie laws (collect_freed laws by.before by.after old.tables new.tables k a by.did)) lie
  line_lie e turn = other_lie e tt turn
