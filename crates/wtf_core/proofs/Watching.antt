-- No line changes which number is watched, and it is pinned.
use Rattle.wtf_core.proofs.Common.{IsTrue, eq-eqb, is_pinned, any-count, StoreKind, Span, Answer, Event, AreSound, all_watched, BesideView, TablesView, IsLine}
use Rattle.wtf_core.proofs.Common.{CoreView, ◌≡◌, ℕ, Some, refl, ap, ◌∙◌, cond, arith}
use Rattle.wtf_core.proofs.Moves.{line_moves}

pub line_watched : {S : Type 0} (kind : StoreKind S) (t : Span S) (old new : CoreView) → AreSound old.tables → (e : Event) (a : Answer)
    → IsLine kind t old new e a → new.tables.beside.watched ≡ old.tables.beside.watched
line_watched kind t old new sound e a line =
    ap (λ (b : BesideView). b.watched) line.tidied.beside ∙ (line_moves kind t old line.answered sound a e line.turn).watched

pub watched_pinned : (tables : TablesView) (n : ℕ) → AreSound tables → tables.beside.watched ≡ Some n → IsTrue (is_pinned tables.kv n)
watched_pinned tables n sound is =
    let one : all_watched n tables.beside.watched ≡ 1 = ap (all_watched n) is ∙ ap (λ b. cond b 1 0) (eq-eqb n n refl) in
    let pins = sound.pins n in
    any-count n tables.kv.pins (omega (arith, one, pins))
