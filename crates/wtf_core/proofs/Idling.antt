-- Where no transaction and no job is open, and a scan that runs has pinned no other, just the number now, those of the images and the one that is
-- watched can be read.
use Rattle.wtf_core.proofs.Common.{IsTrue, if◌then◌else◌, list_any, cases_Bool, or_cases, or_left, or_right, cases_lt, eq-eqb, false≢true, is_live, is_pinned}
use Rattle.wtf_core.proofs.Common.{any-count, count-any, RunView, all_seen, all_watched, AreSound, Clients, TablesView, of_client, of_label, none_owned}
use Rattle.wtf_core.proofs.Common.{none_planned, live_cases, AreIdle, IsAtRest, is_watched, ◌≡◌, ◌<◌, ℕ, Bool, true, ◌||◌, nat_eq, List, [], ◌∷◌, Option, None}
use Rattle.wtf_core.proofs.Common.{Some, refl, sym, ap, ◌∙◌, ⊎_elim, arith}
use Rattle.wtf_core.specs.Quiet.{is_kept}

-- what is watched is counted once
watched_some : (n : ℕ) (o : Option ℕ) → 0 < all_watched n o → is_watched o n ≡ true
watched_some n None some = absurd (omega (arith, some))
watched_some n (Some w) some = ⊎_elim
    (λ here. here)
    (λ other. let none : all_watched n (Some w) ≡ 0 = ap (λ b. if b then 1 else 0) other in absurd (omega (arith, some, none)))
    (cases_Bool (nat_eq n w))

watched_counts : (n : ℕ) (o : Option ℕ) → is_watched o n ≡ true → 0 < all_watched n o
watched_counts n None is = absurd (false≢true is)
watched_counts n (Some w) is = let one : all_watched n (Some w) ≡ 1 = ap (λ b. if b then 1 else 0) is in omega (arith, one)

-- the numbers that a scan that runs has pinned are kept without it
abbrev pub SeenKept : TablesView → Type 0
SeenKept tables = (r : RunView) → tables.beside.gc.running ≡ Some r → (n : ℕ) → list_any (nat_eq n) r.seen ≡ true → is_kept tables n ≡ true

pub live_kept : (tables : TablesView) → AreSound tables → AreIdle tables → SeenKept tables → (n : ℕ) → IsTrue (is_live tables.kv n) → is_kept tables n ≡ true
live_kept tables sound idle seen n live = ⊎_elim
    (λ now. or_left (nat_eq n tables.kv.number) beside (eq-eqb n tables.kv.number now))
    (λ pinned.
    let some = count-any n tables.kv.pins pinned in
    let pins = sound.pins n in
    let owned = none_owned n tables.clients idle.clients in
    let jobs = none_planned n tables.beside.jobs idle.jobs in
    ⊎_elim
    (λ scanned. by tables.beside.gc.running refl scanned)
    (λ none. or_right (nat_eq n tables.kv.number) beside
    (⊎_elim
    (λ watched. or_right images (is_watched tables.beside.watched n) (watched_some n tables.beside.watched watched))
    (λ other. or_left images (is_watched tables.beside.watched n)
    (any-count n tables.beside.images (omega (arith, some, pins, owned, jobs, none, other)))) (cases_lt 0 (all_watched n tables.beside.watched))))
    (cases_lt 0 (all_seen n tables.beside.gc.running))) (live_cases tables.kv n live)
  where
    images : Bool
    images = list_any (nat_eq n) tables.beside.images

    beside : Bool
    beside = images || is_watched tables.beside.watched n

    by : (o : Option RunView) → tables.beside.gc.running ≡ o → 0 < all_seen n o → is_kept tables n ≡ true
    by None is some = absurd (omega (arith, some))
    by (Some r) is some = seen r is n (any-count n r.seen some)

pub kept_live : (tables : TablesView) → AreSound tables → (n : ℕ) → is_kept tables n ≡ true → IsTrue (is_live tables.kv n)
kept_live tables sound n kept = ⊎_elim
    (λ now. or_left (nat_eq n tables.kv.number) (is_pinned tables.kv n) now)
    (λ noted. or_right (nat_eq n tables.kv.number) (is_pinned tables.kv n) (⊎_elim
    (λ image.
    let some = count-any n tables.beside.images image in
    let pins = sound.pins n in
    any-count n tables.kv.pins (omega (arith, some, pins)))
    (λ watched.
    let some = watched_counts n tables.beside.watched watched in
    let pins = sound.pins n in
    any-count n tables.kv.pins (omega (arith, some, pins))) (or_cases (list_any (nat_eq n) tables.beside.images) (is_watched tables.beside.watched n) noted)))
    (or_cases (nat_eq n tables.kv.number) (list_any (nat_eq n) tables.beside.images || is_watched tables.beside.watched n) kept)

-- tables of the same number and images, in which the same is watched
pub kept_same : (old new : TablesView) → new.kv.number ≡ old.kv.number → new.beside.images ≡ old.beside.images → new.beside.watched ≡ old.beside.watched
    → (n : ℕ) → is_kept new n ≡ is_kept old n
kept_same old new number images watched n =
    ap (λ (m : ℕ). nat_eq n m || (list_any (nat_eq n) new.beside.images || is_watched new.beside.watched n)) number
    ∙ ap (λ (is : List ℕ). nat_eq n old.kv.number || (list_any (nat_eq n) is || is_watched new.beside.watched n)) images
    ∙ ap (λ (o : Option ℕ). nat_eq n old.kv.number || (list_any (nat_eq n) old.beside.images || is_watched o n)) watched

-- ---- nothing is open, and the keeper holds the image at the number
pub idle_on : (old new : TablesView) → new.clients ≡ old.clients → new.beside.jobs ≡ old.beside.jobs → AreIdle old → AreIdle new
idle_on old new clients jobs h =
    record { clients = λ c. ap (λ (cs : Clients). of_client cs c) clients ∙ h.clients c; jobs = λ j. ap (λ js. of_label js j) jobs ∙ h.jobs j }

pub rests_on : (old new : TablesView) → new.clients ≡ old.clients → new.beside.jobs ≡ old.beside.jobs → new.beside.images ≡ old.beside.images
    → new.beside.none ≡ old.beside.none → new.beside.watched ≡ old.beside.watched → new.kv.number ≡ old.kv.number → IsAtRest old → IsAtRest new
rests_on old new clients jobs images none watched number h = record {
  idle = idle_on old new clients jobs h.idle;
  image = images ∙ h.image ∙ ap (λ (n : ℕ). n ∷ []) (sym number);
  some = none ∙ h.some;
  watched = λ n is. h.watched n (sym watched ∙ is) ∙ sym number;
}
