-- The numbers that can be read: those that are pinned, and the number now.
use Rattle.wtf_clients.proofs.Common.{IsTrue, if◌then◌else◌, list_any, cases_Bool, or_cases, eqb-true, eq-eqb, Slice, Place, Store, is_pinned, is_live}
use Rattle.wtf_clients.proofs.Common.{times_pinned, IsPinnedOnceMore, any-count, count-any, count-push, Key, Value, MapBytes, KeepsPins, MovesPin, RunView}
use Rattle.wtf_clients.proofs.Common.{BesideView, TablesView, metadata_now, watching, all_kept, all_seen, AreSound, with_image, only_image, Saves, TablesBytes}
use Rattle.wtf_clients.proofs.Common.{StoreKind, Dev, any_slice, stores, is_inside, ◌≡◌, ◌≤◌, ℕ, ◌+◌, Bool, true, false, ◌||◌, cond, nat_eq, count_by, List, []}
use Rattle.wtf_clients.proofs.Common.{Some, refl, ap, ◌⊎◌, inl, inr, ⊎_elim, arith}
use Rattle.wtf_clients.specs.declared.tables.Tables.TheInside.{Inside}

-- the tables that the fields are
abbrev pub tables_of : Inside → TablesView
tables_of t = record { kv = t.kv; next_tx = t.next_tx; clients = t.clients.entries; beside = t.beside }

-- what the tables name lies inside the devices
abbrev pub AreInside : {S : Type 0} → StoreKind S → Dev S → TablesView → Type 0
AreInside kind dev = TablesBytes (is_inside kind (stores dev) dev.settings) any_slice

-- what is pinned can be read, and so can the number; and nothing else
pub pinned_live : (kv : Store Key Value) (n : ℕ) → IsTrue (is_pinned kv n) → IsTrue (is_live kv n)
pinned_live kv n pinned = by (nat_eq n kv.number)
  where
    by : (b : Bool) → b || is_pinned kv n ≡ true
    by true = refl
    by false = pinned

pub number_live : (kv : Store Key Value) → IsTrue (is_live kv kv.number)
number_live kv = ap (λ b. b || is_pinned kv kv.number) (eq-eqb kv.number kv.number refl)

pub live_cases : (kv : Store Key Value) (n : ℕ) → IsTrue (is_live kv n) → (n ≡ kv.number) ⊎ IsTrue (is_pinned kv n)
live_cases kv n live = ⊎_elim (λ e. inl (eqb-true n kv.number e)) (λ pinned. inr pinned) (or_cases (nat_eq n kv.number) (is_pinned kv n) live)

-- none of them is of an install to come
pub live_upto : (tables : TablesView) (n : ℕ) → AreSound tables → IsTrue (is_live tables.kv n) → n ≤ tables.kv.number
live_upto tables n sound live = ⊎_elim (λ e. omega (arith, e)) (λ pinned. sound.upto n pinned) (live_cases tables.kv n live)

-- a number that a scan has pinned can be read
pub seen_live : (tables : TablesView) (r : RunView) → AreSound tables → tables.beside.gc.running ≡ Some r → (n : ℕ) → list_any (nat_eq n) r.seen ≡ true
    → IsTrue (is_live tables.kv n)
seen_live tables r sound runs n seen =
    let some = count-any n r.seen seen in
    let same : all_seen n tables.beside.gc.running ≡ count_by (nat_eq n) r.seen = ap (all_seen n) runs in
    let pins = sound.pins n in
    pinned_live tables.kv n (any-count n tables.kv.pins (omega (arith, some, same, pins)))

-- the map now is among those that can be read
pub now_bytes : (P : List Place → Bool) (Q : Slice → Bool) (tables : TablesView) → TablesBytes P Q tables → MapBytes P Q (metadata_now tables.kv)
now_bytes P Q tables h = h.live tables.kv.number (number_live tables.kv)

-- ---- each number that is pinned later could be read before
abbrev pub Reaches : Store Key Value → Store Key Value → Type 0
Reaches old new = (n : ℕ) → IsTrue (is_pinned new n) → IsTrue (is_live old n)

-- where none but the number now is pinned more often
pub reaches : (old new : Store Key Value) → ((n : ℕ) → times_pinned new n ≤ times_pinned old n + (if nat_eq n old.number then 1 else 0)) → Reaches old new
reaches old new most n pinned =
    let some = count-any n new.pins pinned in
    let le = most n in
    ⊎_elim
    (λ here. ap (λ b. b || is_pinned old n) here)
    (λ other.
    let none : ◌≡◌ {A = ℕ} (if nat_eq n old.number then 1 else 0) 0 = ap (λ b. cond b 1 0) other in
    pinned_live old n (any-count n old.pins (omega (arith, some, le, none)))) (cases_Bool (nat_eq n old.number))

-- each number is pinned as often
pub same_reaches : (old new : Store Key Value) → KeepsPins old new → Reaches old new
same_reaches old new pins = reaches old new (λ n. let same = pins n in omega (arith, same))

-- a pin of the number more
pub begun_reaches : (old new : Store Key Value) → IsPinnedOnceMore old.number old new → Reaches old new
begun_reaches old new once = reaches old new (λ n. let more = once n in omega (arith, more))

-- a pin less
pub ended_reaches : (old mid new : Store Key Value) (b : ℕ) → KeepsPins old mid → IsPinnedOnceMore b new mid → Reaches old new
ended_reaches old mid new b pins once = reaches old new (λ n.
    let same = pins n in
    let less = once n in
    omega (arith, same, less))

-- a pin that has moved to the number
pub moved_reaches : (old new : Store Key Value) (b n : ℕ) → n ≡ old.number → MovesPin b n old new → Reaches old new
moved_reaches old new b n is moved = reaches old new (λ m.
    let one = moved m in
    let same : ◌≡◌ {A = ℕ} (if nat_eq m n then 1 else 0) (if nat_eq m old.number then 1 else 0) = ap (λ k. if nat_eq m k then 1 else 0) is in
    omega (arith, one, same))

-- ---- a save
pub saved_reaches : (old new : TablesView) (now : BesideView) → ((n : ℕ) → all_kept n now ≤ all_kept n old.beside + cond (nat_eq n old.kv.number) 1 0)
    → Saves old new now → Reaches old.kv new.kv
saved_reaches old new now most saves = reaches old.kv new.kv (λ n.
    let moved = saves.pins n in
    let le = most n in
    omega (arith, moved, le))

pub same_kept : (old : TablesView) (n : ℕ) → all_kept n old.beside ≤ all_kept n old.beside + cond (nat_eq n old.kv.number) 1 0
same_kept old n = omega arith

pub added_kept : (old : TablesView) (n : ℕ) → all_kept n (with_image old.beside old.kv.number) ≤ all_kept n old.beside + cond (nat_eq n old.kv.number) 1 0
added_kept old n = let more = count-push n old.kv.number old.beside.images in omega (arith, more)

pub only_kept : (old : TablesView) (k n : ℕ) → k ≡ old.kv.number → all_kept n (only_image old.beside k) ≤ all_kept n old.beside + cond
    (nat_eq n old.kv.number) 1 0
only_kept old k n is =
    let one = count-push n k [] in
    let same : ◌≡◌ {A = ℕ} (cond (nat_eq n k) 1 0) (cond (nat_eq n old.kv.number) 1 0) = ap (λ j. cond (nat_eq n j) 1 0) is in
    omega (arith, one, same)

pub watching_kept : (old : TablesView) (n : ℕ) → all_kept n (watching old.beside old.kv.number) ≤ all_kept n old.beside + cond (nat_eq n old.kv.number) 1 0
watching_kept old n = omega arith

-- ---- what is pinned later is of no install to come
pub upto_on : (old new : TablesView) → AreSound old → Reaches old.kv new.kv → old.kv.number ≤ new.kv.number → (n : ℕ) → IsTrue (is_pinned new.kv n)
    → n ≤ new.kv.number
upto_on old new sound reach up n pinned = let le = live_upto old n sound (reach n pinned) in omega (arith, le, up)
