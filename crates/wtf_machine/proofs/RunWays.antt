-- What logged calls read and change, one after another: the loops that find it.
use Rattle.std.proofs.Common.{◌≡◌, ◌+◌, ◌<◌, ◌||◌, ℕ, Bool, true, false, List, ◌++◌, length, take, drop, get_or, sym, ap, ◌∙◌, append_assoc, append-nil}
use Rattle.std.proofs.Math.Seq.{take-length, drop-length}
use Rattle.std.specs.List.{list_any}
use Rattle.std.proofs.lemmas.List.Folds.{list_any_more, list_any_at}
use Rattle.wtf_model.specs.declared.item.Item.{Item}
use Rattle.wtf_model.specs.declared.answer.Answer.{Answer}
use Rattle.wtf_model.specs.Session.{Session}
use Rattle.wtf_model.specs.Call.{call}
use Rattle.wtf_model.specs.Items.{meets, reads, writes, reads_from, writes_from}
use Rattle.wtf_model.proofs.ItemLaws.{meets-append, reads_from-cons, reads_from-next, reads_from-none, writes_from-cons, writes_from-none}
use Rattle.wtf_machine.specs.declared.log.Logged.{Logged}
use Rattle.wtf_machine.specs.Logs.{ops_of}
use Rattle.wtf_machine.proofs.LogLaws.{ops_left}

-- ---- what is read

-- one call, and those after it
reads_left : (cap : ℕ) (s : Session) (calls : List Logged) (i : ℕ) (x : Logged) → i < length calls → x ≡ get_or calls i x
    → reads_from cap s (ops_of (drop i calls)) ≡ reads s x.op ++ reads_from cap (call cap s x.op).session (ops_of (drop (i + 1) calls))
reads_left cap s calls i x below at = ap (reads_from cap s) (ops_left calls i x below at) ∙ reads_from-cons cap s x.op (ops_of (drop (i + 1) calls))

-- it reads one of the items
pub reads-one : (cap : ℕ) (s : Session) (calls : List Logged) (i : ℕ) (x : Logged) (touched : List Item) → i < length calls → x ≡ get_or calls i x
    → true ≡ meets touched (reads s x.op)
    → true ≡ meets touched (reads_from cap s (ops_of (drop i calls)))
reads-one cap s calls i x touched below at met =
    ap (λ b. b || meets touched (reads_from cap (call cap s x.op).session (ops_of (drop (i + 1) calls)))) met
    ∙ sym (ap (meets touched) (reads_left cap s calls i x below at)
    ∙ meets-append touched (reads s x.op) (reads_from cap (call cap s x.op).session (ops_of (drop (i + 1) calls))))

-- or none, and those after it decide
pub reads-none : (cap : ℕ) (s new : Session) (calls : List Logged) (i : ℕ) (x : Logged) (a : Answer) (touched : List Item) → i < length calls
    → x ≡ get_or calls i x
    → call cap s x.op ≡ record { session = new; answer = a } → false ≡ meets touched (reads s x.op)
    → meets touched (reads_from cap new (ops_of (drop (i + 1) calls))) ≡ meets touched (reads_from cap s (ops_of (drop i calls)))
reads-none cap s new calls i x a touched below at is none =
    ap (λ b. b || meets touched (reads_from cap new (ops_of (drop (i + 1) calls)))) none
    ∙ sym (ap (meets touched) (ap (reads_from cap s) (ops_left calls i x below at) ∙ reads_from-next cap s new x.op a (ops_of (drop (i + 1) calls)) is)
    ∙ meets-append touched (reads s x.op) (reads_from cap new (ops_of (drop (i + 1) calls))))

-- where all were run, none is left
pub reads-end : (cap : ℕ) (s : Session) (calls : List Logged) (i : ℕ) (touched : List Item) → i ≡ length calls
    → false ≡ meets touched (reads_from cap s (ops_of (drop i calls)))
reads-end cap s calls i touched all =
    sym (ap (λ n. meets touched (reads_from cap s (ops_of (drop n calls)))) all ∙ ap (λ l. meets touched (reads_from cap s (ops_of l))) (drop-length calls)
    ∙ ap (meets touched) (reads_from-none cap s))

-- ---- what is changed

pub writes-left : (cap : ℕ) (s new : Session) (calls : List Logged) (i : ℕ) (x : Logged) (changed more : List Item) → i < length calls → x ≡ get_or calls i x
    → new ≡ (call cap s x.op).session → more ≡ writes cap s x.op
    → (changed ++ more) ++ writes_from cap new (ops_of (drop (i + 1) calls)) ≡ changed ++ writes_from cap s (ops_of (drop i calls))
writes-left cap s new calls i x changed more below at left is =
    append_assoc changed more (writes_from cap new (ops_of (drop (i + 1) calls)))
    ∙ ap (λ l. changed ++ (l ++ writes_from cap new (ops_of (drop (i + 1) calls)))) is
    ∙ ap (λ (t : Session). changed ++ (writes cap s x.op ++ writes_from cap t (ops_of (drop (i + 1) calls)))) left
    ∙ ap (λ l. changed ++ l) (sym (ap (writes_from cap s) (ops_left calls i x below at) ∙ writes_from-cons cap s x.op (ops_of (drop (i + 1) calls))))

pub writes-end : (cap : ℕ) (s : Session) (calls : List Logged) (i : ℕ) (changed : List Item) → i ≡ length calls
    → changed ≡ changed ++ writes_from cap s (ops_of (drop i calls))
writes-end cap s calls i changed all =
    sym (ap (λ n. changed ++ writes_from cap s (ops_of (drop n calls))) all ∙ ap (λ l. changed ++ writes_from cap s (ops_of l)) (drop-length calls)
    ∙ ap (λ l. changed ++ l) (writes_from-none cap s) ∙ append-nil changed)

-- ---- loops over items

-- none so far passes a test, and one does
pub one-passes : {X : Type 0} (test : X → Bool) (xs : List X) (i : ℕ) (d : X) → i < length xs → d ≡ get_or xs i d → true ≡ test d → true ≡ list_any test xs
one-passes test xs i d below at here = sym (list_any_at test xs i d below (ap test (sym at) ∙ sym here))

pub none-passes : {X : Type 0} (test : X → Bool) (xs : List X) (i : ℕ) (d : X) → i < length xs → d ≡ get_or xs i d → list_any test (take i xs) ≡ false
    → false ≡ test d → list_any test (take (i + 1) xs) ≡ false
none-passes test xs i d below at so_far fails =
    list_any_more test xs i d below ∙ ap (λ b. b || test (get_or xs i d)) so_far ∙ ap test (sym at) ∙ sym fails

pub all-fail : {X : Type 0} (test : X → Bool) (xs : List X) (i : ℕ) → i ≡ length xs → list_any test (take i xs) ≡ false → false ≡ list_any test xs
all-fail test xs i all none = sym (ap (list_any test) (sym (ap (λ n. take n xs) all ∙ take-length xs)) ∙ none)
