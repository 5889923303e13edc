-- What holds of a transaction over every device goes on holding.
use Rattle.std.proofs.Common.{◌≡◌, ◌≢◌, ◌≤◌, ◌<◌, ℕ, zero, suc, ◌+◌, List, [], ◌∷◌, ◌++◌, Some, slice_get, true, false, nat_eq, length, refl, sym, ap, ◌∙◌}
use Rattle.std.proofs.Common.{subst, arith, ⊎_elim}
use Rattle.std.specs.Prelude.{IsTrue, All, if◌then◌else◌}
use Rattle.std.proofs.lemmas.Bool.{cases_lt, eq-eqb, ne_eqb}
use Rattle.std.proofs.lemmas.List.{length_push}
use Rattle.std.proofs.lemmas.List.Elements.{All-push}
use Rattle.std.proofs.lemmas.Option.{slice_get_within, get_or_from_slice_get}
use Rattle.wtf_base.specs.declared.kept.Kept.{Kept}
use Rattle.wtf_kv.specs.Stores.{Store, is_pinned, times_pinned, IsPinnedOnceMore}
use Rattle.wtf_kv.proofs.PinLaws.{is_pinned-more, any-count}
use Rattle.wtf_occ.specs.Attempts.{Attempted}
use Rattle.wtf_model.specs.declared.limits.TheConstants.{MAX_LOGGED}
use Rattle.wtf_model.specs.declared.answer.Answer.{Answer}
use Rattle.wtf_model.specs.declared.op.Op.{Op}
use Rattle.wtf_model.specs.Form.{IsFormOp, IsKeptData}
use Rattle.wtf_model.specs.Steps.{IsLogged}
use Rattle.wtf_values.specs.declared.key.Key.{Key}
use Rattle.wtf_values.specs.declared.value.Value.{Value}
use Rattle.wtf_values.specs.declared.value.Delta.{Delta}
use Rattle.wtf_log.specs.Calls.{Calls, with_call}
use Rattle.wtf_meta.specs.Maps.{AllFit, metadata_at}
use Rattle.wtf_replay.specs.Views.{TxnView, rebased}
use Rattle.wtf_replay.specs.Keeps.{IsKeptFor}
use Rattle.wtf_replay.specs.Fits.{IsLog, IsFit}
use Rattle.wtf_replay.specs.Tried.{KeepsMaps, KeepsPins, MovesPin}

-- what is kept of one call more
kept_push : (ops : List (Op Kept)) (shown : List Answer) (o : Op Kept) (a : Answer) → length shown ≡ length ops
    → ((k : ℕ) (p : Op Kept) (b : Answer) → slice_get ops k ≡ Some p → slice_get shown k ≡ Some b → IsKeptFor p b) → IsKeptFor o a
    → (k : ℕ) (p : Op Kept) (b : Answer) → slice_get (ops ++ o ∷ []) k ≡ Some p → slice_get (shown ++ a ∷ []) k ≡ Some b → IsKeptFor p b
kept_push [] [] o a len h one zero p b e f = let same : o ≡ p = cc in let answer : a ≡ b = cc in
    subst (λ q. IsKeptFor q b) same (subst (λ c. IsKeptFor o c) answer one)
kept_push [] [] o a len h one (suc k) p b e f = absurd (cc)
kept_push (q ∷ ops) (c ∷ shown) o a len h one zero p b e f = h zero p b e f
kept_push (q ∷ ops) (c ∷ shown) o a len h one (suc k) p b e f = kept_push ops shown o a (omega (arith, len)) (λ j. h (suc j)) one k p b e f
kept_push [] (c ∷ shown) o a len h one k p b e f = absurd (omega (arith, len))
kept_push (q ∷ ops) [] o a len h one k p b e f = absurd (omega (arith, len))

-- one of a list, where each keeps to something
pub at_all : {X : Type 0} (P : X → Type 0) (xs : List X) (k : ℕ) (x : X) → slice_get xs k ≡ Some x → All P xs → P x
at_all P xs k x is all = subst P (get_or_from_slice_get xs k x x is) (all k x (slice_get_within xs k x is))

-- a log with one call more
pub log_called : (log : Calls) (k : Op Kept) (a : Answer) → IsLog log → length log.ops ≢ MAX_LOGGED → IsFormOp IsKeptData k → IsLogged a → IsKeptFor k a
    → IsLog (with_call log k a)
log_called log k a is room form logged kept =
    let ops = length_push log.ops k in
    let shown = length_push log.shown a in
    let answers = is.answers in
    let few = is.few in
    record {
      answers = shown ∙ ap (λ n. n + 1) answers ∙ sym ops;
      few = ⊎_elim (λ lt. omega (arith, ops, lt)) (λ le. let full : length log.ops ≡ MAX_LOGGED = omega (arith, le, few) in absurd (room full))
          (cases_lt (length log.ops) MAX_LOGGED);
      form = All-push (IsFormOp IsKeptData) log.ops k is.form form;
      shown = All-push IsLogged log.shown a is.shown logged;
      kept = kept_push log.ops log.shown k a is.answers is.kept kept;
    }

-- a transaction that stays as it was, but for its end, over a store that keeps its base
pub fit_after : (kv after : Store Key Value) (x y : TxnView) → IsFit kv x → y.at ≡ x.at → y.log ≡ x.log → y.replayed ≡ x.replayed → x.at.base ≤ kv.number
    → KeepsMaps kv after → KeepsPins kv after → IsFit after y
fit_after kv after x y fit at log replayed below maps pins =
    let same : times_pinned after x.at.base ≡ times_pinned kv x.at.base = pins x.at.base in
    let le : times_pinned kv x.at.base ≤ times_pinned after x.at.base = omega (arith, same) in
    record {
      pinned = subst (λ (a : Attempted Key Delta). IsTrue (is_pinned after a.base)) (sym at) (is_pinned-more kv after x.at.base fit.pinned le);
      fits = subst (λ (a : Attempted Key Delta). AllFit a.changes (metadata_at after a.base)) (sym at)
          (subst (λ w. AllFit x.at.changes w) (sym (maps x.at.base below)) fit.fits);
      log = subst (λ l. IsLog l) (sym log) fit.log;
      most = subst (λ (l : Calls). y.replayed ≤ length l.ops) (sym log) (subst (λ n. n ≤ length x.log.ops) (sym replayed) fit.most);
    }

-- a transaction that begins again at a number that is pinned
pub fit_rebased : (after : Store Key Value) (x : TxnView) (n : ℕ) → IsLog x.log → IsTrue (is_pinned after n) → IsFit after (rebased x n)
fit_rebased after x n log pinned = record { pinned = pinned; fits = refl; log = log; most = omega arith }

-- a number to which a pin has moved is pinned
pub moved_pinned : (b n : ℕ) (kv after : Store Key Value) → b < n → MovesPin b n kv after → IsTrue (is_pinned after n)
moved_pinned b n kv after later moves =
    let other : nat_eq n b ≡ false = ne_eqb n b (λ e. omega (arith, later, e)) in
    let same : nat_eq n n ≡ true = eq-eqb n n refl in
    let left : times_pinned after n + 0 ≡ times_pinned kv n + 1 =
    ap (λ q. times_pinned after n + (if q then 1 else 0)) (sym other) ∙ moves n ∙ ap (λ q. times_pinned kv n + (if q then 1 else 0)) same in
    any-count n after.pins (omega (arith, left))

-- a pin that came and went
pub pins_back : (kv pinned mid after : Store Key Value) (n : ℕ) → IsPinnedOnceMore n kv pinned → KeepsPins pinned mid → IsPinnedOnceMore n after mid
    → KeepsPins kv after
pins_back kv pinned mid after n more same fewer m =
    let up = more m in
    let down = fewer m in
    let are : times_pinned mid m ≡ times_pinned pinned m = same m in
    omega (arith, up, down, are)

-- a number is pinned as long as its pin is kept
pub pinned_there : (kv pinned mid : Store Key Value) (n : ℕ) → IsPinnedOnceMore n kv pinned → KeepsPins pinned mid → IsTrue (is_pinned mid n)
pinned_there kv pinned mid n more keeps =
    let same : nat_eq n n ≡ true = eq-eqb n n refl in
    let up : times_pinned pinned n ≡ times_pinned kv n + 1 = more n ∙ ap (λ q. times_pinned kv n + (if q then 1 else 0)) same in
    let kept = keeps n in
    any-count n mid.pins (omega (arith, up, kept))
