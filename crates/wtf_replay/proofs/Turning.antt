-- Parts of what a verb makes of a transaction: the refusals that do not come, want of memory, and a transaction as it was.
use Rattle.std.proofs.Common.{◌≡◌, ◌≢◌, ℕ, ◌<◌, ◌≤◌, Bool, true, false, List, length, Option, None, Some, refl, sym, ap, ◌∙◌, subst, arith, ⊎_elim}
use Rattle.std.specs.Prelude.{Result, Ok, if◌then◌else◌, IfSome}
use Rattle.std.specs.Option.{option_map}
use Rattle.std.proofs.lemmas.Bool.{cases_lt, eq-eqb, ne_eqb, lt-leb, le-leb}
use Rattle.wtf_base.specs.declared.fault.Fault.{Fault}
use Rattle.wtf_dev.specs.Store.{StoreKind, KindLaws}
use Rattle.wtf_kv.specs.Stores.{Store}
use Rattle.wtf_occ.specs.Attempts.{Attempted}
use Rattle.wtf_values.specs.declared.key.Key.{Key}
use Rattle.wtf_values.specs.declared.value.Value.{Value}
use Rattle.wtf_values.specs.declared.value.Delta.{Delta}
use Rattle.wtf_model.specs.declared.answer.Answer.{Answer}
use Rattle.wtf_model.specs.declared.answer.Answer.TheVariants as answer
use Rattle.wtf_model.specs.declared.answer.Word.{Word}
use Rattle.wtf_model.specs.declared.answer.Word.TheVariants.{Replaying, Full, Live}
use Rattle.wtf_model.specs.declared.limits.TheConstants.{MAX_LOGGED}
use Rattle.wtf_model.specs.declared.op.Op.{Op}
use Rattle.wtf_meta.specs.Maps.{seen}
use Rattle.wtf_meta.specs.Sessions.{SessionView}
use Rattle.wtf_region.specs.declared.dev.Dev.{Dev}
use Rattle.wtf_region.specs.Devs.{IsSoundDev, is_down_in, stores}
use Rattle.wtf_region.proofs.ShowLaws.{reads_nothing}
use Rattle.wtf_region.proofs.Spans.{goes_nowhere}
use Rattle.wtf_steps.proofs.Leaving.{leaves_all}
use Rattle.wtf_replay.specs.Views.{TxnView, is_txn_live, is_full}
use Rattle.wtf_replay.specs.Built.{data_len}
use Rattle.wtf_replay.specs.Causes.{grown_place}
use Rattle.wtf_replay.specs.Fits.{IsFit}
use Rattle.wtf_replay.specs.Insides.{IsInsideTxn}
use Rattle.wtf_replay.specs.Refusals.{call_refusal, unmade, try_refusal, step_refusal}
use Rattle.wtf_replay.specs.Verbs.{turn, CallOf}

-- a live transaction whose log has room refuses no call
pub unmade_none : (x : TxnView) → x.replayed ≡ length x.log.ops → length x.log.ops ≢ MAX_LOGGED → length x.log.ops ≤ MAX_LOGGED → unmade x ≡ None
unmade_none x live room few =
    let under : length x.log.ops < MAX_LOGGED =
    ⊎_elim (λ lt. lt) (λ le. let full : length x.log.ops ≡ MAX_LOGGED = omega (arith, le, few) in absurd (room full))
    (cases_lt (length x.log.ops) MAX_LOGGED) in
    ap (λ (b : Bool). option_map answer.Refused (if b then (if is_full x then Some Full else None) else Some Replaying))
    (eq-eqb x.replayed (length x.log.ops) live)
    ∙ ap (λ (b : Bool). option_map answer.Refused (if b then Some Full else None)) (lt-leb MAX_LOGGED (length x.log.ops) under)

-- nor an attempt
pub try_none : (x : TxnView) → x.replayed ≡ length x.log.ops → try_refusal x ≡ None
try_none x live = ap (λ (b : Bool). if b then None else Some Replaying) (eq-eqb x.replayed (length x.log.ops) live)

-- and one that has calls to replay refuses no step
pub step_none : (x : TxnView) → x.replayed < length x.log.ops → step_refusal x ≡ None
step_none x left = ap (λ (b : Bool). if b then Some Live else None) (ne_eqb x.replayed (length x.log.ops) (λ e. omega (arith, left, e)))

-- what is said of a refusal, where there is none
pub if_none : {A : Type 0} (o : Option A) (P : A → Type 0) → o ≡ None → IfSome o P
if_none o P none = subst (λ q. IfSome q P) (sym none) tt

-- what holds of each value holds of one, if there is one
pub if_each : {A : Type 0} (o : Option A) (P : A → Type 0) → ((x : A) → P x) → IfSome o P
if_each None P each = tt
if_each (Some x) P each = each x

-- a transaction whose attempt and session are what they were
pub put_back : (x : TxnView) (at : Attempted Key Delta) (session : SessionView) → at ≡ x.at → session ≡ x.session → record x { at = at; session = session } ≡ x
put_back x at session same held = ap (λ (a : Attempted Key Delta). record x { at = a; session = session }) same
    ∙ ap (λ (s : SessionView). record x { session = s }) held

-- a replay that runs refuses calls, and so does a full log
pub refuses_replaying : (x : TxnView) → is_txn_live x ≡ false → call_refusal x ≡ Some Replaying
refuses_replaying x off = ap (λ (b : Bool). if b then (if is_full x then Some Full else None) else Some Replaying) off

pub refuses_full : (x : TxnView) → is_txn_live x ≡ true → length x.log.ops ≡ MAX_LOGGED → call_refusal x ≡ Some Full
refuses_full x live full =
    ap (λ (b : Bool). if b then (if is_full x then Some Full else None) else Some Replaying) live
    ∙ ap (λ (b : Bool). if b then Some Full else None) (le-leb MAX_LOGGED (length x.log.ops) (omega (arith, full)))

-- and leaves all as it was
pub call_refused : {S : Type 0} {kind : StoreKind S} → KindLaws kind → (dev : Dev S) → IsSoundDev kind dev → (kv : Store Key Value) (x : TxnView)
    (o : Op (List ℕ)) (word : Word) → call_refusal x ≡ Some word → IsFit kv x → IsInsideTxn kind (stores dev) dev.settings kv x
    → CallOf (turn kind dev dev kv kv x x) o (Ok (answer.Refused word))
call_refused {kind = kind} laws dev sound kv x o word is fit inside =
    let a : Answer = answer.Refused word in
    let r : Result Answer Fault = Ok a in
    let refused : unmade x ≡ Some a = ap (option_map answer.Refused) is in
    let bad : unmade x ≡ None → ⊥ = λ none. let some : Some a ≡ None = sym refused ∙ none in cc in
    record {
      instead = subst (λ (u : Option Answer). IfSome u (λ b. (r ≡ Ok b) × (x ≡ x) × (dev ≡ dev))) (sym refused) (refl, refl, refl);
      made = λ going. absurd (bad going);
      meaning = λ going. absurd (bad going);
      fit = fit;
      inside = inside;
      err = tt;
      err_hand = tt;
      fault = tt;
      due = tt;
      leaves = leaves_all kind (grown_place dev (seen kv x.at) x.session o) (data_len o) dev;
      reads = λ nothing. reads_nothing kind (is_down_in dev) (stores dev);
      dev = goes_nowhere laws dev sound;
    }
