-- Laws of logged calls that stand for calls.
use Rattle.std.proofs.Common.{◌≡◌, ℕ, List, [], ◌∷◌, ◌++◌, length, zero, suc, Some, IfSome, Option, None, refl, sym, ap, subst, slice_get}
use Rattle.std.proofs.Common.{◌≤◌}
use Rattle.std.proofs.lemmas.List.Elements.{All-nil, All-cons, All-head, All-tail}
use Rattle.std.specs.List.{All}
use Rattle.std.specs.Option.{option_and_then}
use Rattle.wtf_base.specs.declared.kept.Kept.{Kept}
use Rattle.wtf_base.specs.declared.slice.Slice.{Slice}
use Rattle.wtf_model.specs.declared.op.Op.{Op}
use Rattle.wtf_model.specs.declared.op.Op.TheVariants as op
use Rattle.wtf_model.specs.declared.limits.TheConstants.{MAX_WRITTEN}
use Rattle.wtf_model.specs.Form.{IsData, IsKeptData, IsFormOp}
use Rattle.wtf_log.specs.Calls.{own_of}
use Rattle.wtf_log.specs.Standing.{KeptStandsFor, IsGiven, OpStandsFor, OpsStandFor}

-- a fact of a slice that is kept gives another
if_some_weaker : (P Q : Slice → Type 0) (o : Option Slice) → ((s : Slice) → o ≡ Some s → P s → Q s) → IfSome o P → IfSome o Q
if_some_weaker P Q None f h = tt
if_some_weaker P Q (Some s) f h = f s refl h

-- what is kept goes on to stand for the bytes where its slice goes on to hold them
pub IsGiven-weaker : (P Q : Slice → List ℕ → Type 0) (kept : Kept) (call : List ℕ → Op (List ℕ)) (o : Op (List ℕ)) →
    ((s : Slice) (bytes : List ℕ) → kept.slice ≡ Some s → P s bytes → Q s bytes) → IsGiven P kept call o → IsGiven Q kept call o
IsGiven-weaker P Q kept call o f h = record {
  bytes = h.bytes;
  is = h.is;
  stands = record {
    len = h.stands.len;
    slice = if_some_weaker (λ s. P s h.bytes) (λ s. Q s h.bytes) kept.slice (λ s. f s h.bytes) h.stands.slice;
  };
}

-- a logged call goes on to stand for a call where its own slice goes on to hold the bytes
pub OpStandsFor-weaker : (P Q : Slice → List ℕ → Type 0) (o : Op Kept) (p : Op (List ℕ)) →
    ((s : Slice) (bytes : List ℕ) → own_of o ≡ Some s → P s bytes → Q s bytes) → OpStandsFor P o p → OpStandsFor Q o p
OpStandsFor-weaker P Q (op.Write h kept) p f s = IsGiven-weaker P Q kept (op.Write h) p f s
OpStandsFor-weaker P Q (op.Append h kept) p f s = IsGiven-weaker P Q kept (op.Append h) p f s
OpStandsFor-weaker P Q o p f s = s

-- logged calls go on to stand for calls where the slices of the log go on to hold the bytes
pub OpsStandFor-weaker : (P Q : Slice → List ℕ → Type 0) (logged : List (Op Kept)) (ops : List (Op (List ℕ))) →
    ((k : ℕ) (s : Slice) (bytes : List ℕ) → option_and_then own_of (slice_get logged k) ≡ Some s → P s bytes → Q s bytes) →
    OpsStandFor P logged ops → OpsStandFor Q logged ops
OpsStandFor-weaker P Q [] [] f s = tt
OpsStandFor-weaker P Q (o ∷ logged) (p ∷ ops) f s =
    (OpStandsFor-weaker P Q o p (f 0) s.0, OpsStandFor-weaker P Q logged ops (λ k. f (suc k)) s.1)
OpsStandFor-weaker P Q [] (p ∷ ops) f s = absurd s
OpsStandFor-weaker P Q (o ∷ logged) [] f s = absurd s

-- there are as many logged calls as calls
pub OpsStandFor-length : (P : Slice → List ℕ → Type 0) (logged : List (Op Kept)) (ops : List (Op (List ℕ))) →
    OpsStandFor P logged ops → length logged ≡ length ops
OpsStandFor-length P [] [] s = refl
OpsStandFor-length P (o ∷ logged) (p ∷ ops) s = ap suc (OpsStandFor-length P logged ops s.1)
OpsStandFor-length P [] (p ∷ ops) s = absurd s
OpsStandFor-length P (o ∷ logged) [] s = absurd s

-- a log goes on, and so does what it stands for
pub OpsStandFor-append : (P : Slice → List ℕ → Type 0) (logged more : List (Op Kept)) (ops others : List (Op (List ℕ))) →
    OpsStandFor P logged ops → OpsStandFor P more others → OpsStandFor P (logged ++ more) (ops ++ others)
OpsStandFor-append P [] more [] others s t = t
OpsStandFor-append P (o ∷ logged) more (p ∷ ops) others s t = (s.0, OpsStandFor-append P logged more ops others s.1 t)
OpsStandFor-append P [] more (p ∷ ops) others s t = absurd s
OpsStandFor-append P (o ∷ logged) more [] others s t = absurd s

-- one more call
pub OpsStandFor-push : (P : Slice → List ℕ → Type 0) (logged : List (Op Kept)) (ops : List (Op (List ℕ))) (o : Op Kept) (p : Op (List ℕ)) →
    OpsStandFor P logged ops → OpStandsFor P o p → OpsStandFor P (logged ++ o ∷ []) (ops ++ p ∷ [])
OpsStandFor-push P logged ops o p s t = OpsStandFor-append P logged (o ∷ []) ops (p ∷ []) s (t, tt)

-- each call of a log stands for a call
pub OpsStandFor-get : (P : Slice → List ℕ → Type 0) (logged : List (Op Kept)) (ops : List (Op (List ℕ))) (k : ℕ) (o : Op Kept) →
    OpsStandFor P logged ops → slice_get logged k ≡ Some o → (p : Op (List ℕ)) × ((slice_get ops k ≡ Some p) × OpStandsFor P o p)
OpsStandFor-get P [] [] k o s is = absurd cc
OpsStandFor-get P (q ∷ logged) (p ∷ ops) zero o s is =
    let same : q ≡ o = cc in (p, (refl, subst (λ x. OpStandsFor P x p) same s.0))
OpsStandFor-get P (q ∷ logged) (p ∷ ops) (suc k) o s is = OpsStandFor-get P logged ops k o s.1 is
OpsStandFor-get P [] (p ∷ ops) k o s is = absurd s
OpsStandFor-get P (q ∷ logged) [] k o s is = absurd s

-- calls at one place
pub OpsStandFor-at : (P : Slice → List ℕ → Type 0) (logged : List (Op Kept)) (ops : List (Op (List ℕ))) (k : ℕ) (o : Op Kept) (p : Op (List ℕ)) →
    OpsStandFor P logged ops → slice_get logged k ≡ Some o → slice_get ops k ≡ Some p → OpStandsFor P o p
OpsStandFor-at P logged ops k o p s is other =
    let there = OpsStandFor-get P logged ops k o s is in
    let same : there.0 ≡ p = cc in subst (λ x. OpStandsFor P o x) same there.1.1

-- bytes for which what is kept stands are as many
given_data : (P : Slice → List ℕ → Type 0) (kept : Kept) (bytes : List ℕ) → KeptStandsFor P kept bytes → IsKeptData kept → IsData bytes
given_data P kept bytes s most = subst (λ n. n ≤ MAX_WRITTEN) s.len most

-- so calls for which logged calls in form stand are in form
OpStandsFor-form : (P : Slice → List ℕ → Type 0) (o : Op Kept) (p : Op (List ℕ)) → IsFormOp IsKeptData o → OpStandsFor P o p → IsFormOp IsData p
OpStandsFor-form P (op.Write h kept) p form s = subst (λ q. IsFormOp IsData q) (sym s.is) (form.0, given_data P kept s.bytes s.stands form.1)
OpStandsFor-form P (op.Append h kept) p form s = subst (λ q. IsFormOp IsData q) (sym s.is) (form.0, given_data P kept s.bytes s.stands form.1)
OpStandsFor-form P o p form s = subst (λ q. IsFormOp IsData q) (sym s) form

pub OpsStandFor-form : (P : Slice → List ℕ → Type 0) (logged : List (Op Kept)) (ops : List (Op (List ℕ))) → All (IsFormOp IsKeptData) logged →
    OpsStandFor P logged ops → All (IsFormOp IsData) ops
OpsStandFor-form P [] [] form s = All-nil (IsFormOp IsData)
OpsStandFor-form P (o ∷ logged) (p ∷ ops) form s =
    All-cons (IsFormOp IsData) p ops (OpStandsFor-form P o p (All-head (IsFormOp IsKeptData) o logged form) s.0)
    (OpsStandFor-form P logged ops (All-tail (IsFormOp IsKeptData) o logged form) s.1)
OpsStandFor-form P [] (p ∷ ops) form s = absurd s
OpsStandFor-form P (o ∷ logged) [] form s = absurd s
