-- Laws of calls: how they are made, and how a log keeps them.
use Rattle.std.proofs.Common.{◌≡◌, ◌⊎◌, ◌≤◌, ℕ, false, List, length, Option, None, Some, refl, sym, ◌∙◌, subst, inl, inr}
use Rattle.std.specs.Prelude.{Bool, IfSome, ⊤}
use Rattle.wtf_base.specs.declared.kept.Kept.{Kept}
use Rattle.wtf_base.specs.declared.slice.Slice.{Slice}
use Rattle.wtf_overlay.specs.Origin.{Place}
use Rattle.wtf_model.specs.declared.answer.Answer.{Answer}
use Rattle.wtf_model.specs.declared.op.Op.{Op}
use Rattle.wtf_model.specs.declared.op.Op.TheVariants as op
use Rattle.wtf_model.specs.declared.limits.TheConstants.{MAX_WRITTEN}
use Rattle.wtf_model.specs.Form.{IsFormOp, IsData, IsKeptData}
use Rattle.wtf_log.specs.Calls.{own_of}
use Rattle.wtf_log.specs.Standing.{IsGiven, OpStandsFor}
use Rattle.wtf_rw.specs.declared.op.Given.TheVariants.{Fresh, Stored}
use Rattle.wtf_rw.specs.declared.op.RwOp.{RwOp}
use Rattle.wtf_rw.specs.declared.op.RwOp.TheVariants as rw
use Rattle.wtf_steps.specs.Steps.{IsRefusal}
use Rattle.wtf_rw.specs.Ops.{op_of, Writes, IsWhole, RwBytes}
use Rattle.wtf_replay.specs.Built.{is_rw_op, IsPlainOp, IsOpOf, IsFresh, call_data, with_data}
use Rattle.wtf_replay.specs.Keeps.{IsWholeOp, KeepsOwn, IsKeptOf}

-- a call without data is itself
pub plain_self : (o : Op (List ℕ)) → is_rw_op o ≡ false → IsPlainOp o o
plain_self (op.Write f bytes) n = absurd (cc)
plain_self (op.Append f bytes) n = absurd (cc)
plain_self o n = refl

-- and one that a log keeps is the call for which it stands
pub stands_plain : (P : Slice → List ℕ → Type 0) (k : Op Kept) (o : Op (List ℕ)) → is_rw_op k ≡ false → OpStandsFor P k o → IsPlainOp k o
stands_plain P (op.Write f kept) o n h = absurd (cc)
stands_plain P (op.Append f kept) o n h = absurd (cc)
stands_plain P k o n h = h

-- what is asked of the form of a call but of its data
pub form_plain : {D : Type 0} (G : D → Type 0) (o : Op D) → IsFormOp G o → IsFormOp (λ (d : D). ⊤) o
form_plain G (op.Write f d) h = (h.0, tt)
form_plain G (op.Append f d) h = (h.0, tt)
form_plain G o h = h

-- A call with other data is in form where as many bytes are kept.
pub with_form : (k : Kept) (o : Op (List ℕ)) → k.len ≡ length (call_data o) → IsFormOp IsData o → IsFormOp IsKeptData (with_data k o)
with_form k (op.Write f bytes) len form = (form.0, subst (λ n. n ≤ MAX_WRITTEN) (sym len) form.1)
with_form k (op.Append f bytes) len form = (form.0, subst (λ n. n ≤ MAX_WRITTEN) (sym len) form.1)
with_form k o len form = form

-- what was kept of bytes stands for them
slice_is : (o own : Option Slice) (bytes : List ℕ) → o ≡ own → IfSome o (λ s. (own ≡ Some s) × (bytes ≡ bytes))
slice_is None own bytes is = tt
slice_is (Some s) own bytes is = (sym is, refl)

keeps_data : (k : Kept) (own : Option Slice) (bytes : List ℕ) (call : List ℕ → Op (List ℕ)) → k.len ≡ length bytes → k.slice ≡ own
    → IsGiven (λ s b. (own ≡ Some s) × (b ≡ bytes)) k call (call bytes)
keeps_data k own bytes call len slice = record { bytes = bytes; is = refl; stands = record { len = len; slice = slice_is k.slice own bytes slice } }

own_kept : (o own : Option Slice) → o ≡ own → IfSome o (λ s. own ≡ Some s)
own_kept None own is = tt
own_kept (Some s) own is = sym is

whole_or : (k : Kept) (own : Option Slice) (bytes : List ℕ) (a : Answer) → k.len ≡ length bytes → k.slice ≡ own
    → (own ≡ None → (length bytes ≡ 0) ⊎ IsRefusal a) → (k.slice ≡ None → k.len ≡ 0) ⊎ IsRefusal a
whole_or k None bytes a len slice lacks = elim (lacks refl) [
  | inl none ↦ inl (λ e. len ∙ none)
  | inr refused ↦ inr refused
]
whole_or k (Some s) bytes a len slice lacks = inl (λ e. let bad : None ≡ Some s = sym e ∙ slice in absurd (cc))

plain : (k : Kept) (own : Option Slice) (o : Op (List ℕ)) → OpStandsFor (λ s bytes. (own ≡ Some s) × (bytes ≡ call_data o)) (with_data k o) o
    → IfSome (own_of (with_data k o)) (λ s. own ≡ Some s)
    → KeepsOwn (with_data k o) own → IsWholeOp (with_data k o) → IsKeptOf o own (with_data k o)
plain k own o stands is keeps whole = record { stands = stands; own_is = is; keeps = keeps; lacks = λ a l. inl whole }

pub with_kept : (k : Kept) (o : Op (List ℕ)) (own : Option Slice) → k.len ≡ length (call_data o) → k.slice ≡ own → IsKeptOf o own (with_data k o)
with_kept k (op.Write f bytes) own len slice = record {
  stands = keeps_data k own bytes (op.Write f) len slice;
  own_is = own_kept k.slice own slice;
  keeps = slice;
  lacks = λ a l. whole_or k own bytes a len slice l;
}
with_kept k (op.Append f bytes) own len slice = record {
  stands = keeps_data k own bytes (op.Append f) len slice;
  own_is = own_kept k.slice own slice;
  keeps = slice;
  lacks = λ a l. whole_or k own bytes a len slice l;
}
with_kept k o own len slice = plain k own o refl tt tt tt

-- what is known of a call that is made for the first time as r
pub record MadeAs (r : RwOp) (o : Op (List ℕ)) : Type 0 where
  pub is : op_of r (call_data o) ≡ o
  pub writes : Writes r (call_data o)
  pub whole : IsWhole r
  pub bytes : (P : List Place → Bool) → RwBytes P r

pub made_as : (r : RwOp) (o : Op (List ℕ)) → IsOpOf IsFresh r o → MadeAs r o
made_as (rw.Write f (Fresh bs)) o (bytes, e, is) =
    subst (MadeAs (rw.Write f (Fresh bs))) (sym e) (record { is = refl; writes = is; whole = tt; bytes = λ P. tt })
made_as (rw.Append f (Fresh bs)) o (bytes, e, is) =
    subst (MadeAs (rw.Append f (Fresh bs))) (sym e) (record { is = refl; writes = is; whole = tt; bytes = λ P. tt })
made_as (rw.Write f (Stored kept)) o (bytes, e, is) = absurd is
made_as (rw.Append f (Stored kept)) o (bytes, e, is) = absurd is
made_as r o e = subst (MadeAs r) (sym e) (record { is = refl; writes = tt; whole = tt; bytes = λ P. tt })
