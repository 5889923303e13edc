use Rattle.std.proofs.Common.{◌≡◌, ◌↔◌, ◌<◌, ℕ, List, [], ◌∷◌, length, IsTrue, Bool, sym, subst, arith}
use Rattle.wtf_model.specs.declared.answer.Answer.{Answer}
use Rattle.wtf_model.specs.declared.op.Op.{Op}
use Rattle.wtf_model.specs.declared.op.Op.TheVariants as op
use Rattle.wtf_model.specs.Lawful.{MayFail, MayFailWrite}
use Rattle.wtf_machine.proofs.faults.may_fail.Goals as goal

-- bytes are stored where there is one
for_write : (servers f : ℕ) (bytes : List ℕ) (d a : Answer) → ((0 < length bytes) × MayFailWrite d a) ↔ MayFail servers (op.Write f bytes) d a
for_write servers f [] d a = (λ h. absurd (omega arith), λ h. absurd h)
for_write servers f (b ∷ bs) d a = (λ h. h.1, λ h. (omega arith, h))

for_append : (servers f : ℕ) (bytes : List ℕ) (d a : Answer) → ((0 < length bytes) × MayFailWrite d a) ↔ MayFail servers (op.Append f bytes) d a
for_append servers f [] d a = (λ h. absurd (omega arith), λ h. absurd h)
for_append servers f (b ∷ bs) d a = (λ h. h.1, λ h. (omega arith, h))

-- a test decides of a call what it decides of its bytes
by_bytes : (servers : ℕ) (o p : Op (List ℕ)) (bytes : List ℕ) (d a : Answer) (b : Bool) → o ≡ p
    → ((0 < length bytes) × MayFailWrite d a) ↔ MayFail servers p d a
    → (IsTrue b ↔ ((0 < length bytes) × MayFailWrite d a)) → IsTrue b ↔ MayFail servers o d a
by_bytes servers o p bytes d a b is same test = subst (λ x. IsTrue b ↔ MayFail servers x d a) (sym is) (λ h. same.0 (test.0 h), λ h. test.1 (same.1 h))

pub returns-in-Write : goal.returns-in-Write
returns-in-Write c =
    by_bytes c.args.servers c.args.op.now _ c.in-Write.bytes c.args.due.now c.args.answer.now _ c.in-Write.is
    (for_write c.args.servers c.in-Write.field-0 c.in-Write.bytes c.args.due.now c.args.answer.now) c.may_fail_write.ensures

pub returns-in-Append : goal.returns-in-Append
returns-in-Append c =
    by_bytes c.args.servers c.args.op.now _ c.in-Append.bytes c.args.due.now c.args.answer.now _ c.in-Append.is
    (for_append c.args.servers c.in-Append.field-0 c.in-Append.bytes c.args.due.now c.args.answer.now) c.may_fail_write-in-Append.ensures
