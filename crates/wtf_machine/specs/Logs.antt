-- Open transactions as the machine keeps them, and what running their calls anew comes to.
use Rattle.std.specs.Prelude.{◌≡◌, ℕ, List, map, take, Option, Some, None}
use Rattle.std.proofs.Props.{props}
use Rattle.std.specs.Coded.{Coded-set}
use Rattle.wtf_machine.specs.Coded.{session_code}
use Rattle.wtf_machine.specs.declared.workspace.Workspace.{Workspace}
use Rattle.wtf_machine.specs.declared.log.Logged.{Logged}
use Rattle.wtf_machine.specs.declared.log.Outcome.{Outcome}
use Rattle.wtf_machine.specs.declared.log.Outcome.TheVariants as outcome
use Rattle.wtf_model.specs.declared.answer.Answer.{Answer}
use Rattle.wtf_model.specs.declared.op.Op.{Op}
use Rattle.wtf_model.specs.Tree.{Tree}
use Rattle.wtf_model.specs.Transaction.{session_after, answers_of}
use Rattle.wtf_model.specs.Lawful.{Deviates}
use Rattle.wtf_machine.specs.Sessions.{session_in}

-- logged calls, and what was shown of each
abbrev pub ops_of : List Logged → List (Op (List ℕ))
ops_of calls = map (λ l. l.op) calls

abbrev pub shown_of : List Logged → List Answer
shown_of calls = map (λ l. l.shown) calls

-- run on a tree, calls answer what was shown, or deviate at one
abbrev pub IsOutcome : ℕ → Tree → List (Op (List ℕ)) → List Answer → Outcome → Type 0
IsOutcome cap tree ops shown (outcome.Same w) = (answers_of cap tree ops ≡ shown) × (session_in w ≡ session_after cap tree ops)
IsOutcome cap tree ops shown (outcome.Differs i a) = Deviates (answers_of cap tree ops) shown i a

-- a session that is kept is that of the calls that were replayed
abbrev pub IsWarm : ℕ → Tree → List (Op (List ℕ)) → ℕ → Option Workspace → Type 0
IsWarm cap tree ops replayed None = Unit {0}
IsWarm cap tree ops replayed (Some w) = session_in w ≡ session_after cap tree (take replayed ops)

pub IsWarm_prop : (cap : ℕ) (tree : Tree) (ops : List (Op (List ℕ))) (replayed : ℕ) (warm : Option Workspace) → IsProp (IsWarm cap tree ops replayed warm)
IsWarm_prop cap tree ops replayed None = hlevel props
IsWarm_prop cap tree ops replayed (Some w) = Coded-set session_code (session_in w) (session_after cap tree (take replayed ops))
