-- What the machine finds of an answer to a line of a client that has a transaction.
use Rattle.std.specs.Prelude.{◌≡◌, ℕ, List, [], drop, if◌then◌else◌}
use Rattle.wtf_machine.specs.declared.begun.Begun.{Begun}
use Rattle.wtf_machine.specs.declared.begun.Verdict.{Verdict}
use Rattle.wtf_machine.specs.declared.begun.Verdict.TheVariants as verdict
use Rattle.wtf_machine.specs.declared.begun.Fate.{Fate}
use Rattle.wtf_machine.specs.declared.begun.Fate.TheVariants as fate
use Rattle.wtf_model.specs.declared.answer.Answer.{Answer, Aborted'}
use Rattle.wtf_model.specs.declared.answer.Answer.TheVariants as answer
use Rattle.wtf_model.specs.declared.op.Op.{Op}
use Rattle.wtf_model.specs.declared.item.Item.{Item}
use Rattle.wtf_model.specs.Tree.{Tree}
use Rattle.wtf_model.specs.Items.{writes_of}
use Rattle.wtf_model.specs.Transaction.{Transaction, session_after}
use Rattle.wtf_model.specs.Steps.{Machine, cap_of, is_logged, logged}
use Rattle.wtf_machine.specs.Logs.{ops_of, shown_of}

-- a transaction as it is kept, without what others have changed since it began
abbrev pub transaction_in : Begun → Transaction
transaction_in b = record {
  stamp = b.stamp;
  base = b.base;
  tree = b.tree;
  ops = ops_of b.calls.items;
  shown = shown_of b.calls.items;
  replayed = b.replayed;
  touched = [];
}

-- the same, where others have changed these items since
abbrev pub seen_in : List Item → Begun → Transaction
seen_in items b = record (transaction_in b) { touched = items }

-- of all items that were changed, one after another, those that came since it began
abbrev pub open_in : List Item → Begun → Transaction
open_in changed b = seen_in (drop b.since changed) b

-- a machine whose files may be as long as cap, with so many servers
abbrev pub RunsWith : ℕ → ℕ → Machine → Type 0
RunsWith cap servers m = (cap_of m ≡ cap) × (m.settings.servers ≡ servers)

-- a transaction after a call that was answered so
abbrev pub called_on : Transaction → Op (List ℕ) → Answer → Transaction
called_on t o a = if is_logged a then logged t o a else t

-- and after a step of its replay
abbrev pub stepped_on : Transaction → Answer → Transaction
stepped_on t (answer.Replayed i) = record t { replayed = i }
stepped_on t a = t

-- an answer that ends a transaction with no install
abbrev pub IsAborting : Answer → Type 0
IsAborting (Aborted' i box a) = Unit {0}
IsAborting a = ⊥

-- an answer that installs, with the tree that it leaves and the items that it changes
abbrev pub IsInstalling : Machine → Transaction → Tree → List Item → Answer → Type 0
IsInstalling m t tree items (answer.Committed n) = (tree ≡ (session_after (cap_of m) m.now t.ops).tree) × (items ≡ writes_of (cap_of m) m.now t.ops)
IsInstalling m t tree items a = ⊥

-- an answer that rebases
abbrev pub IsRebasing : Answer → Type 0
IsRebasing (answer.Retry base now) = Unit {0}
IsRebasing a = ⊥

-- an answer that leaves all as it is
abbrev pub IsIdle : Answer → Type 0
IsIdle (answer.Committed n) = ⊥
IsIdle (answer.Retry base now) = ⊥
IsIdle (Aborted' i box a) = ⊥
IsIdle a = Unit {0}

-- Where `Lawful` says that the answer is one that may be given: it is none; or the transaction goes on; or it has ended.
abbrev pub IsVerdict : Type 0 → Transaction → Transaction → Answer → Verdict → Type 0
IsVerdict Lawful old new a verdict.Unlawful = (Lawful → ⊥) × (new ≡ old)
IsVerdict Lawful old new a verdict.Goes = Lawful × (new ≡ stepped_on old a) × (IsAborting a → ⊥)
IsVerdict Lawful old new a verdict.Ends = Lawful × IsAborting a

-- the same of an attempt to commit, which may also install or rebase
abbrev pub IsFate : Type 0 → Machine → Transaction → Answer → Fate → Type 0
IsFate Lawful m t a fate.Unlawful = Lawful → ⊥
IsFate Lawful m t a fate.Stays = Lawful × IsIdle a
IsFate Lawful m t a fate.Ends = Lawful × IsAborting a
IsFate Lawful m t a fate.Rebases = Lawful × IsRebasing a
IsFate Lawful m t a (fate.Installs tree items) = Lawful × IsInstalling m t tree items.items a
