-- Answers in form: those that a line can spell. A number has the width of its kind, a byte is one, a name is one that a
-- path may have, a path keeps the rules of paths, and a label is one that a client or a job can have. Two answers in form
-- of one text say the same.
use Rattle.std.specs.Prelude.{◌^◌, ◌<◌, ◌≤◌, All, IfSome, Result, Ok, Err}
use Rattle.hex.specs.Hex.{IsBytes}
use Rattle.wtf_path.specs.Grammar.{IsName, IsPath}
use Rattle.wtf_model.specs.declared.answer.Kind.{Kind}
use Rattle.wtf_model.specs.declared.answer.Kind.TheVariants as kind
use Rattle.wtf_model.specs.declared.event.Holder.{Holder}
use Rattle.wtf_model.specs.declared.event.Holder.TheVariants as holder
use Rattle.wtf_model.specs.declared.lists.Row.{Row}
use Rattle.wtf_model.specs.declared.limits.TheConstants.{MAX_CLIENTS, MAX_JOBS}
use Rattle.wtf_model.specs.declared.answer.Answer.{Answer, Aborted'}
use Rattle.wtf_model.specs.declared.answer.Answer.TheVariants as answer
use Rattle.wtf_model.specs.Same.{AreSame}
use Rattle.wtf_model.specs.Steps.{IsLogged}
use Rattle.wtf_print.specs.declared.error.TextError.{TextError}
use Rattle.wtf_print.specs.declared.error.TextError.TheVariants as text_error

-- a row of a shown tree: a path, and the length of a file
abbrev pub IsRow : Row → Type 0
IsRow r = IsPath r.path × IfSome r.len (λ n. n < 2 ^ 64)

-- the label of a client or a job
abbrev pub IsHolder : Holder → Type 0
IsHolder (holder.Client c) = c < MAX_CLIENTS
IsHolder (holder.Job j) = j < MAX_JOBS

-- what is wrong with a line; a path has the refusals 1 to 6
abbrev pub IsKind : Kind → Type 0
IsKind (kind.Path n) = (1 ≤ n) × (n ≤ 6)
IsKind k = Unit {0}

-- an answer in form that holds no other
abbrev pub IsPlain : Answer → Type 0
IsPlain (answer.Begun n) = n < 2 ^ 64
IsPlain (answer.Shown bytes) = IsBytes bytes
IsPlain (answer.At n) = n < 2 ^ 64
IsPlain (answer.Len n) = n < 2 ^ 64
IsPlain (answer.File n links) = (n < 2 ^ 64) × (1 ≤ links) × (links < 2 ^ 64)
IsPlain (answer.Names names) = All IsName names
IsPlain (answer.Committed n) = n < 2 ^ 64
IsPlain (answer.Retry base now) = (base < 2 ^ 64) × (now < 2 ^ 64)
IsPlain (answer.Replayed i) = i < 2 ^ 32
IsPlain (Aborted' i box a) = ⊥
IsPlain (answer.Installed n) = n < 2 ^ 64
IsPlain (answer.Stale base now) = (base < 2 ^ 64) × (now < 2 ^ 64)
IsPlain (answer.Held h) = IsHolder h
IsPlain (answer.More n) = n < 2 ^ 8
IsPlain (answer.Collected n) = n < 2 ^ 64
IsPlain (answer.Saved n) = n < 2 ^ 64
IsPlain (answer.Tree rows) = All IsRow rows
IsPlain (answer.FaultRead k) = k < 2 ^ 8
IsPlain (answer.FaultPunch k) = k < 2 ^ 8
IsPlain (answer.Damaged k) = k < 2 ^ 8
IsPlain (answer.Bad k) = IsKind k
IsPlain a = Unit {0}

-- an answer in form: `aborted` holds the answer of a call, and no other
abbrev pub IsWritable : Answer → Type 0
IsWritable (Aborted' i box a) = (i < 2 ^ 32) × IsLogged a × IsPlain a
IsWritable a = IsPlain a

-- an answer is given, and says what this one does, unless memory ran out
abbrev pub GivesBack : Answer → Result Answer TextError → Type 0
GivesBack a (Ok b) = AreSame a b
GivesBack a (Err text_error.NotAnAnswer) = ⊥
GivesBack a (Err text_error.Memory) = Unit {0}
