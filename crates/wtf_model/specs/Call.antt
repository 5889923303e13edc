-- A call of a transaction: one row a verb.
-- NSDI 2016, section 2.3 (the calls of the file API, here on lists of bytes).
use Rattle.std.specs.Prelude.{ℕ, List, Result, Ok, Err}
use Rattle.wtf_model.specs.declared.answer.Word.{Word}
use Rattle.wtf_model.specs.declared.answer.Answer.TheVariants.{Refused}
use Rattle.wtf_model.specs.declared.op.Op.{Op}
use Rattle.wtf_model.specs.declared.op.Op.TheVariants as op
use Rattle.wtf_model.specs.Session.{Session}
use Rattle.wtf_model.specs.NameCalls.{mkdir, create, rmdir, unlink, rename, link, list, stat}
use Rattle.wtf_model.specs.HandleCalls.{open_file, close, seek, tell}
use Rattle.wtf_model.specs.ByteCalls.{read, write, append, truncate, punch}
use Rattle.wtf_model.specs.SliceCalls.{yank, peek, cut, paste, glue, concat, copy}
pub use Rattle.wtf_model.specs.Done.{Done, bytes_at, moved, set_bytes}
pub use Rattle.wtf_model.specs.ByteCalls.{written}

abbrev pub row_of : ℕ → Session → Op (List ℕ) → Result Done Word
row_of cap s (op.Mkdir p) = mkdir s p
row_of cap s (op.Rmdir p) = rmdir s p
row_of cap s (op.Create p) = create s p
row_of cap s (op.Unlink p) = unlink s p
row_of cap s (op.Rename p q) = rename s p q
row_of cap s (op.Link p q) = link s p q
row_of cap s (op.List p) = list s p
row_of cap s (op.Stat p) = stat s p
row_of cap s (op.Open f p) = open_file s f p
row_of cap s (op.Close f) = close s f
row_of cap s (op.Seek f place) = seek cap s f place
row_of cap s (op.Tell f) = tell s f
row_of cap s (op.Read f n) = read s f n
row_of cap s (op.Write f bytes) = write cap s f bytes
row_of cap s (op.Append f bytes) = append cap s f bytes
row_of cap s (op.Truncate f n) = truncate cap s f n
row_of cap s (op.Punch f n) = punch s f n
row_of cap s (op.Yank f n label) = yank s f n label
row_of cap s (op.Peek label off n) = peek s label off n
row_of cap s (op.Cut label off n made) = cut s label off n made
row_of cap s (op.Paste f label) = paste cap s f label
row_of cap s (op.Glue f label) = glue cap s f label
row_of cap s (op.Concat q paths) = concat cap s q paths
row_of cap s (op.Copy p q) = copy s p q

-- a refusal is the answer, and leaves the session
abbrev pub or_refused : Session → Result Done Word → Done
or_refused s (Ok d) = d
or_refused s (Err w) = record { session = s; answer = Refused w }

-- a call, where no file may be longer than cap
abbrev pub call : ℕ → Session → Op (List ℕ) → Done
call cap s o = or_refused s (row_of cap s o)
