-- The calls on handles: what each does to its session, and what it answers. Refusals come in the order of the lines.
use Rattle.std.specs.Prelude.{ℕ, ◌+◌, ◌-◌, nat_le, if◌then◌else◌, List, length, Option, Some, None, Result}
use Rattle.std.specs.FinMap.{get, insert, remove}
use Rattle.wtf_model.specs.declared.answer.Word.{Word}
use Rattle.wtf_model.specs.declared.answer.Answer.TheVariants.{Okay, At}
use Rattle.wtf_model.specs.declared.op.Seek.{Seek}
use Rattle.wtf_model.specs.declared.op.Seek.TheVariants as to
use Rattle.wtf_model.specs.Tree.{◌>>=◌, source}
use Rattle.wtf_model.specs.Session.{Session}
use Rattle.wtf_model.specs.Done.{Done, done, handle_at, is_unused, in_range, moved, bytes_of_handle}

-- open F P: F is open on P at offset 0
unfoldable pub open_file : Session → ℕ → List ℕ → Result Done Word
open_file s f p = do
  _ ← is_unused (get s.handles f)
  _ ← source s.tree p
  done (record s { handles = insert s.handles f (record { path = p; off = 0 }) }) Okay

-- close F: F is closed
unfoldable pub close : Session → ℕ → Result Done Word
close s f = do
  _ ← handle_at s f
  done (record s { handles = remove s.handles f }) Okay

-- seek F: to N; N bytes on; N bytes back; to the end of the file
unfoldable pub seek : ℕ → Session → ℕ → Seek → Result Done Word
seek cap s f (to.Set n) = do
  h ← handle_at s f
  _ ← in_range cap n
  done (moved s f h n) Okay
seek cap s f (to.Fwd n) = do
  h ← handle_at s f
  _ ← in_range cap (h.off + n)
  done (moved s f h (h.off + n)) Okay
seek cap s f (to.Back n) = do
  h ← handle_at s f
  _ ← in_range h.off n
  done (moved s f h (h.off - n)) Okay
seek cap s f to.End = do
  h ← handle_at s f
  done (moved s f h (length (bytes_of_handle s h))) Okay

-- tell F: where F stands
unfoldable pub tell : Session → ℕ → Result Done Word
tell s f = do
  h ← handle_at s f
  done s (At h.off)

-- where a seek leads from an offset in a file of so many bytes; nowhere where that is below 0 or above the greatest length
abbrev pub lands : (cap len off : ℕ) → Seek → Option ℕ
lands cap len off (to.Set n) = if nat_le n cap then Some n else None
lands cap len off (to.Fwd n) = if nat_le (off + n) cap then Some (off + n) else None
lands cap len off (to.Back n) = if nat_le n off then Some (off - n) else None
lands cap len off to.End = Some len
