-- The calls on slices, and those that make a file of others: what each does to its session, and what it answers. Refusals
-- come in the order of the lines. NSDI 2016, section 2.5 (the slicing API, here on lists of bytes).
use Rattle.std.specs.Prelude.{ℕ, ◌+◌, List, length, Result}
use Rattle.wtf_model.specs.declared.answer.Word.{Word}
use Rattle.wtf_model.specs.declared.answer.Answer.TheVariants.{Okay, Shown, Len}
use Rattle.wtf_model.specs.Tree.{◌>>=◌, target, source, sources}
use Rattle.wtf_model.specs.Session.{Session}
use Rattle.wtf_model.specs.Done.{Done, done, handle_at, slice_at, bytes_of_handle, part, fits, in_range, moved, add_file, put_slice}
use Rattle.wtf_model.specs.ByteCalls.{write, append}

-- yank F N S: S is the bytes that a read would show; the offset grows by their number
unfoldable pub yank : Session → ℕ → ℕ → ℕ → Result Done Word
yank s f n label = do
  h ← handle_at s f
  let bytes = part h.off n (bytes_of_handle s h) in
      done (put_slice (moved s f h (h.off + length bytes)) label bytes) (Len (length bytes))

-- peek S OFF N: the part of S
unfoldable pub peek : Session → ℕ → ℕ → ℕ → Result Done Word
peek s label off n = do
  bytes ← slice_at s label
  _ ← in_range (length bytes) (off + n)
  done s (Shown (part off n bytes))

-- cut S OFF N T: T is the part of S
unfoldable pub cut : Session → ℕ → ℕ → ℕ → ℕ → Result Done Word
cut s label off n made = do
  bytes ← slice_at s label
  _ ← in_range (length bytes) (off + n)
  done (put_slice s made (part off n bytes)) Okay

-- paste F S: a write of the bytes of S
unfoldable pub paste : ℕ → Session → ℕ → ℕ → Result Done Word
paste cap s f label = do
  _ ← handle_at s f
  bytes ← slice_at s label
  write cap s f bytes

-- glue F S: the bytes of S are appended
unfoldable pub glue : ℕ → Session → ℕ → ℕ → Result Done Word
glue cap s f label = do
  _ ← handle_at s f
  bytes ← slice_at s label
  append cap s f bytes

-- concat Q P1 to Pk: a file at Q with all bytes of these files, in order
unfoldable pub concat : ℕ → Session → List ℕ → List (List ℕ) → Result Done Word
concat cap s q paths = do
  _ ← target s.tree q
  bytes ← sources s.tree paths
  _ ← fits cap (length bytes)
  done (add_file s q bytes) Okay

-- copy P Q: a file at Q with the bytes of P
unfoldable pub copy : Session → List ℕ → List ℕ → Result Done Word
copy s p q = do
  bytes ← source s.tree p
  _ ← target s.tree q
  done (add_file s q bytes) Okay
