-- The calls on the bytes of files: what each does to its session, and what it answers. Refusals come in the order of the
-- lines.
use Rattle.std.specs.Prelude.{ℕ, ◌+◌, ◌-◌, min, List, [], ◌∷◌, ◌++◌, length, take, drop, replicate, Result}
use Rattle.wtf_model.specs.declared.answer.Word.{Word}
use Rattle.wtf_model.specs.declared.answer.Answer.TheVariants.{Okay, Shown}
use Rattle.wtf_model.specs.Tree.{◌>>=◌}
use Rattle.wtf_model.specs.Session.{Session}
use Rattle.wtf_model.specs.Done.{Done, done, handle_at, bytes_of_handle, part, fits, moved, set_bytes}

-- the bytes with new ones in their place at an offset, after zeros where the old ones end before it
abbrev pub written : List ℕ → ℕ → List ℕ → List ℕ
written old off new = take off old ++ replicate (off - length old) 0 ++ new ++ drop (off + length new) old

-- the first n bytes, with zeros behind them where there are fewer
abbrev pub resized : List ℕ → ℕ → List ℕ
resized old n = take n old ++ replicate (n - length old) 0

-- the bytes with zeros in place of n of them from an offset on, as far as they go
abbrev pub zeroed : List ℕ → ℕ → ℕ → List ℕ
zeroed old off n = take off old ++ replicate (min n (length old - off)) 0 ++ drop (off + n) old

-- read F N: the next N bytes, or those that are left; the offset grows by their number
unfoldable pub read : Session → ℕ → ℕ → Result Done Word
read s f n = do
  h ← handle_at s f
  let bytes = part h.off n (bytes_of_handle s h) in
      done (moved s f h (h.off + length bytes)) (Shown bytes)

-- write F DATA: the bytes replace the range at the offset, which grows by their number; no byte changes nothing
unfoldable pub write : ℕ → Session → ℕ → List ℕ → Result Done Word
write cap s f [] = do
  _ ← handle_at s f
  done s Okay
write cap s f (b ∷ bs) = do
  h ← handle_at s f
  _ ← fits cap (h.off + length (b ∷ bs))
  done (moved (set_bytes s h.path (written (bytes_of_handle s h) h.off (b ∷ bs))) f h (h.off + length (b ∷ bs))) Okay

-- append F DATA: the bytes are added at the end; the offset stays
unfoldable pub append : ℕ → Session → ℕ → List ℕ → Result Done Word
append cap s f bytes = do
  h ← handle_at s f
  _ ← fits cap (length (bytes_of_handle s h) + length bytes)
  done (set_bytes s h.path (bytes_of_handle s h ++ bytes)) Okay

-- truncate F N: the file is cut to N bytes, or padded up to N; the offset stays
unfoldable pub truncate : ℕ → Session → ℕ → ℕ → Result Done Word
truncate cap s f n = do
  h ← handle_at s f
  _ ← fits cap n
  done (set_bytes s h.path (resized (bytes_of_handle s h) n)) Okay

-- punch F N: N bytes from the offset on become zeros, as far as the file goes; the offset stays
unfoldable pub punch : Session → ℕ → ℕ → Result Done Word
punch s f n = do
  h ← handle_at s f
  done (set_bytes s h.path (zeroed (bytes_of_handle s h) h.off n)) Okay
