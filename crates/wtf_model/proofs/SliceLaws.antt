-- What calls on slices leave and answer, and each refusal.
use Rattle.std.proofs.Common.{◌≡◌, ℕ, ◌+◌, ◌≤◌, ◌<◌, List, length, Some, None, Ok, Err, Result, if◌then◌else◌, ap, ◌∙◌}
use Rattle.std.proofs.lemmas.Bool.{le-leb, lt-leb}
use Rattle.std.specs.FinMap.{get}
use Rattle.wtf_model.specs.declared.answer.Word.{Word}
use Rattle.wtf_model.specs.declared.answer.Word.TheVariants.{NoHandle, NoSlice, TooBig, Range}
use Rattle.wtf_model.specs.declared.answer.Answer.TheVariants as answer
use Rattle.wtf_model.specs.declared.op.Op.TheVariants as op
use Rattle.wtf_model.specs.Tree.{◌>>=◌, target, source, sources}
use Rattle.wtf_model.specs.Session.{Session, Handle}
use Rattle.wtf_model.specs.Done.{done, open_handle, known_slice, fits, in_range, bytes_of_handle, moved, add_file, put_slice, part}
use Rattle.wtf_model.specs.ByteCalls.{write, append}
use Rattle.wtf_model.specs.SliceCalls.{yank, peek, cut, paste, glue, concat, copy}
use Rattle.wtf_model.specs.Call.{call, or_refused}
use Rattle.wtf_model.specs.Examples.{unchanged}

module _ (cap : ℕ) (s : Session) where
  -- a slice out of a file
  pub yank-none : (f n label : ℕ) → get s.handles f ≡ None → call cap s (op.Yank f n label) ≡ unchanged s (answer.Refused NoHandle)
  unfolding yank
  yank-none f n label e = ap (λ o. or_refused s (open_handle o >>= (λ h.
      done (put_slice (moved s f h (h.off + length (part h.off n (bytes_of_handle s h)))) label (part h.off n (bytes_of_handle s h))) (answer.Len (length (part h.off n (bytes_of_handle s h))))))) e

  pub yank-open : (f n label : ℕ) (h : Handle) → get s.handles f ≡ Some h → call cap s (op.Yank f n label) ≡ record {
    session = put_slice (moved s f h (h.off + length (part h.off n (bytes_of_handle s h)))) label (part h.off n (bytes_of_handle s h));
    answer = answer.Len (length (part h.off n (bytes_of_handle s h)));
  }
  unfolding yank
  yank-open f n label h e = ap (λ o. or_refused s (open_handle o >>= (λ h.
      done (put_slice (moved s f h (h.off + length (part h.off n (bytes_of_handle s h)))) label (part h.off n (bytes_of_handle s h))) (answer.Len (length (part h.off n (bytes_of_handle s h))))))) e

  -- a part of a slice
  pub peek-none : (label off n : ℕ) → get s.slices label ≡ None → call cap s (op.Peek label off n) ≡ unchanged s (answer.Refused NoSlice)
  unfolding peek
  peek-none label off n e = ap (λ o. or_refused s (known_slice o >>= (λ bytes. in_range (length bytes) (off + n) >>= (λ _. done s (answer.Shown (part off n bytes)))))) e

  pub peek-past : (label off n : ℕ) (bytes : List ℕ) → get s.slices label ≡ Some bytes → length bytes < off + n → call cap s (op.Peek label off n) ≡ unchanged s (answer.Refused Range)
  unfolding peek
  peek-past label off n bytes e past =
      ap (λ o. or_refused s (known_slice o >>= (λ bytes. in_range (length bytes) (off + n) >>= (λ _. done s (answer.Shown (part off n bytes)))))) e
      ∙ ap (λ v. or_refused s ((if v then Ok tt else Err Range) >>= (λ _. done s (answer.Shown (part off n bytes))))) (lt-leb (off + n) (length bytes) past)

  pub peek-part : (label off n : ℕ) (bytes : List ℕ) → get s.slices label ≡ Some bytes → off + n ≤ length bytes → call cap s (op.Peek label off n) ≡ unchanged s (answer.Shown (part off n bytes))
  unfolding peek
  peek-part label off n bytes e within =
      ap (λ o. or_refused s (known_slice o >>= (λ bytes. in_range (length bytes) (off + n) >>= (λ _. done s (answer.Shown (part off n bytes)))))) e
      ∙ ap (λ v. or_refused s ((if v then Ok tt else Err Range) >>= (λ _. done s (answer.Shown (part off n bytes))))) (le-leb (off + n) (length bytes) within)

  pub cut-none : (label off n made : ℕ) → get s.slices label ≡ None → call cap s (op.Cut label off n made) ≡ unchanged s (answer.Refused NoSlice)
  unfolding cut
  cut-none label off n made e = ap (λ o. or_refused s (known_slice o >>= (λ bytes. in_range (length bytes) (off + n) >>= (λ _. done (put_slice s made (part off n bytes)) answer.Okay)))) e

  pub cut-past : (label off n made : ℕ) (bytes : List ℕ) → get s.slices label ≡ Some bytes → length bytes < off + n → call cap s (op.Cut label off n made) ≡ unchanged s (answer.Refused Range)
  unfolding cut
  cut-past label off n made bytes e past =
      ap (λ o. or_refused s (known_slice o >>= (λ bytes. in_range (length bytes) (off + n) >>= (λ _. done (put_slice s made (part off n bytes)) answer.Okay)))) e
      ∙ ap (λ v. or_refused s ((if v then Ok tt else Err Range) >>= (λ _. done (put_slice s made (part off n bytes)) answer.Okay))) (lt-leb (off + n) (length bytes) past)

  pub cut-part : (label off n made : ℕ) (bytes : List ℕ) → get s.slices label ≡ Some bytes → off + n ≤ length bytes
      → call cap s (op.Cut label off n made) ≡ record { session = put_slice s made (part off n bytes); answer = answer.Okay }
  unfolding cut
  cut-part label off n made bytes e within =
      ap (λ o. or_refused s (known_slice o >>= (λ bytes. in_range (length bytes) (off + n) >>= (λ _. done (put_slice s made (part off n bytes)) answer.Okay)))) e
      ∙ ap (λ v. or_refused s ((if v then Ok tt else Err Range) >>= (λ _. done (put_slice s made (part off n bytes)) answer.Okay))) (le-leb (off + n) (length bytes) within)

  -- a slice that is laid over a file is a write of its bytes
  pub paste-none : (f label : ℕ) → get s.handles f ≡ None → call cap s (op.Paste f label) ≡ unchanged s (answer.Refused NoHandle)
  unfolding paste
  paste-none f label e = ap (λ o. or_refused s (open_handle o >>= (λ _. known_slice (get s.slices label) >>= (λ bytes. write cap s f bytes)))) e

  pub paste-unset : (f label : ℕ) (h : Handle) → get s.handles f ≡ Some h → get s.slices label ≡ None → call cap s (op.Paste f label) ≡ unchanged s (answer.Refused NoSlice)
  unfolding paste
  paste-unset f label h e none =
      ap (λ o. or_refused s (open_handle o >>= (λ _. known_slice (get s.slices label) >>= (λ bytes. write cap s f bytes)))) e
      ∙ ap (λ o. or_refused s (known_slice o >>= (λ bytes. write cap s f bytes))) none

  pub paste-write : (f label : ℕ) (h : Handle) (bytes : List ℕ) → get s.handles f ≡ Some h → get s.slices label ≡ Some bytes → call cap s (op.Paste f label) ≡ call cap s (op.Write f bytes)
  unfolding paste
  paste-write f label h bytes e is =
      ap (λ o. or_refused s (open_handle o >>= (λ _. known_slice (get s.slices label) >>= (λ bytes. write cap s f bytes)))) e
      ∙ ap (λ o. or_refused s (known_slice o >>= (λ bytes. write cap s f bytes))) is

  -- and one that is added at its end is an append of them
  pub glue-none : (f label : ℕ) → get s.handles f ≡ None → call cap s (op.Glue f label) ≡ unchanged s (answer.Refused NoHandle)
  unfolding glue
  glue-none f label e = ap (λ o. or_refused s (open_handle o >>= (λ _. known_slice (get s.slices label) >>= (λ bytes. append cap s f bytes)))) e

  pub glue-unset : (f label : ℕ) (h : Handle) → get s.handles f ≡ Some h → get s.slices label ≡ None → call cap s (op.Glue f label) ≡ unchanged s (answer.Refused NoSlice)
  unfolding glue
  glue-unset f label h e none =
      ap (λ o. or_refused s (open_handle o >>= (λ _. known_slice (get s.slices label) >>= (λ bytes. append cap s f bytes)))) e
      ∙ ap (λ o. or_refused s (known_slice o >>= (λ bytes. append cap s f bytes))) none

  pub glue-append : (f label : ℕ) (h : Handle) (bytes : List ℕ) → get s.handles f ≡ Some h → get s.slices label ≡ Some bytes → call cap s (op.Glue f label) ≡ call cap s (op.Append f bytes)
  unfolding glue
  glue-append f label h bytes e is =
      ap (λ o. or_refused s (open_handle o >>= (λ _. known_slice (get s.slices label) >>= (λ bytes. append cap s f bytes)))) e
      ∙ ap (λ o. or_refused s (known_slice o >>= (λ bytes. append cap s f bytes))) is

  -- a file of others, by what it asks of the tree
  pub concat-by : (q : List ℕ) (paths : List (List ℕ)) (c : Result (Unit {0}) Word) (r : Result (List ℕ) Word) → target s.tree q ≡ c → sources s.tree paths ≡ r
      → call cap s (op.Concat q paths) ≡ or_refused s (c >>= (λ _. r >>= (λ bytes. fits cap (length bytes) >>= (λ _. done (add_file s q bytes) answer.Okay))))
  unfolding concat
  concat-by q paths c r e f =
      ap (λ z. or_refused s (z >>= (λ _. sources s.tree paths >>= (λ bytes. fits cap (length bytes) >>= (λ _. done (add_file s q bytes) answer.Okay))))) e
      ∙ ap (λ z. or_refused s (c >>= (λ _. z >>= (λ bytes. fits cap (length bytes) >>= (λ _. done (add_file s q bytes) answer.Okay))))) f

  pub concat-fits : (q : List ℕ) (paths : List (List ℕ)) (bytes : List ℕ) → target s.tree q ≡ Ok tt → sources s.tree paths ≡ Ok bytes → length bytes ≤ cap
      → call cap s (op.Concat q paths) ≡ record { session = add_file s q bytes; answer = answer.Okay }
  concat-fits q paths bytes e f fit =
      concat-by q paths (Ok tt) (Ok bytes) e f
      ∙ ap (λ v. or_refused s ((if v then Ok tt else Err TooBig) >>= (λ _. done (add_file s q bytes) answer.Okay))) (le-leb (length bytes) cap fit)

  pub concat-big : (q : List ℕ) (paths : List (List ℕ)) (bytes : List ℕ) → target s.tree q ≡ Ok tt → sources s.tree paths ≡ Ok bytes → cap < length bytes
      → call cap s (op.Concat q paths) ≡ unchanged s (answer.Refused TooBig)
  concat-big q paths bytes e f past =
      concat-by q paths (Ok tt) (Ok bytes) e f
      ∙ ap (λ v. or_refused s ((if v then Ok tt else Err TooBig) >>= (λ _. done (add_file s q bytes) answer.Okay))) (lt-leb (length bytes) cap past)

  pub copy-by : (p q : List ℕ) (r : Result (List ℕ) Word) (c : Result (Unit {0}) Word) → source s.tree p ≡ r → target s.tree q ≡ c
      → call cap s (op.Copy p q) ≡ or_refused s (r >>= (λ bytes. c >>= (λ _. done (add_file s q bytes) answer.Okay)))
  unfolding copy
  copy-by p q r c e f =
      ap (λ z. or_refused s (z >>= (λ bytes. target s.tree q >>= (λ _. done (add_file s q bytes) answer.Okay)))) e
      ∙ ap (λ z. or_refused s (r >>= (λ bytes. z >>= (λ _. done (add_file s q bytes) answer.Okay)))) f
