-- What calls on handles and bytes leave and answer, and each refusal.
use Rattle.std.proofs.Common.{◌≡◌, ℕ, ◌+◌, ◌-◌, ◌≤◌, ◌<◌, nat_le, Bool, true, false, List, [], ◌∷◌, ◌++◌, length, Option, Some, None, Ok, Err, Result, if◌then◌else◌, refl, ap, ◌∙◌, arith}
use Rattle.std.proofs.lemmas.Bool.{le-leb, lt-leb}
use Rattle.std.specs.FinMap.{get, remove}
use Rattle.wtf_model.specs.declared.answer.Word.{Word}
use Rattle.wtf_model.specs.declared.answer.Word.TheVariants.{NoHandle, TooBig, Range}
use Rattle.wtf_model.specs.declared.answer.Answer.TheVariants as answer
use Rattle.wtf_model.specs.declared.op.Op.TheVariants as op
use Rattle.wtf_model.specs.declared.op.Seek.{Seek}
use Rattle.wtf_model.specs.declared.op.Seek.TheVariants as to
use Rattle.wtf_model.specs.Tree.{TreeNode, ◌>>=◌}
use Rattle.wtf_model.specs.Session.{Session, Handle}
use Rattle.wtf_model.specs.Done.{Done, done, open_handle, fits, in_range, bytes_of_handle, moved, set_bytes, part}
use Rattle.wtf_model.specs.NameCalls.{stat, shown_node}
use Rattle.wtf_model.specs.HandleCalls.{close, seek, tell, lands}
use Rattle.wtf_model.specs.ByteCalls.{read, write, append, truncate, punch, written, resized, zeroed}
use Rattle.wtf_model.specs.Call.{call, or_refused}
use Rattle.wtf_model.specs.Examples.{unchanged}
use Rattle.wtf_model.proofs.CallLaws.{call-write, call-write_none, call-write_too_big}

module _ (cap : ℕ) (s : Session) (f : ℕ) where
  -- a handle that is not open
  pub close-none : get s.handles f ≡ None → call cap s (op.Close f) ≡ unchanged s (answer.Refused NoHandle)
  unfolding close
  close-none e = ap (λ o. or_refused s (open_handle o >>= (λ h. done (record s { handles = remove s.handles f }) answer.Okay))) e

  pub tell-none : get s.handles f ≡ None → call cap s (op.Tell f) ≡ unchanged s (answer.Refused NoHandle)
  unfolding tell
  tell-none e = ap (λ o. or_refused s (open_handle o >>= (λ h. done s (answer.At h.off)))) e

  pub seek-none : (place : Seek) → get s.handles f ≡ None → call cap s (op.Seek f place) ≡ unchanged s (answer.Refused NoHandle)
  unfolding seek
  seek-none (to.Set n) e = ap (λ o. or_refused s (open_handle o >>= (λ h. in_range cap n >>= (λ _. done (moved s f h n) answer.Okay)))) e
  seek-none (to.Fwd n) e = ap (λ o. or_refused s (open_handle o >>= (λ h. in_range cap (h.off + n) >>= (λ _. done (moved s f h (h.off + n)) answer.Okay)))) e
  seek-none (to.Back n) e = ap (λ o. or_refused s (open_handle o >>= (λ h. in_range h.off n >>= (λ _. done (moved s f h (h.off - n)) answer.Okay)))) e
  seek-none to.End e = ap (λ o. or_refused s (open_handle o >>= (λ h. done (moved s f h (length (bytes_of_handle s h))) answer.Okay))) e

  pub read-none : (n : ℕ) → get s.handles f ≡ None → call cap s (op.Read f n) ≡ unchanged s (answer.Refused NoHandle)
  unfolding read
  read-none n e = ap (λ o. or_refused s (open_handle o >>= (λ h. done (moved s f h (h.off + length (part h.off n (bytes_of_handle s h)))) (answer.Shown (part h.off n (bytes_of_handle s h)))))) e

  pub write-none : (bytes : List ℕ) → get s.handles f ≡ None → call cap s (op.Write f bytes) ≡ unchanged s (answer.Refused NoHandle)
  unfolding write
  write-none [] e = ap (λ o. or_refused s (open_handle o >>= (λ h. done s answer.Okay))) e
  write-none (b ∷ bs) e = ap (λ o. or_refused s (open_handle o >>= (λ h. fits cap (h.off + length (b ∷ bs)) >>= (λ _. done (moved (set_bytes s h.path (written (bytes_of_handle s h) h.off (b ∷ bs))) f h (h.off + length (b ∷ bs))) answer.Okay)))) e

  pub append-none : (bytes : List ℕ) → get s.handles f ≡ None → call cap s (op.Append f bytes) ≡ unchanged s (answer.Refused NoHandle)
  unfolding append
  append-none bytes e = ap (λ o. or_refused s (open_handle o >>= (λ h. fits cap (length (bytes_of_handle s h) + length bytes) >>= (λ _. done (set_bytes s h.path (bytes_of_handle s h ++ bytes)) answer.Okay)))) e

  pub truncate-none : (n : ℕ) → get s.handles f ≡ None → call cap s (op.Truncate f n) ≡ unchanged s (answer.Refused NoHandle)
  unfolding truncate
  truncate-none n e = ap (λ o. or_refused s (open_handle o >>= (λ h. fits cap n >>= (λ _. done (set_bytes s h.path (resized (bytes_of_handle s h) n)) answer.Okay)))) e

  pub punch-none : (n : ℕ) → get s.handles f ≡ None → call cap s (op.Punch f n) ≡ unchanged s (answer.Refused NoHandle)
  unfolding punch
  punch-none n e = ap (λ o. or_refused s (open_handle o >>= (λ h. done (set_bytes s h.path (zeroed (bytes_of_handle s h) h.off n)) answer.Okay))) e

  module _ (h : Handle) (there : get s.handles f ≡ Some h) where
    pub close-open : call cap s (op.Close f) ≡ record { session = record s { handles = remove s.handles f }; answer = answer.Okay }
    unfolding close
    close-open = ap (λ o. or_refused s (open_handle o >>= (λ h. done (record s { handles = remove s.handles f }) answer.Okay))) there

    pub tell-open : call cap s (op.Tell f) ≡ unchanged s (answer.At h.off)
    unfolding tell
    tell-open = ap (λ o. or_refused s (open_handle o >>= (λ h. done s (answer.At h.off)))) there

    -- a seek that leads to a place, or to none
    abbrev pub sought : Option ℕ → Done
    sought (Some n) = record { session = moved s f h n; answer = answer.Okay }
    sought None = unchanged s (answer.Refused Range)

    tested : (b : Bool) (n : ℕ) → (let r : Result (Unit {0}) Word = if b then Ok tt else Err Range in or_refused s (r >>= (λ _. done (moved s f h n) answer.Okay))) ≡ sought (if b then Some n else None)
    tested true n = refl
    tested false n = refl

    pub seek-open : (place : Seek) → call cap s (op.Seek f place) ≡ sought (lands cap (length (bytes_of_handle s h)) h.off place)
    unfolding seek
    seek-open (to.Set n) = ap (λ o. or_refused s (open_handle o >>= (λ h. in_range cap n >>= (λ _. done (moved s f h n) answer.Okay)))) there ∙ tested (nat_le n cap) n
    seek-open (to.Fwd n) = ap (λ o. or_refused s (open_handle o >>= (λ h. in_range cap (h.off + n) >>= (λ _. done (moved s f h (h.off + n)) answer.Okay)))) there ∙ tested (nat_le (h.off + n) cap) (h.off + n)
    seek-open (to.Back n) = ap (λ o. or_refused s (open_handle o >>= (λ h. in_range h.off n >>= (λ _. done (moved s f h (h.off - n)) answer.Okay)))) there ∙ tested (nat_le n h.off) (h.off - n)
    seek-open to.End = ap (λ o. or_refused s (open_handle o >>= (λ h. done (moved s f h (length (bytes_of_handle s h))) answer.Okay))) there

    pub truncate-open : (n : ℕ) → n ≤ cap → call cap s (op.Truncate f n) ≡ record { session = set_bytes s h.path (resized (bytes_of_handle s h) n); answer = answer.Okay }
    unfolding truncate
    truncate-open n fit =
        ap (λ o. or_refused s (open_handle o >>= (λ h. fits cap n >>= (λ _. done (set_bytes s h.path (resized (bytes_of_handle s h) n)) answer.Okay)))) there
        ∙ ap (λ v. or_refused s ((if v then Ok tt else Err TooBig) >>= (λ _. done (set_bytes s h.path (resized (bytes_of_handle s h) n)) answer.Okay))) (le-leb n cap fit)

    pub truncate-big : (n : ℕ) → cap < n → call cap s (op.Truncate f n) ≡ unchanged s (answer.Refused TooBig)
    unfolding truncate
    truncate-big n past =
        ap (λ o. or_refused s (open_handle o >>= (λ h. fits cap n >>= (λ _. done (set_bytes s h.path (resized (bytes_of_handle s h) n)) answer.Okay)))) there
        ∙ ap (λ v. or_refused s ((if v then Ok tt else Err TooBig) >>= (λ _. done (set_bytes s h.path (resized (bytes_of_handle s h) n)) answer.Okay))) (lt-leb n cap past)

    pub punch-open : (n : ℕ) → call cap s (op.Punch f n) ≡ record { session = set_bytes s h.path (zeroed (bytes_of_handle s h) h.off n); answer = answer.Okay }
    unfolding punch
    punch-open n = ap (λ o. or_refused s (open_handle o >>= (λ h. done (set_bytes s h.path (zeroed (bytes_of_handle s h) h.off n)) answer.Okay))) there

-- what stands at a path
pub stat-at : (cap : ℕ) (s : Session) (p : List ℕ) (o : Option TreeNode) → get s.tree p ≡ o → call cap s (op.Stat p) ≡ or_refused s (shown_node o >>= (λ shown. done s shown))
unfolding stat
stat-at cap s p o e = ap (λ v. or_refused s (shown_node v >>= (λ shown. done s shown))) e

-- writes and appends

module _ (cap : ℕ) (s : Session) (f : ℕ) (h : Handle) (there : get s.handles f ≡ Some h) where
  pub write-open : (bytes : List ℕ) → 0 < length bytes → h.off + length bytes ≤ cap
      → call cap s (op.Write f bytes) ≡ record { session = moved (set_bytes s h.path (written (bytes_of_handle s h) h.off bytes)) f h (h.off + length bytes); answer = answer.Okay }
  write-open [] some fit = absurd (omega arith)
  write-open (b ∷ bs) some fit = call-write cap s f b bs h there fit

  pub write-nothing : (bytes : List ℕ) → length bytes ≡ 0 → call cap s (op.Write f bytes) ≡ unchanged s answer.Okay
  write-nothing [] none = call-write_none cap s f h there
  write-nothing (b ∷ bs) none = absurd (omega arith)

  pub write-big : (bytes : List ℕ) → 0 < length bytes → cap < h.off + length bytes → call cap s (op.Write f bytes) ≡ unchanged s (answer.Refused TooBig)
  write-big [] some past = absurd (omega arith)
  write-big (b ∷ bs) some past = call-write_too_big cap s f b bs h there past

  pub append-open : (bytes : List ℕ) → length (bytes_of_handle s h) + length bytes ≤ cap → call cap s (op.Append f bytes) ≡ record { session = set_bytes s h.path (bytes_of_handle s h ++ bytes); answer = answer.Okay }
  unfolding append
  append-open bytes fit =
      ap (λ o. or_refused s (open_handle o >>= (λ h. fits cap (length (bytes_of_handle s h) + length bytes) >>= (λ _. done (set_bytes s h.path (bytes_of_handle s h ++ bytes)) answer.Okay)))) there
      ∙ ap (λ v. or_refused s ((if v then Ok tt else Err TooBig) >>= (λ _. done (set_bytes s h.path (bytes_of_handle s h ++ bytes)) answer.Okay))) (le-leb (length (bytes_of_handle s h) + length bytes) cap fit)

  pub append-big : (bytes : List ℕ) → cap < length (bytes_of_handle s h) + length bytes → call cap s (op.Append f bytes) ≡ unchanged s (answer.Refused TooBig)
  unfolding append
  append-big bytes past =
      ap (λ o. or_refused s (open_handle o >>= (λ h. fits cap (length (bytes_of_handle s h) + length bytes) >>= (λ _. done (set_bytes s h.path (bytes_of_handle s h ++ bytes)) answer.Okay)))) there
      ∙ ap (λ v. or_refused s ((if v then Ok tt else Err TooBig) >>= (λ _. done (set_bytes s h.path (bytes_of_handle s h ++ bytes)) answer.Okay))) (lt-leb (length (bytes_of_handle s h) + length bytes) cap past)
