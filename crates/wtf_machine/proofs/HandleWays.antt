-- Ways out of calls on handles and bytes: what is kept after each is what the call leaves.
use Rattle.std.proofs.Common.{
  ◌≡◌,
  ◌≢◌,
  ◌==◌,
  true,
  false,
  ℕ,
  ◌+◌,
  ◌≤◌,
  ◌<◌,
  List,
  ◌++◌,
  length,
  Option,
  Some,
  None,
  Ok,
  Bor,
  option_copied,
  sym,
  ap,
  subst,
  ◌∙◌,
  arith,
  refl,
}
use Rattle.std.proofs.lemmas.Bool.{eqb-false}
use Rattle.std.specs.Option.{is_some, option_map}
use Rattle.std.specs.FinMap.{FinMap, get, insert, remove}
use Rattle.std.specs.Ordering.{nat_cmp}
use Rattle.wtf_machine.specs.declared.labels.Cursor.{Cursor}
use Rattle.wtf_machine.specs.Maps.{handle_of}
use Rattle.wtf_model.specs.declared.answer.Answer.{Answer}
use Rattle.wtf_model.specs.declared.answer.Answer.TheVariants as answer
use Rattle.wtf_model.specs.declared.answer.Word.TheVariants.{TooBig, Range}
use Rattle.wtf_model.specs.declared.op.Op.TheVariants as op
use Rattle.wtf_model.specs.declared.op.Seek.{Seek}
use Rattle.wtf_model.specs.Tree.{source}
use Rattle.wtf_model.specs.Session.{Session, Handle}
use Rattle.wtf_model.specs.Done.{Done, bytes_at, bytes_of_handle, part, moved, set_bytes}
use Rattle.wtf_model.specs.HandleCalls.{lands}
use Rattle.wtf_model.specs.ByteCalls.{written, resized, zeroed}
use Rattle.wtf_model.specs.Call.{call}
use Rattle.wtf_model.specs.Examples.{unchanged}
use Rattle.wtf_model.proofs.CallLaws.{call-open, call-read}
use Rattle.wtf_model.proofs.ByteLaws.{close-open, seek-open, sought, write-open, append-open, append-big, truncate-open, punch-open}

-- bytes that a test has found to be some
pub some_bytes : (bytes : List ℕ) → false ≡ (length bytes == 0) → 0 < length bytes
some_bytes bytes tested = let other : length bytes ≢ 0 = eqb-false (length bytes) 0 (sym tested) in omega arith

-- what a test of a look-up says of a label: it is taken, or it is free
pub taken : (r : Option (Bor Cursor)) (o : Option Handle) → option_map handle_of (option_copied r) ≡ o → true ≡ is_some r → (h : Handle) × (o ≡ Some h)
taken (Some c) o is tested = (handle_of c.now, sym is)
taken None o is tested = absurd (cc)

pub free : (r : Option (Bor Cursor)) (o : Option Handle) → option_map handle_of (option_copied r) ≡ o → false ≡ is_some r → o ≡ None
free (Some c) o is tested = absurd (cc)
free None o is tested = sym is

-- a label stands for another handle now
abbrev pub IsSet : Session → ℕ → List ℕ → ℕ → FinMap nat_cmp Handle → Type 0
IsSet s f p off hs = hs ≡ insert s.handles f (record { path = p; off = off })

-- the same session, where a handle was set with a copy of the path, or bytes were put at one
set_as : (s : Session) (f : ℕ) (p q : List ℕ) (m n : ℕ) (hs : FinMap nat_cmp Handle) (a : Answer) → IsSet s f q n hs → q ≡ p → n ≡ m
    → record { session = record s { handles = insert s.handles f (record { path = p; off = m }) }; answer = a }
    ≡ (let d : Done = record { session = record s { handles = hs }; answer = a } in d)
set_as s f p q m n hs a set copied at = cc

put_as : (s new : Session) (p q bytes made : List ℕ) (a : Answer) → new ≡ set_bytes s q made → q ≡ p → made ≡ bytes
    → record { session = set_bytes s p bytes; answer = a } ≡ (let d : Done = record { session = new; answer = a } in d)
put_as s new p q bytes made a put copied is = cc

-- a handle that was open is closed
pub close_in : (cap : ℕ) (s : Session) (f : ℕ) (h : Handle) (hs : FinMap nat_cmp Handle) → Some h ≡ get s.handles f → hs ≡ remove s.handles f
    → call cap s (op.Close f) ≡ record { session = record s { handles = hs }; answer = answer.Okay }
close_in cap s f h hs there gone =
    close-open cap s f h (sym there)
    ∙ ap (λ (x : FinMap nat_cmp Handle). let d : Done = record { session = record s { handles = x }; answer = answer.Okay } in d) (sym gone)

-- a file was opened
pub open_in : (cap : ℕ) (s : Session) (f : ℕ) (p q : List ℕ) (hs : FinMap nat_cmp Handle) → get s.handles f ≡ None → source s.tree p ≡ Ok (bytes_at s.tree p)
    → q ≡ p → IsSet s f q 0 hs → call cap s (op.Open f p) ≡ record { session = record s { handles = hs }; answer = answer.Okay }
open_in cap s f p q hs unused file copied set = call-open cap s f p (bytes_at s.tree p) unused file ∙ set_as s f p q 0 0 hs answer.Okay set copied refl

-- a handle of a label, whose file's bytes were read
module _ (cap : ℕ) (s : Session) (f : ℕ) (h : Handle) (there : Some h ≡ get s.handles f) (old : List ℕ) (seen : old ≡ bytes_of_handle s h) where
  -- a seek led nowhere, or to an offset
  pub seek_out : (place : Seek) → None ≡ lands cap (length old) h.off place → call cap s (op.Seek f place) ≡ unchanged s (answer.Refused Range)
  seek_out place out = seek-open cap s f h (sym there) place ∙ ap (λ b. sought cap s f h (sym there) (lands cap (length b) h.off place)) (sym seen)
      ∙ ap (sought cap s f h (sym there)) (sym out)

  pub seek_in : (place : Seek) (off : ℕ) (p : List ℕ) (hs : FinMap nat_cmp Handle) → Some off ≡ lands cap (length old) h.off place → p ≡ h.path
      → IsSet s f p off hs
      → call cap s (op.Seek f place) ≡ record { session = record s { handles = hs }; answer = answer.Okay }
  seek_in place off p hs at copied set =
      seek-open cap s f h (sym there) place
      ∙ ap (λ b. sought cap s f h (sym there) (lands cap (length b) h.off place)) (sym seen)
      ∙ ap (sought cap s f h (sym there)) (sym at)
      ∙ set_as s f h.path p off off hs answer.Okay set copied refl

  -- bytes were shown, and the handle moved on
  pub read_in : (n off : ℕ) (p shown : List ℕ) (hs : FinMap nat_cmp Handle) → shown ≡ part h.off n old → off ≡ h.off + length (part h.off n old) → p ≡ h.path
      → IsSet s f p off hs
      → call cap s (op.Read f n) ≡ record { session = record s { handles = hs }; answer = answer.Shown shown }
  read_in n off p shown hs is at copied set =
      call-read cap s f n h (sym there)
      ∙ ap (λ b. record { session = moved s f h (h.off + length (part h.off n b)); answer = answer.Shown (part h.off n b) }) (sym seen)
      ∙ ap (λ b. record { session = moved s f h (h.off + length (part h.off n old)); answer = answer.Shown b }) (sym is)
      ∙ set_as s f h.path p (h.off + length (part h.off n old)) off hs (answer.Shown shown) set copied at

  -- bytes were written: the handle was moved, and then the file's new bytes were put
  pub write_in : (bytes : List ℕ) (end : ℕ) (p file made : List ℕ) (hs : FinMap nat_cmp Handle) (new : Session) → 0 < length bytes
      → (end ≡ h.off + length bytes) × (end ≤ cap)
      → made ≡ written old h.off bytes → p ≡ h.path → file ≡ h.path → IsSet s f p end hs → new ≡ set_bytes (record s { handles = hs }) file made
      → call cap s (op.Write f bytes) ≡ record { session = new; answer = answer.Okay }
  write_in bytes end p file made hs new some fit is copied same set put =
      let moves : moved (set_bytes s h.path (written (bytes_of_handle s h) h.off bytes)) f h (h.off + length bytes) ≡ new = cc in
      write-open cap s f h (sym there) bytes some (omega arith) ∙ ap (λ (x : Session). let d : Done = record { session = x; answer = answer.Okay } in d) moves

  -- the file would be too long
  pub append_out : (bytes : List ℕ) → cap < length old + length bytes → call cap s (op.Append f bytes) ≡ unchanged s (answer.Refused TooBig)
  append_out bytes past = append-big cap s f h (sym there) bytes (subst (λ b. cap < length b + length bytes) seen past)

  -- the file's new bytes were put
  module _ (file made : List ℕ) (copied : file ≡ h.path) (new : Session) (put : new ≡ set_bytes s file made) where
    pub append_in : (bytes : List ℕ) → length old + length bytes ≤ cap → made ≡ old ++ bytes
        → call cap s (op.Append f bytes) ≡ record { session = new; answer = answer.Okay }
    append_in bytes fit is =
        append-open cap s f h (sym there) bytes (subst (λ b. length b + length bytes ≤ cap) seen fit)
        ∙ put_as s new h.path file (bytes_of_handle s h ++ bytes) made answer.Okay put copied (is ∙ ap (λ b. b ++ bytes) seen)

    pub truncate_in : (n : ℕ) → n ≤ cap → made ≡ resized old n → call cap s (op.Truncate f n) ≡ record { session = new; answer = answer.Okay }
    truncate_in n fit is =
        truncate-open cap s f h (sym there) n fit
        ∙ put_as s new h.path file (resized (bytes_of_handle s h) n) made answer.Okay put copied (is ∙ ap (λ b. resized b n) seen)

    pub punch_in : (n : ℕ) → made ≡ zeroed old h.off n → call cap s (op.Punch f n) ≡ record { session = new; answer = answer.Okay }
    punch_in n is =
        punch-open cap s f h (sym there) n
        ∙ put_as s new h.path file (zeroed (bytes_of_handle s h) h.off n) made answer.Okay put copied (is ∙ ap (λ b. zeroed b h.off n) seen)
