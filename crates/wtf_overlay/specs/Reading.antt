-- Bytes read from left to right: what stands at the front of them, and the bytes behind it, if they have that form.
use Rattle.std.specs.Prelude.{ℕ, zero, suc, ◌+◌, Bool, ◌&&◌, nat_lt, nat_le, if◌then◌else◌, List, [], ◌∷◌, length, take, drop, Option, None, Some}
use Rattle.std.specs.Int.{Width, w32, w64, byte_len, from_be_bytes}
use Rattle.wtf_base.specs.declared.pointer.Pointer.{Pointer}
use Rattle.wtf_base.specs.Pointers.{is_slice}
use Rattle.wtf_overlay.specs.Rows.{EntryRow}

-- one after another, as long as there is something
infixl 10 ◌>>=◌
abbrev pub ◌>>=◌ : {A B : Type 0} → Option A → (A → Option B) → Option B
Some x >>= f = f x
None >>= f = None

-- how something is read
abbrev pub Reader : Type 0 → Type 0
Reader A = List ℕ → Option (A × List ℕ)

-- one thing, and then another that it tells how to read
abbrev pub then_at : {A B : Type 0} → Reader A → (A → Reader B) → Reader (A × B)
then_at first second bytes = first bytes >>= λ a. second a.0 a.1 >>= λ b. Some ((a.0, b.0), b.1)

-- the same as something else
abbrev pub as_at : {A B : Type 0} → (A → B) → Reader A → Reader B
as_at make read bytes = read bytes >>= λ a. Some (make a.0, a.1)

-- only what passes a test
abbrev pub only_at : {A : Type 0} → (A → Bool) → Reader A → Reader A
only_at test read bytes = read bytes >>= λ a. if test a.0 then Some a else None

-- so many of them
abbrev pub many_at : {A : Type 0} → Reader A → ℕ → Reader (List A)
many_at read zero bytes = Some ([], bytes)
many_at read (suc n) bytes = read bytes >>= λ first. many_at read n first.1 >>= λ others. Some (first.0 ∷ others.0, others.1)

-- a byte
abbrev pub byte_at : Reader ℕ
byte_at [] = None
byte_at (b ∷ bytes) = Some (b, bytes)

-- a number
unfoldable pub number_at : Width → Reader ℕ
number_at w bytes = if nat_lt (length bytes) (byte_len w) then None else Some (from_be_bytes w (take (byte_len w) bytes), drop (byte_len w) bytes)

-- so many bytes
unfoldable pub text_at : ℕ → Reader (List ℕ)
text_at n bytes = if nat_lt (length bytes) n then None else Some (take n bytes, drop n bytes)

abbrev pub make_pointer : ℕ → ℕ × (ℕ × ℕ) → Pointer
make_pointer len x = record { server = record { 0 = x.0 }; file = x.1.0; at = x.1.1; len = len }

unfoldable pub pointer_at : ℕ → Reader Pointer
pointer_at len = as_at (make_pointer len) (then_at byte_at (λ server. then_at byte_at (λ file. number_at w64)))

abbrev pub is_width : ℕ → Bool
is_width n = nat_le n 3

unfoldable pub slice_at : ℕ → Reader (List Pointer)
slice_at len = only_at is_slice (as_at (λ x. x.1) (then_at (only_at is_width byte_at) (λ n. many_at (pointer_at len) n)))

abbrev pub part_by : ℕ → ℕ → Reader (Option (List Pointer))
part_by len zero bytes = Some (None, bytes)
part_by len (suc zero) bytes = as_at (λ ps. Some ps) (slice_at len) bytes
part_by len (suc (suc n)) bytes = None

unfoldable pub part_at : ℕ → Reader (Option (List Pointer))
part_at len bytes = byte_at bytes >>= λ kind. part_by len kind.0 kind.1

abbrev pub make_entry : ℕ × (ℕ × Option (List Pointer)) → EntryRow
make_entry x = record { off = x.0; len = x.1.0; part = x.1.1 }

abbrev pub is_within : ℕ → EntryRow → Bool
is_within end e = nat_lt 0 e.len && nat_le (e.off + e.len) end

unfoldable pub entry_at : ℕ → Reader EntryRow
entry_at end = only_at (is_within end) (as_at make_entry (then_at (number_at w32) (λ off. then_at (number_at w32) (λ len. part_at len))))

-- a count, and then so many
abbrev pub counted_at : {A : Type 0} → Width → Reader A → Reader (List A)
counted_at w read = as_at (λ x. x.1) (then_at (number_at w) (λ n. many_at read n))
