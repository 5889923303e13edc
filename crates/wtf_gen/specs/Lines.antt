-- The lines of a script that a number gives. The state is a number of 64 bits; each draw makes the next one, and a number
-- below m from it. The client and the kind of line are drawn first, then what stands in the line, from left to right. A line
-- to the system draws a client too, and does not name it; how many bytes a line has is drawn before them.
use Rattle.std.specs.Prelude.{◌≡◌, ℕ, zero, suc, ◌+◌, ◌*◌, ◌/◌, ◌%◌, ◌^◌, ◌==◌, nat_lt, if◌then◌else◌, List, [], ◌∷◌, ◌++◌, codes, decimal, Option, Some, None}
use Rattle.std.specs.List.{flat_map}
use Rattle.hex.specs.Hex.{encode_lower}
use Rattle.wtf_gen.specs.declared.verb.Verb.{Verb}
use Rattle.wtf_gen.specs.declared.verb.Verb.TheVariants as verb

-- the state that a draw makes
unfoldable pub next_state : ℕ → ℕ
next_state x = (x * 6364136223846793005 + 1442695040888963407) % 2 ^ 64

-- the number below m that a draw gives, from the state that it made
unfoldable pub drawn : ℕ → ℕ → ℕ
drawn m x = (x / 2 ^ 33) % m

-- a line so far, and the state behind its draws so far
pub record Draft : Type 0 where
  pub state : ℕ
  pub text : List ℕ

-- one thing behind another
infixl 10 ◌▸◌
abbrev pub ◌▸◌ : Draft → (Draft → Draft) → Draft
p ▸ write = write p

-- a text is written
unfoldable pub put : List ℕ → Draft → Draft
put t p = record { state = p.state; text = p.text ++ t }

-- a number below m is drawn, and written in decimal digits
unfoldable pub number : ℕ → Draft → Draft
number m p = let x = next_state p.state in record { state = x; text = p.text ++ decimal (drawn m x) }

-- a handle, `f0` to `f3`
unfoldable pub handle : Draft → Draft
handle p = p ▸ put (codes " f") ▸ number 4

-- a file, `/g0` to `/g7`
unfoldable pub file : Draft → Draft
file p = p ▸ put (codes " /g") ▸ number 8

-- the label of a slice, `s0` to `s3`
unfoldable pub label : Draft → Draft
label p = p ▸ put (codes " s") ▸ number 4

-- the label of a job, `j0` or `j1`
unfoldable pub job : Draft → Draft
job p = p ▸ put (codes " j") ▸ number 2

-- a length or an offset below m
unfoldable pub amount : ℕ → Draft → Draft
amount m p = p ▸ put (codes " ") ▸ number m

-- a byte is drawn, and written as two hexadecimal digits in lower case
unfoldable pub byte : Draft → Draft
byte p = let x = next_state p.state in record { state = x; text = p.text ++ encode_lower (drawn 256 x ∷ []) }

-- n bytes
unfoldable pub some_bytes : ℕ → Draft → Draft
some_bytes zero p = p
some_bytes (suc n) p = byte (some_bytes n p)

-- one byte to 64: how many is drawn first
unfoldable pub bytes : Draft → Draft
bytes p = let x = next_state p.state in
    record { state = x; text = p.text } ▸ put (codes " x:") ▸ some_bytes (1 + drawn 64 x)

-- the verb of a client's line, by the number below 23 that was drawn for it
unfoldable pub verb_of : ℕ → Verb
verb_of v =
    if nat_lt v 2 then verb.Begin
    else (if v == 2 then verb.Attempt
    else (if v == 3 then verb.Commit
    else (if v == 4 then verb.Step
    else (if v == 5 then verb.Abandon
    else (if v == 6 then verb.Create
    else (if nat_lt v 9 then verb.Open
    else (if nat_lt v 11 then verb.Write
    else (if v == 11 then verb.Append
    else (if v == 12 then verb.Read
    else (if v == 13 then verb.Seek
    else (if v == 14 then verb.Yank
    else (if v == 15 then verb.Paste
    else (if v == 16 then verb.Glue
    else (if v == 17 then verb.Punch
    else (if v == 18 then verb.Truncate
    else (if v == 19 then verb.Peek
    else (if v == 20 then verb.Stat
    else (if v == 21 then verb.Copy
    else verb.Unlink))))))))))))))))))

-- a verb with its arguments
unfoldable pub call : Verb → Draft → Draft
call verb.Begin p = p ▸ put (codes " begin")
call verb.Attempt p = p ▸ put (codes " try")
call verb.Commit p = p ▸ put (codes " commit")
call verb.Step p = p ▸ put (codes " step")
call verb.Abandon p = p ▸ put (codes " abort")
call verb.Create p = p ▸ put (codes " create") ▸ file
call verb.Open p = p ▸ put (codes " open") ▸ handle ▸ file
call verb.Write p = p ▸ put (codes " write") ▸ handle ▸ bytes
call verb.Append p = p ▸ put (codes " append") ▸ handle ▸ bytes
call verb.Read p = p ▸ put (codes " read") ▸ handle ▸ amount 256
call verb.Seek p = p ▸ put (codes " seek") ▸ handle ▸ put (codes " set") ▸ amount 1024
call verb.Yank p = p ▸ put (codes " yank") ▸ handle ▸ amount 256 ▸ label
call verb.Paste p = p ▸ put (codes " paste") ▸ handle ▸ label
call verb.Glue p = p ▸ put (codes " glue") ▸ handle ▸ label
call verb.Punch p = p ▸ put (codes " punch") ▸ handle ▸ amount 128
call verb.Truncate p = p ▸ put (codes " truncate") ▸ handle ▸ amount 1024
call verb.Peek p = p ▸ put (codes " peek") ▸ label ▸ put (codes " 0") ▸ amount 16
call verb.Stat p = p ▸ put (codes " stat") ▸ file
call verb.Copy p = p ▸ put (codes " copy") ▸ file ▸ file
call verb.Unlink p = p ▸ put (codes " unlink") ▸ file

-- what is asked of the system, by the number below 6 that was drawn for it
unfoldable pub asked : ℕ → Draft → Draft
asked u p =
    if u == 0 then p ▸ put (codes " plan") ▸ job ▸ put (codes " compact") ▸ file ▸ put (codes " 0")
    else (if u == 1 then p ▸ put (codes " plan") ▸ job ▸ put (codes " spill") ▸ file ▸ put (codes " 0")
    else (if u == 2 then p ▸ put (codes " put") ▸ job
    else (if u == 3 then p ▸ put (codes " scan")
    else (if u == 4 then p ▸ put (codes " piece 64")
    else p ▸ put (codes " collect 0")))))

-- a line with nothing written yet
abbrev pub blank : ℕ → Draft
blank x = record { state = x; text = [] }

-- the line of a client
unfoldable pub client_line : ℕ → ℕ → ℕ → Draft
client_line c v x = blank x ▸ put (codes "c") ▸ put (decimal c) ▸ call (verb_of v)

-- a line to the system
unfoldable pub system_line : ℕ → Draft
system_line x = let y = next_state x in blank y ▸ put (codes "sys") ▸ asked (drawn 6 y)

-- the line of a state: a client is drawn, and then which line it is
unfoldable pub line_draft : ℕ → Draft
line_draft x =
    let y = next_state x in
    let z = next_state y in
    if drawn 24 z == 23 then system_line z else client_line (drawn 8 y) (drawn 24 z) z

-- the line of a state, without its line feed
abbrev pub state_line : ℕ → List ℕ
state_line x = (line_draft x).text

-- the state behind the draws of that line
abbrev pub state_after : ℕ → ℕ
state_after x = (line_draft x).state

-- so many lines, from a number on
unfoldable pub generated_lines : ℕ → ℕ → List (List ℕ)
generated_lines x zero = []
generated_lines x (suc n) = state_line x ∷ generated_lines (state_after x) n

-- these lines as a script: a line feed, the byte 10, behind each
unfoldable pub generated_script : ℕ → ℕ → List ℕ
generated_script x n = flat_map (λ line. line ++ 10 ∷ []) (generated_lines x n)

-- the state, and how many lines are left
pub record Drawing : Type 0 where
  pub state : ℕ
  pub left : ℕ

-- The next line is given, and its draws are made. Where there is none, no line was left, and nothing changes.
abbrev pub Draws : Option (List ℕ) → Drawing → Drawing → Type 0
Draws None old new = (old.left ≡ 0) × (new ≡ old)
Draws (Some line) old new = (line ≡ state_line old.state) × (new.state ≡ state_after old.state) × (old.left ≡ new.left + 1)
