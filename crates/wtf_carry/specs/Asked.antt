-- The lines that carry a file: each with the event that it asks for. All are those of client 0, and its handle 0.
use Rattle.std.specs.Prelude.{◌≡◌, ℕ, ◌+◌, ◌%◌, ◌==◌, ◌&&◌, nat_lt, Bool, if◌then◌else◌, List, [], ◌∷◌, ◌++◌, length, codes, decimal, Ok}
use Rattle.std.specs.List.{flat_map}
use Rattle.hex.specs.Hex.{encode_lower}
use Rattle.wtf_model.specs.declared.op.Op.TheVariants as op
use Rattle.wtf_model.specs.declared.op.Seek.TheVariants as to
use Rattle.wtf_model.specs.declared.event.Verb.{Verb}
use Rattle.wtf_model.specs.declared.event.Verb.TheVariants as verb
use Rattle.wtf_model.specs.declared.event.Event.{Event}
use Rattle.wtf_model.specs.declared.event.Event.TheVariants as event
use Rattle.wtf_script.specs.ScriptLines.{line_feed}
use Rattle.wtf_script.specs.Grammar.{event_of}
use Rattle.wtf_carry.specs.declared.lines.TheConstants.{PIECES}

-- a line without its line feed, and the event that it is to ask for
pub record Asked : Type 0 where
  pub line : List ℕ
  pub event : Event

-- the grammar of scripts takes the line as that event
abbrev pub Asks : Asked → Type 0
Asks a = event_of a.line ≡ Ok a.event

-- lines as they stand in a script
abbrev pub asked_text : List Asked → List ℕ
asked_text asked = flat_map (λ a. a.line ++ line_feed ∷ []) asked

abbrev pub line_with : List ℕ → List ℕ → Verb → Asked
line_with front back v = record { line = front ++ back; event = event.Client 0 v }

abbrev pub begin_line : Asked
begin_line = line_with (codes "c0 begin") [] verb.Begin

abbrev pub try_line : Asked
try_line = line_with (codes "c0 try") [] verb.Try

abbrev pub abort_line : Asked
abort_line = line_with (codes "c0 abort") [] verb.Abort

abbrev pub mkdir_line : List ℕ → Asked
mkdir_line path = line_with (codes "c0 mkdir ") path (verb.Call (op.Mkdir path))

abbrev pub create_line : List ℕ → Asked
create_line path = line_with (codes "c0 create ") path (verb.Call (op.Create path))

abbrev pub open_line : List ℕ → Asked
open_line path = line_with (codes "c0 open f0 ") path (verb.Call (op.Open 0 path))

abbrev pub seek_line : ℕ → Asked
seek_line at = line_with (codes "c0 seek f0 set ") (decimal at) (verb.Call (op.Seek 0 (to.Set at)))

abbrev pub write_line : List ℕ → Asked
write_line bytes = line_with (codes "c0 write f0 x:") (encode_lower bytes) (verb.Call (op.Write 0 bytes))

abbrev pub read_line : ℕ → Asked
read_line n = line_with (codes "c0 read f0 ") (decimal n) (verb.Call (op.Read 0 n))

-- a transaction has all its pieces before piece i of a file
abbrev pub is_turn : ℕ → Bool
is_turn i = nat_lt 0 i && i % PIECES == 0

-- before piece i of a file, which begins at byte `at`: a transaction that has its pieces ends, and the next one goes on there
abbrev pub turn : Asked → List ℕ → ℕ → ℕ → List Asked
turn last path i at = if is_turn i then (last ∷ begin_line ∷ open_line path ∷ seek_line at ∷ []) else []

-- the sizes of all, together
abbrev pub total : {A : Type 0} → (A → ℕ) → List A → ℕ
total size [] = 0
total size (x ∷ xs) = size x + total size xs

-- how the pieces of a file are carried: the line that ends a transaction, the line of a piece, and its length
pub record Way (A : Type 0) : Type 0 where
  pub last : Asked
  pub line : A → Asked
  pub size : A → ℕ

-- the lines of pieces, of which the first is piece i of the file and begins at byte `at`
abbrev pub carried : {A : Type 0} → Way A → List ℕ → ℕ → ℕ → List A → List Asked
carried w path i at [] = []
carried w path i at (x ∷ xs) = turn w.last path i at ++ w.line x ∷ carried w path (i + 1) (at + w.size x) xs

abbrev pub writes : Way (List ℕ)
writes = record { last = try_line; line = write_line; size = λ piece. length piece }

abbrev pub shows : Way ℕ
shows = record { last = abort_line; line = read_line; size = λ n. n }
