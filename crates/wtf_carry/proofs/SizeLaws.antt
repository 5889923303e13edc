-- The lines that put a file stay within a script.
use Rattle.std.proofs.Common.{◌≡◌, ℕ, ◌+◌, ◌*◌, ◌≤◌, Bool, true, false, cond, List, [], ◌∷◌, ◌++◌, length, codes, decimal, arith, rules, refl, ap, ◌∙◌}
use Rattle.std.proofs.lemmas.Fmt.{length-decimal-le}
use Rattle.std.proofs.lemmas.List.{length-append}
use Rattle.hex.specs.Hex.{encode_lower, lower_digits}
use Rattle.hex.proofs.HexLemmas.{length-encode_with}
use Rattle.wtf_path.specs.Grammar.{IsPath}
use Rattle.wtf_model.specs.declared.limits.TheConstants.{MAX_WRITTEN}
use Rattle.wtf_script.specs.ScriptLines.{line_feed}
use Rattle.wtf_script.specs.declared.limits.TheConstants.{SCRIPT_BYTES}
use Rattle.wtf_carry.specs.declared.TheConstants.{MOST_BYTES}
use Rattle.wtf_carry.specs.Asked.{
  Asked,
  asked_text,
  turn,
  is_turn,
  total,
  carried,
  writes,
  begin_line,
  try_line,
  mkdir_line,
  create_line,
  open_line,
  seek_line,
  write_line,
}
use Rattle.wtf_carry.specs.Ways.{IsWayUp, mkdirs}
use Rattle.wtf_carry.specs.Puts.{AreFilled, head_lines, put_lines}
use Rattle.wtf_carry.proofs.Carried.{text_of-append}
use Rattle.wtf_carry.proofs.WayLaws.{shorter}

-- how many bytes lines have, with their line feeds
abbrev size_of : List Asked → ℕ
size_of lines = length (asked_text lines)

size-append : (xs ys : List Asked) → size_of (xs ++ ys) ≡ size_of xs + size_of ys
size-append xs ys = ap length (text_of-append xs ys) ∙ length-append (asked_text xs) (asked_text ys)

-- a line of two parts, and others
size-line : (front back : List ℕ) (a : Asked) (lines : List Asked) → a.line ≡ front ++ back
    → size_of (a ∷ lines) ≡ length front + length back + 1 + size_of lines
size-line front back a lines is =
    omega (
      arith,
      length-append (a.line ++ line_feed ∷ []) (asked_text lines),
      length-append a.line (line_feed ∷ []),
      length-append front back,
      ap length is,
    )

write-size : (piece : List ℕ) (lines : List Asked) → size_of (write_line piece ∷ lines) ≡ 15 + 2 * length piece + size_of lines
write-size piece lines =
    omega (arith, size-line (codes "c0 write f0 x:") (encode_lower piece) (write_line piece) lines refl, length-encode_with lower_digits piece)

number-short : (n : ℕ) → n ≤ MOST_BYTES → length (decimal n) ≤ 9
number-short n h = search (rules, length-decimal-le 9)

-- the lines between two transactions
turn-size : (b : Bool) (path : List ℕ) (at : ℕ) → length path ≤ 1023 → at ≤ MOST_BYTES
    → size_of (cond b (try_line ∷ begin_line ∷ open_line path ∷ seek_line at ∷ []) []) ≤ 1076
turn-size false path at short fits = omega arith
turn-size true path at short fits =
    omega (
      arith,
      size-line (codes "c0 try") [] try_line (begin_line ∷ open_line path ∷ seek_line at ∷ []) refl,
      size-line (codes "c0 begin") [] begin_line (open_line path ∷ seek_line at ∷ []) refl,
      size-line (codes "c0 open f0 ") path (open_line path) (seek_line at ∷ []) refl,
      size-line (codes "c0 seek f0 set ") (decimal at) (seek_line at) [] refl,
      number-short at fits,
    )

-- the lines of pieces, as if there were such lines before each of them
carried-size : (path : List ℕ) (i at : ℕ) (pieces : List (List ℕ)) → length path ≤ 1023 → at + total (λ piece. length piece) pieces ≤ MOST_BYTES
    → size_of (carried writes path i at pieces) ≤ 2 * total (λ piece. length piece) pieces + 1091 * length pieces
carried-size path i at [] short fits = omega arith
carried-size path i at (piece ∷ pieces) short fits =
    let more = carried writes path (i + 1) (at + length piece) pieces in
    omega (
      arith,
      size-append (turn try_line path i at) (write_line piece ∷ more),
      turn-size (is_turn i) path at short (omega (arith, fits)),
      write-size piece more,
      carried-size path (i + 1) (at + length piece) pieces short (omega (arith, fits)),
    )

-- filled pieces are few
few-pieces : (pieces : List (List ℕ)) → AreFilled pieces → MAX_WRITTEN * length pieces ≤ total (λ piece. length piece) pieces + MAX_WRITTEN
few-pieces [] filled = omega arith
few-pieces (piece ∷ []) filled = omega arith
few-pieces (piece ∷ next ∷ pieces) filled = omega (arith, filled.0, few-pieces (next ∷ pieces) filled.1)

-- the lines of directories: each of these is shorter than the path it is on the way to
mkdirs-size : (path : List ℕ) (up : List (List ℕ)) → IsPath path → IsWayUp path up → size_of (mkdirs up) ≤ 1033 * length path
mkdirs-size path [] is way = omega arith
mkdirs-size path (d ∷ ds) is way =
    omega (
      arith,
      size-append (mkdirs ds) (mkdir_line d ∷ []),
      size-line (codes "c0 mkdir ") d (mkdir_line d) [] refl,
      mkdirs-size d ds way.2 way.3,
      shorter path d is way.0,
      way.2.size,
    )

-- the lines before the first piece
head-size : (path : List ℕ) (up : List (List ℕ)) → IsPath path → IsWayUp path up → size_of (head_lines path up) ≤ 1060000
head-size path up is way =
    omega (
      arith,
      size-line (codes "c0 begin") [] begin_line (mkdirs up ++ create_line path ∷ open_line path ∷ []) refl,
      size-append (mkdirs up) (create_line path ∷ open_line path ∷ []),
      mkdirs-size path up is way,
      size-line (codes "c0 create ") path (create_line path) (open_line path ∷ []) refl,
      size-line (codes "c0 open f0 ") path (open_line path) [] refl,
      is.size,
    )

-- all lines of a file
pub lines-size : (path : List ℕ) (up pieces : List (List ℕ)) → IsPath path → IsWayUp path up → AreFilled pieces
    → total (λ piece. length piece) pieces ≤ MOST_BYTES → length (asked_text (put_lines path up pieces)) ≤ SCRIPT_BYTES
lines-size path up pieces is way filled fits =
    omega (
      arith,
      size-append (head_lines path up) (carried writes path 0 0 pieces ++ try_line ∷ []),
      size-append (carried writes path 0 0 pieces) (try_line ∷ []),
      size-line (codes "c0 try") [] try_line [] refl,
      head-size path up is way,
      carried-size path 0 0 pieces is.size (omega (arith, fits)),
      few-pieces pieces filled,
    )
