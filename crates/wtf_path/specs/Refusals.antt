-- The rules of paths, and the refusal of a text that breaks one.
use Rattle.std.specs.Prelude.{ℕ, Bool, true, false, not, ◌&&◌, ◌==◌, nat_lt, nat_le, if◌then◌else◌, List, [], ◌∷◌, length, Option, Some, None}
use Rattle.std.specs.List.{list_any}
use Rattle.wtf_path.specs.declared.error.PathError.{PathError}
use Rattle.wtf_path.specs.declared.error.PathError.TheVariants.{Empty, NotAbsolute, BadByte, TooLong, TooDeep, DotName, Memory}
use Rattle.wtf_path.specs.Parts.{names_of}

abbrev pub is_empty : List ℕ → Bool
is_empty text = length text == 0

abbrev pub begins_with_slash : List ℕ → Bool
begins_with_slash [] = false
begins_with_slash (b ∷ bs) = b == 47

-- `!` to `~`
abbrev pub is_graphic : ℕ → Bool
is_graphic b = nat_le 33 b && nat_le b 126

-- the empty name, `.` and `..`
abbrev pub is_dot_name : List ℕ → Bool
is_dot_name [] = true
is_dot_name (a ∷ []) = a == 46
is_dot_name (a ∷ b ∷ []) = a == 46 && b == 46
is_dot_name (a ∷ b ∷ c ∷ _) = false

-- a byte is not one of `!` to `~`
abbrev pub has_bad_byte : List ℕ → Bool
has_bad_byte text = list_any (λ b. not (is_graphic b)) text

-- the first of these that holds; nothing is refused of a path
abbrev pub refusal : List ℕ → Option PathError
refusal text =
    if is_empty text then Some Empty
    else (if not (begins_with_slash text) then Some NotAbsolute
    else (if has_bad_byte text then Some BadByte
    else (if nat_lt 1023 (length text) then Some TooLong
    else (if nat_lt 32 (length (names_of text)) then Some TooDeep
    else (if list_any is_dot_name (names_of text) then Some DotName
    else None)))))

-- the number of a refusal; want of memory is none
abbrev pub number_of : PathError → Option ℕ
number_of Empty = Some 1
number_of NotAbsolute = Some 2
number_of BadByte = Some 3
number_of TooLong = Some 4
number_of TooDeep = Some 5
number_of DotName = Some 6
number_of Memory = None
