-- Lists of pointers, and which of them are slices (NSDI 2016, section 2.1).
use Rattle.std.specs.Prelude.{ℕ, ◌+◌, ◌-◌, ◌^◌, Bool, true, false, nat_lt, nat_le, nat_eq, ◌&&◌, List, [], ◌∷◌}
use Rattle.wtf_base.specs.declared.pointer.Pointer.{Pointer}

-- a pointer to at least one byte whose end is below 2^63
abbrev pub is_sound_pointer : Pointer → Bool
is_sound_pointer p = nat_lt 0 p.len && nat_le (p.at + p.len) (2 ^ 63 - 1)

-- b is on a later server, and has the length of a
abbrev pub may_follow : Pointer → Pointer → Bool
may_follow a b = nat_lt a.server.0 b.server.0 && nat_eq a.len b.len

-- one to three pointers of one length, their servers ascending
abbrev pub is_slice : List Pointer → Bool
is_slice [] = false
is_slice (a ∷ []) = is_sound_pointer a
is_slice (a ∷ b ∷ []) = is_sound_pointer a && is_sound_pointer b && may_follow a b
is_slice (a ∷ b ∷ c ∷ []) =
    is_sound_pointer a && is_sound_pointer b && is_sound_pointer c && may_follow a b && may_follow b c
is_slice (a ∷ b ∷ c ∷ d ∷ _) = false

-- the pointer to n bytes from byte off of what p points to
abbrev pub part_of : ℕ → ℕ → Pointer → Pointer
part_of off n p = record p { at = p.at + off; len = n }

-- b points to what comes right after what a points to
abbrev pub follows_on : Pointer → Pointer → Bool
follows_on a b = nat_eq a.server.0 b.server.0 && nat_eq a.file b.file && nat_eq (a.at + a.len) b.at

abbrev pub all_follow_on : List Pointer → List Pointer → Bool
all_follow_on [] [] = true
all_follow_on (a ∷ xs) (b ∷ ys) = follows_on a b && all_follow_on xs ys
all_follow_on (a ∷ xs) [] = false
all_follow_on [] (b ∷ ys) = false

-- the pointers to the first n bytes from where p points on
abbrev pub lengthened : ℕ → Pointer → Pointer
lengthened n p = record p { len = n }
