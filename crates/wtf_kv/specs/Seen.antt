-- The versions of one key, each a number and a value, the oldest first. A removal has the value None.
use Rattle.std.specs.Prelude.{◌≡◌, ℕ, ◌<◌, ◌≤◌, Bool, true, false, cond, ◌||◌, ◌&&◌, ◌⊎◌, List, [], ◌∷◌, Option, None, Some, is_some, nat_le, nat_lt}
use Rattle.std.specs.List.{list_any, filter}

-- the last of the versions that is at most n, or else what was seen before them
abbrev pub last_seen_from : {C : Type 0} → ℕ → List (ℕ × Option C) → Option (ℕ × Option C) → Option (ℕ × Option C)
last_seen_from n [] so_far = so_far
last_seen_from n (v ∷ vs) so_far = last_seen_from n vs (cond (nat_le v.0 n) (Some v) so_far)

-- the version that n sees: the last one that is at most n
abbrev pub last_seen : {C : Type 0} → ℕ → List (ℕ × Option C) → Option (ℕ × Option C)
last_seen n vs = last_seen_from n vs None

-- the value of the version that is seen
abbrev pub value_seen : {C : Type 0} → Option (ℕ × Option C) → Option C
value_seen None = None
value_seen (Some v) = v.1

-- and its number, 0 where there is none
abbrev pub number_seen : {C : Type 0} → Option (ℕ × Option C) → ℕ
number_seen None = 0
number_seen (Some v) = v.0

-- some pinned number lies below v
abbrev pub any_below : List ℕ → ℕ → Bool
any_below pins v = list_any (λ p. nat_lt p v) pins

-- whether a version is reported: a removal only while a pinned number lies below it
abbrev pub is_reported : {C : Type 0} → List ℕ → ℕ × Option C → Bool
is_reported pins v = is_some v.1 || any_below pins v.0

-- the version that is seen, where it is reported
abbrev pub reported : {C : Type 0} → List ℕ → Option (ℕ × Option C) → Option (ℕ × Option C)
reported pins None = None
reported pins (Some v) = cond (is_reported pins v) (Some v) None

-- a pinned number is at least v and below w
abbrev pub any_between : List ℕ → ℕ → ℕ → Bool
any_between pins v w = list_any (λ p. nat_le v p && nat_lt p w) pins

-- a pinned number sees the version v, before those that follow it, or it is the newest
abbrev pub is_seen : {C : Type 0} → List ℕ → ℕ → List (ℕ × Option C) → Bool
is_seen pins v [] = true
is_seen pins v (w ∷ ws) = any_between pins v w.0

-- whether a version is kept, before those that follow it
abbrev pub is_kept : {C : Type 0} → List ℕ → ℕ × Option C → List (ℕ × Option C) → Bool
is_kept pins v rest = is_reported pins v && is_seen pins v.0 rest

-- the versions that are kept: what a pinned number sees and the newest, a removal only while it is reported
abbrev pub kept_versions : {C : Type 0} → List ℕ → List (ℕ × Option C) → List (ℕ × Option C)
kept_versions pins [] = []
kept_versions pins (v ∷ vs) = cond (is_kept pins v vs) (v ∷ kept_versions pins vs) (kept_versions pins vs)

-- whether the first of the versions is kept
abbrev pub kept_head : {C : Type 0} → List ℕ → List (ℕ × Option C) → Bool
kept_head pins [] = false
kept_head pins (v ∷ vs) = is_kept pins v vs

-- the versions that are at most n
abbrev pub upto : {C : Type 0} → ℕ → List (ℕ × Option C) → List (ℕ × Option C)
upto n vs = filter (λ v. nat_le v.0 n) vs

-- the first of the versions lies above n
abbrev pub above : {C : Type 0} → ℕ → List (ℕ × Option C) → Type 0
above n [] = Unit {0}
above n (v ∷ vs) = n < v.0

-- the numbers of the versions ascend
abbrev pub ascends : {C : Type 0} → List (ℕ × Option C) → Type 0
ascends [] = Unit {0}
ascends (v ∷ vs) = above v.0 vs × ascends vs

-- no version lies above n
abbrev pub within : {C : Type 0} → ℕ → List (ℕ × Option C) → Type 0
within n [] = Unit {0}
within n (v ∷ vs) = (v.0 ≤ n) × within n vs

-- nothing will ever be dropped of these versions: there is none, or one that has a value
abbrev pub is_settled : {C : Type 0} → List (ℕ × Option C) → Bool
is_settled [] = true
is_settled (v ∷ []) = is_some v.1
is_settled (v ∷ w ∷ ws) = false

-- it is one of the versions
abbrev pub IsAmong : {C : Type 0} → ℕ × Option C → List (ℕ × Option C) → Type 0
IsAmong v [] = ⊥
IsAmong v (w ∷ ws) = (v ≡ w) ⊎ IsAmong v ws

-- some version is at most n, where they ascend
abbrev pub has_upto : {C : Type 0} → ℕ → List (ℕ × Option C) → Bool
has_upto n [] = false
has_upto n (v ∷ vs) = nat_le v.0 n

-- there is a version
abbrev pub has_any : {C : Type 0} → List (ℕ × Option C) → Bool
has_any [] = false
has_any (v ∷ vs) = true
