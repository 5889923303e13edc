-- Runs that are built from left to right.
use Rattle.std.proofs.Common.{◌≡◌, ℕ, ◌+◌, ◌-◌, ◌<◌, ◌≤◌, ◌++◌, List, [], ◌∷◌, refl, ap, sym, ◌∙◌, arith, inl, inr, max, length}
use Rattle.std.proofs.lemmas.Bool.{cases_lt}
use Rattle.wtf_overlay.specs.declared.part.Entry.{Entry}
use Rattle.wtf_overlay.specs.Origin.{Place, part_origin, origin_from}
use Rattle.wtf_overlay.proofs.Origins.{origin_from-push, over_before, over_after, over_within}
use Rattle.wtf_overlay.specs.Runs.{IsRunIn, Built, SameFrom, Tells}

-- a run that begins later is one that begins earlier
pub IsRunIn-lower : (l lo hi : ℕ) (es : List Entry) → l ≤ lo → IsRunIn lo hi es → IsRunIn l hi es
IsRunIn-lower l lo hi [] h run = omega arith
IsRunIn-lower l lo hi (e ∷ es) h run = (omega (arith, run.0), run.1)

pub IsRunIn-order : (lo hi : ℕ) (es : List Entry) → IsRunIn lo hi es → lo ≤ hi
IsRunIn-order lo hi [] run = run
IsRunIn-order lo hi (e ∷ es) run = omega (arith, run.0, IsRunIn-order (e.off + e.len) hi es run.1)

pub IsRunIn-higher : (lo x z : ℕ) (es : List Entry) → x ≤ z → IsRunIn lo x es → IsRunIn lo z es
IsRunIn-higher lo x z [] h run = omega arith
IsRunIn-higher lo x z (e ∷ es) h run = (run.0, IsRunIn-higher (e.off + e.len) x z es h run.1)

pub IsRunIn-push : (lo x z : ℕ) (es : List Entry) (e : Entry) → x ≤ e.off → e.off + e.len ≤ z → IsRunIn lo x es → IsRunIn lo z (es ++ e ∷ [])
IsRunIn-push lo x z [] e from to run = (omega arith, to)
IsRunIn-push lo x z (f ∷ es) e from to run = (run.0, IsRunIn-push (f.off + f.len) x z es e from to run.1)

-- a run, and one that begins where it ends or later
pub IsRunIn-append : (lo x hi : ℕ) (es fs : List Entry) → IsRunIn lo x es → IsRunIn x hi fs → IsRunIn lo hi (es ++ fs)
IsRunIn-append lo x hi [] fs front back = IsRunIn-lower lo x hi fs front back
IsRunIn-append lo x hi (e ∷ es) fs front back = (front.0, IsRunIn-append (e.off + e.len) x hi es fs front.1 back)

-- what comes after the first entries
pub IsRunIn-back : (lo hi : ℕ) (es fs : List Entry) → IsRunIn lo hi (es ++ fs) → IsRunIn lo hi fs
IsRunIn-back lo hi [] fs run = run
IsRunIn-back lo hi (e ∷ es) fs run =
    IsRunIn-lower lo (e.off + e.len) hi fs (omega (arith, run.0)) (IsRunIn-back (e.off + e.len) hi es fs run.1)

-- a run ends where its last entry does
pub IsRunIn-last : (lo hi : ℕ) (es : List Entry) (e : Entry) → IsRunIn lo hi (es ++ e ∷ []) → IsRunIn lo (e.off + e.len) (es ++ e ∷ [])
IsRunIn-last lo hi [] e run = (run.0, omega arith)
IsRunIn-last lo hi (d ∷ es) e run = (run.0, IsRunIn-last (d.off + d.len) hi es e run.1)

-- before its start a run shows what is below it
pub run_before : (lo hi : ℕ) (es : List Entry) (b : List Place) (y : ℕ) → IsRunIn lo hi es → y < lo → origin_from b es y ≡ b
run_before lo hi [] b y run h = refl
run_before lo hi (e ∷ es) b y run h =
    let before : y < e.off = omega (arith, run.0) in
    ap (λ c. origin_from c es y) (over_before e y b before) ∙ run_before (e.off + e.len) hi es b y run.1 (omega arith)

-- and from its end on
pub run_after : (lo hi : ℕ) (es : List Entry) (b : List Place) (y : ℕ) → IsRunIn lo hi es → hi ≤ y → origin_from b es y ≡ b
run_after lo hi [] b y run h = refl
run_after lo hi (e ∷ es) b y run h =
    let after : e.off + e.len ≤ y = omega (arith, IsRunIn-order (e.off + e.len) hi es run.1) in
    ap (λ c. origin_from c es y) (over_after e y b after) ∙ run_after (e.off + e.len) hi es b y run.1 h

-- where its first entry lies a run shows that
pub run_first : (lo hi : ℕ) (e : Entry) (es : List Entry) (b : List Place) (y : ℕ) → IsRunIn lo hi (e ∷ es) → e.off ≤ y → y < e.off + e.len
    → origin_from b (e ∷ es) y ≡ part_origin e.part (y - e.off)
run_first lo hi e es b y run from to =
    ap (λ c. origin_from c es y) (over_within e y b from to) ∙ run_before (e.off + e.len) hi es (part_origin e.part (y - e.off)) y run.1 to

-- from the end of its first entry on it shows what the others show
pub first_past : (e : Entry) (es : List Entry) (x : ℕ) → e.off + e.len ≤ x → SameFrom x (e ∷ es) es
first_past e es x h = λ b y k. ap (λ c. origin_from c es y) (over_after e y b (omega arith))

-- a gap
pub Built-gap : (es : List Entry) (x z : ℕ) (f : List Place → ℕ → List Place) → Built es x f → x ≤ z
    → ((b : List Place) (y : ℕ) → x ≤ y → y < z → f b y ≡ b) → Built es z f
Built-gap es x z f built h none = record {
  run = IsRunIn-higher 0 x z es h built.run;
  shows = λ b y k. elim (cases_lt y x) [
    | inl l ↦ built.shows b y l
    | inr g ↦ run_after 0 x es b y built.run g ∙ sym (none b y g k)
  ];
}

-- one entry more
pub Built-push : (es : List Entry) (e : Entry) (x z : ℕ) (f : List Place → ℕ → List Place) → Built es x f → e.off ≡ x → e.off + e.len ≡ z
    → ((b : List Place) (y : ℕ) → x ≤ y → y < z → f b y ≡ part_origin e.part (y - x)) → Built (es ++ e ∷ []) z f
Built-push es e x z f built start stop here = record {
  run = IsRunIn-push 0 x z es e (omega arith) (omega arith) built.run;
  shows = λ b y k. origin_from-push b es e y ∙ elim (cases_lt y x) [
    | inl l ↦ over_before e y (origin_from b es y) (omega arith) ∙ built.shows b y l
    | inr g ↦ over_within e y (origin_from b es y) (omega arith) (omega arith) ∙ ap (λ s. part_origin e.part (y - s)) start ∙ sym (here b y g k)
  ];
}

-- where the rest begins at its first entry, nothing shows before that
pub rest_before : (hi : ℕ) (run after : List Entry) (e : Entry) (from x to : ℕ) (f : List Place → ℕ → List Place)
    → from ≤ x → IsRunIn 0 hi (e ∷ after) → SameFrom x run (e ∷ after) → Tells from to f run
    → (b : List Place) (y : ℕ) → x ≤ y → y < e.off → y < to → f b y ≡ b
rest_before hi run after e from x to f begun ordered same tells b y l h k =
    let self : e.off ≤ e.off = omega arith in
    tells b y (omega arith) k ∙ same b y l ∙ run_before e.off hi (e ∷ after) b y (self, ordered.1) h

-- up to the start of what is left
pub lay_gap : (hi : ℕ) (out run after : List Entry) (e : Entry) (from x to : ℕ) (f : List Place → ℕ → List Place)
    → from ≤ x → x ≤ to → to ≤ e.off → IsRunIn 0 hi (e ∷ after) → SameFrom x run (e ∷ after) → Tells from to f run → Built out x f → Built out to f
lay_gap hi out run after e from x to f begun within stop ordered same tells built =
    Built-gap out x to f built within (λ b y l k. rest_before hi run after e from x to f begun ordered same tells b y l (omega arith) k)

-- up to the end of a part of the first entry of what is left
pub lay_piece : (hi : ℕ) (out run after : List Entry) (e p : Entry) (from x z to : ℕ) (f : List Place → ℕ → List Place)
    → from ≤ x → z ≤ to → z ≤ e.off + e.len → p.off ≡ max x e.off → p.off + p.len ≡ z
    → ((i : ℕ) → part_origin p.part i ≡ part_origin e.part (p.off - e.off + i))
    → IsRunIn 0 hi (e ∷ after) → SameFrom x run (e ∷ after) → Tells from to f run → Built out x f → Built (out ++ p ∷ []) z f
lay_piece hi out run after e p from x z to f begun within inside start stop part ordered same tells built =
    let later : x ≤ p.off = omega arith in
    Built-push out p p.off z f
    (Built-gap out x p.off f built later (λ b y l k. rest_before hi run after e from x to f begun ordered same tells b y l (omega arith) (omega arith)))
    refl stop
    (λ b y l k. tells b y (omega arith) (omega arith) ∙ same b y (omega arith)
    ∙ run_first 0 hi e after b y ordered (omega arith) (omega arith)
    ∙ sym (part (y - p.off) ∙ ap (part_origin e.part) (let j : p.off - e.off + (y - p.off) ≡ y - e.off = omega arith in j)))

-- up to the end, where nothing is left
pub lay_rest : (out run : List Entry) (from x to : ℕ) (f : List Place → ℕ → List Place)
    → from ≤ x → x ≤ to → SameFrom x run [] → Tells from to f run → Built out x f → Built out to f
lay_rest out run from x to f begun within same tells built =
    Built-gap out x to f built within (λ b y l k. tells b y (omega arith) k ∙ same b y l)

-- what is left after the first entry
pub run_rest : (lo hi : ℕ) (e : Entry) (es : List Entry) → IsRunIn lo hi (e ∷ es) → IsRunIn lo hi es
run_rest lo hi e es run = IsRunIn-lower lo (e.off + e.len) hi es (omega (arith, run.0)) run.1

-- shows the same from its end on
pub same_rest : (run after : List Entry) (e : Entry) (x z : ℕ) → x ≤ z → e.off + e.len ≤ z → SameFrom x run (e ∷ after) → SameFrom z run after
same_rest run after e x z h past same = λ b y k. same b y (omega arith) ∙ first_past e after z past b y k

pub nothing : (es : List Entry) → length es ≡ 0 → es ≡ []
nothing [] none = refl
nothing (e ∷ es) none = absurd (omega arith)
