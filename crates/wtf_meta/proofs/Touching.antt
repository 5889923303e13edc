-- The regions that a range touches, part by part, and files that agree on what was recorded of one.
use Rattle.std.proofs.Common.{◌≡◌, ℕ, zero, suc, ◌+◌, ◌-◌, ◌*◌, ◌/◌, ◌%◌, ◌<◌, ◌≤◌, ◌⊎◌, ◌++◌, nat_lt, List, [], ◌∷◌, refl, ap, sym, ◌∙◌, subst, arith, inl}
use Rattle.std.proofs.Common.{inr}
use Rattle.std.proofs.lemmas.Bool.{cases_eq, cond-true, lt-ltb}
use Rattle.std.proofs.Math.Nat.{div-mul-le_self}
use Rattle.std.proofs.lemmas.Nat.{div-mul-add, div_below, le-div}
use Rattle.wtf_base.specs.declared.ids.InodeId.{InodeId}
use Rattle.wtf_kv.specs.Edits.{Agree}
use Rattle.wtf_overlay.specs.declared.part.Piece.{Piece}
use Rattle.wtf_overlay.specs.Origin.{Plans}
use Rattle.wtf_meta.specs.Lists.{Lists}
use Rattle.wtf_meta.specs.Files.{FileView, region_origin, file_origin, file_len, end_of}
use Rattle.wtf_meta.specs.Maps.{Map}
use Rattle.wtf_meta.specs.FileEdits.{last_of, region_of, file_of}
use Rattle.wtf_meta.specs.Appends.{FileKey, OfLast, OfRegion, keys_of, AgreeOn, length_keys, count_from, touched, region_keys}

count_from-push : (a n : ℕ) → count_from a (suc n) ≡ count_from a n ++ (a + n) ∷ []
count_from-push a zero = ap (λ k. k ∷ []) (let e : a ≡ a + 0 = omega arith in e)
count_from-push a (suc n) = ap (λ l. a ∷ l) (count_from-push (a + 1) n
    ∙ ap (λ k. count_from (a + 1) n ++ k ∷ []) (let e : a + 1 + n ≡ a + suc n = omega arith in e))

-- the regions of n bytes of which the last is at k - 1 of region r
touched_upto : (b off n r k m : ℕ) → 0 < n → r * b + k ≡ off + n → 0 < k → k ≤ b → r + 1 - off / b ≡ m → touched b off n ≡ count_from (off / b) m
touched_upto b off n r k m some at pos within is =
    let last : (off + n - 1) / b ≡ r = ap (λ x. x / b) (let e : off + n - 1 ≡ r * b + (k - 1) = omega arith in e) ∙ div-mul-add r b (k - 1) (omega arith) in
    cond-true (nat_lt 0 n) (count_from (off / b) ((off + n - 1) / b + 1 - off / b)) [] (lt-ltb 0 n some) ∙ ap (count_from (off / b)) (omega (arith, last))

-- the first part
touched_first : (b off r s n : ℕ) → r * b + s ≡ off → s + n ≤ b → 0 < n → touched b off n ≡ r ∷ []
touched_first b off r s n at within some =
    let first : off / b ≡ r = ap (λ x. x / b) (sym at) ∙ div-mul-add r b s (omega arith) in
    touched_upto b off n r (s + n) 1 some (omega arith) (omega arith) within (omega (arith, first)) ∙ ap (λ k. k ∷ []) first

-- a part that begins a region
touched_next : (b off done r n : ℕ) → 0 < b → 0 < done → r * b ≡ off + done → n ≤ b → 0 < n → touched b off (done + n) ≡ touched b off done ++ r ∷ []
touched_next b off done zero n pos some at within more = absurd (omega arith)
touched_next b off done (suc q) n pos some at within more =
    let low : off / b ≤ q = omega (arith, div_below off b (q + 1) pos (omega arith)) in
    let m = q + 1 - off / b in
    touched_upto b off (done + n) (suc q) n (suc m) (omega arith) (omega arith) more within (omega arith)
    ∙ count_from-push (off / b) m ∙ ap (λ l. l ++ (off / b + m) ∷ []) (sym (touched_upto b off done q b m some (omega arith) pos (omega arith) refl))
    ∙ ap (λ k. touched b off done ++ k ∷ []) (omega arith)

-- one part more, which begins the range or a region
pub touched-more : (b off done r s n : ℕ) → 0 < b → r * b + s ≡ off + done → s + n ≤ b → 0 < n → (done ≡ 0) ⊎ (s ≡ 0)
    → touched b off (done + n) ≡ touched b off done ++ r ∷ []
touched-more b off done r s n pos at within some (inl first) =
    subst (λ d. touched b off (d + n) ≡ touched b off d ++ r ∷ []) (sym first)
    (ap (touched b off) (omega arith) ∙ touched_first b off r s n (omega arith) within some)
touched-more b off done r s n pos at within some (inr start) = elim (cases_eq done 0) [
  | inl none ↦ subst (λ d. touched b off (d + n) ≡ touched b off d ++ r ∷ []) (sym none)
      (ap (touched b off) (omega arith) ∙ touched_first b off r s n (omega arith) within some)
  | inr more ↦ touched_next b off done r n pos (omega arith) (omega arith) (omega arith) some
]

-- a file that agrees on its last region has the length that was read
pub agree_len : (b : ℕ) (read v : FileView) → AgreeOn (length_keys read) read v → file_len b v ≡ file_len b read
agree_len b read v agree =
    let at : v.region v.last ≡ read.region read.last = ap v.region (sym agree.0) ∙ sym agree.1.0 in
    ap (λ l. l * b + end_of (v.region v.last)) (sym agree.0) ∙ ap (λ w. read.last * b + end_of w) at

agree_count : (a m r : ℕ) (v w : FileView) → AgreeOn (region_keys (count_from a m)) v w → a ≤ r → r < a + m → v.region r ≡ w.region r
agree_count a zero r v w h low high = absurd (omega arith)
agree_count a (suc m) r v w h low high = elim (cases_eq a r) [
  | inl e ↦ subst (λ k. v.region k ≡ w.region k) e h.0
  | inr differ ↦ agree_count (a + 1) m r v w h.1 (omega arith) (omega arith)
]

-- files that agree on the regions that a range touches have its bytes at the same places
pub agree_origin : (b off n i : ℕ) (lists : Lists) (v w : FileView) → 0 < b → i < n → AgreeOn (region_keys (touched b off n)) v w
    → file_origin b lists v (off + i) ≡ file_origin b lists w (off + i)
agree_origin b off n i lists v w pos h agree =
    let keys : touched b off n ≡ count_from (off / b) ((off + n - 1) / b + 1 - off / b) = cond-true (nat_lt 0 n) _ _ (lt-ltb 0 n (omega arith)) in
    let low : off / b ≤ (off + i) / b = le-div (off / b) (off + i) b pos (omega (arith, div-mul-le_self off b)) in
    let high : (off + i) / b ≤ (off + n - 1) / b = le-div ((off + i) / b) (off + n - 1) b pos (omega (arith, div-mul-le_self (off + i) b)) in
    let same : v.region ((off + i) / b) ≡ w.region ((off + i) / b) =
    agree_count (off / b) ((off + n - 1) / b + 1 - off / b) ((off + i) / b) v w (subst (λ rs. AgreeOn (region_keys rs) v w) keys agree) low (omega arith) in
    ap (λ o. region_origin lists o ((off + i) % b)) same

-- and so a plan of the one is a plan of the other
pub agree_plans : (b off n : ℕ) (lists : Lists) (v w : FileView) (ps : List Piece) → 0 < b → AgreeOn (region_keys (touched b off n)) v w
    → Plans ps n (λ i. file_origin b lists v (off + i)) → Plans ps n (λ i. file_origin b lists w (off + i))
agree_plans b off n lists v w ps pos agree plans = record { len = plans.len; origin = λ i h. plans.origin i h ∙ agree_origin b off n i lists v w pos h agree }

-- maps that agree on a file's keys show files that agree on them
pub agree_file : (i : InodeId) (ks : List FileKey) (u w : Map) → Agree (keys_of i ks) u w → AgreeOn ks (file_of i u) (file_of i w)
agree_file i [] u w h = tt
agree_file i (OfLast ∷ ks) u w h = (sym (ap last_of h.0), agree_file i ks u w h.1)
agree_file i (OfRegion r ∷ ks) u w h = (sym (ap region_of h.0), agree_file i ks u w h.1)

-- and so files of one length
pub agree_file_len : (b : ℕ) (i : InodeId) (u w : Map) → Agree (keys_of i (length_keys (file_of i u))) u w → file_len b (file_of i w) ≡ file_len b (file_of i u)
agree_file_len b i u w h = agree_len b (file_of i u) (file_of i w) (agree_file i (length_keys (file_of i u)) u w h)

-- and the bytes of a range at the same places
pub agree_file_plans : (b off n : ℕ) (lists : Lists) (i : InodeId) (u w : Map) (ps : List Piece) → 0 < b → Agree (keys_of i (region_keys (touched b off n))) u w
    → Plans ps n (λ k. file_origin b lists (file_of i u) (off + k)) → Plans ps n (λ k. file_origin b lists (file_of i w) (off + k))
agree_file_plans b off n lists i u w ps pos h plans = agree_plans b off n lists (file_of i u) (file_of i w) ps pos
    (agree_file i (region_keys (touched b off n)) u w h) plans
