-- The bytes of a file that was written, appended to, truncated or punched.
use Rattle.std.proofs.Common.{◌≡◌, ℕ, ◌+◌, ◌-◌, ◌<◌, ◌++◌, max, List, [], length, get_or, Some, ap, sym, ◌∙◌, arith, inl, inr, length-append}
use Rattle.std.proofs.lemmas.Bool.{cases_lt}
use Rattle.std.proofs.lemmas.List.{get_or_past, get_or_append_left, get_or-append_right}
use Rattle.wtf_overlay.specs.Origin.{Place}
use Rattle.wtf_overlay.specs.Meaning.{meaning}
use Rattle.wtf_model.specs.ByteCalls.{written, resized, zeroed}
use Rattle.wtf_model.proofs.Laws.{length-written, written_before, written_within, written_after}
use Rattle.wtf_meta.specs.Files.{FileView, IsFile, file_len, file_origin, laid}
use Rattle.wtf_meta.specs.Contents.{Told, TellBytes, HasBytes, lists_in}
use Rattle.wtf_meta.specs.FileEdits.{FileEdit, after}
use Rattle.wtf_meta.specs.Ranges.{Lays, Truncates, Clears}
use Rattle.wtf_meta.specs.Appends.{AddedTo}
use Rattle.wtf_meta.proofs.Laid.{grown_some, grown_none, cut_below, cut_past, laid_before, laid_within, laid_after}
use Rattle.wtf_meta.proofs.ByteLists.{length-resized, resized_at, length-zeroed, zeroed_before, zeroed_within, zeroed_after}

-- what is laid over places tells the bytes that are written over bytes
pub laid_tells : (told : Told) (off n : ℕ) (f g : ℕ → List Place) (new old : List ℕ) → TellBytes told n f new
    → ((x : ℕ) → meaning told (g x) ≡ Some (get_or old x 0))
    → (x : ℕ) → meaning told (laid off n f g x) ≡ Some (get_or (written old off new) x 0)
laid_tells told off n f g new old tell below x =
    let len : n ≡ length new = tell.len in
    elim (cases_lt x off) [
      | inl l ↦ ap (meaning told) (laid_before off n f g x l) ∙ below x ∙ ap Some (sym (written_before old off new x l))
      | inr from ↦ elim (cases_lt x (off + n)) [
        | inl to ↦ ap (meaning told) (laid_within off n f g x from to) ∙ tell.tells (x - off) (omega arith)
            ∙ ap Some (sym (written_within old off new x from (omega arith)))
        | inr p ↦ ap (meaning told) (laid_after off n f g x p) ∙ below x ∙ ap Some (sym (written_after old off new x (omega arith)))
      ]
    ]

-- bytes that are laid over a file are written over its bytes
pub Lays-bytes : (told : Told) (b : ℕ) (ds : List FileEdit) (off n : ℕ) (f : ℕ → List Place) (v : FileView) (old new : List ℕ) → 0 < n → Lays b ds off n f
    → IsFile b v
    → TellBytes told n f new → HasBytes told b v old → HasBytes told b (after ds v) (written old off new)
Lays-bytes told b ds off n f v old new some lays is tell has = record {
  len = lays.len v is ∙ grown_some (file_len b v) off n some
      ∙ (let d : max (file_len b v) (off + n) ≡ length (written old off new) = omega (arith, has.len, tell.len, length-written old off new) in d);
  tells = λ x. ap (meaning told) (lays.origin (lists_in b told) v is x) ∙ laid_tells told off n f (file_origin b (lists_in b told) v) new old tell has.tells x;
}

-- no byte changes nothing
pub Lays-no_bytes : (told : Told) (b : ℕ) (ds : List FileEdit) (off n : ℕ) (f : ℕ → List Place) (v : FileView) (old : List ℕ) → n ≡ 0 → Lays b ds off n f
    → IsFile b v
    → HasBytes told b v old → HasBytes told b (after ds v) old
Lays-no_bytes told b ds off n f v old none lays is has = record {
  len = lays.len v is ∙ grown_none (file_len b v) off n none ∙ has.len;
  tells = λ x. ap (meaning told) (lays.origin (lists_in b told) v is x) ∙ elim (cases_lt x off) [
    | inl l ↦ ap (meaning told) (laid_before off n f (file_origin b (lists_in b told) v) x l) ∙ has.tells x
    | inr from ↦ ap (meaning told) (laid_after off n f (file_origin b (lists_in b told) v) x (omega arith)) ∙ has.tells x
  ];
}

-- bytes that are added come behind the others
pub AddedTo-bytes : (told : Told) (b : ℕ) (ds : List FileEdit) (n : ℕ) (f : ℕ → List Place) (v : FileView) (old new : List ℕ) → AddedTo b ds n f v
    → TellBytes told n f new → HasBytes told b v old → HasBytes told b (after ds v) (old ++ new)
AddedTo-bytes told b ds n f v old new added tell has =
    let end : file_len b v ≡ length old = has.len in
    let more : n ≡ length new = tell.len in
    let g = file_origin b (lists_in b told) v in
    record {
      len = added.len ∙ omega (arith, length-append old new);
      tells = λ x. ap (meaning told) (added.origin (lists_in b told) x) ∙ elim (cases_lt x (file_len b v)) [
        | inl l ↦ ap (meaning told) (laid_before (file_len b v) n f g x l) ∙ has.tells x ∙ ap Some (sym (get_or_append_left old new 0 x (omega arith)))
        | inr from ↦ elim (cases_lt x (file_len b v + n)) [
          | inl to ↦ ap (meaning told) (laid_within (file_len b v) n f g x from to) ∙ tell.tells (x - file_len b v) (omega arith)
              ∙ ap Some (sym (get_or-append_right old new (file_len b v) x 0 (sym end) from))
          | inr past ↦ ap (meaning told) (laid_after (file_len b v) n f g x past) ∙ has.tells x
              ∙ ap Some (get_or_past old x 0 (omega arith) ∙ sym (get_or_past (old ++ new) x 0 (omega (arith, length-append old new))))
        ]
      ];
    }

-- a file that is truncated has its bytes cut or padded
pub Truncates-bytes : (told : Told) (b : ℕ) (ds : List FileEdit) (n : ℕ) (v : FileView) (old : List ℕ) → Truncates b ds n → IsFile b v
    → HasBytes told b v old → HasBytes told b (after ds v) (resized old n)
Truncates-bytes told b ds n v old cut is has = record {
  len = cut.len v is ∙ sym (length-resized old n);
  tells = λ x. ap (meaning told) (cut.origin (lists_in b told) v is x) ∙ elim (cases_lt x n) [
    | inl l ↦ ap (meaning told) (cut_below n (file_origin b (lists_in b told) v) x l) ∙ has.tells x ∙ ap Some (sym (resized_at old n x l))
    | inr past ↦ ap (meaning told) (cut_past n (file_origin b (lists_in b told) v) x past)
        ∙ ap Some (sym (get_or_past (resized old n) x 0 (omega (arith, length-resized old n))))
  ];
}

-- a file in which holes are made has zeros there
pub Clears-bytes : (told : Told) (b : ℕ) (ds : List FileEdit) (off n : ℕ) (v : FileView) (old : List ℕ) → Clears b ds off n → IsFile b v
    → HasBytes told b v old → HasBytes told b (after ds v) (zeroed old off n)
Clears-bytes told b ds off n v old clears is has =
    let g = file_origin b (lists_in b told) v in
    record {
      len = clears.len v is ∙ has.len ∙ sym (length-zeroed old off n);
      tells = λ x. ap (meaning told) (clears.origin (lists_in b told) v is x) ∙ elim (cases_lt x off) [
        | inl l ↦ ap (meaning told) (laid_before off n (λ i. []) g x l) ∙ has.tells x ∙ ap Some (sym (zeroed_before old off n x l))
        | inr from ↦ elim (cases_lt x (off + n)) [
          | inl to ↦ ap (meaning told) (laid_within off n (λ i. []) g x from to) ∙ ap Some (sym (zeroed_within old off n x from to))
          | inr past ↦ ap (meaning told) (laid_after off n (λ i. []) g x past) ∙ has.tells x ∙ ap Some (sym (zeroed_after old off n x past))
        ]
      ];
    }
