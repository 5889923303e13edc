-- A text cut at the place of its last slash.
use Rattle.std.proofs.Common.{suc, ◌≡◌, ◌≢◌, ℕ, ◌+◌, ◌-◌, ◌<◌, List, ◌∷◌, length, get_or, take, drop, sym, ap, ◌∙◌, arith, length-drop, add-one, drop-cons}
use Rattle.std.proofs.lemmas.List.{take-append-drop, get_or-drop, take_all}
use Rattle.std.proofs.lemmas.List.Elements.{All-from_get_or}
use Rattle.wtf_path.specs.Slashes.{IsAroundLast}

pub around-from_last : (text : List ℕ) (at : ℕ) → at < length text → get_or text at 0 ≡ 47
    → ((k : ℕ) → at < k → k < length text → get_or text k 0 ≢ 47)
    → IsAroundLast text (take at text) (take (length text - (at + 1)) (drop (at + 1) text))
around-from_last text at within slash last =
    let whole : take (length text - (at + 1)) (drop (at + 1) text) ≡ drop (at + 1) text = take_all (length text - (at + 1)) (drop (at + 1) text) (omega (arith, length-drop (at + 1) text)) in
    let cons : drop at text ≡ 47 ∷ drop (at + 1) text = rw (add-one at) (drop-cons text at 0 within ∙ ap (λ b. b ∷ drop (suc at) text) slash) in
    rw whole record {
      joined = rw (← cons) (sym (take-append-drop at text));
      last = All-from_get_or (λ b. b ≢ 47) (drop (at + 1) text) 0
          (λ k h. rw (get_or-drop (at + 1) text k 0) (last (at + 1 + k) (omega arith) (omega (arith, length-drop (at + 1) text))));
    }
