-- How the lines that read a file come to be written.
use Rattle.std.proofs.Common.{◌≡◌, ℕ, ◌+◌, ◌≤◌, List, [], ◌∷◌, ◌++◌, Option, Some, sym, ap, ◌∙◌, arith, append_assoc}
use Rattle.std.proofs.lemmas.List.{length-append}
use Rattle.std.proofs.lemmas.List.Elements.{All-nil, All-cons, All-append, All-weaker}
use Rattle.wtf_path.specs.Grammar.{IsPath}
use Rattle.wtf_model.specs.declared.limits.TheConstants.{MAX_NUMBER}
use Rattle.wtf_carry.specs.Asked.{Asked, Asks, asked_text, turn, carried, shows, begin_line, abort_line, open_line, read_line}
use Rattle.wtf_carry.specs.Reads.{IsShare, ReadsWholeFile, ReadSofar}
use Rattle.wtf_carry.proofs.Events.{begin-asks, abort-asks, open-asks, read-asks}
use Rattle.wtf_carry.proofs.Carried.{text_of-append, total-push, carried-push, carried-asks}

joined_text : (old : List ℕ) (xs ys : List Asked) → (old ++ asked_text xs) ++ asked_text ys ≡ old ++ asked_text (xs ++ ys)
joined_text old xs ys = append_assoc old (asked_text xs) (asked_text ys) ∙ ap (λ (l : List ℕ). old ++ l) (sym (text_of-append xs ys))

pub read_sofar-more : (path old : List ℕ) (i at n : ℕ) (new new' : Option (List ℕ)) (s : ReadSofar path old i at new) → IsShare n
    → new' ≡ Some ((old ++ asked_text (begin_line ∷ open_line path ∷ carried shows path 0 0 s.sizes))
    ++ asked_text (turn abort_line path i at ++ read_line n ∷ []))
    → ReadSofar path old (i + 1) (at + n) new'
read_sofar-more path old i at n new new' s is to =
    let before = carried shows path 0 0 s.sizes in
    let more = turn abort_line path i at ++ read_line n ∷ [] in
    record {
      sizes = s.sizes ++ n ∷ [];
      each = All-append IsShare s.sizes (n ∷ []) s.each (All-cons IsShare n [] is (All-nil IsShare));
      count = omega (arith, length-append s.sizes (n ∷ []), s.count);
      size = omega (arith, total-push (λ (m : ℕ). m) s.sizes n, s.size);
      new_is = to ∙ ap Some (joined_text old (begin_line ∷ open_line path ∷ before) more
          ∙ ap (λ (xs : List Asked). old ++ asked_text (begin_line ∷ open_line path ∷ xs))
          (sym (carried-push shows path 0 0 s.sizes n i at (omega (arith, s.count)) (omega (arith, s.size)))));
    }

share-asks : (n : ℕ) → IsShare n → Asks (read_line n)
share-asks n is = read-asks n is.1

pub read_sofar-end : (path old : List ℕ) (i at len : ℕ) (new then : Option (List ℕ)) (s : ReadSofar path old i at new) → IsPath path → at ≡ len
    → len ≤ MAX_NUMBER
    → then ≡ Some ((old ++ asked_text (begin_line ∷ open_line path ∷ carried shows path 0 0 s.sizes)) ++ asked_text (abort_line ∷ []))
    → ReadsWholeFile path len old then
read_sofar-end path old i at len new then s is all fits last =
    let before = carried shows path 0 0 s.sizes in
    let P : ℕ → Type 0 = λ n. Asks (read_line n) in
    record {
      sizes = s.sizes;
      size = omega (arith, s.size, all);
      each = s.each;
      new_is = last ∙ ap Some (joined_text old (begin_line ∷ open_line path ∷ before) (abort_line ∷ []));
      asks = All-cons Asks begin_line (open_line path ∷ (before ++ abort_line ∷ [])) begin-asks
          (All-cons Asks (open_line path) (before ++ abort_line ∷ []) (open-asks path is)
          (All-append Asks before (abort_line ∷ [])
          (carried-asks shows path 0 0 s.sizes abort-asks is (omega (arith, s.size, all)) (All-weaker IsShare P share-asks s.sizes s.each))
          (All-cons Asks abort_line [] abort-asks (All-nil Asks))));
    }
