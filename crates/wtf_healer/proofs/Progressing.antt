-- What is said of a pass, part by part.
use Rattle.std.proofs.Common.{◌≡◌, ℕ, zero, suc, ◌<◌, ◌≤◌, ◌%◌, ◌++◌, List, [], ◌∷◌, Some, Result, Ok, Err, refl, sym, ap, ◌∙◌, arith, append_assoc}
use Rattle.std.specs.Prelude.{IfOk}
use Rattle.std.proofs.lemmas.List.{append-nil}
use Rattle.std.proofs.lemmas.List.Elements.{All-nil, All-cons, All-append}
use Rattle.wtf_dev.specs.Counts.{Rose}
use Rattle.wtf_dev.specs.Streams.{SinkView, Takes}
use Rattle.wtf_healer.specs.Lines.{done_lines, ReportFront}
use Rattle.wtf_healer.specs.Progress.{Report, IsWhole, AreReports, written, IsProgress, TellsProgress}

-- nothing was written
pub no_progress : (n m : ℕ) → n ≤ m → (v : SinkView) → IsProgress n m v v
no_progress n m le v = record {
  faults = omega arith;
  reports = λ text taken. record {
    reports = [];
    rising = le;
    whole = λ none. All-nil IsWhole;
    taken = taken ∙ ap (λ (l : List ℕ). Some l) (sym (append-nil text));
  };
}

pub nothing_told : (v : SinkView) → TellsProgress v v
nothing_told v = (0, no_progress 0 0 (omega arith) v)

-- ---- one part behind another

further : (n m k : ℕ) (rs : List Report) → n ≤ m → AreReports m k rs → AreReports n k rs
further n m k [] le h = omega (arith, le, h)
further n m k (r ∷ rs) le h = let first = h.0 in (omega (arith, le, first), h.1, h.2, h.3)

join_reports : (n m k : ℕ) (rs ss : List Report) → AreReports n m rs → AreReports m k ss → AreReports n k (rs ++ ss)
join_reports n m k [] ss le h = further n m k ss le h
join_reports n m k (r ∷ rs) ss h more = (h.0, h.1, h.2, join_reports r.regions m k rs ss h.3 more)

join_written : (rs ss : List Report) → written (rs ++ ss) ≡ written rs ++ written ss
join_written [] ss = refl
join_written (r ∷ rs) ss = ap (λ (l : List ℕ). r.front ++ l) (join_written rs ss) ∙ sym (append_assoc r.front (written rs) (written ss))

pub progress_on : (n m k : ℕ) (old mid new : SinkView) → IsProgress n m old mid → IsProgress m k mid new → IsProgress n k old new
progress_on n m k old mid new one two = record {
  faults = (let a = one.faults in let b = two.faults in omega (arith, a, b));
  reports = λ text taken.
      let first = one.reports text taken in
      let later = two.reports (text ++ written first.reports) first.taken in
      record {
        reports = first.reports ++ later.reports;
        rising = join_reports n m k first.reports later.reports first.rising later.rising;
        whole = λ none. All-append IsWhole first.reports later.reports
            (first.whole (λ rose. none (λ low. let b = two.faults in let more = rose (omega (arith, low, b)) in omega (arith, more, b))))
            (later.whole (λ rose. none (λ low. let a = one.faults in let more = rose low in omega (arith, more, a))));
        taken = later.taken
            ∙ ap (λ (l : List ℕ). Some l) (append_assoc text (written first.reports) (written later.reports)
            ∙ ap (λ (l : List ℕ). text ++ l) (sym (join_written first.reports later.reports)));
      };
}

-- ---- one report

one_written : (r : Report) → r.front ≡ written (r ∷ [])
one_written r = sym (append-nil r.front)

-- a report was written, not all of it
pub report_cut : (n m bytes : ℕ) → n < m → m % 256 ≡ 0 → (old new : SinkView) → old.faults ≤ new.faults → Rose old.faults new.faults
    → ((text : List ℕ) → old.taken ≡ Some text → ReportFront text (done_lines m bytes) new.taken) → IsProgress n m old new
report_cut n m bytes less whole old new grows rose told = record {
  faults = grows;
  reports = λ text taken.
      let (front, back, is, now) = told text taken in
      let r : Report = record { regions = m; bytes = bytes; front = front } in
      record {
        reports = r ∷ [];
        rising = (less, whole, (back, is), omega arith);
        whole = λ none. absurd (none rose);
        taken = now ∙ ap (λ (l : List ℕ). Some (text ++ l)) (one_written r);
      };
}

-- a write of no byte takes none
none_taken : {E : Type 0} (r : Result ℕ E) (old : List ℕ) (new : SinkView) → IfOk r (λ n. n ≤ 0) → Takes r [] old new.taken → new.taken ≡ Some old
none_taken (Ok zero) old new few is = is ∙ ap (λ (l : List ℕ). Some l) (append-nil old)
none_taken (Ok (suc n)) old new few is = absurd (omega (arith, few))
none_taken (Err e) old new few is = is

-- a report was written whole, and brought out
pub report_whole : {E : Type 0} (n m bytes : ℕ) → n < m → m % 256 ≡ 0 → (old mid new : SinkView) → mid.faults ≡ old.faults → mid.faults ≤ new.faults
    → ((text : List ℕ) → old.taken ≡ Some text → mid.taken ≡ Some (text ++ done_lines m bytes)) → (r : Result ℕ E) → IfOk r (λ n. n ≤ 0)
    → ((text : List ℕ) → mid.taken ≡ Some text → Takes r [] text new.taken) → IsProgress n m old new
report_whole n m bytes less whole old mid new same grows told r few brought = record {
  faults = omega (arith, same, grows);
  reports = λ text taken.
      let lines : List ℕ = done_lines m bytes in
      let one : Report = record { regions = m; bytes = bytes; front = lines } in
      record {
        reports = one ∷ [];
        rising = (less, whole, ([], sym (append-nil lines)), omega arith);
        whole = λ none. All-cons IsWhole one [] refl (All-nil IsWhole);
        taken = none_taken r (text ++ lines) new few (brought (text ++ lines) (told text taken)) ∙ ap (λ (l : List ℕ). Some (text ++ l)) (one_written one);
      };
}
