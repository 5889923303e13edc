-- How a check ends.
use Rattle.std.proofs.Common.{◌≡◌, ◌⊎◌, ◌≤◌, ℕ, List, [], Some, Result, Ok, Err, refl, ap, subst, arith, inl, inr}
use Rattle.wtf_dev.specs.Streams.{SourceView, SinkView}
use Rattle.wtf_script.specs.Reading.{Held}
use Rattle.wtf_checker.specs.declared.stop.Stop.{Stop}
use Rattle.wtf_checker.specs.declared.stop.Stop.TheVariants as stop
use Rattle.wtf_checker.specs.declared.verdict.Verdict.{Verdict}
use Rattle.wtf_checker.specs.declared.verdict.Verdict.TheVariants as verdict
use Rattle.wtf_checker.specs.Lawful.{IsVerdict}
use Rattle.wtf_checker.specs.Sources.{HasTaken}
use Rattle.wtf_checker.specs.Reading.{IsRead, HasStopped}
use Rattle.wtf_checker.specs.Judging.{Judges}
use Rattle.wtf_checker.specs.Checked.{check_stop_status, streams, HaveRead, verdict_status, WroteVerdict, HasJudged, IsCheckStatus, IsChecked}
use Rattle.wtf_checker.proofs.Scripted.{gave_none}

-- the output could not be read
pub have_no_output : {A : Type 0} (s o o' : SourceView) (why : Stop) → HasTaken {A = A} o o' (Err why) → HaveRead s s o o' (Err why)
have_no_output s o o' why t = record {
  script_taken = 0;
  output_taken = t.taken;
  script_gave = gave_none s;
  output_gave = t.gave;
  limit = (
    λ e. inr (t.limit.0 (cc)),
    λ h. elim h [
      | inl a ↦ absurd (omega (arith, a))
      | inr b ↦ let e : why
          ≡ stop.TooMuch = (let r = t.limit.1 b in cc) in cc
    ],
  );
  script_cause = λ e. let is : why ≡ stop.Unread = cc in absurd (elim (t.is why refl) [ inl a ↦ cc | inr b ↦ elim b [ inl a ↦ cc | inr a ↦ cc ] ]);
  output_cause = λ e. t.cause (cc);
  read_alone = λ e. let is : why ≡ stop.Unwritten = cc in absurd (elim (t.is why refl) [ inl a ↦ cc | inr b ↦ elim b [ inl a ↦ cc | inr a ↦ cc ] ]);
  judged = λ v e. absurd (cc);
}

-- no memory was found to read the script
pub have_no_memory : {A : Type 0} (s o o' : SourceView) (x : A) → HasTaken o o' (Ok x) → HaveRead s s o o' (Err stop.Memory)
have_no_memory s o o' x t = record {
  script_taken = 0;
  output_taken = t.taken;
  script_gave = gave_none s;
  output_gave = t.gave;
  limit = (λ e. absurd (cc), λ h. elim h [ inl a ↦ absurd (omega (arith, a)) | inr b ↦ let e = t.limit.1 b in absurd (cc) ]);
  script_cause = λ e. absurd (cc);
  output_cause = λ e. absurd (cc);
  read_alone = λ e. absurd (cc);
  judged = λ v e. absurd (cc);
}

-- the script could not be read
pub have_no_script : {A : Type 0} (s s' o o' : SourceView) (held : Held) (why : Stop) (x : A) → HasTaken o o' (Ok x) → HasStopped s s' held why
    → HaveRead s s' o o' (Err why)
have_no_script s s' o o' held why x t h = record {
  script_taken = held.count;
  output_taken = t.taken;
  script_gave = h.gave;
  output_gave = t.gave;
  limit = (
    λ e. inl (h.limit.0 (cc)),
    λ r. elim r [ inl a ↦ let e : why ≡ stop.TooMuch = h.limit.1 a in cc | inr b ↦ let e = t.limit.1 b in absurd (cc) ],
  );
  script_cause = λ e. h.cause (cc);
  output_cause = λ e. let is : why ≡ stop.Unanswered = cc in absurd (elim h.is [ inl a ↦ cc | inr b ↦ elim b [ inl a ↦ cc | inr a ↦ cc ] ]);
  read_alone = λ e. let is : why ≡ stop.Unwritten = cc in absurd (elim h.is [ inl a ↦ cc | inr b ↦ elim b [ inl a ↦ cc | inr a ↦ cc ] ]);
  judged = λ v e. absurd (cc);
}

-- both were read
pub have_both : {A : Type 0} (s s' o o' : SourceView) (x : A) (held : Held) (lines : List (List ℕ)) (bytes : List ℕ) (v : Verdict) → HasTaken o o' (Ok x)
    → IsRead s s' held lines → Judges s bytes (Ok v)
    → ((all : List ℕ) → o.rest ≡ Some all → (bytes ≡ all) × (o'.rest ≡ Some [])) → HaveRead s s' o o' (Ok v)
have_both s s' o o' x held lines bytes v t r judges told = record {
  script_taken = held.count;
  output_taken = t.taken;
  script_gave = r.reading.gave;
  output_gave = t.gave;
  limit = (λ e. absurd (cc), λ h. elim h [ inl a ↦ absurd (omega (arith, a, r.reading.limit)) | inr b ↦ let e = t.limit.1 b in absurd (cc) ]);
  script_cause = λ e. absurd (cc);
  output_cause = λ e. absurd (cc);
  read_alone = λ e. absurd (cc);
  judged = λ w e script output hs ho.
      let same : v ≡ w = cc in
      let all = told output ho in (
        subst (λ (x : Verdict). IsVerdict script output x) same (subst (λ (b : List ℕ). IsVerdict script b v) all.0 (judges script hs)),
        (r.whole script hs).1,
        all.1,
      );
}

-- ---- the status

low : (v : Verdict) → verdict_status v ≤ 1
low (verdict.Lawful n) = omega arith
low (verdict.Refused k) = omega arith

not_past : (status : ℕ) (v : Verdict) → (status ≡ verdict_status v) ⊎ (status ≡ 4) ⊎ (status ≡ 7) → (status ≡ 3) ⊎ (status ≡ 5) ⊎ (status ≡ 9) → ⊥
not_past status v is e = omega (arith, low v, is, e)

judged_so : (s s' o o' : SourceView) (k k' : SinkView) (v : Verdict) (status : ℕ) → HaveRead s s' o o' (Ok v) → WroteVerdict v k k' status
    → (script output text : List ℕ) → s.rest ≡ Some script → o.rest ≡ Some output → k.taken ≡ Some text
    → HasJudged (streams s o k) (streams s' o' k') script output text status
judged_so s s' o o' k k' (verdict.Lawful n) status h w script output text hs ho hk = record {
  lawful = λ e. (n, (h.judged (verdict.Lawful n) refl script output hs ho).0, w.wrote e text hk);
  refused = λ e. absurd (omega (arith, e, w.status_is));
  whole = λ e. let j = h.judged (verdict.Lawful n) refl script output hs ho in (j.1, j.2);
  cut = λ e. (verdict.Lawful n, (h.judged (verdict.Lawful n) refl script output hs ho).0, w.cut e text hk);
}
judged_so s s' o o' k k' (verdict.Refused n) status h w script output text hs ho hk = record {
  lawful = λ e. absurd (omega (arith, e, w.status_is));
  refused = λ e. (n, (h.judged (verdict.Refused n) refl script output hs ho).0, w.wrote e text hk);
  whole = λ e. let j = h.judged (verdict.Refused n) refl script output hs ho in (j.1, j.2);
  cut = λ e. (verdict.Refused n, (h.judged (verdict.Refused n) refl script output hs ho).0, w.cut e text hk);
}

status_in : (v : Verdict) (status : ℕ) → (status ≡ verdict_status v) ⊎ (status ≡ 4) ⊎ (status ≡ 7) → IsCheckStatus status
status_in (verdict.Lawful n) status (inl e) = inl e
status_in (verdict.Refused n) status (inl e) = inr (inl e)
status_in v status (inr (inl e)) = inr (inr (inr (inl e)))
status_in v status (inr (inr e)) = inr (inr (inr (inr (inr (inl e)))))

-- a verdict was told, or could not be
pub checked_told : (s s' o o' : SourceView) (k k' : SinkView) (v : Verdict) (status : ℕ) → HaveRead s s' o o' (Ok v) → WroteVerdict v k k' status
    → IsChecked status (streams s o k) (streams s' o' k')
checked_told s s' o o' k k' v status h w = record {
  status_is = status_in v status w.status_is;
  script_taken = h.script_taken;
  output_taken = h.output_taken;
  script_gave = h.script_gave;
  output_gave = h.output_gave;
  limit = (λ e. absurd (not_past status v w.status_is (inr (inr e))), λ r. let e = h.limit.1 r in absurd (cc));
  script_cause = λ e. absurd (not_past status v w.status_is (inl e));
  sink_cause = w.cause;
  output_cause = λ e. absurd (not_past status v w.status_is (inr (inl e)));
  sink_faults = w.faults;
  unwritten = λ e. w.short (omega (arith, e, low v, w.status_is));
  judged = judged_so s s' o o' k k' v status h w;
}

-- there is no verdict
stopped_status : (why : Stop) → (why ≡ stop.Unwritten → ⊥) → IsCheckStatus (check_stop_status why)
stopped_status stop.Unread h = inr (inr (inl refl))
stopped_status stop.Unwritten h = absurd (h refl)
stopped_status stop.Unanswered h = inr (inr (inr (inr (inl refl))))
stopped_status stop.Memory h = inr (inr (inr (inr (inr (inl refl)))))
stopped_status stop.TooMuch h = inr (inr (inr (inr (inr (inr refl)))))

not_verdict : (why : Stop) → 2 ≤ check_stop_status why
not_verdict stop.Unread = omega arith
not_verdict stop.Unwritten = omega arith
not_verdict stop.Unanswered = omega arith
not_verdict stop.Memory = omega arith
not_verdict stop.TooMuch = omega arith

is_3 : (why : Stop) → check_stop_status why ≡ 3 → why ≡ stop.Unread
is_3 stop.Unread e = refl
is_3 stop.Unwritten e = absurd (omega (arith, e))
is_3 stop.Unanswered e = absurd (omega (arith, e))
is_3 stop.Memory e = absurd (omega (arith, e))
is_3 stop.TooMuch e = absurd (omega (arith, e))

is_4 : (why : Stop) → check_stop_status why ≡ 4 → why ≡ stop.Unwritten
is_4 stop.Unread e = absurd (omega (arith, e))
is_4 stop.Unwritten e = refl
is_4 stop.Unanswered e = absurd (omega (arith, e))
is_4 stop.Memory e = absurd (omega (arith, e))
is_4 stop.TooMuch e = absurd (omega (arith, e))

is_5 : (why : Stop) → check_stop_status why ≡ 5 → why ≡ stop.Unanswered
is_5 stop.Unread e = absurd (omega (arith, e))
is_5 stop.Unwritten e = absurd (omega (arith, e))
is_5 stop.Unanswered e = refl
is_5 stop.Memory e = absurd (omega (arith, e))
is_5 stop.TooMuch e = absurd (omega (arith, e))

is_9 : (why : Stop) → check_stop_status why ≡ 9 → why ≡ stop.TooMuch
is_9 stop.Unread e = absurd (omega (arith, e))
is_9 stop.Unwritten e = absurd (omega (arith, e))
is_9 stop.Unanswered e = absurd (omega (arith, e))
is_9 stop.Memory e = absurd (omega (arith, e))
is_9 stop.TooMuch e = refl

err_is : (a b : Stop) → a ≡ b → ◌≡◌ {A = Result Verdict Stop} (Err a) (Err b)
err_is a b e = ap (λ (x : Stop). Err x) e

is_err : (a b : Stop) → ◌≡◌ {A = Result Verdict Stop} (Err a) (Err b) → a ≡ b
is_err a b e = cc

pub checked_stopped : (s s' o o' : SourceView) (k : SinkView) (why : Stop) → HaveRead s s' o o' (Err why)
    → IsChecked (check_stop_status why) (streams s o k) (streams s' o' k)
checked_stopped s s' o o' k why h =
    let written : why ≡ stop.Unwritten → ⊥ = λ e. h.read_alone (err_is why stop.Unwritten e) in
    record {
      status_is = stopped_status why written;
      script_taken = h.script_taken;
      output_taken = h.output_taken;
      script_gave = h.script_gave;
      output_gave = h.output_gave;
      limit = (λ e. h.limit.0 (err_is why stop.TooMuch (is_9 why e)), λ r. ap check_stop_status (is_err why stop.TooMuch (h.limit.1 r)));
      script_cause = λ e. h.script_cause (err_is why stop.Unread (is_3 why e));
      sink_cause = λ e. absurd (written (is_4 why e));
      output_cause = λ e. h.output_cause (err_is why stop.Unanswered (is_5 why e));
      sink_faults = omega arith;
      unwritten = λ e. refl;
      judged = λ script output text hs ho hk. record {
        lawful = λ e. absurd (omega (arith, e, not_verdict why));
        refused = λ e. absurd (omega (arith, e, not_verdict why));
        whole = λ e. absurd (omega (arith, e, not_verdict why));
        cut = λ e. absurd (written (is_4 why e));
      };
    }
