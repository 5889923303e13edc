-- Each way through a call that changes a file, on all maps at once.
use Rattle.std.proofs.Common.{◌≡◌, ℕ, ◌+◌, ◌<◌, ◌≤◌, List, [], length, None, Some, refl, sym, ap, subst, arith}
use Rattle.wtf_base.specs.declared.ids.InodeId.{InodeId}
use Rattle.wtf_model.specs.declared.answer.Word.TheVariants.{NoHandle, TooBig}
use Rattle.wtf_model.specs.declared.answer.Answer.TheVariants as answer
use Rattle.wtf_model.specs.declared.op.Op.TheVariants as op
use Rattle.wtf_model.specs.ByteCalls.{resized, zeroed}
use Rattle.wtf_model.specs.Done.{Done, bytes_of_handle}
use Rattle.wtf_meta.specs.declared.session.Handle.{Handle}
use Rattle.wtf_meta.specs.Maps.{Map, with}
use Rattle.wtf_meta.specs.Contents.{is_told, is_listed}
use Rattle.wtf_meta.specs.FileEdits.{FileEdit, file_of, edits_of}
use Rattle.wtf_meta.specs.Ranges.{Clears}
use Rattle.wtf_meta.specs.Sessions.{SessionView, handle_in}
use Rattle.wtf_meta.specs.Calls.{Caller, cap_for, Did, IsDone, DoneOnEach, IsCall}
use Rattle.wtf_meta.proofs.BodyEdits.{body_resized, body_zeroed}
use Rattle.wtf_meta.proofs.FeetFiles.{lays_feet}
use Rattle.wtf_rw.specs.Sizes.{CutsTo, Zeroes}
use Rattle.wtf_rw.specs.Stored.{Answers}
use Rattle.wtf_steps.proofs.FitsAnywhere.{fits_anywhere}
use Rattle.wtf_model.proofs.ByteLaws.{truncate-open, truncate-big, punch-open, write-none, write-open, write-nothing, write-big}
use Rattle.wtf_steps.proofs.Ways.{only_keys, on_file, not_open, stays_bare}
use Rattle.wtf_steps.proofs.FileWays.{rewritten}
pub use Rattle.wtf_steps.proofs.FileWays.{file_len_cap}

-- keys, and changes of a file that bring no byte
abbrev pub changes : InodeId → List FileEdit → Did
changes i ds = record { keys = []; edits = edits_of i ds; facts = []; stored = []; lists = [] }

module _ (x : Caller) (b : Map) (s : SessionView) (f : ℕ) (h : Handle) (here : handle_in s f ≡ Some h) where
  module _ (n : ℕ) (ds : List FileEdit) (fit : n ≤ cap_for x) (cuts : CutsTo x.size h.inode n ds) where
    truncated_acts : DoneOnEach x b s s (changes h.inode ds) (op.Truncate f n) answer.Okay
    truncated_acts = λ told w S agree fits facts lists st holds.
        let on = on_file x told w s S st holds f h here in
        let old : List ℕ = bytes_of_handle S on.handle in
        subst (λ (d : Done). IsDone x told w (with (edits_of h.inode ds) w) s d answer.Okay) (sym (truncate-open (cap_for x) S f on.handle on.there n fit))
        (rewritten x told w s S st holds f h on ds (resized old n) (body_resized x.size told h.inode ds w n old cuts.truncates on.body)
        (cuts.names (is_told told) (is_listed x.size told)))

    pub truncates : IsCall x b s s (changes h.inode ds) (op.Truncate f n) answer.Okay
    truncates = record {
      fits = fits_anywhere h.inode ds b (cuts.truncates.fit (file_of h.inode b));
      names = λ P Q hole map old stored lists. record { edits = cuts.names P Q; facts = tt; slices = old; lists = tt };
      acts = truncated_acts;
      feet = lays_feet x b s f h here (changes h.inode ds) (op.Truncate f n) s truncated_acts (λ S. refl) ds refl refl
          (λ m. fits_anywhere h.inode ds m (cuts.truncates.fit (file_of h.inode m)));
    }

  pub truncates_too_far : (n : ℕ) → cap_for x < n → IsCall x b s s (only_keys []) (op.Truncate f n) (answer.Refused TooBig)
  truncates_too_far n past = stays_bare x b s (op.Truncate f n) (answer.Refused TooBig) (λ told w S st holds.
      let on = on_file x told w s S st holds f h here in
      truncate-big (cap_for x) S f on.handle on.there n past)

  module _ (n : ℕ) (ds : List FileEdit) (zeroes : Zeroes x.size h.inode h.off n ds) where
    punched_acts : DoneOnEach x b s s (changes h.inode ds) (op.Punch f n) answer.Okay
    punched_acts = λ told w S agree fits facts lists st holds.
        let on = on_file x told w s S st holds f h here in
        let old : List ℕ = bytes_of_handle S on.handle in
        let clears : Clears x.size ds on.handle.off n = subst (λ (o : ℕ). Clears x.size ds o n) (sym on.of.off) zeroes.clears in
        subst (λ (d : Done). IsDone x told w (with (edits_of h.inode ds) w) s d answer.Okay) (sym (punch-open (cap_for x) S f on.handle on.there n))
        (rewritten x told w s S st holds f h on ds (zeroed old on.handle.off n) (body_zeroed x.size told h.inode ds w on.handle.off n old clears on.body)
        (zeroes.names (is_told told) (is_listed x.size told)))

    pub punches : IsCall x b s s (changes h.inode ds) (op.Punch f n) answer.Okay
    punches = record {
      fits = fits_anywhere h.inode ds b (zeroes.clears.fit (file_of h.inode b));
      names = λ P Q hole map old stored lists. record { edits = zeroes.names P Q; facts = tt; slices = old; lists = tt };
      acts = punched_acts;
      feet = lays_feet x b s f h here (changes h.inode ds) (op.Punch f n) s punched_acts (λ S. refl) ds refl refl
          (λ m. fits_anywhere h.inode ds m (zeroes.clears.fit (file_of h.inode m)));
    }

  pub writes_nothing : (bytes : List ℕ) → length bytes ≡ 0 → IsCall x b s s (only_keys []) (op.Write f bytes) answer.Okay
  writes_nothing bytes none = stays_bare x b s (op.Write f bytes) answer.Okay (λ told w S st holds.
      let on = on_file x told w s S st holds f h here in
      write-nothing (cap_for x) S f on.handle on.there bytes none)

  pub writes_too_far : (bytes : List ℕ) → 0 < length bytes → cap_for x < h.off + length bytes
      → IsCall x b s s (only_keys []) (op.Write f bytes) (answer.Refused TooBig)
  writes_too_far bytes some past = stays_bare x b s (op.Write f bytes) (answer.Refused TooBig) (λ told w S st holds.
      let on = on_file x told w s S st holds f h here in
      write-big (cap_for x) S f on.handle on.there bytes some (omega (arith, past, on.of.off)))

  -- the answers alone
  pub answers_written : (bytes : List ℕ) → 0 < length bytes → h.off + length bytes ≤ cap_for x → Answers x b s [] (op.Write f bytes) answer.Okay
  answers_written bytes some fit = record {
    edits = [];
    fits = refl;
    refused = λ h. refl;
    due = λ told w S agree fit_w st holds.
        let on = on_file x told w s S st holds f h here in
        ap (λ (d : Done). d.answer) (write-open (cap_for x) S f on.handle on.there bytes some (omega (arith, fit, on.of.off)));
  }

  pub answers_nothing : (bytes : List ℕ) → length bytes ≡ 0 → Answers x b s [] (op.Write f bytes) answer.Okay
  answers_nothing bytes none = record {
    edits = [];
    fits = refl;
    refused = λ h. refl;
    due = λ told w S agree fit_w st holds.
        let on = on_file x told w s S st holds f h here in
        ap (λ (d : Done). d.answer) (write-nothing (cap_for x) S f on.handle on.there bytes none);
  }

  pub answers_too_far : (bytes : List ℕ) → 0 < length bytes → cap_for x < h.off + length bytes → Answers x b s [] (op.Write f bytes) (answer.Refused TooBig)
  answers_too_far bytes some past = record {
    edits = [];
    fits = refl;
    refused = λ h. refl;
    due = λ told w S agree fit_w st holds.
        let on = on_file x told w s S st holds f h here in
        ap (λ (d : Done). d.answer) (write-big (cap_for x) S f on.handle on.there bytes some (omega (arith, past, on.of.off)));
  }

pub answers_closed : (x : Caller) (b : Map) (s : SessionView) (f : ℕ) (bytes : List ℕ) → handle_in s f ≡ None
    → Answers x b s [] (op.Write f bytes) (answer.Refused NoHandle)
answers_closed x b s f bytes e =
    record {
      edits = [];
      fits = refl;
      refused = λ h. refl;
      due = λ told w S agree fit_w st holds. ap (λ (d : Done). d.answer)
          (write-none (cap_for x) S f bytes (not_open x told w s S st holds f e));
    }
