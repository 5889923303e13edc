-- Each way through a call that lays a slice over a file, or adds one at its end.
use Rattle.std.proofs.Common.{◌≡◌, ℕ, ◌+◌, ◌<◌, ◌≤◌, List, [], length, None, Some, Result, Ok, Err, refl, sym, ◌∙◌, subst, arith}
use Rattle.std.specs.Prelude.{IsErr}
use Rattle.wtf_base.specs.declared.ids.InodeId.{InodeId}
use Rattle.wtf_base.specs.declared.memory.OutOfMemory.{OutOfMemory}
use Rattle.wtf_occ.specs.Attempts.{Attempted, Grows}
use Rattle.wtf_overlay.specs.Origin.{pieces_len}
use Rattle.wtf_overlay.specs.declared.part.Piece.{Piece}
use Rattle.wtf_model.specs.declared.answer.Answer.{Answer}
use Rattle.wtf_model.specs.declared.answer.Answer.TheVariants as answer
use Rattle.wtf_model.specs.declared.answer.Word.TheVariants.{NoSlice, TooBig}
use Rattle.wtf_model.specs.declared.op.Op.{Op}
use Rattle.wtf_model.specs.declared.op.Op.TheVariants as op
use Rattle.wtf_model.specs.Session.{Session}
use Rattle.wtf_model.specs.Session as model
use Rattle.std.specs.FinMap.{get}
use Rattle.wtf_model.specs.Done.{Done}
use Rattle.wtf_model.specs.Call.{call}
use Rattle.wtf_model.specs.Examples.{unchanged}
use Rattle.wtf_values.specs.declared.key.Key.{Key}
use Rattle.wtf_values.specs.declared.value.Delta.{Delta}
use Rattle.wtf_meta.specs.declared.session.Handle.{Handle}
use Rattle.wtf_meta.specs.Maps.{Map, with}
use Rattle.wtf_meta.specs.FileEdits.{FileEdit, file_of, edits_of}
use Rattle.wtf_meta.specs.Appends.{FileKey, keys_of, append_keys}
use Rattle.wtf_meta.specs.Sessions.{SessionView, handle_in, slice_in, SetsHandle, moved_to}
use Rattle.wtf_meta.specs.Calls.{Caller, InHand, cap_for, Did, IsDone, DoneOnEach, IsCall}
use Rattle.wtf_meta.proofs.FeetFiles.{reads_feet, lays_feet, adds_feet}
use Rattle.wtf_region.specs.declared.added.Added.{Added}
use Rattle.wtf_region.specs.declared.added.Added.TheVariants as added
use Rattle.wtf_region.specs.Edited.{LaysPieces, AddsPieces, IsAdded}
use Rattle.wtf_steps.specs.Steps.{in_hand, IsStepWith, NeedsNoBytes, answer_of}
use Rattle.wtf_steps.proofs.FitsAnywhere.{fits_anywhere}
use Rattle.wtf_model.proofs.ByteLaws.{write-nothing, write-big}
use Rattle.wtf_steps.proofs.Ways.{only_keys, on_file, stays_bare}
use Rattle.wtf_steps.proofs.FileWays.{writes, appends, appends_too_much}
use Rattle.wtf_model.proofs.SliceLaws.{paste-unset, paste-write, glue-unset, glue-append}
use Rattle.wtf_slicing.specs.Called.{LaysSlice}
use Rattle.wtf_slicing.proofs.Slices.{slice_of, no_slice_of}

-- keys, and changes that lay pieces that were in hand
abbrev pub lays : List Key → InodeId → List FileEdit → Did
lays keys i ds = record { keys = keys; edits = edits_of i ds; facts = []; stored = []; lists = [] }

-- want of memory leaves the session as it was
pub lays_short : (old new : InHand) (r : Result Answer OutOfMemory) → IsErr r → new.session ≡ old.session
    → Grows old.at new.at → LaysSlice old new r
lays_short old new (Ok a) lacks same grows = absurd (cc)
lays_short old new (Err e) lacks same grows = record { logged = tt; refused = tt; err = same; grows = grows }

module _ (x : Caller) (b : Map) (s : SessionView) (f label : ℕ) (h : Handle) (here : handle_in s f ≡ Some h) where
  -- a slice that was never set
  pub unset : (o : Op (List ℕ)) → slice_in s label ≡ None
      → ((S : Session) (g : model.Handle) → get S.handles f ≡ Some g → get S.slices label ≡ None → call (cap_for x) S o ≡ unchanged S (answer.Refused NoSlice))
      → IsCall x b s s (only_keys []) o (answer.Refused NoSlice)
  unset o e refused = stays_bare x b s o (answer.Refused NoSlice) (λ told w S st holds.
      let on = on_file x told w s S st holds f h here in
      refused S on.handle on.there (no_slice_of told w s S holds label e))

  pub pastes_unset : slice_in s label ≡ None → IsCall x b s s (only_keys []) (op.Paste f label) (answer.Refused NoSlice)
  pastes_unset e = unset (op.Paste f label) e (λ S g there none. paste-unset (cap_for x) S f label g there none)

  pub glues_unset : slice_in s label ≡ None → IsCall x b s s (only_keys []) (op.Glue f label) (answer.Refused NoSlice)
  glues_unset e = unset (op.Glue f label) e (λ S g there none. glue-unset (cap_for x) S f label g there none)

  module _ (ps : List Piece) (kept : slice_in s label ≡ Some ps) where
    -- no byte
    pub pastes_nothing : pieces_len ps ≡ 0 → IsCall x b s s (only_keys []) (op.Paste f label) answer.Okay
    pastes_nothing none = stays_bare x b s (op.Paste f label) answer.Okay (λ told w S st holds.
        let on = on_file x told w s S st holds f h here in
        let sl = slice_of told w s S holds label ps kept in
        paste-write (cap_for x) S f label on.handle sl.bytes on.there sl.there ∙ write-nothing (cap_for x) S f on.handle on.there sl.bytes
        (omega (arith, sl.tell.len, none)))

    pub pastes_too_far : 0 < pieces_len ps → cap_for x < h.off + pieces_len ps → IsCall x b s s (only_keys []) (op.Paste f label) (answer.Refused TooBig)
    pastes_too_far some past = stays_bare x b s (op.Paste f label) (answer.Refused TooBig) (λ told w S st holds.
        let on = on_file x told w s S st holds f h here in
        let sl = slice_of told w s S holds label ps kept in
        paste-write (cap_for x) S f label on.handle sl.bytes on.there sl.there
        ∙ write-big (cap_for x) S f on.handle on.there sl.bytes (omega (arith, sl.tell.len, some)) (omega (arith, past, on.of.off, sl.tell.len)))

    module _ (t : SessionView) (ds : List FileEdit) (some : 0 < pieces_len ps) (fit : h.off + pieces_len ps ≤ cap_for x)
        (laid : LaysPieces x.size h.off h.inode ps ds) (set : SetsHandle f (Some (moved_to (h.off + pieces_len ps) h)) s t) where
      pasted_acts : DoneOnEach x b s t (lays [] h.inode ds) (op.Paste f label) answer.Okay
      pasted_acts = λ told w S agree fits facts lists st holds.
          let on = on_file x told w s S st holds f h here in
          let sl = slice_of told w s S holds label ps kept in
          let len : pieces_len ps ≡ length sl.bytes = sl.tell.len in
          let to : SetsHandle f (Some (moved_to (h.off + length sl.bytes) h)) s t = subst (λ (n : ℕ). SetsHandle f (Some (moved_to (h.off + n) h)) s t) len
          set in
          let is = writes x b s f h here t ds ps sl.bytes (omega (arith, len, some)) (omega (arith, len, fit)) len laid to in
          subst (λ (d : Done). IsDone x told w (with (edits_of h.inode ds) w) t d answer.Okay)
          (sym (paste-write (cap_for x) S f label on.handle sl.bytes on.there sl.there))
          (is.acts told w S agree fits (sl.tell, tt) tt st holds)

      -- bytes that are laid over the file
      pub pastes : IsCall x b s t (lays [] h.inode ds) (op.Paste f label) answer.Okay
      pastes = record {
        fits = fits_anywhere h.inode ds b (laid.lays.fit (file_of h.inode b));
        names = λ P Q hole map old stored lists. record {
          edits = laid.names P Q (old label ps kept);
          facts = tt;
          slices = λ l qs e. old l qs (sym (set.slices l) ∙ e);
          lists = tt;
        };
        acts = pasted_acts;
        feet = lays_feet x b s f h here (lays [] h.inode ds) (op.Paste f label) t pasted_acts (λ S. refl) ds refl refl
            (λ m. fits_anywhere h.inode ds m (laid.lays.fit (file_of h.inode m)));
      }

    -- the keys of the file that adding them records
    abbrev glue_file_keys : List FileKey
    glue_file_keys = append_keys x.size (file_of h.inode b) (pieces_len ps)

    module _ (ds : List FileEdit) (adds : AddsPieces x.size h.inode (file_of h.inode b) ps ds) where
      glued_acts : DoneOnEach x b s s (lays (keys_of h.inode glue_file_keys) h.inode ds) (op.Glue f label) answer.Okay
      glued_acts = λ told w S agree fits facts lists st holds.
          let on = on_file x told w s S st holds f h here in
          let sl = slice_of told w s S holds label ps kept in
          subst (λ (d : Done). IsDone x told w (with (edits_of h.inode ds) w) s d answer.Okay)
          (sym (glue-append (cap_for x) S f label on.handle sl.bytes on.there sl.there))
          ((appends x b s f h here ds ps sl.bytes adds).acts told w S agree fits (sl.tell, tt) tt st holds)

      -- bytes that are added at its end
      pub glues : IsCall x b s s (lays (keys_of h.inode glue_file_keys) h.inode ds) (op.Glue f label) answer.Okay
      glues = record {
        fits = fits_anywhere h.inode ds b adds.appends.fit;
        names = λ P Q hole map old stored lists. record { edits = adds.names P Q (old label ps kept); facts = tt; slices = old; lists = tt };
        acts = glued_acts;
        feet = adds_feet x b s f h here (lays (keys_of h.inode glue_file_keys) h.inode ds) (op.Glue f label) s glued_acts (λ S. refl) ds refl
            glue_file_keys refl (λ S. refl);
      }

    pub glues_too_much : (old new : Attempted Key Delta) → IsAdded x.size h.inode (file_of h.inode b) ps old new added.TooBig
        → IsCall x b s s (only_keys (keys_of h.inode glue_file_keys)) (op.Glue f label) (answer.Refused TooBig)
    glues_too_much old new is = record {
      fits = refl;
      names = λ P Q hole map kept_old stored lists. record { edits = tt; facts = tt; slices = kept_old; lists = tt };
      acts = λ told w S agree fits facts lists st holds.
          let on = on_file x told w s S st holds f h here in
          let sl = slice_of told w s S holds label ps kept in
          subst (λ (d : Done). IsDone x told w w s d (answer.Refused TooBig)) (sym (glue-append (cap_for x) S f label on.handle sl.bytes on.there sl.there))
          ((appends_too_much x b s f h here (pieces_len ps) sl.bytes sl.tell.len is.full).acts told w S agree fits facts tt st holds);
      feet = reads_feet x b s f h here (only_keys (keys_of h.inode glue_file_keys)) (op.Glue f label) glue_file_keys refl refl (λ S. refl);
    }

    -- whatever came of adding them
    pub step_glued : (old new : Attempted Key Delta) (r : Added) → IsAdded x.size h.inode (file_of h.inode b) ps old new r
        → IsStepWith NeedsNoBytes x b (in_hand old s) (in_hand new s) (op.Glue f label) (answer_of r)
    step_glued old new added.Done is = record {
      did = lays (keys_of h.inode (append_keys x.size (file_of h.inode b) (pieces_len ps))) h.inode is.edits;
      grows = is.grows;
      is_call = glues is.edits is.does;
      more = record { facts = refl; stored = refl; lists = refl };
    }
    step_glued old new added.TooBig is = record {
      did = only_keys (keys_of h.inode (append_keys x.size (file_of h.inode b) (pieces_len ps)));
      grows = is.recorded;
      is_call = glues_too_much old new is;
      more = record { facts = refl; stored = refl; lists = refl };
    }
