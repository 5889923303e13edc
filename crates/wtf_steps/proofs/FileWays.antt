-- Each way through a call that writes into a file or adds to it, on all maps at once.
use Rattle.std.proofs.Common.{◌≡◌, ℕ, ◌+◌, ◌*◌, ◌<◌, ◌≤◌, List, [], ◌∷◌, ◌++◌, length, Some, refl, sym, ◌∙◌, subst, arith}
use Rattle.std.proofs.lemmas.List.{length-append}
use Rattle.wtf_base.specs.declared.ids.InodeId.{InodeId}
use Rattle.wtf_overlay.specs.Origin.{pieces_len, pieces_origin}
use Rattle.wtf_overlay.specs.declared.part.Piece.{Piece}
use Rattle.wtf_model.specs.declared.answer.Word.TheVariants.{TooBig}
use Rattle.wtf_model.specs.declared.answer.Answer.TheVariants as answer
use Rattle.wtf_model.specs.declared.limits.TheConstants.{MAX_REGIONS}
use Rattle.wtf_model.specs.declared.op.Op.TheVariants as op
use Rattle.wtf_model.specs.ByteCalls.{written}
use Rattle.wtf_model.specs.Tree.{paths_at}
use Rattle.wtf_model.specs.Session.{Session}
use Rattle.wtf_model.specs.Done.{Done, bytes_of_handle, refiled, moved, set_bytes}
use Rattle.wtf_values.specs.declared.key.Key.{Key}
use Rattle.wtf_meta.specs.declared.session.Handle.{Handle}
use Rattle.wtf_meta.specs.Maps.{Map, with}
use Rattle.wtf_meta.specs.Bytes.{EditsBytes}
use Rattle.wtf_meta.specs.Contents.{Told, is_told, is_listed}
use Rattle.wtf_meta.specs.Files.{FileView, IsFile, file_len}
use Rattle.wtf_meta.specs.FileEdits.{FileEdit, file_of, edits_of}
use Rattle.wtf_meta.specs.Ranges.{Lays}
use Rattle.wtf_meta.specs.Appends.{FileKey, keys_of, append_keys, HasNoRoom}
use Rattle.wtf_meta.specs.Trees.{IsBody, Stands}
use Rattle.wtf_meta.specs.Sessions.{SessionView, handle_in, SetsHandle, moved_to, Holds}
use Rattle.wtf_meta.specs.Calls.{Caller, cap_for, Did, IsDone, DoneOnEach, IsCall}
use Rattle.wtf_meta.proofs.BodyEdits.{body_written}
use Rattle.wtf_meta.proofs.BodyReads.{body_appended, body_full}
use Rattle.wtf_meta.proofs.FeetFiles.{lays_feet, adds_feet}
use Rattle.wtf_meta.proofs.HandleLaws.{Holds-on}
use Rattle.wtf_meta.proofs.Handling.{holds-moved}
use Rattle.wtf_meta.proofs.Places.{apart}
use Rattle.wtf_meta.proofs.Rewriting.{stands-rewritten, own-rewritten, leads-rewritten}
use Rattle.wtf_meta.proofs.Telling.{told_pieces}
use Rattle.wtf_region.specs.Edited.{LaysPieces, AddsPieces}
use Rattle.wtf_steps.proofs.FitsAnywhere.{fits_anywhere}
use Rattle.wtf_model.proofs.ByteLaws.{append-open, append-big, write-open}
use Rattle.wtf_steps.proofs.Ways.{only_keys, OnFile, on_file, KeysRead, file_keys, stays}

-- keys, and changes of a file that bring the bytes of pieces
abbrev pub brings : InodeId → List Key → List FileEdit → List Piece → List ℕ → Did
brings i keys ds ps bytes = record { keys = keys; edits = edits_of i ds; facts = record { pieces = ps; bytes = bytes } ∷ []; stored = ps; lists = [] }

-- a file is no longer than the greatest length
pub file_len_cap : (b : ℕ) (v : FileView) → IsFile b v → file_len b v ≤ MAX_REGIONS * b
file_len_cap b v is = omega (arith, apart b v.last MAX_REGIONS is.few, is.ends v.last)

pub body_cap : (b : ℕ) (told : Told) (w : Map) (i : InodeId) (old new : List ℕ) → IsBody b told w i (old ++ new) → length old + length new ≤ MAX_REGIONS * b
body_cap b told w i old new body = omega (arith, file_len_cap b (file_of i w) body.file, body.bytes_are.len, length-append old new)

module _ (x : Caller) (told : Told) (w : Map) (s : SessionView) (S : Session) (st : Stands x.size told x.tx x.calls w S.tree) (holds : Holds told w s S)
    (f : ℕ) (h : Handle) (on : OnFile x.size told w S f h) (ds : List FileEdit) (bytes : List ℕ) where
  abbrev new : Map
  new = with (edits_of h.inode ds) w

  abbrev due : Session
  due = set_bytes S on.handle.path bytes

  stands_due : IsBody x.size told new h.inode bytes → EditsBytes (is_told told) (is_listed x.size told) (edits_of h.inode ds)
      → Stands x.size told x.tx (x.calls + 1) new due.tree
  stands_due body told_edits =
      subst (λ (p : List ℕ). Stands x.size told x.tx (x.calls + 1) new (refiled S.tree (paths_at S.tree p) (paths_at S.tree p) bytes)) (sym on.of.path)
      (stands-rewritten x.size told x.tx x.calls w S.tree st h.path h.inode on.of.leads ds bytes body told_edits)

  holds_due : Holds told new s due
  holds_due =
      Holds-on told w new s S due.tree (λ g k there leads. leads-rewritten x.size told x.tx x.calls w S.tree st h.path h.inode on.of.leads ds k.path k.inode
      leads) holds

  -- the file's bytes change
  pub rewritten : IsBody x.size told new h.inode bytes → EditsBytes (is_told told) (is_listed x.size told) (edits_of h.inode ds)
      → IsDone x told w new s (record { session = due; answer = answer.Okay }) answer.Okay
  rewritten body told_edits = record {
    answer = refl;
    stands = stands_due body told_edits;
    holds = holds_due;
    own = own-rewritten x.size told x.tx x.calls w S.tree st h.path h.inode on.of.leads ds;
  }

  -- and the handle moves
  pub rewritten_moved : (t : SessionView) (off : ℕ) → SetsHandle f (Some (moved_to off h)) s t → IsBody x.size told new h.inode bytes
      → EditsBytes (is_told told) (is_listed x.size told) (edits_of h.inode ds)
      → IsDone x told w new t (record { session = moved due f on.handle off; answer = answer.Okay }) answer.Okay
  rewritten_moved t off set body told_edits = record {
    answer = refl;
    stands = stands_due body told_edits;
    holds = holds-moved told new s t due holds_due f off h on.handle set
        (record {
          path = on.of.path;
          off = on.of.off;
          leads = leads-rewritten x.size told x.tx x.calls w S.tree st h.path h.inode on.of.leads ds h.path h.inode
              on.of.leads;
        });
    own = own-rewritten x.size told x.tx x.calls w S.tree st h.path h.inode on.of.leads ds;
  }

module _ (x : Caller) (b : Map) (s : SessionView) (f : ℕ) (h : Handle) (here : handle_in s f ≡ Some h) where
  module _ (t : SessionView) (ds : List FileEdit) (ps : List Piece) (bytes : List ℕ) (some : 0 < length bytes) (fit : h.off + length bytes ≤ cap_for x)
      (len : pieces_len ps ≡ length bytes) (lays : LaysPieces x.size h.off h.inode ps ds) (set : SetsHandle f (Some (moved_to (h.off + length bytes) h)) s t)
    where
      written_acts : DoneOnEach x b s t (brings h.inode [] ds ps bytes) (op.Write f bytes) answer.Okay
      written_acts = λ told w S agree fits facts lists st holds.
          let on = on_file x told w s S st holds f h here in
          let old : List ℕ = bytes_of_handle S on.handle in
          let off : ℕ = on.handle.off in
          let here_lays : Lays x.size ds off (pieces_len ps) (pieces_origin ps) =
          subst (λ (o : ℕ). Lays x.size ds o (pieces_len ps) (pieces_origin ps)) (sym on.of.off) lays.lays in
          let here_set : SetsHandle f (Some (moved_to (off + length bytes) h)) s t =
          subst (λ (o : ℕ). SetsHandle f (Some (moved_to (o + length bytes) h)) s t) (sym on.of.off) set in
          subst (λ (d : Done). IsDone x told w (with (edits_of h.inode ds) w) t d answer.Okay)
          (sym (write-open (cap_for x) S f on.handle on.there bytes some (omega (arith, fit, on.of.off))))
          (rewritten_moved x told w s S st holds f h on ds (written old off bytes) t (off + length bytes) here_set
          (body_written x.size told h.inode ds w off (pieces_len ps) (pieces_origin ps) old bytes (omega (arith, some, len)) here_lays facts.0 on.body)
          (lays.names (is_told told) (is_listed x.size told) (told_pieces told ps bytes facts.0)))

      -- bytes that are written
      pub writes : IsCall x b s t (brings h.inode [] ds ps bytes) (op.Write f bytes) answer.Okay
      writes = record {
        fits = fits_anywhere h.inode ds b (lays.lays.fit (file_of h.inode b));
        names = λ P Q hole map old stored lists. record {
          edits = lays.names P Q stored;
          facts = (stored, tt);
          slices = λ label qs e. old label qs (sym (set.slices label) ∙ e);
          lists = tt;
        };
        acts = written_acts;
        feet = lays_feet x b s f h here (brings h.inode [] ds ps bytes) (op.Write f bytes) t written_acts (λ S. refl) ds refl refl
            (λ m. fits_anywhere h.inode ds m (lays.lays.fit (file_of h.inode m)));
      }

  module _ (ds : List FileEdit) (ps : List Piece) (bytes : List ℕ) (adds : AddsPieces x.size h.inode (file_of h.inode b) ps ds) where
    abbrev adds_keys : List FileKey
    adds_keys = append_keys x.size (file_of h.inode b) (pieces_len ps)

    appended_acts : DoneOnEach x b s s (brings h.inode (keys_of h.inode adds_keys) ds ps bytes) (op.Append f bytes) answer.Okay
    appended_acts = λ told w S agree fits facts lists st holds.
        let on = on_file x told w s S st holds f h here in
        let old : List ℕ = bytes_of_handle S on.handle in
        let body = body_appended x.size told h.inode b w ds (pieces_len ps) (pieces_origin ps) old bytes adds.appends agree fits facts.0 on.body in
        subst (λ (d : Done). IsDone x told w (with (edits_of h.inode ds) w) s d answer.Okay)
        (sym (append-open (cap_for x) S f on.handle on.there bytes (body_cap x.size told (with (edits_of h.inode ds) w) h.inode old bytes body)))
        (rewritten x told w s S st holds f h on ds (old ++ bytes) body
        (adds.names (is_told told) (is_listed x.size told) (told_pieces told ps bytes facts.0)))

    -- bytes that are added at the end
    pub appends : IsCall x b s s (brings h.inode (keys_of h.inode adds_keys) ds ps bytes) (op.Append f bytes) answer.Okay
    appends = record {
      fits = fits_anywhere h.inode ds b adds.appends.fit;
      names = λ P Q hole map old stored lists. record { edits = adds.names P Q stored; facts = (stored, tt); slices = old; lists = tt };
      acts = appended_acts;
      feet = adds_feet x b s f h here (brings h.inode (keys_of h.inode adds_keys) ds ps bytes) (op.Append f bytes) s appended_acts (λ S. refl) ds refl
          adds_keys refl (λ S. refl);
    }

  pub appends_too_much : (n : ℕ) (bytes : List ℕ) → n ≡ length bytes → HasNoRoom x.size (file_of h.inode b) (append_keys x.size (file_of h.inode b) n) n
      → IsCall x b s s (only_keys (keys_of h.inode (append_keys x.size (file_of h.inode b) n))) (op.Append f bytes) (answer.Refused TooBig)
  appends_too_much n bytes len full =
      let ks : List FileKey = append_keys x.size (file_of h.inode b) n in
      let read : KeysRead x b s (keys_of h.inode ks) (op.Append f bytes) = file_keys x b s f h here ks (op.Append f bytes) (λ S. refl) in
      stays x b s (keys_of h.inode ks) (op.Append f bytes) (answer.Refused TooBig) read (λ told w S agree st holds.
      let on = on_file x told w s S st holds f h here in
      append-big (cap_for x) S f on.handle on.there bytes
      (subst (λ (k : ℕ). MAX_REGIONS * x.size < length (bytes_of_handle S on.handle) + k) len
      (body_full x.size told h.inode b w n (bytes_of_handle S on.handle) full agree on.body)))
