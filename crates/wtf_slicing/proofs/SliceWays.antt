-- Each way through a call that takes a slice out of a file, shows a part of one, or keeps a part as another.
use Rattle.std.proofs.Common.{◌≡◌, ℕ, ◌+◌, ◌-◌, ◌*◌, ◌<◌, ◌≤◌, min, List, [], ◌++◌, length, None, Some, refl, sym, ap, ◌∙◌, subst, arith}
use Rattle.std.specs.List.{All}
use Rattle.std.proofs.lemmas.List.{map-append}
use Rattle.std.proofs.lemmas.List.Elements.{All-nil}
use Rattle.wtf_dev.specs.Store.{StoreKind}
use Rattle.wtf_kv.proofs.EditLaws.{Agree-parts}
use Rattle.wtf_occ.proofs.AttemptLaws.{GrowsBy-nothing}
use Rattle.wtf_overlay.specs.Origin.{Plans, pieces_len, pieces_origin}
use Rattle.wtf_overlay.specs.declared.part.Piece.{Piece}
use Rattle.wtf_model.specs.declared.answer.Word.TheVariants.{NoSlice, Range}
use Rattle.wtf_model.specs.declared.answer.Answer.{Answer}
use Rattle.wtf_model.specs.declared.answer.Answer.TheVariants as answer
use Rattle.wtf_model.specs.declared.limits.TheConstants.{MAX_REGIONS}
use Rattle.wtf_model.specs.declared.op.Op.{Op}
use Rattle.wtf_model.specs.declared.op.Op.TheVariants as op
use Rattle.wtf_model.specs.Session.{Session}
use Rattle.std.specs.FinMap.{get}
use Rattle.wtf_model.specs.Done.{Done, bytes_of_handle, moved, put_slice, part}
use Rattle.wtf_model.specs.Call.{call}
use Rattle.wtf_model.specs.Examples.{unchanged}
use Rattle.wtf_meta.specs.declared.session.Handle.{Handle}
use Rattle.wtf_values.specs.declared.key.Key.{Key}
use Rattle.wtf_meta.specs.Lists.{ListFact, TellLists}
use Rattle.wtf_meta.specs.Maps.{Map}
use Rattle.wtf_meta.specs.Bytes.{EntryBytes, ListSlices}
use Rattle.wtf_meta.specs.Contents.{PiecesTell, lists_in}
use Rattle.wtf_meta.specs.Files.{file_len}
use Rattle.wtf_meta.specs.Reads.{ReadsFile}
use Rattle.wtf_meta.specs.FileEdits.{file_of}
use Rattle.wtf_meta.specs.Appends.{key_of, keys_of, length_keys, region_keys, touched}
use Rattle.wtf_meta.specs.Sessions.{SessionView, handle_in, slice_in, SetsHandle, SetsSlice, moved_to, Holds}
use Rattle.wtf_meta.specs.Calls.{Caller, cap_for, Did, InHand, IsDone, IsCall}
use Rattle.wtf_meta.proofs.BodyReads.{body_length, body_read}
use Rattle.wtf_meta.proofs.FeetFiles.{looks_feet, reads_feet}
use Rattle.wtf_meta.proofs.Handling.{holds-moved, holds-slice}
use Rattle.wtf_meta.proofs.Named.{PiecesBytes-cut, file_bytes}
use Rattle.wtf_meta.proofs.Reading.{PiecesTell-cut, TellBytes-one}
use Rattle.wtf_meta.proofs.Standing.{stands-same}
use Rattle.wtf_region.specs.declared.dev.Dev.{Dev}
use Rattle.wtf_region.specs.Devs.{told_in, inside_of}
use Rattle.wtf_region.specs.Reads.{AreInsideLists}
use Rattle.wtf_steps.specs.Recorded.{found_in, len_keys}
use Rattle.wtf_steps.specs.Steps.{in_hand, IsStepWith, NeedsNoBytes}
use Rattle.wtf_steps.proofs.Ways.{only_keys, on_file, stays_bare, step_of}
use Rattle.wtf_steps.proofs.FileWays.{file_len_cap}
use Rattle.wtf_steps.proofs.ReadWays.{shows}
use Rattle.wtf_slicing.specs.Shown.{TellsLists, TellsSlices}
use Rattle.wtf_model.proofs.SliceLaws.{yank-open, peek-past, peek-part, cut-past, cut-part}
use Rattle.wtf_slicing.proofs.Slices.{slice_of, no_slice_of, bytes_set, bytes_moved}

-- keys, and lists that were read of bases
abbrev pub looks : List Key → List ListFact → Did
looks keys lists = record { keys = keys; edits = []; facts = []; stored = []; lists = lists }

module _ (x : Caller) (b : Map) (s : SessionView) where
  -- a slice that was never set
  pub no_slice : (label : ℕ) (o : Op (List ℕ)) → slice_in s label ≡ None
      → ((S : Session) → get S.slices label ≡ None → call (cap_for x) S o ≡ unchanged S (answer.Refused NoSlice))
      → IsCall x b s s (only_keys []) o (answer.Refused NoSlice)
  no_slice label o e refused = stays_bare x b s o (answer.Refused NoSlice) (λ told w S st holds. refused S (no_slice_of told w s S holds label e))

  -- a part that passes a slice's end
  pub peeks_past : (label off n : ℕ) (ps : List Piece) → slice_in s label ≡ Some ps → pieces_len ps < off + n
      → IsCall x b s s (only_keys []) (op.Peek label off n) (answer.Refused Range)
  peeks_past label off n ps e past = stays_bare x b s (op.Peek label off n) (answer.Refused Range) (λ told w S st holds.
      let sl = slice_of told w s S holds label ps e in
      peek-past (cap_for x) S label off n sl.bytes sl.there (omega (arith, sl.tell.len)))

  pub cuts_past : (label off n made : ℕ) (ps : List Piece) → slice_in s label ≡ Some ps → pieces_len ps < off + n
      → IsCall x b s s (only_keys []) (op.Cut label off n made) (answer.Refused Range)
  cuts_past label off n made ps e past = stays_bare x b s (op.Cut label off n made) (answer.Refused Range) (λ told w S st holds.
      let sl = slice_of told w s S holds label ps e in
      cut-past (cap_for x) S label off n made sl.bytes sl.there (omega (arith, sl.tell.len)))

  -- a part that is shown
  pub peeks : (label off n : ℕ) (ps out : List Piece) (bytes : List ℕ) → slice_in s label ≡ Some ps → off + n ≤ pieces_len ps
      → Plans out n (λ i. pieces_origin ps (off + i))
      → IsCall x b s s (shows [] [] out bytes) (op.Peek label off n) (answer.Shown bytes)
  peeks label off n ps out bytes e within plans = record {
    fits = refl;
    names = λ P Q hole map old stored lists. record {
      edits = tt;
      facts = (PiecesBytes-cut P ps out off n (old label ps e) within plans, tt);
      slices = old;
      lists = tt;
    };
    acts = λ told w S agree fits facts lists st holds.
        let sl = slice_of told w s S holds label ps e in
        let inside : off + n ≤ length sl.bytes = omega (arith, within, sl.tell.len) in
        let same : bytes ≡ part off n sl.bytes = TellBytes-one told (pieces_len out) (pieces_origin out) bytes (part off n sl.bytes) facts.0
        (PiecesTell-cut told ps out sl.bytes off n sl.tell inside plans) in
        let due : call (cap_for x) S (op.Peek label off n) ≡ unchanged S (answer.Shown bytes) =
        peek-part (cap_for x) S label off n sl.bytes sl.there inside ∙ ap (λ (l : List ℕ). unchanged S (answer.Shown l)) (sym same) in
        subst (λ (d : Done). IsDone x told w w s d (answer.Shown bytes)) (sym due)
        (record { answer = refl; stands = stands-same x.size told x.tx x.calls w S.tree st; holds = holds; own = λ i other none. none });
    feet = looks_feet x b s (shows [] [] out bytes) (op.Peek label off n) refl (λ told w S agree st holds. tt);
  }

  -- and one that is kept
  pub cuts : (t : SessionView) (label off n made : ℕ) (ps out : List Piece) → slice_in s label ≡ Some ps → off + n ≤ pieces_len ps
      → Plans out n (λ i. pieces_origin ps (off + i))
      → SetsSlice made (Some out) s t → IsCall x b s t (only_keys []) (op.Cut label off n made) answer.Okay
  cuts t label off n made ps out e within plans set = record {
    fits = refl;
    names = λ P Q hole map old stored lists. record {
      edits = tt;
      facts = tt;
      slices = bytes_set P s t made out set (PiecesBytes-cut P ps out off n (old label ps e) within plans) old;
      lists = tt;
    };
    acts = λ told w S agree fits facts lists st holds.
        let sl = slice_of told w s S holds label ps e in
        let inside : off + n ≤ length sl.bytes = omega (arith, within, sl.tell.len) in
        subst (λ (d : Done). IsDone x told w w t d answer.Okay) (sym (cut-part (cap_for x) S label off n made sl.bytes sl.there inside))
        (record {
          answer = refl;
          stands = stands-same x.size told x.tx x.calls w S.tree st;
          holds = holds-slice told w s t S holds made out (part off n sl.bytes) set (PiecesTell-cut told ps out sl.bytes off n sl.tell inside plans);
          own = λ i other none. none;
        });
    feet = looks_feet x b s (only_keys []) (op.Cut label off n made) refl (λ told w S agree st holds. tt);
  }

  -- bytes of a file that are kept as a slice
  pub yanks : (m t : SessionView) (f n label k : ℕ) (h : Handle) (lists : List ListFact) (ps : List Piece) → 0 < x.size → handle_in s f ≡ Some h
      → k ≡ found_in x.size b h n
      → ReadsFile x.size (file_of h.inode b) h.off k lists ps → SetsSlice label (Some ps) s m → SetsHandle f (Some (moved_to (h.off + k) h)) m t
      → IsCall x b s t (looks (len_keys b h.inode ++ keys_of h.inode (region_keys (touched x.size h.off k))) lists) (op.Yank f n label) (answer.Len k)
  yanks m t f n label k h lists ps pos here count reads put set = record {
    fits = refl;
    names = λ P Q hole map old stored named. record {
      edits = tt;
      facts = tt;
      slices = bytes_moved P m t f (Some (moved_to (h.off + k) h)) set
          (bytes_set P s m label ps put (reads.names P Q hole (file_bytes P Q h.inode b map) named) old);
      lists = reads.slices P Q (file_bytes P Q h.inode b map);
    };
    acts = λ told w S agree fits facts told_lists st holds.
        let on = on_file x told w s S st holds f h here in
        let all : List ℕ = bytes_of_handle S on.handle in
        let parts = Agree-parts (len_keys b h.inode) (keys_of h.inode (region_keys (touched x.size h.off k))) b w agree in
        let whole : file_len x.size (file_of h.inode b) ≡ length all = body_length x.size told h.inode b w all parts.0 on.body in
        let low : length all ≤ MAX_REGIONS * x.size = subst (λ (j : ℕ). j ≤ MAX_REGIONS * x.size) on.body.bytes_are.len
        (file_len_cap x.size (file_of h.inode w) on.body.file) in
        let most : k ≡ min n (length all - h.off) = omega (arith, count, whole, low) in
        let read = body_read x.size told h.inode b w all h.off n k ps pos parts.1 on.body most (reads.plans (lists_in x.size told) told_lists) in
        let bytes : List ℕ = part on.handle.off n all in
        let tell = subst (λ (o : ℕ). PiecesTell told ps (part o n all)) (sym on.of.off) read in
        let len : length bytes ≡ k = sym (tell.len) ∙ reads.len in
        let due : call (cap_for x) S (op.Yank f n label) ≡ record {
          session = put_slice (moved S f on.handle (on.handle.off + k)) label bytes;
          answer =
              answer.Len k;
        } =
        yank-open (cap_for x) S f n label on.handle on.there
        ∙ ap (λ (j : ℕ). record { session = put_slice (moved S f on.handle (on.handle.off + j)) label bytes; answer = answer.Len j }) len in
        let kept : Holds told w m (put_slice S label bytes) = holds-slice told w s m S holds label ps bytes put tell in
        let to : h.off + k ≡ on.handle.off + k = ap (λ (o : ℕ). o + k) (sym on.of.off) in
        subst (λ (d : Done). IsDone x told w w t d (answer.Len k)) (sym due) (record {
          answer = refl;
          stands = stands-same x.size told x.tx x.calls w S.tree st;
          holds = holds-moved told w m t (put_slice S label bytes) kept f (on.handle.off + k) h on.handle
              (subst (λ (o : ℕ). SetsHandle f (Some (moved_to o h)) m t) to set) on.of;
          own = λ i other none. none;
        });
    feet = reads_feet x b s f h here (looks (len_keys b h.inode ++ keys_of h.inode (region_keys (touched x.size h.off k))) lists) (op.Yank f n label)
        (length_keys (file_of h.inode b) ++ region_keys (touched x.size h.off k))
        (sym (map-append (key_of h.inode) (length_keys (file_of h.inode b)) (region_keys (touched x.size h.off k)))) refl (λ S. refl);
  }

-- a call that read no byte and no list tells of none
pub lists_none : {S : Type 0} (kind : StoreKind S) (old new : Dev S) (b : Map) (did : Did) → NeedsNoBytes did → TellsLists kind old new b did
lists_none kind old new b did needs = record {
  facts = needs.facts;
  stored = needs.stored;
  slices = λ P Q map. subst (ListSlices P Q) (sym needs.lists) tt;
  inside = subst (AreInsideLists kind new) (sym needs.lists) (All-nil (λ (l : ListFact). All (EntryBytes (inside_of kind new)) l.list));
  lists = λ ranges was told apart. subst (TellLists (lists_in new.settings.region (told_in kind new))) (sym needs.lists) tt;
}

pub step_looked : {S : Type 0} (kind : StoreKind S) (from into : Dev S) (x : Caller) (b : Map) (old new : InHand) (o : Op (List ℕ)) (a : Answer)
    → IsStepWith NeedsNoBytes x b old new o a
    → IsStepWith (TellsLists kind from into b) x b old new o a
step_looked kind from into x b old new o a step = record {
  did = step.did;
  grows = step.grows;
  is_call = step.is_call;
  more = lists_none kind from into b step.did step.more;
}

-- the step of a call that looks at what is in hand alone
pub step_plain : (s t : SessionView) (x : Caller) (b : Map) (now : InHand) (o : Op (List ℕ)) (a : Answer) → now.session ≡ s → IsCall x b s t (only_keys []) o a
    → IsStepWith NeedsNoBytes x b now (in_hand now.at t) o a
step_plain s t x b now o a e is =
    step_of x b now (in_hand now.at t) [] o a (GrowsBy-nothing now.at) (subst (λ (v : SessionView). IsCall x b v t (only_keys []) o a) (sym e) is)

pub step_told : {S : Type 0} (kind : StoreKind S) (from into : List S) (s : SessionView) (x : Caller) (b : Map) (now : InHand) (o : Op (List ℕ)) (a : Answer)
    → now.session ≡ s → IsCall x b s s (only_keys []) o a
    → IsStepWith (TellsSlices kind from into s) x b now now o a
step_told kind from into s x b now o a e is = record {
  did = only_keys [];
  grows = GrowsBy-nothing now.at;
  is_call = subst (λ (v : SessionView). IsCall x b v v (only_keys []) o a) (sym e) is;
  more = record { stored = refl; lists = refl; told = λ h. tt };
}
