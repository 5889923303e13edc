-- Each way through an append, on all maps at once.
use Rattle.std.proofs.Common.{◌≡◌, ◌≢◌, ℕ, ◌+◌, ◌*◌, ◌<◌, ◌≤◌, List, [], ◌∷◌, ◌++◌, length, replicate, take, Option, None, Some, refl, sym, ap, ◌∙◌, subst}
use Rattle.std.proofs.Common.{arith, inl, inr}
use Rattle.std.proofs.lemmas.List.{append-nil, length-append, take_all, get_or-replicate, length-replicate}
use Rattle.std.proofs.Math.Seq.{take-append_seam}
use Rattle.wtf_base.specs.declared.ids.InodeId.{InodeId}
use Rattle.wtf_occ.specs.Attempts.{Attempted, GoesOn, GrowsBy, Grows}
use Rattle.wtf_overlay.specs.Origin.{part_origin, pieces_len, pieces_origin}
use Rattle.wtf_overlay.specs.Meaning.{meaning}
use Rattle.wtf_overlay.specs.declared.part.Part.{Part}
use Rattle.wtf_overlay.specs.declared.part.Piece.{Piece}
use Rattle.wtf_model.specs.declared.answer.Word.TheVariants.{NoHandle, TooBig}
use Rattle.wtf_model.specs.declared.answer.Answer.{Answer}
use Rattle.wtf_model.specs.declared.answer.Answer.TheVariants as answer
use Rattle.wtf_model.specs.declared.op.Op.{Op}
use Rattle.wtf_model.specs.declared.op.Op.TheVariants as op
use Rattle.wtf_model.specs.Done.{Done, bytes_of_handle}
use Rattle.wtf_model.specs.declared.limits.TheConstants.{MAX_REGIONS}
use Rattle.wtf_meta.proofs.BodyReads.{body_appended, body_full}
use Rattle.wtf_steps.proofs.FitsAnywhere.{fits_anywhere}
use Rattle.wtf_model.proofs.ByteLaws.{append-none, append-open, append-big}
use Rattle.wtf_values.specs.declared.key.Key.{Key}
use Rattle.wtf_values.specs.declared.value.Delta.{Delta}
use Rattle.wtf_meta.specs.declared.session.Handle.{Handle}
use Rattle.wtf_meta.specs.Maps.{Map, with}
use Rattle.wtf_meta.specs.Contents.{Told, PiecesTell}
use Rattle.wtf_meta.specs.Files.{FileView}
use Rattle.wtf_meta.specs.FileEdits.{file_of, edits_of}
use Rattle.wtf_meta.specs.Appends.{keys_of, append_keys, length_keys}
use Rattle.wtf_meta.specs.Sessions.{SessionView, handle_in}
use Rattle.wtf_meta.specs.Calls.{Caller, cap_for, Did, TellFacts, IsCall}
use Rattle.wtf_meta.proofs.Appending.{Appends-none, keys_laid, HasNoRoom-full}
use Rattle.wtf_meta.proofs.Named.{PiecesBytes-none}
use Rattle.wtf_meta.proofs.Reading.{PiecesTell-none, PiecesTell-one}
use Rattle.wtf_region.specs.declared.added.Added.{Added}
use Rattle.wtf_region.specs.declared.added.Added.TheVariants as added
use Rattle.wtf_region.specs.Edited.{Recorded, LacksRoom, IsAdded}
use Rattle.wtf_steps.specs.Steps.{answer_of, in_hand, IsStepWith}
use Rattle.wtf_rw.specs.Stored.{Answers, HasRoom, ArePieces, TellsOwn, BringsSlice}
use Rattle.wtf_base.specs.declared.slice.Slice.{Slice}
use Rattle.wtf_base.specs.Slices.{len_of}
use Rattle.wtf_dev.specs.Store.{StoreKind}
use Rattle.wtf_dev.specs.Sums.{TellsAll}
use Rattle.wtf_overlay.specs.declared.part.Part.TheVariants.{Held, Zero}
use Rattle.wtf_replica.specs.Bytes.{byte_at}
use Rattle.wtf_meta.specs.Bytes.{PiecesBytes}
use Rattle.wtf_rw.specs.declared.op.Done as rw
use Rattle.wtf_rw.proofs.StoredBytes.{brought}
use Rattle.wtf_steps.proofs.Ways.{only_keys, on_file, not_open}
use Rattle.wtf_steps.proofs.FileWays.{brings, appends, appends_too_much, body_cap, file_len_cap}

-- keys alone, where these pieces were stored all the same
abbrev pub refuses : List Key → List Piece → Did
refuses keys ps = record { keys = keys; edits = []; facts = []; stored = ps; lists = [] }

refuses_call : (x : Caller) (b : Map) (s : SessionView) (keys : List Key) (ps : List Piece) (o : Op (List ℕ)) (a : Answer) → IsCall x b s s (only_keys keys) o a
    → IsCall x b s s (refuses keys ps) o a
refuses_call x b s keys ps o a is = record {
  fits = is.fits;
  names = λ P Q hole map old stored lists.
      let n = is.names P Q hole map old (PiecesBytes-none P) lists in
      record { edits = n.edits; facts = n.facts; slices = n.slices; lists = n.lists };
  acts = is.acts;
  feet = is.feet;
}

-- what an append of pieces did
pub record Adds (x : Caller) (b : Map) (s : SessionView) (f : ℕ) (ps : List Piece) (bytes : List ℕ) (old new : Attempted Key Delta) (a : Answer) : Type 0 where
  pub did : Did
  pub grows : GrowsBy old new did.keys did.edits
  pub is_call : IsCall x b s s did (op.Append f bytes) a
  pub stored : did.stored ≡ ps
  pub lists : did.lists ≡ []
  pub facts : (told : Told) → PiecesTell told ps bytes → TellFacts told did.facts

pub adds : (x : Caller) (b : Map) (s : SessionView) (f : ℕ) (h : Handle) (ps : List Piece) (bytes : List ℕ) (old new : Attempted Key Delta) (r : Added)
    → handle_in s f ≡ Some h → pieces_len ps ≡ length bytes
    → IsAdded x.size h.inode (file_of h.inode b) ps old new r → Adds x b s f ps bytes old new (answer_of r)
adds x b s f h ps bytes old new added.Done here len is = record {
  did = brings h.inode (keys_of h.inode (append_keys x.size (file_of h.inode b) (pieces_len ps))) is.edits ps bytes;
  grows = is.grows;
  is_call = appends x b s f h here is.edits ps bytes is.does;
  stored = refl;
  lists = refl;
  facts = λ told tell. (tell, tt);
}
adds x b s f h ps bytes old new added.TooBig here len is = record {
  did = refuses (keys_of h.inode (append_keys x.size (file_of h.inode b) (pieces_len ps))) ps;
  grows = is.recorded;
  is_call = refuses_call x b s (keys_of h.inode (append_keys x.size (file_of h.inode b) (pieces_len ps))) ps (op.Append f bytes) (answer.Refused TooBig)
      (appends_too_much x b s f h here (pieces_len ps) bytes len is.full);
  stored = refl;
  lists = refl;
  facts = λ told tell. tt;
}

no_byte_told : (told : Told) (bytes : List ℕ) → length bytes ≡ 0 → PiecesTell told [] bytes
no_byte_told told [] none = PiecesTell-none told
no_byte_told told (b ∷ bs) none = absurd (omega arith)

-- no byte
pub adds_nothing : (x : Caller) (b : Map) (s : SessionView) (f : ℕ) (h : Handle) (bytes : List ℕ) (old : Attempted Key Delta) → handle_in s f ≡ Some h
    → length bytes ≡ 0
    → Adds x b s f [] bytes old old answer.Okay
adds_nothing x b s f h bytes old here none = record {
  did = brings h.inode [] [] [] bytes;
  grows = record { base = refl; reads = sym (append-nil old.reads); changes = sym (append-nil old.changes) };
  is_call = appends x b s f h here [] [] bytes (record {
    appends = Appends-none x.size (file_of h.inode b) (append_keys x.size (file_of h.inode b) 0) 0 (pieces_origin []) refl;
    exact = record { none = λ e. refl; fits = λ more room. absurd (omega (arith, more)); laid = λ more full. absurd (omega (arith, more)) };
    names = λ P Q bytes. tt;
  });
  stored = refl;
  lists = refl;
  facts = λ told tell. (tell, tt);
}

pub nothing_told : (told : Told) (bytes : List ℕ) → length bytes ≡ 0 → PiecesTell told [] bytes
nothing_told = no_byte_told

-- bytes without room
pub adds_full : (x : Caller) (b : Map) (s : SessionView) (f : ℕ) (h : Handle) (bytes : List ℕ) → handle_in s f ≡ Some h → length bytes ≢ 0
    → LacksRoom x.size (file_of h.inode b) (length bytes)
    → IsCall x b s s (only_keys (keys_of h.inode (append_keys x.size (file_of h.inode b) (length bytes)))) (op.Append f bytes) (answer.Refused TooBig)
adds_full x b s f h bytes here some lacks =
    appends_too_much x b s f h here (length bytes) bytes refl (HasNoRoom-full x.size (file_of h.inode b) (length bytes) some lacks.region lacks.file)

pub full_keys : (z : ℕ) (i : InodeId) (w : Map) (n : ℕ) (old new : Attempted Key Delta) → n ≢ 0 → LacksRoom z (file_of i w) n
    → Recorded i (length_keys (file_of i w)) old new
    → Recorded i (append_keys z (file_of i w) n) old new
full_keys z i w n old new some lacks recorded = subst (λ ks. Recorded i ks old new) (sym (keys_laid z (file_of i w) n some lacks.region)) recorded

-- the step of an append that stored these pieces
pub step_added : {S : Type 0} (kind : StoreKind S) (from into : List S) (d : rw.Done) (x : Caller) (b : Map) (s : SessionView) (f : ℕ) (ps : List Piece)
    (bytes : List ℕ) (old new : Attempted Key Delta) (a : Answer)
    → d.answer ≡ a → ArePieces d.own ps → (TellsAll kind from → PiecesTell (byte_at kind into) ps bytes) → Adds x b s f ps bytes old new a
    → IsStepWith (TellsOwn kind from into d.own) x b (in_hand old s) (in_hand new s) (op.Append f bytes) d.answer
step_added kind from into d x b s f ps bytes old new a is own told one = record {
  did = one.did;
  grows = one.grows;
  is_call = subst (λ (r : Answer). IsCall x b s s one.did (op.Append f bytes) r) (sym is) one.is_call;
  more = record {
    stored = subst (λ (qs : List Piece). ArePieces d.own qs) (sym one.stored) own;
    lists = one.lists;
    told = λ tells. one.facts (byte_at kind into) (told tells);
  };
}

-- and of one that brought the bytes of a slice
pub step_brought : (o : Option Slice) (sl : Slice) (p : Piece) (x : Caller) (b : Map) (s : SessionView) (f : ℕ) (bytes : List ℕ) (old new : Attempted Key Delta)
    (a r : Answer)
    → r ≡ a → o ≡ Some sl → p.len ≡ len_of sl → p.part ≡ Held sl → Adds x b s f (p ∷ []) bytes old new a
    → IsStepWith (BringsSlice o bytes) x b (in_hand old s) (in_hand new s) (op.Append f bytes) r
step_brought o sl p x b s f bytes old new a r is there len part one =
    let brings_it = brought (record { tx = record { 0 = 0 }; index = 0 }) [] [] o sl p bytes there len part in
    record {
      did = one.did;
      grows = one.grows;
      is_call = subst (λ (z : Answer). IsCall x b s s one.did (op.Append f bytes) z) (sym is) one.is_call;
      more = record {
        named = λ P h. subst (λ (qs : List Piece). PiecesBytes P qs) (sym one.stored) (brings_it.named P h);
        lists = one.lists;
        told = λ told h. one.facts told (brings_it.told told h).0;
      };
    }

-- an attempt that drops the changes that came, and keeps the keys
pub record Rewound (old mid new : Attempted Key Delta) : Type 0 where
  pub reads : new.reads ≡ mid.reads
  pub changes : new.changes ≡ old.changes
  pub grows : Grows old new

-- a mark lies within what grew since it was made
pub mark_within : {A : Type 0} (n : ℕ) (old new : List A) → n ≡ length old → GoesOn old new → n ≤ length new
mark_within n old new is on = omega (arith, is, ap length on.1, length-append old on.0)

pub rewound : (old mid new : Attempted Key Delta) (r c : ℕ) → new ≡ record mid { reads = take r mid.reads; changes = take c mid.changes } → r ≡ length mid.reads
    → c ≡ length old.changes
    → Grows old mid → Rewound old mid new
rewound old mid new r c e all first grows =
    let reads : new.reads ≡ mid.reads = ap (λ (a : Attempted Key Delta). a.reads) e ∙ take_all r mid.reads (omega (arith, all)) in
    let kept : new.changes ≡ old.changes =
    ap (λ (a : Attempted Key Delta). a.changes) e ∙ ap (λ l. take c l) grows.changes.1 ∙ ap (λ k. take k (old.changes ++ grows.changes.0)) first
    ∙ take-append_seam old.changes grows.changes.0 in
    record {
      reads = reads;
      changes = kept;
      grows = record {
        base = ap (λ (a : Attempted Key Delta). a.base) e ∙ grows.base;
        reads = (grows.reads.0, reads ∙ grows.reads.1);
        changes = ([], kept ∙ sym (append-nil old.changes));
      };
    }

-- a hole tells zeros
pub hole_tells : (told : Told) (p : Piece) (n : ℕ) → p.len ≡ n → p.part ≡ Zero → PiecesTell told (p ∷ []) (replicate n 0)
hole_tells told p n len part = PiecesTell-one told p (replicate n 0) (record {
  len = len ∙ sym (length-replicate n 0);
  tells = λ i below. ap (λ (q : Part). meaning told (part_origin q i)) part ∙ ap Some (sym (get_or-replicate n i 0 0 (omega (arith, below, len))));
})

-- the answer to an append of so many bytes as a hole has, which was added
pub adds_answer : (x : Caller) (b : Map) (s : SessionView) (f : ℕ) (h : Handle) (ps : List Piece) (bytes zeros : List ℕ) (old new : Attempted Key Delta)
    (r : Added) → handle_in s f ≡ Some h
    → pieces_len ps ≡ length bytes → length zeros ≡ length bytes → ((told : Told) → PiecesTell told ps zeros)
    → IsAdded x.size h.inode (file_of h.inode b) ps old new r
    → Answers x b s (keys_of h.inode (append_keys x.size (file_of h.inode b) (pieces_len ps))) (op.Append f bytes) (answer_of r)
adds_answer x b s f h ps bytes zeros old new added.Done here len same tells is = record {
  edits = edits_of h.inode is.edits;
  fits = fits_anywhere h.inode is.edits b is.does.appends.fit;
  refused = λ h. absurd h;
  due = λ told w S agree fits st holds.
      let on = on_file x told w s S st holds f h here in
      let was : List ℕ = bytes_of_handle S on.handle in
      let body = body_appended x.size told h.inode b w is.edits (pieces_len ps) (pieces_origin ps) was zeros is.does.appends agree fits (tells told) on.body in
      ap (λ (d : Done). d.answer) (append-open (cap_for x) S f on.handle on.there bytes
      (subst (λ (n : ℕ). length was + n ≤ MAX_REGIONS * x.size) same (body_cap x.size told (with (edits_of h.inode is.edits) w) h.inode was zeros body)));
}
adds_answer x b s f h ps bytes zeros old new added.TooBig here len same tells is = record {
  edits = [];
  fits = refl;
  refused = λ h. refl;
  due = λ told w S agree fits st holds.
      let on = on_file x told w s S st holds f h here in
      let was : List ℕ = bytes_of_handle S on.handle in
      ap (λ (d : Done). d.answer) (append-big (cap_for x) S f on.handle on.there bytes
      (subst (λ (n : ℕ). MAX_REGIONS * x.size < length was + n) len (body_full x.size told h.inode b w (pieces_len ps) was is.full agree on.body)));
}

pub nothing_answer : (x : Caller) (b : Map) (s : SessionView) (f : ℕ) (h : Handle) (keys : List Key) (bytes : List ℕ) → handle_in s f ≡ Some h
    → length bytes ≡ 0 → Answers x b s keys (op.Append f bytes) answer.Okay
nothing_answer x b s f h keys bytes here none = record {
  edits = [];
  fits = refl;
  refused = λ h. refl;
  due = λ told w S agree fits st holds.
      let on = on_file x told w s S st holds f h here in
      ap (λ (d : Done). d.answer) (append-open (cap_for x) S f on.handle on.there bytes
      (omega (arith, none, on.body.bytes_are.len, file_len_cap x.size (file_of h.inode w) on.body.file)));
}

pub closed_answer : (x : Caller) (b : Map) (s : SessionView) (f : ℕ) (keys : List Key) (bytes : List ℕ) → handle_in s f ≡ None
    → Answers x b s keys (op.Append f bytes) (answer.Refused NoHandle)
closed_answer x b s f keys bytes e = record {
  edits = [];
  fits = refl;
  refused = λ h. refl;
  due = λ told w S agree fits st holds. ap (λ (d : Done). d.answer) (append-none (cap_for x) S f bytes (not_open x told w s S st holds f e));
}

-- and of one of no byte
pub step_nothing : (o : Option Slice) (x : Caller) (b : Map) (s : SessionView) (f : ℕ) (bytes : List ℕ) (old : Attempted Key Delta) → length bytes ≡ 0
    → Adds x b s f [] bytes old old answer.Okay
    → IsStepWith (BringsSlice o bytes) x b (in_hand old s) (in_hand old s) (op.Append f bytes) answer.Okay
step_nothing o x b s f bytes old none one = record {
  did = one.did;
  grows = one.grows;
  is_call = one.is_call;
  more = record {
    named = λ P h. subst (λ (qs : List Piece). PiecesBytes P qs) (sym one.stored) (PiecesBytes-none P);
    lists = one.lists;
    told = λ told h. one.facts told (no_byte_told told bytes none);
  };
}

-- bytes that find room are not too many
no_room : (b : ℕ) (v : FileView) (n : ℕ) → HasRoom b v n → LacksRoom b v n → ⊥
no_room b v n (inl in_region) lacks = omega (arith, in_region, lacks.region)
no_room b v n (inr fit) lacks = omega (arith, fit, lacks.file)

pub added_in_room : (b : ℕ) (v : FileView) (n : ℕ) (r : Added) → HasRoom b v n → (r ≡ added.TooBig → LacksRoom b v n) → r ≡ added.Done
added_in_room b v n added.Done room lacks = refl
added_in_room b v n added.TooBig room lacks = absurd (no_room b v n room (lacks refl))
