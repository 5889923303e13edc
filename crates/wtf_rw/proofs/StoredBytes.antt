-- What the slices of a call bring.
use Rattle.std.proofs.Common.{◌≡◌, ℕ, List, [], ◌∷◌, length, map, Option, None, Some, refl, sym, subst, arith}
use Rattle.std.specs.Prelude.{slice_index}
use Rattle.std.specs.List.{All}
use Rattle.wtf_base.specs.declared.ids.InodeId.{InodeId}
use Rattle.wtf_base.specs.declared.pointer.Pointer.{Pointer}
use Rattle.wtf_base.specs.declared.slice.Extents.{Extents}
use Rattle.wtf_base.specs.declared.slice.Extents.TheVariants.{One, Two, Three}
use Rattle.wtf_base.specs.declared.slice.Slice.{Slice}
use Rattle.wtf_base.specs.Extents.{pointers_to, pointer_to}
use Rattle.wtf_base.specs.Slices.{len_of}
use Rattle.wtf_base.specs.Places.{place_in, places_of, HasByte}
use Rattle.wtf_dev.specs.Store.{StoreKind}
use Rattle.wtf_occ.specs.Attempts.{GrowsBy}
use Rattle.wtf_overlay.specs.Origin.{part_origin}
use Rattle.wtf_overlay.specs.Meaning.{meaning}
use Rattle.wtf_overlay.proofs.Meanings.{meaning-All}
use Rattle.wtf_overlay.specs.declared.part.Part.{Part}
use Rattle.wtf_overlay.specs.declared.part.Part.TheVariants.{Held}
use Rattle.wtf_overlay.specs.declared.part.Piece.{Piece}
use Rattle.wtf_replica.specs.Bytes.{HoldsSlice}
use Rattle.wtf_model.specs.declared.answer.Answer.{Answer}
use Rattle.wtf_model.specs.declared.op.Op.{Op}
use Rattle.wtf_values.specs.declared.key.Key.{Key}
use Rattle.wtf_meta.specs.Bytes.{PartBytes}
use Rattle.wtf_meta.specs.Contents.{Told, TellBytes, PiecesTell}
use Rattle.wtf_meta.specs.Maps.{Map}
use Rattle.wtf_meta.specs.FileEdits.{FileEdit}
use Rattle.wtf_meta.specs.Calls.{Caller, InHand, IsCall}
use Rattle.wtf_meta.proofs.Named.{PiecesBytes-none, PiecesBytes-push}
use Rattle.wtf_meta.proofs.Reading.{PiecesTell-one}
use Rattle.wtf_rw.specs.declared.op.Done.{Done}
use Rattle.wtf_steps.specs.Steps.{IsStepWith}
use Rattle.wtf_rw.specs.Stored.{TellsOwn, BringsSlice, SliceBytes, TellSlice}
use Rattle.wtf_steps.proofs.Ways.{only_keys}
use Rattle.wtf_steps.proofs.FileWays.{brings}

some_pointer : (n : ℕ) (e : Extents) → (p : Pointer) × (ps : List Pointer) × (pointers_to n e ≡ p ∷ ps)
some_pointer n (One a) = (pointer_to n a, [], refl)
some_pointer n (Two a b) = (pointer_to n a, pointer_to n b ∷ [], refl)
some_pointer n (Three a b c) = (pointer_to n a, pointer_to n b ∷ pointer_to n c ∷ [], refl)

-- a byte that every copy of a slice holds
pub held_meaning : (told : Told) (s : Slice) (i b : ℕ) → HasByte told s i b → meaning told (places_of s i) ≡ Some b
held_meaning told s i b all =
    let (p, ps, is) = some_pointer s.len s.extents in
    subst (λ (l : List Pointer). meaning told (map (place_in i) l) ≡ Some b) (sym is)
    (meaning-All told (place_in i p) (map (place_in i) ps) b (subst (λ (l : List Pointer). All (λ q. told q ≡ Some b) (map (place_in i) l)) is all))

-- a piece that is a slice tells its bytes
pub tell_piece : (told : Told) (s : Slice) (p : Piece) (bytes : List ℕ) → p.len ≡ len_of s → p.part ≡ Held s
    → TellBytes told (len_of s) (part_origin (Held s)) bytes → PiecesTell told (p ∷ []) bytes
tell_piece told s p bytes len part tell =
    PiecesTell-one told p bytes
    (subst (λ (n : ℕ). TellBytes told n (part_origin p.part) bytes) (sym len) (subst (λ (q : Part). TellBytes told (len_of s) (part_origin q) bytes) (sym part)
    tell))

pub tell_stored : (told : Told) (s : Slice) (p : Piece) (bytes : List ℕ) → p.len ≡ len_of s → p.part ≡ Held s → len_of s ≡ length bytes
    → HoldsSlice told s bytes → PiecesTell told (p ∷ []) bytes
tell_stored told s p bytes len part same holds =
    tell_piece told s p bytes len part (record {
      len = same;
      tells = λ i below. held_meaning told s i (slice_index bytes i)
          (holds i (omega (arith, below, same)));
    })

-- the pieces of a slice that was stored before
pub brought : (i : InodeId) (keys : List Key) (ds : List FileEdit) (o : Option Slice) (s : Slice) (p : Piece) (bytes : List ℕ) → o ≡ Some s → p.len ≡ len_of s
    → p.part ≡ Held s
    → BringsSlice o bytes (brings i keys ds (p ∷ []) bytes)
brought i keys ds o s p bytes is len part = record {
  named = λ P h.
      let bytes_of : PartBytes P (len_of s) (Held s) = subst (SliceBytes P) is h in
      PiecesBytes-push P [] p (PiecesBytes-none P)
      (subst (λ (n : ℕ). PartBytes P n p.part) (sym len) (subst (λ (q : Part). PartBytes P (len_of s) q) (sym part) bytes_of));
  lists = refl;
  told = λ told h. (tell_piece told s p bytes len part (subst (λ (z : Option Slice). TellSlice told z bytes) is h), tt);
}

-- a call that brings nothing
pub brings_none : (o : Option Slice) (bytes : List ℕ) (keys : List Key) → BringsSlice o bytes (only_keys keys)
brings_none o bytes keys = record { named = λ P h. PiecesBytes-none P; lists = refl; told = λ told h. tt }

pub step_stored : (o : Option Slice) (bytes : List ℕ) (x : Caller) (b : Map) (old new : InHand) (keys : List Key) (c : Op (List ℕ)) (a : Answer)
    → GrowsBy old.at new.at keys [] → IsCall x b old.session new.session (only_keys keys) c a
    → IsStepWith (BringsSlice o bytes) x b old new c a
step_stored o bytes x b old new keys c a grows is = record { did = only_keys keys; grows = grows; is_call = is; more = brings_none o bytes keys }

-- one that stores nothing
pub step_only : {S : Type 0} (kind : StoreKind S) (from into : List S) (d : Done) (x : Caller) (b : Map) (old new : InHand) (keys : List Key) (c : Op (List ℕ))
    (a : Answer)
    → d.answer ≡ a → d.own ≡ None → GrowsBy old.at new.at keys [] → IsCall x b old.session new.session (only_keys keys) c a
    → IsStepWith (TellsOwn kind from into d.own) x b old new c d.answer
step_only kind from into d x b old new keys c a is none grows call = record {
  did = only_keys keys;
  grows = grows;
  is_call = subst (λ (r : Answer). IsCall x b old.session new.session (only_keys keys) c r) (sym is) call;
  more = subst (λ (o : Option Slice). TellsOwn kind from into o (only_keys keys)) (sym none) (record { stored = refl; lists = refl; told = λ tells. tt });
}
