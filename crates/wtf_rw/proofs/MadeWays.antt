-- The changes of calls that bring a slice.
use Rattle.std.proofs.Common.{◌≡◌, ◌⊎◌, ℕ, ◌<◌, List, [], ◌∷◌, length, Option, None, Some, Result, Ok, Err, refl, sym, subst, arith, inl}
use Rattle.std.specs.Prelude.{IsSome, IsErr}
use Rattle.wtf_base.specs.declared.fault.Fault.TheVariants as fault
use Rattle.wtf_base.specs.declared.memory.OutOfMemory.{OutOfMemory}
use Rattle.wtf_base.specs.declared.slice.Extents.{Extents}
use Rattle.wtf_base.specs.declared.slice.Extents.TheVariants.{One, Two, Three}
use Rattle.wtf_base.specs.declared.slice.Slice.{Slice}
use Rattle.wtf_base.specs.Extents.{IsSound}
use Rattle.wtf_base.specs.Slices.{HasLength, len_of}
use Rattle.wtf_dev.specs.Store.{StoreKind, KindLaws}
use Rattle.wtf_occ.specs.Attempts.{Attempted, Grows}
use Rattle.wtf_occ.proofs.AttemptLaws.{GrowsBy-nothing, Grows-by}
use Rattle.wtf_overlay.specs.declared.part.Part.TheVariants.{Held}
use Rattle.wtf_overlay.specs.declared.part.Piece.{Piece}
use Rattle.wtf_model.specs.Steps.{IsLogged}
use Rattle.wtf_model.specs.declared.answer.Answer.{Answer}
use Rattle.wtf_values.specs.declared.key.Key.{Key}
use Rattle.wtf_values.specs.declared.value.Delta.{Delta}
use Rattle.wtf_meta.specs.declared.session.Handle.{Handle}
use Rattle.wtf_meta.specs.Maps.{Edits}
use Rattle.wtf_meta.specs.Calls.{InHand}
use Rattle.wtf_region.specs.declared.dev.Dev.{Dev}
use Rattle.wtf_region.specs.Devs.{IsSoundDev}
use Rattle.wtf_region.proofs.Spans.{goes_nowhere}
use Rattle.wtf_steps.specs.Made.{Makes}
use Rattle.wtf_steps.specs.Steps.{IsRefusal}
use Rattle.wtf_steps.proofs.Making.{makes_nothing, makes_as}
use Rattle.wtf_rw.specs.declared.op.Done.{Done}
use Rattle.wtf_rw.specs.Called.{Looks, Alters, PutsBytes}
use Rattle.wtf_rw.specs.Stored.{ArePieces, IsPutFault}
use Rattle.wtf_rw.specs.Changed.{OfSlice}

-- a slice has a byte, so data without one has no slice
some_bytes : (n : ℕ) (e : Extents) → IsSound n e → 0 < n
some_bytes n (One a) h = h.0
some_bytes n (Two a b) h = h.0
some_bytes n (Three a b c) h = h.0

pub no_slice_kept : (o : Option Slice) (n : ℕ) → HasLength n o → n ≡ 0 → o ≡ None
no_slice_kept None n held none = refl
no_slice_kept (Some s) n held none = absurd (omega (arith, some_bytes s.len s.extents s.sound, held, none))

-- no slice is no change
pub brings_no_slice : (a : Answer) (o : Option Slice) (F : List Piece → Edits → Type 0) (old new : Attempted Key Delta) → o ≡ None → F [] []
    → new.changes ≡ old.changes → Makes a (OfSlice o F) old new
brings_no_slice a o F old new none has same =
    makes_nothing a (OfSlice o F) old new ([], subst (λ (w : Option Slice). ArePieces w []) (sym none) refl, has) same

-- a slice, as one piece
pub brings_slice : (a r : Answer) (o : Option Slice) (sl : Slice) (p : Piece) (F : List Piece → Edits → Type 0) (old new : Attempted Key Delta) → a ≡ r
    → o ≡ Some sl → p.len ≡ len_of sl → p.part ≡ Held sl
    → Makes r (F (p ∷ [])) old new → Makes a (OfSlice o F) old new
brings_slice a r o sl p F old new is there len part made =
    let pieces : ArePieces (Some sl) (p ∷ []) = record { piece = p; one = refl; len = len; part = part } in
    makes_as a r (F (p ∷ [])) (OfSlice o F) old new is (λ cs has. (p ∷ [], subst (λ (w : Option Slice). ArePieces w (p ∷ [])) (sym there) pieces, has)) made

pub some_none : {A : Type 0} (a : A) → Some a ≡ None → ⊥
some_none a e = cc

pub not_some : {A : Type 0} (o : Option A) → o ≡ None → IsSome o → ⊥
not_some None e h = absurd (cc)
not_some (Some x) e h = absurd (cc)

-- a call that stores nothing leaves stores, attempt and session as they were
pub puts_nothing : {S : Type 0} {kind : StoreKind S} → KindLaws kind → (dev : Dev S) → IsSoundDev kind dev → (hand : InHand) (h : Option Handle)
    (bytes : List ℕ) (d : Done) → d.own ≡ None → IsLogged d.answer → (length bytes ≡ 0) ⊎ IsRefusal d.answer
    → PutsBytes (record { kind = kind; before = dev; after = dev }) hand hand h bytes (Ok d)
puts_nothing {kind = kind} laws dev sound hand h bytes d none logged lacks = record {
  closed = λ shut. (refl, none);
  lacks = λ own. lacks;
  done = λ some. absurd (not_some d.own none some);
  logged = logged;
  refused = λ refusal. (refl, none, refl, refl);
  fault = tt;
  lists = refl;
  err = tt;
  grows = Grows-by hand.at hand.at [] [] (GrowsBy-nothing hand.at);
  dev = goes_nowhere laws dev sound;
}

pub alters_nothing : (hand : InHand) (a : Answer) → IsLogged a → Alters hand hand (Ok a)
alters_nothing hand a logged = record {
  logged = logged;
  refused = λ h. (refl, refl);
  err = tt;
  grows = Grows-by hand.at hand.at [] [] (GrowsBy-nothing hand.at);
}

-- a call that looks and lacks memory leaves the session as it was
pub looks_short : (keys : List Key) (old new : InHand) (r : Result Answer OutOfMemory) → IsErr r → new.session ≡ old.session
    → Grows old.at new.at → Looks keys old new r
looks_short keys old new (Ok a) lacks same grows = absurd (cc)
looks_short keys old new (Err e) lacks same grows = record { records = tt; same = tt; logged = tt; refused = tt; err = same; grows = grows }

-- memory may be short at any time
pub memory_short : {S : Type 0} (kind : StoreKind S) (old new : Dev S) (bytes : List ℕ) → IsPutFault kind old new bytes fault.Memory
memory_short kind old new [] = refl
memory_short kind old new (b ∷ bs) = inl refl
