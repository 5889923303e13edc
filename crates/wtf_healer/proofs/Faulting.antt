-- Why entries were not restored, and what calls leave of the stores, over a longer span.
use Rattle.std.proofs.lemmas.Bool.{cond-true, lt-ltb}
use Rattle.std.proofs.Common.{◌-◌, ◌++◌, nat_lt, ◌≡◌, ℕ, ◌+◌, ◌<◌, Bool, true, zero, suc, List, [], ◌∷◌, length, Some, refl, sym, ap, ◌∙◌, subst, arith, inl}
use Rattle.std.proofs.Common.{inr}
use Rattle.std.specs.Prelude.{slice_get}
use Rattle.std.specs.List.{All, Contains}
use Rattle.std.proofs.lemmas.List.Elements.{All-nil, All-cons}
use Rattle.std.proofs.lemmas.Option.{slice_get_within, get_or_from_slice_get}
use Rattle.wtf_base.specs.declared.fault.Fault.{Fault}
use Rattle.wtf_base.specs.declared.fault.Fault.TheVariants as fault
use Rattle.wtf_base.specs.declared.settings.Settings.{Settings}
use Rattle.wtf_dev.specs.Store.{StoreKind, KindLaws}
use Rattle.wtf_overlay.specs.declared.part.Part.{Part}
use Rattle.wtf_overlay.specs.declared.part.Part.TheVariants.{Zero, Held}
use Rattle.wtf_overlay.specs.declared.part.Piece.{Piece}
use Rattle.wtf_overlay.specs.declared.part.Entry.{Entry}
use Rattle.wtf_overlay.specs.Lengths.{HasLength}
use Rattle.wtf_overlay.specs.Origin.{part_origin, pieces_origin}
use Rattle.wtf_replica.specs.Faults.{AreAllOut, IsWriteFault}
use Rattle.wtf_replica.specs.Outs.{IsOut}
use Rattle.wtf_replica.specs.Spans.{Span, span}
use Rattle.wtf_replica.proofs.Spans.{each_kept, all_out_since, out_since, same_syncs_on}
use Rattle.wtf_meta.specs.Bytes.{EntryBytes, SliceBytes}
use Rattle.wtf_region.specs.declared.dev.Dev.{Dev}
use Rattle.wtf_region.specs.Devs.{IsSoundDev, GoesOn, stores, is_down_in, between}
use Rattle.wtf_region.specs.Showing.{Reading, Gives, IsReadablePart, AreReadable, LacksPart, IsShowFault}
use Rattle.wtf_healer.specs.Bases.{inside_left}
use Rattle.wtf_healer.specs.Restored.{IsEntryFault, IsAnewFault, IsRestoreFault, OnlyStored}
use Rattle.wtf_healer.specs.Sparse.{is_sparse_part}
use Rattle.wtf_healer.proofs.Placing.{sparse_same}
use Rattle.wtf_healer.proofs.Reading.{left_readable, left_known}
use Rattle.wtf_healer.proofs.Restoring.{down_same}

-- ---- one piece

module _ {S : Type 0} (kind : StoreKind S) where
  part_readable : (dev : Dev S) → IsSoundDev kind dev → (n : ℕ) (part : Part) → HasLength n part
      → ((i : ℕ) → i < n → inside_left kind dev (part_origin part i) ≡ true) → IsReadablePart kind dev part
  part_readable dev sound n Zero len h = tt
  part_readable dev sound n (Held s) len h =
      let bytes : SliceBytes (inside_left kind dev) s = λ i below. h i (omega (arith, below, len)) in (
        left_readable kind (stores dev) dev.settings (is_down_in dev) sound.shelf s bytes,
        left_known kind (stores dev) dev.settings (is_down_in dev) sound.shelf s bytes,
      )

  pub piece_readable : (dev : Dev S) → IsSoundDev kind dev → (e : Entry) (p : Piece) → p.part ≡ e.part → EntryBytes (inside_left kind dev) e
      → AreReadable kind dev (p ∷ [])
  piece_readable dev sound e p part h =
      All-cons (λ (q : Piece). IsReadablePart kind dev q.part) p [] (subst (IsReadablePart kind dev) (sym part) (part_readable dev sound e.len e.part e.held h))
      (All-nil (λ (q : Piece). IsReadablePart kind dev q.part))

  only_piece : (before after : List Piece) (p q : Piece) → p ∷ [] ≡ before ++ q ∷ after → q ≡ p
  only_piece [] after p q e = cc
  only_piece (b ∷ []) after p q e = absurd (let n : length (p ∷ []) ≡ length (b ∷ q ∷ after) = ap length e in omega (arith, n))
  only_piece (b ∷ x ∷ bs) after p q e = absurd (let n : length (p ∷ []) ≡ length (b ∷ x ∷ bs ++ q ∷ after) = ap length e in omega (arith, n))

  pub piece_fault : (t : Span S) (e : Entry) (p : Piece) (pieces : List Piece) → p.part ≡ e.part → pieces ≡ p ∷ [] → (why : Fault)
      → IsShowFault kind t pieces why
      → IsEntryFault kind t e why
  piece_fault t e p pieces part one (fault.Read k) h =
      let is : h.piece ≡ p = only_piece h.before h.after p h.piece (sym one ∙ h.split) in
      subst (λ (x : Part). LacksPart kind t x k.0) (ap (λ (q : Piece). q.part) is ∙ part) h.lacks
  piece_fault t e p pieces part one fault.Memory h = tt
  piece_fault t e p pieces part one fault.Write h = absurd h
  piece_fault t e p pieces part one (fault.Punch k) h = absurd h
  piece_fault t e p pieces part one (fault.Damaged k) h = absurd h

-- the bytes of one piece are those of its part
pub piece_gives : (reading : Reading) (n m : ℕ) (p : Piece) (part : Part) (old new : List ℕ) → p.part ≡ part → p.len ≡ n → m ≡ n
    → Gives reading m (λ i. pieces_origin (p ∷ []) (0 + i)) old new → Gives reading n (part_origin part) old new
piece_gives reading n m p part old new is len same h = record {
  bytes = h.bytes;
  more = h.more;
  are = record {
    len = h.are.len ∙ same;
    shows = λ i b below up. h.are.shows i b (omega (arith, below, same)) (ap reading (at i below) ∙ up);
  };
}
  where
    at : (i : ℕ) → i < n → pieces_origin (p ∷ []) (0 + i) ≡ part_origin part i
    at i below =
        let zero_i : 0 + i ≡ i = omega arith in
        ap (pieces_origin (p ∷ [])) zero_i
        ∙ cond-true (nat_lt i p.len) (part_origin p.part i) (pieces_origin [] (i - p.len)) (lt-ltb i p.len (omega (arith, below, len)))
        ∙ ap (λ (x : Part). part_origin x i) is

-- ---- longer spans

pub single : {X : Type 0} (e x : X) → Contains (e ∷ []) x → e ≡ x
single e x (zero, below, is) = is
single e x (suc k, below, is) = absurd (omega (arith, below))

pub at_entry : {X : Type 0} (P : X → Type 0) (xs : List X) (i : ℕ) (x : X) → slice_get xs i ≡ Some x → All P xs → P x
at_entry P xs i x is all = subst P (get_or_from_slice_get xs i x x is) (all i x (slice_get_within xs i x is))

pub is_there : {X : Type 0} (xs : List X) (i : ℕ) (x : X) → slice_get xs i ≡ Some x → Contains xs x
is_there xs i x is = (i, slice_get_within xs i x is, get_or_from_slice_get xs i x x is)

module _ {S : Type 0} {kind : StoreKind S} (laws : KindLaws kind) where
  lacks_since : (old mid new : Dev S) → GoesOn kind old mid [] → (part : Part) (k : ℕ) → LacksPart kind (between mid new) part k
      → LacksPart kind (between old new) part k
  lacks_since old mid new f part k h = record {
    slice = h.slice;
    held = h.held;
    out = all_out_since kind (is_down_in old) (stores old) (stores mid) (stores new) f.each.same_length (each_kept laws f.each) h.slice k
        (subst (λ (d : ℕ → Bool). AreAllOut kind (span d (stores mid) (stores new)) h.slice k) (down_same laws f) h.out);
  }

  write_since : (old mid new : Dev S) → GoesOn kind old mid [] → IsWriteFault kind (between mid new) mid.settings fault.Write
      → IsWriteFault kind (between old new) old.settings fault.Write
  write_since old mid new f h = record {
    rest = h.rest;
    few = subst (λ (st : Settings). length h.rest < st.replicas) f.settings h.few;
    out = λ k below. elim (h.out k (subst (λ (st : Settings). k < st.servers) (sym f.settings) below)) [
      | inl rest ↦ inl rest
      | inr out ↦ inr (out_since kind (is_down_in old) (stores old) (stores mid) (stores new) f.each.same_length (each_kept laws f.each) k
          (subst (λ (d : ℕ → Bool). IsOut kind (span d (stores mid) (stores new)) k) (down_same laws f) out))
    ];
  }

  -- bytes that were not read, or not stored
  pub anew_read : (old mid : Dev S) (e : Entry) (why : Fault) → IsEntryFault kind (between old mid) e why → IsAnewFault kind old mid e why
  anew_read old mid e (fault.Read k) h = h
  anew_read old mid e fault.Memory h = tt
  anew_read old mid e fault.Write h = absurd h
  anew_read old mid e (fault.Punch k) h = absurd h
  anew_read old mid e (fault.Damaged k) h = absurd h

  pub anew_write : (old mid new : Dev S) → GoesOn kind old mid [] → (e : Entry) (why : Fault) → IsWriteFault kind (between mid new) mid.settings why
      → IsAnewFault kind old new e why
  anew_write old mid new f e fault.Write h = write_since old mid new f h
  anew_write old mid new f e fault.Memory h = tt
  anew_write old mid new f e (fault.Read k) h = absurd h
  anew_write old mid new f e (fault.Punch k) h = absurd h
  anew_write old mid new f e (fault.Damaged k) h = absurd h

  pub one_fault : (old new : Dev S) (e : Entry) (why : Fault) → is_sparse_part (is_down_in old) old.settings.replicas e.part ≡ true
      → IsAnewFault kind old new e why → IsRestoreFault kind old new (e ∷ []) why
  one_fault old new e (fault.Read k) sparse h = record { entry = e; there = (0, omega arith, refl); sparse = sparse; lacks = h }
  one_fault old new e fault.Write sparse h = record { entry = e; there = (0, omega arith, refl); sparse = sparse; few = h }
  one_fault old new e fault.Memory sparse h = tt
  one_fault old new e (fault.Punch k) sparse h = absurd h
  one_fault old new e (fault.Damaged k) sparse h = absurd h

  -- why a part of a list was not restored is why the list was not, also where there was more before
  pub fault_over : (old mid new : Dev S) → GoesOn kind old mid [] → (es all : List Entry) → ((x : Entry) → Contains es x → Contains all x) → (why : Fault)
      → IsRestoreFault kind mid new es why → IsRestoreFault kind old new all why
  fault_over old mid new f es all within (fault.Read k) h = record {
    entry = h.entry;
    there = within h.entry h.there;
    sparse = sym (sparse_same f h.entry.part) ∙ h.sparse;
    lacks = lacks_since old mid new f h.entry.part k.0 h.lacks;
  }
  fault_over old mid new f es all within fault.Write h = record {
    entry = h.entry;
    there = within h.entry h.there;
    sparse = sym (sparse_same f h.entry.part) ∙ h.sparse;
    few = write_since old mid new f h.few;
  }
  fault_over old mid new f es all within fault.Memory h = tt
  fault_over old mid new f es all within (fault.Punch k) h = absurd h
  fault_over old mid new f es all within (fault.Damaged k) h = absurd h

  pub fault_since : (old mid new : Dev S) → GoesOn kind old mid [] → (es : List Entry) (e : Entry) → Contains es e → (why : Fault)
      → IsRestoreFault kind mid new (e ∷ []) why → IsRestoreFault kind old new es why
  fault_since old mid new f es e there why h =
      fault_over old mid new f (e ∷ []) es (λ x c. subst (Contains es) (single e x c) there) why h

  pub stores_over : (old mid new : Dev S) → GoesOn kind old mid [] → OnlyStored kind (between old mid) → OnlyStored kind (between mid new)
      → OnlyStored kind (between old new)
  stores_over old mid new f first next =
      let then = subst (λ (d : ℕ → Bool). OnlyStored kind (span d (stores mid) (stores new))) (down_same laws f) next in
      record {
        down = λ k d low. then.down k d low ∙ first.down k d low;
        syncs = same_syncs_on kind (stores old) (stores mid) (stores new) f.each.same_length first.syncs then.syncs;
      }

pub stores_nothing : {S : Type 0} (kind : StoreKind S) (dev : Dev S) → OnlyStored kind (between dev dev)
stores_nothing kind dev = record { down = λ k d low. refl; syncs = λ k d below. refl }
