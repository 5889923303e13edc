-- Calls on handles and bytes, as calls of a transaction: made for the first time, and made once more.
use Rattle.std.proofs.Common.{◌≡◌, ◌⊎◌, ℕ, List, [], length, Option, None, Some, get_or, refl, sym, ap, ◌∙◌, subst, inl, inr, arith}
use Rattle.std.specs.Prelude.{Bool, IfSome, ⊤}
use Rattle.wtf_base.specs.declared.fault.Fault.{Fault}
use Rattle.wtf_base.specs.declared.kept.Kept.{Kept}
use Rattle.wtf_base.specs.declared.slice.Slice.{Slice}
use Rattle.wtf_base.specs.Slices.{len_of}
use Rattle.wtf_dev.specs.Store.{StoreKind}
use Rattle.wtf_dev.specs.Sums.{TellsAll}
use Rattle.wtf_overlay.specs.Origin.{Place, part_origin}
use Rattle.wtf_overlay.specs.declared.part.Part.TheVariants.{Held}
use Rattle.wtf_ring.specs.Points.{PlaceView}
use Rattle.wtf_replica.specs.Bytes.{byte_at}
use Rattle.wtf_replica.proofs.Bytes.{stored_bytes}
use Rattle.wtf_model.specs.declared.answer.Answer.{Answer}
use Rattle.wtf_model.specs.declared.op.Op.{Op}
use Rattle.wtf_model.specs.declared.op.Op.TheVariants as op
use Rattle.wtf_log.specs.Calls.{own_of}
use Rattle.wtf_log.specs.Standing.{OpStandsFor}
use Rattle.wtf_meta.specs.declared.session.Handle.{Handle}
use Rattle.wtf_meta.specs.Contents.{Told, is_told}
use Rattle.wtf_meta.specs.Maps.{Map}
use Rattle.wtf_meta.specs.Sessions.{SessionView, handle_in}
use Rattle.wtf_meta.proofs.Telling.{told_from}
use Rattle.wtf_region.specs.declared.dev.Dev.{Dev}
use Rattle.wtf_region.specs.Devs.{stores}
use Rattle.wtf_region.specs.Inside.{is_inside}
use Rattle.wtf_region.proofs.InsideLaws.{slice_inside}
use Rattle.wtf_rw.specs.declared.op.Given.TheVariants.{Fresh, Stored}
use Rattle.wtf_rw.specs.declared.op.RwOp.{RwOp}
use Rattle.wtf_rw.specs.declared.op.RwOp.TheVariants as rw
use Rattle.wtf_rw.specs.Stored.{SliceBytes, TellSlice, IsOwn}
use Rattle.wtf_rw.specs.Ops.{op_of, Writes, IsWhole, RwBytes, OwnBy, IsRwOwn, LacksOwn, StoresNone, IsRwFault, IsBare, LacksSlice, NeedsNoStore}
use Rattle.wtf_rw.specs.Ops.{rw_place, rw_len}
use Rattle.wtf_rw.proofs.StoredBytes.{held_meaning}
use Rattle.wtf_replay.specs.Built.{IsOpOf, IsFresh, IsStored, call_data, data_len}
use Rattle.wtf_replay.specs.Keeps.{IsWholeOp, LacksData, IsKeptOf}
use Rattle.wtf_replay.specs.Causes.{IsOwnOf, IsCallFault, IsAgainFault, IsStillOp, StoresNothing, grown_place}
use Rattle.wtf_replay.specs.Sounds.{tells_slice}

-- slices that are told have only bytes that are
pub told_slice : (told : Told) (own : Option Slice) (bytes : List ℕ) → TellSlice told own bytes → SliceBytes (is_told told) own
told_slice told None bytes h = tt
told_slice told (Some s) bytes h = λ i below. told_from told (part_origin (Held s) i) (get_or bytes i 0) (h.tells i below)

-- a slice that is told, if there is one
pub tell_some : (told : Told) (o : Option Slice) (bytes : List ℕ) → IfSome o (λ s. tells_slice told s bytes) → TellSlice told o bytes
tell_some told None bytes h = tt
tell_some told (Some s) bytes h = h

some_tell : (told : Told) (o : Option Slice) (bytes : List ℕ) → TellSlice told o bytes → IfSome o (λ s. tells_slice told s bytes)
some_tell told None bytes h = tt
some_tell told (Some s) bytes h = h

-- a call whose bytes were not kept
abbrev pub Lacks : RwOp → Type 0
Lacks (rw.Write f d) = LacksSlice d
Lacks (rw.Append f d) = LacksSlice d
Lacks r = ⊥

pub lacks_bare : (r : RwOp) → Lacks r → IsBare r
lacks_bare (rw.Write f d) h = h
lacks_bare (rw.Append f d) h = h
lacks_bare r h = absurd h

module _ {S : Type 0} (kind : StoreKind S) (old new : Dev S) (w : Map) (s : SessionView) where
  -- a call that is made for the first time
  pub record FreshWays (r : RwOp) (o : Op (List ℕ)) : Type 0 where
    pub own : (q : Option Slice) → IsRwOwn kind old new w s r q → IsOwnOf kind old new w s o q
    pub fault : (why : Fault) → IsRwFault kind old new w s r why → IsCallFault kind old new w s o why
    pub lacks : (q : Option Slice) (a : Answer) → LacksOwn r q a → LacksData o q a
    pub none : StoresNothing o → StoresNone r
    pub place : rw_place old w s r ≡ grown_place old w s o
    pub len : rw_len r ≡ data_len o

  pub fresh_ways : (r : RwOp) (o : Op (List ℕ)) → IsOpOf IsFresh r o → FreshWays r o
  fresh_ways (rw.Write f (Fresh bs)) o (bytes, e, is) =
      subst (FreshWays (rw.Write f (Fresh bs))) (sym (e ∙ ap (op.Write f) is))
      (record { own = λ q h. h; fault = λ why h. h; lacks = λ q a l. l; none = λ h. h; place = refl; len = refl })
  fresh_ways (rw.Append f (Fresh bs)) o (bytes, e, is) =
      subst (FreshWays (rw.Append f (Fresh bs))) (sym (e ∙ ap (op.Append f) is))
      (record { own = λ q h. h; fault = λ why h. h; lacks = λ q a l. l; none = λ h. h; place = refl; len = refl })
  fresh_ways (rw.Write f (Stored kept)) o (bytes, e, is) = absurd is
  fresh_ways (rw.Append f (Stored kept)) o (bytes, e, is) = absurd is
  fresh_ways r o e = subst (FreshWays r) (sym e) (record {
    own = λ q h. h;
    fault = λ why h. h;
    lacks = λ q a l none. inl refl;
    none = λ h. h;
    place = refl;
    len = refl;
  })

  -- the slice that was stored has as many bytes as the data
  by_len : (o : Option Handle) (place : Handle → PlaceView) (bytes : List ℕ) (q : Option Slice) → OwnBy kind old new o place bytes q
      → IfSome q (λ sl. len_of sl ≡ length bytes)
  by_len None place bytes q h = subst (λ z. IfSome z (λ sl. len_of sl ≡ length bytes)) (sym h.1) tt
  by_len (Some g) place bytes None h = tt
  by_len (Some g) place bytes (Some sl) h = h.0.len

  pub own_len_of : (o : Op (List ℕ)) (q : Option Slice) → IsOwnOf kind old new w s o q → IfSome q (λ sl. len_of sl ≡ length (call_data o))
  own_len_of (op.Write f bytes) q h = by_len (handle_in s f) _ bytes q h
  own_len_of (op.Append f bytes) q h = by_len (handle_in s f) _ bytes q h
  own_len_of (op.Read f n) q h = subst (λ z. IfSome z (λ sl. len_of sl ≡ 0)) (sym h) tt
  own_len_of (op.Yank f n l) q h = subst (λ z. IfSome z (λ sl. len_of sl ≡ 0)) (sym h) tt
  own_len_of (op.Peek l off n) q h = subst (λ z. IfSome z (λ sl. len_of sl ≡ 0)) (sym h) tt
  own_len_of (op.Concat p paths) q h = subst (λ z. IfSome z (λ sl. len_of sl ≡ 0)) (sym h) tt
  own_len_of o q h = subst (λ z. IfSome z (λ sl. len_of sl ≡ length (call_data o))) (sym h.1) tt

  -- and lies inside the stores
  by_inside : (o : Option Handle) (place : Handle → PlaceView) (bytes : List ℕ) (q : Option Slice) → OwnBy kind old new o place bytes q
      → SliceBytes (is_inside kind (stores new) old.settings) q
  by_inside None place bytes q h = subst (SliceBytes (is_inside kind (stores new) old.settings)) (sym h.1) tt
  by_inside (Some g) place bytes None h = tt
  by_inside (Some g) place bytes (Some sl) h = slice_inside kind (stores new) old.settings sl h.1 h.2

  none_inside : (q : Option Slice) → q ≡ None → SliceBytes (is_inside kind (stores new) old.settings) q
  none_inside q h = subst (SliceBytes (is_inside kind (stores new) old.settings)) (sym h) tt

  pub own_inside_of : (o : Op (List ℕ)) (q : Option Slice) → IsOwnOf kind old new w s o q → SliceBytes (is_inside kind (stores new) old.settings) q
  own_inside_of (op.Write f bytes) q h = by_inside (handle_in s f) _ bytes q h
  own_inside_of (op.Append f bytes) q h = by_inside (handle_in s f) _ bytes q h
  own_inside_of (op.Read f n) q h = none_inside q h
  own_inside_of (op.Yank f n l) q h = none_inside q h
  own_inside_of (op.Peek l off n) q h = none_inside q h
  own_inside_of (op.Concat p paths) q h = none_inside q h
  own_inside_of o q h = none_inside q h.1

  -- and where the call is kept it is the slice that is
  pub own_known : (k : Op Kept) (o : Op (List ℕ)) (q : Option Slice) → IsKeptOf o q k → IsOwnOf kind old new w s o q → own_of k ≡ q
  own_known (op.Write f kept) o q is h = is.keeps
  own_known (op.Append f kept) o q is h = is.keeps
  own_known (op.Read f n) o q is h = sym (subst (λ (z : Op (List ℕ)). IsOwnOf kind old new w s z q) is.stands h)
  own_known (op.Yank f n l) o q is h = sym (subst (λ (z : Op (List ℕ)). IsOwnOf kind old new w s z q) is.stands h)
  own_known (op.Peek l off n) o q is h = sym (subst (λ (z : Op (List ℕ)). IsOwnOf kind old new w s z q) is.stands h)
  own_known (op.Concat p paths) o q is h = sym (subst (λ (z : Op (List ℕ)). IsOwnOf kind old new w s z q) is.stands h)
  own_known k o q is h = let still = subst (λ (z : Op (List ℕ)). IsOwnOf kind old new w s z q) is.stands h in sym still.1

  -- and the stores tell them there
  tell_own : (place : PlaceView) (bytes : List ℕ) (q : Option Slice) → length (stores new) ≡ length (stores old) → TellsAll kind (stores old)
      → IsOwn kind old new place bytes q → TellSlice (byte_at kind (stores new)) q bytes
  tell_own place bytes None same tells is = tt
  tell_own place bytes (Some sl) same tells is =
      let holds = stored_bytes is.0 same tells in
      record { len = is.0.len; tells = λ i below. held_meaning (byte_at kind (stores new)) sl i (get_or bytes i 0) (holds i (omega (arith, below, is.0.len))) }

  by_told : (o : Option Handle) (place : Handle → PlaceView) (bytes : List ℕ) (q : Option Slice) → length (stores new) ≡ length (stores old)
      → TellsAll kind (stores old) → OwnBy kind old new o place bytes q
      → TellSlice (byte_at kind (stores new)) q bytes
  by_told None place bytes q same tells h = subst (λ z. TellSlice (byte_at kind (stores new)) z bytes) (sym h.1) tt
  by_told (Some g) place bytes q same tells h = tell_own (place g) bytes q same tells h

  pub own_told_of : (o : Op (List ℕ)) (q : Option Slice) → length (stores new) ≡ length (stores old) → TellsAll kind (stores old) → IsOwnOf kind old new w s o q
      → TellSlice (byte_at kind (stores new)) q (call_data o)
  own_told_of (op.Write f bytes) q same tells h = by_told (handle_in s f) _ bytes q same tells h
  own_told_of (op.Append f bytes) q same tells h = by_told (handle_in s f) _ bytes q same tells h
  own_told_of (op.Read f n) q same tells h = subst (λ z. TellSlice (byte_at kind (stores new)) z []) (sym h) tt
  own_told_of (op.Yank f n l) q same tells h = subst (λ z. TellSlice (byte_at kind (stores new)) z []) (sym h) tt
  own_told_of (op.Peek l off n) q same tells h = subst (λ z. TellSlice (byte_at kind (stores new)) z []) (sym h) tt
  own_told_of (op.Concat p paths) q same tells h = subst (λ z. TellSlice (byte_at kind (stores new)) z []) (sym h) tt
  own_told_of o q same tells h = subst (λ z. TellSlice (byte_at kind (stores new)) z (call_data o)) (sym h.1) tt

  -- a call that is made once more
  pub record AgainWays (r : RwOp) (k : Op Kept) : Type 0 where
    pub given : (P : List Place → Bool) → SliceBytes P (own_of k) → RwBytes P r
    pub none : StoresNone r
    pub whole : IsWholeOp k → IsWhole r
    pub either : IsWhole r ⊎ Lacks r
    pub kept : IsWholeOp k ⊎ Lacks r
    pub still : IsStillOp k → NeedsNoStore r
    pub fault : (why : Fault) → IsRwFault kind old new w s r why → IsAgainFault kind old new w s k why

  kept_either : (o : Option Slice) (n : ℕ) → (o ≡ None → n ≡ 0) ⊎ (o ≡ None)
  kept_either None n = inr refl
  kept_either (Some sl) n = inl (λ e. absurd (cc))

  pub again_ways : (r : RwOp) (k : Op Kept) → IsOpOf IsStored r k → AgainWays r k
  again_ways (rw.Write f (Stored kept)) k (x, e, is) = subst (AgainWays (rw.Write f (Stored kept))) (sym (e ∙ ap (op.Write f) is)) (record {
    given = λ P h. h;
    none = tt;
    whole = λ h. h;
    either = kept_either kept.slice kept.len;
    kept = kept_either kept.slice kept.len;
    still = λ h. tt;
    fault = λ why h. h;
  })
  again_ways (rw.Append f (Stored kept)) k (x, e, is) = subst (AgainWays (rw.Append f (Stored kept))) (sym (e ∙ ap (op.Append f) is)) (record {
    given = λ P h. h;
    none = tt;
    whole = λ h. h;
    either = kept_either kept.slice kept.len;
    kept = kept_either kept.slice kept.len;
    still = λ h. tt;
    fault = λ why h. h;
  })
  again_ways (rw.Write f (Fresh bs)) k (x, e, is) = absurd is
  again_ways (rw.Append f (Fresh bs)) k (x, e, is) = absurd is
  again_ways (rw.Read f n) k e = subst (AgainWays (rw.Read f n)) (sym e) (record {
    given = λ P h. tt;
    none = tt;
    whole = λ h. tt;
    either = inl tt;
    kept = inl tt;
    still = λ h. absurd h;
    fault = λ why h. h;
  })
  again_ways r k e = subst (AgainWays r) (sym e) (record {
    given = λ P h. tt;
    none = tt;
    whole = λ h. tt;
    either = inl tt;
    kept = inl tt;
    still = λ h. tt;
    fault = λ why h. h;
  })

-- the bytes of a call that is made once more, as P tells them of its slice
module _ (P : Slice → List ℕ → Type 0) where
  -- P holds of the slice that a call is given
  abbrev pub RwTell : RwOp → List ℕ → Type 0
  RwTell (rw.Write f (Stored kept)) bytes = IfSome kept.slice (λ s. P s bytes)
  RwTell (rw.Append f (Stored kept)) bytes = IfSome kept.slice (λ s. P s bytes)
  RwTell r bytes = ⊤

  pub record Brought (r : RwOp) (o : Op (List ℕ)) : Type 0 where
    pub bytes : List ℕ
    pub is : op_of r bytes ≡ o
    pub writes : Writes r bytes
    pub tell : RwTell r bytes

  plain_brought : (r : RwOp) (k : Op Kept) (p : Op (List ℕ)) (o : Op (List ℕ)) → o ≡ p → op_of r [] ≡ p → Writes r [] → RwTell r [] → Brought r o
  plain_brought r k p o e is writes tell = record { bytes = []; is = is ∙ sym e; writes = writes; tell = tell }

  pub brought_for : (r : RwOp) (k : Op Kept) (o : Op (List ℕ)) → IsOpOf IsStored r k → OpStandsFor P k o → Brought r o
  brought_for (rw.Write f (Stored kept)) k o (x, e, is) h =
      let g = subst (λ q. OpStandsFor P q o) (e ∙ ap (op.Write f) is) h in
      record { bytes = g.bytes; is = sym g.is; writes = sym g.stands.len; tell = g.stands.slice }
  brought_for (rw.Append f (Stored kept)) k o (x, e, is) h =
      let g = subst (λ q. OpStandsFor P q o) (e ∙ ap (op.Append f) is) h in
      record { bytes = g.bytes; is = sym g.is; writes = sym g.stands.len; tell = g.stands.slice }
  brought_for (rw.Write f (Fresh bs)) k o (x, e, is) h = absurd is
  brought_for (rw.Append f (Fresh bs)) k o (x, e, is) h = absurd is
  brought_for r k o e h = plain_brought r k (op_of r []) o (subst (λ q. OpStandsFor P q o) e h) refl tt tt

  -- a call that is made for the first time is given no slice
  pub fresh_tell : (r : RwOp) (o : Op (List ℕ)) (bytes : List ℕ) → IsOpOf IsFresh r o → RwTell r bytes
  fresh_tell (rw.Write f (Stored kept)) o bytes (x, e, is) = absurd is
  fresh_tell (rw.Append f (Stored kept)) o bytes (x, e, is) = absurd is
  fresh_tell r o bytes e = tt

-- and one that is made once more is given the slice that a log kept
kept_tell : (told : Told) (kept : Kept) (call : List ℕ → Op (List ℕ)) (bytes : List ℕ) (o : Op (List ℕ)) (own : Option Slice) → call bytes ≡ o
    → call_data (call bytes) ≡ bytes → own ≡ kept.slice → TellSlice told own (call_data o) → IfSome kept.slice (λ s. tells_slice told s bytes)
kept_tell told kept call bytes o own is same slice tell = some_tell told kept.slice bytes
    (subst (TellSlice told kept.slice) (ap call_data (sym is) ∙ same) (subst (λ (q : Option Slice). TellSlice told q (call_data o)) slice tell))

pub again_tell : (told : Told) (r : RwOp) (k : Op Kept) (o : Op (List ℕ)) (bytes : List ℕ) → IsOpOf IsStored r k → op_of r bytes ≡ o
    → TellSlice told (own_of k) (call_data o) → RwTell (tells_slice told) r bytes
again_tell told (rw.Write f (Stored kept)) k o bytes (x, e, same) is tell =
    kept_tell told kept (op.Write f) bytes o (own_of k) is refl (ap own_of (e ∙ ap (λ (q : Kept). op.Write f q) same)) tell
again_tell told (rw.Append f (Stored kept)) k o bytes (x, e, same) is tell =
    kept_tell told kept (op.Append f) bytes o (own_of k) is refl (ap own_of (e ∙ ap (λ (q : Kept). op.Append f q) same)) tell
again_tell told r k o bytes e is tell = tt

-- a call that is to store no byte stores no slice
pub none_stored : {S : Type 0} (kind : StoreKind S) (old new : Dev S) (w : Map) (s : SessionView) (r : RwOp) (q : Option Slice) → StoresNone r
    → IsRwOwn kind old new w s r q → q ≡ None
none_stored kind old new w s (rw.Write f (Fresh bs)) q n h = absurd n
none_stored kind old new w s (rw.Append f (Fresh bs)) q n h = absurd n
none_stored kind old new w s (rw.Read f m) q n h = h
none_stored kind old new w s r q n h = h.1
