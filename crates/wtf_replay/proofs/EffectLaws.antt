-- The keys, changes and lists of a call of a transaction, from those of the call on an attempt as which it is made.
use Rattle.std.proofs.Common.{◌≡◌, ◌≢◌, ℕ, zero, suc, ◌+◌, ◌++◌, Bool, true, false, List, [], ◌∷◌, length, Option, None, Some, refl, sym, ap, ◌∙◌, subst}
use Rattle.std.proofs.Common.{append-nil, arith, inl, inr}
use Rattle.std.specs.Prelude.{◌⊎◌, bytes_eq, if◌then◌else◌, slice_get, IsSomeAnd, Result, Ok, Err, IfOk, IfSome, OnOk}
use Rattle.std.specs.List.{list_any}
use Rattle.std.proofs.lemmas.Bool.{cond-true, cond-false, or_left, or_right, or_from, false_from_ne_true}
use Rattle.std.proofs.lemmas.Slice.Eq.{bytes_eq-Decides}
use Rattle.wtf_base.specs.declared.ids.InodeId.{InodeId}
use Rattle.wtf_base.specs.declared.kept.Kept.{Kept}
use Rattle.wtf_base.specs.declared.slice.Slice.{Slice}
use Rattle.wtf_base.specs.Slices.{len_of}
use Rattle.wtf_kv.specs.Stores.{Store}
use Rattle.wtf_occ.specs.Attempts.{Attempted, GrowsBy}
use Rattle.wtf_model.specs.declared.answer.Answer.{Answer}
use Rattle.wtf_model.specs.declared.answer.Answer.TheVariants as answer
use Rattle.wtf_model.specs.declared.op.Op.{Op}
use Rattle.wtf_model.specs.declared.op.Op.TheVariants as op
use Rattle.wtf_values.specs.declared.key.Key.{Key}
use Rattle.wtf_values.specs.declared.key.Key.TheVariants.{Path}
use Rattle.wtf_values.specs.declared.value.Delta.{Delta}
use Rattle.wtf_values.specs.declared.value.Node.{Node}
use Rattle.wtf_values.specs.declared.value.Node.TheVariants.{Folder, File}
use Rattle.wtf_log.specs.Calls.{own_of}
use Rattle.wtf_meta.specs.declared.session.Handle.{Handle}
use Rattle.wtf_values.specs.declared.value.Value.{Value}
use Rattle.wtf_meta.specs.Lists.{ListFact}
use Rattle.wtf_meta.specs.Maps.{Map, Edits}
use Rattle.wtf_meta.specs.Sessions.{SessionView, at_label, handle_in, IsOff}
use Rattle.wtf_index.specs.Checks.{stands_at}
use Rattle.wtf_steps.specs.Steps.{IsRefusal}
use Rattle.wtf_steps.specs.Made.{Makes}
use Rattle.wtf_steps.specs.Holding.{LeavesHand, MovesOn}
use Rattle.wtf_steps.specs.Recalling.{ReadsFor}
use Rattle.wtf_rw.specs.declared.op.Given.{Given}
use Rattle.wtf_rw.specs.declared.op.Given.TheVariants.{Fresh, Stored}
use Rattle.wtf_rw.specs.declared.op.RwOp.{RwOp}
use Rattle.wtf_rw.specs.declared.op.RwOp.TheVariants as rw
use Rattle.wtf_rw.specs.Ops.{rw_keys}
use Rattle.wtf_rw.specs.Changed.{RwMade}
use Rattle.wtf_rw.specs.Held.{RwHolds, held_len}
use Rattle.wtf_rw.specs.Reads.{RwReads}
use Rattle.wtf_slicing.specs.declared.op.SliceOp.{SliceOp}
use Rattle.wtf_slicing.specs.declared.op.SliceOp.TheVariants as slicing
use Rattle.wtf_slicing.specs.Ops.{slice_keys}
use Rattle.wtf_slicing.specs.Changed.{SliceMade}
use Rattle.wtf_slicing.specs.Held.{SliceHolds, SliceReads}
use Rattle.wtf_meta.specs.Calls.{InHand}
use Rattle.wtf_replay.specs.Views.{TxnView, hand_of}
use Rattle.wtf_replay.specs.Built.{is_rw_op, is_slice_op, IsOpOf, IsSliceOpOf, IsFresh, IsStored, data_len}
use Rattle.wtf_replay.specs.Keeps.{LacksData}
use Rattle.wtf_replay.specs.Looked.{HasHandleOf, IsLooked}
use Rattle.wtf_slicing.specs.Sights.{Sight, sight}
use Rattle.wtf_replay.specs.Effects.{is_by, is_held, is_file, is_busy, taken_keys, taken_changes, call_keys, CallMakes}
use Rattle.wtf_replay.specs.Effects.{Acts, CallHolds, CallReads, kept_len, Scope, sight_at, MakesAgain, Redoes, AreRedone, StopsAt}

-- a handle that is opened by a path is found
held_among : (p : List ℕ) (hs : List (Option Handle)) (f : ℕ) (h : Handle) → at_label hs f ≡ Some h → h.path ≡ p → list_any (is_by p) hs ≡ true
held_among p [] f h at is = absurd (cc)
held_among p (None ∷ hs) zero h at is = absurd (cc)
held_among p (Some g ∷ hs) zero h at is =
    let same : g ≡ h = cc in
    or_left (bytes_eq g.path p) (list_any (is_by p) hs) ((bytes_eq-Decides g.path p).1 (ap (λ (k : Handle). k.path) same ∙ is))
held_among p (o ∷ hs) (suc f) h at is = or_right (is_by p o) (list_any (is_by p) hs) (held_among p hs f h at is)

-- and where none is, none is found
off_among : (p : List ℕ) (hs : List (Option Handle)) → ((f : ℕ) (h : Handle) → at_label hs f ≡ Some h → h.path ≢ p) → list_any (is_by p) hs ≡ false
off_among p [] off = refl
off_among p (None ∷ hs) off = off_among p hs (λ f h at. off (suc f) h at)
off_among p (Some g ∷ hs) off =
    or_from (bytes_eq g.path p) (list_any (is_by p) hs)
    (false_from_ne_true (bytes_eq g.path p) (λ e. off zero g refl ((bytes_eq-Decides g.path p).0 e)))
    (off_among p hs (λ f h at. off (suc f) h at))

some_and : (o : Option Handle) (p : List ℕ) → IsSomeAnd o (λ h. h.path ≡ p) → (h : Handle) × (o ≡ Some h) × (h.path ≡ p)
some_and None p held = absurd held
some_and (Some h) p held = (h, refl, held)

held_is : (p : List ℕ) (s : SessionView) → HasHandleOf p s → is_held s p ≡ true
held_is p s held =
    let one = some_and (handle_in s held.0) p held.1 in
    held_among p s.handles held.0 one.0 one.1 one.2

off_is : (p : List ℕ) (s : SessionView) → IsOff p s → is_held s p ≡ false
off_is p s off = off_among p s.handles off

is_no_file : (n : Option Node) → ((i : InodeId) → n ≢ Some (File i)) → is_file n ≡ false
is_no_file None h = refl
is_no_file (Some Folder) h = refl
is_no_file (Some (File i)) h = absurd (h i refl)

-- a file is busy: it was looked at, and nothing else
pub busy_went : (b : Map) (s : SessionView) (p : List ℕ) (old new : Attempted Key Delta) (ks : List Key) (cs : Edits) → IsLooked b s p old new true
    → GrowsBy old new (taken_keys b s p ks) (taken_changes b s p cs)
busy_went b s p old new ks cs busy =
    let is : is_busy b s p ≡ true = cond-true (is_held s p) (is_file (stands_at b p)) false (held_is p s busy.held) ∙ ap is_file busy.file in
    subst (λ (l : List Key). GrowsBy old new l (taken_changes b s p cs)) (sym (cond-true (is_busy b s p) (Path p ∷ []) ks is))
    (subst (λ (l : Edits). GrowsBy old new (Path p ∷ []) l) (sym (cond-true (is_busy b s p) [] cs is)) busy.recorded)

-- one that is not: the call went on
free_is : (b : Map) (s : SessionView) (p : List ℕ) → IsOff p s ⊎ ((i : InodeId) → stands_at b p ≢ Some (File i)) → is_busy b s p ≡ false
free_is b s p (inl off) = cond-false (is_held s p) (is_file (stands_at b p)) false (off_is p s off)
free_is b s p (inr none) = ap (λ (f : Bool). if is_held s p then f else false) (is_no_file (stands_at b p) none) ∙ never (is_held s p)
  where
    never : (c : Bool) → (if c then false else false) ≡ false
    never true = refl
    never false = refl

pub free_went : (b : Map) (s : SessionView) (p : List ℕ) (old new : Attempted Key Delta) (ks : List Key) (cs : Edits)
    → IsOff p s ⊎ ((i : InodeId) → stands_at b p ≢ Some (File i)) → GrowsBy old new ks cs → GrowsBy old new (taken_keys b s p ks) (taken_changes b s p cs)
free_went b s p old new ks cs free went =
    let is = free_is b s p free in
    subst (λ (l : List Key). GrowsBy old new l (taken_changes b s p cs)) (sym (cond-false (is_busy b s p) (Path p ∷ []) ks is))
    (subst (λ (l : Edits). GrowsBy old new ks l) (sym (cond-false (is_busy b s p) [] cs is)) went)

-- what follows of a value from what comes with one
pub if_all : {T E Q : Type 0} (r : Result T E) (P R : T → Type 0) → OnOk r Q → IfOk r P → ((a : T) → Q → P a → R a) → IfOk r R
if_all (Ok a) P R q h f = f a q h
if_all (Err e) P R q h f = tt

pub if_both : {T E : Type 0} (r : Result T E) (P Q : T → Type 0) → IfOk r P → IfOk r Q → IfOk r (λ a. P a × Q a)
if_both (Ok a) P Q p q = (p, q)
if_both (Err e) P Q p q = tt

-- an answer is a refusal, or it is none
refusal_or_not : (a : Answer) → IsRefusal a ⊎ (IsRefusal a → ⊥)
refusal_or_not (answer.Refused w) = inl tt
refusal_or_not a = inr (λ h. h)

-- a call that makes no change leaves the changes
no_change : (a : Answer) (old new : Attempted Key Delta) → Makes a (λ cs. cs ≡ []) old new → new.changes ≡ old.changes
no_change a old new made =
    let none : made.edits ≡ [] = elim (refusal_or_not a) [
      | inl is ↦ made.refused is
      | inr going ↦ made.made going
    ] in
    made.changes ∙ ap (λ (l : Edits). old.changes ++ l) none ∙ append-nil old.changes

module _ (z : ℕ) (w : Map) (s : SessionView) (new : InodeId) (a : Answer) (old into : Attempted Key Delta) (base : into.base ≡ old.base) where
  abbrev by : List ListFact → Sight
  by lists = sight z w s new lists

  fresh_as : (lists : List ListFact) (own : Option Slice) (p o : Op (List ℕ)) → o ≡ p → into.reads ≡ old.reads ++ call_keys (by lists) (data_len p) p
      → CallMakes (by lists) own p a old into
      → Acts (by lists) (data_len o) own o a old into
  fresh_as lists own p o is keys makes =
      subst (λ (k : Op (List ℕ)). Acts (by lists) (data_len k) own k a old into) (sym is) (record { base = base; keys = keys; makes = makes })

  -- a call on handles or bytes that was made for the first time
  pub acts_fresh : (lists : List ListFact) (r : RwOp) (o : Op (List ℕ)) (own : Option Slice) → IsOpOf IsFresh r o → into.reads ≡ old.reads ++ rw_keys z w s r
      → Makes a (RwMade z w s r own) old into → Acts (by lists) (data_len o) own o a old into
  acts_fresh lists (rw.Write f (Fresh bs)) o own is keys made = fresh_as lists own (op.Write f is.0) o is.1 keys made
  acts_fresh lists (rw.Write f (Stored kept)) o own is keys made = absurd is.2
  acts_fresh lists (rw.Append f (Fresh bs)) o own is keys made =
      let n : length bs.now ≡ length is.0 = ap length (sym is.2) in
      fresh_as lists own (op.Append f is.0) o is.1 (subst (λ (m : ℕ). into.reads ≡ old.reads ++ call_keys (by lists) m (op.Append f is.0)) n keys) made
  acts_fresh lists (rw.Append f (Stored kept)) o own is keys made = absurd is.2
  acts_fresh lists (rw.Truncate f n) o own is keys made = fresh_as lists own (op.Truncate f n) o is keys made
  acts_fresh lists (rw.Punch f n) o own is keys made = fresh_as lists own (op.Punch f n) o is keys made
  acts_fresh lists r o own is keys made = fresh_as lists own _ o is keys (no_change a old into made)

  again_as : (lists : List ListFact) (p k : Op Kept) → k ≡ p → into.reads ≡ old.reads ++ call_keys (by lists) (kept_len p) p
      → CallMakes (by lists) (own_of p) p a old into
      → Acts (by lists) (kept_len k) (own_of k) k a old into
  again_as lists p k is keys makes =
      subst (λ (q : Op Kept). Acts (by lists) (kept_len q) (own_of q) q a old into) (sym is) (record { base = base; keys = keys; makes = makes })

  -- one that is made once more, on what a log kept of its data
  pub acts_again : (lists : List ListFact) (r : RwOp) (k : Op Kept) (own : Option Slice) → IsOpOf IsStored r k → into.reads ≡ old.reads ++ rw_keys z w s r
      → Makes a (RwMade z w s r own) old into → Acts (by lists) (kept_len k) (own_of k) k a old into
  acts_again lists (rw.Write f (Fresh bs)) k own is keys made = absurd is.2
  acts_again lists (rw.Write f (Stored kept)) k own is keys made = again_as lists (op.Write f kept) k (is.1 ∙ ap (λ (e : Kept). op.Write f e) is.2) keys made
  acts_again lists (rw.Append f (Fresh bs)) k own is keys made = absurd is.2
  acts_again lists (rw.Append f (Stored kept)) k own is keys made = again_as lists (op.Append f kept) k (is.1 ∙ ap (λ (e : Kept). op.Append f e) is.2) keys made
  acts_again lists (rw.Truncate f n) k own is keys made = again_as lists (op.Truncate f n) k is keys made
  acts_again lists (rw.Punch f n) k own is keys made = again_as lists (op.Punch f n) k is keys made
  acts_again lists r k own is keys made = again_as lists _ k is keys (no_change a old into made)

  module _ {D : Type 0} (lists : List ListFact) (n : ℕ) (own : Option Slice) where
    slice_as : (p o : Op D) → o ≡ p → into.reads ≡ old.reads ++ call_keys (by lists) n p → CallMakes (by lists) own p a old into
        → Acts (by lists) n own o a old into
    slice_as p o is keys makes = subst (λ (k : Op D). Acts (by lists) n own k a old into) (sym is) (record { base = base; keys = keys; makes = makes })

    -- and a call on slices, or one that makes a file of others
    pub acts_slice : (r : SliceOp) (o : Op D) → IsSliceOpOf r o → into.reads ≡ old.reads ++ slice_keys z w s r → Makes a (SliceMade (by lists) r) old into
        → Acts (by lists) n own o a old into
    acts_slice (slicing.Yank f m l) o is keys made = slice_as (op.Yank f m l) o is keys (no_change a old into made)
    acts_slice (slicing.Peek l off m) o is keys made = slice_as (op.Peek l off m) o is keys (no_change a old into made)
    acts_slice (slicing.Cut l off m t) o is keys made = slice_as (op.Cut l off m t) o is keys (no_change a old into made)
    acts_slice r o is keys made = slice_as _ o is keys made

-- a call that reads no list asked for none
reads_none : (a : Answer) (lists : List ListFact) → ReadsFor a (λ facts. facts ≡ []) lists → lists ≡ []
reads_none a lists reads = elim (refusal_or_not a) [
  | inl is ↦ reads.refused is
  | inr going ↦ reads.made going
]

-- the lists that calls ask for, by what they see
module _ (z : ℕ) (w : Map) (s : SessionView) (new : InodeId) (a : Answer) (lists : List ListFact) where
  abbrev here : Sight
  here = sight z w s new lists

  -- on handles or bytes
  pub reads_rw : {D : Type 0} (G : Given → D → Type 0) (r : RwOp) (o : Op D) → IsOpOf G r o → ReadsFor a (RwReads z w s r) lists → CallReads here o a
  reads_rw G (rw.Read f n) o is h = subst (λ q. CallReads here q a) (sym is) (record {
    refused = h.refused;
    made = λ going. let one = h.made going in (one.0, one.1, one.2.wants);
  })
  reads_rw G (rw.Write f d) o is h = subst (λ q. CallReads here q a) (sym is.1) (reads_none a lists h)
  reads_rw G (rw.Append f d) o is h = subst (λ q. CallReads here q a) (sym is.1) (reads_none a lists h)
  reads_rw G r o is h = subst (λ q. CallReads here q a) (sym is) (reads_none a lists h)

  -- on slices, or to make a file of others
  pub reads_slice : {D : Type 0} (r : SliceOp) (o : Op D) → IsSliceOpOf r o → ReadsFor a (λ facts. SliceReads (sight z w s new facts) r) lists
      → CallReads here o a
  reads_slice (slicing.Yank f n l) o is h = subst (λ q. CallReads here q a) (sym is) h
  reads_slice (slicing.Concat p ps) o is h = subst (λ q. CallReads here q a) (sym is) h
  reads_slice r o is h = subst (λ q. CallReads here q a) (sym is) (reads_none a lists h)

-- and on names
pub reads_name : {D : Type 0} (x : Sight) (o : Op D) (a : Answer) → is_rw_op o ≡ false → is_slice_op o ≡ false → x.lists ≡ [] → CallReads x o a
reads_name x (op.Read f n) a rw_none slice_none none = absurd (cc)
reads_name x (op.Yank f n l) a rw_none slice_none none = absurd (cc)
reads_name x (op.Concat q ps) a rw_none slice_none none = absurd (cc)
reads_name x o a rw_none slice_none none = none

-- a call on names, from what it went on by
pub acts_name : {D : Type 0} (x : Sight) (n : ℕ) (own : Option Slice) (o : Op D) (a : Answer) (old new : Attempted Key Delta) (cs : Edits)
    → GrowsBy old new (call_keys x n o) cs
    → (new.changes ≡ old.changes ++ cs → CallMakes x own o a old new) → Acts x n own o a old new
acts_name x n own o a old new cs went makes = record { base = went.base; keys = went.reads; makes = makes went.changes }

-- what a call leaves in hand that moves no handle and keeps no slice
same_hand : (a : Answer) (s t : SessionView) → LeavesHand a (λ old new. new ≡ old) s t → t ≡ s
same_hand a s t left = elim (refusal_or_not a) [
  | inl is ↦ left.refused is
  | inr going ↦ left.made going
]

-- a handle moves on by as many bytes
moves_as : (a : Answer) (f : ℕ) (s t : SessionView) (n m : ℕ) → ((IsRefusal a → ⊥) → m ≡ n) → LeavesHand a (MovesOn f (λ h. n)) s t
    → LeavesHand a (MovesOn f (λ h. m)) s t
moves_as a f s t n m same left = record {
  refused = left.refused;
  made = λ going. subst (λ (k : ℕ). MovesOn f (λ h. k) s t) (sym (same going)) (left.made going);
}

-- what was stored has as many bytes as the data, where the call was not refused
own_size : (a : Answer) (own : Option Slice) (n : ℕ) → IfSome own (λ sl. len_of sl ≡ n) → (own ≡ None → (n ≡ 0) ⊎ IsRefusal a)
    → (IsRefusal a → ⊥) → held_len own ≡ n
own_size a None n len lacks going = elim (lacks refl) [
  | inl none ↦ sym none
  | inr refused ↦ absurd (going refused)
]
own_size a (Some sl) n len lacks going = len

module _ (x : Sight) (s t : SessionView) (a : Answer) where
  -- of a call on handles or bytes that was made for the first time
  pub holds_fresh : (r : RwOp) (o : Op (List ℕ)) (own : Option Slice) → IsOpOf IsFresh r o → IfSome own (λ sl. len_of sl ≡ data_len o) → LacksData o own a
      → LeavesHand a (RwHolds x.size x.map r) s t → CallHolds x own o a s t
  holds_fresh (rw.Tell f) o own is len lacks h = subst (λ q. CallHolds x own q a s t) (sym is) (same_hand a s t h)
  holds_fresh (rw.Truncate f n) o own is len lacks h = subst (λ q. CallHolds x own q a s t) (sym is) (same_hand a s t h)
  holds_fresh (rw.Punch f n) o own is len lacks h = subst (λ q. CallHolds x own q a s t) (sym is) (same_hand a s t h)
  holds_fresh (rw.Stat p) o own is len lacks h = subst (λ q. CallHolds x own q a s t) (sym is) (same_hand a s t h)
  holds_fresh (rw.Write f (Fresh bs)) o own (bytes, e, is) len lacks h =
      let n : data_len o ≡ length bs.now = ap data_len e ∙ ap length is in
      subst (λ q. CallHolds x own q a s t) (sym e)
      (moves_as a f s t (length bs.now) (held_len own) (λ going. own_size a own (data_len o) len lacks going ∙ n) h)
  holds_fresh (rw.Write f (Stored kept)) o own (bytes, e, is) len lacks h = absurd is
  holds_fresh (rw.Append f (Stored kept)) o own (bytes, e, is) len lacks h = absurd is
  holds_fresh (rw.Append f (Fresh bs)) o own (bytes, e, is) len lacks h = subst (λ q. CallHolds x own q a s t) (sym e) (same_hand a s t h)
  holds_fresh r o own is len lacks h = subst (λ q. CallHolds x own q a s t) (sym is) h

  -- of one that is made once more
  pub holds_again : (r : RwOp) (k : Op Kept) → IsOpOf IsStored r k → LeavesHand a (RwHolds x.size x.map r) s t → CallHolds x (own_of k) k a s t
  holds_again (rw.Write f (Stored kept)) k (e, is, same) h =
      subst (λ (q : Op Kept). CallHolds x (own_of q) q a s t) (sym (is ∙ ap (λ (d : Kept). op.Write f d) same)) h
  holds_again (rw.Write f (Fresh bs)) k (e, is, same) h = absurd same
  holds_again (rw.Append f (Fresh bs)) k (e, is, same) h = absurd same
  holds_again (rw.Append f (Stored kept)) k (e, is, same) h = subst (λ (q : Op Kept). CallHolds x (own_of q) q a s t) (sym is) (same_hand a s t h)
  holds_again (rw.Tell f) k is h = subst (λ (q : Op Kept). CallHolds x (own_of q) q a s t) (sym is) (same_hand a s t h)
  holds_again (rw.Truncate f n) k is h = subst (λ (q : Op Kept). CallHolds x (own_of q) q a s t) (sym is) (same_hand a s t h)
  holds_again (rw.Punch f n) k is h = subst (λ (q : Op Kept). CallHolds x (own_of q) q a s t) (sym is) (same_hand a s t h)
  holds_again (rw.Stat p) k is h = subst (λ (q : Op Kept). CallHolds x (own_of q) q a s t) (sym is) (same_hand a s t h)
  holds_again r k is h = subst (λ (q : Op Kept). CallHolds x (own_of q) q a s t) (sym is) h

  -- and of a call on slices, or one that makes a file of others
  pub holds_slice : {D : Type 0} (own : Option Slice) (r : SliceOp) (o : Op D) → IsSliceOpOf r o → LeavesHand a (SliceHolds x r) s t → CallHolds x own o a s t
  holds_slice own (slicing.Yank f m l) o is h = subst (λ q. CallHolds x own q a s t) (sym is) h
  holds_slice own (slicing.Cut l off m u) o is h = subst (λ q. CallHolds x own q a s t) (sym is) h
  holds_slice own (slicing.Paste f l) o is h = subst (λ q. CallHolds x own q a s t) (sym is) h
  holds_slice own r o is h = subst (λ q. CallHolds x own q a s t) (sym is) (same_hand a s t h)

-- no call yet
pub redone_none : (b : Scope) (kv : Store Key Value) (x : TxnView) (n : ℕ) (hand : InHand) → n ≡ 0 → hand ≡ hand_of x → AreRedone b kv x n [] hand
redone_none b kv x n hand none is = subst (λ (k : ℕ). AreRedone b kv x k [] hand) (sym none) (refl, is)

-- one call more was made once more
pub redone_more : (b : Scope) (kv : Store Key Value) (x : TxnView) (n m k : ℕ) (before : List ListFact) (mid hand : InHand) → m ≡ n + 1 → k ≡ x.replayed + n
    → AreRedone b kv x n before mid → (one : Redoes b kv x k mid hand) → AreRedone b kv x m (before ++ one.makes.lists) hand
redone_more b kv x n m k before mid hand is here first one =
    let next : m ≡ suc n = omega (arith, is) in
    let last = subst (λ (j : ℕ). (r : Redoes b kv x j mid hand) × (before ++ one.makes.lists ≡ before ++ r.makes.lists)) here (one, refl) in
    subst (λ (j : ℕ). AreRedone b kv x j (before ++ one.makes.lists) hand) (sym next) (mid, before, first, last.0, last.1)

-- and the next answered otherwise than was shown
pub stops_at : (b : Scope) (kv : Store Key Value) (x : TxnView) (n k : ℕ) (before : List ListFact) (mid new : InHand) (a : Answer) → k ≡ x.replayed + n
    → AreRedone b kv x n before mid → (one : MakesAgain b kv x k a mid new) → slice_get x.log.shown k ≢ Some a → b.recalls (before ++ one.lists)
    → StopsAt b kv x (k + 1) a
stops_at b kv x n k before mid new a here first one differs recalls =
    let last = subst (λ (j : ℕ). (m : MakesAgain b kv x j a mid new) × (slice_get x.log.shown j ≢ Some a) × b.recalls (before ++ m.lists)) here
    (one, differs, recalls) in
    record {
      same = n;
      counted = omega (arith, here);
      before = before;
      mid = mid;
      redone = first;
      new = new;
      makes = last.0;
      differs = last.1;
      recalls = last.2;
    }

-- and where more lists are known
module _ (b c : Scope) (size : c.size ≡ b.size) (more : (lists : List ListFact) → b.known lists → c.known lists) where
  unfoldable pub makes_later : (kv : Store Key Value) (x : TxnView) (k : ℕ) (a : Answer) (old new : InHand) → MakesAgain b kv x k a old new
      → MakesAgain c kv x k a old new
  makes_later kv x k a old new h = record {
    op = h.op;
    at_op = h.at_op;
    lists = h.lists;
    known = more h.lists h.known;
    reads = subst (λ (z : ℕ). CallReads (sight_at z kv x.tx k old h.lists) h.op a) (sym size) h.reads;
    acts = subst (λ (z : ℕ). Acts (sight_at z kv x.tx k old h.lists) (kept_len h.op) (own_of h.op) h.op a old.at new.at) (sym size) h.acts;
    holds = subst (λ (z : ℕ). CallHolds (sight_at z kv x.tx k old h.lists) (own_of h.op) h.op a old.session new.session) (sym size) h.holds;
    logged = h.logged;
  }

  unfoldable pub redo_later : (kv : Store Key Value) (x : TxnView) (k : ℕ) (old new : InHand) → Redoes b kv x k old new → Redoes c kv x k old new
  redo_later kv x k old new h = record { shown = h.shown; at_shown = h.at_shown; makes = makes_later kv x k h.shown old new h.makes }

  pub redone_later : (kv : Store Key Value) (x : TxnView) (n : ℕ) (lists : List ListFact) (hand : InHand) → AreRedone b kv x n lists hand
      → AreRedone c kv x n lists hand
  unfolding redo_later makes_later
  redone_later kv x zero lists hand h = h
  redone_later kv x (suc n) lists hand h = (h.0, h.1, redone_later kv x n h.1 h.0 h.2, redo_later kv x (x.replayed + n) h.0 hand h.3, h.4)

  -- and recalled
  pub stops_later : ((lists : List ListFact) → b.recalls lists → c.recalls lists) → (kv : Store Key Value) (x : TxnView) (i : ℕ) (a : Answer)
      → StopsAt b kv x i a → StopsAt c kv x i a
  unfolding makes_later
  stops_later keeps kv x i a h = record {
    same = h.same;
    counted = h.counted;
    before = h.before;
    mid = h.mid;
    redone = redone_later kv x h.same h.before h.mid h.redone;
    new = h.new;
    makes = makes_later kv x (x.replayed + h.same) a h.mid h.new h.makes;
    differs = h.differs;
    recalls = keeps (h.before ++ h.makes.lists) h.recalls;
  }
