-- Footprints of calls that record and change keys of files.
use Rattle.std.proofs.Common.{◌≡◌, ℕ, ◌+◌, true, false, cond, List, [], ◌∷◌, ◌++◌, Option, None, Some, refl, sym, ap, subst, ◌∙◌, inl, inr, ⊎_elim}
use Rattle.std.specs.Prelude.{⊤}
use Rattle.std.specs.FinMap.{get}
use Rattle.std.proofs.lemmas.Bool.{cases_Bool}
use Rattle.wtf_base.specs.declared.ids.InodeId.{InodeId}
use Rattle.wtf_kv.specs.declared.changes.Change.{Change}
use Rattle.wtf_kv.specs.declared.changes.Change.TheVariants as change
use Rattle.wtf_kv.specs.Edits.{Agree, is_between, fits, first_unfit}
use Rattle.wtf_model.specs.declared.answer.Answer.TheVariants as answer
use Rattle.wtf_model.specs.declared.item.Item.{Item}
use Rattle.wtf_model.specs.declared.item.Item.TheVariants.{BodyOf}
use Rattle.wtf_model.specs.declared.op.Op.{Op}
use Rattle.wtf_model.specs.Call.{call}
use Rattle.wtf_model.specs.Tree.{has_path, paths_at}
use Rattle.wtf_model.specs.Items.{body_of, bodies_at, bodies_of, handle_reads, handle_changes, reads, changes, writes}
use Rattle.wtf_model.specs.Session as model
use Rattle.wtf_model.specs.Session.{Session}
use Rattle.wtf_model.proofs.ItemLaws.{is_among-head, is_among-bodies, writes-okay}
use Rattle.wtf_values.specs.declared.key.Key.{Key}
use Rattle.wtf_values.specs.declared.key.Key.TheVariants.{Path, Dir, Inode, Region, Links}
use Rattle.wtf_values.specs.declared.value.Delta.{Delta}
use Rattle.wtf_values.specs.Keys.{key_cmp}
use Rattle.wtf_values.specs.Outcomes.{outcome_of}
use Rattle.wtf_values.proofs.KeyLaws.{between_only}
use Rattle.wtf_meta.specs.declared.session.Handle.{Handle}
use Rattle.wtf_meta.specs.Maps.{Map, Edits, with, AllFit}
use Rattle.wtf_meta.specs.Contents.{Told}
use Rattle.wtf_meta.specs.Appends.{FileKey, OfLast, OfRegion, keys_of}
use Rattle.wtf_meta.specs.FileEdits.{FileEdit, Push, PushRel, Clip, ZeroWithin, CutAbove, RaiseLast, SetLast, Put, LAST_REGION, edit_of, edits_of}
use Rattle.wtf_meta.specs.Trees.{LeadsTo, Stands}
use Rattle.wtf_meta.specs.Sessions.{SessionView, handle_in, Holds}
use Rattle.wtf_meta.specs.Feet.{Has, ReadBy, WrittenBy, EachRead, ChangeWritten, EachWritten, Feet}
use Rattle.wtf_meta.specs.Calls.{Caller, cap_for, Did, DoneOnEach, FeetOnEach}
use Rattle.wtf_meta.proofs.FeetLaws.{unfit-none, feet_looked}
use Rattle.wtf_meta.proofs.Handling.{open_at}
use Rattle.wtf_meta.proofs.Standing.{leads-paths}
use Rattle.wtf_meta.proofs.Steps.{step}

-- a key is of the bytes of this inode
abbrev pub IsOf : InodeId → Key → Type 0
IsOf i (Path p) = ⊥
IsOf i (Dir p) = ⊥
IsOf i (Inode j) = i ≡ j
IsOf i (Region j r) = i ≡ j
IsOf i (Links j) = ⊥

-- all keys that a change names are of it
abbrev pub ChangeOf : InodeId → Change Key Delta → Type 0
ChangeOf i (change.Delta k d) = IsOf i k
ChangeOf i (change.Cut from to) = (k : Key) → is_between key_cmp from to k ≡ true → IsOf i k

-- changes of this file alone
abbrev pub EachOf : InodeId → Edits → Type 0
EachOf i [] = ⊤
EachOf i (c ∷ cs) = ChangeOf i c × EachOf i cs

pub EachOf-append : (i : InodeId) (cs ds : Edits) → EachOf i cs → EachOf i ds → EachOf i (cs ++ ds)
EachOf-append i [] ds front back = back
EachOf-append i (c ∷ cs) ds front back = (front.0, EachOf-append i cs ds front.1 back)

-- a cut of its regions
pub cut_of : (i : InodeId) (from to : ℕ) → ChangeOf i (change.Cut (Region i from) (Region i to))
cut_of i from to k within = let one = between_only i from to k within in subst (IsOf i) (sym one.is) refl

edit_is_of : (i : InodeId) (d : FileEdit) → ChangeOf i (edit_of i d)
edit_is_of i (Push r e) = refl
edit_is_of i (PushRel r ps b) = refl
edit_is_of i (Clip r end) = refl
edit_is_of i (ZeroWithin r from upto) = refl
edit_is_of i (CutAbove r) = cut_of i (r + 1) LAST_REGION
edit_is_of i (RaiseLast r) = refl
edit_is_of i (SetLast r) = refl
edit_is_of i (Put r x) = refl

pub edits_are_of : (i : InodeId) (ds : List FileEdit) → EachOf i (edits_of i ds)
edits_are_of i [] = tt
edits_are_of i (d ∷ ds) = (edit_is_of i d, edits_are_of i ds)

-- they leave where each path leads
path_kept : (i : InodeId) (c : Change Key Delta) (w : Map) (p : List ℕ) → ChangeOf i c → step c w (Path p) ≡ w (Path p)
path_kept i (change.Delta (Path q) d) w p of = absurd of
path_kept i (change.Delta (Dir q) d) w p of = absurd of
path_kept i (change.Delta (Inode j) d) w p of = refl
path_kept i (change.Delta (Region j r) d) w p of = refl
path_kept i (change.Delta (Links j) d) w p of = absurd of
path_kept i (change.Cut from to) w p of = ⊎_elim
    (λ within. absurd (of (Path p) within))
    (λ outside. ap (λ b. cond b None (w (Path p))) outside)
    (cases_Bool (is_between key_cmp from to (Path p)))

pub paths_kept : (i : InodeId) (cs : Edits) (w : Map) (p : List ℕ) → EachOf i cs → with cs w (Path p) ≡ w (Path p)
paths_kept i [] w p of = refl
paths_kept i (c ∷ cs) w p of = paths_kept i cs (step c w) p of.1 ∙ path_kept i c w p of.0

-- and the first that finds no room is of the file
pub unfit_of : (i : InodeId) (cs : Edits) (m : Map) (k : Key) → EachOf i cs → first_unfit key_cmp outcome_of cs m ≡ Some k → IsOf i k
unfit_of i [] m k of e = let bad : None ≡ Some k = e in absurd (cc)
unfit_of i (change.Cut from to ∷ cs) m k of e = unfit_of i cs (step (change.Cut from to) m) k of.1 e
unfit_of i (change.Delta key d ∷ cs) m k of e =
    let next : Map = step (change.Delta key d) m in
    elim (fits (outcome_of (m key) d)) as (λ b. cond b (first_unfit key_cmp outcome_of cs next) (Some key) ≡ Some k → IsOf i k) [
      | true ↦ λ rest. unfit_of i cs next k of.1 rest
      | false ↦ λ here. let same : key ≡ k = cc in subst (IsOf i) same of.0
    ] e

module _ (tx : ℕ) (w : Map) (i : InodeId) where
  -- keys of the transaction's own file
  pub own_read : (R : List Item) (k : Key) → i.tx.0 ≡ tx → IsOf i k → ReadBy tx w R k
  own_read R (Path p) own of = absurd of
  own_read R (Dir p) own of = absurd of
  own_read R (Inode j) own of = inl (subst (λ (z : InodeId). z.tx.0 ≡ tx) of own)
  own_read R (Region j r) own of = inl (subst (λ (z : InodeId). z.tx.0 ≡ tx) of own)
  own_read R (Links j) own of = absurd of

  written_of : (W : List Item) (k : Key) → ((q : List ℕ) → LeadsTo w q i → Has (BodyOf q) W) → IsOf i k → WrittenBy w W k
  written_of W (Path p) each of = absurd of
  written_of W (Dir p) each of = absurd of
  written_of W (Inode j) each of = λ q to. each q (subst (λ (z : InodeId). LeadsTo w q z) (sym of) to)
  written_of W (Region j r) each of = λ q to. each q (subst (λ (z : InodeId). LeadsTo w q z) (sym of) to)
  written_of W (Links j) each of = absurd of

  -- a change of a file whose bytes are written by each of its paths
  pub change_written : (W : List Item) (c : Change Key Delta) → ((q : List ℕ) → LeadsTo w q i → Has (BodyOf q) W) → ChangeOf i c → ChangeWritten w W c
  change_written W (change.Delta k d) each of = written_of W k each of
  change_written W (change.Cut from to) each of = λ k within. written_of W k each (of k within)

  pub each_written : (W : List Item) (cs : Edits) → ((q : List ℕ) → LeadsTo w q i → Has (BodyOf q) W) → EachOf i cs → EachWritten w W cs
  each_written W [] each of = tt
  each_written W (c ∷ cs) each of = (change_written W c each of.0, each_written W cs each of.1)

  -- changes of one file
  pub feet_file : (ks : List Key) (cs : Edits) (R W : List Item) → EachRead tx w R ks → ((m : Map) (k : Key) → first_unfit key_cmp outcome_of cs m ≡ Some k
      → ReadBy tx w R k)
      → ((q : List ℕ) → LeadsTo w q i → Has (BodyOf q) W) → EachOf i cs → Feet tx w ks cs R W
  feet_file ks cs R W read unfit each of = record {
    read = read;
    unfit = unfit;
    written = each_written W cs each of;
    comes = λ p j to. inl (sym (paths_kept i cs w p of) ∙ to);
    stays = λ q j to. inl (paths_kept i cs w q of ∙ to);
  }

  module _ (p : List ℕ) (leads : LeadsTo w p i) (R : List Item) (has : Has (BodyOf p) R) where
    -- keys of a file whose bytes were read
    pub key_read : (k : Key) → IsOf i k → ReadBy tx w R k
    key_read (Path q) of = absurd of
    key_read (Dir q) of = absurd of
    key_read (Inode j) of = inr (record { path = p; leads = subst (λ (z : InodeId). LeadsTo w p z) of leads; body = has })
    key_read (Region j r) of = inr (record { path = p; leads = subst (λ (z : InodeId). LeadsTo w p z) of leads; body = has })
    key_read (Links j) of = absurd of

    pub keys_read : (ks : List FileKey) → EachRead tx w R (keys_of i ks)
    keys_read [] = tt
    keys_read (OfLast ∷ ks) = (key_read (Inode i) refl, keys_read ks)
    keys_read (OfRegion r ∷ ks) = (key_read (Region i r) refl, keys_read ks)

-- ---- calls by a handle

has_body : (o : Option model.Handle) (g : model.Handle) (p : List ℕ) → o ≡ Some g → g.path ≡ p → Has (BodyOf p) (body_of o)
has_body o g p is path = subst (λ (z : Option model.Handle). Has (BodyOf p) (body_of z)) (sym is) (subst (λ q. Has (BodyOf p) (BodyOf q ∷ [])) (sym path)
    (is_among-head (BodyOf p) []))

module _ (x : Caller) (told : Told) (w : Map) (s : SessionView) (S : Session) (holds : Holds told w s S) (f : ℕ) (h : Handle)
    (here : handle_in s f ≡ Some h) where
  -- the path of an open handle leads to its inode
  pub handle_leads : LeadsTo w h.path h.inode
  handle_leads = (open_at w (handle_in s f) (get S.handles f) h here (holds.handles f)).of.leads

  -- the bytes of its file are what calls by it read
  pub handle_read : Has (BodyOf h.path) (handle_reads S f)
  handle_read = let at = open_at w (handle_in s f) (get S.handles f) h here (holds.handles f) in has_body (get S.handles f) at.handle h.path at.there at.of.path

  -- keys of its file that a call by it recorded
  pub handle_keys : (ks : List FileKey) (o : Op (List ℕ)) → reads S o ≡ handle_reads S f → EachRead x.tx w (reads S o) (keys_of h.inode ks)
  handle_keys ks o is = keys_read x.tx w h.inode h.path handle_leads (reads S o) (subst (Has (BodyOf h.path)) (sym is) handle_read) ks

  module _ (st : Stands x.size told x.tx x.calls w S.tree) (o : Op (List ℕ)) (is : changes S o ≡ handle_changes S f)
      (okay : (call (cap_for x) S o).answer ≡ answer.Okay) where
    each_path : (q : List ℕ) → LeadsTo w q h.inode → Has (BodyOf q) (writes (cap_for x) S o)
    each_path q to =
        let at = open_at w (handle_in s f) (get S.handles f) h here (holds.handles f) in
        let has : has_path (paths_at S.tree h.path) q ≡ true = leads-paths x.size told x.tx x.calls w S.tree st h.path q h.inode handle_leads to in
        subst (Has (BodyOf q)) (sym (writes-okay (cap_for x) S o okay ∙ is))
        (subst (λ (z : Option model.Handle). Has (BodyOf q) (bodies_of S.tree z)) (sym at.there)
        (subst (λ p. Has (BodyOf q) (bodies_at S.tree p)) (sym at.of.path) (is_among-bodies (paths_at S.tree h.path) q has)))

    -- changes of its file that fit whatever they meet, where no key was recorded
    pub handle_lays : (ds : List FileEdit) → ((m : Map) → AllFit (edits_of h.inode ds) m)
        → Feet x.tx w [] (edits_of h.inode ds) (reads S o) (writes (cap_for x) S o)
    handle_lays ds fit = feet_file x.tx w h.inode [] (edits_of h.inode ds) (reads S o) (writes (cap_for x) S o) tt
        (unfit-none (edits_of h.inode ds) (ReadBy x.tx w (reads S o)) fit) each_path (edits_are_of h.inode ds)

    -- changes that may find no room
    pub handle_adds : (ks : List FileKey) (ds : List FileEdit) → reads S o ≡ handle_reads S f
        → Feet x.tx w (keys_of h.inode ks) (edits_of h.inode ds) (reads S o) (writes (cap_for x) S o)
    handle_adds ks ds by =
        let has : Has (BodyOf h.path) (reads S o) = subst (Has (BodyOf h.path)) (sym by) handle_read in
        feet_file x.tx w h.inode (keys_of h.inode ks) (edits_of h.inode ds) (reads S o) (writes (cap_for x) S o) (handle_keys ks o by)
        (λ m k e. key_read x.tx w h.inode h.path handle_leads (reads S o) has k (unfit_of h.inode (edits_of h.inode ds) m k (edits_are_of h.inode ds) e))
        each_path (edits_are_of h.inode ds)

-- a call that changed nothing
pub looks_feet : (x : Caller) (b : Map) (s : SessionView) (did : Did) (o : Op (List ℕ)) → did.edits ≡ []
    → ((told : Told) (w : Map) (S : Session) → Agree did.keys b w → Stands x.size told x.tx x.calls w S.tree → Holds told w s S
    → EachRead x.tx w (reads S o) did.keys)
    → FeetOnEach x b s did o
looks_feet x b s did o none read = λ told w S agree fit facts lists st holds.
    subst (λ cs. Feet x.tx w did.keys cs (reads S o) (writes (cap_for x) S o)) (sym none)
    (feet_looked x.tx w did.keys (reads S o) (writes (cap_for x) S o) (read told w S agree st holds))

module _ (x : Caller) (b : Map) (s : SessionView) (f : ℕ) (h : Handle) (here : handle_in s f ≡ Some h) (did : Did) (o : Op (List ℕ)) where
  -- a call by a handle that recorded keys of its file, and changed nothing
  pub reads_feet : (ks : List FileKey) → did.keys ≡ keys_of h.inode ks → did.edits ≡ [] → ((S : Session) → reads S o ≡ handle_reads S f)
      → FeetOnEach x b s did o
  reads_feet ks keys none by = looks_feet x b s did o none (λ told w S agree st holds.
      subst (EachRead x.tx w (reads S o)) (sym keys) (handle_keys x told w s S holds f h here ks o (by S)))

  module _ (t : SessionView) (acts : DoneOnEach x b s t did o answer.Okay)
      (changed : (S : Session) → changes S o ≡ handle_changes S f) (ds : List FileEdit) (edits : did.edits ≡ edits_of h.inode ds) where
    -- one that changed it anywhere, and recorded no key
    pub lays_feet : did.keys ≡ [] → ((m : Map) → AllFit (edits_of h.inode ds) m) → FeetOnEach x b s did o
    lays_feet none fit = λ told w S agree fits facts lists st holds.
        subst (λ ks. Feet x.tx w ks did.edits (reads S o) (writes (cap_for x) S o)) (sym none)
        (subst (λ cs. Feet x.tx w [] cs (reads S o) (writes (cap_for x) S o)) (sym edits)
        (handle_lays x told w s S holds f h here st o (changed S) (sym (acts told w S agree fits facts lists st holds).answer) ds fit))

    -- one that added to it
    pub adds_feet : (ks : List FileKey) → did.keys ≡ keys_of h.inode ks → ((S : Session) → reads S o ≡ handle_reads S f) → FeetOnEach x b s did o
    adds_feet ks keys by = λ told w S agree fits facts lists st holds.
        subst (λ l. Feet x.tx w l did.edits (reads S o) (writes (cap_for x) S o)) (sym keys)
        (subst (λ cs. Feet x.tx w (keys_of h.inode ks) cs (reads S o) (writes (cap_for x) S o)) (sym edits)
        (handle_adds x told w s S holds f h here st o (changed S) (sym (acts told w S agree fits facts lists st holds).answer) ks ds (by S)))
