-- Calls on names, as calls of a transaction with handles open.
use Rattle.std.proofs.Common.{◌≡◌, ◌≢◌, ◌⊎◌, ℕ, Bool, true, false, cond, ◌||◌, List, [], ◌∷◌, map, Option, Some, None, Ok, refl, sym, ap, ◌∙◌, subst, inl, inr}
use Rattle.std.proofs.Common.{⊎_elim}
use Rattle.std.specs.Prelude.{if◌then◌else◌, Err, IsSomeAnd}
use Rattle.std.specs.List.{All, list_any}
use Rattle.std.specs.FinMap.{get, entries, get-entries}
use Rattle.std.specs.FinMap.Entries.{find}
use Rattle.std.specs.Ordering.{nat_cmp, eq_by_cmp}
use Rattle.std.proofs.lemmas.Bool.{cases_Bool}
use Rattle.std.proofs.lemmas.List.{append_cancel_left}
use Rattle.std.proofs.lemmas.List.Elements.{All-nil}
use Rattle.std.proofs.lemmas.Slice.Eq.{bytes_eq-Decides}
use Rattle.wtf_base.specs.declared.slice.Slice.{Slice}
use Rattle.wtf_base.specs.declared.ids.InodeId.{InodeId}
use Rattle.wtf_kv.specs.Edits.{Agree}
use Rattle.wtf_occ.specs.Attempts.{Attempted, GrowsBy}
use Rattle.wtf_model.specs.Session as model
use Rattle.wtf_model.specs.Session.{Session}
use Rattle.wtf_model.specs.Tree.{source, bytes_of, target, ◌>>=◌}
use Rattle.wtf_model.specs.Done.{Done, done, is_on, is_closed, drop_path, move_file}
use Rattle.wtf_model.specs.NameCalls.{unlink, rename}
use Rattle.wtf_model.specs.Call.{row_of, or_refused}
use Rattle.wtf_model.specs.Items.{target_reads}
use Rattle.wtf_model.specs.declared.item.Item.TheVariants.{NodeOf, BodyOf, LinksOf}
use Rattle.wtf_model.proofs.ItemLaws.{is_among-head}
use Rattle.wtf_model.specs.declared.limits.TheConstants.{MAX_HANDLES}
use Rattle.wtf_model.specs.declared.answer.Answer.{Answer}
use Rattle.wtf_model.specs.declared.answer.Answer.TheVariants as answer
use Rattle.wtf_model.specs.declared.answer.Word.TheVariants.{Busy}
use Rattle.wtf_model.specs.Steps.{IsLogged}
use Rattle.wtf_model.specs.declared.op.Op.{Op}
use Rattle.wtf_model.specs.declared.op.Op.TheVariants as op
use Rattle.wtf_values.specs.declared.key.Key.{Key}
use Rattle.wtf_values.specs.declared.key.Key.TheVariants.{Path}
use Rattle.wtf_values.specs.declared.value.Value.TheVariants as value
use Rattle.wtf_values.specs.declared.value.Node.TheVariants.{File}
use Rattle.wtf_values.specs.declared.value.Delta.{Delta}
use Rattle.wtf_meta.specs.declared.session.Handle.{Handle}
use Rattle.wtf_meta.specs.Bytes.{EntryBytes}
use Rattle.wtf_meta.specs.Lists.{ListFact}
use Rattle.wtf_meta.specs.Maps.{Map, Edits}
use Rattle.wtf_meta.specs.Contents.{Told}
use Rattle.wtf_meta.proofs.Named.{PiecesBytes-none}
use Rattle.wtf_meta.specs.Feet.{Has}
use Rattle.wtf_meta.specs.Trees.{LeadsTo}
use Rattle.wtf_meta.specs.NameEdits.{node_of}
use Rattle.wtf_meta.specs.Sessions.{SessionView, HandleAt, Holds, IsOff, handle_in, nothing_open}
use Rattle.wtf_meta.proofs.Nothing.{none_at, nothing_kept}
use Rattle.wtf_meta.specs.Calls.{Caller, cap_for, IsCall, IsDone, IsNameStep, IsFreeToMove}
use Rattle.wtf_meta.proofs.FeetFiles.{looks_feet}
use Rattle.wtf_meta.proofs.Nodes.{node_of-is, node-file}
use Rattle.wtf_meta.proofs.Moves.{done-same}
use Rattle.wtf_index.specs.Checks.{stands_at}
use Rattle.wtf_region.specs.Devs.{inside_of}
use Rattle.wtf_slicing.specs.Sights.{sight}
use Rattle.wtf_slicing.specs.Steps.{IsNewFor}
use Rattle.wtf_steps.proofs.Ways.{only_keys, KeysRead}
use Rattle.wtf_replay.specs.Works.{Work, IsWork, saw}
use Rattle.wtf_replay.specs.Built.{with_data}
use Rattle.wtf_replay.specs.Effects.{Acts, CallHolds}
use Rattle.wtf_replay.specs.Looked.{IsNameCall, IsNamed, IsBusy}

-- a call on names under no handle on what it moves
pub quiet_call : (x : Caller) (b : Map) (s : SessionView) (old new : Attempted Key Delta) (o : Op (List ℕ)) (a : Answer)
    → IsNameStep x b old new o a → IsFreeToMove o s → IsNameCall x b s old new o a
quiet_call x b s old new o a step free = record { keys = step.keys; edits = step.edits; grows = step.grows; is_call = step.is_call s free }

-- one that was made is that of the verb
pub is_named : {D : Type 0} {b : Map} {s : SessionView} {made : InodeId} {old new : Attempted Key Delta} {a : Answer} (o p : Op D) → o ≡ p
    → ((x : Caller) → IsNewFor x made → IsNameCall x b s old new (with_data [] p) a)
    → ((size n : ℕ) (own : Option Slice) → Acts (sight size b s made []) n own p a old new)
    → ((size : ℕ) (own : Option Slice) → CallHolds (sight size b s made []) own p a s s) → IsLogged a → IsNamed b s made o old new a
is_named {b = b} {s = s} {made = made} {old = old} {new = new} {a = a} o p is step acts holds logged =
    subst (λ k. IsNamed b s made k old new a) (sym is) (record {
      step = λ x q plain next. subst (λ (k : Op (List ℕ)). IsNameCall x b s old new k a) (sym plain) (step x next);
      acts = acts;
      holds = holds;
      logged = logged;
    })

-- no handle is on a path where nothing is open
nothing_off : (p : List ℕ) → IsOff p nothing_open
nothing_off p f h e = let none : handle_in nothing_open f ≡ None = none_at None MAX_HANDLES f refl in let bad : None ≡ Some h = sym none ∙ e in absurd (cc)

-- what a handle on a path says of the map, and of the definitions' session
record HeldAt (w : Map) (p : List ℕ) (o : Option model.Handle) : Type 0 where
  inode : InodeId
  leads : LeadsTo w p inode
  handle : model.Handle
  is : o ≡ Some handle
  path : handle.path ≡ p

held_at : (w : Map) (p : List ℕ) (v : Option Handle) (o : Option model.Handle) → HandleAt w v o → IsSomeAnd v (λ h. h.path ≡ p) → HeldAt w p o
held_at w p None o at held = absurd held
held_at w p (Some h) None at held = absurd at
held_at w p (Some h) (Some g) at held = record {
  inode = h.inode;
  leads = subst (λ q. LeadsTo w q h.inode) held at.leads;
  handle = g;
  is = refl;
  path = at.path ∙ held;
}

or_true : (b : Bool) → (b || true) ≡ true
or_true true = refl
or_true false = refl

on_entries : (p : List ℕ) (f : ℕ) (g : model.Handle) (es : List (ℕ × model.Handle))
    → find nat_cmp f es ≡ Some g → g.path ≡ p → list_any (is_on p) (map (λ e. e.1) es) ≡ true
on_entries p f g [] found on = absurd (cc)
on_entries p f g (e ∷ es) found on = ⊎_elim
    (λ same.
    let here : Some e.1 ≡ Some g = sym (ap (λ b. cond b (Some e.1) (find nat_cmp f es)) same) ∙ found in
    let is : e.1 ≡ g = cc in
    ap (λ b. b || list_any (is_on p) (map (λ e. e.1) es)) ((bytes_eq-Decides e.1.path p).1 (ap (λ h. h.path) is ∙ on)))
    (λ other.
    let rest = on_entries p f g es (sym (ap (λ b. cond b (Some e.1) (find nat_cmp f es)) other) ∙ found) on in
    ap (λ b. is_on p e.1 || b) rest ∙ or_true (is_on p e.1))
    (cases_Bool (eq_by_cmp nat_cmp f e.0))

-- a handle on a path keeps it
closed_held : (S : Session) (p : List ℕ) (f : ℕ) (g : model.Handle) → get S.handles f ≡ Some g → g.path ≡ p → is_closed S p ≡ Err Busy
closed_held S p f g is on = ap (λ b. if b then Err Busy else Ok tt) (on_entries p f g (entries S.handles) (sym (get-entries S.handles f) ∙ is) on)

-- the calls that take a file from a path
abbrev pub Takes : List ℕ → Op (List ℕ) → Type 0
Takes p (op.Unlink q) = q ≡ p
Takes p (op.Rename q r) = q ≡ p
Takes p o = ⊥

unlink_busy : (S : Session) (p bytes : List ℕ) → source S.tree p ≡ Ok bytes → is_closed S p ≡ Err Busy → unlink S p ≡ Err Busy
unfolding unlink
unlink_busy S p bytes file busy =
    ap (λ r. r >>= (λ b. is_closed S p >>= (λ _. done (drop_path S p b) answer.Okay))) file
    ∙ ap (λ r. r >>= (λ _. done (drop_path S p bytes) answer.Okay)) busy

rename_busy : (S : Session) (p q bytes : List ℕ) → source S.tree p ≡ Ok bytes → is_closed S p ≡ Err Busy → rename S p q ≡ Err Busy
unfolding rename
rename_busy S p q bytes file busy =
    ap (λ r. r >>= (λ b. is_closed S p >>= (λ _. target S.tree q >>= (λ _. done (move_file S p q b) answer.Okay)))) file
    ∙ ap (λ r. r >>= (λ _. target S.tree q >>= (λ _. done (move_file S p q bytes) answer.Okay))) busy

-- a call that takes a file on which a handle is, is refused
busy_row : (most : ℕ) (S : Session) (p bytes : List ℕ) (o : Op (List ℕ)) → Takes p o → source S.tree p ≡ Ok bytes
    → is_closed S p ≡ Err Busy → row_of most S o ≡ Err Busy
busy_row most S p bytes (op.Unlink q) takes file busy = subst (λ x. unlink S x ≡ Err Busy) (sym takes) (unlink_busy S p bytes file busy)
busy_row most S p bytes (op.Rename q r) takes file busy = subst (λ x. rename S x r ≡ Err Busy) (sym takes) (rename_busy S p r bytes file busy)
busy_row most S p bytes o takes file busy = absurd takes

-- it reads what stands there
taken_read : (x : Caller) (b : Map) (s : SessionView) (p : List ℕ) (o : Op (List ℕ)) → Takes p o → KeysRead x b s (Path p ∷ []) o
taken_read x b s p (op.Unlink q) takes = λ told w S agree st holds.
    (subst (λ z. Has (NodeOf p) (NodeOf z ∷ LinksOf z ∷ [])) (sym takes) (is_among-head (NodeOf p) (LinksOf p ∷ [])), tt)
taken_read x b s p (op.Rename q r) takes = λ told w S agree st holds. (
  subst (λ z. Has (NodeOf p) (NodeOf z ∷ BodyOf z ∷ LinksOf z ∷ target_reads r)) (sym takes)
      (is_among-head (NodeOf p) (BodyOf p ∷ LinksOf p ∷ target_reads r)),
  tt,
)
taken_read x b s p o takes = absurd takes

pub busy_call : (x : Caller) (b : Map) (s : SessionView) (p : List ℕ) (old new : Attempted Key Delta) (o : Op (List ℕ))
    → Takes p o → IsBusy b s p old new → IsNameCall x b s old new o (answer.Refused Busy)
busy_call x b s p old new o takes busy = record {
  keys = Path p ∷ [];
  edits = [];
  grows = busy.recorded;
  is_call = record {
    fits = refl;
    names = λ P Q hole map slices stored lists. record { edits = tt; facts = tt; slices = slices; lists = tt };
    acts = λ told w S agree fit facts lists stands holds.
        let held = held_at w p (handle_in s busy.held.0) (get S.handles busy.held.0) (holds.handles busy.held.0) busy.held.1 in
        let here : w (Path p) ≡ Some (value.Node (File busy.inode)) = agree.0 ∙ node_of-is (b (Path p)) (File busy.inode) busy.file in
        let file = node-file x.size told w (w (Path p)) (get S.tree p) busy.inode (stands.nodes p) here in
        let row = busy_row (cap_for x) S p file.bytes o takes (ap bytes_of file.there) (closed_held S p busy.held.0 held.handle held.is held.path) in
        subst (λ (d : Done). IsDone x told w w s d (answer.Refused Busy)) (sym (ap (or_refused S) row))
        (done-same x told w s S stands holds (answer.Refused Busy));
    feet = looks_feet x b s (only_keys (Path p ∷ [])) o refl (taken_read x b s p o takes);
  };
}

-- and where no handle is on a file there, the call itself is made
free_takes : (p : List ℕ) (o : Op (List ℕ)) (s : SessionView) → Takes p o → IsOff p s → IsFreeToMove o s
free_takes p (op.Unlink q) s takes off = subst (λ x. IsOff x s) (sym takes) off
free_takes p (op.Rename q r) s takes off = subst (λ x. IsOff x s) (sym takes) off
free_takes p o s takes off = absurd takes

-- no handle is on it, where none but a file's path is held
none_on : (told : Told) (w : Map) (S : Session) (b : Map) (s : SessionView) (p : List ℕ) → Holds told w s S → w (Path p) ≡ b (Path p)
    → ((i : InodeId) → stands_at b p ≢ Some (File i)) → IsOff p s
none_on told w S b s p holds same none f h at on =
    let held = held_at w p (handle_in s f) (get S.handles f) (holds.handles f) (subst (λ (o : Option Handle). IsSomeAnd o (λ k. k.path ≡ p)) (sym at) on) in
    none held.inode (ap node_of (sym same ∙ held.leads))

-- where no file stands, a call that takes one is made under whatever handles: on no map that agrees is one on the path
stray_call : (x : Caller) (b : Map) (s : SessionView) (p : List ℕ) (old new : Attempted Key Delta) (o : Op (List ℕ)) (a : Answer)
    → Takes p o → ((i : InodeId) → stands_at b p ≢ Some (File i)) → (step : IsNameStep x b old new o a) → (ks : List Key) → step.keys ≡ Path p ∷ ks
    → IsNameCall x b s old new o a
stray_call x b s p old new o a takes none step ks keys =
    let calm = step.is_call nothing_open (free_takes p o nothing_open takes (nothing_off p)) in
    let first : (w : Map) → Agree step.keys b w → w (Path p) ≡ b (Path p) = λ w agree. let all = subst (λ (l : List Key). Agree l b w) keys agree in all.0 in
    let free : (told : Told) (w : Map) (S : Session) → Agree step.keys b w → Holds told w s S → IsFreeToMove o s =
    λ told w S agree holds. free_takes p o s takes (none_on told w S b s p holds (first w agree) none) in
    record {
      keys = step.keys;
      edits = step.edits;
      grows = step.grows;
      is_call = record {
        fits = calm.fits;
        names = λ P Q hole map slices stored lists. let named = calm.names P Q hole map
            (nothing_kept P) stored lists in record { edits = named.edits; facts = named.facts; slices = slices; lists = named.lists };
        acts = λ told w S agree fit facts lists stands holds.
            let one = step.is_call s (free told w S agree holds) in
            one.acts told w S agree fit facts lists stands holds;
        feet = λ told w S agree fit facts lists stands holds.
            let one = step.is_call s (free told w S agree holds) in
            one.feet told w S agree fit facts lists stands holds;
      };
    }

-- what a look at a path says, and then the call
pub looked_call : (x : Caller) (b : Map) (s : SessionView) (p : List ℕ) (old new : Attempted Key Delta) (o : Op (List ℕ)) (a : Answer)
    → (ks : List Key) (cs : Edits)
    → Takes p o → IsOff p s ⊎ ((i : InodeId) → stands_at b p ≢ Some (File i)) → GrowsBy old new (Path p ∷ ks) cs → IsNameStep x b old new o a
    → IsNameCall x b s old new o a
looked_call x b s p old new o a ks cs takes (inl off) went step = quiet_call x b s old new o a step (free_takes p o s takes off)
looked_call x b s p old new o a ks cs takes (inr none) went step =
    stray_call x b s p old new o a takes none step ks (append_cancel_left old.reads step.keys (Path p ∷ ks) (sym step.grows.reads ∙ went.reads))

-- what a call on names did
pub name_work : {S : Type 0} (w : Work S) (own : Option Slice) (x : Caller) (o : Op (List ℕ)) (a : Answer)
    → IsNameCall x (saw w) w.old.session w.old.at w.new.at o a
    → w.new.session ≡ w.old.session → IsWork w x own o a
name_work w own x o a call same = record {
  step = record {
    did = record { keys = call.keys; edits = call.edits; facts = []; stored = []; lists = [] };
    grows = call.grows;
    is_call = subst (λ (t : SessionView). IsCall x (saw w) w.old.session t (record {
      keys = call.keys;
      edits = call.edits;
      facts = [];
      stored = [];
      lists = [];
    }) o a) (sym same) call.is_call;
  };
  kept = λ P has. PiecesBytes-none P;
  inside = All-nil (λ (f : ListFact). All (EntryBytes (inside_of w.kind w.after)) f.list);
  lists = λ ranges cache known. tt;
  facts = λ ranges tells tell. tt;
}
