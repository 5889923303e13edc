-- Each way through a call at a handle, on all maps at once.
use Rattle.std.proofs.Common.{◌≡◌, ℕ, List, [], Option, None, Some, refl, sym, ap, ◌∙◌, subst}
use Rattle.std.specs.FinMap.{get}
use Rattle.wtf_kv.specs.Edits.{Agree}
use Rattle.std.specs.Option.{option_map}
use Rattle.wtf_occ.specs.Attempts.{GrowsBy}
use Rattle.wtf_model.specs.declared.answer.Word.TheVariants.{NoHandle}
use Rattle.wtf_model.specs.declared.answer.Answer.{Answer}
use Rattle.wtf_model.specs.declared.answer.Answer.TheVariants as answer
use Rattle.wtf_model.specs.declared.op.Op.{Op}
use Rattle.wtf_model.specs.Tree.{bytes_of}
use Rattle.wtf_model.specs.Session.{Session}
use Rattle.wtf_model.specs.Session as model
use Rattle.wtf_model.specs.Done.{Done, bytes_of_handle, bytes_or_none}
use Rattle.wtf_model.specs.Call.{call}
use Rattle.wtf_model.specs.Items.{handle_reads, reads}
use Rattle.wtf_model.specs.Examples.{unchanged}
use Rattle.wtf_values.specs.declared.key.Key.{Key}
use Rattle.wtf_meta.specs.declared.session.Handle.{Handle}
use Rattle.wtf_meta.specs.Maps.{Map}
use Rattle.wtf_meta.specs.Contents.{Told}
use Rattle.wtf_meta.specs.Appends.{FileKey, keys_of}
use Rattle.wtf_meta.specs.Feet.{EachRead}
use Rattle.wtf_meta.specs.Trees.{IsBody, Stands}
use Rattle.wtf_meta.specs.Sessions.{SessionView, handle_in, IsHandleOf, Holds}
use Rattle.wtf_meta.specs.Calls.{Caller, cap_for, Did, InHand, IsDone, IsCall}
use Rattle.wtf_meta.proofs.FeetFiles.{handle_keys, looks_feet}
use Rattle.wtf_meta.proofs.Handling.{open_at, closed_at}
use Rattle.wtf_meta.proofs.Moves.{done-same}
use Rattle.wtf_meta.proofs.Standing.{leads-file}
use Rattle.wtf_steps.specs.Steps.{IsStepWith, NeedsNoBytes, spot_of}
use Rattle.wtf_steps.specs.declared.handles.Spot.{Spot}

-- what was recorded, where nothing was changed, read or stored
abbrev pub only_keys : List Key → Did
only_keys keys = record { keys = keys; edits = []; facts = []; stored = []; lists = [] }

-- an open handle of the definitions' session, and its file
pub record OnFile (b : ℕ) (told : Told) (w : Map) (S : Session) (f : ℕ) (h : Handle) : Type 0 where
  pub handle : model.Handle
  pub there : get S.handles f ≡ Some handle
  pub of : IsHandleOf w h handle
  pub body : IsBody b told w h.inode (bytes_of_handle S handle)

module _ (x : Caller) (told : Told) (w : Map) (s : SessionView) (S : Session) (st : Stands x.size told x.tx x.calls w S.tree) (holds : Holds told w s S) where
  pub on_file : (f : ℕ) (h : Handle) → handle_in s f ≡ Some h → OnFile x.size told w S f h
  on_file f h e =
      let at = open_at w (handle_in s f) (get S.handles f) h e (holds.handles f) in
      let file = leads-file x.size told x.tx x.calls w S.tree st h.path h.inode at.of.leads in
      let bytes : bytes_of_handle S at.handle ≡ file.bytes = ap (λ (p : List ℕ). bytes_or_none (bytes_of (get S.tree p))) at.of.path
      ∙ ap (λ o. bytes_or_none (bytes_of o)) file.there in
      record {
        handle = at.handle;
        there = at.there;
        of = at.of;
        body = subst (λ (bs : List ℕ). IsBody x.size told w h.inode bs) (sym bytes) file.body;
      }

  pub not_open : (f : ℕ) → handle_in s f ≡ None → get S.handles f ≡ None
  not_open f e = closed_at w (handle_in s f) (get S.handles f) e (holds.handles f)

-- the keys that a call recorded belong to what it reads, on each map that agrees on them and stands for a session's tree
abbrev pub KeysRead : Caller → Map → SessionView → List Key → Op (List ℕ) → Type 0
KeysRead x b s keys o =
    (told : Told) (w : Map) (S : Session) → Agree keys b w → Stands x.size told x.tx x.calls w S.tree → Holds told w s S → EachRead x.tx w (reads S o) keys

module _ (x : Caller) (b : Map) (s : SessionView) where
  -- keys of the file of a handle, for a call that reads it
  pub file_keys : (f : ℕ) (h : Handle) → handle_in s f ≡ Some h → (ks : List FileKey) (o : Op (List ℕ)) → ((S : Session) → reads S o ≡ handle_reads S f)
      → KeysRead x b s (keys_of h.inode ks) o
  file_keys f h here ks o by = λ told w S agree st holds. handle_keys x told w s S holds f h here ks o (by S)

  -- nothing changes
  pub stays : (keys : List Key) (o : Op (List ℕ)) (a : Answer) → KeysRead x b s keys o
      → ((told : Told) (w : Map) (S : Session) → Agree keys b w → Stands x.size told x.tx x.calls w S.tree → Holds told w s S
      → call (cap_for x) S o ≡ unchanged S a)
      → IsCall x b s s (only_keys keys) o a
  stays keys o a read due = record {
    fits = refl;
    names = λ P Q hole map old stored lists. record { edits = tt; facts = tt; slices = old; lists = tt };
    acts = λ told w S agree fit facts lists st holds.
        subst (λ (d : Done). IsDone x told w w s d a) (sym (due told w S agree st holds)) (done-same x told w s S st holds a);
    feet = looks_feet x b s (only_keys keys) o refl read;
  }

  -- and nothing is recorded
  pub stays_bare : (o : Op (List ℕ)) (a : Answer)
      → ((told : Told) (w : Map) (S : Session) → Stands x.size told x.tx x.calls w S.tree → Holds told w s S → call (cap_for x) S o ≡ unchanged S a)
      → IsCall x b s s (only_keys []) o a
  stays_bare o a due = stays [] o a (λ told w S agree st holds. tt) (λ told w S agree st holds. due told w S st holds)

  -- a handle that is not open
  pub no_handle : (f : ℕ) (o : Op (List ℕ)) → handle_in s f ≡ None
      → ((S : Session) → get S.handles f ≡ None → call (cap_for x) S o ≡ unchanged S (answer.Refused NoHandle))
      → IsCall x b s s (only_keys []) o (answer.Refused NoHandle)
  no_handle f o e refused = stays_bare o (answer.Refused NoHandle) (λ told w S st holds. refused S (not_open x told w s S st holds f e))

-- the step of a call that changed no file, and read and stored no byte
pub step_of : (x : Caller) (b : Map) (old new : InHand) (keys : List Key) (o : Op (List ℕ)) (a : Answer) → GrowsBy old.at new.at keys []
    → IsCall x b old.session new.session (only_keys keys) o a
    → IsStepWith NeedsNoBytes x b old new o a
step_of x b old new keys o a grows is = record {
  did = only_keys keys;
  grows = grows;
  is_call = is;
  more = record { facts = refl; stored = refl; lists = refl };
}

-- the handle where a spot was found
pub record IsOpen (o : Option Handle) (k : Spot) : Type 0 where
  pub handle : Handle
  pub is : o ≡ Some handle
  pub inode : k.inode ≡ handle.inode
  pub off : k.off ≡ handle.off

pub spot_open : (r : Option Spot) (o : Option Handle) (k : Spot) → r ≡ option_map spot_of o → r ≡ Some k → IsOpen o k
spot_open r None k e is = let bad : None ≡ Some k = sym e ∙ is in absurd (cc)
spot_open r (Some h) k e is =
    let same : Some (spot_of h) ≡ Some k = sym e ∙ is in
    let one : spot_of h ≡ k = cc in
    record { handle = h; is = refl; inode = ap (λ (j : Spot). j.inode) (sym one); off = ap (λ (j : Spot). j.off) (sym one) }

pub spot_closed : (r : Option Spot) (o : Option Handle) → r ≡ option_map spot_of o → r ≡ None → o ≡ None
spot_closed r None e is = refl
spot_closed r (Some h) e is = let bad : Some (spot_of h) ≡ None = sym e ∙ is in absurd (cc)
