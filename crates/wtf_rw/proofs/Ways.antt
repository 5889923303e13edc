-- Each way through a call on handles, on all maps at once.
use Rattle.std.proofs.Common.{◌≡◌, ℕ, ◌+◌, List, [], ◌∷◌, ◌++◌, length, None, Some, refl, sym, ap, ◌∙◌, subst, inr}
use Rattle.std.specs.FinMap.{get, remove}
use Rattle.wtf_base.specs.declared.ids.InodeId.{InodeId}
use Rattle.wtf_kv.specs.Edits.{Agree}
use Rattle.wtf_kv.proofs.EditLaws.{Agree-parts}
use Rattle.wtf_model.specs.declared.answer.Word.TheVariants.{InUse, NoEnt, IsDir, Range}
use Rattle.wtf_model.specs.declared.answer.Answer.{Answer}
use Rattle.wtf_model.specs.declared.answer.Answer.TheVariants as answer
use Rattle.wtf_model.specs.declared.op.Op.{Op}
use Rattle.wtf_model.specs.declared.op.Op.TheVariants as op
use Rattle.wtf_model.specs.declared.op.Seek.{Seek}
use Rattle.wtf_model.specs.Tree.{path_count, Tree, Dir, File, bytes_of}
use Rattle.wtf_model.specs.Session.{Session}
use Rattle.wtf_model.specs.Done.{Done, bytes_of_handle, moved}
use Rattle.wtf_model.specs.Call.{call}
use Rattle.wtf_model.specs.Items.{reads, file_reads}
use Rattle.wtf_model.specs.declared.item.Item.{Item}
use Rattle.wtf_model.specs.declared.item.Item.TheVariants.{NodeOf, BodyOf, LinksOf}
use Rattle.wtf_model.specs.Examples.{unchanged}
use Rattle.wtf_model.specs.declared.op.Seek.TheVariants as to
use Rattle.wtf_model.proofs.ItemLaws.{is_among-head}
use Rattle.wtf_model.proofs.CallLaws.{opened, call-open, call-open_refused, call-open_taken}
use Rattle.wtf_values.specs.declared.key.Key.{Key}
use Rattle.wtf_values.specs.declared.key.Key.TheVariants.{Path, Links}
use Rattle.wtf_values.specs.declared.value.Node.TheVariants.{Folder, File as FileNode}
use Rattle.wtf_meta.specs.declared.session.Handle.{Handle}
use Rattle.wtf_meta.specs.Maps.{Map}
use Rattle.wtf_meta.specs.Contents.{Told}
use Rattle.wtf_meta.specs.Appends.{length_keys}
use Rattle.wtf_meta.specs.Files.{file_len}
use Rattle.wtf_meta.specs.FileEdits.{file_of}
use Rattle.wtf_meta.specs.NameEdits.{node_of, link_count}
use Rattle.wtf_meta.specs.Feet.{Has}
use Rattle.wtf_meta.specs.Trees.{LeadsTo, IsBody, Stands}
use Rattle.wtf_meta.specs.Sessions.{SessionView, handle_in, slice_in, SetsHandle, moved_to, Holds}
use Rattle.wtf_meta.specs.Calls.{Caller, cap_for, IsDone, IsCall}
use Rattle.wtf_meta.proofs.BodyReads.{body_length}
use Rattle.wtf_meta.proofs.Counts.{file-count}
use Rattle.wtf_meta.proofs.FeetLaws.{EachRead-append}
use Rattle.wtf_meta.proofs.FeetFiles.{keys_read, looks_feet}
use Rattle.wtf_meta.proofs.Handling.{holds-handle, holds-closed, holds-moved}
use Rattle.wtf_meta.proofs.Nodes.{node_of-is, node-missing, node-folder}
use Rattle.wtf_meta.proofs.Standing.{stands-same, leads-file}
use Rattle.wtf_index.specs.Checks.{stands_at}
use Rattle.wtf_steps.specs.Recorded.{len_keys}
use Rattle.wtf_rw.specs.Recorded.{place_keys}
use Rattle.wtf_rw.specs.Seeks.{lands}
use Rattle.wtf_steps.proofs.Ways.{only_keys, OnFile, on_file, not_open, KeysRead, file_keys, stays, stays_bare}
use Rattle.wtf_model.proofs.ByteLaws.{close-open, tell-open, seek-open, sought, stat-at}

-- what the definitions' call leaves, where it changes handles alone
pub record Turned (x : Caller) (told : Told) (w : Map) (t : SessionView) (S : Session) (o : Op (List ℕ)) (a : Answer) : Type 0 where
  pub left : Session
  pub is : call (cap_for x) S o ≡ record { session = left; answer = a }
  pub tree : left.tree ≡ S.tree
  pub holds : Holds told w t left

module _ (x : Caller) (told : Told) (w : Map) (s : SessionView) (S : Session) (st : Stands x.size told x.tx x.calls w S.tree) (holds : Holds told w s S) where
  -- a handle that is moved
  pub turned-moved : (t : SessionView) (f off : ℕ) (h : Handle) (o : Op (List ℕ)) (a : Answer) (on : OnFile x.size told w S f h)
      → SetsHandle f (Some (moved_to off h)) s t
      → call (cap_for x) S o ≡ record { session = moved S f on.handle off; answer = a } → Turned x told w t S o a
  turned-moved t f off h o a on set is = record {
    left = moved S f on.handle off;
    is = is;
    tree = refl;
    holds = holds-moved told w s t S holds f off h on.handle set on.of;
  }

module _ (x : Caller) (b : Map) (s : SessionView) where
  -- handles change alone
  pub turns : (t : SessionView) (keys : List Key) (o : Op (List ℕ)) (a : Answer) → ((label : ℕ) → slice_in t label ≡ slice_in s label) → KeysRead x b s keys o
      → ((told : Told) (w : Map) (S : Session) → Agree keys b w → Stands x.size told x.tx x.calls w S.tree → Holds told w s S → Turned x told w t S o a)
      → IsCall x b s t (only_keys keys) o a
  turns t keys o a slices read due = record {
    fits = refl;
    names = λ P Q hole map old stored lists. record { edits = tt; facts = tt; slices = λ label ps e. old label ps (sym (slices label) ∙ e); lists = tt };
    acts = λ told w S agree fit facts lists st holds.
        let turned = due told w S agree st holds in
        subst (λ (d : Done). IsDone x told w w t d a) (sym turned.is) (record {
          answer = refl;
          stands = subst (λ (r : Tree). Stands x.size told x.tx (x.calls + 1) w r) (sym turned.tree) (stands-same x.size told x.tx x.calls w S.tree st);
          holds = turned.holds;
          own = λ i other none. none;
        });
    feet = looks_feet x b s (only_keys keys) o refl read;
  }

  -- a path that is looked at
  path_key : (p : List ℕ) (o : Op (List ℕ)) (R : List Item) → ((S : Session) → reads S o ≡ NodeOf p ∷ R) → KeysRead x b s (Path p ∷ []) o
  path_key p o R by = λ told w S agree st holds. (subst (Has (NodeOf p)) (sym (by S)) (is_among-head (NodeOf p) R), tt)

  pub closes : (t : SessionView) (f : ℕ) (h : Handle) → handle_in s f ≡ Some h → SetsHandle f None s t → IsCall x b s t (only_keys []) (op.Close f) answer.Okay
  closes t f h e set = turns t [] (op.Close f) answer.Okay set.slices (λ told w S agree st holds. tt) (λ told w S agree st holds.
      let on = on_file x told w s S st holds f h e in
      record {
        left = record S { handles = remove S.handles f };
        is = close-open (cap_for x) S f on.handle on.there;
        tree = refl;
        holds = holds-closed told w s
            t S holds f set;
      })

  pub tells : (f : ℕ) (h : Handle) → handle_in s f ≡ Some h → IsCall x b s s (only_keys []) (op.Tell f) (answer.At h.off)
  tells f h e = stays_bare x b s (op.Tell f) (answer.At h.off) (λ told w S st holds.
      let on = on_file x told w s S st holds f h e in
      tell-open (cap_for x) S f on.handle on.there ∙ ap (λ (n : ℕ). unchanged S (answer.At n)) on.of.off)

  -- a file that is opened
  pub opens_taken : (f : ℕ) (p : List ℕ) (h : Handle) → handle_in s f ≡ Some h → IsCall x b s s (only_keys []) (op.Open f p) (answer.Refused InUse)
  opens_taken f p h e = stays_bare x b s (op.Open f p) (answer.Refused InUse) (λ told w S st holds.
      let on = on_file x told w s S st holds f h e in
      call-open_taken (cap_for x) S f p on.handle on.there)

  pub opens_nothing : (f : ℕ) (p : List ℕ) → handle_in s f ≡ None → stands_at b p ≡ None
      → IsCall x b s s (only_keys (Path p ∷ [])) (op.Open f p) (answer.Refused NoEnt)
  opens_nothing f p e none = stays x b s (Path p ∷ []) (op.Open f p) (answer.Refused NoEnt)
      (path_key p (op.Open f p) [] (λ S. refl)) (λ told w S agree st holds.
      call-open_refused (cap_for x) S f p NoEnt (not_open x told w s S st holds f e)
      (ap bytes_of (node-missing x.size told w (w (Path p)) (get S.tree p) (st.nodes p) (ap node_of agree.0 ∙ none))))

  pub opens_folder : (f : ℕ) (p : List ℕ) → handle_in s f ≡ None → stands_at b p ≡ Some Folder
      → IsCall x b s s (only_keys (Path p ∷ [])) (op.Open f p) (answer.Refused IsDir)
  opens_folder f p e is = stays x b s (Path p ∷ []) (op.Open f p) (answer.Refused IsDir)
      (path_key p (op.Open f p) [] (λ S. refl)) (λ told w S agree st holds.
      call-open_refused (cap_for x) S f p IsDir (not_open x told w s S st holds f e)
      (ap bytes_of (node-folder x.size told w (w (Path p)) (get S.tree p) (st.nodes p) (node_of-is (w (Path p)) Folder (ap node_of agree.0 ∙ is)))))

  pub opens_file : (t : SessionView) (f : ℕ) (p : List ℕ) (i : InodeId) → handle_in s f ≡ None → stands_at b p ≡ Some (FileNode i)
      → SetsHandle f (Some (record { path = p; inode = i; off = 0 })) s t
      → IsCall x b s t (only_keys (Path p ∷ [])) (op.Open f p) answer.Okay
  opens_file t f p i e is set = turns t (Path p ∷ []) (op.Open f p) answer.Okay set.slices
      (path_key p (op.Open f p) [] (λ S. refl)) (λ told w S agree st holds.
      let leads : LeadsTo w p i = node_of-is (w (Path p)) (FileNode i) (ap node_of agree.0 ∙ is) in
      let file = leads-file x.size told x.tx x.calls w S.tree st p i leads in
      record {
        left = opened S f p;
        is = call-open (cap_for x) S f p file.bytes (not_open x told w s S st holds f e) (ap bytes_of file.there);
        tree = refl;
        holds = holds-handle told w s t S holds f (record { path = p; inode = i; off = 0 }) (record { path = p; off = 0 }) set
            (record { path = refl; off = refl; leads = leads });
      })

  -- a seek
  lands_same : (told : Told) (w : Map) (i : InodeId) (bytes : List ℕ) (place : Seek) (len off at : ℕ) → IsBody x.size told w i bytes
      → Agree (place_keys b i place) b w → (place ≡ to.End → len ≡ file_len x.size (file_of i b))
      → at ≡ off → lands (cap_for x) (length bytes) at place ≡ lands (cap_for x) len off place
  lands_same told w i bytes (to.Set n) len off at body agree is same = refl
  lands_same told w i bytes (to.Fwd n) len off at body agree is same = ap (λ o. lands (cap_for x) len o (to.Fwd n)) same
  lands_same told w i bytes (to.Back n) len off at body agree is same = ap (λ o. lands (cap_for x) len o (to.Back n)) same
  lands_same told w i bytes to.End len off at body agree is same = ap Some (sym (body_length x.size told i b w bytes agree body) ∙ sym (is refl))

  -- a seek to the end alone records what tells the length
  place_read : (f : ℕ) (h : Handle) (place : Seek) → handle_in s f ≡ Some h → KeysRead x b s (place_keys b h.inode place) (op.Seek f place)
  place_read f h (to.Set n) e = λ told w S agree st holds. tt
  place_read f h (to.Fwd n) e = λ told w S agree st holds. tt
  place_read f h (to.Back n) e = λ told w S agree st holds. tt
  place_read f h to.End e = file_keys x b s f h e (length_keys (file_of h.inode b)) (op.Seek f to.End) (λ S. refl)

  pub seeks : (t : SessionView) (f : ℕ) (h : Handle) (place : Seek) (len n : ℕ) → handle_in s f ≡ Some h
      → (place ≡ to.End → len ≡ file_len x.size (file_of h.inode b))
      → lands (cap_for x) len h.off place ≡ Some n → SetsHandle f (Some (moved_to n h)) s t
      → IsCall x b s t (only_keys (place_keys b h.inode place)) (op.Seek f place) answer.Okay
  seeks t f h place len n e is leads set = turns t (place_keys b h.inode place) (op.Seek f place) answer.Okay set.slices
      (place_read f h place e) (λ told w S agree st holds.
      let on = on_file x told w s S st holds f h e in turned-moved x told w s S st holds t f n h (op.Seek f place) answer.Okay on set
      (seek-open (cap_for x) S f on.handle on.there place
      ∙ ap (sought (cap_for x) S f on.handle on.there) (lands_same told w h.inode (bytes_of_handle S on.handle) place len h.off on.handle.off on.body agree is
      on.of.off ∙ leads)))

  pub seeks_nowhere : (f : ℕ) (h : Handle) (place : Seek) (len : ℕ) → handle_in s f ≡ Some h → (place ≡ to.End → len ≡ file_len x.size (file_of h.inode b))
      → lands (cap_for x) len h.off place ≡ None → IsCall x b s s (only_keys (place_keys b h.inode place)) (op.Seek f place) (answer.Refused Range)
  seeks_nowhere f h place len e is leads = stays x b s (place_keys b h.inode place) (op.Seek f place) (answer.Refused Range)
      (place_read f h place e) (λ told w S agree st holds.
      let on = on_file x told w s S st holds f h e in
      seek-open (cap_for x) S f on.handle on.there place
      ∙ ap (sought (cap_for x) S f on.handle on.there) (lands_same told w h.inode (bytes_of_handle S on.handle) place len h.off on.handle.off on.body agree is
      on.of.off ∙ leads))

  -- what stands at a path
  pub stats_nothing : (p : List ℕ) → stands_at b p ≡ None → IsCall x b s s (only_keys (Path p ∷ [])) (op.Stat p) (answer.Refused NoEnt)
  stats_nothing p none = stays x b s (Path p ∷ []) (op.Stat p) (answer.Refused NoEnt)
      (path_key p (op.Stat p) (BodyOf p ∷ LinksOf p ∷ []) (λ S. refl)) (λ told w S agree st holds.
      stat-at (cap_for x) S p None (node-missing x.size told w (w (Path p)) (get S.tree p) (st.nodes p) (ap node_of agree.0 ∙ none)))

  pub stats_folder : (p : List ℕ) → stands_at b p ≡ Some Folder → IsCall x b s s (only_keys (Path p ∷ [])) (op.Stat p) answer.Dir
  stats_folder p is = stays x b s (Path p ∷ []) (op.Stat p) answer.Dir
      (path_key p (op.Stat p) (BodyOf p ∷ LinksOf p ∷ []) (λ S. refl)) (λ told w S agree st holds.
      stat-at (cap_for x) S p (Some Dir) (node-folder x.size told w (w (Path p)) (get S.tree p) (st.nodes p)
      (node_of-is (w (Path p)) Folder (ap node_of agree.0 ∙ is))))

  -- what was recorded of a file: its path, what tells its length, and how many paths it has
  abbrev stat_of_file : List ℕ → InodeId → List Key
  stat_of_file p i = Path p ∷ len_keys b i ++ Links i ∷ []

  stat_read : (p : List ℕ) (i : InodeId) → stands_at b p ≡ Some (FileNode i) → KeysRead x b s (stat_of_file p i) (op.Stat p)
  stat_read p i is = λ told w S agree st holds.
      let leads : LeadsTo w p i = node_of-is (w (Path p)) (FileNode i) (ap node_of agree.0 ∙ is) in
      let R : List Item = file_reads p in
      let node : Has (NodeOf p) R = is_among-head (NodeOf p) (BodyOf p ∷ LinksOf p ∷ []) in
      let body : Has (BodyOf p) R = is_among-head (BodyOf p) (LinksOf p ∷ []) in
      let links : Has (LinksOf p) R = is_among-head (LinksOf p) [] in (
        node,
        EachRead-append x.tx w R (len_keys b i) (Links i ∷ []) (keys_read x.tx w i p leads R body (length_keys (file_of i b)))
            (inr (record { path = p; leads = leads; node = node; links = links }), tt),
      )

  pub stats_file : (p : List ℕ) (i : InodeId) (n links : ℕ) → stands_at b p ≡ Some (FileNode i)
      → n ≡ file_len x.size (file_of i b) → links ≡ link_count (b (Links i))
      → IsCall x b s s (only_keys (stat_of_file p i)) (op.Stat p) (answer.File n links)
  stats_file p i n links is len count = stays x b s (stat_of_file p i) (op.Stat p) (answer.File n links) (stat_read p i is) (λ told w S agree st holds.
      let parts = Agree-parts (len_keys b i) (Links i ∷ []) b w agree.1 in
      let leads : LeadsTo w p i = node_of-is (w (Path p)) (FileNode i) (ap node_of agree.0 ∙ is) in
      let file = leads-file x.size told x.tx x.calls w S.tree st p i leads in
      let counted : path_count file.paths ≡ links = sym (file-count x.size told w i file.paths file.bytes p file.file leads)
      ∙ (ap link_count parts.1.0 ∙ sym count) in
      stat-at (cap_for x) S p (Some (File file.paths file.bytes)) file.there
      ∙ ap (λ (k : ℕ). unchanged S (answer.File k (path_count file.paths))) (sym (body_length x.size told i b w file.bytes parts.0 file.body) ∙ sym len)
      ∙ ap (λ (k : ℕ). unchanged S (answer.File n k)) counted)
