-- Each way through a call, on all maps at once.
use Rattle.std.proofs.Common.{◌≡◌, ◌≢◌, ℕ, ◌+◌, ◌^◌, ◌<◌, ◌≤◌, Bool, cond, length, List, [], ◌∷◌, ◌++◌, None, Some, Ok, Err, refl, sym, ap, ◌∙◌, subst, ⊎_elim}
use Rattle.std.proofs.lemmas.Bool.{cases_lt, lt-ltb, le-ltb}
use Rattle.std.specs.FinMap.{get}
use Rattle.std.proofs.lemmas.Slice.Eq.{bytes_eq-Decides}
use Rattle.wtf_base.specs.declared.ids.InodeId.{InodeId}
use Rattle.wtf_base.specs.declared.slice.Slice.{Slice}
use Rattle.wtf_kv.specs.Edits.{Agree}
use Rattle.wtf_kv.proofs.EditLaws.{Agree-parts}
use Rattle.wtf_overlay.specs.Origin.{Place}
use Rattle.wtf_path.specs.Grammar.{IsPath}
use Rattle.wtf_path.specs.Parts.{parent_of}
use Rattle.wtf_model.specs.declared.answer.Word.{Word}
use Rattle.wtf_model.specs.declared.answer.Word.TheVariants.{Root, NotEmpty}
use Rattle.wtf_model.specs.declared.answer.Answer.{Answer}
use Rattle.wtf_model.specs.declared.answer.Answer.TheVariants as answer
use Rattle.wtf_model.specs.declared.item.Item.TheVariants.{NodeOf, BodyOf, LinksOf}
use Rattle.wtf_model.specs.declared.op.Op.{Op}
use Rattle.wtf_model.specs.declared.op.Op.TheVariants as op
use Rattle.wtf_model.specs.Tree.{with_path, path_count, paths_at, Tree, Dir, File, root, bytes_of, target, is_directory, is_empty}
use Rattle.wtf_model.specs.Session.{Session}
use Rattle.wtf_model.specs.Done.{Done, is_closed, put_node, add_file, add_path, take_out, drop_path, move_file}
use Rattle.wtf_model.specs.NameCalls.{is_not_root}
use Rattle.wtf_model.specs.Call.{call}
use Rattle.wtf_model.specs.Items.{target_reads, file_reads, folder_reads, reads, links_of, changes, writes}
use Rattle.wtf_model.proofs.ItemLaws.{is_among-head, is_among-tail, is_among-links}
use Rattle.wtf_model.proofs.PathLaws.{count-alone, has-still}
use Rattle.wtf_model.proofs.TreeLaws.{IsTree-taken, nothing_in}
use Rattle.wtf_model.proofs.NameLaws.{mkdir-by, create-by, rmdir-by, list-by, unlink-by, rename-by, link-by}
use Rattle.wtf_values.specs.declared.key.Key.{Key}
use Rattle.wtf_values.specs.declared.key.Key.TheVariants.{Path, Links}
use Rattle.wtf_values.specs.Names.{NamesOf, names_in as listed}
use Rattle.wtf_meta.specs.Maps.{Map, Edits, with}
use Rattle.wtf_meta.specs.Bytes.{EditsBytes}
use Rattle.wtf_meta.specs.Contents.{Told}
use Rattle.wtf_meta.specs.Trees.{LeadsTo, Stands}
use Rattle.wtf_meta.specs.Sessions.{SessionView, Holds}
use Rattle.wtf_meta.specs.NameEdits.{link_count, mkdir_edits, rmdir_edits, create_edits, unlink_edits, unlink_one_edits, rename_edits, link_edits}
use Rattle.wtf_meta.specs.Feet.{EachRead, Feet}
use Rattle.wtf_meta.specs.Calls.{Caller, cap_for, IsDone, IsCall, IsFreeToMove}
use Rattle.wtf_meta.proofs.FeetLaws.{feet_looked}
use Rattle.wtf_meta.proofs.FeetNames.{feet_okay, feet_mkdir, feet_rmdir, feet_create, feet_unlink, feet_unlink_one, feet_rename, feet_link, new_unled, free_unled}
use Rattle.wtf_meta.proofs.Nodes.{FileAt}
use Rattle.wtf_meta.proofs.Fitting.{AllPlain, plain_fit}
use Rattle.wtf_meta.proofs.Shown.{listing-names, listing-empty, listing-some}
use Rattle.wtf_meta.proofs.HandleLaws.{closed-off}
use Rattle.wtf_meta.proofs.Standing.{leads-file, leads-paths}
use Rattle.wtf_meta.proofs.Counts.{file-count}
use Rattle.wtf_meta.proofs.Moves.{folder_leads, done-same, done-mkdir, done-rmdir, done-create, done-unlink, done-unlink_one, done-rename, done-link}
use Rattle.wtf_index.specs.Checks.{target_of, source_of, directory_of}
use Rattle.wtf_index.specs.Recorded.{target_keys, directory_keys, source_keys}
use Rattle.wtf_index.specs.Changed.{unlink_by}
use Rattle.wtf_index.proofs.KeysRead.{target_read, directory_read, source_read, count_read, both_read}
use Rattle.wtf_index.proofs.Checked.{OpenAt, no-parent, inner, target-refused, target-free, target-open, source-refused, source-leads, directory-refused}
use Rattle.wtf_index.proofs.Checked.{directory-found, target-agrees, directory-agrees, source-agrees}

-- a call on names that recorded these keys and made these changes, with any handles and slices in hand
abbrev pub IsWay : Caller → Map → List Key → Edits → Op (List ℕ) → Answer → Type 0
IsWay x b keys edits o a = (s : SessionView) → IsFreeToMove o s → IsCall x b s s (record { keys = keys; edits = edits; facts = []; stored = []; lists = [] }) o a

-- the keys of a file that loses a path
abbrev pub counted_keys : List ℕ → InodeId → List Key
counted_keys p i = source_keys p ++ Links i ∷ []

due_is : (x : Caller) (told : Told) (old new : Map) (s : SessionView) (due d : Done) (a : Answer) → due ≡ d → IsDone x told old new s d a → IsDone x told old new s due a
due_is x told old new s due d a e is = subst (λ z. IsDone x told old new s z a) (sym e) is

module _ (x : Caller) (b : Map) where
  -- a way, by what it does on each map that agrees and stands for a session's tree
  way : (keys : List Key) (edits : Edits) (o : Op (List ℕ)) (a : Answer) → AllPlain edits → ((P : List Place → Bool) (Q : Slice → Bool) → EditsBytes P Q edits)
      → ((told : Told) (w : Map) (s : SessionView) (S : Session) → IsFreeToMove o s → Agree keys b w → Stands x.size told x.tx x.calls w S.tree → Holds told w s S → IsDone x told w (with edits w) s (call (cap_for x) S o) a)
      → ((told : Told) (w : Map) (s : SessionView) (S : Session) → IsFreeToMove o s → Agree keys b w → Stands x.size told x.tx x.calls w S.tree
      → Holds told w s S → Feet x.tx w keys edits (reads S o) (writes (cap_for x) S o))
      → IsWay x b keys edits o a
  way keys edits o a plain bytes acts feet s off = record {
    fits = plain_fit edits b plain;
    names = λ P Q none known slices stored lists. record { edits = bytes P Q; facts = tt; slices = slices; lists = tt };
    acts = λ told w S agree fit tells lists st holds. acts told w s S off agree st holds;
    feet = λ told w S agree fit tells lists st holds. feet told w s S off agree st holds;
  }

  -- a way that changes nothing
  stay : (keys : List Key) (o : Op (List ℕ)) (a : Answer) → ((w : Map) (S : Session) → EachRead x.tx w (reads S o) keys)
      → ((told : Told) (w : Map) (s : SessionView) (S : Session) → IsFreeToMove o s → Agree keys b w → Stands x.size told x.tx x.calls w S.tree → Holds told w s S → call (cap_for x) S o ≡ record { session = S; answer = a })
      → IsWay x b keys [] o a
  stay keys o a read due = way keys [] o a tt (λ P Q. tt)
      (λ told w s S off agree st holds. due_is x told w w s (call (cap_for x) S o) (record { session = S; answer = a }) a (due told w s S off agree st holds)
      (done-same x told w s S st holds a))
      (λ told w s S off agree st holds. feet_looked x.tx w keys (reads S o) (writes (cap_for x) S o) (read w S))

  -- a way that is not refused
  made : (keys : List Key) (edits : Edits) (o : Op (List ℕ)) → AllPlain edits → ((P : List Place → Bool) (Q : Slice → Bool) → EditsBytes P Q edits)
      → ((told : Told) (w : Map) (S : Session) → Agree keys b w → Stands x.size told x.tx x.calls w S.tree → Feet x.tx w keys edits (reads S o) (changes S o))
      → ((told : Told) (w : Map) (s : SessionView) (S : Session) → IsFreeToMove o s → Agree keys b w → Stands x.size told x.tx x.calls w S.tree
      → Holds told w s S → IsDone x told w (with edits w) s (call (cap_for x) S o) answer.Okay)
      → IsWay x b keys edits o answer.Okay
  made keys edits o plain bytes feet acts = way keys edits o answer.Okay plain bytes acts (λ told w s S off agree st holds.
      feet_okay x.tx (cap_for x) w keys edits (reads S o) S o (sym (acts told w s S off agree st holds).answer) (feet told w S agree st))

  -- a target that is free, on a map that agrees
  record Target (told : Told) (w : Map) (t : Tree) (p dir : List ℕ) : Type 0 where
    at : OpenAt t p dir
    up : parent_of p ≡ Some dir
    free : (i : InodeId) → LeadsTo w p i → ⊥

  target_at : (told : Told) (w : Map) (t : Tree) → Stands x.size told x.tx x.calls w t → (p dir : List ℕ) → target_of w p ≡ Ok dir → Target told w t p dir
  target_at told w t st p dir here =
      let at = target-open x.size told x.tx x.calls w t st p dir here in
      record { at = at; up = at.free.up ∙ ap Some at.same; free = free_unled x.size told x.tx x.calls w t st p at.free.free }

  pub mkdir-refused : (p : List ℕ) (word : Word) → target_of b p ≡ Err word → IsWay x b (target_keys b p) [] (op.Mkdir p) (answer.Refused word)
  mkdir-refused p word e = stay (target_keys b p) (op.Mkdir p) (answer.Refused word) (λ w S. target_read x.tx b w p) (λ told w s S off agree st holds.
      mkdir-by (cap_for x) S p (Err word) (target-refused x.size told x.tx x.calls w S.tree st p word (target-agrees b w p agree ∙ e)))

  pub mkdir-made : (p dir : List ℕ) → IsPath p → target_of b p ≡ Ok dir → IsWay x b (target_keys b p) (mkdir_edits dir p) (op.Mkdir p) answer.Okay
  mkdir-made p dir path e = made (target_keys b p) (mkdir_edits dir p) (op.Mkdir p) (refl, (refl, (refl, tt))) (λ P Q. (tt, (tt, (tt, tt))))
      (λ told w S agree st.
      let free = target_at told w S.tree st p dir (target-agrees b w p agree ∙ e) in
      feet_mkdir x.tx w (target_keys b p) (target_reads p) (target_read x.tx b w p) p dir free.up free.free)
      (λ told w s S off agree st holds.
      let here : target_of w p ≡ Ok dir = target-agrees b w p agree ∙ e in
      let open_p = target-open x.size told x.tx x.calls w S.tree st p dir here in
      let left : Done = record { session = put_node S p Dir; answer = answer.Okay } in
      due_is x told w (with (mkdir_edits dir p) w) s (call (cap_for x) S (op.Mkdir p)) left answer.Okay
      (mkdir-by (cap_for x) S p (Ok tt) (target-free x.size told x.tx x.calls w S.tree st p dir here))
      (subst (λ d. IsDone x told w (with (mkdir_edits d p) w) s left answer.Okay) open_p.same (done-mkdir x told w s S st holds p path open_p.free)))

  pub create-refused : (p : List ℕ) (word : Word) → target_of b p ≡ Err word → IsWay x b (target_keys b p) [] (op.Create p) (answer.Refused word)
  create-refused p word e = stay (target_keys b p) (op.Create p) (answer.Refused word) (λ w S. target_read x.tx b w p) (λ told w s S off agree st holds.
      create-by (cap_for x) S p (Err word) (target-refused x.size told x.tx x.calls w S.tree st p word (target-agrees b w p agree ∙ e)))

  pub create-made : (p dir : List ℕ) (i : InodeId) → i.tx.0 ≡ x.tx → i.index ≡ x.calls + 1 → IsPath p → target_of b p ≡ Ok dir → IsWay x b (target_keys b p) (create_edits dir p i) (op.Create p) answer.Okay
  create-made p dir i mine next path e = made (target_keys b p) (create_edits dir p i) (op.Create p) (refl, (refl, (refl, tt))) (λ P Q. (tt, (tt, (tt, tt))))
      (λ told w S agree st.
      let free = target_at told w S.tree st p dir (target-agrees b w p agree ∙ e) in
      feet_create x.tx w (target_keys b p) (target_reads p) (target_read x.tx b w p) p dir i mine
      (new_unled x.size told x.tx x.calls w S.tree st i mine next) free.up free.free)
      (λ told w s S off agree st holds.
      let here : target_of w p ≡ Ok dir = target-agrees b w p agree ∙ e in
      let open_p = target-open x.size told x.tx x.calls w S.tree st p dir here in
      let left : Done = record { session = add_file S p []; answer = answer.Okay } in
      due_is x told w (with (create_edits dir p i) w) s (call (cap_for x) S (op.Create p)) left answer.Okay
      (create-by (cap_for x) S p (Ok tt) (target-free x.size told x.tx x.calls w S.tree st p dir here))
      (subst (λ d. IsDone x told w (with (create_edits d p i) w) s left answer.Okay) open_p.same (done-create x told w s S st holds p i mine next path open_p.free)))

  pub list-refused : (p : List ℕ) (word : Word) → directory_of b p ≡ Err word → IsWay x b (directory_keys b p) [] (op.List p) (answer.Refused word)
  list-refused p word e = stay (directory_keys b p) (op.List p) (answer.Refused word) (λ w S. directory_read x.tx b w p) (λ told w s S off agree st holds.
      list-by (cap_for x) S p (Err word) (directory-refused x.size told x.tx x.calls w S.tree st p word (directory-agrees b w p agree ∙ e)))

  pub list-shown : (p : List ℕ) (names : NamesOf) → directory_of b p ≡ Ok names → IsWay x b (directory_keys b p) [] (op.List p) (answer.Names (listed names))
  list-shown p names e = stay (directory_keys b p) (op.List p) (answer.Names (listed names)) (λ w S. directory_read x.tx b w p)
      (λ told w s S off agree st holds.
      let found = directory-found x.size told x.tx x.calls w S.tree st p names (directory-agrees b w p agree ∙ e) in
      list-by (cap_for x) S p (Ok tt) (ap is_directory found.there)
      ∙ ap (λ ns. record { session = S; answer = answer.Names ns }) (sym (listing-names S.tree p names st.tree_is found.listing)))

  pub rmdir-root : (p : List ℕ) → IsPath p → parent_of p ≡ None → IsWay x b [] [] (op.Rmdir p) (answer.Refused Root)
  rmdir-root p path none = stay [] (op.Rmdir p) (answer.Refused Root) (λ w S. tt) (λ told w s S off agree st holds.
      rmdir-by (cap_for x) S p (Err Root) (is_directory (get S.tree p)) (is_empty S.tree p) (ap (λ c. cond c (Err Root) (Ok tt)) ((bytes_eq-Decides p root).1 (no-parent p path none))) refl refl)

  not_root : (p dir : List ℕ) → parent_of p ≡ Some dir → is_not_root p ≡ Ok tt
  not_root p dir up = ap (λ c. cond c (Err Root) (Ok tt)) (inner p dir up)

  pub rmdir-refused : (p dir : List ℕ) (word : Word) → parent_of p ≡ Some dir → directory_of b p ≡ Err word → IsWay x b (directory_keys b p) [] (op.Rmdir p) (answer.Refused word)
  rmdir-refused p dir word up e = stay (directory_keys b p) (op.Rmdir p) (answer.Refused word) (λ w S. directory_read x.tx b w p)
      (λ told w s S off agree st holds.
      rmdir-by (cap_for x) S p (Ok tt) (Err word) (is_empty S.tree p) (not_root p dir up) (directory-refused x.size told x.tx x.calls w S.tree st p word (directory-agrees b w p agree ∙ e)) refl)

  pub rmdir-full : (p dir : List ℕ) (names : NamesOf) → parent_of p ≡ Some dir → directory_of b p ≡ Ok names → (length (listed names) ≡ 0 → ⊥) → IsWay x b (directory_keys b p) [] (op.Rmdir p) (answer.Refused NotEmpty)
  rmdir-full p dir names up e some = stay (directory_keys b p) (op.Rmdir p) (answer.Refused NotEmpty) (λ w S. directory_read x.tx b w p)
      (λ told w s S off agree st holds.
      let found = directory-found x.size told x.tx x.calls w S.tree st p names (directory-agrees b w p agree ∙ e) in
      rmdir-by (cap_for x) S p (Ok tt) (Ok tt) (Err NotEmpty) (not_root p dir up) (ap is_directory found.there) (listing-some S.tree p names st.tree_is found.listing some))

  pub rmdir-taken : (p dir : List ℕ) (names : NamesOf) → parent_of p ≡ Some dir → directory_of b p ≡ Ok names → length (listed names) ≡ 0 → IsWay x b (directory_keys b p) (rmdir_edits dir p) (op.Rmdir p) answer.Okay
  rmdir-taken p dir names up e none = made (directory_keys b p) (rmdir_edits dir p) (op.Rmdir p) (refl, (refl, (refl, tt))) (λ P Q. (tt, (tt, (tt, tt))))
      (λ told w S agree st.
      let found = directory-found x.size told x.tx x.calls w S.tree st p names (directory-agrees b w p agree ∙ e) in
      feet_rmdir x.tx w (directory_keys b p) (folder_reads p) (directory_read x.tx b w p) p dir up (λ i to. folder_leads (w (Path p)) i found.folder to))
      (λ told w s S off agree st holds.
      let t : Tree = S.tree in
      let found = directory-found x.size told x.tx x.calls w t st p names (directory-agrees b w p agree ∙ e) in
      let empty : is_empty t p ≡ Ok tt = listing-empty t p names st.tree_is found.listing none in
      let other : p ≢ root = λ same. root_inner p dir same up in
      let left : Done = record { session = take_out S p; answer = answer.Okay } in
      due_is x told w (with (rmdir_edits dir p) w) s (call (cap_for x) S (op.Rmdir p)) left answer.Okay
      (rmdir-by (cap_for x) S p (Ok tt) (Ok tt) (Ok tt) (not_root p dir up) (ap is_directory found.there) empty)
      (done-rmdir x told w s S st holds p dir up found.there found.folder
      (IsTree-taken t p st.tree_is other found.there (λ q here in_p. nothing_in t p q empty here in_p))
      (λ q here in_p. nothing_in t p q empty here in_p)))
    where
      root_inner : (p dir : List ℕ) → p ≡ root → parent_of p ≡ Some dir → ⊥
      root_inner p dir same up = let bad : None ≡ Some dir = sym (ap parent_of same) ∙ up in cc

  pub unlink-refused : (p : List ℕ) (word : Word) → source_of b p ≡ Err word → IsWay x b (source_keys p) [] (op.Unlink p) (answer.Refused word)
  unlink-refused p word e = stay (source_keys p) (op.Unlink p) (answer.Refused word) (λ w S. source_read x.tx b w p (LinksOf p ∷ []))
      (λ told w s S off agree st holds.
      unlink-by (cap_for x) S p (Err word) (is_closed S p) (source-refused x.size told x.tx x.calls w S.tree st p word (source-agrees b w p agree ∙ e)) refl)

  -- the root is no file
  no_root : (told : Told) (w : Map) (t : Tree) (p : List ℕ) (i : InodeId) → Stands x.size told x.tx x.calls w t → IsPath p → parent_of p ≡ None → source_of w p ≡ Ok i → ⊥
  no_root told w t p i st path none e =
      let file = leads-file x.size told x.tx x.calls w t st p i (source-leads w p i e) in
      let both_are : Some (File file.paths file.bytes) ≡ Some Dir = sym file.there ∙ (ap (get t) (no-parent p path none) ∙ st.tree_is.top) in
      absurd (cc)

  pub unlink-root : (p : List ℕ) (i : InodeId) (a : Answer) → IsPath p → parent_of p ≡ None → source_of b p ≡ Ok i
      → IsWay x b (counted_keys p i) [] (op.Unlink p) a
  unlink-root p i a path none e =
      let never : (told : Told) (w : Map) (t : Tree) → Agree (counted_keys p i) b w → Stands x.size told x.tx x.calls w t → ⊥ = λ told w t agree st.
      no_root told w t p i st path none (source-agrees b w p (Agree-parts (source_keys p) (Links i ∷ []) b w agree).0 ∙ e) in
      way (counted_keys p i) [] (op.Unlink p) a tt (λ P Q. tt)
      (λ told w s S off agree st holds. absurd (never told w S.tree agree st))
      (λ told w s S off agree st holds. absurd (never told w S.tree agree st))

  -- a file of which a path goes, on a map that agrees
  record Loses (told : Told) (w : Map) (t : Tree) (p : List ℕ) (i : InodeId) : Type 0 where
    leads : LeadsTo w p i
    file : FileAt x.size told w i (get t p)
    count : link_count (b (Links i)) ≡ path_count file.paths

  loses : (told : Told) (w : Map) (t : Tree) → Stands x.size told x.tx x.calls w t → (p : List ℕ) (i : InodeId)
      → source_of b p ≡ Ok i → Agree (counted_keys p i) b w
      → Loses told w t p i
  loses told w t st p i e agree =
      let parts = Agree-parts (source_keys p) (Links i ∷ []) b w agree in
      let leads : LeadsTo w p i = source-leads w p i (source-agrees b w p parts.0 ∙ e) in
      let file : FileAt x.size told w i (get t p) = leads-file x.size told x.tx x.calls w t st p i leads in
      record {
        leads = leads;
        file = file;
        count = sym (ap link_count parts.1.0) ∙ file-count x.size told w i file.paths file.bytes p file.file leads;
      }

  unlink-last : (p dir : List ℕ) (i : InodeId) → parent_of p ≡ Some dir → source_of b p ≡ Ok i → link_count (b (Links i)) < 2
      → IsWay x b (counted_keys p i) (unlink_edits dir p i) (op.Unlink p) answer.Okay
  unlink-last p dir i up e few = made (counted_keys p i) (unlink_edits dir p i) (op.Unlink p) (refl, (refl, (refl, tt))) (λ P Q. (tt, (tt, (tt, (tt, tt)))))
      (λ told w S agree st.
      let it = loses told w S.tree st p i e agree in
      let alone : path_count it.file.paths < 2 = subst (λ n. n < 2) it.count few in
      feet_unlink x.tx w (counted_keys p i) (NodeOf p ∷ LinksOf p ∷ []) (count_read x.tx b w p i it.leads) p dir i up (links_of (paths_at S.tree p))
      (λ q to. count-alone it.file.paths p q alone (it.file.file.all p it.leads) (it.file.file.all q to)))
      (λ told w s S off agree st holds.
      let it = loses told w S.tree st p i e agree in
      let left : Done = record { session = drop_path S p it.file.bytes; answer = answer.Okay } in
      due_is x told w (with (unlink_edits dir p i) w) s (call (cap_for x) S (op.Unlink p)) left answer.Okay
      (unlink-by (cap_for x) S p (Ok it.file.bytes) (Ok tt) (ap bytes_of it.file.there) (closed-off told w s S p holds off))
      (done-unlink x told w s S st holds p dir it.file.paths it.file.bytes i up it.file.there it.leads (subst (λ n. n < 2) it.count few) off))

  unlink-one : (p dir : List ℕ) (i : InodeId) → parent_of p ≡ Some dir → source_of b p ≡ Ok i → 2 ≤ link_count (b (Links i))
      → IsWay x b (counted_keys p i) (unlink_one_edits dir p i) (op.Unlink p) answer.Okay
  unlink-one p dir i up e more = made (counted_keys p i) (unlink_one_edits dir p i) (op.Unlink p) (refl, (refl, (refl, tt))) (λ P Q. (tt, (tt, (tt, tt))))
      (λ told w S agree st.
      let it = loses told w S.tree st p i e agree in
      feet_unlink_one x.tx w (counted_keys p i) (NodeOf p ∷ LinksOf p ∷ []) (count_read x.tx b w p i it.leads) p dir i up (links_of (paths_at S.tree p))
      (λ q to. is_among-links (paths_at S.tree p) q (leads-paths x.size told x.tx x.calls w S.tree st p q i it.leads to)))
      (λ told w s S off agree st holds.
      let it = loses told w S.tree st p i e agree in
      let left : Done = record { session = drop_path S p it.file.bytes; answer = answer.Okay } in
      due_is x told w (with (unlink_one_edits dir p i) w) s (call (cap_for x) S (op.Unlink p)) left answer.Okay
      (unlink-by (cap_for x) S p (Ok it.file.bytes) (Ok tt) (ap bytes_of it.file.there) (closed-off told w s S p holds off))
      (done-unlink_one x told w s S st holds p dir it.file.paths it.file.bytes i up it.file.there it.leads (subst (λ n. 2 ≤ n) it.count more) off))

  pub unlink-taken : (p dir : List ℕ) (i : InodeId) (links : ℕ) → parent_of p ≡ Some dir → source_of b p ≡ Ok i → link_count (b (Links i)) ≡ links
      → IsWay x b (counted_keys p i) (unlink_by links dir p i) (op.Unlink p) answer.Okay
  unlink-taken p dir i links up e count = ⊎_elim
      (λ few. subst (λ cs. IsWay x b (counted_keys p i) cs (op.Unlink p) answer.Okay)
      (sym (ap (λ c. cond c (unlink_edits dir p i) (unlink_one_edits dir p i)) (lt-ltb links 2 few)))
      (unlink-last p dir i up e (subst (λ n. n < 2) (sym count) few)))
      (λ more. subst (λ cs. IsWay x b (counted_keys p i) cs (op.Unlink p) answer.Okay)
      (sym (ap (λ c. cond c (unlink_edits dir p i) (unlink_one_edits dir p i)) (le-ltb links 2 more)))
      (unlink-one p dir i up e (subst (λ n. 2 ≤ n) (sym count) more)))
      (cases_lt links 2)

  pub rename-refused : (p q : List ℕ) (word : Word) → source_of b p ≡ Err word → IsWay x b (source_keys p) [] (op.Rename p q) (answer.Refused word)
  rename-refused p q word e = stay (source_keys p) (op.Rename p q) (answer.Refused word) (λ w S. source_read x.tx b w p (BodyOf p ∷ LinksOf p ∷ target_reads q))
      (λ told w s S off agree st holds.
      rename-by (cap_for x) S p q (Err word) (is_closed S p) (target S.tree q) (source-refused x.size told x.tx x.calls w S.tree st p word (source-agrees b w p agree ∙ e)) refl refl)

  pub rename-target : (p q : List ℕ) (i : InodeId) (word : Word) → source_of b p ≡ Ok i → target_of b q ≡ Err word → IsWay x b (source_keys p ++ target_keys b q) [] (op.Rename p q) (answer.Refused word)
  rename-target p q i word e f = stay (source_keys p ++ target_keys b q) (op.Rename p q) (answer.Refused word)
      (λ w S. both_read x.tx b w (BodyOf p ∷ LinksOf p ∷ []) p q)
      (λ told w s S off agree st holds.
      let parts = Agree-parts (source_keys p) (target_keys b q) b w agree in
      let file = leads-file x.size told x.tx x.calls w S.tree st p i (source-leads w p i (source-agrees b w p parts.0 ∙ e)) in
      rename-by (cap_for x) S p q (Ok file.bytes) (Ok tt) (Err word) (ap bytes_of file.there) (closed-off told w s S p holds off)
      (target-refused x.size told x.tx x.calls w S.tree st q word (target-agrees b w q parts.1 ∙ f)))

  pub rename-root : (p q : List ℕ) (i : InodeId) (a : Answer) → IsPath p → parent_of p ≡ None → source_of b p ≡ Ok i → IsWay x b (source_keys p ++ target_keys b q) [] (op.Rename p q) a
  rename-root p q i a path none e = stay (source_keys p ++ target_keys b q) (op.Rename p q) a (λ w S. both_read x.tx b w (BodyOf p ∷ LinksOf p ∷ []) p q)
      (λ told w s S off agree st holds.
      let parts = Agree-parts (source_keys p) (target_keys b q) b w agree in
      absurd (no_root told w S.tree p i st path none (source-agrees b w p parts.0 ∙ e)))

  pub rename-moved : (p up q dir : List ℕ) (i : InodeId) → IsPath q → parent_of p ≡ Some up → source_of b p ≡ Ok i → target_of b q ≡ Ok dir → IsWay x b (source_keys p ++ target_keys b q) (rename_edits up p dir q i) (op.Rename p q) answer.Okay
  rename-moved p up q dir i path above e f = made (source_keys p ++ target_keys b q) (rename_edits up p dir q i) (op.Rename p q)
      (refl, (refl, (refl, (refl, tt)))) (λ P Q. (tt, (tt, (tt, (tt, tt)))))
      (λ told w S agree st.
      let parts = Agree-parts (source_keys p) (target_keys b q) b w agree in
      let leads : LeadsTo w p i = source-leads w p i (source-agrees b w p parts.0 ∙ e) in
      let free = target_at told w S.tree st q dir (target-agrees b w q parts.1 ∙ f) in
      feet_rename x.tx w (source_keys p ++ target_keys b q) (file_reads p ++ target_reads q)
      (both_read x.tx b w (BodyOf p ∷ LinksOf p ∷ []) p q) p up q dir i above free.up leads free.free
      (is_among-head (NodeOf p) (BodyOf p ∷ LinksOf p ∷ target_reads q)) (is_among-head (BodyOf p) (LinksOf p ∷ target_reads q))
      (is_among-head (LinksOf p) (target_reads q)))
      (λ told w s S off agree st holds.
      let parts = Agree-parts (source_keys p) (target_keys b q) b w agree in
      let leads : LeadsTo w p i = source-leads w p i (source-agrees b w p parts.0 ∙ e) in
      let file = leads-file x.size told x.tx x.calls w S.tree st p i leads in
      let here : target_of w q ≡ Ok dir = target-agrees b w q parts.1 ∙ f in
      let open_q = target-open x.size told x.tx x.calls w S.tree st q dir here in
      let left : Done = record { session = move_file S p q file.bytes; answer = answer.Okay } in
      due_is x told w (with (rename_edits up p dir q i) w) s (call (cap_for x) S (op.Rename p q)) left answer.Okay
      (rename-by (cap_for x) S p q (Ok file.bytes) (Ok tt) (Ok tt) (ap bytes_of file.there) (closed-off told w s S p holds off) (target-free x.size told x.tx x.calls w S.tree st q dir here))
      (subst (λ d. IsDone x told w (with (rename_edits up p d q i) w) s left answer.Okay) open_q.same (done-rename x told w s S st holds p up q file.paths file.bytes i above file.there leads off path open_q.free)))

  pub link-refused : (p q : List ℕ) (word : Word) → source_of b p ≡ Err word → IsWay x b (source_keys p) [] (op.Link p q) (answer.Refused word)
  link-refused p q word e = stay (source_keys p) (op.Link p q) (answer.Refused word) (λ w S. source_read x.tx b w p (BodyOf p ∷ LinksOf p ∷ target_reads q))
      (λ told w s S off agree st holds.
      link-by (cap_for x) S p q (Err word) (target S.tree q) (source-refused x.size told x.tx x.calls w S.tree st p word (source-agrees b w p agree ∙ e)) refl)

  pub link-target : (p q : List ℕ) (i : InodeId) (word : Word) → source_of b p ≡ Ok i → target_of b q ≡ Err word
      → IsWay x b (source_keys p ++ target_keys b q) [] (op.Link p q) (answer.Refused word)
  link-target p q i word e f = stay (source_keys p ++ target_keys b q) (op.Link p q) (answer.Refused word)
      (λ w S. both_read x.tx b w (BodyOf p ∷ LinksOf p ∷ []) p q)
      (λ told w s S off agree st holds.
      let parts = Agree-parts (source_keys p) (target_keys b q) b w agree in
      let file = leads-file x.size told x.tx x.calls w S.tree st p i (source-leads w p i (source-agrees b w p parts.0 ∙ e)) in
      link-by (cap_for x) S p q (Ok file.bytes) (Err word) (ap bytes_of file.there)
      (target-refused x.size told x.tx x.calls w S.tree st q word (target-agrees b w q parts.1 ∙ f)))

  pub link-added : (p q dir : List ℕ) (i : InodeId) → IsPath q → x.calls < 2 ^ 32 → source_of b p ≡ Ok i → target_of b q ≡ Ok dir
      → IsWay x b (source_keys p ++ target_keys b q) (link_edits dir q i) (op.Link p q) answer.Okay
  link-added p q dir i path calls e f = made (source_keys p ++ target_keys b q) (link_edits dir q i) (op.Link p q)
      (refl, (refl, (refl, tt))) (λ P Q. (tt, (tt, (tt, tt))))
      (λ told w S agree st.
      let parts = Agree-parts (source_keys p) (target_keys b q) b w agree in
      let leads : LeadsTo w p i = source-leads w p i (source-agrees b w p parts.0 ∙ e) in
      let free = target_at told w S.tree st q dir (target-agrees b w q parts.1 ∙ f) in
      feet_link x.tx w (source_keys p ++ target_keys b q) (file_reads p ++ target_reads q)
      (both_read x.tx b w (BodyOf p ∷ LinksOf p ∷ []) p q) p q dir i (links_of (with_path (paths_at S.tree p) q)) free.up leads free.free
      (is_among-head (NodeOf p) (BodyOf p ∷ LinksOf p ∷ target_reads q))
      (is_among-tail (NodeOf p) (BodyOf p ∷ LinksOf p ∷ target_reads q) (BodyOf p) (is_among-head (BodyOf p) (LinksOf p ∷ target_reads q)))
      (is_among-tail (NodeOf p) (BodyOf p ∷ LinksOf p ∷ target_reads q) (LinksOf p)
      (is_among-tail (BodyOf p) (LinksOf p ∷ target_reads q) (LinksOf p) (is_among-head (LinksOf p) (target_reads q))))
      (λ z to. is_among-links (with_path (paths_at S.tree p) q) z
      (has-still (paths_at S.tree p) q z (leads-paths x.size told x.tx x.calls w S.tree st p z i leads to))))
      (λ told w s S off agree st holds.
      let parts = Agree-parts (source_keys p) (target_keys b q) b w agree in
      let leads : LeadsTo w p i = source-leads w p i (source-agrees b w p parts.0 ∙ e) in
      let file = leads-file x.size told x.tx x.calls w S.tree st p i leads in
      let here : target_of w q ≡ Ok dir = target-agrees b w q parts.1 ∙ f in
      let open_q = target-open x.size told x.tx x.calls w S.tree st q dir here in
      let left : Done = record { session = add_path S p q file.bytes; answer = answer.Okay } in
      due_is x told w (with (link_edits dir q i) w) s (call (cap_for x) S (op.Link p q)) left answer.Okay
      (link-by (cap_for x) S p q (Ok file.bytes) (Ok tt) (ap bytes_of file.there) (target-free x.size told x.tx x.calls w S.tree st q dir here))
      (subst (λ d. IsDone x told w (with (link_edits d q i) w) s left answer.Okay) open_q.same
      (done-link x told w s S st holds p q file.paths file.bytes i file.there leads path calls open_q.free)))
