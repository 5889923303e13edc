-- A file is made, and gets its bytes: the map then stands for the tree that has it, and this is all that was changed.
use Rattle.std.proofs.Common.{◌≡◌, ℕ, ◌+◌, List, [], ◌++◌, None, Some, Ok, refl, sym, ap, ◌∙◌, subst, arith}
use Rattle.std.specs.FinMap.{get, insert}
use Rattle.wtf_base.specs.declared.ids.InodeId.{InodeId}
use Rattle.wtf_path.specs.Grammar.{IsPath}
use Rattle.wtf_model.specs.declared.answer.Answer.TheVariants as answer
use Rattle.wtf_model.specs.declared.op.Op.{Op}
use Rattle.wtf_model.specs.Tree.{only_path, Tree, File, paths_of}
use Rattle.wtf_model.specs.Session.{Session}
use Rattle.wtf_model.specs.Done.{refiled, add_file}
use Rattle.wtf_model.specs.Call.{call}
use Rattle.wtf_model.specs.Items.{file_changes, reads, changes, writes}
use Rattle.wtf_model.proofs.Laws.{get-node_same, insert-node_over}
use Rattle.wtf_model.proofs.PathLaws.{refiled-bytes}
use Rattle.wtf_values.specs.declared.key.Key.{Key}
use Rattle.wtf_values.specs.declared.key.Key.TheVariants.{Path, Region}
use Rattle.wtf_values.specs.declared.value.Node.TheVariants.{File as FileNode}
use Rattle.wtf_values.specs.declared.value.Value.TheVariants as value
use Rattle.wtf_meta.specs.Maps.{Map, Edits, with}
use Rattle.wtf_meta.specs.Bytes.{MapBytes}
use Rattle.wtf_meta.specs.Contents.{Told, is_told, is_listed}
use Rattle.wtf_meta.specs.NameEdits.{create_edits}
use Rattle.wtf_meta.specs.Trees.{LeadsTo, IsBody, Stands}
use Rattle.wtf_meta.specs.Sessions.{SessionView, Holds}
use Rattle.wtf_meta.specs.Feet.{EachRead, Feet}
use Rattle.wtf_meta.specs.Calls.{Caller, cap_for, IsDone}
use Rattle.wtf_meta.proofs.FeetFiles.{EachOf}
use Rattle.wtf_meta.proofs.FeetNames.{feet_okay, feet_create, feet_filled, new_unled, free_unled}
use Rattle.wtf_meta.proofs.HandleLaws.{Holds-on}
use Rattle.wtf_meta.proofs.KeyPuts.{put-same}
use Rattle.wtf_meta.proofs.Moves.{done-create}
use Rattle.wtf_meta.proofs.Standing.{leads-file, no-regions}
use Rattle.wtf_index.specs.Checks.{target_of}
use Rattle.wtf_index.proofs.Checked.{target-open}
use Rattle.wtf_slicing.specs.Steps.{IsNewFor}
use Rattle.wtf_meta.proofs.Rewriting.{ChangesFile, stands-rebytes, none_stays}

module _ (x : Caller) (told : Told) (w : Map) (s : SessionView) (S : Session) (st : Stands x.size told x.tx x.calls w S.tree) (holds : Holds told w s S)
    (q dir : List ℕ) (new : InodeId) (own : IsNewFor x new) (path : IsPath q) (open_q : target_of w q ≡ Ok dir) where
  -- the map with an empty file at q
  abbrev pub made : Map
  made = with (create_edits dir q new) w

  made_done : IsDone x told w made s (record { session = add_file S q []; answer = answer.Okay }) answer.Okay
  made_done =
      let at = target-open x.size told x.tx x.calls w S.tree st q dir open_q in
      subst (λ (d : List ℕ). IsDone x told w (with (create_edits d q new) w) s (record { session = add_file S q []; answer = answer.Okay }) answer.Okay) at.same
      (done-create x told w s S st holds q new own.tx own.index path at.free)

  made_leads : LeadsTo made q new
  made_leads = put-same w (Path q) (Some (value.Node (FileNode new)))

  -- it has no region, and no byte
  pub made_regions : (r : ℕ) → made (Region new r) ≡ None
  made_regions r = no-regions x.size told x.tx x.calls w S.tree st new (st.fresh new own.tx (omega (arith, own.index))) r

  pub made_body : IsBody x.size told made new []
  made_body =
      let file = leads-file x.size told x.tx (x.calls + 1) made (insert S.tree q (File (only_path q) [])) made_done.stands q new made_leads in
      let both : Some (File file.paths file.bytes) ≡ Some (File (only_path q) []) = sym file.there ∙ get-node_same S.tree q (File (only_path q) []) in
      let none : file.bytes ≡ [] = cc in
      subst (IsBody x.size told made new) none file.body

  pub made_bytes : MapBytes (is_told told) (is_listed x.size told) made
  made_bytes = made_done.stands.bytes

  -- once the file gets its bytes
  pub filled_done : (full : Map) (bytes : List ℕ) → ChangesFile new made full → IsBody x.size told full new bytes
      → MapBytes (is_told told) (is_listed x.size told) full
      → IsDone x told w full s (record { session = add_file S q bytes; answer = answer.Okay }) answer.Okay
  filled_done full bytes changes body told_bytes =
      let first : Tree = insert S.tree q (File (only_path q) []) in
      let tree : Tree = insert S.tree q (File (only_path q) bytes) in
      let is : refiled first (paths_of (get first q)) (paths_of (get first q)) bytes ≡ tree =
      ap (λ o. refiled first (paths_of o) (paths_of o) bytes) (get-node_same S.tree q (File (only_path q) []))
      ∙ (refiled-bytes first q bytes ∙ insert-node_over S.tree q (File (only_path q) []) (File (only_path q) bytes)) in
      record {
        answer = refl;
        stands = subst (λ (t : Tree). Stands x.size told x.tx (x.calls + 1) full t) is
            (stands-rebytes x.size told x.tx (x.calls + 1) made first made_done.stands q new made_leads full changes (x.calls + 1)
            (omega arith) bytes body told_bytes);
        holds = Holds-on told made full s (add_file S q []) tree (λ f h there leads. changes.paths h.path ∙ leads) made_done.holds;
        own = λ j other none. none_stays x.size told x.tx (x.calls + 1) made first made_done.stands q new made_leads full changes j
            (made_done.own j other none);
      }

  -- and the call changed what stands at q, its bytes, and the names above it
  pub made_feet : (ks : List Key) (rest : Edits) (o : Op (List ℕ)) → EachRead x.tx w (reads S o) ks → EachOf new rest → changes S o ≡ file_changes q
      → (call (cap_for x) S o).answer ≡ answer.Okay
      → Feet x.tx w ks (create_edits dir q new ++ rest) (reads S o) (writes (cap_for x) S o)
  made_feet ks rest o read of is okay =
      let at = target-open x.size told x.tx x.calls w S.tree st q dir open_q in
      let none : (z : List ℕ) → LeadsTo w z new → ⊥ = new_unled x.size told x.tx x.calls w S.tree st new own.tx own.index in
      let first : Feet x.tx w ks (create_edits dir q new) (reads S o) (file_changes q) =
      feet_create x.tx w ks (reads S o) read q dir new own.tx none (at.free.up ∙ ap Some at.same)
      (free_unled x.size told x.tx x.calls w S.tree st q at.free.free) in
      feet_okay x.tx (cap_for x) w ks (create_edits dir q new ++ rest) (reads S o) S o okay
      (subst (λ W. Feet x.tx w ks (create_edits dir q new ++ rest) (reads S o) W) (sym is)
      (feet_filled x.tx w ks (create_edits dir q new) rest (reads S o) (file_changes q) new own.tx none of first))
