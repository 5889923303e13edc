-- Footprints of calls that change what stands at paths.
use Rattle.std.proofs.Common.{◌≡◌, ◌⊎◌, ℕ, ◌+◌, true, false, cond, List, [], ◌∷◌, ◌++◌, Option, None, Some, refl, sym, ap, subst, ◌∙◌, inl, inr, ⊎_elim}
use Rattle.std.proofs.Common.{arith}
use Rattle.std.specs.FinMap.{get}
use Rattle.std.specs.BTreeMap.{is_at}
use Rattle.std.proofs.lemmas.Bool.{cases_Bool}
use Rattle.wtf_base.specs.declared.ids.InodeId.{InodeId}
use Rattle.wtf_kv.specs.declared.changes.Change.TheVariants as change
use Rattle.wtf_path.specs.Parts.{parent_of}
use Rattle.wtf_model.specs.declared.answer.Answer.TheVariants as answer
use Rattle.wtf_model.specs.declared.item.Item.{Item}
use Rattle.wtf_model.specs.declared.item.Item.TheVariants.{NodeOf, NamesOf, BodyOf, LinksOf}
use Rattle.wtf_model.specs.declared.op.Op.{Op}
use Rattle.wtf_model.specs.Call.{call}
use Rattle.wtf_model.specs.Items.{names_above, folder_changes, file_changes, changes, writes}
use Rattle.wtf_model.specs.Session.{Session}
use Rattle.wtf_model.specs.Tree.{Tree}
use Rattle.wtf_model.proofs.ItemLaws.{is_among-head, is_among-tail, is_among-left, is_among-right, writes-okay}
use Rattle.wtf_values.specs.declared.key.Key.{Key}
use Rattle.wtf_values.specs.declared.key.Key.TheVariants.{Path, Region}
use Rattle.wtf_values.specs.declared.value.Node.TheVariants.{Folder, File}
use Rattle.wtf_values.specs.declared.value.Value.{Value}
use Rattle.wtf_values.specs.declared.value.Value.TheVariants as value
use Rattle.wtf_values.specs.Keys.{key_cmp}
use Rattle.wtf_values.proofs.KeyLaws.{at_same}
use Rattle.wtf_meta.specs.Maps.{Map, Edits, with}
use Rattle.wtf_meta.specs.Contents.{Told}
use Rattle.wtf_meta.specs.FileEdits.{LAST_REGION}
use Rattle.wtf_meta.specs.NameEdits.{mkdir_edits, rmdir_edits, create_edits, unlink_edits, unlink_one_edits, link_edits, rename_edits}
use Rattle.wtf_meta.specs.Trees.{LeadsTo, Stands}
use Rattle.wtf_meta.specs.Feet.{Has, ReadBy, EachRead, Feet}
use Rattle.wtf_meta.proofs.FeetLaws.{unfit-none, unfit-parts, EachWritten-append}
use Rattle.wtf_meta.proofs.FeetFiles.{EachOf, cut_of, paths_kept, unfit_of, own_read, change_written, each_written}
use Rattle.wtf_meta.proofs.Fitting.{plain_fit}
use Rattle.wtf_meta.proofs.KeyPuts.{with-append}
use Rattle.wtf_meta.proofs.Moves.{folder_leads}
use Rattle.wtf_meta.proofs.Standing.{one_leads, none_leads, not-led, path-none}

-- what a call changes that was not refused
pub feet_okay : (tx cap : ℕ) (w : Map) (ks : List Key) (cs : Edits) (R : List Item) (S : Session) (o : Op (List ℕ)) → (call cap S o).answer ≡ answer.Okay
    → Feet tx w ks cs R (changes S o)
    → Feet tx w ks cs R (writes cap S o)
feet_okay tx cap w ks cs R S o okay feet = subst (λ W. Feet tx w ks cs R W) (sym (writes-okay cap S o okay)) feet

-- the directory of a path has its names changed
names_changed : (p dir : List ℕ) → parent_of p ≡ Some dir → Has (NamesOf dir) (names_above (parent_of p))
names_changed p dir up = subst (λ o. Has (NamesOf dir) (names_above o)) (sym up) (is_among-head (NamesOf dir) [])

folder_names : (p dir : List ℕ) → parent_of p ≡ Some dir → Has (NamesOf dir) (folder_changes p)
folder_names p dir up = is_among-tail (NamesOf p) (names_above (parent_of p)) (NamesOf dir) (names_changed p dir up)

folder_own : (p : List ℕ) → Has (NamesOf p) (folder_changes p)
folder_own p = is_among-head (NamesOf p) (names_above (parent_of p))

folder_node : (p : List ℕ) → Has (NodeOf p) (folder_changes p)
folder_node p = is_among-head (NodeOf p) (NamesOf p ∷ names_above (parent_of p))

file_node : (p : List ℕ) → Has (NodeOf p) (file_changes p)
file_node p = is_among-head (NodeOf p) (BodyOf p ∷ names_above (parent_of p))

file_body : (p : List ℕ) → Has (BodyOf p) (file_changes p)
file_body p = is_among-head (BodyOf p) (names_above (parent_of p))

-- ---- where paths lead, once one of them has another value

abbrev put : List ℕ → Option Value → (List ℕ → Option Value) → List ℕ → Option Value
put p v g q = cond (is_at (key_cmp (Path p)) (Path q)) v (g q)

put_cases : (p q : List ℕ) → (q ≡ p) ⊎ (is_at (key_cmp (Path p)) (Path q) ≡ false)
put_cases p q = ⊎_elim
    (λ here. let same : Path p ≡ Path q = at_same (Path p) (Path q) here in let one : q ≡ p = cc in inl one)
    (λ other. inr other)
    (cases_Bool (is_at (key_cmp (Path p)) (Path q)))

module _ (p : List ℕ) (v : Option Value) (g : List ℕ → Option Value) where
  -- one that leads to a file is the path with the value, or it led there
  put_leads : (q : List ℕ) (i : InodeId) → put p v g q ≡ Some (value.Node (File i))
      → ((q ≡ p) × (v ≡ Some (value.Node (File i)))) ⊎ (g q ≡ Some (value.Node (File i)))
  put_leads q i to = elim (is_at (key_cmp (Path p)) (Path q)) as (λ b. is_at (key_cmp (Path p)) (Path q) ≡ b → cond b v (g q) ≡ Some (value.Node (File i))
      → ((q ≡ p) × (v ≡ Some (value.Node (File i)))) ⊎ (g q ≡ Some (value.Node (File i)))) [
        | true ↦ λ e here. let same : Path p ≡ Path q = at_same (Path p) (Path q) e in let one : q ≡ p = cc in inl (one, here)
        | false ↦ λ e there. inr there
      ] refl to

  -- and one that led there does so still, or it is that path
  put_stays : (q : List ℕ) (i : InodeId) → g q ≡ Some (value.Node (File i)) → (q ≡ p) ⊎ (put p v g q ≡ Some (value.Node (File i)))
  put_stays q i to = ⊎_elim (λ same. inl same) (λ other. inr (ap (λ b. cond b v (g q)) other ∙ to)) (put_cases p q)

module _ (tx : ℕ) (w : Map) (ks : List Key) (R : List Item) (read : EachRead tx w R ks) where
  -- a directory is made where no file stood
  pub feet_mkdir : (p dir : List ℕ) → parent_of p ≡ Some dir → ((i : InodeId) → LeadsTo w p i → ⊥) → Feet tx w ks (mkdir_edits dir p) R (folder_changes p)
  feet_mkdir p dir up free = record {
    read = read;
    unfit = unfit-none (mkdir_edits dir p) (ReadBy tx w R) (λ m. plain_fit (mkdir_edits dir p) m (refl, (refl, (refl, tt))));
    written = (folder_node p, (folder_own p, (folder_names p dir up, tt)));
    comes = λ q i to. ⊎_elim
        (λ here. absurd (folder_leads (Some (value.Node Folder)) i refl here.1))
        (λ stood. inl stood)
        (put_leads p (Some (value.Node Folder)) (λ z. w (Path z)) q i to);
    stays = λ q i to. ⊎_elim
        (λ same. absurd (free i (subst (λ z. LeadsTo w z i) same to)))
        (λ still. inl still)
        (put_stays p (Some (value.Node Folder)) (λ z. w (Path z)) q i to);
  }

  -- one is taken out
  pub feet_rmdir : (p dir : List ℕ) → parent_of p ≡ Some dir → ((i : InodeId) → LeadsTo w p i → ⊥) → Feet tx w ks (rmdir_edits dir p) R (folder_changes p)
  feet_rmdir p dir up folder = record {
    read = read;
    unfit = unfit-none (rmdir_edits dir p) (ReadBy tx w R) (λ m. plain_fit (rmdir_edits dir p) m (refl, (refl, (refl, tt))));
    written = (folder_node p, (folder_own p, (folder_names p dir up, tt)));
    comes = λ q i to. ⊎_elim
        (λ here. absurd (none_leads None i refl here.1))
        (λ stood. inl stood)
        (put_leads p None (λ z. w (Path z)) q i to);
    stays = λ q i to. ⊎_elim
        (λ same. absurd (folder i (subst (λ z. LeadsTo w z i) same to)))
        (λ still. inl still)
        (put_stays p None (λ z. w (Path z)) q i to);
  }

  -- a file is made with an inode of the transaction, to which no path led
  pub feet_create : (p dir : List ℕ) (i : InodeId) → i.tx.0 ≡ tx → ((q : List ℕ) → LeadsTo w q i → ⊥) → parent_of p ≡ Some dir
      → ((j : InodeId) → LeadsTo w p j → ⊥)
      → Feet tx w ks (create_edits dir p i) R (file_changes p)
  feet_create p dir i own new up free = record {
    read = read;
    unfit = unfit-none (create_edits dir p i) (ReadBy tx w R) (λ m. plain_fit (create_edits dir p i) m (refl, (refl, (refl, tt))));
    written = (file_node p, ((λ q to. absurd (new q to)), (names_changed p dir up, tt)));
    comes = λ q j to. ⊎_elim
        (λ here. inr (inl (subst (λ (z : InodeId). z.tx.0 ≡ tx) (one_leads (Some (value.Node (File i))) i j refl here.1) own)))
        (λ stood. inl stood)
        (put_leads p (Some (value.Node (File i))) (λ z. w (Path z)) q j to);
    stays = λ q j to. ⊎_elim
        (λ same. absurd (free j (subst (λ z. LeadsTo w z j) same to)))
        (λ still. inl still)
        (put_stays p (Some (value.Node (File i))) (λ z. w (Path z)) q j to);
  }

  module _ (p dir : List ℕ) (i : InodeId) (up : parent_of p ≡ Some dir) (L : List Item) where
    -- what a file changes that loses a path, and by which paths it tells how many they are
    abbrev dropped : List Item
    dropped = file_changes p ++ L

    node_dropped : Has (NodeOf p) dropped
    node_dropped = is_among-left (file_changes p) L (NodeOf p) (file_node p)

    body_dropped : Has (BodyOf p) dropped
    body_dropped = is_among-left (file_changes p) L (BodyOf p) (file_body p)

    names_dropped : Has (NamesOf dir) dropped
    names_dropped = is_among-left (file_changes p) L (NamesOf dir) (names_changed p dir up)

    leads_left : (q : List ℕ) (j : InodeId) → put p None (λ z. w (Path z)) q ≡ Some (value.Node (File j)) → LeadsTo w q j
    leads_left q j to = ⊎_elim (λ here. absurd (none_leads None j refl here.1)) (λ stood. stood) (put_leads p None (λ z. w (Path z)) q j to)

    stays_left : (q : List ℕ) (j : InodeId) → LeadsTo w q j
        → (put p None (λ z. w (Path z)) q ≡ Some (value.Node (File j))) ⊎ (Has (NodeOf q) dropped × Has (BodyOf q) dropped)
    stays_left q j to = ⊎_elim
        (λ same. inr (subst (λ z. Has (NodeOf z) dropped × Has (BodyOf z) dropped) (sym same) (node_dropped, body_dropped)))
        (λ still. inl still)
        (put_stays p None (λ z. w (Path z)) q j to)

    -- a file is taken out with its last path
    pub feet_unlink : ((q : List ℕ) → LeadsTo w q i → q ≡ p) → Feet tx w ks (unlink_edits dir p i) R dropped
    feet_unlink alone =
        let each : (q : List ℕ) → LeadsTo w q i → Has (BodyOf q) dropped = λ q to.
        subst (λ z. Has (BodyOf z) dropped) (sym (alone q to)) body_dropped in
        record {
          read = read;
          unfit = unfit-none (unlink_edits dir p i) (ReadBy tx w R) (λ m. plain_fit (unlink_edits dir p i) m (refl, (refl, (refl, tt))));
          written = (
            change_written tx w i dropped (change.Cut (Region i 0) (Region i LAST_REGION)) each (cut_of i 0 LAST_REGION),
            (each, (node_dropped, (names_dropped, tt))),
          );
          comes = λ q j to. inl (leads_left q j to);
          stays = stays_left;
        }

    -- or loses a path beside others
    pub feet_unlink_one : ((q : List ℕ) → LeadsTo w q i → Has (LinksOf q) L) → Feet tx w ks (unlink_one_edits dir p i) R dropped
    feet_unlink_one each = record {
      read = read;
      unfit = unfit-none (unlink_one_edits dir p i) (ReadBy tx w R) (λ m. plain_fit (unlink_one_edits dir p i) m (refl, (refl, (refl, tt))));
      written = (node_dropped, (names_dropped, ((λ q to. inr (is_among-right (file_changes p) L (LinksOf q) (each q to))), tt)));
      comes = λ q j to. inl (leads_left q j to);
      stays = stays_left;
    }

  -- a file gets one more path, of which R has all that was read of it
  pub feet_link : (p q dir : List ℕ) (i : InodeId) (L : List Item) → parent_of q ≡ Some dir → LeadsTo w p i → ((j : InodeId) → LeadsTo w q j → ⊥)
      → Has (NodeOf p) R → Has (BodyOf p) R → Has (LinksOf p) R → ((z : List ℕ) → LeadsTo w z i → Has (LinksOf z) L)
      → Feet tx w ks (link_edits dir q i) R (file_changes q ++ L)
  feet_link p q dir i L over leads free node body links each =
      let file : Option Value = Some (value.Node (File i)) in
      record {
        read = read;
        unfit = unfit-none (link_edits dir q i) (ReadBy tx w R) (λ m. plain_fit (link_edits dir q i) m (refl, (refl, (refl, tt))));
        written = (
          is_among-left (file_changes q) L (NodeOf q) (file_node q),
          (
            is_among-left (file_changes q) L (NamesOf dir) (names_changed q dir over),
            ((λ z to. inr (is_among-right (file_changes q) L (LinksOf z) (each z to))), tt),
          ),
        );
        comes = λ z j to. ⊎_elim
            (λ here. inr (inr (record {
              path = p;
              leads = subst (λ (k : InodeId). LeadsTo w p k) (one_leads file i j refl here.1) leads;
              node = node;
              body = body;
              links = links;
            })))
            (λ stood. inl stood)
            (put_leads q file (λ y. w (Path y)) z j to);
        stays = λ z j to. ⊎_elim
            (λ same. absurd (free j (subst (λ y. LeadsTo w y j) same to)))
            (λ still. inl still)
            (put_stays q file (λ y. w (Path y)) z j to);
      }

  -- a file has another path in place of one
  pub feet_rename : (p up q dir : List ℕ) (i : InodeId) → parent_of p ≡ Some up → parent_of q ≡ Some dir → LeadsTo w p i → ((j : InodeId) → LeadsTo w q j → ⊥)
      → Has (NodeOf p) R → Has (BodyOf p) R → Has (LinksOf p) R → Feet tx w ks (rename_edits up p dir q i) R (file_changes p ++ file_changes q)
  feet_rename p up q dir i above over leads free node body links =
      let W : List Item = file_changes p ++ file_changes q in
      let file : Option Value = Some (value.Node (File i)) in
      let left : List ℕ → Option Value = put p None (λ z. w (Path z)) in
      record {
        read = read;
        unfit = unfit-none (rename_edits up p dir q i) (ReadBy tx w R) (λ m. plain_fit (rename_edits up p dir q i) m (refl, (refl, (refl, (refl, tt)))));
        written = (
          is_among-left (file_changes p) (file_changes q) (NodeOf p) (file_node p),
          (
            is_among-left (file_changes p) (file_changes q) (NamesOf up) (names_changed p up above),
            (
              is_among-right (file_changes p) (file_changes q) (NodeOf q) (file_node q),
              (is_among-right (file_changes p) (file_changes q) (NamesOf dir) (names_changed q dir over), tt),
            ),
          ),
        );
        comes = λ z j to. ⊎_elim
            (λ here. inr (inr (record {
              path = p;
              leads = subst (λ (k : InodeId). LeadsTo w p k) (one_leads file i j refl here.1) leads;
              node = node;
              body = body;
              links = links;
            })))
            (λ kept. ⊎_elim
            (λ gone. absurd (none_leads None j refl gone.1))
            (λ stood. inl stood)
            (put_leads p None (λ y. w (Path y)) z j kept))
            (put_leads q file left z j to);
        stays = λ z j to. ⊎_elim
            (λ same. inr (subst (λ y. Has (NodeOf y) W × Has (BodyOf y) W) (sym same) (
              is_among-left (file_changes p) (file_changes q) (NodeOf p) (file_node p),
              is_among-left (file_changes p) (file_changes q) (BodyOf p) (file_body p),
            )))
            (λ kept. ⊎_elim
            (λ same. absurd (free j (subst (λ y. LeadsTo w y j) same to)))
            (λ still. inl still)
            (put_stays q file left z j kept))
            (put_stays p None (λ y. w (Path y)) z j to);
      }

-- and then changes of an inode of the transaction, to which no path led
pub feet_filled : (tx : ℕ) (w : Map) (ks : List Key) (cs rest : Edits) (R W : List Item) (i : InodeId) → i.tx.0 ≡ tx → ((q : List ℕ) → LeadsTo w q i → ⊥)
    → EachOf i rest
    → Feet tx w ks cs R W → Feet tx w ks (cs ++ rest) R W
feet_filled tx w ks cs rest R W i own new of feet =
    let at : (q : List ℕ) → with (cs ++ rest) w (Path q) ≡ with cs w (Path q) = λ q.
    ap (λ (m : Map). m (Path q)) (with-append cs rest w) ∙ paths_kept i rest (with cs w) q of in
    record {
      read = feet.read;
      unfit = λ m k e. ⊎_elim (λ here. feet.unfit m k here) (λ later. own_read tx w i R k own (unfit_of i rest (with cs m) k of later))
          (unfit-parts cs rest m k e);
      written = EachWritten-append w W cs rest feet.written (each_written tx w i W rest (λ q to. absurd (new q to)) of);
      comes = λ q j to. feet.comes q j (sym (at q) ∙ to);
      stays = λ q j to. ⊎_elim (λ still. inl (at q ∙ still)) (λ gone. inr gone) (feet.stays q j to);
    }

-- ---- what is so of a map that stands for a tree

module _ (b : ℕ) (told : Told) (tx k : ℕ) (w : Map) (t : Tree) (st : Stands b told tx k w t) where
  -- no path leads to a new inode
  pub new_unled : (i : InodeId) → i.tx.0 ≡ tx → i.index ≡ k + 1 → (q : List ℕ) → LeadsTo w q i → ⊥
  new_unled i own index q to = not-led b told tx k w t st i (st.fresh i own (omega (arith, index))) q to

  -- and none to a file where nothing stands
  pub free_unled : (p : List ℕ) → get t p ≡ None → (i : InodeId) → LeadsTo w p i → ⊥
  free_unled p free i to = none_leads (w (Path p)) i (path-none b told tx k w t st p free) to
