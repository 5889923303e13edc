-- The keys that a call on names records belong to the items that it reads.
use Rattle.std.proofs.Common.{ℕ, List, [], ◌∷◌, ◌++◌, Option, None, Some, inr}
use Rattle.wtf_base.specs.declared.ids.InodeId.{InodeId}
use Rattle.wtf_model.specs.declared.item.Item.{Item}
use Rattle.wtf_model.specs.declared.item.Item.TheVariants.{NodeOf, NamesOf, LinksOf}
use Rattle.wtf_model.specs.Items.{node_above, target_reads, folder_reads}
use Rattle.wtf_model.proofs.ItemLaws.{is_among-head, is_among-tail}
use Rattle.wtf_path.specs.Parts.{parent_of}
use Rattle.wtf_values.specs.declared.key.Key.{Key}
use Rattle.wtf_values.specs.declared.key.Key.TheVariants.{Path, Dir, Links}
use Rattle.wtf_values.specs.declared.value.Node.{Node}
use Rattle.wtf_values.specs.declared.value.Node.TheVariants.{Folder, File}
use Rattle.wtf_meta.specs.Maps.{Map}
use Rattle.wtf_meta.specs.Trees.{LeadsTo}
use Rattle.wtf_meta.specs.Feet.{ReadBy, EachRead}
use Rattle.wtf_meta.proofs.FeetLaws.{EachRead-append, EachRead-right}
use Rattle.wtf_index.specs.Checks.{stands_at}
use Rattle.wtf_index.specs.Recorded.{if_folder, target_keys_in, target_keys, directory_keys, source_keys}

module _ (tx : ℕ) (b w : Map) where
  folder_read : (n : Option Node) (k : Key) (R : List Item) → ReadBy tx w R k → EachRead tx w R (if_folder n k)
  folder_read (Some Folder) k R h = (h, tt)
  folder_read (Some (File i)) k R h = tt
  folder_read None k R h = tt

  target_in_read : (p : List ℕ) (up : Option (List ℕ)) → EachRead tx w (NodeOf p ∷ node_above up) (target_keys_in b p up)
  target_in_read p None = tt
  target_in_read p (Some dir) =
      let R : List Item = NodeOf p ∷ NodeOf dir ∷ [] in (
        is_among-tail (NodeOf p) (NodeOf dir ∷ []) (NodeOf dir) (is_among-head (NodeOf dir) []),
        folder_read (stands_at b dir) (Path p) R (is_among-head (NodeOf p) (NodeOf dir ∷ [])),
      )

  pub target_read : (p : List ℕ) → EachRead tx w (target_reads p) (target_keys b p)
  target_read p = target_in_read p (parent_of p)

  pub directory_read : (p : List ℕ) → EachRead tx w (folder_reads p) (directory_keys b p)
  directory_read p = (is_among-head (NodeOf p) (NamesOf p ∷ []), folder_read (stands_at b p) (Dir p) (folder_reads p) (is_among-head (NamesOf p) []))

  pub source_read : (p : List ℕ) (R : List Item) → EachRead tx w (NodeOf p ∷ R) (source_keys p)
  source_read p R = (is_among-head (NodeOf p) R, tt)

  -- and of how many paths it has
  pub count_read : (p : List ℕ) (i : InodeId) → LeadsTo w p i → EachRead tx w (NodeOf p ∷ LinksOf p ∷ []) (source_keys p ++ Links i ∷ [])
  count_read p i leads = (
    is_among-head (NodeOf p) (LinksOf p ∷ []),
    (
      inr (record {
        path = p;
        leads = leads;
        node = is_among-head (NodeOf p) (LinksOf p ∷ []);
        links = is_among-tail (NodeOf p) (LinksOf p ∷ []) (LinksOf p) (is_among-head (LinksOf p) []);
      }),
      tt,
    ),
  )

  -- of a file, of which R is read as well, and then of a target
  pub both_read : (R : List Item) (p q : List ℕ) → EachRead tx w ((NodeOf p ∷ R) ++ target_reads q) (source_keys p ++ target_keys b q)
  both_read R p q =
      EachRead-append tx w ((NodeOf p ∷ R) ++ target_reads q) (source_keys p) (target_keys b q)
      (source_read p (R ++ target_reads q))
      (EachRead-right tx w (NodeOf p ∷ R) (target_reads q) (target_keys b q) (target_read q))
