-- A map of which each region has other places for the same bytes stands for the same tree.
use Rattle.std.proofs.Common.{◌≡◌, ℕ, ◌+◌, ◌*◌, ◌/◌, ◌%◌, ◌<◌, ◌≤◌, List, Option, None, Some, sym, ap, ◌∙◌, subst}
use Rattle.std.specs.Prelude.{IsSome}
use Rattle.std.specs.FinMap.{get}
use Rattle.wtf_base.specs.declared.ids.InodeId.{InodeId}
use Rattle.wtf_model.specs.Tree.{Tree, TreeNode, Dir, File}
use Rattle.wtf_values.specs.declared.key.Key.TheVariants.{Path, Dir as DirKey, Inode, Region, Links}
use Rattle.wtf_values.specs.declared.value.Node.TheVariants.{Folder, File as FileNode}
use Rattle.wtf_values.specs.declared.value.Value.{Value}
use Rattle.wtf_values.specs.declared.value.Value.TheVariants as value
use Rattle.wtf_meta.specs.Bytes.{MapBytes}
use Rattle.wtf_meta.specs.Contents.{Told, is_told, is_listed, lists_in}
use Rattle.wtf_meta.specs.Files.{end_of, region_origin}
use Rattle.wtf_meta.specs.FileEdits.{IsLast, IsRegion, last_of, region_of}
use Rattle.wtf_meta.specs.Maps.{Map}
use Rattle.wtf_meta.specs.Trees.{IsBody, NodeAt, NamesAt, Stands}
use Rattle.wtf_overlay.specs.Meaning.{meaning}

-- names, directories, last regions and numbers of paths are the same, and each region ends where it did and tells the bytes that it told
pub record SameBodies (b : ℕ) (told now : Told) (w v : Map) : Type 0 where
  pub paths : (p : List ℕ) → v (Path p) ≡ w (Path p)
  pub dirs : (p : List ℕ) → v (DirKey p) ≡ w (DirKey p)
  pub inodes : (i : InodeId) → v (Inode i) ≡ w (Inode i)
  pub counts : (i : InodeId) → v (Links i) ≡ w (Links i)
  pub kinds : (i : InodeId) (r : ℕ) → IsRegion (w (Region i r)) → IsRegion (v (Region i r))
  pub none : (i : InodeId) (r : ℕ) → region_of (w (Region i r)) ≡ None → region_of (v (Region i r)) ≡ None
  pub there : (i : InodeId) (r : ℕ) → IsSome (v (Region i r)) → IsSome (w (Region i r))
  pub ends : (i : InodeId) (r : ℕ) → end_of (region_of (v (Region i r))) ≡ end_of (region_of (w (Region i r)))
  pub bytes : (i : InodeId) (r y byte : ℕ) → meaning told (region_origin (lists_in b told) (region_of (w (Region i r))) y) ≡ Some byte
      → meaning now (region_origin (lists_in b now) (region_of (v (Region i r))) y) ≡ Some byte

module _ (b : ℕ) (told now : Told) (w v : Map) (same : SameBodies b told now w v) where
  last_same : (i : InodeId) → last_of (v (Inode i)) ≡ last_of (w (Inode i))
  last_same i = ap last_of (same.inodes i)

  body_same : (i : InodeId) (bytes : List ℕ) → IsBody b told w i bytes → IsBody b now v i bytes
  body_same i bytes h = record {
    has = record { inode = subst IsLast (sym (same.inodes i)) h.has.inode; regions = λ r. same.kinds i r (h.has.regions r) };
    file = record {
      ends = λ r. subst (λ n. n ≤ b) (sym (same.ends i r)) (h.file.ends r);
      above = λ r past. same.none i r (h.file.above r (subst (λ n. n < r) (last_same i) past));
      some = λ pos. subst (λ n. 0 < n) (sym (same.ends i (last_of (v (Inode i)))))
          (subst (λ n. 0 < end_of (region_of (w (Region i n)))) (sym (last_same i)) (h.file.some (subst (λ n. 0 < n) (last_same i) pos)));
      few = subst (λ n. n < 4096) (sym (last_same i)) h.file.few;
    };
    bytes_are = record {
      len = ap (λ n. last_of (v (Inode i)) * b + n) (same.ends i (last_of (v (Inode i))))
          ∙ ap (λ n. n * b + end_of (region_of (w (Region i n)))) (last_same i) ∙ h.bytes_are.len;
      tells = λ x. same.bytes i (x / b) (x % b) _ (h.bytes_are.tells x);
    };
  }

  node_same : (x : Option Value) (o : Option TreeNode) → NodeAt b told w x o → NodeAt b now v x o
  node_same None None at = tt
  node_same None (Some Dir) at = absurd at
  node_same None (Some (File paths bytes)) at = absurd at
  node_same (Some (value.Node Folder)) None at = absurd at
  node_same (Some (value.Node Folder)) (Some Dir) at = tt
  node_same (Some (value.Node Folder)) (Some (File paths bytes)) at = absurd at
  node_same (Some (value.Node (FileNode i))) None at = absurd at
  node_same (Some (value.Node (FileNode i))) (Some Dir) at = absurd at
  node_same (Some (value.Node (FileNode i))) (Some (File paths bytes)) at = record {
    body = body_same i bytes at.body;
    lead = λ q has. same.paths q ∙ at.lead q has;
    all = λ q to. at.all q (sym (same.paths q) ∙ to);
    count = same.counts i ∙ at.count;
  }
  node_same (Some (value.Names s)) o at = absurd at
  node_same (Some (value.Count n)) o at = absurd at
  node_same (Some (value.Last r)) o at = absurd at
  node_same (Some (value.Region g)) o at = absurd at

  pub stands_bodies : (tx k : ℕ) (t : Tree) → MapBytes (is_told now) (is_listed b now) v → Stands b told tx k w t → Stands b now tx k v t
  stands_bodies tx k t bytes st = record {
    tree_is = st.tree_is;
    nodes = λ p. subst (λ x. NodeAt b now v x (get t p)) (sym (same.paths p)) (node_same (w (Path p)) (get t p) (st.nodes p));
    names = λ p. subst (λ x. NamesAt t p x (get t p)) (sym (same.dirs p)) (st.names p);
    led = λ i some. let found = st.led i (subst IsSome (same.inodes i) some) in (found.0, same.paths found.0 ∙ found.1);
    regions = λ i r some. subst IsSome (sym (same.inodes i)) (st.regions i r (same.there i r some));
    counted = λ i some. subst IsSome (sym (same.inodes i)) (st.counted i (subst IsSome (same.counts i) some));
    bytes = bytes;
    fresh = λ i tx_is past. same.inodes i ∙ st.fresh i tx_is past;
    few = st.few;
  }
