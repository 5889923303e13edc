-- What others see of a job that was put: the bytes of its file stand elsewhere. And why a job is stale.
use Rattle.wtf_clients.proofs.Common.{both_ways, InodeId, Store, Answer, Item, NodeOf, BodyOf, meets, source_reads, Tree, is_among-head, is_among-tail}
use Rattle.wtf_clients.proofs.Common.{meets-by, Key, Path, Inode, Region, RegionValue, Value, Told, Has, WrittenBy, EachWritten, ReadBy, Feet, edits_of, Map}
use Rattle.wtf_clients.proofs.Common.{AllFit, with, metadata_at, LeadsTo, Own, Stands, edits_are_of, paths_kept, unfit-none, JobView, puts, job_edits, IsJobPut}
use Rattle.wtf_clients.proofs.Common.{IsStale, metadata_now, above, SinceBase, ◌≡◌, ℕ, suc, true, List, [], ◌∷◌, ◌++◌, Option, None, Some, refl, sym, ap, ◌∙◌}
use Rattle.wtf_clients.proofs.Common.{subst, inl, ⊎_elim, arith}
use Rattle.wtf_clients.proofs.{AboveLaws.above-version, SinceLaws.TouchedSince, SinceLaws.touched_installed, SinceLaws.since_installed, TouchLaws.HasNone}
use Rattle.wtf_clients.proofs.{TouchLaws.has_none}

-- ---- what a put does to a map

module _ (i : InodeId) (r : ℕ) where
  -- it always finds room
  put_fits : (value : Option RegionValue) (m : Map) → AllFit (edits_of i (puts r value)) m
  put_fits None m = refl
  put_fits (Some x) m = refl

  -- no inode comes or goes
  inode_same : (value : Option RegionValue) (w : Map) (k : InodeId) → with (edits_of i (puts r value)) w (Inode k) ≡ w (Inode k)
  inode_same None w k = refl
  inode_same (Some x) w k = refl

  pub put_own : (other : ℕ) (value : Option RegionValue) (w : Map) → Own other w (with (edits_of i (puts r value)) w)
  put_own other value w k mine none = inode_same value w k ∙ none

  -- the region's key alone is written
  put_written : (value : Option RegionValue) (w : Map) (W : List Item) → WrittenBy w W (Region i r) → EachWritten w W (edits_of i (puts r value))
  put_written None w W written = tt
  put_written (Some x) w W written = (written, tt)

-- the footprint of a put, which records nothing that others have, and changes the bytes at each path of its file
pub put_feet : (other : ℕ) (w : Map) (x : JobView) (changed : List Item) → ((q : List ℕ) → LeadsTo w q x.target.inode → Has (BodyOf q) changed)
    → Feet other w [] (job_edits x) [] changed
put_feet other w x changed each =
    let same : (p : List ℕ) → with (job_edits x) w (Path p) ≡ w (Path p) = λ p.
    paths_kept x.target.inode (job_edits x) w p (edits_are_of x.target.inode (puts x.target.region x.value)) in
    record {
      read = tt;
      unfit = unfit-none (job_edits x) (ReadBy other w []) (put_fits x.target.inode x.target.region x.value);
      written = put_written x.target.inode x.target.region x.value w changed each;
      comes = λ p i to. inl (sym (same p) ∙ to);
      stays = λ q i to. inl (same q ∙ to);
    }

-- ---- what was touched, once a job is in place

module _ (x : JobView) (old new : Store Key Value) (n : ℕ) (put : IsJobPut x old new (Answer.Installed n)) (changed : List Item)
    (each : (q : List ℕ) → LeadsTo (metadata_now old) q x.target.inode → Has (BodyOf q) changed) where
  pub put_map : metadata_now new ≡ with (job_edits x) (metadata_now old)
  put_map = ap (metadata_at new) put.number ∙ put.map

  -- where the map stood for a tree before and does after
  module _ (size : ℕ) (told later : Told) (t : Tree) (tx : ℕ) (was : Stands size told tx 0 (metadata_now old) t)
      (is : Stands size later tx 0 (metadata_now new) t) where
    none_before : HasNone (metadata_now old)
    none_before = has_none size told tx 0 (metadata_now old) t was

    none_after : HasNone (with (job_edits x) (metadata_now old))
    none_after = subst HasNone put_map (has_none size later tx 0 (metadata_now new) t is)

    pub put_touched : (base : ℕ) (items : List Item) → metadata_at new base ≡ metadata_at old base → TouchedSince old base items
        → TouchedSince new base (items ++ changed)
    put_touched base items at since =
        touched_installed (suc tx) old new [] (job_edits x) n [] changed (put_feet (suc tx) (metadata_now old) x changed each)
        (put_own x.target.inode x.target.region (suc tx) x.value (metadata_now old)) none_before none_after put_map put.versions base items at since

    pub put_since : (base : ℕ) (items : List Item) → metadata_at new base ≡ metadata_at old base → SinceBase old tx base items
        → SinceBase new tx base (items ++ changed)
    put_since base items at since =
        since_installed (suc tx) old new [] (job_edits x) n [] changed (put_feet (suc tx) (metadata_now old) x changed each)
        (put_own x.target.inode x.target.region (suc tx) x.value (metadata_now old)) none_before none_after put_map put.versions tx base items
        (λ e. absurd (omega (arith, e))) at since

-- ---- the cause of a stale job

-- what stands at its path, or the bytes there, were touched
pub stale_met : (x : JobView) (old new : Store Key Value) (b n : ℕ) (items : List Item) → IsStale x old new b n
    → LeadsTo (metadata_at old x.base) x.path x.target.inode → TouchedSince old x.base items → meets items (source_reads x.path) ≡ true
stale_met x old new b n items stale leads touched = ⊎_elim
    (λ path. meets-by items (source_reads x.path) (NodeOf x.path)
    (touched.nodes x.path (above-version old x.base old.number (Path x.path) path)) (is_among-head (NodeOf x.path) (BodyOf x.path ∷ [])))
    (λ region. ⊎_elim
    (λ was. meets-by items (source_reads x.path) (BodyOf x.path) was
    (is_among-tail (NodeOf x.path) (BodyOf x.path ∷ []) (BodyOf x.path) (is_among-head (BodyOf x.path) [])))
    (λ still. absurd (both_ways (above old x.base (Region x.target.inode x.target.region)) (still.1.regions x.target.region)
    (above-version old x.base old.number (Region x.target.inode x.target.region) region))) (touched.bodies x.path x.target.inode leads)) stale.moved
