-- The keys that calls record of files that they take belong to the items that they read.
use Rattle.std.proofs.Common.{◌≡◌, ℕ, List, [], ◌∷◌, ◌++◌, Result, Ok, Err, refl, subst}
use Rattle.wtf_base.specs.declared.ids.InodeId.{InodeId}
use Rattle.wtf_model.specs.declared.answer.Word.{Word}
use Rattle.wtf_model.specs.declared.item.Item.{Item}
use Rattle.wtf_model.specs.declared.item.Item.TheVariants.{NodeOf, BodyOf}
use Rattle.wtf_model.specs.Tree.{◌>>=◌}
use Rattle.wtf_model.specs.Items.{target_reads, source_reads, sources_reads}
use Rattle.wtf_model.proofs.ItemLaws.{is_among-head, is_among-tail}
use Rattle.wtf_values.specs.declared.key.Key.{Key}
use Rattle.wtf_meta.specs.Maps.{Map}
use Rattle.wtf_meta.specs.FileEdits.{file_of}
use Rattle.wtf_meta.specs.Feet.{EachRead}
use Rattle.wtf_meta.proofs.FeetFiles.{keys_read}
use Rattle.wtf_meta.proofs.FeetLaws.{EachRead-append, EachRead-left, EachRead-right}
use Rattle.wtf_index.specs.Checks.{source_of}
use Rattle.wtf_index.specs.Recorded.{source_keys, target_keys, keys_if}
use Rattle.wtf_index.proofs.Checked.{source-leads}
use Rattle.wtf_index.proofs.KeysRead.{target_read, source_read}
use Rattle.wtf_slicing.specs.Recorded.{whole_keys, file_keys, files_keys, sources_keys}
use Rattle.wtf_slicing.specs.Sources.{sources_of}
use Rattle.wtf_slicing.proofs.FileLists.{rest_found}

module _ (tx : ℕ) (b w : Map) where
  -- of a whole file at a path, among other items
  file_read : (p : List ℕ) (i : InodeId) (R : List Item) → source_of w p ≡ Ok i → EachRead tx w (source_reads p ++ R) (file_keys b i)
  file_read p i R e =
      keys_read tx w i p (source-leads w p i e) (source_reads p ++ R) (is_among-tail (NodeOf p) (BodyOf p ∷ R) (BodyOf p) (is_among-head (BodyOf p) R))
      (whole_keys (file_of i b))

  -- what stands at the paths of files
  sources_read : (ps : List (List ℕ)) → EachRead tx w (sources_reads ps) (sources_keys b ps)
  sources_read [] = tt
  sources_read (p ∷ ps) = (
    is_among-head (NodeOf p) (BodyOf p ∷ sources_reads ps),
    if_found (source_of b p) (EachRead-right tx w (source_reads p) (sources_reads ps) (sources_keys b ps) (sources_read ps)),
  )
    where
      if_found : (r : Result InodeId Word) → EachRead tx w (sources_reads (p ∷ ps)) (sources_keys b ps)
          → EachRead tx w (sources_reads (p ∷ ps)) (keys_if r (sources_keys b ps))
      if_found (Ok i) h = h
      if_found (Err word) h = tt

  -- and the whole files
  files_by : (p : List ℕ) (ps : List (List ℕ)) (all : List InodeId) (r : Result InodeId Word) → source_of w p ≡ r
      → (r >>= (λ i. sources_of w ps >>= (λ is. Ok (i ∷ is)))) ≡ Ok all
      → ((is : List InodeId) → sources_of w ps ≡ Ok is → EachRead tx w (sources_reads ps) (files_keys b is))
      → EachRead tx w (sources_reads (p ∷ ps)) (files_keys b all)
  files_by p ps all (Ok i) e h next =
      let rest = rest_found i (sources_of w ps) all h in
      subst (λ (l : List InodeId). EachRead tx w (sources_reads (p ∷ ps)) (files_keys b l)) rest.whole
      (EachRead-append tx w (sources_reads (p ∷ ps)) (file_keys b i) (files_keys b rest.inodes) (file_read p i (sources_reads ps) e)
      (EachRead-right tx w (source_reads p) (sources_reads ps) (files_keys b rest.inodes) (next rest.inodes rest.is)))
  files_by p ps all (Err word) e h next = absurd (cc)

  files_read : (ps : List (List ℕ)) (all : List InodeId) → sources_of w ps ≡ Ok all → EachRead tx w (sources_reads ps) (files_keys b all)
  files_read [] all e = let none : [] ≡ all = cc in subst (λ (l : List InodeId). EachRead tx w [] (files_keys b l)) none tt
  files_read (p ∷ ps) all e = files_by p ps all (source_of w p) refl e (λ is h. files_read ps is h)

  -- of a target, and then of sources
  module _ (q : List ℕ) (ps : List (List ℕ)) where
    abbrev gathered_reads : List Item
    gathered_reads = target_reads q ++ sources_reads ps

    pub gathered_target : EachRead tx w gathered_reads (target_keys b q)
    gathered_target = EachRead-left tx w (target_reads q) (sources_reads ps) (target_keys b q) (target_read tx b w q)

    gathered_on : (ks : List Key) → EachRead tx w (sources_reads ps) ks → EachRead tx w gathered_reads (target_keys b q ++ ks)
    gathered_on ks read =
        EachRead-append tx w gathered_reads (target_keys b q) ks gathered_target (EachRead-right tx w (target_reads q) (sources_reads ps) ks read)

    pub gathered_paths : EachRead tx w gathered_reads (target_keys b q ++ sources_keys b ps)
    gathered_paths = gathered_on (sources_keys b ps) (sources_read ps)

    pub gathered_all : (is : List InodeId) → sources_of w ps ≡ Ok is
        → EachRead tx w gathered_reads (target_keys b q ++ (sources_keys b ps ++ files_keys b is))
    gathered_all is e = gathered_on (sources_keys b ps ++ files_keys b is)
        (EachRead-append tx w (sources_reads ps) (sources_keys b ps) (files_keys b is) (sources_read ps) (files_read ps is e))

  -- of a source, of a target, and of the whole file
  pub copied_all : (p q : List ℕ) (i : InodeId) → source_of w p ≡ Ok i
      → EachRead tx w (source_reads p ++ target_reads q) (source_keys p ++ (target_keys b q ++ file_keys b i))
  copied_all p q i e =
      let R : List Item = source_reads p ++ target_reads q in
      EachRead-append tx w R (source_keys p) (target_keys b q ++ file_keys b i) (source_read tx b w p (BodyOf p ∷ target_reads q))
      (EachRead-append tx w R (target_keys b q) (file_keys b i)
      (EachRead-right tx w (source_reads p) (target_reads q) (target_keys b q) (target_read tx b w q)) (file_read p i (target_reads q) e))
