-- Files that were read as pieces, one after another, and lists that were not read.
use Rattle.std.proofs.Common.{◌≡◌, ℕ, List, [], ◌∷◌, ◌++◌, append_assoc, append-nil, refl, sym, ap, ◌∙◌, subst}
use Rattle.std.proofs.lemmas.List.{map-append}
use Rattle.std.specs.List.{All}
use Rattle.std.proofs.lemmas.List.Elements.{All-nil, All-weaker, All-append}
use Rattle.wtf_base.specs.declared.ids.InodeId.{InodeId}
use Rattle.wtf_base.specs.declared.settings.Settings.{Settings}
use Rattle.wtf_base.specs.declared.slice.Slice.{Slice}
use Rattle.wtf_dev.specs.Store.{StoreKind, KindLaws}
use Rattle.wtf_overlay.specs.declared.part.Piece.{Piece}
use Rattle.wtf_meta.specs.Lists.{ListFact}
use Rattle.wtf_meta.specs.Maps.{Map}
use Rattle.wtf_meta.specs.Bytes.{EntryBytes, MapBytes, any_slice}
use Rattle.wtf_meta.specs.Files.{file_len}
use Rattle.wtf_meta.specs.FileEdits.{file_of}
use Rattle.wtf_meta.specs.Reads.{ReadsFile}
use Rattle.wtf_meta.proofs.Weaker.{map_stays}
use Rattle.wtf_region.specs.declared.dev.Dev.{Dev}
use Rattle.wtf_region.specs.Bases.{slices_of, bases_in}
use Rattle.wtf_region.specs.Devs.{IsSoundDev, GoesOn, inside_of}
use Rattle.wtf_region.specs.Reads.{IsFileRead}
use Rattle.wtf_region.proofs.ListReads.{entries_later, facts_on, places_later}
use Rattle.wtf_region.proofs.Recalls.{recalls_same, recalls_on}
use Rattle.wtf_slicing.specs.Sources.{files_bases, AreFilesRead}
use Rattle.wtf_slicing.proofs.FileLists.{ReadsFiles-none, ReadsFiles-more}

-- the slices of bases of files, and of one more
bases_more : (b : ℕ) (w : Map) (is : List InodeId) (i : InodeId) → files_bases b w (is ++ i ∷ []) ≡ files_bases b w is ++ bases_in b (file_of i w) 0
    (file_len b (file_of i w))
bases_more b w [] i = append-nil (bases_in b (file_of i w) 0 (file_len b (file_of i w)))
bases_more b w (j ∷ is) i =
    let head : List Slice = bases_in b (file_of j w) 0 (file_len b (file_of j w)) in
    ap (λ (l : List Slice). head ++ l) (bases_more b w is i) ∙ sym (append_assoc head (files_bases b w is)
    (bases_in b (file_of i w) 0 (file_len b (file_of i w))))

wants_more : (b : ℕ) (w : Map) (is : List InodeId) (i : InodeId) (fs gs : List ListFact) → slices_of fs ≡ files_bases b w is → slices_of gs ≡ bases_in b
    (file_of i w) 0 (file_len b (file_of i w))
    → slices_of (fs ++ gs) ≡ files_bases b w (is ++ i ∷ [])
wants_more b w is i fs gs first next =
    map-append (λ (f : ListFact). f.slice) fs gs ∙ ap (λ (l : List Slice). l ++ slices_of gs) first ∙ ap (λ (l : List Slice). files_bases b w is ++ l) next
    ∙ sym (bases_more b w is i)

module _ {S : Type 0} {kind : StoreKind S} (laws : KindLaws kind) where
  pub map_later : {old new : Dev S} → IsSoundDev kind old → GoesOn kind old new [] → (w : Map) → MapBytes (inside_of kind old) any_slice w
      → MapBytes (inside_of kind new) any_slice w
  map_later {old = old} {new = new} sound g w h =
      map_stays (inside_of kind old) (inside_of kind new) (places_later laws sound g) any_slice any_slice (λ s is. is) w h

  -- no file
  pub files_none : (dev : Dev S) (w : Map) (ps : List Piece) → ps ≡ [] → AreFilesRead kind dev dev w [] ps
  files_none dev w ps none = record {
    facts = [];
    wants = refl;
    recalls = recalls_same kind dev dev refl;
    reads = ReadsFiles-none dev.settings.region w ps none;
    inside = All-nil (λ (f : ListFact). All (EntryBytes (inside_of kind dev)) f.list);
    told = λ ranges was told apart. tt;
  }

  -- one more
  pub files_on : {old mid new : Dev S} → GoesOn kind old mid [] → GoesOn kind mid new [] → (w : Map) → (is : List InodeId) (i : InodeId) (ps qs : List Piece)
      → AreFilesRead kind old mid w is ps → IsFileRead kind mid new (file_of i w) 0 (file_len old.settings.region (file_of i w)) qs
      → AreFilesRead kind old new w (is ++ i ∷ []) (ps ++ qs)
  files_on {old = old} {mid = mid} {new = new} g h w is i ps qs first next =
      let Lies : ListFact → Type 0 = λ f. All (EntryBytes (inside_of kind new)) f.list in
      let one : ReadsFile old.settings.region (file_of i w) 0 (file_len old.settings.region (file_of i w)) next.facts qs =
      subst (λ (st : Settings). ReadsFile st.region (file_of i w) 0 (file_len old.settings.region (file_of i w)) next.facts qs) g.settings next.reads in
      record {
        facts = first.facts ++ next.facts;
        wants = wants_more old.settings.region w is i first.facts next.facts first.wants
            (next.wants ∙ ap (λ (st : Settings). bases_in st.region (file_of i w) 0 (file_len old.settings.region (file_of i w))) g.settings);
        recalls = recalls_on laws g h first.facts next.facts first.recalls next.recalls;
        reads = ReadsFiles-more old.settings.region w is i first.facts next.facts ps qs first.reads one;
        inside = All-append Lies first.facts next.facts
            (All-weaker (λ (f : ListFact). All (EntryBytes (inside_of kind mid)) f.list) Lies
            (λ f names. entries_later laws g.sound h f.list names) first.facts first.inside) next.inside;
        told = facts_on laws g h first.facts next.facts first.told next.told;
      }
