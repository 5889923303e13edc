-- The draft of an image and what comes of it are in order, and so are the rows that are written of them.
use Rattle.std.proofs.Common.{◌≡◌, ℕ, Bool, true, false, arith, T, List, [], ◌∷◌, map, Option, None, Some, refl, sym, ap, subst, ◌∙◌}
use Rattle.std.proofs.lemmas.Cmp.{nat_cmp_total}
use Rattle.std.specs.Ordering.{nat_cmp, is_lt}
use Rattle.std.specs.Cmp.Lexicographic.{slice_cmp, nat_list_cmp_total}
use Rattle.std.specs.FinMap.Entries.{is_sorted}
use Rattle.std.proofs.lemmas.Bool.Decides.{nat_tests}
use Rattle.wtf_overlay.specs.Reading.{◌>>=◌}
use Rattle.wtf_spillfmt.proofs.Codecs.{some_is}
use Rattle.wtf_values.specs.Keys.{inode_cmp}
use Rattle.wtf_imagefmt.specs.Rows.{ValueRow, FileRow, ImageRows}
use Rattle.wtf_imagefmt.specs.Shapes.{path_before, file_before, region_before, AreRegionsAscending, IsImage}
use Rattle.wtf_imagefmt.specs.Writing.{IsWide}
use Rattle.wtf_imagefmt.proofs.Gathered.{image_form}
use Rattle.wtf_changes.specs.Rows.{ChangeRows}
use Rattle.wtf_changes.specs.Drafts.{set_all, DraftRows, value_taken, regions_taken, file_taken, node_taken, taken, node_change, files_set, regions_set}
use Rattle.wtf_changes.specs.Drafts.{header_with, changed, path_written, region_written, file_written, written}
use Rattle.wtf_changes.proofs.Sets.{set_all-sorted, rows-rise}
use Rattle.wtf_changes.proofs.Files.{Entries, InOrder, AreFilesSorted, inode_total, set_file-all, files_set-sorted, regions_set-sorted}

pub record IsSortedDraft (d : DraftRows) : Type 0 where
  pub paths : T (is_sorted (slice_cmp nat_cmp) d.paths)
  pub files : AreFilesSorted d.files

taken-regions : (fs : List FileRow) (es : Entries) → InOrder es → InOrder (set_all inode_cmp es (map file_taken fs))
taken-regions [] es h = h
taken-regions (f ∷ fs) es h = taken-regions fs (set_all inode_cmp es (file_taken f ∷ []))
    (set_file-all es f.inode (record { last = f.last; regions = regions_taken f.regions }) h
    (set_all-sorted {X = ValueRow} nat_cmp_total [] (map value_taken f.regions) tt))

pub taken-sorted : (x : ImageRows) → IsSortedDraft (taken x)
taken-sorted x = record {
  paths = set_all-sorted nat_list_cmp_total [] (map node_taken x.paths) tt;
  files = record { keys = set_all-sorted inode_total [] (map file_taken x.files) tt; regions = taken-regions x.files [] tt };
}

pub changed-sorted : (d after : DraftRows) (ch : ChangeRows) → IsSortedDraft d → changed d ch ≡ Some after → IsSortedDraft after
changed-sorted d after ch h e = by (regions_set (files_set d.files ch.files) ch.regions) refl
  where
    made : Entries → DraftRows
    made files = record { header = header_with d.header ch; paths = set_all (slice_cmp nat_cmp) d.paths (map node_change ch.paths); files = files }

    by : (o : Option Entries) → regions_set (files_set d.files ch.files) ch.regions ≡ o → IsSortedDraft after
    by None is = (let bad : None ≡ Some after = sym (ap (λ o. o >>= λ files. Some (made files)) is) ∙ e in absurd (cc))
    by (Some files) is =
        let it : made files ≡ after = some_is (made files) after (sym (ap (λ o. o >>= λ files. Some (made files)) is) ∙ e) in
        subst IsSortedDraft it (record {
          paths = set_all-sorted nat_list_cmp_total d.paths (map node_change ch.paths) h.paths;
          files = regions_set-sorted ch.regions (files_set d.files ch.files) files (files_set-sorted d.files ch.files h.files) is;
        })

true_of : (b : Bool) → T b → b ≡ true
true_of true h = refl
true_of false h = absurd h

region_lt : (a b : ℕ × ValueRow) → T (is_lt (nat_cmp a.0 b.0)) → region_before (region_written a) (region_written b) ≡ true
region_lt a b h = let lt : is_lt (nat_cmp a.0 b.0) ≡ true = true_of _ h in grind (arith, nat_tests)

rise-each : (es : Entries) → InOrder es → AreRegionsAscending (map file_written es)
rise-each [] h = tt
rise-each (e ∷ es) h = (rows-rise nat_cmp region_written region_before region_lt e.1.regions h.0, rise-each es h.1)

-- the rows of a draft in order have the shape of an image, where their numbers have their widths
pub written-form : (d : DraftRows) → IsSortedDraft d → IsWide (written d) → IsImage (written d)
written-form d h wide =
    image_form (written d) wide
    (rows-rise (slice_cmp nat_cmp) path_written path_before (λ a b lt. true_of _ lt) d.paths h.paths)
    (rows-rise inode_cmp file_written file_before (λ a b lt. true_of _ lt) d.files h.files.keys)
    (rise-each d.files h.files.regions)
