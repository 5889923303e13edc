-- Paths and files of a store are no more than the rows of a walk.
use Rattle.std.proofs.Common.{ℕ, suc, ◌+◌, ◌<◌, ◌≤◌, ◌^◌, List, [], ◌∷◌, Option, None, Some, length, refl, arith}
use Rattle.std.proofs.lemmas.List.{length_push}
use Rattle.std.specs.declared.ops.Bound.{Bound}
use Rattle.std.specs.declared.ops.Bound.TheVariants.{Unbounded}
use Rattle.wtf_kv.specs.Stores.{Store, map_at}
use Rattle.wtf_kv.specs.Walks.{HasRowsUpto}
use Rattle.wtf_values.specs.Keys.{key_cmp}
use Rattle.wtf_values.specs.declared.key.Key.{Key}
use Rattle.wtf_values.specs.declared.key.Key.TheVariants.{Path, Dir, Inode, Region, Links}
use Rattle.wtf_values.specs.declared.value.Value.{Value}
use Rattle.wtf_imagefmt.specs.declared.records.PathRecord.{PathRecord}
use Rattle.wtf_imagefmt.specs.Rows.{FileRow}
use Rattle.wtf_imagefmt.specs.Shapes.{AreRegionsAscending}
use Rattle.wtf_imagefmt.specs.Shown.{shown}
use Rattle.wtf_imagefmt.specs.Saving.{with_one, path_due, file_due}
use Rattle.wtf_imagefmt.proofs.Gathered.{PathsWalked, FilesWalked, first_inode, paths_begin, paths_go_on, paths_stop, all_paths, files_begin, files_go_on}
use Rattle.wtf_imagefmt.proofs.Gathered.{files_stop, all_files, regions_go_on}
use Rattle.wtf_changes.specs.Counted.{HasFewPaths, HasFewFiles, CanBeCounted}

-- one more at most
longer : {A : Type 0} (xs : List A) (o : Option A) (n : ℕ) → length xs + suc n < 2 ^ 32 → length (with_one xs o) + n < 2 ^ 32
longer xs None n few = omega (arith, few)
longer xs (Some x) n few = omega (arith, few, length_push xs x)

ended : {A : Type 0} (xs : List A) (n : ℕ) → length xs + n < 2 ^ 32 → length xs < 2 ^ 32
ended xs n few = omega (arith, few)

begun : (n most : ℕ) → n ≤ most → most < 2 ^ 32 → 0 + n < 2 ^ 32
begun n most upto few = omega (arith, upto, few)

module _ (kv : Store Key Value) where
  paths_over : (rs : List PathRecord) (left : List (Key × Value)) → PathsWalked kv rs left → length rs + length left < 2 ^ 32 → HasFewPaths (shown kv)
  paths_over rs [] walked few = record { rows = rs; are = all_paths kv rs [] refl walked; few = ended rs 0 few }
  paths_over rs ((Path p, v) ∷ left) walked few =
      paths_over (with_one rs (path_due p v)) left (paths_go_on kv rs p v ((Path p, v) ∷ left) left refl walked) (longer rs (path_due p v) (length left) few)
  paths_over rs ((Dir d, v) ∷ left) walked few = record {
    rows = rs;
    are = paths_stop kv rs (Dir d, v) ((Dir d, v) ∷ left) left refl refl walked;
    few = ended rs (suc (length left)) few;
  }
  paths_over rs ((Inode i, v) ∷ left) walked few = record {
    rows = rs;
    are = paths_stop kv rs (Inode i, v) ((Inode i, v) ∷ left) left refl refl walked;
    few = ended rs (suc (length left)) few;
  }
  paths_over rs ((Region i r, v) ∷ left) walked few = record {
    rows = rs;
    are = paths_stop kv rs (Region i r, v) ((Region i r, v) ∷ left) left refl refl walked;
    few = ended rs (suc (length left)) few;
  }
  paths_over rs ((Links i, v) ∷ left) walked few = record {
    rows = rs;
    are = paths_stop kv rs (Links i, v) ((Links i, v) ∷ left) left refl refl walked;
    few = ended rs (suc (length left)) few;
  }

  files_over : (fs : List FileRow) (left : List (Key × Value)) → AreRegionsAscending fs → FilesWalked kv fs left → length fs + length left < 2 ^ 32
      → HasFewFiles (shown kv)
  files_over fs [] regions walked few = record { rows = fs; are = all_files kv fs [] refl regions walked; few = ended fs 0 few }
  files_over fs ((Inode i, v) ∷ left) regions walked few =
      files_over (with_one fs (file_due (shown kv) i v)) left (regions_go_on (shown kv) fs i v regions)
      (files_go_on kv fs i v ((Inode i, v) ∷ left) left refl walked)
      (longer fs (file_due (shown kv) i v) (length left) few)
  files_over fs ((Path p, v) ∷ left) regions walked few = record {
    rows = fs;
    are = files_stop kv fs (Path p, v) ((Path p, v) ∷ left) left refl refl regions walked;
    few = ended fs (suc (length left)) few;
  }
  files_over fs ((Dir d, v) ∷ left) regions walked few = record {
    rows = fs;
    are = files_stop kv fs (Dir d, v) ((Dir d, v) ∷ left) left refl refl regions walked;
    few = ended fs (suc (length left)) few;
  }
  files_over fs ((Region i r, v) ∷ left) regions walked few = record {
    rows = fs;
    are = files_stop kv fs (Region i r, v) ((Region i r, v) ∷ left) left refl refl regions walked;
    few = ended fs (suc (length left)) few;
  }
  files_over fs ((Links i, v) ∷ left) regions walked few = record {
    rows = fs;
    are = files_stop kv fs (Links i, v) ((Links i, v) ∷ left) left refl refl regions walked;
    few = ended fs (suc (length left)) few;
  }

  -- a store that holds fewer than 2^32 keys can be counted
  pub few_keys : (most : ℕ) → ((start : Bound Key) → HasRowsUpto key_cmp start (map_at key_cmp kv kv.number) most) → most < 2 ^ 32 → CanBeCounted (shown kv)
  few_keys most has few =
      let paths = has Unbounded in
      let files = has first_inode in (
        paths_over [] paths.rows (paths_begin kv paths.rows paths.are) (begun (length paths.rows) most paths.few few),
        files_over [] files.rows tt (files_begin kv files.rows files.are) (begun (length files.rows) most files.few few),
      )
