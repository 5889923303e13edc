-- The changes that each call makes, by what the attempt saw: none where it is refused, and none for a call that shows.
use Rattle.std.specs.Prelude.{ℕ, nat_lt, if◌then◌else◌, List, [], Option, Some, None, Result, Ok, Err}
use Rattle.wtf_base.specs.declared.ids.InodeId.{InodeId}
use Rattle.wtf_path.specs.Parts.{parent_of}
use Rattle.wtf_model.specs.declared.answer.Word.{Word}
use Rattle.wtf_values.specs.declared.key.Key.TheVariants.{Links}
use Rattle.wtf_meta.specs.Maps.{Map, Edits}
use Rattle.wtf_meta.specs.NameEdits.{link_count, mkdir_edits, rmdir_edits, create_edits, unlink_edits, unlink_one_edits, rename_edits, link_edits}
use Rattle.wtf_index.specs.Checks.{target_of, source_of, bare_of}

-- changes by what was found; none where that is a refusal
abbrev pub edits_if : {A : Type 0} → Result A Word → (A → Edits) → Edits
edits_if (Ok a) made = made a
edits_if (Err word) made = []

-- changes by the directory that a path stands in; the root stands in none
abbrev pub edits_in : Option (List ℕ) → (List ℕ → Edits) → Edits
edits_in (Some dir) made = made dir
edits_in None made = []

-- a directory that is made
abbrev pub mkdir_changes : Map → List ℕ → Edits
mkdir_changes w p = edits_if (target_of w p) (λ dir. mkdir_edits dir p)

-- a file that is made, of an inode
abbrev pub create_changes : Map → List ℕ → InodeId → Edits
create_changes w p i = edits_if (target_of w p) (λ dir. create_edits dir p i)

-- a directory without names that goes
abbrev pub rmdir_changes : Map → List ℕ → Edits
rmdir_changes w p = edits_if (bare_of w p) (λ bare. edits_in (parent_of p) (λ dir. rmdir_edits dir p))

-- a path of a file that goes: with the last one the file does
abbrev pub unlink_by : ℕ → List ℕ → List ℕ → InodeId → Edits
unlink_by links dir p i = if nat_lt links 2 then unlink_edits dir p i else unlink_one_edits dir p i

abbrev pub unlink_changes : Map → List ℕ → Edits
unlink_changes w p = edits_if (source_of w p) (λ i. edits_in (parent_of p) (λ dir. unlink_by (link_count (w (Links i))) dir p i))

-- a file that moves
abbrev pub rename_changes : Map → List ℕ → List ℕ → Edits
rename_changes w p q = edits_if (source_of w p) (λ i. edits_if (target_of w q) (λ dir. edits_in (parent_of p) (λ up. rename_edits up p dir q i)))

-- a file that gets one more path
abbrev pub link_changes : Map → List ℕ → List ℕ → Edits
link_changes w p q = edits_if (source_of w p) (λ i. edits_if (target_of w q) (λ dir. link_edits dir q i))
