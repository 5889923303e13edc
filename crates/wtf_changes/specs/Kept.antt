-- How a draft is kept: maps, whose entries stand in the order of their keys.
use Rattle.std.specs.Prelude.{List, map}
use Rattle.wtf_imagefmt.specs.Rows.{value_row}
use Rattle.wtf_changes.specs.declared.draft.FileDraft.{FileDraft}
use Rattle.wtf_changes.specs.Drafts.{FileEntry}

-- entries with each value as f tells
abbrev pub seen : {K X Y : Type 0} → (X → Y) → List (K × X) → List (K × Y)
seen f es = map (λ e. (e.0, f e.1)) es

abbrev pub file_entry : FileDraft → FileEntry
file_entry f = record { last = f.last; regions = seen value_row f.regions.entries }
