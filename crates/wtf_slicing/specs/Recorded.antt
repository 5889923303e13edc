-- The keys that each call records, in order and up to the refusal, by what the attempt saw and what is in hand.
use Rattle.std.specs.Prelude.{ℕ, ◌+◌, List, [], ◌∷◌, ◌++◌, Option, None, Some, Result, Ok, Err}
use Rattle.wtf_base.specs.declared.ids.InodeId.{InodeId}
use Rattle.wtf_overlay.specs.Origin.{pieces_len}
use Rattle.wtf_overlay.specs.declared.part.Piece.{Piece}
use Rattle.wtf_model.specs.declared.answer.Word.{Word}
use Rattle.wtf_values.specs.declared.key.Key.{Key}
use Rattle.wtf_values.specs.declared.key.Key.TheVariants.{Path}
use Rattle.wtf_meta.specs.declared.session.Handle.{Handle}
use Rattle.wtf_meta.specs.Maps.{Map}
use Rattle.wtf_meta.specs.Files.{FileView}
use Rattle.wtf_meta.specs.FileEdits.{file_of}
use Rattle.wtf_meta.specs.Appends.{FileKey, OfLast, keys_of, region_keys, count_from}
use Rattle.wtf_index.specs.Checks.{source_of, target_of}
use Rattle.wtf_index.specs.Recorded.{source_keys, target_keys, keys_if}
use Rattle.wtf_steps.specs.Recorded.{append_keys}
use Rattle.wtf_slicing.specs.Sources.{sources_of}

-- of a slice that is added at a file's end what an append of its bytes records; of one that was never set nothing
abbrev pub glue_keys : ℕ → Map → Option Handle → Option (List Piece) → List Key
glue_keys b w h None = []
glue_keys b w h (Some ps) = append_keys b w h (pieces_len ps)

-- of a whole file: the number of its last region, and each region up to it
abbrev pub whole_keys : FileView → List FileKey
whole_keys v = OfLast ∷ region_keys (count_from 0 (v.last + 1))

abbrev pub file_keys : Map → InodeId → List Key
file_keys w i = keys_of i (whole_keys (file_of i w))

-- of whole files, one after another
abbrev pub files_keys : Map → List InodeId → List Key
files_keys w [] = []
files_keys w (i ∷ is) = file_keys w i ++ files_keys w is

-- of files that a call names: what stands at their paths, up to the first at which none stands
abbrev pub sources_keys : Map → List (List ℕ) → List Key
sources_keys w [] = []
sources_keys w (p ∷ ps) = Path p ∷ keys_if (source_of w p) (sources_keys w ps)

-- and of the files, where all are there
abbrev pub found_keys : Map → Result (List InodeId) Word → List Key
found_keys w (Ok is) = files_keys w is
found_keys w (Err word) = []

-- of files that are put together: the target's, then the sources', and then the whole files'
abbrev pub concat_keys : Map → List ℕ → List (List ℕ) → List Key
concat_keys w q ps = target_keys w q ++ keys_if (target_of w q) (sources_keys w ps ++ found_keys w (sources_of w ps))

abbrev pub copied_keys : Map → Result InodeId Word → List Key
copied_keys w (Ok i) = file_keys w i
copied_keys w (Err word) = []

-- of a file that is copied: the source's, then the target's, and then the whole file's
abbrev pub copy_keys : Map → List ℕ → List ℕ → List Key
copy_keys w p q = source_keys p ++ keys_if (source_of w p) (target_keys w q ++ keys_if (target_of w q) (copied_keys w (source_of w p)))
