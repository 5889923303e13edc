-- The keys that an append records.
use Rattle.std.proofs.Common.{◌≡◌, ℕ, List, ◌++◌, Option, Some, sym, subst}
use Rattle.wtf_base.specs.declared.ids.InodeId.{InodeId}
use Rattle.wtf_occ.specs.Attempts.{Attempted}
use Rattle.wtf_overlay.specs.Origin.{pieces_len}
use Rattle.wtf_overlay.specs.declared.part.Piece.{Piece}
use Rattle.wtf_steps.specs.Recorded.{append_keys as due_keys}
use Rattle.wtf_values.specs.declared.key.Key.{Key}
use Rattle.wtf_values.specs.declared.value.Delta.{Delta}
use Rattle.wtf_meta.specs.declared.session.Handle.{Handle}
use Rattle.wtf_meta.specs.Maps.{Map}
use Rattle.wtf_meta.specs.Files.{FileView}
use Rattle.wtf_meta.specs.FileEdits.{file_of}
use Rattle.wtf_meta.specs.Appends.{keys_of, append_keys}
use Rattle.wtf_region.specs.declared.added.Added.{Added}
use Rattle.wtf_region.specs.declared.added.Added.TheVariants as added
use Rattle.wtf_region.specs.Edited.{IsAdded}

-- the keys that an append of pieces recorded
pub added_keys : (z : ℕ) (i : InodeId) (v : FileView) (ps : List Piece) (old new : Attempted Key Delta) (r : Added) → IsAdded z i v ps old new r
    → new.reads ≡ old.reads ++ keys_of i (append_keys z v (pieces_len ps))
added_keys z i v ps old new added.Done is = is.grows.reads
added_keys z i v ps old new added.TooBig is = is.recorded.reads

-- the keys that are due, by the handle
pub keys_due : (z : ℕ) (w : Map) (o : Option Handle) (h : Handle) (i : InodeId) (n m : ℕ) (reads old : List Key) → o ≡ Some h → i ≡ h.inode → n ≡ m
    → reads ≡ old ++ keys_of i (append_keys z (file_of i w) n) → reads ≡ old ++ due_keys z w o m
keys_due z w o h i n m reads old is inode len e =
    subst (λ (k : Option Handle). reads ≡ old ++ due_keys z w k m) (sym is)
    (subst (λ (k : ℕ). reads ≡ old ++ keys_of h.inode (append_keys z (file_of h.inode w) k)) len
    (subst (λ (j : InodeId). reads ≡ old ++ keys_of j (append_keys z (file_of j w) n)) inode e))
