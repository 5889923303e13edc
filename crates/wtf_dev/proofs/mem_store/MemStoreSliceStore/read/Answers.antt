use Rattle.std.proofs.Common.{◌+◌, ◌∙◌, ℕ, List, [], length, get_or, ap}
use Rattle.std.specs.List.{slice_get}
use Rattle.wtf_dev.specs.MemoryLaws.{told_parts}
use Rattle.wtf_dev.proofs.Told.{read_told}
use Rattle.wtf_dev.proofs.mem_store.MemStoreSliceStore.read.Goals as goal

pub returns-clause-bytes : goal.returns-clause-bytes
returns-clause-bytes c = λ k b h told.
    read_told _ c.bytes.result.now c.args.at (length c.args.out.now) k b c.copy_from_slice.ensures.after c.copy_from_slice.ensures.len h
    (ap (λ (l : List ℕ). slice_get l (c.args.at + k)) (c.bytes.ensures.value ∙ ap (λ m. get_or m.files c.args.file []) c.self.view_is) ∙ (told_parts c.args.self.now c.args.file (c.args.at + k) b told).1)
