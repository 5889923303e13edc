use Rattle.std.proofs.Common.{◌≡◌, ◌+◌, ◌++◌, [], ◌∷◌, ℕ, suc, List, ◌∙◌, ap, arith}
use Rattle.std.proofs.lemmas.List.{map-append}
use Rattle.wtf_journal.specs.Follows.{SyncedState}
use Rattle.wtf_real.specs.Disks.{DiskFolder}
use Rattle.wtf_cli.specs.Program.{disk_folders, folders_of}
use Rattle.wtf_cli.proofs.devices.open_disks.Goals as goal

pub loop-k-preserved : goal.loop-k-preserved
loop-k-preserved c =
    let dir = c.args.lock.now.dir in
    let k = c.loop-k.k in
    let next : suc k ≡ k + 1 = omega arith in
    ap disk_folders c.in-Ok.ensures.items
    ∙ map-append (λ (s : SyncedState DiskFolder). s.disk.folder) c.loop-k.stores.items (c.in_ok-store.store ∷ [])
    ∙ ap (λ (l : List (List ℕ)). l ++ c.in_ok-store.store.disk.folder ∷ []) c.loop-k.invariant
    ∙ ap (λ (f : List ℕ). folders_of dir k ++ f ∷ []) c.in_ok-store.ensures
    ∙ ap (λ (n : ℕ). folders_of dir n) next
