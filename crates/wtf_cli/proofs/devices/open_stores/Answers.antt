use Rattle.std.proofs.Common.{◌≡◌, ◌+◌, ◌++◌, [], ◌∷◌, ℕ, suc, List, map, ◌∙◌, ap, arith}
use Rattle.std.proofs.lemmas.List.{map-append}
use Rattle.wtf_real.specs.Folders.{FolderState}
use Rattle.wtf_cli.specs.Program.{folders_of}
use Rattle.wtf_cli.proofs.devices.open_stores.Goals as goal

pub loop-k-preserved : goal.loop-k-preserved
loop-k-preserved c =
    let dir = c.args.lock.now.dir in
    let k = c.loop-k.k in
    let next : suc k ≡ k + 1 = omega arith in
    ap (λ (stores : List FolderState). map (λ (s : FolderState). s.folder) stores) c.in-Ok.ensures.items
    ∙ map-append (λ (s : FolderState). s.folder) c.loop-k.stores.items (c.in_ok-store.store ∷ [])
    ∙ ap (λ (l : List (List ℕ)). l ++ c.in_ok-store.store.folder ∷ []) c.loop-k.invariant
    ∙ ap (λ (f : List ℕ). folders_of dir k ++ f ∷ []) c.in_ok-store.ensures.folder
    ∙ ap (λ (n : ℕ). folders_of dir n) next
