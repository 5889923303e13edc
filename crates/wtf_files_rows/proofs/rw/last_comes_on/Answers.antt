use Rattle.std.proofs.Common.{Bool, List, refl, sym, subst}
use Rattle.wtf_dev.specs.Memory.{mem_store}
use Rattle.wtf_overlay.specs.Origin.{Place}
use Rattle.wtf_meta.specs.Bytes.{any_slice}
use Rattle.wtf_meta.specs.Sessions.{SessionView, SessionBytes}
use Rattle.wtf_meta.proofs.Nothing.{nothing_kept}
use Rattle.wtf_region.specs.Inside.{is_inside}
use Rattle.wtf_files_rows.proofs.rw.last_comes_on.Goals as goal

-- no byte stands in the first map and in the first session
pub last_comes_over-requires-clause-inside : goal.last_comes_over-requires-clause-inside
last_comes_over-requires-clause-inside c =
    let P : List Place → Bool = is_inside mem_store c.in_ok-shelf.field-0.shelf c.in_ok-shelf.field-0.settings in
    (c.requires.bare P any_slice refl, subst (λ (v : SessionView). SessionBytes P v) (sym c.requires.session) (nothing_kept P))
