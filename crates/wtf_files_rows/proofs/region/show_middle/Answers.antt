use Rattle.std.proofs.Common.{[], ◌∷◌, subst, sym}
use Rattle.std.proofs.lemmas.List.Elements.{All-nil, All-cons}
use Rattle.wtf_dev.specs.Memory.{mem_store}
use Rattle.wtf_overlay.specs.declared.part.Part.{Part}
use Rattle.wtf_overlay.specs.declared.part.Piece.{Piece}
use Rattle.wtf_region.specs.Devs.{stores, is_down_in}
use Rattle.wtf_region.specs.Showing.{IsReadablePart}
use Rattle.wtf_region.proofs.InsideLaws.{slice_readable, slice_known}
use Rattle.wtf_region.proofs.ListReads.{some_bytes}
use Rattle.wtf_files_rows.proofs.region.show_middle.Goals as goal

pub show-requires-clause-readable : goal.show-requires-clause-readable
show-requires-clause-readable c =
    let dev = c.stored.new.dev in
    let s = c.in_ok-slice.slice in
    let made = c.in_ok-slice.ensures in
    let Can : Part → Type 0 = IsReadablePart mem_store dev in
    let P : Piece → Type 0 = λ p. Can p.part in
    All-cons P c.of-zeros.result (c.of-digits.result ∷ []) (subst Can (sym c.of-zeros.ensures.part) tt)
    (All-cons P c.of-digits.result [] (subst Can (sym c.of-digits.ensures.part) (
      slice_readable mem_store (is_down_in dev) (stores dev) s made.inside,
      slice_known mem_store (stores dev) dev.settings s made.dev.sound.shelf (some_bytes s) made.bytes,
    )) (All-nil P))
