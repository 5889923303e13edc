-- Entries that `==` finds equal are the same.
use Rattle.std.proofs.Common.{◌≡◌, true, ◌==◌, ◌&&◌, refl, ap}
use Rattle.std.proofs.lemmas.Bool.{eqb-true}
use Rattle.std.specs.Cmp.{first_so, second_so}
use Rattle.wtf_base.specs.declared.slice.Slice.{Slice}
use Rattle.wtf_base.specs.declared.slice.Extent.{Extent}
use Rattle.wtf_base.specs.declared.slice.Extents.{Extents}
use Rattle.wtf_base.specs.declared.slice.Extents.TheVariants.{One, Two, Three}
use Rattle.wtf_base.specs.contracts.slice.ExtentPartialEq.TheImpl as extent
use Rattle.wtf_base.specs.contracts.slice.ExtentsPartialEq.TheImpl as extents
use Rattle.wtf_base.specs.contracts.slice.SlicePartialEq.TheImpl as slice
use Rattle.wtf_overlay.specs.declared.part.Part.{Part}
use Rattle.wtf_overlay.specs.declared.part.Part.TheVariants.{Zero, Held}
use Rattle.wtf_overlay.specs.declared.part.Entry.{Entry}
use Rattle.wtf_overlay.specs.contracts.part.PartPartialEq.TheImpl as part
use Rattle.wtf_overlay.specs.contracts.part.EntryPartialEq.TheImpl as entry
use Rattle.wtf_overlay.proofs.Clipping.{entry_eq, slice_eq}

extent_exact : (a b : Extent) → extent.ghosts.eq a b ≡ true → a ≡ b
extent_exact a b h =
    let rest = second_so (a.server.0 == b.server.0) ((a.file == b.file) && (a.at == b.at)) h in
    let server : a.server.0 ≡ b.server.0 = eqb-true a.server.0 b.server.0 (first_so (a.server.0 == b.server.0) ((a.file == b.file) && (a.at == b.at)) h) in
    let file : a.file ≡ b.file = eqb-true a.file b.file (first_so (a.file == b.file) (a.at == b.at) rest) in
    let at : a.at ≡ b.at = eqb-true a.at b.at (second_so (a.file == b.file) (a.at == b.at) rest) in
    λ i. record { server = record { 0 = server i }; file = file i; at = at i }

extents_exact : (x y : Extents) → extents.ghosts.eq x y ≡ true → x ≡ y
extents_exact (One a) (One d) h = ap One (extent_exact a d h)
extents_exact (Two a b) (Two d e) h =
    let eq = extent.ghosts.eq in
    let first = extent_exact a d (first_so (eq a d) (eq b e) h) in
    let second = extent_exact b e (second_so (eq a d) (eq b e) h) in
    λ i. Two (first i) (second i)
extents_exact (Three a b c) (Three d e f) h =
    let eq = extent.ghosts.eq in
    let rest = second_so (eq a d) (eq b e && eq c f) h in
    let first = extent_exact a d (first_so (eq a d) (eq b e && eq c f) h) in
    let second = extent_exact b e (first_so (eq b e) (eq c f) rest) in
    let third = extent_exact c f (second_so (eq b e) (eq c f) rest) in
    λ i. Three (first i) (second i) (third i)
extents_exact (One a) (Two d e) h = absurd (cc)
extents_exact (One a) (Three d e f) h = absurd (cc)
extents_exact (Two a b) (One d) h = absurd (cc)
extents_exact (Two a b) (Three d e f) h = absurd (cc)
extents_exact (Three a b c) (One d) h = absurd (cc)
extents_exact (Three a b c) (Two d e) h = absurd (cc)

pub slice_exact : (s t : Slice) → slice.ghosts.eq s t ≡ true → s ≡ t
slice_exact s t h =
    let same = extents.ghosts.eq s.extents t.extents in
    slice_eq s t
    (eqb-true s.len t.len (first_so (s.len == t.len) same h))
    (extents_exact s.extents t.extents (second_so (s.len == t.len) same h))

part_exact : (p q : Part) → part.ghosts.eq p q ≡ true → p ≡ q
part_exact Zero Zero h = refl
part_exact Zero (Held t) h = absurd (cc)
part_exact (Held s) Zero h = absurd (cc)
part_exact (Held s) (Held t) h = ap Held (slice_exact s t h)

pub entry_exact : (x y : Entry) → entry.ghosts.eq x y ≡ true → x ≡ y
entry_exact x y h =
    let same = part.ghosts.eq x.part y.part in
    let rest = second_so (x.off == y.off) ((x.len == y.len) && same) h in
    entry_eq x y
    (eqb-true x.off y.off (first_so (x.off == y.off) ((x.len == y.len) && same) h))
    (eqb-true x.len y.len (first_so (x.len == y.len) same rest))
    (part_exact x.part y.part (second_so (x.len == y.len) same rest))
