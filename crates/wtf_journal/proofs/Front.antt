-- What stands in front of what is written.
use Rattle.std.proofs.Common.{◌≡◌, ◌<◌, ◌≤◌, ◌∙◌, ℕ, true, length, take, get_or, inl, sym, arith, length-take}
use Rattle.std.proofs.lemmas.List.{same_lists, get_or-take}
use Rattle.std.proofs.lemmas.Option.{slice_get-get_or, get_or_from_slice_get}
use Rattle.wtf_dev.specs.Disk.{DiskFileView, DiskKind, DiskLaws, Pends}
use Rattle.wtf_journal.specs.Through.{WritesWithin}

front_of : (at from n : ℕ) (u v : DiskFileView) → at ≤ from → at ≤ length u.seen → at ≤ length v.seen → Pends from n u v → take at v.seen ≡ take at u.seen
front_of at from n u v le before after pends =
    same_lists (take at v.seen) (take at u.seen) (omega (arith, length-take at v.seen, length-take at u.seen, before, after)) (λ k d h.
    let here : k < at = omega (arith, h, length-take at v.seen) in
    get_or-take at v.seen k d here
    ∙ get_or_from_slice_get v.seen k (get_or u.seen k d) d
    (pends.seen k (get_or u.seen k d) (inl (omega (arith, here, le))) (slice_get-get_or u.seen k d (omega (arith, here, before))))
    ∙ sym (get_or-take at u.seen k d here))

-- a read gives the same in front of the range
pub front_stays : {D : Type 0} (kind : DiskKind D) → DiskLaws kind → (at from n : ℕ) (a b : D) → at ≤ from → at ≤ (kind.view a).size 0
    → WritesWithin kind 0 from n a b
    → (kind.view a).tells ≡ true → take at ((kind.view b).file 0).seen ≡ take at ((kind.view a).file 0).seen
front_stays kind laws at from n a b le inside w tells =
    front_of at from n ((kind.view a).file 0) ((kind.view b).file 0) le
    (omega (arith, inside, laws.lengths a 0 tells))
    (omega (arith, inside, w.goes_on.size 0, laws.lengths b 0 (w.goes_on.tells ∙ tells)))
    (w.pending tells)
