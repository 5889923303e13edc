-- What opening a journal leaves at each moment.
use Rattle.std.proofs.Common.{◌≡◌, ◌≤◌, ℕ, true, List, [], ◌∷◌, length, inl, inr, refl, subst, arith}
use Rattle.std.specs.Prelude.{Result}
use Rattle.wtf_dev.specs.Disk.{DiskFileView, DiskKind, DiskLaws, DiskLeaves, DiskReads, DiskSyncs, IsFileImage, IsSettled, MayLeave}
use Rattle.wtf_journal.specs.Moments.{joins, weaker, in_call}
use Rattle.wtf_journal.specs.Through.{TornFrom, WritesWithin}
use Rattle.wtf_journal.specs.Scan.{BodyMakes, KeepsJournal, KeepsMeaning, ReadsTo, OpensTo}
use Rattle.wtf_journal.proofs.Images.{SyncEnds, settled_image, sync_narrows}
use Rattle.wtf_journal.proofs.Scans.{none_short, means_one, keeps_meaning}

module _ {D : Type 0} (kind : DiskKind D) where
  module _ (laws : DiskLaws kind) (a b : D) (tells : (kind.view a).tells ≡ true) where
    -- the sync
    pub sync_keeps : {T E : Type 0} (r : Result T E) → DiskSyncs kind 0 a b → SyncEnds r ((kind.view a).file 0) ((kind.view b).file 0)
        → DiskLeaves kind a b (KeepsJournal (kind.view a))
    sync_keeps r s ends = in_call kind a b (KeepsJournal (kind.view a)) (s.time tells) (λ x left. (x 0, sync_narrows r _ _ (x 0) ends (left 0), inl refl))

    -- and the gate of a journal of at most one byte
    pub gate_keeps : (c : D) → DiskLeaves kind a b (KeepsJournal (kind.view a)) → (kind.view b).tells ≡ true
        → IsSettled ((kind.view a).file 0).seen ((kind.view b).file 0)
        → length ((kind.view a).file 0).seen ≤ 1 → WritesWithin kind 0 0 1 b c → DiskLeaves kind a c (KeepsJournal (kind.view a))
    gate_keeps c span still settled short w =
        joins kind a b c (KeepsJournal (kind.view a)) (TornFrom (kind.view b) 0 0 1) (KeepsJournal (kind.view a)) span (w.moments still)
        (λ x keeps. keeps)
        (λ x torn. (((kind.view a).file 0).seen, laws.reads a tells 0, inr (short, omega (arith, torn.here.most, torn.pends.most, settled.most, short))))

    -- and the read of a longer one
    pub read_keeps : {M : Type 0} (makes : BodyMakes M) (start : M) (c : D) → DiskLeaves kind a b (KeepsJournal (kind.view a)) → (kind.view b).tells ≡ true
        → IsSettled ((kind.view a).file 0).seen ((kind.view b).file 0) → DiskReads kind b c → DiskLeaves kind a c (KeepsMeaning makes start (kind.view a))
    read_keeps makes start c span still settled r =
        let seen = ((kind.view a).file 0).seen in
        weaker kind a c (KeepsJournal (kind.view a)) (KeepsMeaning makes start (kind.view a))
        (joins kind a b c (KeepsJournal (kind.view a)) (MayLeave (kind.view c)) (KeepsJournal (kind.view a)) span
        (in_call kind b c (MayLeave (kind.view c)) (r.time still) (λ x left. left))
        (λ x keeps. keeps)
        (λ x left. (
          seen,
          laws.reads a tells 0,
          inl
              (settled_image seen (x 0) ((kind.view b).file 0) settled (subst (λ (v : DiskFileView). IsFileImage v (x 0)) (r.files still 0) (left 0))),
        )))
        (λ x keeps. keeps_meaning makes start (kind.view a) x keeps)

module _ {M D : Type 0} (makes : BodyMakes M) (kind : DiskKind D) (old new : D) (start : M) where
  pub opens_short : length ((kind.view old).file 0).seen ≤ 1 → IsSettled (0 ∷ []) ((kind.view new).file 0) → OpensTo makes kind old new 0 start start
  opens_short short settled = record {
    bodies = [];
    has = inr (refl, short);
    rests = record { gate = 0; rest = []; closed = omega arith; settled = settled; end_is = refl; short = none_short };
    held_is = refl;
    only = λ other gives. means_one makes start ((kind.view old).file 0).seen other start gives
        (record { bodies = []; has = inr (refl, short); held_is = refl });
  }

  pub opens_long : (end : ℕ) (held : M) → IsSettled ((kind.view old).file 0).seen ((kind.view new).file 0)
      → ReadsTo makes start ((kind.view old).file 0).seen end held
      → OpensTo makes kind old new end start held
  opens_long end held settled r = record {
    bodies = r.bodies;
    has = inl r.ends;
    rests = record {
      gate = r.ends.gate;
      rest = r.ends.rest;
      closed = r.ends.closed;
      settled = subst (λ (l : List ℕ). IsSettled l ((kind.view new).file 0)) r.ends.split settled;
      end_is = r.end_is;
      short = r.ends.short;
    };
    held_is = r.held_is;
    only = λ other gives. means_one makes start ((kind.view old).file 0).seen other held gives
        (record { bodies = r.bodies; has = inl r.ends; held_is = r.held_is });
  }
