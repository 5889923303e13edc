-- How spans of moments of a disk join.
use Rattle.std.proofs.Common.{inl, inr, ⊎_elim, arith, ◌∙◌}
use Rattle.wtf_dev.specs.Disk.{DiskContent, DiskKind, MayLeave, DiskLeaves, Elapses, DiskGoesOn}

module _ {D : Type 0} (kind : DiskKind D) where
  -- before the first call
  pub stays : (d : D) (P : DiskContent → Type 0) → DiskLeaves kind d d P
  stays d P = record { later = omega arith; since = λ t c le left. inl left }

  -- two spans join
  pub joins : (a b d : D) (P Q R : DiskContent → Type 0) → DiskLeaves kind a b P → DiskLeaves kind b d Q
      → ((c : DiskContent) → P c → R c) → ((c : DiskContent) → Q c → R c) → DiskLeaves kind a d R
  joins a b d P Q R first second p q = record {
    later = omega (arith, first.later, second.later);
    since = λ t c le left. ⊎_elim
        (λ before. ⊎_elim (λ then. inl then) (λ here. inr (p c here)) (first.since t c le before))
        (λ here. inr (q c here))
        (second.since t c (omega (arith, le, first.later)) left);
  }

  -- a span of which more is known
  pub weaker : (a b : D) (P Q : DiskContent → Type 0) → DiskLeaves kind a b P → ((c : DiskContent) → P c → Q c) → DiskLeaves kind a b Q
  weaker a b P Q span p = record {
    later = span.later;
    since = λ t c le left. ⊎_elim (λ before. inl before) (λ here. inr (p c here)) (span.since t c le left);
  }

  -- one call
  pub in_call : (a b : D) (P : DiskContent → Type 0) → Elapses kind a b → ((c : DiskContent) → MayLeave (kind.view b) c → P c) → DiskLeaves kind a b P
  in_call a b P time here = weaker a b (MayLeave (kind.view b)) P time.leaves here

  pub goes_on_on : (a b d : D) → DiskGoesOn kind a b → DiskGoesOn kind b d → DiskGoesOn kind a d
  goes_on_on a b d p q = record {
    faults = omega (arith, p.faults, q.faults);
    size = λ f. let first = p.size f in let second = q.size f in omega (arith, first, second);
    tells = q.tells ∙ p.tells;
  }
