-- What opening a journal of an image and changes leaves at each moment, and what it gives.
use Rattle.std.proofs.Common.{◌≡◌, ◌⊎◌, ◌∙◌, ◌++◌, ℕ, Bool, List, true, false, None, Some, ⊎_elim, refl, sym, ap, subst}
use Rattle.wtf_dev.specs.Disk.{DiskKind, DiskLaws, DiskLeaves}
use Rattle.wtf_journal.specs.Held.{Held, HeldView, IsJournalOpened, IsTextOf, ends_in_changes, held_by, nothing_held, renewal, view_by}
use Rattle.wtf_journal.specs.Moments.{joins, weaker}
use Rattle.wtf_journal.specs.Records.{HasBodies, RestsAt}
use Rattle.wtf_journal.specs.Scan.{IsBadAt, KeepsMeaning, OpensTo, held_after}
use Rattle.wtf_journal.proofs.Coarse.{bad_seen, bad_back, keeps_seen, opens_seen}
use Rattle.wtf_journal.proofs.Gives.{behind_after, renewed, rows_after, view_rows}
use Rattle.wtf_journal.proofs.Scans.{same_meaning}

abbrev rows : HeldView → Held
rows v = v.rows

module _ (start : HeldView) (nothing : start ≡ nothing_held) where
  pub refused_seen : (c : List ℕ) (n : ℕ) → IsBadAt view_by start c n → IsBadAt held_by None c n
  refused_seen c n bad = bad_seen view_by held_by rows view_rows nothing_held c n (subst (λ (s : HeldView). IsBadAt view_by s c n) nothing bad)

  pub refused_back : (c : List ℕ) (n : ℕ) → IsBadAt held_by None c n → IsBadAt view_by start c n
  refused_back c n bad = subst (λ (s : HeldView). IsBadAt view_by s c n) (sym nothing) (bad_back view_by held_by rows view_rows nothing_held c n bad)

  module _ {D : Type 0} (kind : DiskKind D) (old mid : D) where
    -- the records are read
    pub read_moments : DiskLeaves kind old mid (KeepsMeaning view_by start (kind.view old))
        → DiskLeaves kind old mid (KeepsMeaning held_by None (kind.view old))
    read_moments span = weaker kind old mid (KeepsMeaning view_by start (kind.view old)) (KeepsMeaning held_by None (kind.view old)) span
        (λ c keeps. keeps_seen view_by held_by rows view_rows nothing_held (kind.view old) c
        (subst (λ (s : HeldView). KeepsMeaning view_by s (kind.view old) c) nothing keeps))

    -- and where changes came last, their image is added
    module _ (end : ℕ) (v : HeldView) (read : OpensTo view_by kind old mid end start v) (image : List ℕ) (text : IsTextOf v.rows image)
        (behind : Bool) (behind_is : behind ≡ v.behind) (given : List ℕ) (given_is : given ≡ image) (still : (kind.view mid).tells ≡ true) where
      opens : OpensTo view_by kind old mid end nothing_held v
      opens = subst (λ (s : HeldView). OpensTo view_by kind old mid end s v) nothing read

      seen : OpensTo held_by kind old mid end None v.rows
      seen = opens_seen view_by held_by rows view_rows kind old mid end nothing_held v opens

      bodies_seen : seen.bodies ≡ opens.bodies
      unfolding seen
      bodies_seen = refl

      abbrev after : List (List ℕ)
      after = seen.bodies ++ renewal v.behind image

      same : held_after held_by (Some None) after ≡ Some v.rows
      same = renewed seen.bodies v image
          (rows_after nothing_held v opens.bodies (λ on. absurd (cc (on))) opens.held_is) text seen.held_is

      added : (P : List (List ℕ) → Type 0) → P (renewal behind given) → P (renewal v.behind image)
      added P p = subst (λ (l : List ℕ). P (renewal v.behind l)) given_is (subst (λ (b : Bool). P (renewal b given)) behind_is p)

      pub all_moments : (new : D) → DiskLaws kind → (kind.view old).tells ≡ true → DiskLeaves kind old mid (KeepsMeaning view_by start (kind.view old))
          → ((bodies : List (List ℕ)) → (kind.view mid).tells ≡ true → RestsAt kind mid end bodies
          → DiskLeaves kind mid new (λ c. HasBodies bodies (c 0) ⊎ HasBodies (bodies ++ renewal behind given) (c 0)))
          → DiskLeaves kind old new (KeepsMeaning held_by None (kind.view old))
      all_moments new laws tells first second =
          joins kind old mid new (KeepsMeaning held_by None (kind.view old)) (λ c. HasBodies seen.bodies (c 0) ⊎ HasBodies after (c 0))
          (KeepsMeaning held_by None (kind.view old)) (read_moments first)
          (added (λ more. DiskLeaves kind mid new (λ c. HasBodies seen.bodies (c 0) ⊎ HasBodies (seen.bodies ++ more) (c 0)))
          (second seen.bodies still seen.rests))
          (λ c keeps. keeps)
          (λ c has. (
            ((kind.view old).file 0).seen,
            laws.reads old tells 0,
            same_meaning held_by None ((kind.view old).file 0).seen (c 0) v.rows
                (record { bodies = seen.bodies; has = seen.has; held_is = seen.held_is })
                (⊎_elim
                (λ before. record { bodies = seen.bodies; has = before; held_is = seen.held_is })
                (λ more. record { bodies = after; has = more; held_is = same })
                has),
          ))

      pub is_opened : (new : D) (end_now : ℕ)
          → ((bodies : List (List ℕ)) → (kind.view mid).tells ≡ true → RestsAt kind mid end bodies → RestsAt kind new end_now (bodies ++ renewal behind given))
          → IsJournalOpened kind old new end_now image
      is_opened new end_now rests =
          let last : v.behind ≡ ends_in_changes false seen.bodies =
          behind_after nothing_held v opens.bodies opens.held_is ∙ ap (λ (bs : List (List ℕ)). ends_in_changes false bs) (sym bodies_seen) in
          record {
            bodies = seen.bodies;
            has = seen.has;
            held = v.rows;
            held_is = seen.held_is;
            only = seen.only;
            text = text;
            rests = subst (λ (b : Bool). RestsAt kind new end_now (seen.bodies ++ renewal b image)) last
                (added (λ more. RestsAt kind new end_now (seen.bodies ++ more)) (rests seen.bodies still seen.rests));
            still = subst (λ (b : Bool). held_after held_by (Some None) (seen.bodies ++ renewal b image) ≡ Some v.rows) last same;
          }
