-- Writes within a range, one by one.
use Rattle.std.proofs.Common.{◌≡◌, ◌<◌, ◌≤◌, ◌+◌, ◌-◌, ◌∙◌, ◌++◌, ℕ, List, true, refl, subst, ap, inl, inr, arith, length, get_or, take, drop, replicate}
use Rattle.std.proofs.Common.{length-take}
use Rattle.std.proofs.lemmas.List.{get_or-take, get_or-replicate, length-replicate}
use Rattle.std.specs.List.{slice_get}
use Rattle.std.proofs.lemmas.Bool.{cases_lt}
use Rattle.wtf_dev.proofs.Told.{get_more, get_after}
use Rattle.std.specs.Prelude.{Some, Result, Ok, Err, OnOk, OnErr}
use Rattle.wtf_dev.specs.Disk.{DiskContent, DiskFileView, DiskKind, DiskLaws, DiskWrites, DiskSyncs, IsFileImage, IsSettled, Remains, overwritten}
use Rattle.wtf_journal.specs.Moments.{stays, joins, weaker, in_call, goes_on_on}
use Rattle.wtf_journal.specs.Through.{zero_piece, TornFrom, WritesWithin}
use Rattle.wtf_journal.proofs.Images.{SyncEnds, sync_narrows, pends_none, pends_wider, pends_more, pends_sync}

module _ {D : Type 0} (kind : DiskKind D) (file : ℕ) where
  -- before the first write
  pub within_none : (at : ℕ) (d : D) → WritesWithin kind file at 0 d d
  within_none at d = record {
    goes_on = record { faults = omega arith; size = λ f. omega arith; tells = refl };
    grows = record { most = omega arith; others = λ f ne. refl };
    pending = λ tells. pends_none at ((kind.view d).file file);
    elsewhere = λ tells f ne. refl;
    moments = λ tells. stays kind d (TornFrom (kind.view d) file at 0);
  }

  -- one write
  pub within_one : (at n : ℕ) (a b : D) → DiskWrites kind file at n a b → WritesWithin kind file at n a b
  within_one at n a b w = record {
    goes_on = w.goes_on;
    grows = w.grows;
    pending = w.pending;
    elsewhere = w.elsewhere;
    moments = λ tells. in_call kind a b (TornFrom (kind.view a) file at n) (w.time tells) (λ x left. record {
      view = (kind.view b).file file;
      pends = w.pending tells;
      here = left file;
      others = λ f ne. subst (λ (v : DiskFileView). IsFileImage v (x f)) (w.elsewhere tells f ne) (left f);
    });
  }

  -- and one behind others
  pub within_more : (at m n : ℕ) (a b c : D) → WritesWithin kind file at m a b → DiskWrites kind file (at + m) n b c → WritesWithin kind file at (m + n) a c
  within_more at m n a b c p w =
      let q = within_one (at + m) n b c w in
      record {
        goes_on = goes_on_on kind a b c p.goes_on q.goes_on;
        grows = record {
          most = omega (arith, p.grows.most, q.grows.most);
          others = λ f ne. q.grows.others f ne ∙ p.grows.others f ne;
        };
        pending = λ tells. pends_more at m n _ _ _ (p.pending tells) (q.pending (p.goes_on.tells ∙ tells));
        elsewhere = λ tells f ne. q.elsewhere (p.goes_on.tells ∙ tells) f ne ∙ p.elsewhere tells f ne;
        moments = λ tells. joins kind a b c (TornFrom (kind.view a) file at m) (TornFrom (kind.view b) file (at + m) n) (TornFrom (kind.view a) file at (m + n))
            (p.moments tells) (q.moments (p.goes_on.tells ∙ tells))
            (λ x torn. record {
              view = torn.view;
              pends = pends_wider at m (m + n) _ _ (omega arith) torn.pends;
              here = torn.here;
              others = torn.others;
            })
            (λ x torn. record {
              view = torn.view;
              pends = pends_more at m n _ _ _ (p.pending tells) torn.pends;
              here = torn.here;
              others = λ f ne. subst (λ (v : DiskFileView). IsFileImage v (x f)) (p.elsewhere tells f ne) (torn.others f ne);
            });
      }

  -- in a range that is longer
  pub within_wider : (at m n : ℕ) (a b : D) → m ≤ n → WritesWithin kind file at m a b → WritesWithin kind file at n a b
  within_wider at m n a b le w = record {
    goes_on = w.goes_on;
    grows = record { most = omega (arith, w.grows.most, le); others = w.grows.others };
    pending = λ tells. pends_wider at m n _ _ le (w.pending tells);
    elsewhere = w.elsewhere;
    moments = λ tells. weaker kind a b (TornFrom (kind.view a) file at m) (TornFrom (kind.view a) file at n) (w.moments tells)
        (λ x torn. record { view = torn.view; pends = pends_wider at m n _ _ le torn.pends; here = torn.here; others = torn.others });
  }

  -- what a sync of the file makes of it
  pub sync_ends : {T E : Type 0} (r : Result T E) (a b : D) → DiskLaws kind → (kind.view a).tells ≡ true
      → OnOk r ((kind.view a).tells ≡ true → IsSettled ((kind.view a).file file).seen ((kind.view b).file file))
      → OnErr r ((kind.view a).tells ≡ true → Remains ((kind.view a).file file) ((kind.view b).file file))
      → SyncEnds r ((kind.view a).file file) ((kind.view b).file file)
  sync_ends (Ok x) a b laws tells ok err = record { reads = laws.reads a tells file; settled = ok tells; remains = tt }
  sync_ends (Err e) a b laws tells ok err = record { reads = laws.reads a tells file; settled = tt; remains = err tells }

  -- a sync behind writes
  pub within_sync : {T E : Type 0} (r : Result T E) (at n : ℕ) (a b c : D) → WritesWithin kind file at n a b → DiskSyncs kind file b c
      → ((kind.view b).tells ≡ true → SyncEnds r ((kind.view b).file file) ((kind.view c).file file)) → WritesWithin kind file at n a c
  within_sync r at n a b c p s ends = record {
    goes_on = goes_on_on kind a b c p.goes_on s.goes_on;
    grows = record {
      most = omega (arith, p.grows.most, s.sizes file);
      others = λ f ne. s.sizes f ∙ p.grows.others f ne;
    };
    pending = λ tells. pends_sync r at n _ _ _ (ends (p.goes_on.tells ∙ tells)) (p.pending tells);
    elsewhere = λ tells f ne. s.elsewhere (p.goes_on.tells ∙ tells) f ne ∙ p.elsewhere tells f ne;
    moments = λ tells.
        let still = p.goes_on.tells ∙ tells in
        let P : DiskContent → Type 0 = TornFrom (kind.view a) file at n in
        joins kind a b c P P P (p.moments tells)
        (in_call kind b c P (s.time still) (λ x left. record {
          view = (kind.view b).file file;
          pends = p.pending tells;
          here = sync_narrows r _ _ (x file) (ends still) (left file);
          others = λ f ne. subst (λ (v : DiskFileView). IsFileImage v (x f)) (s.elsewhere still f ne ∙ p.elsewhere tells f ne) (left f);
        }))
        (λ x torn. torn) (λ x torn. torn);
  }

-- the bytes that were written
pub over_get : (s bytes : List ℕ) (at k : ℕ) → at ≤ length s → k < length bytes → slice_get (overwritten s at bytes) (at + k) ≡ Some (get_or bytes k 0)
over_get s bytes at k inside h =
    get_more (take at s ++ bytes) (drop (at + length bytes) s) (at + k) (get_or bytes k 0)
    (get_after (take at s) bytes (at + k) k (omega (arith, inside, length-take at s)) h)

piece_length : (n : ℕ) → n ≤ 4096 → length (zero_piece n) ≡ n
piece_length n few = omega (arith, few, length-take {A = ℕ} n (replicate {A = ℕ} 4096 0), length-replicate {A = ℕ} 4096 0)

piece_zero : (n k : ℕ) → k < n → n ≤ 4096 → get_or (zero_piece n) k 0 ≡ 0
piece_zero n k lt few = get_or-take {A = ℕ} n (replicate {A = ℕ} 4096 0) k 0 lt ∙ get_or-replicate {A = ℕ} 4096 k 0 0 (omega (arith, lt, few))

-- the pieces so far are zeros, and keep to what all of them keep to
pub record ZeroedTo {D : Type 0} (kind : DiskKind D) (file at done : ℕ) (old new : D) : Type 0 where
  pub within : WritesWithin kind file at done old new
  pub zeros : (kind.view old).tells ≡ true → (i : ℕ) → at ≤ i → i < at + done → slice_get ((kind.view new).file file).seen i ≡ Some 0

module _ {D : Type 0} (kind : DiskKind D) (file at : ℕ) where
  -- a piece of them that failed, in a range that is longer
  pub within_failed : (done n len : ℕ) (a b c : D) → n ≤ 4096 → done + n ≤ len → ZeroedTo kind file at done a b
      → DiskWrites kind file (at + done) (length (zero_piece n)) b c
      → WritesWithin kind file at len a c
  within_failed done n len a b c few le z wrote = within_wider kind file at (done + n) len a c le
      (within_more kind file at done n a b c z.within (subst (λ (m : ℕ). DiskWrites kind file (at + done) m b c) (piece_length n few) wrote))

  -- a piece more
  pub zeroed_more : (done n : ℕ) (a b c : D) → DiskLaws kind → n ≤ 4096 → at + done ≤ (kind.view b).size file
      → ZeroedTo kind file at done a b → DiskWrites kind file (at + done) (length (zero_piece n)) b c
      → ((kind.view b).tells ≡ true → ((kind.view c).file file).seen ≡ overwritten ((kind.view b).file file).seen (at + done) (zero_piece n))
      → ZeroedTo kind file at (done + n) a c
  zeroed_more done n a b c laws few inside z wrote written =
      let w = subst (λ (m : ℕ). DiskWrites kind file (at + done) m b c) (piece_length n few) wrote in
      record {
        within = within_more kind file at done n a b c z.within w;
        zeros = λ tells i low high.
            let still = z.within.goes_on.tells ∙ tells in
            elim (cases_lt i (at + done)) [
              | inl lt ↦ (w.pending still).seen i 0 (inl lt) (z.zeros tells i low lt)
              | inr ge ↦
                  let k = i - (at + done) in
                  let here : at + done + k ≡ i = omega (arith, ge) in
                  let below : k < n = omega (arith, ge, high) in
                  let length_is = laws.lengths b file still in
                  subst (λ (j : ℕ). slice_get ((kind.view c).file file).seen j ≡ Some 0) here
                  (ap (λ (l : List ℕ). slice_get l (at + done + k)) (written still)
                  ∙ over_get ((kind.view b).file file).seen (zero_piece n) (at + done) k (omega (arith, inside, length_is))
                  (omega (arith, below, piece_length n few))
                  ∙ ap Some (piece_zero n k below few))
            ];
      }
