-- From what is not in use to garbage, and what counts as freed.
use Rattle.std.proofs.Common.{◌≡◌, ℕ, ◌+◌, ◌*◌, Bool, false, cond, not, ◌||◌, ◌&&◌, nat_eq, nat_lt, List, ◌∷◌, ◌++◌, take, drop, length, Some, refl}
use Rattle.std.proofs.Common.{sym, ap, ◌∙◌, subst, ⊎_elim}
use Rattle.std.specs.Prelude.{slice_get, slice_index_or}
use Rattle.std.specs.List.{All}
use Rattle.std.proofs.Math.Seq.{take-append-add}
use Rattle.std.proofs.lemmas.Bool.{cases_Bool, eqb-true}
use Rattle.std.proofs.lemmas.List.{drop_more, take-append-drop}
use Rattle.std.proofs.lemmas.List.Elements.{All-get_or}
use Rattle.std.proofs.lemmas.Option.{slice_get_within, get_or_from_slice_get}
use Rattle.std.proofs.lemmas.List.Folds.{list_any-append}
use Rattle.wtf_base.specs.declared.fault.Fault.{Fault}
use Rattle.wtf_base.specs.declared.fault.Fault.TheVariants as fault
use Rattle.wtf_base.specs.Places.{Place}
use Rattle.wtf_dev.specs.Store.{Range, StoreKind, KindLaws}
use Rattle.wtf_replica.specs.Faults.{IsPunchFault}
use Rattle.wtf_region.specs.declared.dev.Dev.{Dev}
use Rattle.wtf_region.specs.Devs.{GoesOn, between}
use Rattle.wtf_gc.specs.declared.extent.Extent.{Extent}
use Rattle.wtf_gc.specs.Extents.{has, extents_cover}
use Rattle.wtf_gc.specs.Frees.{ranges_of, tried_on, StopsAt, AreGarbage, AreZeroed, CountsFreed, FreesAll, FreesSome, IsCollectFault}
use Rattle.wtf_gc.specs.Unused.{used_by, is_unused, IsUnused}
use Rattle.wtf_gc.specs.Views.{ScanView, GcView, mark_in, mark_of, is_garbage}
use Rattle.wtf_gc.proofs.Freeing.{first_ranges}
use Rattle.wtf_gc.proofs.Ranges.{LiesBelow, none_below, ranges_have}
use Rattle.wtf_gc.proofs.Zeroing.{zeroed_still}

-- ---- garbage
past_files : (s : ScanView) (k f : ℕ) → nat_lt f 8 ≡ false → mark_of s k f ≡ 0
past_files s k f e = ap (λ b. cond b (slice_index_or s.marks (k * 8 + f) 0) 0) e

module _ (g : GcView) (k : ℕ) (used : Place → Bool) (are : (p : Place) → p.server ≡ k → used p ≡ used_by g.older.found g.newer.found g.freed p) where
  abbrev free_there : Place → Bool
  free_there p = nat_lt p.file 8 && is_unused (mark_in g.older.marks) used p

  here_is : (p : Place) → p.server ≡ k → free_there p ≡ is_garbage g p
  here_is p e = ⊎_elim
      (λ t. ap (λ b. b && is_unused (mark_in g.older.marks) used p) t ∙ ap (λ b. nat_lt p.at (mark_of g.older p.server p.file) && not b) (are p e))
      (λ f. ap (λ b. b && is_unused (mark_in g.older.marks) used p) f
      ∙ sym (ap (λ n. nat_lt p.at n && not (used_by g.older.found g.newer.found g.freed p)) (past_files g.older p.server p.file f)
      ∙ ap (λ b. b && not (used_by g.older.found g.newer.found g.freed p)) (none_below p.at)))
      (cases_Bool (nat_lt p.file 8))

  there_is : (p : Place) → (nat_eq p.server k && free_there p) ≡ (nat_eq p.server k && is_garbage g p)
  there_is p = ⊎_elim
      (λ here. ap (λ b. b && free_there p) here ∙ here_is p (eqb-true p.server k here) ∙ sym (ap (λ b. b && is_garbage g p) here))
      (λ other. ap (λ b. b && free_there p) other ∙ sym (ap (λ b. b && is_garbage g p) other))
      (cases_Bool (nat_eq p.server k))

  -- what is not in use is the garbage
  pub are_garbage : (rs : List (ℕ × Range)) (bytes : ℕ) → IsUnused k (mark_in g.older.marks) used 8 rs bytes → AreGarbage g k rs
  are_garbage rs bytes u = record { apart = u.apart; exact = λ p. u.exact p ∙ there_is p }

-- ---- what counts as freed
abbrev pub with_freed : GcView → List Extent → GcView
with_freed g freed = record { running = g.running; finished = g.finished; older = g.older; newer = g.newer; freed = freed }

pub counts : (g : GcView) (freed es : List Extent) → ((p : Place) → extents_cover freed p ≡ (extents_cover g.freed p || extents_cover es p))
    → CountsFreed g (with_freed g freed) (ranges_of es)
counts g freed es are = record {
  running = refl;
  finished = refl;
  older = refl;
  newer = refl;
  freed = λ p. are p ∙ ap (λ b. extents_cover g.freed p || b) (sym (ranges_have es p));
}

pub covers_both : (es fs : List Extent) (p : Place) → extents_cover (es ++ fs) p ≡ (extents_cover es p || extents_cover fs p)
covers_both es fs p = list_any-append (λ (e : Extent). has e p) es fs

-- ---- where it stopped
split_at : {X : Type 0} (xs : List X) (i : ℕ) (x : X) → slice_get xs i ≡ Some x → take i xs ++ x ∷ drop (i + 1) xs ≡ xs
split_at xs i x is =
    ap (λ y. take i xs ++ y ∷ drop (i + 1) xs) (sym (get_or_from_slice_get xs i x x is))
    ∙ ap (λ l. take i xs ++ l) (sym (drop_more xs i x (slice_get_within xs i x is)))
    ∙ take-append-drop i xs

pub frees_some : {S : Type 0} {kind : StoreKind S} (laws : KindLaws kind) (k : ℕ) (dev dev' : Dev S) (g g' : GcView) (rs : List (ℕ × Range)) (done : ℕ)
    (mark : ℕ → ℕ → ℕ) (why : Fault)
    → AreGarbage g k rs
    → All (LiesBelow k mark 8) rs → StopsAt kind dev dev' rs done why → CountsFreed g g' (take done rs) → FreesSome kind k dev dev' g g' why
frees_some {kind = kind} laws k dev dev' g g' rs done mark why are all s counts =
    let r = s.tried in
    let at : LiesBelow k mark 8 r =
    subst (LiesBelow k mark 8) (get_or_from_slice_get rs done r r s.is) (All-get_or (LiesBelow k mark 8) rs done r (slice_get_within rs done r s.is) all) in
    let same : r ≡ (k, r.1) = λ i. (at.0 i, r.1) in
    let parts : AreGarbage g k (take done rs ++ (k, r.1) ∷ drop (done + 1) rs) =
    subst (AreGarbage g k) (sym (split_at rs done (k, r.1) (s.is ∙ ap Some same))) are in
    let last : GoesOn kind s.mid dev' (tried_on s.mid (k, r.1)) = subst (λ (t : ℕ × Range). GoesOn kind s.mid dev' (tried_on s.mid t)) same s.last in
    record {
      ranges = take done rs;
      tried = r.1;
      rest = drop (done + 1) rs;
      are = parts;
      mid = s.mid;
      goes = s.goes;
      zeroed = zeroed_still laws dev s.mid dev' (take done rs) (k, r.1) (drop (done + 1) rs) parts.apart last s.zeroed;
      last = last;
      cause = subst (λ (n : ℕ). IsPunchFault kind (between s.mid dev') n why) at.0 s.cause;
      counts = counts;
    }

-- a punch does not lack memory
pub some_freed : {S : Type 0} (kind : StoreKind S) (k : ℕ) (dev dev' : Dev S) (g g' : GcView) (why : Fault) → FreesSome kind k dev dev' g g' why
    → IsCollectFault kind k dev dev' g g' why
some_freed kind k dev dev' g g' (fault.Read j) h = h
some_freed kind k dev dev' g g' fault.Write h = h
some_freed kind k dev dev' g g' (fault.Punch j) h = h
some_freed kind k dev dev' g g' (fault.Damaged j) h = h
some_freed kind k dev dev' g g' fault.Memory h = absurd h.cause

-- ---- the whole of a call
module _ {S : Type 0} {kind : StoreKind S} (laws : KindLaws kind) (k : ℕ) (dev dev' : Dev S) (g : GcView) (freed es used : List Extent) (bytes : ℕ)
    (are : (p : Place) → p.server ≡ k → extents_cover used p ≡ used_by g.older.found g.newer.found g.freed p)
    (u : IsUnused k (mark_in g.older.marks) (extents_cover used) 8 (ranges_of es) bytes) where
  pub frees_all : GoesOn kind dev dev' (ranges_of es) → AreZeroed kind dev dev' (ranges_of es)
      → ((p : Place) → extents_cover freed p ≡ extents_cover (g.freed ++ es) p)
      → FreesAll kind k dev dev' g (with_freed g freed) bytes
  frees_all goes zeroed moved = record {
    ranges = ranges_of es;
    are = are_garbage g k (extents_cover used) are (ranges_of es) bytes u;
    goes = goes;
    zeroed = zeroed;
    count = u.count;
    counts = counts g freed es (λ p. moved p ∙ covers_both g.freed es p);
  }

  pub stopped : (done : ℕ) (why : Fault) → StopsAt kind dev dev' (ranges_of es) done why → freed ≡ take (length g.freed + done) (g.freed ++ es)
      → IsCollectFault kind k dev dev' g (with_freed g freed) why
  stopped done why stop is = some_freed kind k dev dev' g (with_freed g freed) why
      (frees_some laws k dev dev' g (with_freed g freed) (ranges_of es) done (mark_in g.older.marks) why
      (are_garbage g k (extents_cover used) are (ranges_of es) bytes u) u.lie stop
      (subst (CountsFreed g (with_freed g freed)) (sym (first_ranges es done))
      (counts g freed (take done es) (λ p. ap (λ l. extents_cover l p) (is ∙ take-append-add g.freed es done) ∙ covers_both g.freed (take done es) p))))
