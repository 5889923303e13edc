-- Laws of entries whose values are mapped.
use Rattle.std.proofs.Common.{◌≡◌, true, false, cond, List, [], ◌∷◌, Some, refl, ap, ◌∙◌}
use Rattle.std.specs.declared.cmp.Ordering.{Ordering}
use Rattle.std.specs.declared.cmp.Ordering.TheVariants.{Less, Equal, Greater}
use Rattle.std.specs.Ordering.{match_ordering}
use Rattle.std.specs.Option.{option_map}
use Rattle.std.specs.Map.{lookup, remove_entry}
use Rattle.std.specs.BTreeMap.{is_at, insert_entry}
use Rattle.wtf_changes.specs.Drafts.{put_back}
use Rattle.wtf_changes.specs.Kept.{seen}

module _ {K X Y : Type 0} (R : K → K → Ordering) (f : X → Y) where
  pub insert-seen : (es : List (K × X)) (k : K) (v : X) → seen f (insert_entry R es k v) ≡ insert_entry R (seen f es) k (f v)
  insert-seen [] k v = refl
  insert-seen (e ∷ es) k v = elim (R k e.0) as
      (λ r. seen f (match_ordering r ((k, v) ∷ e ∷ es) ((e.0, v) ∷ es) (e ∷ insert_entry R es k v))
      ≡ match_ordering r ((k, f v) ∷ (e.0, f e.1) ∷ seen f es) ((e.0, f v) ∷ seen f es) ((e.0, f e.1) ∷ insert_entry R (seen f es) k (f v))) [
        | Less ↦ refl
        | Equal ↦ refl
        | Greater ↦ ap (λ l. (e.0, f e.1) ∷ l) (insert-seen es k v)
      ]

  pub remove-seen : (es : List (K × X)) (k : K) → seen f (remove_entry (is_at (R k)) es) ≡ remove_entry (is_at (R k)) (seen f es)
  remove-seen [] k = refl
  remove-seen (e ∷ es) k = elim (is_at (R k) e.0) as
      (λ b. seen f (cond b es (e ∷ remove_entry (is_at (R k)) es)) ≡ cond b (seen f es) ((e.0, f e.1) ∷ remove_entry (is_at (R k)) (seen f es))) [
        | true ↦ refl
        | false ↦ ap (λ l. (e.0, f e.1) ∷ l) (remove-seen es k)
      ]

  pub lookup-seen : (es : List (K × X)) (k : K) → option_map f (lookup (is_at (R k)) es) ≡ lookup (is_at (R k)) (seen f es)
  lookup-seen [] k = refl
  lookup-seen (e ∷ es) k = elim (is_at (R k) e.0) as
      (λ b. option_map f (cond b (Some e.1) (lookup (is_at (R k)) es)) ≡ cond b (Some (f e.1)) (lookup (is_at (R k)) (seen f es))) [
        | true ↦ refl
        | false ↦ lookup-seen es k
      ]

  pub put_back-seen : (es : List (K × X)) (k : K) (v : X) → seen f (put_back R es k v) ≡ put_back R (seen f es) k (f v)
  put_back-seen es k v = insert-seen (remove_entry (is_at (R k)) es) k v ∙ ap (λ l. insert_entry R l k (f v)) (remove-seen es k)
