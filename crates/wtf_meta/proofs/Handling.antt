-- What a transaction has in hand, once a handle or a slice of one label is set.
use Rattle.std.proofs.Common.{◌≡◌, ◌≢◌, ℕ, List, Option, None, Some, refl, sym, ap, ◌∙◌, subst, cond, true, false, ⊎_elim}
use Rattle.std.proofs.lemmas.Bool.{cases_eq}
use Rattle.std.proofs.lemmas.Map.Views.{tells_apart}
use Rattle.std.specs.FinMap.{FinMap, get, insert, remove, get-remove, nat_cmp-IsAntisymmetric}
use Rattle.std.specs.Cmp.{nat_cmp_total, eq_by_cmp_equiv}
use Rattle.std.specs.Ordering.{nat_cmp, eq_by_cmp}
use Rattle.wtf_overlay.specs.declared.part.Piece.{Piece}
use Rattle.wtf_model.specs.Session.{Session}
use Rattle.wtf_model.specs.Session as model
use Rattle.wtf_model.specs.Done.{moved, put_slice}
use Rattle.wtf_model.proofs.Laws.{get-number_same, get-number_other, get-handle_same, get-handle_other}
use Rattle.wtf_meta.specs.declared.session.Handle.{Handle}
use Rattle.wtf_meta.specs.Maps.{Map}
use Rattle.wtf_meta.specs.Contents.{Told, PiecesTell}
use Rattle.wtf_meta.specs.Sessions.{SessionView, handle_in, slice_in, SetsHandle, SetsSlice, moved_to, IsHandleOf, HandleAt, SliceAt, Holds}

closed_same : (m : FinMap nat_cmp model.Handle) (f : ℕ) → get (remove m f) f ≡ None
closed_same m f = get-remove nat_cmp_total m f f ∙ ap (λ b. cond b None (get m f)) ((eq_by_cmp_equiv nat_cmp_total).refl f)

closed_other : (m : FinMap nat_cmp model.Handle) (f g : ℕ) → g ≢ f → get (remove m f) g ≡ get m g
closed_other m f g apart =
    get-remove nat_cmp_total m f g
    ∙ elim (eq_by_cmp nat_cmp g f) as (λ b. eq_by_cmp nat_cmp g f ≡ b → cond b None (get m g) ≡ get m g) [
      | true ↦ λ e. absurd (apart (tells_apart nat_cmp-IsAntisymmetric g f e))
      | false ↦ λ e. refl
    ] refl

-- what stands at a label, moved to equal things
handle_to : (w : Map) (v x : Option Handle) (g y : Option model.Handle) → x ≡ v → y ≡ g → HandleAt w v g → HandleAt w x y
handle_to w v x g y ev eg at = subst (λ z. HandleAt w z y) (sym ev) (subst (λ z. HandleAt w v z) (sym eg) at)

slice_to : (told : Told) (v x : Option (List Piece)) (g y : Option (List ℕ)) → x ≡ v → y ≡ g → SliceAt told v g → SliceAt told x y
slice_to told v x g y ev eg at = subst (λ z. SliceAt told z y) (sym ev) (subst (λ z. SliceAt told v z) (sym eg) at)

-- a handle that is open is the definitions'
pub record OpenAt (w : Map) (h : Handle) (o : Option model.Handle) : Type 0 where
  pub handle : model.Handle
  pub there : o ≡ Some handle
  pub of : IsHandleOf w h handle

pub open_at : (w : Map) (v : Option Handle) (o : Option model.Handle) (h : Handle) → v ≡ Some h → HandleAt w v o → OpenAt w h o
open_at w v None h e at = absurd (subst (λ x. HandleAt w x None) e at)
open_at w v (Some g) h e at = record { handle = g; there = refl; of = subst (λ x. HandleAt w x (Some g)) e at }

-- and one that is closed is closed there
pub closed_at : (w : Map) (v : Option Handle) (o : Option model.Handle) → v ≡ None → HandleAt w v o → o ≡ None
closed_at w v None e at = refl
closed_at w v (Some g) e at = absurd (subst (λ x. HandleAt w x (Some g)) e at)

-- the same of slices
pub record SliceOf (told : Told) (ps : List Piece) (o : Option (List ℕ)) : Type 0 where
  pub bytes : List ℕ
  pub there : o ≡ Some bytes
  pub tell : PiecesTell told ps bytes

pub slice_at : (told : Told) (v : Option (List Piece)) (o : Option (List ℕ)) (ps : List Piece) → v ≡ Some ps → SliceAt told v o → SliceOf told ps o
slice_at told v None ps e at = absurd (subst (λ x. SliceAt told x None) e at)
slice_at told v (Some bytes) ps e at = record { bytes = bytes; there = refl; tell = subst (λ x. SliceAt told x (Some bytes)) e at }

pub unset_at : (told : Told) (v : Option (List Piece)) (o : Option (List ℕ)) → v ≡ None → SliceAt told v o → o ≡ None
unset_at told v None e at = refl
unset_at told v (Some bytes) e at = absurd (subst (λ x. SliceAt told x (Some bytes)) e at)

module _ (told : Told) (w : Map) (s t : SessionView) (S : Session) (holds : Holds told w s S) where
  -- a handle is opened, or is another now
  pub holds-handle : (f : ℕ) (h : Handle) (g : model.Handle) → SetsHandle f (Some h) s t → IsHandleOf w h g
      → Holds told w t (record S { handles = insert S.handles f g })
  holds-handle f h g set of = record {
    handles = λ e. ⊎_elim
        (λ same. subst (λ n. HandleAt w (handle_in t n) (get (insert S.handles f g) n)) (sym same)
        (handle_to w (Some h) (handle_in t f) (Some g) (get (insert S.handles f g) f) set.is (get-handle_same S.handles f g) of))
        (λ other. handle_to w (handle_in s e) (handle_in t e) (get S.handles e) (get (insert S.handles f g) e) (set.others e other)
        (get-handle_other S.handles f g e other) (holds.handles e))
        (cases_eq e f);
    slices = λ label. slice_to told (slice_in s label) (slice_in t label) (get S.slices label) (get S.slices label) (set.slices label) refl
        (holds.slices label);
  }

  -- a handle is closed
  pub holds-closed : (f : ℕ) → SetsHandle f None s t → Holds told w t (record S { handles = remove S.handles f })
  holds-closed f set = record {
    handles = λ e. ⊎_elim
        (λ same. subst (λ n. HandleAt w (handle_in t n) (get (remove S.handles f) n)) (sym same)
        (handle_to w None (handle_in t f) None (get (remove S.handles f) f) set.is (closed_same S.handles f) tt))
        (λ other. handle_to w (handle_in s e) (handle_in t e) (get S.handles e) (get (remove S.handles f) e) (set.others e other)
        (closed_other S.handles f e other) (holds.handles e))
        (cases_eq e f);
    slices = λ label. slice_to told (slice_in s label) (slice_in t label) (get S.slices label) (get S.slices label) (set.slices label) refl
        (holds.slices label);
  }

  -- a handle is moved
  pub holds-moved : (f off : ℕ) (h : Handle) (g : model.Handle) → SetsHandle f (Some (moved_to off h)) s t → IsHandleOf w h g → Holds told w t (moved S f g off)
  holds-moved f off h g set of = holds-handle f (moved_to off h) (record g { off = off }) set (record { path = of.path; off = refl; leads = of.leads })

  -- a slice is kept
  pub holds-slice : (label : ℕ) (ps : List Piece) (bytes : List ℕ) → SetsSlice label (Some ps) s t → PiecesTell told ps bytes
      → Holds told w t (put_slice S label bytes)
  holds-slice label ps bytes set tell = record {
    handles = λ f. handle_to w (handle_in s f) (handle_in t f) (get S.handles f) (get S.handles f) (set.handles f) refl (holds.handles f);
    slices = λ l. ⊎_elim
        (λ same. subst (λ n. SliceAt told (slice_in t n) (get (insert S.slices label bytes) n)) (sym same)
        (slice_to told (Some ps) (slice_in t label) (Some bytes) (get (insert S.slices label bytes) label) set.is
        (get-number_same S.slices label bytes) tell))
        (λ other. slice_to told (slice_in s l) (slice_in t l) (get S.slices l) (get (insert S.slices label bytes) l) (set.others l other)
        (get-number_other S.slices label bytes l other) (holds.slices l))
        (cases_eq l label);
  }
