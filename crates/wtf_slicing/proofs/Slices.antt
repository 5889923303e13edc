-- The slices of a transaction, once one of them is set.
use Rattle.std.proofs.Common.{◌≡◌, ℕ, Bool, List, Option, None, Some, sym, ◌∙◌, subst, ⊎_elim}
use Rattle.std.proofs.lemmas.Bool.{cases_eq}
use Rattle.wtf_overlay.specs.Origin.{Place}
use Rattle.wtf_overlay.specs.declared.part.Piece.{Piece}
use Rattle.wtf_model.specs.Session.{Session}
use Rattle.std.specs.FinMap.{get}
use Rattle.wtf_meta.specs.Bytes.{PiecesBytes}
use Rattle.wtf_meta.specs.Contents.{Told}
use Rattle.wtf_meta.specs.Maps.{Map}
use Rattle.wtf_meta.specs.Sessions.{SessionView, slice_in, SetsSlice, SetsHandle, SessionBytes, Holds}
use Rattle.wtf_meta.specs.declared.session.Handle.{Handle}
use Rattle.wtf_meta.proofs.Handling.{SliceOf, slice_at, unset_at}

-- the bytes of a slice that was set
pub slice_of : (told : Told) (w : Map) (s : SessionView) (S : Session) → Holds told w s S → (label : ℕ) (ps : List Piece) → slice_in s label ≡ Some ps
    → SliceOf told ps (get S.slices label)
slice_of told w s S holds label ps e = slice_at told (slice_in s label) (get S.slices label) ps e (holds.slices label)

-- and one that was never set is none there
pub no_slice_of : (told : Told) (w : Map) (s : SessionView) (S : Session) → Holds told w s S → (label : ℕ) → slice_in s label ≡ None → get S.slices label ≡ None
no_slice_of told w s S holds label e = unset_at told (slice_in s label) (get S.slices label) e (holds.slices label)

-- what holds of the bytes of all slices does so once one is set, of whose bytes it holds
pub bytes_set : (P : List Place → Bool) (s t : SessionView) (label : ℕ) (ps : List Piece) → SetsSlice label (Some ps) s t → PiecesBytes P ps → SessionBytes P s
    → SessionBytes P t
bytes_set P s t label ps set here old other qs e = ⊎_elim
    (λ same.
    let both : Some ps ≡ Some qs = sym set.is ∙ subst (λ (k : ℕ). slice_in t k ≡ Some qs) same e in
    let one : ps ≡ qs = cc in
    subst (λ (l : List Piece). PiecesBytes P l) one here)
    (λ apart. old other qs (sym (set.others other apart) ∙ e))
    (cases_eq other label)

-- and once a handle is
pub bytes_moved : (P : List Place → Bool) (s t : SessionView) (f : ℕ) (h : Option Handle) → SetsHandle f h s t → SessionBytes P s → SessionBytes P t
bytes_moved P s t f h set old label qs e = old label qs (sym (set.slices label) ∙ e)
