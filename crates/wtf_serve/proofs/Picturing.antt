-- What images stand for, over stores that go on, and at the begin of a run.
use Rattle.std.proofs.Common.{◌≡◌, ◌≤◌, ◌+◌, ℕ, zero, suc, List, [], ◌∷◌, length, Some, refl, sym, ◌∙◌, subst, arith, inl, inr}
use Rattle.std.specs.List.{Contains}
use Rattle.wtf_base.specs.declared.settings.Settings.{Settings}
use Rattle.wtf_dev.specs.Store.{StoreKind, KindLaws}
use Rattle.wtf_dev.specs.Each.{EachFollows}
use Rattle.wtf_dev.specs.Keep.{KeeperView}
use Rattle.wtf_replica.specs.Bytes.{byte_at}
use Rattle.wtf_replica.specs.Inside.{size_in}
use Rattle.wtf_model.specs.Machines.{Machine}
use Rattle.wtf_model.specs.Tree.{Tree}
use Rattle.wtf_meta.specs.Contents.{Told}
use Rattle.wtf_meta.proofs.Telling.{TellsOn}
use Rattle.wtf_replay.proofs.Later.{stands_later}
use Rattle.wtf_core.specs.Pictured.{IsImageOfTree, IsImageOfOne, HoldsTree, IsImageWith, IsTakenFor}
use Rattle.wtf_core.proofs.Pointing.{sizes_grow}
use Rattle.wtf_core.proofs.Taking.{taken_for_on, image_with}
use Rattle.wtf_serve.specs.Endings.{IsNext}
use Rattle.wtf_serve.specs.Openings.{Opening, StartsFrom}
use Rattle.wtf_serve.specs.Scripts.{IsEndStatus}
use Rattle.wtf_serve.specs.Stocks.{Stock, stock, HoldsOneOf, HoldsStart, HoldsJust}

-- over stores that tell more
tree_on : (told later : Told) (bytes : List ℕ) (t : Tree) → TellsOn told later → IsImageOfTree told bytes t → IsImageOfTree later bytes t
tree_on told later bytes t on is = record {
  rows = is.rows;
  text = is.text;
  map = is.map;
  says = is.says;
  stands = λ tx le. stands_later is.rows.header.region told later tx 0 is.map t on (is.stands tx le);
}

one_on : (told later : Told) (bytes : List ℕ) (may : List Tree) → TellsOn told later → IsImageOfOne told bytes may → IsImageOfOne later bytes may
one_on told later bytes may on (inl none) = inl none
one_on told later bytes may on (inr (t, listed, is)) = inr (t, listed, tree_on told later bytes t on is)

-- a keeper that is as it was holds what it held, over stores that tell more
pub holds_on : (told later : Told) → TellsOn told later → (old new : KeeperView) (may : List Tree)
    → ((bytes : List ℕ) → old.held ≡ Some bytes → new.held ≡ Some bytes) → HoldsTree old told may → HoldsTree new later may
holds_on told later on old new may still (bytes, held, is) =
    (bytes, still bytes held, one_on told later bytes may on is)

-- the tree that a run starts from
starts_one : (told : Told) (bytes : List ℕ) (t : Tree) → StartsFrom told bytes t → IsImageOfOne told bytes (t ∷ [])
starts_one told [] t is = inl (refl, (0, omega arith, is))
starts_one told (b ∷ bytes) t is = inr (t, (0, omega arith, refl), is)

-- and one that it starts from over stores that tell more
pub starts_on : (told later : Told) (bytes : List ℕ) (t : Tree) → TellsOn told later → StartsFrom told bytes t → StartsFrom later bytes t
starts_on told later [] t on is = is
starts_on told later (b ∷ bytes) t on is = tree_on told later (b ∷ bytes) t on is

some_same : (a b : List ℕ) → Some a ≡ Some b → a ≡ b
some_same a b e = cc

pub starts_holds : {S : Type 0} (kind : StoreKind S) (shelf : List S) (k : KeeperView) (bytes : List ℕ) (t : Tree) → k.held ≡ Some bytes
    → StartsFrom (byte_at kind shelf) bytes t → HoldsOneOf kind (stock shelf k) (t ∷ [])
starts_holds kind shelf k bytes t is from = (bytes, is, starts_one (byte_at kind shelf) bytes t from)

-- what is held are these bytes
pub image_held : (told : Told) (k : KeeperView) (bytes : List ℕ) (may : List Tree) → HoldsTree k told may → k.held ≡ Some bytes → IsImageOfOne told bytes may
image_held told k bytes may (held, held_is, is) bytes_are = subst (λ (x : List ℕ). IsImageOfOne told x may) (some_same held bytes (sym held_is ∙ bytes_are)) is

-- the one tree that an image may stand for
only_tree : (t u : Tree) → Contains (t ∷ []) u → t ≡ u
only_tree t u (zero, below, is) = is
only_tree t u (suc n, below, is) = absurd (omega (arith, below))

pub one_alone : (told : Told) (bytes : List ℕ) (t : Tree) → (bytes ≡ [] → ⊥) → IsImageOfOne told bytes (t ∷ []) → IsImageOfTree told bytes t
one_alone told bytes t some (inl none) = absurd (some none.0)
one_alone told bytes t some (inr (u, listed, is)) = subst (λ (x : Tree). IsImageOfTree told bytes x) (sym (only_tree t u listed)) is

-- ---- what a run can begin with

-- a keeper that was handed nothing holds it still, over stores that go on
pub start_on : {S : Type 0} {kind : StoreKind S} → KindLaws kind → (old new : Stock S) (settings : Settings) (n next : ℕ)
    → EachFollows kind old.shelf new.shelf [] → ((bytes : List ℕ) → old.keeper.held ≡ Some bytes → new.keeper.held ≡ Some bytes)
    → HoldsStart kind old settings n next → HoldsStart kind new settings n next
start_on {kind = kind} laws old new settings n next e still (bytes, held, is) = (
  bytes,
  still bytes held,
  taken_for_on (size_in kind old.shelf) (size_in kind new.shelf) (sizes_grow laws e) settings n next n next (omega arith) (omega arith) bytes is,
)

-- what is held are these bytes
start_held : {S : Type 0} (kind : StoreKind S) (s : Stock S) (settings : Settings) (n next n' next' : ℕ) (bytes : List ℕ) → n ≤ n' → next ≤ next'
    → HoldsStart kind s settings n next → s.keeper.held ≡ Some bytes
    → IsTakenFor (size_in kind s.shelf) settings n' next' bytes
start_held kind s settings n next n' next' bytes more after (held, held_is, is) bytes_are =
    taken_for_on (size_in kind s.shelf) (size_in kind s.shelf) (λ k f. omega arith) settings n next n' next' more after bytes
    (subst (λ (x : List ℕ). IsTakenFor (size_in kind s.shelf) settings n next x) (some_same held bytes (sym held_is ∙ bytes_are)) is)

module _ {S : Type 0} (kind : StoreKind S) (opening : Opening) (m : Machine) (lines : List (List ℕ)) (s : Stock S) (bytes : List ℕ)
    (held : s.keeper.held ≡ Some bytes) (n next : ℕ) where
  -- with the closing save
  pub next_saved : (status : ℕ) → IsEndStatus status → n ≡ m.number → next ≤ opening.next_tx + length lines → HoldsJust kind s opening.settings n next
      → IsNext (size_in kind s.shelf) opening m lines status bytes
  next_saved status end number few (image, image_is, is) =
      let here : IsImageWith (size_in kind s.shelf) opening.settings n next bytes
      = subst (λ (x : List ℕ). IsImageWith (size_in kind s.shelf) opening.settings n next x) (some_same image bytes (sym image_is ∙ held)) is in
      record {
        saved = λ _. (next, few, subst (λ (x : ℕ). IsImageWith (size_in kind s.shelf) opening.settings x next bytes) number here);
        taken = λ _. inr (image_with (size_in kind s.shelf) opening.settings n next m.number (opening.next_tx + length lines) bytes
            (omega (arith, number)) few here);
        memory = λ e. absurd (omega (arith, e, end));
      }

  -- without it
  pub next_kept : (status : ℕ) → (IsEndStatus status → ⊥) → n ≡ m.number → next ≤ opening.next_tx + length lines → HoldsStart kind s opening.settings n next
      → IsNext (size_in kind s.shelf) opening m lines status bytes
  next_kept status other number few holds = record {
    saved = λ end. absurd (other end);
    taken = λ _. start_held kind s opening.settings n next m.number (opening.next_tx + length lines) bytes (omega (arith, number)) few holds held;
    memory = λ _. start_held kind s opening.settings n next (m.number + 1) (opening.next_tx + length lines + 1) bytes (omega (arith, number))
        (omega (arith, few)) holds held;
  }

  -- and behind one more line, for want of memory
  pub next_out : n ≤ m.number + 1 → next ≤ opening.next_tx + length lines + 1 → HoldsStart kind s opening.settings n next
      → IsNext (size_in kind s.shelf) opening m lines 7 bytes
  next_out number few holds = record {
    saved = λ end. absurd (omega (arith, end));
    taken = λ other. absurd (other refl);
    memory = λ _. start_held kind s opening.settings n next (m.number + 1) (opening.next_tx + length lines + 1) bytes number few holds held;
  }
