-- The image that a journal gives is that of the tree which is found there.
use Rattle.std.proofs.Common.{◌≡◌, ◌∙◌, ℕ, zero, suc, List, [], ◌∷◌, Option, None, Some, refl, sym, subst, arith}
use Rattle.wtf_meta.specs.Contents.{Told}
use Rattle.wtf_model.specs.Machines.{Machine}
use Rattle.wtf_model.specs.Tree.{Tree}
use Rattle.wtf_image.specs.Loading.{IsTaken}
use Rattle.wtf_imagefmt.specs.Reading.{image_of}
use Rattle.wtf_imagefmt.specs.Rows.{ImageRows}
use Rattle.wtf_overlay.specs.Reading.{◌>>=◌}
use Rattle.wtf_changes.specs.Drafts.{applied}
use Rattle.wtf_changes.specs.Reading.{changes_of}
use Rattle.wtf_changes.specs.Rows.{ChangeRows}
use Rattle.wtf_journal.specs.Held.{Held, IsTextOf, held_by}
use Rattle.wtf_journal.specs.Scan.{held_after, make_on}
use Rattle.wtf_journal.proofs.Scans.{means_one}
use Rattle.wtf_core.specs.Pictured.{IsImageFor}
use Rattle.wtf_serve.specs.Openings.{StartsFrom}
use Rattle.wtf_durable.specs.Opened.{GivesImage}
use Rattle.wtf_durable.specs.Stops.{FindsTree, LeavesStore, Leftover, left_at, left_size}

-- one text for what is held
same_text : (h : Held) (a b : List ℕ) → IsTextOf h a → IsTextOf h b → a ≡ b
same_text None a b x y = x ∙ sym y
same_text (Some rows) a b x y = x.text ∙ sym y.text

image_is : (told : Told) (journal image : List ℕ) (t : Tree) (finds : FindsTree told journal t) → GivesImage journal image → finds.image ≡ image
image_is told journal image t finds is =
    let same : finds.held ≡ is.held = means_one held_by None journal finds.held is.held finds.gives is.gives in
    let text : IsTextOf is.held finds.image = subst (λ (h : Held). IsTextOf h finds.image) same finds.text in
    same_text is.held finds.image image text is.text

pub found_opens : (told : Told) (journal image : List ℕ) (t : Tree) → FindsTree told journal t → GivesImage journal image → StartsFrom told image t
found_opens told journal image t finds is = subst (λ (bytes : List ℕ). StartsFrom told bytes t) (image_is told journal image t finds is) finds.tree

-- and a run can begin with that of a store which was left
pub left_opens : (left : Leftover) (m : Machine) (next : ℕ) (image : List ℕ) → LeavesStore left m next → GivesImage (left.journal 0) image
    → IsImageFor (left_size left.stores) m.settings m.number next image × StartsFrom (left_at left.stores) image m.now
left_opens left m next image is gives = (
  record {
    rows = is.rows;
    taken = subst (λ (bytes : List ℕ). IsTaken (left_size left.stores) bytes is.rows)
        (image_is (left_at left.stores) (left.journal 0) image m.now is.tree gives) is.taken;
    settings_are = is.settings;
    installs = let same = is.number in omega (arith, same);
    next_tx = is.next_tx;
  },
  found_opens (left_at left.stores) (left.journal 0) image m.now is.tree gives,
)

-- ---- a journal that stands for nothing has no record
holds_one : (o : Option ImageRows) → (o >>= λ x. Some (Some x)) ≡ Some None → ⊥
holds_one None e = cc
holds_one (Some x) e = cc

made_one : (x : ImageRows) (o : Option ChangeRows) → (o >>= λ ch. applied x ch >>= λ y. Some (Some y)) ≡ Some None → ⊥
made_one x None e = cc
made_one x (Some ch) e = holds_one (applied x ch) e

body_holds : (kind : ℕ) (held : Held) (rest : List ℕ) → held_by held (kind ∷ rest) ≡ Some None → ⊥
body_holds zero held rest e = holds_one (image_of rest) e
body_holds (suc zero) None rest e = cc
body_holds (suc zero) (Some x) rest e = made_one x (changes_of rest) e
body_holds (suc (suc n)) held rest e = cc

one_holds : (o : Option Held) (body : List ℕ) → make_on held_by o body ≡ Some None → ⊥
one_holds None body e = cc
one_holds (Some held) [] e = cc
one_holds (Some held) (kind ∷ rest) e = body_holds kind held rest e

still_holds : (bodies : List (List ℕ)) (o : Option Held) → (o ≡ Some None → ⊥) → held_after held_by o bodies ≡ Some None → ⊥
still_holds [] o some e = some e
still_holds (body ∷ bodies) o some e = still_holds bodies (make_on held_by o body) (one_holds o body) e

pub no_bodies : (bodies : List (List ℕ)) → held_after held_by (Some None) bodies ≡ Some None → bodies ≡ []
no_bodies [] e = refl
no_bodies (body ∷ bodies) e = absurd (still_holds bodies (held_by None body) (one_holds (Some None) body) e)
