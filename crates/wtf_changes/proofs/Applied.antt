-- What comes of an image and of changes that were read.
use Rattle.std.proofs.Common.{◌≡◌, ℕ, List, Some, None, sym, ap, subst, ◌∙◌, append-nil}
use Rattle.std.specs.Option.{option_map}
use Rattle.wtf_imagefmt.specs.Images.{HasText}
use Rattle.wtf_imagefmt.specs.Rows.{ImageRows}
use Rattle.wtf_imagefmt.specs.Texts.{image_text}
use Rattle.wtf_imagefmt.specs.Writing.{IsWide}
use Rattle.wtf_imagefmt.proofs.Forms.{one_image}
use Rattle.wtf_changes.specs.declared.error.ApplyError.{ApplyError}
use Rattle.wtf_changes.specs.declared.error.ApplyError.TheVariants as error
use Rattle.wtf_changes.specs.Rows.{ChangeRows}
use Rattle.wtf_changes.specs.Texts.{changes_text}
use Rattle.wtf_changes.specs.Shapes.{HasChanges}
use Rattle.wtf_changes.specs.Drafts.{DraftRows, taken, changed, written, applied}
use Rattle.wtf_changes.specs.Applying.{IsUnmade, HasApplied, AreNoChanges, IsApplyRefusal}
use Rattle.wtf_changes.proofs.Forms.{one_changes}
use Rattle.wtf_changes.proofs.Drafts.{IsSortedDraft, taken-sorted, changed-sorted, written-form}

-- bytes are one image at most, and one list of changes
same_image : (x y : ImageRows) (bytes : List ℕ) → HasText x bytes → HasText y bytes → x ≡ y
same_image x y bytes a b = (one_image x y _ a.shape b.shape (sym b.text ∙ a.text ∙ sym (append-nil (image_text x)))).0

same_changes : (x y : ChangeRows) (bytes : List ℕ) → HasChanges x bytes → HasChanges y bytes → x ≡ y
same_changes x y bytes a b = (one_changes x y _ a.shape b.shape (sym b.text ∙ a.text ∙ sym (append-nil (changes_text x)))).0

module _ (image changes : List ℕ) (x : ImageRows) (ch : ChangeRows) (is : HasText x image) (are : HasChanges ch changes) where
  pub has_applied : (before after : DraftRows) (z : ImageRows) (bytes : List ℕ) → before ≡ taken x → changed before ch ≡ Some after → z ≡ written after
      → bytes ≡ image_text z → IsWide z → HasApplied image changes bytes
  has_applied before after z bytes drawn made rows text wide =
      let made-of : changed (taken x) ch ≡ Some after = ap (λ d. changed d ch) (sym drawn) ∙ made in
      let sorted : IsSortedDraft after = changed-sorted (taken x) after ch (taken-sorted x) made-of in
      record {
        before = x;
        rows = ch;
        after = written after;
        is_image = is;
        are_changes = are;
        made = ap (option_map written) made-of;
        text = record { shape = written-form after sorted (subst IsWide rows wide); text = text ∙ ap image_text rows };
      }

  none_applied : (before : DraftRows) → before ≡ taken x → changed before ch ≡ None → AreNoChanges image changes
  none_applied before drawn none y other has its =
      (λ k. applied (same_image y x image has is k) (same_changes other ch changes its are k))
      ∙ ap (option_map written) (ap (λ d. changed d ch) (sym drawn) ∙ none)

  pub refused_made : (before : DraftRows) (why : ApplyError) → before ≡ taken x → IsUnmade (changed before ch) why → IsApplyRefusal image changes why
  refused_made before error.NotChanges drawn none = none_applied before drawn none
  refused_made before error.Memory drawn none = tt
