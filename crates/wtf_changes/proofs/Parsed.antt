-- What was read of bytes, by whether they are the text of changes.
use Rattle.std.proofs.Common.{◌≡◌, ℕ, List, Some, None, sym, ap, ◌∙◌}
use Rattle.wtf_spillfmt.specs.declared.error.ListError.{ListError}
use Rattle.wtf_spillfmt.specs.declared.error.ListError.TheVariants as unread
use Rattle.wtf_spillfmt.specs.Parses.{IsNoneOr}
use Rattle.wtf_spillfmt.proofs.Codecs.{IsBytes}
use Rattle.wtf_changes.specs.declared.records.Changes.{Changes}
use Rattle.wtf_changes.specs.Rows.{ChangeRows, change_rows}
use Rattle.wtf_changes.specs.Shapes.{HasChanges}
use Rattle.wtf_changes.specs.Outcome.{IsUnread}
use Rattle.wtf_changes.specs.Reading.{changes_of}
use Rattle.wtf_changes.proofs.Forms.{changes_takes, changes_again}

pub are_changes : (bytes : List ℕ) (ch : Changes) → IsBytes bytes → changes_of bytes ≡ Some (change_rows ch) → HasChanges (change_rows ch) bytes
are_changes bytes ch fits given = let t = changes_takes bytes (change_rows ch) fits given in record { shape = t.0; text = t.1 }

no_changes : (bytes : List ℕ) → changes_of bytes ≡ None → (x : ChangeRows) → HasChanges x bytes → ⊥
no_changes bytes none x has =
    let again : None ≡ Some x = sym none ∙ ap changes_of has.text ∙ changes_again x has.shape in
    absurd (cc)

pub unread_by : (bytes : List ℕ) (why : ListError) → IsNoneOr (changes_of bytes) why → IsUnread bytes why
unread_by bytes unread.NotAList fails = no_changes bytes fails
unread_by bytes unread.Memory fails = tt
