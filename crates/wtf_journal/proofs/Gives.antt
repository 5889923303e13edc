-- What a journal's image and its changes give.
use Rattle.std.proofs.Common.{◌≡◌, ◌∙◌, ℕ, Bool, true, false, List, [], ◌∷◌, ◌++◌, Option, None, Some, refl, sym, ap, subst, append-nil}
use Rattle.std.specs.Prelude.{zero, suc, IfOk, OnOk, MatchOption, Result, Ok, Err, Vec}
use Rattle.std.specs.declared.alloc.Global.{Global}
use Rattle.wtf_base.specs.declared.memory.OutOfMemory.{OutOfMemory}
use Rattle.std.specs.Option.{option_map}
use Rattle.wtf_overlay.specs.Reading.{◌>>=◌}
use Rattle.wtf_spillfmt.proofs.Codecs.{IsBytes}
use Rattle.wtf_imagefmt.specs.Images.{HasText}
use Rattle.wtf_imagefmt.specs.Reading.{image_of}
use Rattle.wtf_imagefmt.specs.Rows.{ImageRows}
use Rattle.wtf_imagefmt.proofs.Forms.{image_takes, image_again}
use Rattle.wtf_imagefmt.specs.Texts.{image_text}
use Rattle.wtf_imagefmt.specs.Writing.{IsWide}
use Rattle.wtf_changes.specs.Applying.{IsSomeImage}
use Rattle.wtf_changes.specs.Drafts.{DraftRows, applied, changed, taken, written}
use Rattle.wtf_changes.specs.Shapes.{HasChanges}
use Rattle.wtf_changes.proofs.Drafts.{IsSortedDraft, changed-sorted, taken-sorted, written-form}
use Rattle.wtf_journal.specs.declared.held.Shown.{Shown}
use Rattle.wtf_journal.specs.declared.held.Shown.TheVariants.{Image, Changed}
use Rattle.wtf_journal.proofs.Drafted.{taken_again}
use Rattle.wtf_changes.specs.Reading.{changes_of}
use Rattle.wtf_changes.specs.Rows.{ChangeRows}
use Rattle.wtf_changes.proofs.Forms.{changes_takes, changes_again}
use Rattle.wtf_journal.specs.Held.{Held, HeldView, IsMadeBy, IsTextOf, changed_by, ends_in_changes, held_by, image_by, is_changes, made_in, renewal, view_by}
use Rattle.wtf_journal.specs.Scan.{make_on, held_after}
use Rattle.wtf_journal.proofs.Scans.{held_after-none, held_after-push}

-- bytes with a text are read as what has it
pub read_as : (x : ImageRows) (bytes : List ℕ) → HasText x bytes → image_of bytes ≡ Some x
read_as x bytes has = ap image_of has.text ∙ image_again x has.shape

pub text_as : (bytes : List ℕ) (x : ImageRows) → IsBytes bytes → image_of bytes ≡ Some x → HasText x bytes
text_as bytes x fits is = let t = image_takes bytes x fits is in record { shape = t.0; text = t.1 }

abbrev some_or : {A : Type 0} → A → Option A → A
some_or x None = x
some_or x (Some y) = y

-- an image has its bytes for its text
pub some_text : (bytes : List ℕ) → IsSomeImage bytes → IsTextOf (image_of bytes) bytes
some_text bytes some = subst (λ (h : Held). IsTextOf h bytes) (sym (read_as some.rows bytes some.text)) some.text

-- an image in a body
pub image_made : (bytes : List ℕ) (x : ImageRows) (v : Vec ℕ Global) → IsBytes bytes → image_of bytes ≡ Some x → v.items ≡ bytes
    → IsMadeBy (image_by bytes) false (Image v)
image_made bytes x v fits is items = record {
  kept = record { rows = x; text = subst (λ (l : List ℕ). HasText x l) (sym items) (text_as bytes x fits is) };
  made_is = ap (λ (o : Held). o >>= λ y. Some (Some y)) is ∙ ap (λ (h : Held). Some h) (sym (ap image_of items ∙ is));
  is_changed = refl;
}

-- the bytes of a draft
pub draft_text : (d : DraftRows) (x : ImageRows) (r : Result (Vec ℕ Global) OutOfMemory) → taken (written d) ≡ d → x ≡ written d
    → IfOk r (λ v. v.items ≡ image_text x) → OnOk r (IsWide x) → IfOk r (λ v. HasText (written d) v.items)
draft_text d x (Err why) kept is text wide = tt
draft_text d x (Ok v) kept is text wide = record {
  shape = written-form d (subst IsSortedDraft kept (taken-sorted (written d))) (subst IsWide is wide);
  text = text ∙ ap image_text is;
}

-- changes that are made in a draft
module _ (x : ImageRows) (ch : ChangeRows) (before : DraftRows) (start : before ≡ taken x) where
  pub draft_changed : (after : DraftRows) → changed before ch ≡ Some after → IsMadeBy (made_in x ch) true (Changed after)
  draft_changed after is =
      let made : changed (taken x) ch ≡ Some after = ap (λ (d : DraftRows). changed d ch) (sym start) ∙ is in
      record {
        kept = taken_again after (changed-sorted (taken x) after ch (taken-sorted x) made);
        made_is = ap (λ (o : Option DraftRows). option_map written o >>= λ y. Some (Some y)) made;
        is_changed = refl;
      }

-- changes in a body, made in what there was before
module _ (held : Held) (bytes : List ℕ) where
  pub changes_made : (r : Result (Option Shown) OutOfMemory) (x : ImageRows) (ch : ChangeRows) → held ≡ Some x → HasChanges ch bytes
      → IfOk r (λ o. MatchOption o (made_in x ch ≡ None) (IsMadeBy (made_in x ch) true))
      → IfOk r (λ o. MatchOption o (changed_by held bytes ≡ None) (IsMadeBy (changed_by held bytes) true))
  changes_made r x ch is are made =
      subst (λ (m : Option Held). IfOk r (λ o. MatchOption o (m ≡ None) (IsMadeBy m true)))
      (sym (ap (λ (h : Held). changed_by h bytes) is
      ∙ ap (λ (o : Option ChangeRows). o >>= λ c. made_in x c) (ap changes_of are.text ∙ changes_again ch are.shape)))
      made

  unread : (o : Option ChangeRows) (x : ImageRows) → ((ch : ChangeRows) → o ≡ Some ch → ⊥) → (o >>= λ ch. made_in x ch) ≡ None
  unread None x none = refl
  unread (Some ch) x none = absurd (none ch refl)

  pub changes_unread : (x : ImageRows) → held ≡ Some x → IsBytes bytes → ((ch : ChangeRows) → HasChanges ch bytes → ⊥) → changed_by held bytes ≡ None
  changes_unread x is fits none =
      ap (λ (h : Held). changed_by h bytes) is
      ∙ unread (changes_of bytes) x (λ ch reads. let t = changes_takes bytes ch fits reads in none ch (record { shape = t.0; text = t.1 }))

-- seen as rows alone
rows_only : (o : Option Held) (behind : Bool) → option_map (λ (v : HeldView). v.rows) (o >>= λ rows. Some (record { rows = rows; behind = behind })) ≡ o
rows_only None behind = refl
rows_only (Some rows) behind = refl

pub view_rows : (v : HeldView) (body : List ℕ) → option_map (λ (w : HeldView). w.rows) (view_by v body) ≡ held_by v.rows body
view_rows v body = rows_only (held_by v.rows body) (is_changes body)

-- changes came behind the last image where the last record is one of changes
pub behind_after : (v w : HeldView) (bodies : List (List ℕ)) → held_after view_by (Some v) bodies ≡ Some w → w.behind ≡ ends_in_changes v.behind bodies
behind_after v w [] is = ap (λ (o : Option HeldView). (some_or v o).behind) (sym is)
behind_after v w (body ∷ bodies) is =
    by (λ rows some. behind_after (record { rows = rows; behind = is_changes body }) w bodies some) (held_by v.rows body) is
  where
    by : ((rows : Held) → held_after view_by (Some (record { rows = rows; behind = is_changes body })) bodies ≡ Some w
        → w.behind ≡ ends_in_changes (is_changes body) bodies) → (o : Option Held)
        → held_after view_by (o >>= λ rows. Some (record { rows = rows; behind = is_changes body })) bodies ≡ Some w
        → w.behind ≡ ends_in_changes (is_changes body) bodies
    by more None none = absurd (cc (sym (held_after-none view_by bodies) ∙ none))
    by more (Some rows) some = more rows some

-- and then there is an image
abbrev pub HasRows : HeldView → Type 0
HasRows v = v.behind ≡ true → (x : ImageRows) × (v.rows ≡ Some x)

made_some : (o : Option ChangeRows) (x : ImageRows) (rows : Held) → (o >>= λ ch. applied x ch >>= λ y. Some (Some y)) ≡ Some rows
    → (y : ImageRows) × (rows ≡ Some y)
made_some None x rows is = absurd (cc (is))
made_some (Some ch) x rows is = by (applied x ch) is
  where
    by : (p : Held) → (p >>= λ y. Some (Some y)) ≡ Some rows → (y : ImageRows) × (rows ≡ Some y)
    by None none = absurd (cc (none))
    by (Some y) some = (y, ap (some_or rows) (sym some))

changes_some : (held rows : Held) (body : List ℕ) → held_by held body ≡ Some rows → is_changes body ≡ true → (x : ImageRows) × (rows ≡ Some x)
changes_some held rows [] made is = absurd (cc (is))
changes_some held rows (zero ∷ rest) made is = absurd (cc (is))
changes_some None rows (suc zero ∷ rest) made is = absurd (cc (made))
changes_some (Some x) rows (suc zero ∷ rest) made is = made_some (changes_of rest) x rows made
changes_some held rows (suc (suc n) ∷ rest) made is = absurd (cc (made))

pub rows_after : (v w : HeldView) (bodies : List (List ℕ)) → HasRows v → held_after view_by (Some v) bodies ≡ Some w → HasRows w
rows_after v w [] has is = subst HasRows (ap (some_or v) is) has
rows_after v w (body ∷ bodies) has is =
    by (λ rows made some. rows_after (record { rows = rows; behind = is_changes body }) w bodies (λ behind. changes_some v.rows rows body made behind) some)
    (held_by v.rows body) refl is
  where
    by : ((rows : Held) → held_by v.rows body ≡ Some rows
        → held_after view_by (Some (record { rows = rows; behind = is_changes body })) bodies ≡ Some w → HasRows w)
        → (o : Option Held) → held_by v.rows body ≡ o
        → held_after view_by (o >>= λ rows. Some (record { rows = rows; behind = is_changes body })) bodies ≡ Some w
        → HasRows w
    by more None made none = absurd (cc (sym (held_after-none view_by bodies) ∙ none))
    by more (Some rows) made some = more rows made some

-- a record of the image that is held changes nothing
pub renewed : (bodies : List (List ℕ)) (v : HeldView) (image : List ℕ) → HasRows v → IsTextOf v.rows image
    → held_after held_by (Some None) bodies ≡ Some v.rows → held_after held_by (Some None) (bodies ++ renewal v.behind image) ≡ Some v.rows
renewed bodies v image has text is = by v.behind refl
  where
    made : (x : ImageRows) → v.rows ≡ Some x → IsTextOf v.rows image → held_by v.rows (0 ∷ image) ≡ Some v.rows
    made x rows its =
        ap (λ (o : Held). o >>= λ y. Some (Some y)) (read_as x image (subst (λ (h : Held). IsTextOf h image) rows its)) ∙ ap (λ (h : Held). Some h) (sym rows)

    by : (behind : Bool) → v.behind ≡ behind → held_after held_by (Some None) (bodies ++ renewal behind image) ≡ Some v.rows
    by false off = ap (λ (bs : List (List ℕ)). held_after held_by (Some None) bs) (append-nil bodies) ∙ is
    by true on =
        let x = has on in
        held_after-push held_by (Some None) bodies (0 ∷ image)
        ∙ ap (λ (o : Option Held). make_on held_by o (0 ∷ image)) is
        ∙ made x.0 x.1 text
