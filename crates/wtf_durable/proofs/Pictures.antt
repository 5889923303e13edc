-- Which image a journal gives, between events and at any moment of one.
use Rattle.std.proofs.Common.{◌≡◌, ◌≤◌, ◌^◌, ◌++◌, ◌∙◌, ℕ, true, List, [], ◌∷◌, Option, None, Some, refl, inl, ⊎_elim, append-nil, sym, ap, subst, arith}
use Rattle.std.specs.Prelude.{IsTrue}
use Rattle.wtf_base.specs.declared.settings.Settings.{Settings}
use Rattle.wtf_dev.specs.Disk.{DiskContent, DiskKind, DiskLaws, IsFileImage}
use Rattle.wtf_imagefmt.specs.declared.records.Version.TheVariants.{Two}
use Rattle.wtf_imagefmt.specs.Rows.{ImageRows}
use Rattle.wtf_imagefmt.specs.Savable.{IsSavable}
use Rattle.wtf_imagefmt.specs.Saving.{IsSaveOf}
use Rattle.wtf_imagefmt.specs.Shown.{Shown, shown, shown_at}
use Rattle.wtf_imagefmt.specs.Texts.{image_text}
use Rattle.wtf_image.specs.Kept.{IsKept}
use Rattle.wtf_image.specs.Rules.{AreGoodSettings, IsGoodTree}
use Rattle.wtf_image.proofs.SaveMap.{is_kept}
use Rattle.wtf_overlay.specs.Reading.{◌>>=◌}
use Rattle.wtf_changes.specs.Counted.{CanBeCounted}
use Rattle.wtf_changes.specs.Drafts.{applied}
use Rattle.wtf_changes.specs.Law.{IsPictureOf}
use Rattle.wtf_changes.specs.Reading.{changes_of}
use Rattle.wtf_changes.specs.Rows.{ChangeRows}
use Rattle.wtf_changes.specs.Since.{IsChangesOf}
use Rattle.wtf_changes.proofs.Forms.{changes_again}
use Rattle.wtf_changes.proofs.Law.{image_again}
use Rattle.wtf_kv.specs.Stores.{Store, is_pinned}
use Rattle.wtf_values.specs.declared.key.Key.{Key}
use Rattle.wtf_values.specs.declared.value.Value.{Value}
use Rattle.wtf_journal.specs.Held.{Held, held_by}
use Rattle.wtf_journal.specs.Keeper.{StandsAt}
use Rattle.wtf_journal.specs.Meant.{StandsForImage}
use Rattle.wtf_journal.specs.Records.{HasBodies, RestsAt, records}
use Rattle.wtf_journal.specs.Scan.{JournalGives, held_after, make_on}
use Rattle.wtf_journal.proofs.Gives.{read_as}
use Rattle.wtf_journal.proofs.Images.{settled_image}
use Rattle.wtf_journal.proofs.Scans.{held_after-push}
use Rattle.wtf_model.specs.declared.answer.Answer.{Answer}
use Rattle.wtf_model.specs.declared.answer.Answer.TheVariants as answer
use Rattle.wtf_model.specs.declared.event.Event.{Event}
use Rattle.wtf_model.specs.declared.event.Event.TheVariants as event
use Rattle.wtf_core.specs.Promises.{CoreHasRoom}
use Rattle.wtf_core.specs.Views.{CoreView}
use Rattle.wtf_core.proofs.Taking.{same_rows}
use Rattle.wtf_durable.specs.Handled.{HandsImages}
use Rattle.wtf_durable.specs.Journaled.{IsJournaled}
use Rattle.wtf_durable.specs.Promises.{IsImageBody}
use Rattle.wtf_durable.specs.Views.{DurableView}
use Rattle.wtf_durable.proofs.AtNumber.{image_at_number}

-- bytes of a journal give an image of what a store shows
pub record GivesPicture (kv : Store Key Value) (s : Settings) (tx : ℕ) (c : List ℕ) : Type 0 where
  pub rows : ImageRows
  pub gives : JournalGives held_by None c (Some rows)
  pub next : ℕ
  pub picture : IsPictureOf (shown kv) s kv.number next rows
  pub good : AreGoodSettings rows
  pub tree : IsGoodTree rows
  pub begun : next ≤ tx

-- records give an image of what is shown at a number
pub record HavePicture (m : Shown) (s : Settings) (number tx : ℕ) (bodies : List (List ℕ)) : Type 0 where
  pub rows : ImageRows
  pub gives : held_after held_by (Some None) bodies ≡ Some (Some rows)
  pub next : ℕ
  pub picture : IsPictureOf m s number next rows
  pub good : AreGoodSettings rows
  pub tree : IsGoodTree rows
  pub begun : next ≤ tx

-- pictures of the same
pub have_same : {m n : Shown} {s z : Settings} {number now tx later : ℕ} (bodies : List (List ℕ)) → n ≡ m → z ≡ s → now ≡ number → tx ≤ later
    → HavePicture m s number tx bodies → HavePicture n z now later bodies
have_same {m} {n} {s} {z} {number} {now} {tx} {later} bodies shown_is settings number_is more have = record {
  rows = have.rows;
  gives = have.gives;
  next = have.next;
  picture = subst (λ (x : ℕ). IsPictureOf n z x have.next have.rows) (sym number_is)
      (subst (λ (x : Shown). IsPictureOf x z number have.next have.rows) (sym shown_is)
      (subst (λ (x : Settings). IsPictureOf m x number have.next have.rows) (sym settings) have.picture));
  good = have.good;
  tree = have.tree;
  begun = let begun = have.begun in omega (arith, begun, more);
}

pub bodies_give : (kv : Store Key Value) (s : Settings) (tx : ℕ) (bodies : List (List ℕ)) → HavePicture (shown kv) s kv.number tx bodies → (c : List ℕ)
    → HasBodies bodies c → GivesPicture kv s tx c
bodies_give kv s tx bodies have c has = record {
  rows = have.rows;
  gives = record { bodies = bodies; has = has; held_is = have.gives };
  next = have.next;
  picture = have.picture;
  good = have.good;
  tree = have.tree;
  begun = have.begun;
}

-- the image of a save is one of what the store shows
pub save_picture : (kv : Store Key Value) (s : Settings) (next : ℕ) (image : List ℕ) (save : IsSaveOf kv s next image) → IsSavable s.region next (shown kv)
    → IsPictureOf (shown kv) s kv.number next save.rows
save_picture kv s next image save savable = record { savable = savable; shape = save.text.shape; says = save.says; header = save.header }

-- and breaks no rule of settings, numbers or the tree
save_good : (kv : Store Key Value) (s : Settings) (next : ℕ) (image : List ℕ) (save : IsSaveOf kv s next image) → IsSavable s.region next (shown kv)
    → (kv.number ≤ 2 ^ 62) × (next ≤ 2 ^ 62) → AreGoodSettings save.rows × IsGoodTree save.rows
save_good kv s next image save savable room =
    let kept : IsKept kv s next image = is_kept kv s next image save s.limits room.0 room.1 savable in
    let same : kept.rows ≡ save.rows = same_rows kept.rows save.rows image kept.text save.text in
    (subst AreGoodSettings same kept.good, subst IsGoodTree same kept.tree)

-- a journal that stands for it gives one
pub image_gives : (core : CoreView) → CoreHasRoom core → IsSavable core.settings.region core.tables.next_tx (shown core.tables.kv) → (image c : List ℕ)
    → IsSaveOf core.tables.kv core.settings core.tables.next_tx image → StandsForImage c image
    → GivesPicture core.tables.kv core.settings core.tables.next_tx c
image_gives core room savable image c save is =
    let good = save_good core.tables.kv core.settings core.tables.next_tx image save savable room in
    let same : save.rows ≡ is.rows = same_rows save.rows is.rows image save.text is.text in
    record {
      rows = is.rows;
      gives = is.gives;
      next = core.tables.next_tx;
      picture = subst (λ (x : ImageRows). IsPictureOf (shown core.tables.kv) core.settings core.tables.kv.number core.tables.next_tx x) same
          (save_picture core.tables.kv core.settings core.tables.next_tx image save savable);
      good = subst AreGoodSettings same good.0;
      tree = subst IsGoodTree same good.1;
      begun = omega arith;
    }

-- ---- records that are added
abbrev with_body : List (List ℕ) → List ℕ → List (List ℕ)
with_body bodies body = bodies ++ body ∷ []

pushed : (bodies : List (List ℕ)) (held : Held) (body : List ℕ) → held_after held_by (Some None) bodies ≡ Some held
    → held_after held_by (Some None) (with_body bodies body) ≡ held_by held body
pushed bodies held body gives =
    held_after-push held_by (Some None) bodies body ∙ ap (λ (o : Option Held). make_on held_by o body) gives

-- an image of the core
pub image_have : (core : CoreView) → CoreHasRoom core → IsSavable core.settings.region core.tables.next_tx (shown core.tables.kv) → (held : Held)
    (bodies : List (List ℕ)) → held_after held_by (Some None) bodies ≡ Some held → (image : List ℕ)
    → IsSaveOf core.tables.kv core.settings core.tables.next_tx image
    → HavePicture (shown core.tables.kv) core.settings core.tables.kv.number core.tables.next_tx (with_body bodies (0 ∷ image))
image_have core room savable held bodies gives image save = record {
  rows = save.rows;
  gives = pushed bodies held (0 ∷ image) gives ∙ ap (λ (o : Held). o >>= λ x. Some (Some x)) (read_as save.rows image save.text);
  next = core.tables.next_tx;
  picture = save_picture core.tables.kv core.settings core.tables.next_tx image save savable;
  good = (save_good core.tables.kv core.settings core.tables.next_tx image save savable room).0;
  tree = (save_good core.tables.kv core.settings core.tables.next_tx image save savable room).1;
  begun = omega arith;
}

-- it is recorded where the line saved
module _ (core : CoreView) (room : CoreHasRoom core) (bodies : List (List ℕ))
    (have : HavePicture (shown core.tables.kv) core.settings core.tables.kv.number core.tables.next_tx bodies)
    (savable : IsSavable core.settings.region core.tables.next_tx (shown core.tables.kv)) where
  abbrev Have : List (List ℕ) → Type 0
  Have bs = HavePicture (shown core.tables.kv) core.settings core.tables.kv.number core.tables.next_tx bs

  unsaved : (saved : List (List ℕ)) → saved ≡ [] → Have (bodies ++ saved)
  unsaved saved none = subst Have (sym (append-nil bodies) ∙ ap (λ (bs : List (List ℕ)). bodies ++ bs) (sym none)) have

  pub saved_have : (e : Event) (a : Answer) (saved : List (List ℕ)) → IsImageBody core e a saved → Have (bodies ++ saved)
  saved_have event.Save (answer.Saved n) saved is =
      subst Have (ap (λ (bs : List (List ℕ)). bodies ++ bs) (sym is.2)) (image_have core room savable (Some have.rows) bodies have.gives is.0 is.1)
  saved_have e a saved is = unsaved saved is

-- and the changes that came behind it
module _ (kv : Store Key Value) (s : Settings) (since next : ℕ) (bodies : List (List ℕ)) (old : HavePicture (shown_at kv since) s since next bodies)
    (pinned : IsTrue (is_pinned kv since)) (upto : since ≤ kv.number) (changes : List ℕ) (are : IsChangesOf kv since next changes)
    (counted : CanBeCounted (shown kv)) (savable : IsSavable s.region next (shown kv)) (few : kv.number ≤ 2 ^ 62) (last : next ≤ 2 ^ 62) where
  -- ---- an image at the number is there, where its paths and files can be counted
  at_number : (z : ImageRows) × IsPictureOf (shown kv) s kv.number next z × (z.version ≡ Two)
  at_number = image_at_number kv since s old.next next old.rows are.rows pinned upto old.picture are.text.shape are.are counted savable few last

  made : applied old.rows are.rows ≡ Some at_number.0
  made = image_again kv since s next old.rows at_number.0
      (record { pinned = pinned; upto = upto; before = old.next; old = old.picture; new = at_number.1; second = at_number.2 }) are.rows are.text.shape are.are

  -- it is one that a save may have made
  saved_there : IsSaveOf kv s next (image_text at_number.0)
  saved_there = record {
    rows = at_number.0;
    text = record { shape = at_number.1.shape; text = refl };
    version = at_number.2;
    header = at_number.1.header;
    says = at_number.1.says;
  }

  good_there : AreGoodSettings at_number.0 × IsGoodTree at_number.0
  unfolding saved_there
  good_there = save_good kv s next (image_text at_number.0) saved_there savable (few, last)

  pub changes_have : HavePicture (shown kv) s kv.number next (with_body bodies (1 ∷ changes))
  changes_have = record {
    rows = at_number.0;
    gives = pushed bodies (Some old.rows) (1 ∷ changes) old.gives
        ∙ ap (λ (o : Option ChangeRows). o >>= λ ch. applied old.rows ch >>= λ y. Some (Some y))
        (ap changes_of are.text.text ∙ changes_again are.rows are.text.shape)
        ∙ ap (λ (o : Held). o >>= λ y. Some (Some y)) made;
    next = next;
    picture = at_number.1;
    good = good_there.0;
    tree = good_there.1;
    begun = omega arith;
  }

module _ {D : Type 0} (kind : DiskKind D) where
  -- ---- between events
  rest_has : (disk : D) (end : ℕ) (bodies : List (List ℕ)) → RestsAt kind disk end bodies → (c : List ℕ) → IsFileImage ((kind.view disk).file 0) c
      → HasBodies bodies c
  rest_has disk end bodies rests c image = inl (record {
    gate = rests.gate;
    rest = rests.rest;
    closed = rests.closed;
    split = settled_image (records bodies ++ (rests.gate ∷ rests.rest)) c ((kind.view disk).file 0) rests.settled image;
    short = rests.short;
  })

  pub journaled_has : (disk : D) (d : DurableView) (j : IsJournaled kind disk d)
      → HavePicture (shown d.core.tables.kv) d.core.settings d.core.tables.kv.number d.core.tables.next_tx j.bodies
  journaled_has disk d j = record {
    rows = j.rows;
    gives = j.gives;
    next = j.next;
    picture = j.picture;
    good = j.good;
    tree = j.tree;
    begun = j.begun;
  }

  pub journaled_stands : (disk : D) (d : DurableView) → IsJournaled kind disk d → StandsAt kind disk d.journal.end
  journaled_stands disk d j = record { bodies = j.bodies; rests = j.rests; held = Some j.rows; held_is = j.gives }

  pub journaled_gives : (disk : D) (d : DurableView) → IsJournaled kind disk d → (c : List ℕ) → IsFileImage ((kind.view disk).file 0) c
      → GivesPicture d.core.tables.kv d.core.settings d.core.tables.next_tx c
  journaled_gives disk d j c image =
      bodies_give d.core.tables.kv d.core.settings d.core.tables.next_tx j.bodies (journaled_has disk d j) c
      (rest_has disk d.journal.end j.bodies j.rests c image)

  -- ---- at any moment since the core began with the line
  module _ (laws : DiskLaws kind) (before after : D) (d : DurableView) (tells : (kind.view before).tells ≡ true) (j : IsJournaled kind before d)
      (hands : HandsImages kind before after d.journal.end d.core)
      (savable : IsSavable d.core.settings.region d.core.tables.next_tx (shown d.core.tables.kv)) (room : CoreHasRoom d.core) where
    abbrev Gives : List ℕ → Type 0
    Gives c = GivesPicture d.core.tables.kv d.core.settings d.core.tables.next_tx c

    kept_gives : (c0 c : List ℕ) → Gives c0 → ((held : Held) → JournalGives held_by None c0 held → JournalGives held_by None c held) → Gives c
    kept_gives c0 c old keeps = record {
      rows = old.rows;
      gives = keeps (Some old.rows) old.gives;
      next = old.next;
      picture = old.picture;
      good = old.good;
      tree = old.tree;
      begun = old.begun;
    }

    pub handed_gives : (c : DiskContent) → kind.left_since after (kind.view before).moment c → Gives (c 0)
    handed_gives c left =
        ⊎_elim
        (λ was. journaled_gives before d j (c 0) (laws.only_now before c tells was 0))
        (λ means. ⊎_elim
        (λ kept. kept_gives kept.0 (c 0) (journaled_gives before d j kept.0 kept.1) (λ held gives. (kept.2.same held).0 gives))
        (λ new. image_gives d.core room savable new.0 (c 0) (hands.each new.0 new.1) new.2)
        means)
        ((hands.moments tells (journaled_stands before d j)).since (kind.view before).moment c (omega arith) left)
