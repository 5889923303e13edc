-- A journal as a keeper of one image. Its `impl` gives the proof of the laws, so that stands beside the definitions.
use Rattle.std.specs.Prelude.{◌≡◌, ◌⊎◌, ℕ, ◌+◌, ◌<◌, ◌≤◌, Bool, true, false, if◌then◌else◌, Option, None, Some, List, [], ◌∷◌, ◌++◌, map, refl}
use Rattle.std.specs.List.{All}
use Rattle.std.proofs.Common.{arith, ◌∙◌, sym, ap, subst, inl, inr, ⊎_elim, append-nil}
use Rattle.std.proofs.lemmas.List.Elements.{All-append, All-nil}
use Rattle.wtf_dev.specs.Counts.{Rose}
use Rattle.wtf_dev.specs.Disk.{DiskGoesOn, DiskKind, DiskLaws, DiskLeaves, SameElsewhere}
use Rattle.wtf_dev.specs.Keep.{KeeperKept, KeeperView}
use Rattle.wtf_dev.specs.MemoryLaws.{keeper_kept_on, keeper_kept_same}
use Rattle.wtf_changes.specs.Applying.{IsSomeImage}
use Rattle.wtf_journal.specs.declared.keeper.JournalKeeper.{JournalKeeper}
use Rattle.wtf_journal.specs.Held.{Held, held_by}
use Rattle.wtf_journal.specs.Meant.{MeansOneOf, means_on}
use Rattle.wtf_journal.specs.Moments.{goes_on_on, stays}
use Rattle.wtf_journal.specs.Records.{RestsAt}
use Rattle.wtf_journal.specs.Scan.{held_after}
use Rattle.wtf_journal.specs.Views.{JournalView, image_in}

-- the last image, where the bytes of file 0 are told
abbrev pub held_in : Bool → JournalView → List ℕ → Option (List ℕ)
held_in tells j seen = if tells then Some (image_in j seen) else None

-- The count of faults is that of the disk and `short` together.
abbrev pub journal_keeper_view : {D : Type 0} → DiskKind D → JournalKeeper D → KeeperView
journal_keeper_view kind k = record {
  faults = (kind.view k.disk.now).faults + k.short;
  held = held_in (kind.view k.disk.now).tells k.journal.now ((kind.view k.disk.now).file 0).seen;
  tells = (kind.view k.disk.now).tells;
}

-- the records are at rest, and stand for something
pub record StandsAt {D : Type 0} (kind : DiskKind D) (d : D) (end : ℕ) : Type 0 where
  pub bodies : List (List ℕ)
  pub rests : RestsAt kind d end bodies
  pub held : Held
  pub held_is : held_after held_by (Some None) bodies ≡ Some held

-- so they are, unless a call on the journal failed
abbrev pub IsSane : {D : Type 0} → DiskKind D → JournalKeeper D → Type 0
IsSane kind k = k.journal.now.failed ≡ false → StandsAt kind k.disk.now k.journal.now.end

-- the body of a record of an image
abbrev pub image_body : List ℕ → List ℕ
image_body image = 0 ∷ image

-- what was appended to these records: all of the images, or `short` rose
pub record AddsImages {D : Type 0} (kind : DiskKind D) (old new : JournalKeeper D) (bodies images : List (List ℕ)) : Type 0 where
  pub added : List (List ℕ)
  pub rests : RestsAt kind new.disk.now new.journal.now.end (bodies ++ map image_body added)
  pub are_images : All IsSomeImage added
  pub all : (added ≡ images) ⊎ Rose old.short new.short

-- What it says more than a keeper has to, where these images were handed to it.
pub record JournalFollows {D : Type 0} (kind : DiskKind D) (old new : JournalKeeper D) (images : List (List ℕ)) : Type 0 where
  pub kept : KeeperKept (journal_keeper_view kind old) (journal_keeper_view kind new) images
  -- it lends the same journal and the same disk
  pub journal : new.journal.ghost_name ≡ old.journal.ghost_name
  pub disk : new.disk.ghost_name ≡ old.disk.ghost_name
  pub goes_on : DiskGoesOn kind old.disk.now new.disk.now
  pub elsewhere : (kind.view old.disk.now).tells ≡ true → SameElsewhere 0 (kind.view old.disk.now) (kind.view new.disk.now)
  pub reach : old.journal.now.end < (kind.view old.disk.now).size 0 → new.journal.now.end < (kind.view new.disk.now).size 0
  pub short : old.short ≤ new.short
  pub fails : old.journal.now.failed ≡ true → new.journal.now.failed ≡ true
  -- why the journal failed
  pub cause : old.journal.now.failed ≡ false → new.journal.now.failed ≡ true
      → Rose old.short new.short ⊎ Rose (kind.view old.disk.now).faults (kind.view new.disk.now).faults
  pub rests : (kind.view old.disk.now).tells ≡ true → (bodies : List (List ℕ)) → RestsAt kind old.disk.now old.journal.now.end bodies
      → new.journal.now.failed ≡ false → AddsImages kind old new bodies images
  -- a stop at any moment between leaves what one before may leave, or a journal of one of the images
  pub moments : (kind.view old.disk.now).tells ≡ true → IsSane kind old
      → IsSane kind new × DiskLeaves kind old.disk.now new.disk.now (MeansOneOf (kind.view old.disk.now) images)

-- after a `replace` that failed: the journal did, or `short` rose
abbrev pub JournalRefuses : {D : Type 0} → JournalKeeper D → JournalKeeper D → Type 0
JournalRefuses old new = ((old.journal.now.failed ≡ false) × (new.journal.now.failed ≡ true)) ⊎ Rose old.short new.short

pub journal_itself : {D : Type 0} (kind : DiskKind D) (k : JournalKeeper D) → JournalFollows kind k k []
journal_itself kind k = record {
  kept = keeper_kept_same (journal_keeper_view kind k);
  journal = refl;
  disk = refl;
  goes_on = record { faults = omega arith; size = λ f. omega arith; tells = refl };
  elsewhere = λ tells f ne. refl;
  reach = λ inside. inside;
  short = omega arith;
  fails = λ is. is;
  cause = λ was is. absurd (cc (was, is));
  rests = λ tells bodies rests whole. record {
    added = [];
    rests = subst (λ (l : List (List ℕ)). RestsAt kind k.disk.now k.journal.now.end l) (sym (append-nil bodies)) rests;
    are_images = All-nil IsSomeImage;
    all = inl refl;
  };
  moments = λ tells sane. (sane, stays kind k.disk.now _);
}

-- a count that rose in a later or an earlier part rose
rose_before : (a b c : ℕ) → Rose a b → b ≤ c → Rose a c
rose_before a b c rose le below = let more = rose (omega (arith, le, below)) in omega (arith, more, le)

rose_behind : (a b c : ℕ) → a ≤ b → Rose b c → Rose a c
rose_behind a b c le rose below = let more = rose below in omega (arith, le, more)

bodies_on : (bodies xs ys : List (List ℕ)) → (bodies ++ map image_body xs) ++ map image_body ys ≡ bodies ++ map image_body (xs ++ ys)
bodies_on [] [] ys = refl
bodies_on [] (x ∷ xs) ys = ap (λ (l : List (List ℕ)). image_body x ∷ l) (bodies_on [] xs ys)
bodies_on (b ∷ bodies) xs ys = ap (λ (l : List (List ℕ)). b ∷ l) (bodies_on bodies xs ys)

module _ {D : Type 0} (kind : DiskKind D) (laws : DiskLaws kind) (a b c : JournalKeeper D) (xs ys : List (List ℕ))
    (p : JournalFollows kind a b xs) (q : JournalFollows kind b c ys) where
  -- where it did not fail in the end it did not before
  whole : c.journal.now.failed ≡ false → b.journal.now.failed ≡ false
  whole is = by b.journal.now.failed refl
    where
      by : (t : Bool) → b.journal.now.failed ≡ t → b.journal.now.failed ≡ false
      by false was = was
      by true was = absurd (cc (q.fails was, is))

  cause_on : a.journal.now.failed ≡ false → c.journal.now.failed ≡ true
      → Rose a.short c.short ⊎ Rose (kind.view a.disk.now).faults (kind.view c.disk.now).faults
  cause_on was is = by b.journal.now.failed refl
    where
      by : (t : Bool) → b.journal.now.failed ≡ t → Rose a.short c.short ⊎ Rose (kind.view a.disk.now).faults (kind.view c.disk.now).faults
      by true failed = ⊎_elim
          (λ rose. inl (rose_before a.short b.short c.short rose q.short))
          (λ rose. inr (rose_before (kind.view a.disk.now).faults (kind.view b.disk.now).faults (kind.view c.disk.now).faults rose q.goes_on.faults))
          (p.cause was failed)
      by false still = ⊎_elim
          (λ rose. inl (rose_behind a.short b.short c.short p.short rose))
          (λ rose. inr (rose_behind (kind.view a.disk.now).faults (kind.view b.disk.now).faults (kind.view c.disk.now).faults p.goes_on.faults rose))
          (q.cause still is)

  all_added : (us vs : List (List ℕ)) → (us ≡ xs) ⊎ Rose a.short b.short → (vs ≡ ys) ⊎ Rose b.short c.short
      → (us ++ vs ≡ xs ++ ys) ⊎ Rose a.short c.short
  all_added us vs (inr rose) s = inr (rose_before a.short b.short c.short rose q.short)
  all_added us vs (inl is) (inr rose) = inr (rose_behind a.short b.short c.short p.short rose)
  all_added us vs (inl is) (inl also) = inl (ap (λ (l : List (List ℕ)). l ++ vs) is ∙ ap (λ (l : List (List ℕ)). xs ++ l) also)

  adds_on : (bodies : List (List ℕ)) (first : AddsImages kind a b bodies xs) → AddsImages kind b c (bodies ++ map image_body first.added) ys
      → AddsImages kind a c bodies (xs ++ ys)
  adds_on bodies first second = record {
    added = first.added ++ second.added;
    rests = subst (λ (l : List (List ℕ)). RestsAt kind c.disk.now c.journal.now.end l) (bodies_on bodies first.added second.added) second.rests;
    are_images = All-append IsSomeImage first.added second.added first.are_images second.are_images;
    all = all_added first.added second.added first.all second.all;
  }

  pub journal_on : JournalFollows kind a c (xs ++ ys)
  journal_on = record {
    kept = keeper_kept_on (journal_keeper_view kind a) (journal_keeper_view kind b) (journal_keeper_view kind c) xs ys p.kept q.kept;
    journal = q.journal ∙ p.journal;
    disk = q.disk ∙ p.disk;
    goes_on = goes_on_on kind a.disk.now b.disk.now c.disk.now p.goes_on q.goes_on;
    elsewhere = λ tells f ne. q.elsewhere (p.goes_on.tells ∙ tells) f ne ∙ p.elsewhere tells f ne;
    reach = λ inside. q.reach (p.reach inside);
    short = omega (arith, p.short, q.short);
    fails = λ is. q.fails (p.fails is);
    cause = cause_on;
    rests = λ tells bodies rests is.
        let first = p.rests tells bodies rests (whole is)
        in adds_on bodies first (q.rests (p.goes_on.tells ∙ tells) (bodies ++ map image_body first.added) first.rests is);
    moments = λ tells sane.
        let still = p.goes_on.tells ∙ tells in
        let first = p.moments tells sane in
        let second = q.moments still first.0 in
        (second.0, means_on kind laws a.disk.now b.disk.now xs ys tells still first.1 c.disk.now second.1);
  }
