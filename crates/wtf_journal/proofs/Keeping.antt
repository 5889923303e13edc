-- What a keeper that appends images says more than a keeper has to.
use Rattle.std.specs.Prelude.{if◌then◌else◌, Option, None, Some, Result, Ok, Err}
use Rattle.std.specs.Result.{is_ok}
use Rattle.std.proofs.Common.{◌≡◌, ◌<◌, ◌≤◌, ◌+◌, ◌∙◌, ◌++◌, ◌⊎◌, ℕ, Bool, true, false, List, [], ◌∷◌, length, take, drop, inl, inr, refl, sym, ap, subst}
use Rattle.std.proofs.Common.{arith, append_assoc, append-nil, length-append}
use Rattle.std.specs.Int.{w64, to_be_bytes}
use Rattle.std.proofs.lemmas.List.{drop-take, drop_at, length-take-le, take_all, take_at}
use Rattle.std.proofs.lemmas.List.Elements.{All-cons, All-nil, Contains-push}
use Rattle.wtf_dev.specs.Counts.{Rose}
use Rattle.wtf_dev.specs.Disk.{DiskContent, DiskFileView, DiskGoesOn, DiskKind, DiskLaws, DiskLeaves, DiskReads, IsFileImage, IsSettled, SameElsewhere}
use Rattle.wtf_overlay.specs.Reading.{◌>>=◌}
use Rattle.wtf_changes.specs.Applying.{IsSomeImage}
use Rattle.wtf_imagefmt.specs.declared.records.Image.{Image}
use Rattle.wtf_imagefmt.specs.Reading.{image_of}
use Rattle.wtf_imagefmt.specs.Rows.{image_rows}
use Rattle.wtf_spillfmt.specs.declared.error.ListError.{ListError}
use Rattle.wtf_spillfmt.specs.Parses.{Parses}
use Rattle.wtf_spillfmt.proofs.Codecs.{IsBytes}
use Rattle.wtf_journal.specs.declared.keeper.JournalKeeper.{JournalKeeper}
use Rattle.wtf_journal.specs.Held.{Held, held_by}
use Rattle.wtf_journal.specs.Keeper.{IsSane, JournalFollows, StandsAt, journal_keeper_view}
use Rattle.wtf_journal.specs.Meant.{MeansOneOf}
use Rattle.wtf_journal.specs.Moments.{in_call, stays, weaker}
use Rattle.wtf_journal.specs.Records.{BeforeOrAfter, RestsAt, framed, gated, records}
use Rattle.wtf_journal.specs.Scan.{JournalGives, held_after, make_on}
use Rattle.wtf_journal.specs.Views.{JournalView, image_in}
use Rattle.wtf_journal.proofs.Gives.{read_as, text_as}
use Rattle.wtf_journal.proofs.Scans.{held_after-push, same_bytes, same_meaning}

-- the bytes of an image that was appended are there
module _ (s image : List ℕ) (end : ℕ) (inside : end < length s) where
  abbrev size : List ℕ
  size = to_be_bytes w64 (length (0 ∷ image))

  abbrev before : List ℕ
  before = take end s ++ (1 ∷ (size ++ 0 ∷ []))

  abbrev bytes : List ℕ
  bytes = framed (0 ∷ image) ++ 0 ∷ []

  abbrev behind : List ℕ
  behind = 0 ∷ drop (end + 1 + length bytes) s

  spelled : gated s end bytes 1 ≡ before ++ (image ++ behind)
  spelled =
      ap (λ (l : List ℕ). take end s ++ (1 ∷ l))
      (append_assoc (framed (0 ∷ image)) (0 ∷ []) (drop (end + 1 + length bytes) s) ∙ append_assoc size (0 ∷ image) behind
      ∙ sym (append_assoc size (0 ∷ []) (image ++ behind)))
      ∙ sym (append_assoc (take end s) (1 ∷ (size ++ 0 ∷ [])) (image ++ behind))

  before_length : length before ≡ end + 10
  before_length = omega (
    arith,
    length-append (take end s) (1 ∷ (size ++ 0 ∷ [])),
    length-take-le end s (omega (arith, inside)),
    length-append size (0 ∷ []),
  )

  pub image_gated : take (length image) (drop (end + 10) (take (end + 10 + length image) (gated s end bytes 1))) ≡ image
  image_gated =
      ap (λ (l : List ℕ). take (length image) l)
      (drop-take (end + 10) (length image) (gated s end bytes 1)
      ∙ ap (λ (l : List ℕ). take (length image) l)
      (ap (λ (l : List ℕ). drop (end + 10) l) spelled ∙ drop_at before (image ++ behind) (end + 10) before_length)
      ∙ take_at image behind (length image) refl)
      ∙ take_all (length image) image (omega arith)

-- what is held where it is told
pub held_is : (t : Bool) (x b : List ℕ) → (if t then Some x else None) ≡ Some b → (t ≡ true) × (x ≡ b)
held_is true x b is = (refl, ap (some_or x) is)
  where
    some_or : List ℕ → Option (List ℕ) → List ℕ
    some_or d None = d
    some_or d (Some y) = y
held_is false x b is = absurd (cc is)

pub held_if : (t : Bool) (x b : List ℕ) → t ≡ true → x ≡ b → (if t then Some x else None) ≡ Some b
held_if true x b is same = ap (λ (l : List ℕ). Some l) same
held_if false x b is same = absurd (cc is)

held_same : (t u : Bool) (x y : List ℕ) → u ≡ t → (t ≡ true → y ≡ x) → (if u then Some y else None) ≡ (if t then Some x else None)
held_same true true x y is same = ap (λ (l : List ℕ). Some l) (same refl)
held_same false false x y is same = refl
held_same true false x y is same = absurd (cc is)
held_same false true x y is same = absurd (cc is)

-- bytes that are read as an image are one
pub read_image : (r : Result Image ListError) (bytes : List ℕ) → IsBytes bytes → Parses image_rows r (image_of bytes) → is_ok r ≡ true → IsSomeImage bytes
read_image (Ok x) bytes fits reads is = record { rows = image_rows x; text = text_as bytes (image_rows x) fits reads }
read_image (Err why) bytes fits reads is = absurd (cc is)

-- `replace` did not come to an append
pub refuses : {D : Type 0} (kind : DiskKind D) (k : JournalKeeper D) (short : ℕ) (images : List (List ℕ)) → k.short ≤ short → Rose k.short short
    → JournalFollows kind k (record k { short = short }) images
refuses kind k short images le rose = record {
  kept = record { faults = omega (arith, le); bytes = λ b told. inl told; tells = refl };
  journal = refl;
  disk = refl;
  goes_on = record { faults = omega arith; size = λ f. omega arith; tells = refl };
  elsewhere = λ tells f ne. refl;
  reach = λ inside. inside;
  short = le;
  fails = λ is. is;
  cause = λ was is. absurd (cc (was, is));
  rests = λ tells bodies rests whole. record {
    added = [];
    rests = subst (λ (l : List (List ℕ)). RestsAt kind k.disk.now k.journal.now.end l) (sym (append-nil bodies)) rests;
    are_images = All-nil IsSomeImage;
    all = inr rose;
  };
  moments = λ tells sane. (sane, stays kind k.disk.now _);
}

-- nothing was written
module _ {D : Type 0} (kind : DiskKind D) (old new : JournalKeeper D) (same : new.journal.now ≡ old.journal.now)
    (r : DiskReads kind old.disk.now new.disk.now) where
  pub held_read : (journal_keeper_view kind new).held ≡ (journal_keeper_view kind old).held
  held_read = held_same (kind.view old.disk.now).tells (kind.view new.disk.now).tells _ _ r.goes_on.tells
      (λ tells. ap (λ (j : JournalView). image_in j ((kind.view new.disk.now).file 0).seen) same
      ∙ ap (λ (v : DiskFileView). image_in old.journal.now v.seen) (r.files tells 0))

  rests_read : (bodies : List (List ℕ)) → (kind.view old.disk.now).tells ≡ true → RestsAt kind old.disk.now old.journal.now.end bodies
      → RestsAt kind new.disk.now new.journal.now.end bodies
  rests_read bodies tells rests = record {
    gate = rests.gate;
    rest = rests.rest;
    closed = rests.closed;
    settled = subst (λ (v : DiskFileView). IsSettled (records bodies ++ (rests.gate ∷ rests.rest)) v) (sym (r.files tells 0)) rests.settled;
    end_is = ap (λ (j : JournalView). j.end) same ∙ rests.end_is;
    short = rests.short;
  }

  failed_read : new.journal.now.failed ≡ old.journal.now.failed
  failed_read = ap (λ (j : JournalView). j.failed) same

  pub reads_follow : new.journal.ghost_name ≡ old.journal.ghost_name → new.disk.ghost_name ≡ old.disk.ghost_name → new.short ≡ old.short
      → JournalFollows kind old new []
  reads_follow journal disk short = record {
    kept = record { faults = omega (arith, r.goes_on.faults, short); bytes = λ b told. inl (held_read ∙ told); tells = r.goes_on.tells };
    journal = journal;
    disk = disk;
    goes_on = r.goes_on;
    elsewhere = λ tells f ne. r.files tells f;
    reach = λ inside. omega (arith, inside, ap (λ (j : JournalView). j.end) same, r.sizes 0);
    short = omega (arith, short);
    fails = λ is. failed_read ∙ is;
    cause = λ was is. absurd (cc (failed_read, was, is));
    rests = λ tells bodies rests whole. record {
      added = [];
      rests = subst (λ (l : List (List ℕ)). RestsAt kind new.disk.now new.journal.now.end l) (sym (append-nil bodies)) (rests_read bodies tells rests);
      are_images = All-nil IsSomeImage;
      all = inl refl;
    };
    moments = λ tells sane. (
      λ whole.
          let at = sane (sym failed_read ∙ whole) in
          record { bodies = at.bodies; rests = rests_read at.bodies tells at.rests; held = at.held; held_is = at.held_is },
      in_call kind old.disk.now new.disk.now (MeansOneOf (kind.view old.disk.now) []) (r.time tells) (λ c left. inl (
        c 0,
        subst (λ (v : DiskFileView). IsFileImage v (c 0)) (r.files tells 0) (left 0),
        same_bytes held_by None (c 0) (c 0) refl,
      )),
    );
  }

-- what an append of an image keeps to, done or failed
pub record AppendsImage {D : Type 0} (kind : DiskKind D) (old new : JournalKeeper D) (image : List ℕ) : Type 0 where
  pub journal : new.journal.ghost_name ≡ old.journal.ghost_name
  pub disk : new.disk.ghost_name ≡ old.disk.ghost_name
  pub whole : old.journal.now.failed ≡ false
  pub reach : old.journal.now.end < (kind.view old.disk.now).size 0
  pub is_image : IsSomeImage image
  pub any_moment : (bodies : List (List ℕ)) → (kind.view old.disk.now).tells ≡ true → RestsAt kind old.disk.now old.journal.now.end bodies
      → DiskLeaves kind old.disk.now new.disk.now (λ c. BeforeOrAfter bodies (0 ∷ image) (c 0))
  pub goes_on : DiskGoesOn kind old.disk.now new.disk.now
  pub elsewhere : (kind.view old.disk.now).tells ≡ true → SameElsewhere 0 (kind.view old.disk.now) (kind.view new.disk.now)

-- what it makes where it is done
pub record ImageAppended {D : Type 0} (kind : DiskKind D) (old new : JournalKeeper D) (image : List ℕ) : Type 0 where
  pub acknowledged : (bodies : List (List ℕ)) → (kind.view old.disk.now).tells ≡ true → RestsAt kind old.disk.now old.journal.now.end bodies
      → RestsAt kind new.disk.now new.journal.now.end (bodies ++ (0 ∷ image) ∷ [])
  pub settled : (kind.view old.disk.now).tells ≡ true
      → IsSettled (gated ((kind.view old.disk.now).file 0).seen old.journal.now.end (framed (0 ∷ image) ++ 0 ∷ []) 1) ((kind.view new.disk.now).file 0)
  pub added : new.journal.now ≡ record {
    end = old.journal.now.end + 10 + length image;
    failed = false;
    image_at = old.journal.now.end + 10;
    image_len = length image;
  }
  pub reach : new.journal.now.end < (kind.view new.disk.now).size 0
  pub short : new.short ≡ old.short

-- and where it failed
pub record AppendFailed {D : Type 0} (kind : DiskKind D) (old new : JournalKeeper D) : Type 0 where
  pub front : (kind.view old.disk.now).tells ≡ true
      → take old.journal.now.end ((kind.view new.disk.now).file 0).seen ≡ take old.journal.now.end ((kind.view old.disk.now).file 0).seen
  pub stays : new.journal.now ≡ record old.journal.now { failed = true }
  pub short : old.short ≤ new.short
  pub cause : Rose old.short new.short ⊎ Rose (kind.view old.disk.now).faults (kind.view new.disk.now).faults

module _ {D : Type 0} (kind : DiskKind D) (laws : DiskLaws kind) (old new : JournalKeeper D) (image : List ℕ) (w : AppendsImage kind old new image) where
  abbrev seen : List ℕ
  seen = ((kind.view old.disk.now).file 0).seen

  module _ (s : StandsAt kind old.disk.now old.journal.now.end) where
    pushed : held_after held_by (Some None) (s.bodies ++ (0 ∷ image) ∷ []) ≡ Some (Some w.is_image.rows)
    pushed =
        held_after-push held_by (Some None) s.bodies (0 ∷ image)
        ∙ ap (λ (o : Option Held). make_on held_by o (0 ∷ image)) s.held_is
        ∙ ap (λ (o : Held). o >>= λ y. Some (Some y)) (read_as w.is_image.rows image w.is_image.text)

    given : JournalGives held_by None seen s.held
    given = record {
      bodies = s.bodies;
      has = inl (record { gate = s.rests.gate; rest = s.rests.rest; closed = s.rests.closed; split = s.rests.settled.seen; short = s.rests.short });
      held_is = s.held_is;
    }

    means : (kind.view old.disk.now).tells ≡ true → (c : DiskContent) → BeforeOrAfter s.bodies (0 ∷ image) (c 0)
        → MeansOneOf (kind.view old.disk.now) (image ∷ []) c
    means tells c (inl before) = inl (
      seen,
      laws.reads old.disk.now tells 0,
      same_meaning held_by None seen (c 0) s.held given (record { bodies = s.bodies; has = before; held_is = s.held_is }),
    )
    means tells c (inr after) = inr (
      image,
      Contains-push [] image,
      record {
        rows = w.is_image.rows;
        text = w.is_image.text;
        gives = record { bodies = s.bodies ++ (0 ∷ image) ∷ []; has = after; held_is = pushed };
      },
    )

  leaves : (kind.view old.disk.now).tells ≡ true → IsSane kind old
      → DiskLeaves kind old.disk.now new.disk.now (MeansOneOf (kind.view old.disk.now) (image ∷ []))
  leaves tells sane =
      let s = sane w.whole in
      weaker kind old.disk.now new.disk.now (λ c. BeforeOrAfter s.bodies (0 ∷ image) (c 0)) (MeansOneOf (kind.view old.disk.now) (image ∷ []))
      (w.any_moment s.bodies tells s.rests) (means s tells)

  module _ (ok : ImageAppended kind old new image) where
    pub image_held : (kind.view old.disk.now).tells ≡ true → (journal_keeper_view kind new).held ≡ Some image
    image_held tells = held_if (kind.view new.disk.now).tells _ image (w.goes_on.tells ∙ tells)
        (ap (λ (j : JournalView). image_in j ((kind.view new.disk.now).file 0).seen) ok.added
        ∙ ap (λ (l : List ℕ). take (length image) (drop (old.journal.now.end + 10) (take (old.journal.now.end + 10 + length image) l))) (ok.settled tells).seen
        ∙ image_gated seen image old.journal.now.end (omega (arith, w.reach, laws.lengths old.disk.now 0 tells)))

    pub appended_follows : JournalFollows kind old new (image ∷ [])
    appended_follows = record {
      kept = record {
        faults = omega (arith, w.goes_on.faults, ok.short);
        bytes = λ b told. inr (image, Contains-push [] image, image_held (held_is (kind.view old.disk.now).tells _ b told).0);
        tells = w.goes_on.tells;
      };
      journal = w.journal;
      disk = w.disk;
      goes_on = w.goes_on;
      elsewhere = w.elsewhere;
      reach = λ inside. ok.reach;
      short = omega (arith, ok.short);
      fails = λ is. absurd (cc (w.whole, is));
      cause = λ was is. absurd (cc (ap (λ (j : JournalView). j.failed) ok.added, is));
      rests = λ tells bodies rests whole. record {
        added = image ∷ [];
        rests = ok.acknowledged bodies tells rests;
        are_images = All-cons IsSomeImage image [] w.is_image (All-nil IsSomeImage);
        all = inl refl;
      };
      moments = λ tells sane. (
        λ whole.
            let s = sane w.whole in
            record {
              bodies = s.bodies ++ (0 ∷ image) ∷ [];
              rests = ok.acknowledged s.bodies tells s.rests;
              held = Some w.is_image.rows;
              held_is = pushed s;
            },
        leaves tells sane,
      );
    }

  module _ (failed : AppendFailed kind old new) where
    is_failed : new.journal.now.failed ≡ true
    is_failed = ap (λ (j : JournalView). j.failed) failed.stays

    pub failed_follows : JournalFollows kind old new (image ∷ [])
    failed_follows = record {
      kept = record {
        faults = omega (arith, w.goes_on.faults, failed.short);
        bytes = λ b told. inl (held_same (kind.view old.disk.now).tells (kind.view new.disk.now).tells _ _ w.goes_on.tells
            (λ tells. ap (λ (j : JournalView). image_in j ((kind.view new.disk.now).file 0).seen) failed.stays
            ∙ ap (λ (l : List ℕ). take old.journal.now.image_len (drop old.journal.now.image_at l)) (failed.front tells)) ∙ told);
        tells = w.goes_on.tells;
      };
      journal = w.journal;
      disk = w.disk;
      goes_on = w.goes_on;
      elsewhere = w.elsewhere;
      reach = λ inside. omega (arith, inside, w.goes_on.size 0, ap (λ (j : JournalView). j.end) failed.stays);
      short = failed.short;
      fails = λ is. is_failed;
      cause = λ was is. failed.cause;
      rests = λ tells bodies rests whole. absurd (cc (is_failed, whole));
      moments = λ tells sane. (λ whole. absurd (cc (is_failed, whole)), leaves tells sane);
    }
