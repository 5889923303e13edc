use Rattle.std.proofs.Common.{sym, ap, subst, ◌∙◌, ◌≡◌, ◌+◌, ◌≤◌, Some, None, ⊎_elim, nat_eq, true}
use Rattle.std.proofs.lemmas.Bool.{cases_lt}
use Rattle.std.specs.List.{list_any}
use Rattle.wtf_kv.specs.Stores.{map_at, version_of, versions_of}
use Rattle.wtf_kv.specs.Edits.{first_unfit, over, versions_with, version_with}
use Rattle.wtf_kv.specs.Causes.{IsCause}
use Rattle.wtf_kv.specs.declared.ready.NotReady.TheVariants.{Unfit}
use Rattle.wtf_occ.specs.Tries.{first_moved, or_else}
use Rattle.wtf_occ.proofs.Agree.{unfit_on_both}
use Rattle.wtf_occ.proofs.AttemptLaws.{Agree-unmoved}
use Rattle.wtf_occ.proofs.attempt.Attempt.install.Goals as goal

pub returns-in-Err-Unfit-clause-tried : goal.returns-in-Err-Unfit-clause-tried
returns-in-Err-Unfit-clause-tried g c =
    let order = g.K.Ord.cmp in
    let kv = c.args.kv.now in
    let held = c.args.self.now in
    let base = held.base in
    let key = c.in-Err-Unfit.key in
    let inside : c.self.inside.base ≡ base = ap (λ a. a.base) c.self.view_is in
    let changes : c.changes.result.now ≡ held.changes = c.changes.ensures ∙ ap (λ a. a.changes) c.self.view_is in
    let reads : c.as_slice.result.now ≡ held.reads = c.as_slice.ensures.value ∙ ap (λ a. a.reads) c.self.view_is in
    let number : c.number-number.result ≡ kv.number = c.number-number.ensures.number in
    let pinned : list_any (nat_eq base) kv.pins ≡ true = c.requires.pinned in
    let le : base ≤ kv.number = subst (λ n. base ≤ n) number (c.number-number.ensures.pins base pinned) in
    let is : c.in-Err-Unfit.field-0 ≡ Unfit key = c.in-Err-Unfit.field-0-is in
    let unfit : first_unfit order g.C.Cell.outcome held.changes (map_at order kv kv.number) ≡ Some key =
    rw (← changes) (subst (λ why. IsCause why (first_unfit order g.C.Cell.outcome c.changes.result.now (map_at order kv kv.number))) is c.in-Err-Unfit.ensures.cause) in
    let still : first_moved order base held.reads kv ≡ None =
    rw (← inside, ← reads) (sym c.in_default.ensures.first) in
    let now : c.version_at-now-in-Err-Unfit.result ≡ version_of order kv kv.number key =
    c.version_at-now-in-Err-Unfit.ensures.version ∙ ap (λ n. version_of order c.reserve_install.new.self n key) number ∙ ap (λ f. f key) (c.reserve_install.ensures.versions kv.number) in
    let seen : c.version_at-seen-in-Err-Unfit.result ≡ version_of order kv base key =
    c.version_at-seen-in-Err-Unfit.ensures.version ∙ ap (λ n. version_of order c.reserve_install.new.self n key) inside ∙ ap (λ f. f key) (c.reserve_install.ensures.versions base) in
    let agree : c.version_at-now-in-Err-Unfit.result ≤ base → map_at order kv kv.number key ≡ map_at order kv base key = λ old.
    sym (sym (ap (λ f. f key) (c.reserve_install.ensures.maps base))
    ∙ c.version_at-now-in-Err-Unfit.ensures.unmoved base (subst (λ ps. list_any (nat_eq base) ps ≡ true) (sym c.reserve_install.ensures.same.pins) pinned) (c.number-number.ensures.pins base pinned) old
    ∙ ap (λ n. map_at order c.reserve_install.new.self n key) number
    ∙ ap (λ f. f key) (c.reserve_install.ensures.maps kv.number)) in
    record {
      names = ap (λ m. or_else m (first_unfit order g.C.Cell.outcome held.changes (map_at order kv kv.number))) still ∙ unfit;
      seen_is = seen;
      now_is = now;
      moved = ⊎_elim (λ lt. lt) (λ old. absurd (unfit_on_both order g.C.Cell.outcome held.changes _ _ key (agree old) unfit c.requires.fits)) (cases_lt base c.version_at-now-in-Err-Unfit.result);
      bound = subst (λ n. c.version_at-now-in-Err-Unfit.result ≤ n) number c.version_at-now-in-Err-Unfit.ensures.bound;
      stays = record { same = c.reserve_install.ensures.same; maps = c.reserve_install.ensures.maps; versions = c.reserve_install.ensures.versions };
    }

pub returns-clause-tried : goal.returns-clause-tried
returns-clause-tried g c =
    let order = g.K.Ord.cmp in
    let outcome = g.C.Cell.outcome in
    let kv = c.args.kv.now in
    let held = c.args.self.now in
    let inside : c.self.inside.base ≡ held.base = ap (λ a. a.base) c.self.view_is in
    let changes : c.in-Ok.ready.changes ≡ held.changes = c.in-Ok.ensures.changes ∙ c.changes.ensures ∙ ap (λ a. a.changes) c.self.view_is in
    let own : c.changes.result.now ≡ held.changes = c.changes.ensures ∙ ap (λ a. a.changes) c.self.view_is in
    let reads : c.as_slice.result.now ≡ held.reads = c.as_slice.ensures.value ∙ ap (λ a. a.reads) c.self.view_is in
    let number : c.reserve_install.new.self.number ≡ kv.number = c.reserve_install.ensures.same.number in
    let le : held.base ≤ kv.number = subst (λ n. held.base ≤ n) c.number-number.ensures.number (c.number-number.ensures.pins held.base c.requires.pinned) in
    let still : first_moved order held.base held.reads kv ≡ None =
    rw (← inside, ← reads) (sym c.in_default.ensures.first) in
    let before : map_at order c.reserve_install.new.self c.reserve_install.new.self.number ≡ map_at order kv kv.number =
    ap (map_at order c.reserve_install.new.self) number ∙ c.reserve_install.ensures.maps kv.number in
    record {
      free = ap (λ m. or_else m (first_unfit order outcome held.changes (map_at order kv kv.number))) still ∙ rw (← own) c.in-Ok.ensures.fit;
      agree = Agree-unmoved order kv held.base held.reads c.requires.pinned le still;
      fits = rw (← own) c.in-Ok.ensures.fit;
      next = c.install.ensures.answer ∙ c.install.ensures.number ∙ ap (λ n. n + 1) number;
      number = sym c.install.ensures.answer;
      map = ap (map_at order c.install.new.self) c.install.ensures.answer ∙ c.install.ensures.map ∙ ap (λ cs. over order outcome cs (map_at order c.reserve_install.new.self c.reserve_install.new.self.number)) changes ∙ ap (over order outcome held.changes) before;
      versions = λ q. c.install.ensures.versions q
          ∙ ap (λ cs. versions_with order outcome cs c.install.new.self.number q (map_at order c.reserve_install.new.self c.reserve_install.new.self.number q) (versions_of order c.reserve_install.new.self q)) changes
          ∙ ap (λ n. versions_with order outcome held.changes n q (map_at order c.reserve_install.new.self c.reserve_install.new.self.number q) (versions_of order c.reserve_install.new.self q)) (sym c.install.ensures.answer)
          ∙ ap (λ f. versions_with order outcome held.changes c.install.result q (f q) (versions_of order c.reserve_install.new.self q)) before
          ∙ ap (λ vs. versions_with order outcome held.changes c.install.result q (map_at order kv kv.number q) vs) (c.reserve_install.ensures.same.versions q);
      version = λ q.
          let made = version_with order outcome in
          let ready = c.reserve_install.new.self in
          let earlier : version_of order ready ready.number q ≡ version_of order kv kv.number q = ap (λ n. version_of order ready n q) number ∙ ap (λ f. f q) (c.reserve_install.ensures.versions kv.number) in
          ap (λ n. version_of order c.install.new.self n q) c.install.ensures.answer
          ∙ c.install.ensures.version q
          ∙ ap (λ ps. made ps c.in-Ok.ready.changes c.install.new.self.number q (map_at order ready ready.number q) (version_of order ready ready.number q)) c.reserve_install.ensures.same.pins
          ∙ ap (λ cs. made kv.pins cs c.install.new.self.number q (map_at order ready ready.number q) (version_of order ready ready.number q)) changes
          ∙ ap (λ n. made kv.pins held.changes n q (map_at order ready ready.number q) (version_of order ready ready.number q)) (sym c.install.ensures.answer)
          ∙ ap (λ f. made kv.pins held.changes c.install.result q (f q) (version_of order ready ready.number q)) before
          ∙ ap (made kv.pins held.changes c.install.result q (map_at order kv kv.number q)) earlier;
    }

pub returns-clause-maps : goal.returns-clause-maps
returns-clause-maps g c = λ n le. c.install.ensures.maps n (subst (λ m. n ≤ m) (sym c.reserve_install.ensures.same.number) le) ∙ c.reserve_install.ensures.maps n
