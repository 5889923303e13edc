use Rattle.std.specs.Prelude.{Err}
use Rattle.std.proofs.Common.{◌≤◌, ◌∷◌, [], rules, refl, ap, inl, inr}
use Rattle.wtf_dev.specs.Counts.{Rose}
use Rattle.wtf_journal.proofs.Keeping.{appended_follows, failed_follows, image_held, refuses}
use Rattle.wtf_journal.proofs.keeper.JournalKeeperKeeper.replace.Goals as goal

pub returns-then-not-takes-clause-follows : goal.returns-then-not-takes-clause-follows
returns-then-not-takes-clause-follows g c =
    let le : c.args.self.now.short ≤ c.saturating_add-self.result = search rules in
    let rose : Rose c.args.self.now.short c.saturating_add-self.result = search rules in
    refuses g.D.Disk.kind c.args.self.now c.saturating_add-self.result (c.args.bytes.now ∷ []) le rose

pub returns-in-Ok-clause-follows : goal.returns-in-Ok-clause-follows
returns-in-Ok-clause-follows g c =
    appended_follows g.D.Disk.kind g.met.D.Disk.laws c.args.self.now _ c.args.bytes.now
    (record {
      journal = refl;
      disk = refl;
      whole = c.if-not-takes.ensures.whole refl;
      reach = c.if-not-takes.ensures.reach refl;
      is_image = c.if-not-takes.ensures.image refl;
      any_moment = c.append.ensures.any_moment;
      goes_on = c.append.ensures.goes_on;
      elsewhere = c.append.ensures.elsewhere;
    })
    (record {
      acknowledged = c.in-Ok.ensures.acknowledged;
      settled = c.in-Ok.ensures.settled;
      added = c.in-Ok.ensures.added;
      reach = c.in-Ok.ensures.reach;
      short = refl;
    })

pub returns-in-Ok-clause-replaced : goal.returns-in-Ok-clause-replaced
returns-in-Ok-clause-replaced g c =
    image_held g.D.Disk.kind g.met.D.Disk.laws c.args.self.now (record c.args.self.now {
      journal = record c.args.self.now.journal { now = c.append.new.self };
      disk = record c.args.self.now.disk { now = c.append.new.disk };
    }) c.args.bytes.now
    (record {
      journal = refl;
      disk = refl;
      whole = c.if-not-takes.ensures.whole refl;
      reach = c.if-not-takes.ensures.reach refl;
      is_image = c.if-not-takes.ensures.image refl;
      any_moment = c.append.ensures.any_moment;
      goes_on = c.append.ensures.goes_on;
      elsewhere = c.append.ensures.elsewhere;
    })
    (record {
      acknowledged = c.in-Ok.ensures.acknowledged;
      settled = c.in-Ok.ensures.settled;
      added = c.in-Ok.ensures.added;
      reach = c.in-Ok.ensures.reach;
      short = refl;
    })

pub returns-in-Err-Failed-clause-follows : goal.returns-in-Err-Failed-clause-follows
returns-in-Err-Failed-clause-follows g c =
    let le : c.args.self.now.short ≤ c.args.self.now.short = search rules in
    failed_follows g.D.Disk.kind g.met.D.Disk.laws c.args.self.now _ c.args.bytes.now
    (record {
      journal = refl;
      disk = refl;
      whole = c.if-not-takes.ensures.whole refl;
      reach = c.if-not-takes.ensures.reach refl;
      is_image = c.if-not-takes.ensures.image refl;
      any_moment = c.append.ensures.any_moment;
      goes_on = c.append.ensures.goes_on;
      elsewhere = c.append.ensures.elsewhere;
    })
    (record {
      front = c.append.ensures.front;
      stays = c.in-Err-Failed.ensures.stays;
      short = le;
      cause = inr (c.in-Err-Failed.ensures.cause (ap (λ (e : _). Err e) c.in-Err-Failed.field-0-is));
    })

pub returns-in-Err-clause-follows : goal.returns-in-Err-clause-follows
returns-in-Err-clause-follows g c =
    let le : c.args.self.now.short ≤ c.saturating_add-self-in-Err.result = search rules in
    let rose : Rose c.args.self.now.short c.saturating_add-self-in-Err.result = search rules in
    failed_follows g.D.Disk.kind g.met.D.Disk.laws c.args.self.now _ c.args.bytes.now
    (record {
      journal = refl;
      disk = refl;
      whole = c.if-not-takes.ensures.whole refl;
      reach = c.if-not-takes.ensures.reach refl;
      is_image = c.if-not-takes.ensures.image refl;
      any_moment = c.append.ensures.any_moment;
      goes_on = c.append.ensures.goes_on;
      elsewhere = c.append.ensures.elsewhere;
    })
    (record { front = c.append.ensures.front; stays = c.in-Err.ensures.stays; short = le; cause = inl rose })
