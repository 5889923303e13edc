use Rattle.std.proofs.Common.{is_err, ℕ, Bool, Err, inl, inr, ⊎_elim, sym, ap, ◌∙◌, subst}
use Rattle.wtf_base.specs.declared.settings.Settings.{Settings}
use Rattle.wtf_journal.specs.Moments.{goes_on_on}
use Rattle.wtf_replica.specs.Outs.{SameFrom}
use Rattle.wtf_core.specs.Views.{CoreView}
use Rattle.wtf_durable.specs.declared.fault.Unopened.{Unopened}
use Rattle.wtf_durable.specs.Opened.{UnopenedFor}
use Rattle.wtf_durable.specs.Views.{DurableView, durable_scene}
use Rattle.wtf_durable.proofs.Answering.{rose_later}
use Rattle.wtf_durable.proofs.Beginning.{begun_settings, spared_unused}
use Rattle.wtf_durable.proofs.OpenStops.{found_survives, none_given, opens_durable, unfound_survives}
use Rattle.wtf_durable.proofs.durable.Durable.open.Goals as goal

pub begin-requires-clause-up : goal.begin-requires-clause-up
begin-requires-clause-up g c =
    λ k. ap (λ (down : ℕ → Bool). down k) c.in-Ok.ensures.found.core.ready.up

pub returns-in-Err-clause-any_moment : goal.returns-in-Err-clause-any_moment
returns-in-Err-clause-any_moment g c =
    λ tells left stopped late.
    unfound_survives g.S.Disk.kind g.D.Disk.kind g.met.S.Disk.laws g.met.D.Disk.laws c.args.settings c.args.shelf.now c.args.disk.now
    c.found.new.disk tells (c.found.ensures.any_moment tells) left stopped late

pub returns-in-Err-begin-clause-any_moment : goal.returns-in-Err-begin-clause-any_moment
returns-in-Err-begin-clause-any_moment g c =
    λ tells left stopped late.
    found_survives g.S.Disk.kind g.D.Disk.kind g.met.S.Disk.laws g.met.D.Disk.laws c.args.settings c.args.shelf.now c.begin.new.shelf c.args.disk.now
    c.found.new.disk c.begin.new.disk (record { core = c.in-Ok.found.core; journal = c.in-Ok.found.journal }) c.begin.new.self
    c.in-Ok.found.fresh c.in-Ok.ensures.found c.found.ensures.goes_on c.begin.ensures.hands
    c.begin.ensures.fresh c.begin.ensures.follows tells (c.found.ensures.any_moment tells) left stopped late

pub returns-in-Err-begin-clause-goes_on : goal.returns-in-Err-begin-clause-goes_on
returns-in-Err-begin-clause-goes_on g c =
    goes_on_on g.D.Disk.kind c.args.disk.now c.found.new.disk c.begin.new.disk c.found.ensures.goes_on c.begin.ensures.hands.goes_on

pub returns-in-Ok-watch-clause-any_moment : goal.returns-in-Ok-watch-clause-any_moment
returns-in-Ok-watch-clause-any_moment g c =
    λ tells left stopped late.
    found_survives g.S.Disk.kind g.D.Disk.kind g.met.S.Disk.laws g.met.D.Disk.laws c.args.settings c.args.shelf.now c.begin.new.shelf c.args.disk.now
    c.found.new.disk c.begin.new.disk (record { core = c.in-Ok.found.core; journal = c.in-Ok.found.journal }) c.begin.new.self
    c.in-Ok.found.fresh c.in-Ok.ensures.found c.found.ensures.goes_on c.begin.ensures.hands
    c.begin.ensures.fresh c.begin.ensures.follows tells (c.found.ensures.any_moment tells) left stopped late

pub returns-in-Ok-watch-clause-goes_on : goal.returns-in-Ok-watch-clause-goes_on
returns-in-Ok-watch-clause-goes_on g c =
    goes_on_on g.D.Disk.kind c.args.disk.now c.found.new.disk c.begin.new.disk c.found.ensures.goes_on c.begin.ensures.hands.goes_on

pub returns-in-Err-watch-clause-any_moment : goal.returns-in-Err-watch-clause-any_moment
returns-in-Err-watch-clause-any_moment g c =
    λ tells left stopped late.
    found_survives g.S.Disk.kind g.D.Disk.kind g.met.S.Disk.laws g.met.D.Disk.laws c.args.settings c.args.shelf.now c.begin.new.shelf c.args.disk.now
    c.found.new.disk c.begin.new.disk (record { core = c.in-Ok.found.core; journal = c.in-Ok.found.journal }) c.begin.new.self
    c.in-Ok.found.fresh c.in-Ok.ensures.found c.found.ensures.goes_on c.begin.ensures.hands
    c.begin.ensures.fresh c.begin.ensures.follows tells (c.found.ensures.any_moment tells) left stopped late

pub returns-in-Err-watch-clause-goes_on : goal.returns-in-Err-watch-clause-goes_on
returns-in-Err-watch-clause-goes_on g c =
    goes_on_on g.D.Disk.kind c.args.disk.now c.found.new.disk c.begin.new.disk c.found.ensures.goes_on c.begin.ensures.hands.goes_on

pub returns-in-Ok-watch-clause-opened : goal.returns-in-Ok-watch-clause-opened
returns-in-Ok-watch-clause-opened g c =
    opens_durable g.S.Disk.kind g.D.Disk.kind g.met.S.Disk.laws g.met.D.Disk.laws c.args.settings c.args.shelf.now c.begin.new.shelf c.args.disk.now
    c.found.new.disk c.begin.new.disk (record { core = c.in-Ok.found.core; journal = c.in-Ok.found.journal }) c.begin.new.self
    c.in-Ok.found.fresh c.in-Ok.ensures.found c.found.ensures.goes_on c.begin.ensures.hands
    c.begin.ensures.follows c.in-Ok-begin.ensures.begun c.watch.new.self c.in-Ok-watch.ensures.watches c.watch.ensures.journal

pub returns-in-Err-begin-clause-unopened : goal.returns-in-Err-begin-clause-unopened
returns-in-Err-begin-clause-unopened g c =
    ⊎_elim
    (λ save.
    subst
    (λ (w : Unopened). UnopenedFor g.S.Disk.kind g.D.Disk.kind c.args.settings c.args.shelf.now c.begin.new.shelf c.args.disk.now c.begin.new.disk w)
    (sym save)
    (record {
      empty = none_given g.S.Disk.kind g.D.Disk.kind c.args.settings c.args.shelf.now (c.args.disk.now, c.found.new.disk)
          (record { core = c.in-Ok.found.core; journal = c.in-Ok.found.journal }) c.in-Ok.found.fresh c.in-Ok.ensures.found
          (c.begin.ensures.saving (ap (λ r. is_err r) c.in-Err-begin.is));
      cause = ⊎_elim
          (λ store. inl store)
          (λ disk.
          inr (rose_later (g.D.Disk.kind.view c.args.disk.now).faults (g.D.Disk.kind.view c.found.new.disk).faults (g.D.Disk.kind.view c.begin.new.disk).faults
          c.found.ensures.goes_on.faults disk))
          (c.begin.ensures.cause (c.in-Err-begin.is ∙ ap (λ (w : Unopened). Err w) save));
    }))
    (λ memory.
    subst
    (λ (w : Unopened). UnopenedFor g.S.Disk.kind g.D.Disk.kind c.args.settings c.args.shelf.now c.begin.new.shelf c.args.disk.now c.begin.new.disk w)
    (sym memory) tt)
    c.in-Err-begin.ensures.only

pub returns-in-Err-watch-clause-unopened : goal.returns-in-Err-watch-clause-unopened
returns-in-Err-watch-clause-unopened g c =
    subst
    (λ (w : Unopened). UnopenedFor g.S.Disk.kind g.D.Disk.kind c.args.settings c.args.shelf.now c.begin.new.shelf c.args.disk.now c.begin.new.disk w)
    (sym c.in-Err-watch.ensures.only) tt

pub returns-in-Err-begin-clause-elsewhere : goal.returns-in-Err-begin-clause-elsewhere
returns-in-Err-begin-clause-elsewhere g c = λ tells f ne.
    c.begin.ensures.hands.elsewhere (c.found.ensures.goes_on.tells ∙ tells) f ne ∙ c.found.ensures.elsewhere tells f ne

pub returns-in-Ok-watch-clause-elsewhere : goal.returns-in-Ok-watch-clause-elsewhere
returns-in-Ok-watch-clause-elsewhere g c = λ tells f ne.
    c.begin.ensures.hands.elsewhere (c.found.ensures.goes_on.tells ∙ tells) f ne ∙ c.found.ensures.elsewhere tells f ne

pub returns-in-Err-watch-clause-elsewhere : goal.returns-in-Err-watch-clause-elsewhere
returns-in-Err-watch-clause-elsewhere g c = λ tells f ne.
    c.begin.ensures.hands.elsewhere (c.found.ensures.goes_on.tells ∙ tells) f ne ∙ c.found.ensures.elsewhere tells f ne

-- ---- stores that the settings do not have
pub returns-in-Ok-watch-clause-past : goal.returns-in-Ok-watch-clause-past
returns-in-Ok-watch-clause-past g c =
    let found : DurableView = record { core = c.in-Ok.found.core; journal = c.in-Ok.found.journal } in
    let same = begun_settings g.S.Disk.kind g.D.Disk.kind c.in-Ok.found.fresh (durable_scene c.args.shelf.now c.found.new.disk found)
    (durable_scene c.begin.new.shelf c.begin.new.disk c.begin.new.self) c.in-Ok-begin.ensures.begun in
    subst (λ (s : Settings). SameFrom s.servers c.args.shelf.now c.begin.new.shelf)
    (sym (ap (λ (core : CoreView). core.settings) c.in-Ok-watch.ensures.watches.rest ∙ same)) c.begin.ensures.past

pub returns-in-Err-begin-clause-unused : goal.returns-in-Err-begin-clause-unused
returns-in-Err-begin-clause-unused g c =
    spared_unused g.S.Disk.kind g.D.Disk.kind c.args.settings c.args.shelf.now c.begin.new.shelf (c.args.disk.now, c.found.new.disk)
    (record { core = c.in-Ok.found.core; journal = c.in-Ok.found.journal }) c.in-Ok.found.fresh c.in-Ok.ensures.found c.begin.ensures.untouched
    c.begin.ensures.past

pub returns-in-Err-watch-clause-unused : goal.returns-in-Err-watch-clause-unused
returns-in-Err-watch-clause-unused g c =
    spared_unused g.S.Disk.kind g.D.Disk.kind c.args.settings c.args.shelf.now c.begin.new.shelf (c.args.disk.now, c.found.new.disk)
    (record { core = c.in-Ok.found.core; journal = c.in-Ok.found.journal }) c.in-Ok.found.fresh c.in-Ok.ensures.found c.begin.ensures.untouched
    c.begin.ensures.past
