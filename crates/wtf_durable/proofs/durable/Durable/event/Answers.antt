use Rattle.std.proofs.Common.{refl, sym, ◌∙◌, subst, arith}
use Rattle.std.specs.Prelude.{IsOk, IsSome}
use Rattle.wtf_journal.specs.Moments.{goes_on_on}
use Rattle.wtf_durable.specs.declared.fault.DurableFault.TheVariants as fault
use Rattle.wtf_durable.specs.Views.{durable_scene}
use Rattle.wtf_durable.proofs.Answering.{cut_follows, durable_does, rose_later, same_fault, stores_left, watched_then}
use Rattle.wtf_durable.proofs.Lasting.{handled_lasts}
use Rattle.wtf_durable.proofs.Stopping.{cut_survives, handled_survives, unhandled_survives}
use Rattle.wtf_durable.proofs.durable.Durable.event.Goals as goal

pub returns-in-Err-clause-survives : goal.returns-in-Err-clause-survives
returns-in-Err-clause-survives g c =
    unhandled_survives g.S.Disk.kind g.D.Disk.kind g.met.S.Disk.laws g.met.D.Disk.laws (durable_scene c.args.shelf.now c.args.disk.now c.args.self.now)
    (durable_scene c.handled.new.shelf c.handled.new.disk c.handled.new.self) c.args.event.now c.in-Err.why c.requires.sound c.in-Err.ensures.lost

pub noted-requires-clause-watched : goal.noted-requires-clause-watched
noted-requires-clause-watched g c =
    subst (λ o. IsSome o)
    (sym (watched_then g.S.Disk.kind g.D.Disk.kind (durable_scene c.args.shelf.now c.args.disk.now c.args.self.now)
    (durable_scene c.handled.new.shelf c.handled.new.disk c.handled.new.self) c.args.event.now c.in-Ok.answer c.requires.sound c.in-Ok.ensures.handled))
    refl

pub returns-in-Ok-noted-clause-does : goal.returns-in-Ok-noted-clause-does
returns-in-Ok-noted-clause-does g c =
    durable_does g.S.Disk.kind g.D.Disk.kind (durable_scene c.args.shelf.now c.args.disk.now c.args.self.now) c.handled.new.shelf c.handled.new.disk
    c.noted.new.disk c.handled.new.self c.noted.new.self c.args.event.now c.in-Ok.answer c.requires.sound c.in-Ok.ensures.handled
    c.in-Ok-noted.ensures.noted

pub returns-in-Ok-noted-clause-survives : goal.returns-in-Ok-noted-clause-survives
returns-in-Ok-noted-clause-survives g c =
    handled_survives g.S.Disk.kind g.D.Disk.kind g.met.S.Disk.laws g.met.D.Disk.laws (durable_scene c.args.shelf.now c.args.disk.now c.args.self.now)
    (durable_scene c.handled.new.shelf c.handled.new.disk c.handled.new.self) (durable_scene c.handled.new.shelf c.noted.new.disk c.noted.new.self)
    c.args.event.now c.in-Ok.answer c.requires.sound c.in-Ok.ensures.handled refl c.in-Ok-noted.ensures.noted.notes

pub returns-in-Ok-noted-clause-lasts : goal.returns-in-Ok-noted-clause-lasts
returns-in-Ok-noted-clause-lasts g c =
    handled_lasts g.S.Disk.kind g.D.Disk.kind g.met.S.Disk.laws g.met.D.Disk.laws (durable_scene c.args.shelf.now c.args.disk.now c.args.self.now)
    (durable_scene c.handled.new.shelf c.handled.new.disk c.handled.new.self) (durable_scene c.handled.new.shelf c.noted.new.disk c.noted.new.self)
    c.args.event.now c.in-Ok.answer c.requires.sound c.in-Ok.ensures.handled refl c.in-Ok-noted.ensures.noted

pub returns-in-Ok-noted-clause-goes_on : goal.returns-in-Ok-noted-clause-goes_on
returns-in-Ok-noted-clause-goes_on g c =
    goes_on_on g.D.Disk.kind c.args.disk.now c.handled.new.disk c.noted.new.disk c.handled.ensures.goes_on c.noted.ensures.goes_on

pub returns-in-Err-noted-clause-survives : goal.returns-in-Err-noted-clause-survives
returns-in-Err-noted-clause-survives g c =
    cut_survives g.S.Disk.kind g.D.Disk.kind g.met.S.Disk.laws g.met.D.Disk.laws (durable_scene c.args.shelf.now c.args.disk.now c.args.self.now)
    (durable_scene c.handled.new.shelf c.handled.new.disk c.handled.new.self) (durable_scene c.handled.new.shelf c.noted.new.disk c.noted.new.self)
    c.args.event.now c.in-Ok.answer c.requires.sound c.in-Ok.ensures.handled refl c.in-Err-noted.ensures.cut c.in-Err-noted.why

pub returns-in-Err-noted-clause-numbers : goal.returns-in-Err-noted-clause-numbers
returns-in-Err-noted-clause-numbers g c =
    let stays = c.in-Ok.ensures.handled.stays in
    let notes = c.in-Err-noted.ensures.cut in (
      let le = stays.number in let same = notes.number in omega (arith, le, same),
      let le = stays.next_tx in let same = notes.next_tx in omega (arith, le, same),
    )

pub returns-in-Err-noted-clause-follows : goal.returns-in-Err-noted-clause-follows
returns-in-Err-noted-clause-follows g c =
    cut_follows g.S.Disk.kind g.D.Disk.kind (durable_scene c.args.shelf.now c.args.disk.now c.args.self.now)
    (durable_scene c.handled.new.shelf c.handled.new.disk c.handled.new.self) c.args.event.now c.in-Ok.answer c.requires.sound c.in-Ok.ensures.handled
    (λ watched. let ok = subst (λ r. IsOk r) c.in-Err-noted.is (c.noted.ensures.sure watched) in absurd (cc))

pub returns-in-Err-clause-leaves : goal.returns-in-Err-clause-leaves
returns-in-Err-clause-leaves g c = stores_left _ _ c.args.self.now.core c.handled.new.self.core c.args.event.now c.in-Err.ensures.lost.leaves

pub returns-in-Err-noted-clause-leaves : goal.returns-in-Err-noted-clause-leaves
returns-in-Err-noted-clause-leaves g c = stores_left _ _ c.args.self.now.core c.handled.new.self.core c.args.event.now c.in-Ok.ensures.handled.leaves

pub returns-in-Err-noted-clause-goes_on : goal.returns-in-Err-noted-clause-goes_on
returns-in-Err-noted-clause-goes_on g c =
    goes_on_on g.D.Disk.kind c.args.disk.now c.handled.new.disk c.noted.new.disk c.handled.ensures.goes_on c.noted.ensures.goes_on

pub returns-in-Err-noted-clause-cause : goal.returns-in-Err-noted-clause-cause
returns-in-Err-noted-clause-cause g c =
    λ failed.
    rose_later (g.D.Disk.kind.view c.args.disk.now).faults (g.D.Disk.kind.view c.handled.new.disk).faults (g.D.Disk.kind.view c.noted.new.disk).faults
    c.handled.ensures.goes_on.faults
    (c.noted.ensures.cause (c.in-Err-noted.is ∙ same_fault c.in-Err-noted.why fault.Journal failed))

pub returns-in-Err-clause-elsewhere : goal.returns-in-Err-clause-elsewhere
returns-in-Err-clause-elsewhere g c = c.in-Err.ensures.lost.hands.elsewhere

pub returns-in-Ok-noted-clause-elsewhere : goal.returns-in-Ok-noted-clause-elsewhere
returns-in-Ok-noted-clause-elsewhere g c = λ tells f ne.
    c.in-Ok-noted.ensures.noted.notes.elsewhere (c.handled.ensures.goes_on.tells ∙ tells) f ne ∙ c.in-Ok.ensures.handled.hands.elsewhere tells f ne

pub returns-in-Err-noted-clause-elsewhere : goal.returns-in-Err-noted-clause-elsewhere
returns-in-Err-noted-clause-elsewhere g c = λ tells f ne.
    c.in-Err-noted.ensures.cut.elsewhere (c.handled.ensures.goes_on.tells ∙ tells) f ne ∙ c.in-Ok.ensures.handled.hands.elsewhere tells f ne
