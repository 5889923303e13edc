use Rattle.std.proofs.Common.{◌≡◌, ◌++◌, ℕ, Bool, false, List, Some, None, Ok, Err, Result, Option, sym, ◌∙◌, ap, subst, inl, inr}
use Rattle.std.specs.Prelude.{◌||◌}
use Rattle.wtf_script.specs.Reading.{Held}
use Rattle.wtf_serve.specs.Passes.{input}
use Rattle.wtf_serve.specs.Scripts.{settings_line}
use Rattle.wtf_journaled.specs.declared.halt.Halt.{Halt}
use Rattle.wtf_journaled.specs.Added.{PassAdds}
use Rattle.wtf_journaled.specs.Breaks.{stopped}
use Rattle.wtf_journaled.specs.Engine.{journaled_hand, journaled}
use Rattle.wtf_journaled.specs.Runs.{IsJournaledRun, on_devices}
use Rattle.wtf_journaled.proofs.Exits.{Journaling, halted, journaled_end, journaling_first, journaling_on, short_first, unwritten_first}
use Rattle.wtf_journaled.proofs.run.run.Given.{Over}
use Rattle.wtf_journaled.proofs.run.run.Goals as goal
use Rattle.wtf_journaled.proofs.run.run.Goals.{After-write_all}

-- the text of the first line
first_text : (g : Over) (c : After-write_all g) → c.as_slice.result.now ≡ settings_line c.in-Ok.durable.core.settings c.in-Ok.durable.core.tables.kv.number
first_text g c =
    c.as_slice.ensures.value ∙ c.in-Ok-push_settings.ensures
    ∙ ap (λ (x : List ℕ). x ++ settings_line c.in-Ok.durable.core.settings c.in-Ok.durable.core.tables.kv.number) c.new-text.ensures.items

pub returns-in_default : goal.returns-in_default
returns-in_default g c =
    let start = on_devices (g.I.Source.view c.args.script.now) (g.O.Sink.view c.args.out.now) c.args.shelf.now c.args.disk.now in
    record {
      ran = short_first g.S.Disk.kind g.D.Disk.kind g.met.S.Disk.laws g.met.D.Disk.laws c.args.settings start c.open.new.shelf c.open.new.disk c.in-Ok.durable
          c.in-Ok.ensures.opened c.open.ensures.follows c.open.ensures.goes_on c.open.ensures.any_moment c.in-Ok.ensures.exact
          c.open.ensures.lengths c.in-Ok.ensures.past;
    }

pub returns-in_default-push_settings : goal.returns-in_default-push_settings
returns-in_default-push_settings g c =
    let start = on_devices (g.I.Source.view c.args.script.now) (g.O.Sink.view c.args.out.now) c.args.shelf.now c.args.disk.now in
    record {
      ran = short_first g.S.Disk.kind g.D.Disk.kind g.met.S.Disk.laws g.met.D.Disk.laws c.args.settings start c.open.new.shelf c.open.new.disk c.in-Ok.durable
          c.in-Ok.ensures.opened c.open.ensures.follows c.open.ensures.goes_on c.open.ensures.any_moment c.in-Ok.ensures.exact
          c.open.ensures.lengths c.in-Ok.ensures.past;
    }

pub returns-in_default-write_all : goal.returns-in_default-write_all
returns-in_default-write_all g c =
    let at = (goal.at.returns-in_default-write_all g c).After-write_all in
    let start = on_devices (g.I.Source.view c.args.script.now) (g.O.Sink.view c.args.out.now) c.args.shelf.now c.args.disk.now in
    record {
      ran = unwritten_first g.S.Disk.kind g.D.Disk.kind g.met.S.Disk.laws g.met.D.Disk.laws c.args.settings start c.open.new.shelf c.open.new.disk
          c.in-Ok.durable c.in-Ok.ensures.opened c.open.ensures.follows c.open.ensures.goes_on c.open.ensures.any_moment c.in-Ok.ensures.exact
          c.open.ensures.lengths c.in-Ok.ensures.past
          (g.O.Sink.view c.write_all.new.out) c.as_slice.result.now (first_text g at) c.in_default-write_all.ensures.told
          c.in_default-write_all.ensures.cause c.write_all.ensures.faults;
    }

pub loop-more-init : goal.loop-more-init
loop-more-init g c =
    let stores = g.S.Disk.kind in
    let kind = g.D.Disk.kind in
    let at = (goal.at.loop-more-init g c).After-write_all in
    let start = on_devices (g.I.Source.view c.args.script.now) (g.O.Sink.view c.args.out.now) c.args.shelf.now c.args.disk.now in
    record {
      so_far = subst (λ (held : Held). Journaling stores kind g.met.S.Disk.laws g.met.D.Disk.laws c.args.settings start
          (journaled_hand kind (input (g.I.Source.view c.args.script.now) held) (g.O.Sink.view c.write_all.new.out) c.open.new.shelf
          (journaled c.in-Ok.durable c.open.new.disk)) false) (sym c.in-Ok-new.ensures)
          (journaling_first stores kind g.met.S.Disk.laws g.met.D.Disk.laws c.args.settings start c.open.new.shelf c.open.new.disk c.in-Ok.durable
          c.in-Ok.ensures.opened c.open.ensures.follows c.open.ensures.goes_on c.open.ensures.any_moment c.in-Ok.ensures.exact
          c.open.ensures.lengths c.in-Ok.ensures.past
          (g.O.Sink.view c.write_all.new.out) c.as_slice.result.now (first_text g at) c.in-Ok-write_all.ensures.told c.in-Ok-write_all.ensures.steady);
    }

pub loop-more-preserved : goal.loop-more-preserved
loop-more-preserved g c =
    let stores = g.S.Disk.kind in
    let kind = g.D.Disk.kind in
    let start = on_devices (g.I.Source.view c.args.script.now) (g.O.Sink.view c.args.out.now) c.args.shelf.now c.args.disk.now in
    let now = journaled_hand kind (input (g.I.Source.view c.loop-more.script) c.loop-more.reader.lines) (g.O.Sink.view c.loop-more.out) c.loop-more.shelf
    (journaled c.loop-more.durable c.loop-more.disk) in
    let next = journaled_hand kind (input (g.I.Source.view c.pass.new.script) c.pass.new.reader.lines) (g.O.Sink.view c.pass.new.out) c.pass.new.shelf
    (journaled c.pass.new.durable c.pass.new.disk) in
    let is : c.pass.result ≡ Ok (Some c.in-Ok-Some.more) = cc in
    record {
      so_far = subst (λ (b : Bool). Journaling stores kind g.met.S.Disk.laws g.met.D.Disk.laws c.args.settings start next b)
          {x = c.loop-more.bad || c.in-Ok-Some.more} (sym {b = c.loop-more.bad || c.in-Ok-Some.more} c.either-bad.ensures)
          (journaling_on stores kind g.met.S.Disk.laws g.met.D.Disk.laws c.args.settings start now next.input next.sink c.pass.new.shelf next.state
          c.loop-more.bad c.loop-more.invariant.so_far c.pass.ensures.goes_on c.pass.ensures.past c.in-Ok-Some.more
          (subst (λ (r : Result (Option Bool) Halt). PassAdds stores kind now next (stopped r)) {x = c.pass.result} is c.pass.ensures.pass));
    }

pub returns-in-Ok-None : goal.returns-in-Ok-None
returns-in-Ok-None g c =
    let stores = g.S.Disk.kind in
    let kind = g.D.Disk.kind in
    let start = on_devices (g.I.Source.view c.args.script.now) (g.O.Sink.view c.args.out.now) c.args.shelf.now c.args.disk.now in
    let now = journaled_hand kind (input (g.I.Source.view c.loop-more.script) c.loop-more.reader.lines) (g.O.Sink.view c.loop-more.out) c.loop-more.shelf
    (journaled c.loop-more.durable c.loop-more.disk) in
    let next = journaled_hand kind (input (g.I.Source.view c.pass.new.script) c.pass.new.reader.lines) (g.O.Sink.view c.pass.new.out) c.pass.new.shelf
    (journaled c.pass.new.durable c.pass.new.disk) in
    let is : c.pass.result ≡ Ok None = cc in
    record {
      ran = journaled_end stores kind g.met.S.Disk.laws g.met.D.Disk.laws c.args.settings start now next.input next.sink c.pass.new.shelf next.state
          c.loop-more.bad c.loop-more.invariant.so_far c.pass.ensures.goes_on c.pass.ensures.past
          (subst (λ (r : Result (Option Bool) Halt). PassAdds stores kind now next (stopped r)) {x = c.pass.result} is c.pass.ensures.pass).is
          c.finish.result (g.O.Sink.view c.finish.new.out) c.finish.ensures.told c.finish.ensures.faults c.finish.ensures.ends;
    }

pub returns-in-Err-pass : goal.returns-in-Err-pass
returns-in-Err-pass g c =
    let stores = g.S.Disk.kind in
    let kind = g.D.Disk.kind in
    let start = on_devices (g.I.Source.view c.args.script.now) (g.O.Sink.view c.args.out.now) c.args.shelf.now c.args.disk.now in
    let now = journaled_hand kind (input (g.I.Source.view c.loop-more.script) c.loop-more.reader.lines) (g.O.Sink.view c.loop-more.out) c.loop-more.shelf
    (journaled c.loop-more.durable c.loop-more.disk) in
    let next = journaled_hand kind (input (g.I.Source.view c.pass.new.script) c.pass.new.reader.lines) (g.O.Sink.view c.pass.new.out) c.pass.new.shelf
    (journaled c.pass.new.durable c.pass.new.disk) in
    let is : c.pass.result ≡ Err c.in-Err-pass.halt = cc in
    record {
      ran = subst (λ (n : ℕ). IsJournaledRun stores kind c.args.settings n start
          (on_devices next.input.source next.sink c.pass.new.shelf c.pass.new.disk)) (sym c.status.ensures)
          (halted stores kind g.met.S.Disk.laws g.met.D.Disk.laws c.args.settings start now next.input next.sink c.pass.new.shelf next.state c.loop-more.bad
          c.loop-more.invariant.so_far c.pass.ensures.goes_on c.pass.ensures.past c.in-Err-pass.halt
          (subst (λ (r : Result (Option Bool) Halt). PassAdds stores kind now next (stopped r)) {x = c.pass.result} is c.pass.ensures.pass)
          (λ which. c.in-Err-pass.ensures.breaks (elim which [ inl e ↦ inl (ap Err e) | inr e ↦ inr (ap Err e) ]))
          (λ e. c.in-Err-pass.ensures.cause (ap Err e)));
    }
