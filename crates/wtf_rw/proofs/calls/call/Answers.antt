use Rattle.std.proofs.Common.{[], sym, ap, subst}
use Rattle.wtf_occ.specs.Attempts.{Attempted, Grows}
use Rattle.wtf_occ.proofs.AttemptLaws.{GrowsBy-nothing, Grows-by}
use Rattle.wtf_values.specs.declared.key.Key.{Key}
use Rattle.wtf_values.specs.declared.value.Delta.{Delta}
use Rattle.wtf_meta.specs.Maps.{seen}
use Rattle.wtf_rw.proofs.AppendWays.{mark_within}
use Rattle.wtf_rw.proofs.InsideWays.{keeps_inside}
use Rattle.wtf_steps.proofs.InsideWays.{stays_inside}
use Rattle.wtf_rw.proofs.calls.call.Goals as goal

pub rewind-requires-clause-reads : goal.rewind-requires-clause-reads
rewind-requires-clause-reads g c =
    mark_within c.mark-mark.result.reads c.args.at.now.reads c.run.new.at.reads (ap (λ m. m.reads) c.mark-mark.ensures) c.in-Err.ensures.grows.reads

pub rewind-requires-clause-changes : goal.rewind-requires-clause-changes
rewind-requires-clause-changes g c =
    mark_within c.mark-mark.result.changes c.args.at.now.changes c.run.new.at.changes (ap (λ m. m.changes) c.mark-mark.ensures)
    c.in-Err.ensures.grows.changes

pub returns-in-Ok-clause-inside : goal.returns-in-Ok-clause-inside
returns-in-Ok-clause-inside g c whole given hand =
    keeps_inside g.met.S.SliceStore.laws c.args.dev.now c.run.new.dev c.args.kv.now c.args.at.now c.run.new.at c.args.s.now c.run.new.s c.args.op.now
    c.in-Ok.done.own c.in-Ok.done.answer
    c.requires.sound.shelf c.in-Ok.ensures.dev c.in-Ok.ensures.step c.in-Ok.ensures.own whole given (c.requires.inside, hand)

pub returns-in-Err-clause-inside : goal.returns-in-Err-clause-inside
returns-in-Err-clause-inside g c whole given hand =
    let kv = c.args.kv.now in
    let back = c.rewind.ensures.back c.args.at.now c.in-Err.ensures.grows c.mark-mark.ensures in
    stays_inside g.met.S.SliceStore.laws c.args.dev.now c.run.new.dev (seen kv c.args.at.now) (seen kv c.rewind.new.self) c.args.s.now c.run.new.s
    c.requires.sound.shelf c.in-Err.ensures.dev.each
    (ap (λ (at : Attempted Key Delta). seen kv at) back) c.in-Err.ensures.err (c.requires.inside, hand)

pub returns-in-Err-clause-call : goal.returns-in-Err-clause-call
returns-in-Err-clause-call g c =
    let was = c.args.at.now in
    let call = c.in-Err.ensures in
    record {
      keys = tt;
      step = tt;
      made = tt;
      holds = tt;
      recalls = tt;
      own = tt;
      lacks = tt;
      done = tt;
      logged = tt;
      refused = tt;
      answers = tt;
      bare = tt;
      fault = call.fault;
      due = call.due;
      err = call.err;
      grows = subst (λ (at : Attempted Key Delta). Grows was at) (sym (c.rewind.ensures.back was call.grows c.mark-mark.ensures))
          (Grows-by was was [] [] (GrowsBy-nothing was));
      leaves = call.leaves;
      still = call.still;
      reads = call.reads;
      lists = call.lists;
      dev = call.dev;
    }
