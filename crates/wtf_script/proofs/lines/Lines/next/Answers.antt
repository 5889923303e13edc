use Rattle.std.proofs.Common.{◌≡◌, ◌≤◌, ℕ, nat_lt, false, length, ◌∙◌, arith}
use Rattle.std.proofs.lemmas.Bool.Decides.{nat_tests}
use Rattle.std.proofs.lemmas.Result.{err_from_is_err_and}
use Rattle.wtf_script.specs.declared.limits.TheConstants.{SCRIPT_BYTES}
use Rattle.wtf_script.proofs.Chunks.{sofar_more, sofar_whole, sofar_last, sofar_err, sofar_memory, given_more, work_more, counted_here, counted_there}
use Rattle.wtf_script.proofs.lines.Lines.next.Goals as goal

few : (count : ℕ) → count ≤ SCRIPT_BYTES → nat_lt SCRIPT_BYTES count ≡ false
few count h = grind (arith, nat_tests)

pub returns-in_err-take_part-clause-told : goal.returns-in_err-take_part-clause-told
returns-in_err-take_part-clause-told g c = λ rest h.
    let p = err_from_is_err_and c.from_residual.result c.from_residual.ensures.1 in
    rw (p.1, p.2) (sofar_memory c.args.self.now c.loop-line.self c.loop-line.line.items rest _ c.take_part.new.self (c.loop-line.invariant.told rest h)
    c.in_err-take_part.ensures.parts)

pub returns-in_err-take_part-clause-counted : goal.returns-in_err-take_part-clause-counted
returns-in_err-take_part-clause-counted g c = λ rest left h k.
    counted_here c.args.self.now c.loop-line.self c.loop-line.line.items rest left _ c.take_part.new.self.count (c.loop-line.invariant.told rest h) k c.take_part.ensures.count

pub returns-then-branch-clause-told : goal.returns-then-branch-clause-told
returns-then-branch-clause-told g c = λ rest h.
    let parts = rw c.if-branch.true at c.in_ok-take_part.ensures.parts in
    sofar_whole c.args.self.now c.loop-line.self c.take_part.new.self c.loop-line.line.items c.take_part.new.line.items rest _ c.whole_line.result
    (c.loop-line.invariant.told rest h) parts (c.take_part.ensures.ended ∙ c.loop-line.invariant.going) c.whole_line.ensures.whole c.whole_line.ensures.long

pub returns-then-branch-clause-counted : goal.returns-then-branch-clause-counted
returns-then-branch-clause-counted g c = λ rest left h k.
    counted_here c.args.self.now c.loop-line.self c.loop-line.line.items rest left _ c.take_part.new.self.count (c.loop-line.invariant.told rest h) k c.take_part.ensures.count

pub returns-in_err-refill-clause-told : goal.returns-in_err-refill-clause-told
returns-in_err-refill-clause-told g c = λ rest h.
    let p = err_from_is_err_and c.from_residual-in_err-refill.result c.from_residual-in_err-refill.ensures.1 in
    let s = c.loop-line.invariant.told rest h in
    let parts = rw c.if-branch.false at c.in_ok-take_part.ensures.parts in
    rw (p.1, p.2) (sofar_err c.args.self.now c.loop-line.self c.loop-line.line.items c.take_part.new.line.items rest c.take_part.new.self.bytes c.refill.new.self.bytes _ _ c.refill.new.self _ s
    parts (c.in_err-refill.ensures.told s.then s.left_is) (few c.args.self.now.count (omega (arith, c.loop-line.invariant.grows, c.loop-line.invariant.limit))))

pub returns-in_err-refill-clause-counted : goal.returns-in_err-refill-clause-counted
returns-in_err-refill-clause-counted g c = λ rest left h k.
    let s = c.loop-line.invariant.told rest h in
    counted_there c.args.self.now c.loop-line.self c.loop-line.line.items rest left _ c.take_part.new.self.count c.refill.new.self.count s
    c.take_part.ensures.count (c.refill.ensures.refilled.counted s.then left s.left_is k)

pub returns-in_err-refill-clause-too_much : goal.returns-in_err-refill-clause-too_much
returns-in_err-refill-clause-too_much g c =
    let p = err_from_is_err_and c.from_residual-in_err-refill.result c.from_residual-in_err-refill.ensures.1 in
    let over = c.in_err-refill.ensures.refilled.over in
    rw (p.1, p.2) (λ x. omega (arith, over.0 (cc x)), λ h. cc (over.1 (omega (arith, c.refill.ensures.refilled.limit, h))))

pub returns-in_err-refill-clause-limit : goal.returns-in_err-refill-clause-limit
returns-in_err-refill-clause-limit g c = λ h. c.refill.ensures.refilled.limit

pub returns-then-not-branch-clause-told : goal.returns-then-not-branch-clause-told
returns-then-not-branch-clause-told g c = λ rest h.
    let s = c.loop-line.invariant.told rest h in
    let parts = rw c.if-branch.false at c.in_ok-take_part.ensures.parts in
    let refills = rw c.if-not-branch.true at c.in_ok-refill.ensures.told s.then s.left_is in
    let none = c.in_ok-refill.ensures.refilled.none (cc c.if-not-branch.true) in
    sofar_last c.args.self.now c.loop-line.self c.refill.new.self c.loop-line.line.items c.take_part.new.line.items rest c.take_part.new.self.bytes _ _ c.last_line.result s
    parts refills none.0 none.1 c.loop-line.invariant.opened
    c.last_line.ensures.end c.last_line.ensures.whole c.last_line.ensures.long

pub returns-then-not-branch-clause-counted : goal.returns-then-not-branch-clause-counted
returns-then-not-branch-clause-counted g c = λ rest left h k.
    let s = c.loop-line.invariant.told rest h in
    counted_there c.args.self.now c.loop-line.self c.loop-line.line.items rest left _ c.take_part.new.self.count c.refill.new.self.count s
    c.take_part.ensures.count (c.refill.ensures.refilled.counted s.then left s.left_is k)

pub loop-line-preserved : goal.loop-line-preserved
loop-line-preserved g c =
    let parts = rw c.if-branch.false at c.in_ok-take_part.ensures.parts in
    let some = c.in_ok-refill.ensures.refilled.some (cc c.if-not-branch.false) in
    record {
      told = λ rest h.
          let s = c.loop-line.invariant.told rest h in
          let refills = rw c.if-not-branch.false at c.in_ok-refill.ensures.told s.then s.left_is in
          sofar_more c.args.self.now c.loop-line.self c.refill.new.self c.loop-line.line.items c.take_part.new.line.items rest c.take_part.new.self.bytes _ _ s
          parts refills
          (λ to k. let more = c.refill.ensures.refilled.counted s.then to s.left_is k in omega (arith, more, c.take_part.ensures.count));
      len = c.take_part.ensures.len;
      given = λ h.
          given_more _ _ _ c.args.self.now.count c.loop-line.self.count c.refill.new.self.count (length c.refill.new.self.bytes) c.loop-line.invariant.grows
          (omega (arith, c.refill.ensures.refilled.held, c.take_part.ensures.count)) (c.loop-line.invariant.given h)
          (omega (arith, c.refill.ensures.refilled.held, c.refill.ensures.refilled.given (omega (arith, c.loop-line.invariant.given h))));
      grows = omega (arith, c.refill.ensures.refilled.held, c.take_part.ensures.count, c.loop-line.invariant.grows);
      limit = some.1;
      going = some.2;
      opened = c.loop-line.invariant.opened;
      work = work_more c.args.self.now c.loop-line.self c.refill.new.self c.loop-line.invariant.work
          (omega (arith, c.refill.ensures.refilled.held, c.take_part.ensures.count)) some.1
          c.loop-line.invariant.going some.2;
      faults = omega (arith, c.refill.ensures.refilled.faults, c.loop-line.invariant.faults);
      held = λ feed. let same = c.loop-line.invariant.held feed in absurd (parts.2 (rw same.0 feed));
    }
