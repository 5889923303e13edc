use Rattle.std.proofs.Common.{◌≡◌, ◌++◌, ℕ, List, Some, None, Err, ap, ◌∙◌, arith, subst, rules}
use Rattle.wtf_carry.specs.declared.stop.Stop.TheVariants as stop
use Rattle.wtf_carry.specs.Asked.{asked_text, carried, writes}
use Rattle.wtf_carry.specs.Puts.{head_lines, HasHead}
use Rattle.wtf_carry.proofs.PutLaws.{sofar-start, sofar-more, sofar-end, sofar-too_long, carries-some, carries-none, carries-too_long}
use Rattle.wtf_carry.proofs.putting.put.Goals as goal

pub returns-in_err-n-clause-too_long : goal.returns-in_err-n-clause-too_long
returns-in_err-n-clause-too_long g c = λ is all old from to.
    let path = c.args.path.now in
    let s = c.loop-text.invariant.sofar all old from to in
    let mid = old ++ asked_text (head_lines path s.up ++ carried writes path 0 0 s.pieces) in
    let e : c.carry.result ≡ Err stop.TooLong = grind (arith, c.in_err-n.was) in
    sofar-too_long path all old c.loop-text.i c.loop-text.at (g.I.Source.view c.loop-text.from).rest (g.O.Sink.view c.loop-text.out).taken s
    (carries-too_long path c.loop-text.i c.loop-text.at s.rest mid (g.I.Source.view c.carry.new.from).rest
    (g.O.Sink.view c.carry.new.out).taken c.carry.result e
    (c.carry.ensures.carried s.rest mid s.left_is s.new_is))

pub loop-text-init : goal.loop-text-init
loop-text-init g c = record {
  within = omega arith;
  few = omega arith;
  from_faults = omega arith;
  out_faults = c.in-Ok.ensures.faults;
  sofar = λ all old from to.
      let P : List ℕ → Type 0 = λ l. HasHead c.args.path.now l c.push_head.new.text.items in
      sofar-start c.args.path.now all old c.push_head.new.text.items (g.I.Source.view c.args.from.now).rest (g.O.Sink.view c.write_all.new.out).taken
      (subst P c.new-text.ensures.items c.in_ok-push_head.ensures) from
      (c.in-Ok.ensures.told old to ∙ ap (λ (l : List ℕ). Some (old ++ l)) c.as_slice.ensures.value);
}

pub loop-text-preserved : goal.loop-text-preserved
loop-text-preserved g c = record {
  within = search rules;
  few = search rules;
  from_faults = omega (arith, c.loop-text.invariant.from_faults, c.carry.ensures.from_faults);
  out_faults = omega (arith, c.loop-text.invariant.out_faults, c.carry.ensures.out_faults);
  sofar = λ all old from to.
      let path = c.args.path.now in
      let s = c.loop-text.invariant.sofar all old from to in
      let mid = old ++ asked_text (head_lines path s.up ++ carried writes path 0 0 s.pieces) in
      sofar-more path all old c.loop-text.i c.loop-text.at c.in-Some.n (g.I.Source.view c.loop-text.from).rest (g.O.Sink.view c.loop-text.out).taken
      (g.I.Source.view c.carry.new.from).rest (g.O.Sink.view c.carry.new.out).taken s
      (carries-some path c.loop-text.i c.loop-text.at c.in-Some.n s.rest mid (g.I.Source.view c.carry.new.from).rest
      (g.O.Sink.view c.carry.new.out).taken c.in_ok-n.field-0 c.in-Some.is
      (c.in_ok-n.ensures.carried s.rest mid s.left_is s.new_is));
}

pub returns-in-Ok-write_all-clause-put : goal.returns-in-Ok-write_all-clause-put
returns-in-Ok-write_all-clause-put g c = λ all old from to.
    let path = c.args.path.now in
    let s = c.loop-text.invariant.sofar all old from to in
    let mid = old ++ asked_text (head_lines path s.up ++ carried writes path 0 0 s.pieces) in
    let e : c.in_ok-n.field-0 ≡ None = search rules in
    let end = carries-none path c.loop-text.i c.loop-text.at s.rest mid (g.I.Source.view c.carry.new.from).rest
    (g.O.Sink.view c.carry.new.out).taken c.in_ok-n.field-0 e
    (c.in_ok-n.ensures.carried s.rest mid s.left_is s.new_is) in
    sofar-end path all old c.loop-text.i c.loop-text.at (g.I.Source.view c.loop-text.from).rest (g.O.Sink.view c.loop-text.out).taken
    (g.I.Source.view c.carry.new.from).rest (g.O.Sink.view c.carry.new.out).taken (g.O.Sink.view c.write_all-2.new.out).taken s c.loop-text.invariant.within end
    (c.in-Ok-write_all.ensures.told mid end.new_is)
