use Rattle.std.proofs.Common.{◌≡◌, ◌≤◌, ◌++◌, ◌∷◌, [], ℕ, List, Some, ap, ◌∙◌, arith}
use Rattle.wtf_model.specs.declared.limits.TheConstants.{MAX_SHOWN}
use Rattle.wtf_carry.specs.Asked.{asked_text, turn, carried, shows, begin_line, open_line, abort_line, read_line}
use Rattle.wtf_carry.proofs.ReadLaws.{read_sofar-more, read_sofar-end}
use Rattle.wtf_carry.proofs.reading.reads.Goals as goal

pub loop-at-preserved : goal.loop-at-preserved
loop-at-preserved g c =
    let path = c.args.path.now in
    let i = c.loop-at.i in
    let at = c.loop-at.at in
    let n = c.min-n.result in
    let some : 1 ≤ n = omega arith in
    let most : n ≤ MAX_SHOWN = omega arith in
    record {
      within = omega arith;
      few = omega arith;
      is_path = c.loop-at.invariant.is_path;
      faults = omega (arith, c.loop-at.invariant.faults, c.in-Ok-write_all.ensures.faults);
      sofar = λ old from.
          let s = c.loop-at.invariant.sofar old from in
          let before = old ++ asked_text (begin_line ∷ open_line path ∷ carried shows path 0 0 s.sizes) in
          read_sofar-more path old i at n (g.O.Sink.view c.loop-at.out).taken (g.O.Sink.view c.write_all-in-loop-at.new.out).taken s (some, most)
          (c.in-Ok-write_all.ensures.told before s.new_is ∙ ap (λ (l : List ℕ). Some (before ++ l)) (c.as_slice-in-loop-at.ensures.value
          ∙ c.in_ok-push_share.ensures ∙ ap (λ (l : List ℕ). l ++ asked_text (turn abort_line path i at ++ read_line n ∷ [])) c.clear.ensures.items));
    }

pub returns-in-Ok-write_all-2-clause-reads : goal.returns-in-Ok-write_all-2-clause-reads
returns-in-Ok-write_all-2-clause-reads g c = λ old from.
    let path = c.args.path.now in
    let s = c.loop-at.invariant.sofar old from in
    let all : c.loop-at.at ≡ c.args.len = omega (arith, c.loop-at.invariant.within) in
    read_sofar-end path old c.loop-at.i c.loop-at.at c.args.len (g.O.Sink.view c.loop-at.out).taken (g.O.Sink.view c.write_all-2.new.out).taken s
    c.loop-at.invariant.is_path all c.requires
    (c.in-Ok-write_all-2.ensures.told (old ++ asked_text (begin_line ∷ open_line path ∷ carried shows path 0 0 s.sizes)) s.new_is)
