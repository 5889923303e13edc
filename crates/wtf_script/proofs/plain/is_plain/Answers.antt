use Rattle.std.proofs.Common.{arith}
use Rattle.wtf_script.proofs.PlainLaws.{plain_shown, plain_words}
use Rattle.wtf_script.proofs.plain.is_plain.Goals as goal

pub returns : goal.returns
returns c = λ all.
    let line = c.args.line.now in
    let plain = c.is_plain_before_last.ensures all in
    let first = c.if-not-is_ascii_graphic.ensures.cases in
    let last = c.if-not-is_ascii_graphic-2.ensures.cases in (
      plain_shown line c.requires plain (omega (arith, last)) (omega (arith, last)),
      plain_words line c.requires plain (omega (arith, last)) (omega (arith, first)),
    )
