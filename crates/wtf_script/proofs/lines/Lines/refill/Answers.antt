use Rattle.std.proofs.Common.{ℕ, List, ◌++◌, drop, arith, sym, ap, ◌∙◌}
use Rattle.std.proofs.lemmas.List.{take-append-drop}
use Rattle.wtf_script.specs.Reading.{Held}
use Rattle.wtf_script.proofs.Chunks.{one_read, one_more, none_read, chunk_is}
use Rattle.wtf_script.proofs.lines.Lines.refill.Goals as goal

pub returns-then-self-gt-SCRIPT_BYTES-clause-told : goal.returns-then-self-gt-SCRIPT_BYTES-clause-told
returns-then-self-gt-SCRIPT_BYTES-clause-told g c = λ rest h.
    let r = c.in-Ok.ensures.told rest h in
    let count = ap (λ (x : Held). x.count) c.self.view_is in
    let room = c.room_at-room.ensures in
    one_read c.in-Ok.n rest _
    (one_more c.self.inside.count c.room_at-room.result c.in-Ok.n (omega (arith, count)) room.below room.full
    (omega (arith, c.in-Ok.ensures.count, c.split_at_mut-front.ensures.front_len)) c.if-n-eq0.false c.if-self-gt-SCRIPT_BYTES.true)
    r.0 r.2

pub returns-then-n-eq0-clause-told : goal.returns-then-n-eq0-clause-told
returns-then-n-eq0-clause-told g c = λ rest h.
    let r = c.in-Ok.ensures.told rest h in
    none_read _ _ rest _ (omega arith) (omega (arith, c.room_at-room.ensures, c.split_at_mut-front.ensures.front_len)) r.2 r.3

pub returns-clause-told : goal.returns-clause-told
returns-clause-told g c = λ rest h.
    let r = c.in-Ok.ensures.told rest h in (
      drop c.in-Ok.n rest,
      sym (take-append-drop c.in-Ok.n rest) ∙ ap (λ (l : List ℕ). l ++ drop c.in-Ok.n rest)
          (sym (chunk_is c.read.new.out c.split_at_mut-front.result.1.now _ rest c.in-Ok.n c.self.inside.buffer.len
          (omega (arith, c.in-Ok.ensures.count, c.read.auto.out)) (omega (arith, c.in-Ok.ensures.count, c.split_at_mut-front.ensures.front_len, c.deref_mut.ensures.len)) r.1)),
      r.2,
    )
