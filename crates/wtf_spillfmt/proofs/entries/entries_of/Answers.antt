use Rattle.std.proofs.Common.{◌≡◌, ◌≤◌, ◌+◌, ◌++◌, ◌∷◌, []}
use Rattle.std.proofs.lemmas.Result.{err_from_is_err_and}
use Rattle.std.proofs.lemmas.List.{map_push}
use Rattle.std.proofs.lemmas.List.Elements.{All-push}
use Rattle.wtf_overlay.specs.declared.part.Entry.{Entry}
use Rattle.wtf_overlay.specs.Rows.{entry_row, entry_rows}
use Rattle.wtf_overlay.specs.Reading.{entry_at, many_at}
use Rattle.wtf_spillfmt.proofs.Many.{goes_on, ends}
use Rattle.wtf_spillfmt.proofs.entries.entries_of.Goals as goal

pub returns-in_err-entry-clause-value : goal.returns-in_err-entry-clause-value
returns-in_err-entry-clause-value c =
    let p = err_from_is_err_and c.from_residual.result c.from_residual.ensures.1 in
    let read = entry_at c.args.end in
    rw (p.1, p.2) (ends read c.in_err-entry.field-0.0 (entry_rows c.loop.list.items) c.args.count c.loop.counter c.loop.rest.now (many_at read c.args.count c.args.bytes.now) c.loop-test.true c.in_err-entry.ensures.value c.loop.invariant.0)

pub loop-preserved : goal.loop-preserved
loop-preserved c =
    let e = c.in_ok-entry.entry in
    let read = entry_at c.args.end in
    let all : entry_rows c.push.new.self.items ≡ entry_rows c.loop.list.items ++ entry_row e ∷ [] = rw c.in_ok-push.ensures.items (map_push _ c.loop.list.items e) in (
      rw all (goes_on read (entry_rows c.loop.list.items) c.args.count c.loop.counter c.loop.rest.now (entry_row e) c.in_ok-entry.after.now (many_at read c.args.count c.args.bytes.now) c.loop-test.true c.in_ok-entry.ensures.value c.loop.invariant.0),
      rw c.in_ok-push.ensures.items (All-push (λ (x : Entry). x.off + x.len ≤ c.args.end) c.loop.list.items e c.loop.invariant.1 c.in_ok-entry.ensures.within),
    )
