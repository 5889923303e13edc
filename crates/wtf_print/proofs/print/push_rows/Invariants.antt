use Rattle.std.proofs.Common.{◌≡◌, ◌++◌, drop}
use Rattle.std.specs.List.{flat_map}
use Rattle.wtf_print.specs.Texts.{row_text}
use Rattle.wtf_print.proofs.print.push_rows.Given as goal

-- the text so far and that of the rows left is the whole
abbrev pub invariant-loop-row : goal.invariant-loop-row
invariant-loop-row l =
    l.out.items ++ flat_map row_text (drop l.row-index l.rows) ≡ l.fn.out.items ++ flat_map row_text l.rows
