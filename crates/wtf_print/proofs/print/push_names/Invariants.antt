use Rattle.std.proofs.Common.{◌≡◌, ◌++◌, drop}
use Rattle.std.specs.List.{flat_map}
use Rattle.wtf_print.specs.Texts.{name_text}
use Rattle.wtf_print.proofs.print.push_names.Given as goal

-- the text so far and that of the names left is the whole
abbrev pub invariant-loop-name : goal.invariant-loop-name
invariant-loop-name l =
    l.out.items ++ flat_map name_text (drop l.name-index l.names)
    ≡ l.fn.out.items ++ flat_map name_text l.names
