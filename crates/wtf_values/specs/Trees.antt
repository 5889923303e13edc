-- What a tree of names has.
use Rattle.std.specs.Prelude.{ℕ, List, [], Option, None, Some}
use Rattle.std.specs.declared.rc.Rc.{Rc}
use Rattle.std.specs.declared.alloc.Global.{Global}
use Rattle.wtf_values.specs.declared.name_tree.Node.{Node}

-- the names of a tree, one after another
abbrev pub listed : Option (Rc Node Global) → List (List ℕ)
listed None = []
listed (Some node) = node.value
