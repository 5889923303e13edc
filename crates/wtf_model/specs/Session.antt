-- What one transaction sees: a tree, its open handles, and its slices as bytes.
-- NSDI 2016, section 2 (handles and slices belong to a transaction).
use Rattle.std.specs.Prelude.{ℕ, List}
use Rattle.std.specs.FinMap.{FinMap, empty}
use Rattle.std.specs.Ordering.{nat_cmp}
use Rattle.wtf_model.specs.Tree.{Tree}

-- an open file, and the offset in it, in bytes
pub record Handle : Type 0 where
  pub path : List ℕ
  pub off : ℕ

-- handles and slices go by their labels
pub record Session : Type 0 where
  pub tree : Tree
  pub handles : FinMap nat_cmp Handle
  pub slices : FinMap nat_cmp (List ℕ)

-- the session of a tree, without handles and slices
abbrev pub fresh : Tree → Session
fresh tree = record { tree = tree; handles = empty; slices = empty }
