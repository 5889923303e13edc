-- What each machine keeps that events in form have led to: the trees that it holds are trees, and the calls that it
-- has logged are in form.
use Rattle.std.specs.Prelude.{◌≡◌, ℕ, All, Some}
use Rattle.std.specs.FinMap.{get}
use Rattle.wtf_model.specs.Form.{IsData, IsFormOp}
use Rattle.wtf_model.specs.Tree.{IsTree}
use Rattle.wtf_model.specs.Transaction.{Transaction}
use Rattle.wtf_model.specs.Steps.{Machine}

pub record IsSoundTransaction (t : Transaction) : Type 0 where
  pub base_is : IsTree t.tree
  pub form : All (IsFormOp IsData) t.ops

pub record IsSoundMachine (m : Machine) : Type 0 where
  pub now_is : IsTree m.now
  pub saved_are : All IsTree m.may_be_saved
  pub open_are : (c : ℕ) (t : Transaction) → get m.transactions c ≡ Some t → IsSoundTransaction t
