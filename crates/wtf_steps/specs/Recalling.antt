-- Which lists a call recalls.
use Rattle.std.specs.Prelude.{◌≡◌, ℕ, List, []}
use Rattle.wtf_dev.specs.Store.{StoreKind}
use Rattle.wtf_overlay.specs.declared.part.Piece.{Piece}
use Rattle.wtf_model.specs.declared.answer.Answer.{Answer}
use Rattle.wtf_meta.specs.Files.{FileView}
use Rattle.wtf_meta.specs.Lists.{ListFact}
use Rattle.wtf_meta.specs.Reads.{ReadsFile}
use Rattle.wtf_region.specs.declared.dev.Dev.{Dev}
use Rattle.wtf_region.specs.Bases.{slices_of, bases_in}
use Rattle.wtf_region.specs.Reads.{Recalls, TellsFacts}
use Rattle.wtf_steps.specs.Steps.{IsRefusal}

-- of these lists F holds, where a call answered a; a refusal reads none
pub record ReadsFor (a : Answer) (F : List ListFact → Type 0) (facts : List ListFact) : Type 0 where
  pub refused : IsRefusal a → facts ≡ []
  pub made : (IsRefusal a → ⊥) → F facts

-- a call that answered a asked for lists of which F holds, and the stores tell them
pub record RecallsFor {S : Type 0} (kind : StoreKind S) (a : Answer) (F : List ListFact → Type 0) (old new : Dev S) : Type 0 where
  pub facts : List ListFact
  pub recalls : Recalls kind old new facts
  pub known : TellsFacts kind old new facts
  pub reads : ReadsFor a F facts

-- the lists of the bases under n bytes of a file from off on, in order, by which these are read
pub record AreListsOf (b : ℕ) (v : FileView) (off n : ℕ) (facts : List ListFact) : Type 0 where
  pub wants : slices_of facts ≡ bases_in b v off n
  pub pieces : List Piece
  pub reads : ReadsFile b v off n facts pieces
