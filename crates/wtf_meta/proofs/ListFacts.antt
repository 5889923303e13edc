-- Facts on lists, one list after another.
use Rattle.std.proofs.Common.{Bool, List, [], ◌∷◌, ◌++◌}
use Rattle.std.specs.List.{All}
use Rattle.std.proofs.lemmas.List.Elements.{All-head, All-tail}
use Rattle.wtf_base.specs.declared.slice.Slice.{Slice}
use Rattle.wtf_overlay.specs.Origin.{Place}
use Rattle.wtf_meta.specs.Lists.{Lists, ListFact, TellLists}
use Rattle.wtf_meta.specs.Bytes.{EntryBytes, ListSlices, ListsBytes}

pub TellLists-append : (lists : Lists) (fs gs : List ListFact) → TellLists lists fs → TellLists lists gs → TellLists lists (fs ++ gs)
TellLists-append lists [] gs front back = back
TellLists-append lists (f ∷ fs) gs front back = (front.0, TellLists-append lists fs gs front.1 back)

pub TellLists-parts : (lists : Lists) (fs gs : List ListFact) → TellLists lists (fs ++ gs) → TellLists lists fs × TellLists lists gs
TellLists-parts lists [] gs h = (tt, h)
TellLists-parts lists (f ∷ fs) gs h = let parts = TellLists-parts lists fs gs h.1 in ((h.0, parts.0), parts.1)

module _ (P : List Place → Bool) (Q : Slice → Bool) where
  pub ListSlices-append : (fs gs : List ListFact) → ListSlices P Q fs → ListSlices P Q gs → ListSlices P Q (fs ++ gs)
  ListSlices-append [] gs front back = back
  ListSlices-append (f ∷ fs) gs front back = (front.0, ListSlices-append fs gs front.1 back)

  pub ListSlices-parts : (fs gs : List ListFact) → ListSlices P Q (fs ++ gs) → ListSlices P Q fs × ListSlices P Q gs
  ListSlices-parts [] gs h = (tt, h)
  ListSlices-parts (f ∷ fs) gs h = let parts = ListSlices-parts fs gs h.1 in ((h.0, parts.0), parts.1)

  pub ListsBytes-parts : (fs gs : List ListFact) → ListsBytes P Q (fs ++ gs) → ListsBytes P Q fs × ListsBytes P Q gs
  ListsBytes-parts [] gs h = (tt, h)
  ListsBytes-parts (f ∷ fs) gs h = let parts = ListsBytes-parts fs gs h.1 in ((h.0, parts.0), parts.1)

  -- where P holds of each byte of each list, it does so whatever Q says of the slices
  pub ListsBytes-all : (fs : List ListFact) → All (λ (f : ListFact). All (EntryBytes P) f.list) fs → ListsBytes P Q fs
  ListsBytes-all [] h = tt
  ListsBytes-all (f ∷ fs) h =
      let Whole : ListFact → Type 0 = λ f. All (EntryBytes P) f.list in
      (λ is. All-head Whole f fs h, ListsBytes-all fs (All-tail Whole f fs h))
