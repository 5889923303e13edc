use Rattle.std.proofs.Common.{◌≡◌, ℕ, List, Result, Ok, Err, IfOk, IfErr, is_ok, ◌∙◌, sym}
use Rattle.wtf_values.specs.Names.{NamesOf, names_in, has_name, IsAt, IsGap}
use Rattle.wtf_values.proofs.NameLaws.{has-at, has-gap}
use Rattle.wtf_values.proofs.name_set.NameSet.contains.Goals as goal

told : (s : NamesOf) (name : List ℕ) (r : Result ℕ ℕ) → IfOk r (IsAt (names_in s) name) → IfErr r (IsGap (names_in s) name) → is_ok r ≡ has_name s name
told s name (Ok i) found absent = sym (has-at s name i found)
told s name (Err i) found absent = sym (has-gap s name i absent)

pub returns : goal.returns
returns c = c.is_ok.ensures.value ∙ told c.args.self.now c.args.name.now c.place.result c.place.ensures.found c.place.ensures.absent
