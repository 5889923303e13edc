use Rattle.std.proofs.Common.{rules, ◌≡◌, ℕ, ◌||◌, ◌++◌, ◌∷◌, Option, sym, ap, ◌∙◌, append_assoc}
use Rattle.std.specs.Option.{option_copied}
use Rattle.wtf_values.specs.declared.value.Value.{Value}
use Rattle.wtf_gc.specs.Extents.{extents_cover}
use Rattle.wtf_gc.specs.Parts.{value_has, value_bases, versions_have, versions_bases}
use Rattle.wtf_gc.proofs.Adding.{or_thrice}
use Rattle.wtf_gc.proofs.gather.add_versions.Goals as goal

pub loop-version-preserved : goal.loop-version-preserved
loop-version-preserved c =
    let v : ℕ × Option Value = (c.in-Some.version.0, option_copied c.in-Some.version.1) in
    let rest = c.next.new.self in
    let was = c.loop-version.to in
    let is : c.loop-version.version-iterator ≡ v ∷ rest = search rules in
    record {
      found_is = λ p.
          ap (λ b. b || versions_have rest p) (c.in_ok-add_value.ensures.found p) ∙ or_thrice (extents_cover was.found p) (value_has v.1 p)
          (versions_have rest p)
          ∙ ap (λ b. extents_cover was.found p || b) (sym (ap (λ vs. versions_have vs p) is)) ∙ c.loop-version.invariant.found_is p;
      bases_are = ap (λ l. l ++ versions_bases c.args.part rest) c.in_ok-add_value.ensures.bases
          ∙ append_assoc was.bases.items (value_bases c.args.part v.1) (versions_bases c.args.part rest)
          ∙ ap (λ l. was.bases.items ++ l) (sym (ap (versions_bases c.args.part) is)) ∙ c.loop-version.invariant.bases_are;
      can_next = search rules;
      is_finite = tt;
    }
