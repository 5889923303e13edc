-- The tree that an image opens stays small for so many events.
use Rattle.std.proofs.Common.{◌≡◌, ◌≤◌, ◌<◌, ◌+◌, ◌*◌, ◌^◌, ℕ, List, [], ◌∷◌, length, map, Ok, refl, sym, ap, subst, arith}
use Rattle.std.specs.FinMap.{len}
use Rattle.std.specs.List.{All}
use Rattle.std.proofs.lemmas.List.Elements.{All-head, All-tail}
use Rattle.wtf_base.specs.declared.settings.Settings.{Settings}
use Rattle.wtf_meta.specs.Contents.{Told}
use Rattle.wtf_model.specs.declared.answer.Answer.{Answer}
use Rattle.wtf_model.specs.declared.event.Event.{Event}
use Rattle.wtf_model.specs.Form.{IsFormEvent}
use Rattle.wtf_model.specs.Lines.{Line, machine_after}
use Rattle.wtf_model.specs.Machines.{start}
use Rattle.wtf_model.specs.Tree.{Tree, IsTree}
use Rattle.wtf_model.proofs.Growth.{IsLineInForm, len-lines}
use Rattle.wtf_model.proofs.TreeLaws.{IsTree-root_alone}
use Rattle.wtf_core.specs.Standing.{IsSmall}
use Rattle.wtf_serve.specs.Openings.{StartsFrom}
use Rattle.wtf_serve.proofs.Growing.{starts_few}

-- an image opens a tree
opens_tree : (told : Told) (image : List ℕ) (t : Tree) → StartsFrom told image t → IsTree t
opens_tree told [] t is = subst IsTree (sym is) IsTree-root_alone
opens_tree told (b ∷ image) t is = (is.stands is.rows.header.next_tx (omega arith)).tree_is

-- an event that is in form
abbrev FormEvent : Type 0
FormEvent = (e : Event) × IsFormEvent e

abbrev asked : Event → Line
asked e = Ok e

abbrev asked_in_form : FormEvent → Line
asked_in_form x = asked x.0

in_form : (x : FormEvent) → IsLineInForm (asked_in_form x)
in_form x = x.1

-- events in form, as such
formed : (events : List Event) → All IsFormEvent events
    → (xs : List FormEvent) × (map asked_in_form xs ≡ map asked events) × (length xs ≡ length events)
formed [] form = ([], refl, refl)
formed (e ∷ events) form =
    let (xs, same, each) = formed events (All-tail IsFormEvent e events form) in
    ((e, All-head IsFormEvent e events form) ∷ xs, ap (λ (lines : List Line). asked e ∷ lines) same, omega (arith, each))

pub events_small : (told : Told) (image : List ℕ) (t : Tree) (settings : Settings) (number : ℕ) (events : List Event) (answers : List Answer)
    → StartsFrom told image t → All IsFormEvent events → length events ≤ 2 ^ 30
    → IsSmall (machine_after (start settings number t) (map asked events) answers)
events_small told image t settings number events answers from form short =
    let few : len t < 2 ^ 32 = starts_few told image t from in
    let (xs, same, each) = formed events form in
    let more : len (machine_after (start settings number t) (map asked_in_form xs) answers).now ≤ len t + length xs * 1073741824 =
    len-lines asked_in_form in_form settings number t (opens_tree told image t from) 1073741824 xs answers (omega (arith, each, short)) in
    subst (λ (lines : List Line). IsSmall (machine_after (start settings number t) lines answers)) same (omega (arith, few, more, each, short))
