-- The tree of a run stays small: it begins with few paths, and a line brings no more than there are lines.
use Rattle.std.proofs.Common.{◌≤◌, ◌<◌, ◌+◌, ◌*◌, ◌^◌, ℕ, List, [], ◌∷◌, length, Result, Ok, Err, IfOk, sym, subst, arith}
use Rattle.std.specs.FinMap.{len}
use Rattle.wtf_model.specs.declared.event.Event.{Event}
use Rattle.wtf_model.specs.declared.answer.Kind.{Kind}
use Rattle.wtf_model.specs.Form.{IsFormEvent}
use Rattle.wtf_model.specs.Tree.{Tree, IsTree}
use Rattle.wtf_model.proofs.Growth.{IsLineInForm, len-lines}
use Rattle.wtf_model.proofs.Sizes.{len-root}
use Rattle.wtf_model.proofs.TreeLaws.{IsTree-root_alone}
use Rattle.wtf_meta.specs.Contents.{Told}
use Rattle.wtf_image.proofs.StandsLaws.{stands_few}
use Rattle.wtf_core.specs.Standing.{IsSmall}
use Rattle.wtf_script.specs.declared.limits.TheConstants.{SCRIPT_BYTES}
use Rattle.wtf_script.specs.Grammar.{event_of}
use Rattle.wtf_script.proofs.FormLaws.{event_form}
use Rattle.wtf_serve.specs.Logs.{Log, last}
use Rattle.wtf_serve.specs.Openings.{Opening, StartsFrom}
use Rattle.wtf_serve.specs.Scripts.{line_from, line_of}

form_of : (r : Result Event Kind) → IfOk r IsFormEvent → IsLineInForm (line_from r)
form_of (Ok e) form = form
form_of (Err k) form = tt

line_form : (line : List ℕ) → IsLineInForm (line_of line)
line_form line = form_of (event_of line) (event_form line)

-- the tree that a run starts from
starts_tree : (told : Told) (bytes : List ℕ) (t : Tree) → StartsFrom told bytes t → IsTree t
starts_tree told [] t is = subst IsTree (sym is) IsTree-root_alone
starts_tree told (b ∷ bytes) t image = (image.stands image.rows.header.next_tx (omega arith)).tree_is

pub starts_few : (told : Told) (bytes : List ℕ) (t : Tree) → StartsFrom told bytes t → len t < 2 ^ 32
starts_few told [] t is = subst (λ (u : Tree). len u < 2 ^ 32) (sym is) (omega (arith, len-root))
starts_few told (b ∷ bytes) t image = stands_few told (b ∷ bytes) t image

-- so it is small behind the lines of a script
pub stays_small : (opening : Opening) (told : Told) (t : Tree) (log : Log) → StartsFrom told opening.bytes t → length log.lines ≤ SCRIPT_BYTES + 1
    → IsSmall (last opening t log)
stays_small opening told t log from short =
    let few : len t < 2 ^ 32 = starts_few told opening.bytes t from in
    let more : len (last opening t log).now ≤ len t + length log.lines * 1073741825 =
    len-lines line_of line_form opening.settings opening.number t (starts_tree told opening.bytes t from) 1073741825 log.lines log.answers
    (omega (arith, short)) in
    omega (arith, few, more, short)
