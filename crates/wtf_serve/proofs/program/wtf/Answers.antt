use Rattle.std.proofs.Common.{◌≡◌, ℕ, List, Option, Some, inr, refl, sym, subst}
use Rattle.wtf_dev.specs.Store.{StoreKind}
use Rattle.wtf_words.specs.Words.{Request, request}
use Rattle.wtf_words.specs.declared.Asked.{Asked}
use Rattle.wtf_words.specs.declared.Script.{Script}
use Rattle.wtf_words.specs.declared.Script.TheVariants as script
use Rattle.wtf_serve.specs.Endings.{Devices}
use Rattle.wtf_serve.specs.Program.{IsProgramRun, IsScriptRun}
use Rattle.wtf_serve.proofs.Refusing.{status_says}
use Rattle.wtf_serve.proofs.program.wtf.Goals as goal

-- a run of the script that the words ask for, with the settings that they ask for
ran : {S : Type 0} (kind : StoreKind S) (handed : List (List ℕ) → Type 0) (asked : Option Request) (status : ℕ) (old new : Devices S) (a : Asked) (s : Script)
    → a.script ≡ s → asked ≡ Some (request a) → IsScriptRun kind handed a.settings s status (old, new) → IsProgramRun kind handed asked status old new
ran kind handed asked status old new a s from is run =
    subst (λ (o : Option Request). IsProgramRun kind handed o status old new) (sym is) (inr (record {
      settings = a.settings;
      asked_is = refl;
      run = subst (λ (x : Script). IsScriptRun kind handed a.settings x status (old, new)) (sym from) run;
    }))

pub returns-in-Read-clause-served : goal.returns-in-Read-clause-served
returns-in-Read-clause-served g c =
    ran g.S.SliceStore.kind (g.K.Keeper.follows c.args.keeper.now c.serve-status.new.keeper) _ c.serve-status.result _ _ c.in-Ok.asked script.Read c.in-Read.is
    c.in-Ok.ensures.asked c.serve-status.ensures.served

pub returns-in-Read-clause-status : goal.returns-in-Read-clause-status
returns-in-Read-clause-status g c = status_says g.S.SliceStore.kind (g.K.Keeper.follows c.args.keeper.now c.serve-status.new.keeper) _ c.serve-status.result
    _ _ (returns-in-Read-clause-served g c)

pub returns-in-Read-clause-left : goal.returns-in-Read-clause-left
returns-in-Read-clause-left g c = λ is.
    let did = c.serve-status.ensures in
    record { unread = did.unread is; unwritten = did.unwritten is; untouched = did.untouched is; unkept = did.unkept is }

pub returns-in-Generated-clause-served : goal.returns-in-Generated-clause-served
returns-in-Generated-clause-served g c =
    ran g.S.SliceStore.kind (g.K.Keeper.follows c.args.keeper.now c.serve_generated-status.new.keeper) _ c.serve_generated-status.result _ _ c.in-Ok.asked
    (script.Generated c.in-Generated.recipe) c.in-Generated.is c.in-Ok.ensures.asked
    (c.serve_generated-status.ensures.served (g.I.Source.view c.args.script.now))

pub returns-in-Generated-clause-status : goal.returns-in-Generated-clause-status
returns-in-Generated-clause-status g c = status_says g.S.SliceStore.kind
    (g.K.Keeper.follows c.args.keeper.now c.serve_generated-status.new.keeper) _ c.serve_generated-status.result _ _ (returns-in-Generated-clause-served g c)

pub returns-in-Generated-clause-left : goal.returns-in-Generated-clause-left
returns-in-Generated-clause-left g c = λ is.
    let did = c.serve_generated-status.ensures in
    record { unread = refl; unwritten = did.unwritten is; untouched = did.untouched is; unkept = did.unkept is }
