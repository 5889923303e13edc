use Rattle.std.proofs.Common.{◌≡◌, ℕ, Option, Some, inr, refl, sym, subst}
use Rattle.wtf_dev.specs.Disk.{DiskKind}
use Rattle.wtf_words.specs.Words.{Request, request}
use Rattle.wtf_words.specs.declared.Asked.{Asked}
use Rattle.wtf_words.specs.declared.Script.{Script}
use Rattle.wtf_words.specs.declared.Script.TheVariants as script
use Rattle.wtf_journaled.specs.Runs.{IsProgramRun, IsScriptRun, JournaledDevices}
use Rattle.wtf_journaled.proofs.program.wtf_journaled.Goals as goal

-- a run of the script that the words ask for, with the settings that they ask for
ran : {S D : Type 0} (stores : DiskKind S) (kind : DiskKind D) (asked : Option Request) (status : ℕ) (old new : JournaledDevices S D) (a : Asked) (s : Script)
    → a.script ≡ s → asked ≡ Some (request a) → IsScriptRun stores kind a.settings s status old new → IsProgramRun stores kind asked status old new
ran stores kind asked status old new a s from is run =
    subst (λ (o : Option Request). IsProgramRun stores kind o status old new) (sym is) (inr (record {
      settings = a.settings;
      asked_is = refl;
      run = subst (λ (x : Script). IsScriptRun stores kind a.settings x status old new) (sym from) run;
    }))

pub returns-in-Read : goal.returns-in-Read
returns-in-Read g c = record {
  ran = ran g.S.Disk.kind g.D.Disk.kind _ c.run-status.result _ _ c.in-Ok.asked script.Read c.in-Read.is c.in-Ok.ensures.asked c.run-status.ensures.ran;
}

pub returns-in-Generated : goal.returns-in-Generated
returns-in-Generated g c = record {
  ran = ran g.S.Disk.kind g.D.Disk.kind _ 2 _ _ c.in-Ok.asked (script.Generated c.in-Generated.field-0) c.in-Generated.is c.in-Ok.ensures.asked (refl, refl);
}
