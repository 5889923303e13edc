-- The statuses of a run with a journal.
use Rattle.std.proofs.Common.{◌≡◌, ◌⊎◌, ◌≤◌, ◌==◌, if◌then◌else◌, ℕ, Bool, true, false, Option, Some, None, refl, arith, inl, inr}
use Rattle.std.proofs.lemmas.Bool.{eqb-true}
use Rattle.wtf_base.specs.declared.settings.Settings.{Settings}
use Rattle.wtf_dev.specs.Disk.{DiskKind}
use Rattle.wtf_dev.specs.Streams.{SinkView}
use Rattle.wtf_image.specs.declared.error.LoadError.{LoadError}
use Rattle.wtf_image.specs.declared.error.LoadError.TheVariants as error
use Rattle.wtf_words.specs.Words.{Request}
use Rattle.wtf_words.specs.declared.Script.{Script}
use Rattle.wtf_words.specs.declared.Script.TheVariants as script
use Rattle.wtf_serve.specs.declared.opening.NotOpened.TheVariants.{Image}
use Rattle.wtf_serve.specs.Beginnings.{EndsBy}
use Rattle.wtf_serve.specs.Endings.{IsServedStatus}
use Rattle.wtf_serve.specs.Unopened.{IsRunStatus}
use Rattle.wtf_journal.specs.declared.fault.JournalFault.TheVariants as fault
use Rattle.wtf_durable.specs.declared.fault.Unopened.{Unopened}
use Rattle.wtf_durable.specs.declared.fault.Unopened.TheVariants as unopened
use Rattle.wtf_journaled.specs.Breaks.{text_status}
use Rattle.wtf_journaled.specs.Refusals.{EndsUnopened}
use Rattle.wtf_journaled.specs.Runs.{IsJournaledRun, IsProgramRun, IsScriptRun, JournaledDevices}

four_or_six : (status : ℕ) → (status ≡ 6) ⊎ (status ≡ 4) → status ≤ 9
four_or_six status (inl e) = omega (arith, e)
four_or_six status (inr e) = omega (arith, e)

refused_status : (why : LoadError) (status : ℕ) (old new : SinkView) → EndsBy (Image why) status old new → status ≤ 9
refused_status error.NotAnImage status old new ends = four_or_six status ends.status_is
refused_status error.BadTree status old new ends = four_or_six status ends.status_is
refused_status error.PointerOutside status old new ends = four_or_six status ends.status_is
refused_status error.BadSettings status old new ends = four_or_six status ends.status_is
refused_status error.Memory status old new ends = omega (arith, ends.0)

unopened_status : (why : Unopened) (status : ℕ) (old new : SinkView) → EndsUnopened why status old new → status ≤ 9
unopened_status (unopened.Journal fault.Failed) status old new ends = omega (arith, ends.0)
unopened_status (unopened.Journal (fault.NotAJournal n)) status old new ends = four_or_six status ends.status_is
unopened_status (unopened.Journal fault.Memory) status old new ends = omega (arith, ends.0)
unopened_status (unopened.Image why) status old new ends = refused_status why status old new ends
unopened_status unopened.Small status old new ends = omega (arith, ends.0)
unopened_status unopened.Save status old new ends = omega (arith, ends.0)
unopened_status unopened.Memory status old new ends = omega (arith, ends.0)

served_status : (status : ℕ) → IsServedStatus status → status ≤ 9
served_status status (inl (inl e)) = omega (arith, e)
served_status status (inl (inr e)) = omega (arith, e)
served_status status (inr (inl e)) = omega (arith, e)
served_status status (inr (inr (inl e))) = omega (arith, e)
served_status status (inr (inr (inr (inl e)))) = omega (arith, e)
served_status status (inr (inr (inr (inr (inl e))))) = omega (arith, e)
served_status status (inr (inr (inr (inr (inr e))))) = omega (arith, e)

-- 5 is not known without a journal
five : (b : Bool) (status : ℕ) → (status == 5) ≡ b → (if b then 7 else status) ≤ 9 → status ≤ 9
five true status is small = omega (arith, eqb-true status 5 is)
five false status is small = small

run_status : {S D : Type 0} (stores : DiskKind S) (kind : DiskKind D) (settings : Settings) (status : ℕ) (old new : JournaledDevices S D)
    → IsJournaledRun stores kind settings status old new → status ≤ 9
run_status stores kind settings status old new (inl run) = unopened_status run.why status old.sink new.sink run.ends
run_status stores kind settings status old new (inr run) = five (status == 5) status refl (served_status (text_status status) run.served.statuses)

script_status : {S D : Type 0} (stores : DiskKind S) (kind : DiskKind D) (settings : Settings) (s : Script) (status : ℕ) (old new : JournaledDevices S D)
    → IsScriptRun stores kind settings s status old new → status ≤ 9
script_status stores kind settings script.Read status old new run = run_status stores kind settings status old new run
script_status stores kind settings (script.Generated recipe) status old new run = omega (arith, run.0)

pub program_status : {S D : Type 0} (stores : DiskKind S) (kind : DiskKind D) (asked : Option Request) (status : ℕ) (old new : JournaledDevices S D)
    → IsProgramRun stores kind asked status old new → IsRunStatus status
program_status stores kind None status old new run = elim run.0 [ inl e ↦ omega (arith, e) | inr e ↦ omega (arith, e) ]
program_status stores kind (Some request) status old new (inl run) = omega (arith, run.0)
program_status stores kind (Some request) status old new (inr run) = script_status stores kind run.settings request.script status old new run.run
