use Rattle.wtf_clients.proofs.Common.{Answer, BesideView, TablesView, of_label, AreSound, DropsJob, DropTurn, ◌≡◌, None, Some, refl, sym, ap, ◌∙◌, subst}
use Rattle.wtf_clients.proofs.{JobMaking.none_taken, JobMaking.keeps_others, JobMaking.none_dropped, JobMaking.drop_turn, JobPins.job_pinned}
use Rattle.wtf_clients.proofs.{JobFrames.job_sound, JobTurning.drop_turned, Lives.tables_of}
use Rattle.wtf_clients.proofs.tables.Tables.drop_job.Goals as goal
use Rattle.wtf_clients.proofs.tables.Tables.drop_job.Goals.{After-drop_job}

-- the base of the job is pinned
pub drop_job-requires : goal.drop_job-requires
drop_job-requires c =
    let old = tables_of c.self.inside in
    job_pinned old c.args.j c.in-Some.job c.self.invariant (sym c.take_job.ensures.job ∙ c.in-Some.is)

pub returns-in_default : goal.returns-in_default
returns-in_default c =
    let old = tables_of c.self.inside in
    let new : TablesView = record old { beside = c.take_job.new.self } in
    let none : of_label old.beside.jobs c.args.j ≡ None = sym c.take_job.ensures.job ∙ c.in_default.is in
    record {
      turn = subst (λ (t : TablesView). DropTurn t new c.args.j _) c.self.view_is
          (none_dropped old new c.args.j none
          (ap (λ b. record old { beside = b }) (none_taken old.beside c.take_job.new.self c.args.j none c.take_job.ensures.is)));
    }

pub invariant_of-self : goal.invariant_of-self
invariant_of-self c =
    subst (λ (b : BesideView). AreSound (record (tables_of c.self.inside) { beside = b }))
    (sym (none_taken c.self.inside.beside c.take_job.new.self c.args.j (sym c.take_job.ensures.job ∙ c.in_default.is) c.take_job.ensures.is)) c.self.invariant

-- the tables before it and after it
abbrev old : After-drop_job → TablesView
old c = tables_of c.self.inside

abbrev new : After-drop_job → TablesView
new c = record (old c) { kv = c.drop_job.new.kv; beside = c.take_job.new.self }

there : (c : After-drop_job) → of_label (old c).beside.jobs c.args.j ≡ Some c.in-Some.job
there c = sym c.take_job.ensures.job ∙ c.in-Some.is

drops : (c : After-drop_job) → DropsJob (old c) (new c) c.args.j c.in-Some.job Answer.Okay
drops c = record {
  answer = refl;
  keeps = keeps_others (old c) (new c) c.args.j None _ c.take_job.ensures.sets c.take_job.ensures.is refl refl;
  marks = ap (λ (b : BesideView). b.scan_jobs) c.take_job.ensures.is;
  kv = c.drop_job.ensures.rest;
  unpinned = c.drop_job.ensures.once;
}

pub returns : goal.returns
returns c =
    let at = (goal.at.returns c).After-drop_job in
    record {
      turn = subst (λ (t : TablesView). DropTurn t (new at) c.args.j Answer.Okay) c.self.view_is
          (drop_turn (old at) (new at) c.args.j c.in-Some.job Answer.Okay (there at) (drops at));
    }

pub invariant_of-self-2 : goal.invariant_of-self-2
invariant_of-self-2 c =
    let at = (goal.at.invariant_of-self-2 c).After-drop_job in
    job_sound (old at) (new at) c.args.j None c.self.invariant
    (drop_turned (old at) (new at) c.args.j c.self.invariant c.in-Some.job (there at) Answer.Okay (drops at))
