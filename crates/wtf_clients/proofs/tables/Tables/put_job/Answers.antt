use Rattle.wtf_clients.proofs.Common.{times_pinned, metadata_at, BesideView, TablesView, of_label, with_jobs, AreSound, IsAlike, Puts, PutTurn, KeepsOthers}
use Rattle.wtf_clients.proofs.Common.{◌≡◌, None, Some, set, refl, sym, ap, ◌∙◌, subst}
use Rattle.wtf_clients.proofs.{JobMaking.given_back, JobMaking.none_taken, JobMaking.keeps_others, JobMaking.none_put, JobMaking.put_turn, JobPins.job_pinned}
use Rattle.wtf_clients.proofs.{Lists.sets_same, Staying.stays_sound, JobFrames.job_sound, JobTurning.put_turned, Lives.tables_of}
use Rattle.wtf_clients.proofs.tables.Tables.put_job.Goals as goal
use Rattle.wtf_clients.proofs.tables.Tables.put_job.Goals.{After-put}

-- the base of the job is pinned
pub put-requires-clause-pinned : goal.put-requires-clause-pinned
put-requires-clause-pinned c =
    let old = tables_of c.self.inside in
    job_pinned old c.args.j c.in-Some.job c.self.invariant (sym c.take_job.ensures.job ∙ c.in-Some.is)

pub returns-in_default-clause-turn : goal.returns-in_default-clause-turn
returns-in_default-clause-turn c =
    let old = tables_of c.self.inside in
    let new : TablesView = record old { beside = c.take_job.new.self } in
    let none : of_label old.beside.jobs c.args.j ≡ None = sym c.take_job.ensures.job ∙ c.in_default.is in
    subst (λ (t : TablesView). PutTurn t new c.args.j _) c.self.view_is
    (none_put old new c.args.j none (ap (λ b. record old { beside = b }) (none_taken old.beside c.take_job.new.self c.args.j none c.take_job.ensures.is)))

pub invariant_of-self : goal.invariant_of-self
invariant_of-self c =
    subst (λ (b : BesideView). AreSound (record (tables_of c.self.inside) { beside = b }))
    (sym (none_taken c.self.inside.beside c.take_job.new.self c.args.j (sym c.take_job.ensures.job ∙ c.in_default.is) c.take_job.ensures.is)) c.self.invariant

-- the tables before it
abbrev old : After-put → TablesView
old c = tables_of c.self.inside

there : (c : After-put) → of_label (old c).beside.jobs c.args.j ≡ Some c.in-Some.job
there c = sym c.take_job.ensures.job ∙ c.in-Some.is

abbrev left : After-put → TablesView
left c = record (old c) { kv = c.put.new.kv; beside = c.take_job.new.self }

keeps : (c : After-put) → KeepsOthers (old c) (left c) c.args.j None
keeps c = keeps_others (old c) (left c) c.args.j None _ c.take_job.ensures.sets c.take_job.ensures.is refl refl

pub returns-in-Ok-clause-turn : goal.returns-in-Ok-clause-turn
returns-in-Ok-clause-turn c =
    let at = (goal.at.returns-in-Ok-clause-turn c).After-put in
    let did = c.in-Ok.ensures in
    let puts : Puts (old at) (left at) c.args.j c.in-Some.job c.in-Ok.answer =
    record { keeps = keeps at; marks = ap (λ (b : BesideView). b.scan_jobs) c.take_job.ensures.is; put = did.put; maps = did.maps; unpinned = did.once } in
    subst (λ (t : TablesView). PutTurn t (left at) c.args.j c.in-Ok.answer) c.self.view_is
    (put_turn (old at) (left at) c.args.j c.in-Some.job c.in-Ok.answer (there at) puts)

pub invariant_of-self-in-Ok : goal.invariant_of-self-in-Ok
invariant_of-self-in-Ok c =
    let at = (goal.at.invariant_of-self-in-Ok c).After-put in
    let did = c.in-Ok.ensures in
    let puts : Puts (old at) (left at) c.args.j c.in-Some.job c.in-Ok.answer =
    record { keeps = keeps at; marks = ap (λ (b : BesideView). b.scan_jobs) c.take_job.ensures.is; put = did.put; maps = did.maps; unpinned = did.once } in
    job_sound (old at) (left at) c.args.j None c.self.invariant
    (put_turned (old at) (left at) c.args.j c.self.invariant c.in-Some.job (there at) c.in-Ok.answer puts)

-- want of memory gives the job back
pub returns-in-Err-Memory-clause-err : goal.returns-in-Err-Memory-clause-err
returns-in-Err-Memory-clause-err c =
    let old = tables_of c.self.inside in
    let there : of_label old.beside.jobs c.args.j ≡ Some c.in-Some.job = sym c.take_job.ensures.job ∙ c.in-Some.is in
    let kept = c.in-Err-Memory.ensures.err in
    let back : c.set_job.new.self ≡ with_jobs c.take_job.new.self (set c.take_job.new.self.jobs c.args.j (Some c.in-Some.job)) =
    rw c.in-Err-Memory.ensures.whole at c.set_job.ensures.is in
    subst (λ (t : TablesView). IsAlike t
    (record old { kv = c.put.new.kv; beside = c.set_job.new.self })) c.self.view_is (record {
      clients = refl;
      number = kept.same.number;
      map = ap (metadata_at c.put.new.kv) kept.same.number ∙ kept.maps old.kv.number;
      versions = kept.same.versions;
      pins = λ n. ap (λ l. times_pinned (record old.kv { pins = l }) n) kept.same.pins;
      next_tx = refl;
      beside = given_back old.beside c.take_job.new.self c.set_job.new.self c.args.j c.in-Some.job there c.take_job.ensures.is back;
    })

pub invariant_of-self-in-Err-Memory : goal.invariant_of-self-in-Err-Memory
invariant_of-self-in-Err-Memory c =
    let old = tables_of c.self.inside in
    let new : TablesView = record old { kv = c.put.new.kv; beside = c.set_job.new.self } in
    let there : of_label old.beside.jobs c.args.j ≡ Some c.in-Some.job = sym c.take_job.ensures.job ∙ c.in-Some.is in
    let kept = c.in-Err-Memory.ensures.err in
    let back : c.set_job.new.self ≡ with_jobs c.take_job.new.self (set c.take_job.new.self.jobs c.args.j (Some c.in-Some.job)) =
    rw c.in-Err-Memory.ensures.whole at c.set_job.ensures.is in
    stays_sound old new 0 c.self.invariant (record {
      clients = sets_same 0 old.clients new.clients refl;
      number = kept.same.number;
      maps = λ n le. kept.maps n;
      versions = kept.same.versions;
      pins = λ n. ap (λ l. times_pinned (record old.kv { pins = l }) n) kept.same.pins;
      next_tx = refl;
      beside = given_back old.beside c.take_job.new.self c.set_job.new.self c.args.j c.in-Some.job there c.take_job.ensures.is back;
    })
