-- The jobs by label: one is set or gone, and the pins of their bases.
use Rattle.wtf_clients.proofs.Common.{IsTrue, eq-eqb, Jobs, ◌≡◌, ◌≤◌, ◌<◌, ℕ, zero, suc, [], ◌∷◌, length, get_or, set, Option, None, Some, refl, sym, ap, ◌∙◌}
use Rattle.wtf_clients.proofs.Common.{if◌then◌else◌, set-get_or, get_or_past, sum_by-cons, sum_by-set, at_label_same, at_label_other, TablesView, all_planned}
use Rattle.wtf_clients.proofs.Common.{set-set, is_pinned, any-count, MAX_JOBS, at_label, none_at, JobView, no_jobs, of_label, planned, AreSound, SetsJob, arith}

-- what stands at a label
at_label_get : (jobs : Jobs) (j : ℕ) → at_label jobs j ≡ get_or jobs j None
at_label_get [] j = refl
at_label_get (o ∷ os) zero = refl
at_label_get (o ∷ os) (suc j) = at_label_get os j

-- there is none at a label past all
pub label_past : (jobs : Jobs) (j : ℕ) → length jobs ≤ j → of_label jobs j ≡ None
label_past jobs j past = at_label_get jobs j ∙ get_or_past jobs j None past

-- one job alone is set
pub sets_job : (jobs : Jobs) (j : ℕ) (now : Option JobView) → j < length jobs → SetsJob j now jobs (set jobs j now)
sets_job jobs j now below = record {
  is = at_label_same jobs j now below;
  others = λ l ne. at_label_other jobs j l now ne;
  pins = λ n.
      let moved = sum_by-set (planned n) jobs j now None below in
      let was : planned n (get_or jobs j None) ≡ planned n (of_label jobs j) = ap (planned n) (sym (at_label_get jobs j)) in
      omega (arith, moved, was);
}

-- one that was taken is given back
pub set_back : (jobs : Jobs) (j : ℕ) (x : JobView) → of_label jobs j ≡ Some x → set (set jobs j None) j (Some x) ≡ jobs
set_back jobs j x there = set-set jobs j None (Some x) ∙ ap (set jobs j) (sym there ∙ at_label_get jobs j) ∙ set-get_or jobs j None

-- where there is none, taking one changes nothing
pub set_none : (jobs : Jobs) (j : ℕ) → of_label jobs j ≡ None → set jobs j None ≡ jobs
set_none jobs j none = ap (set jobs j) (sym none ∙ at_label_get jobs j) ∙ set-get_or jobs j None

-- the base of a job is owned
planned_base : (x : JobView) → planned x.base (Some x) ≡ 1
planned_base x = ap (λ b. if b then 1 else 0) (eq-eqb x.base x.base refl)

job_owned : (jobs : Jobs) (j : ℕ) (x : JobView) → of_label jobs j ≡ Some x → 0 < all_planned x.base jobs
job_owned [] j x is = absurd (cc)
job_owned (o ∷ os) zero x is =
    let whole = sum_by-cons (planned x.base) o os in
    let own : planned x.base o ≡ 1 = ap (planned x.base) is ∙ planned_base x in
    omega (arith, whole, own)
job_owned (o ∷ os) (suc j) x is =
    let whole = sum_by-cons (planned x.base) o os in
    let more = job_owned os j x is in
    omega (arith, whole, more)

-- so it is pinned, and of no install to come
pub job_pinned : (tables : TablesView) (j : ℕ) (x : JobView) → AreSound tables → of_label tables.beside.jobs j ≡ Some x → IsTrue (is_pinned tables.kv x.base)
job_pinned tables j x sound there =
    let some = job_owned tables.beside.jobs j x there in
    let pins = sound.pins x.base in
    any-count x.base tables.kv.pins (omega (arith, some, pins))

pub job_upto : (tables : TablesView) (j : ℕ) (x : JobView) → AreSound tables → of_label tables.beside.jobs j ≡ Some x → x.base ≤ tables.kv.number
job_upto tables j x sound there = sound.upto x.base (job_pinned tables j x sound there)

-- where there are no jobs
pub no_job : (j : ℕ) → of_label no_jobs j ≡ None
no_job j = none_at None MAX_JOBS j refl
