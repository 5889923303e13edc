-- What lines of jobs change of the tables, and what these name then.
use Rattle.wtf_clients.proofs.Common.{if◌then◌else◌, Slice, Store, Place, Key, Value, Answer, JobKind, MapBytes, MaybeBytes, metadata_at, RegionValue, Target}
use Rattle.wtf_clients.proofs.Common.{HasForm, spills, JobView, target_region, IsJobPut, put_bytes, TablesView, of_client, of_label, metadata_now, planned}
use Rattle.wtf_clients.proofs.Common.{AreSound, TablesBytes, IsMadeOf, Plans, Puts, DropsJob, ◌≡◌, ◌≤◌, ℕ, nat_eq, Bool, true, List, [], Option, None, Some}
use Rattle.wtf_clients.proofs.Common.{refl, sym, ap, ◌∙◌, subst, ⊎_elim, arith, IsPinnedOnceMore, KeepsMaps, KeepsOthers}
use Rattle.wtf_clients.proofs.{JobFrames.JobTurned, Lives.Reaches, Lives.now_bytes, Lives.begun_reaches, Lives.ended_reaches, Naming.live_along}
use Rattle.wtf_clients.proofs.{Naming.now_along, Naming.txn_along, Pins.number_cases}

-- what was made of a region has the form that its kind says
made_form : (t : Target) (now value : Option RegionValue) → IsMadeOf t now value → HasForm t value
made_form t now value made = record {
  stored = made.stored;
  short = λ not. made.short (ap (λ n. spills t.kind n) (sym made.same.end) ∙ not);
  spilled = λ is. made.spilled (ap (λ n. spills t.kind n) (sym made.same.end) ∙ is);
}

module _ (old new : TablesView) (j : ℕ) (sound : AreSound old) where
  -- a job is planned
  module _ (kind : JobKind) (p : List ℕ) (r : ℕ) (x : JobView) (none : of_label old.beside.jobs j ≡ None) (plans : Plans old new j kind p r x) where
    plan_number : new.kv.number ≡ old.kv.number
    plan_number = ap (λ (s : Store Key Value). s.number) plans.kv

    pub plan_turned : JobTurned old new j (Some x)
    plan_turned = record {
      keeps = plans.keeps;
      later = let number = plan_number in omega (arith, number);
      maps = λ n le. ap (λ (s : Store Key Value). metadata_at s n) plans.kv;
      pins = λ n.
          let more = plans.pinned n in
          let was : planned n (of_label old.beside.jobs j) ≡ 0 = ap (planned n) none in
          let is : planned n (Some x) ≡ (if nat_eq n old.kv.number then 1 else 0) = ap (λ b. if nat_eq n b then 1 else 0) plans.base in
          omega (arith, more, was, is);
      based = λ y e.
          let same : x ≡ y = cc in
          let base : y.base ≡ old.kv.number = ap (λ (v : JobView). v.base) (sym same) ∙ plans.base in
          let number = plan_number in
          omega (arith, base, number);
      formed = λ y e. subst (λ (v : JobView). HasForm v.target v.value) (let same : x ≡ y = cc in same)
          (made_form x.target (target_region (metadata_now old.kv) x.target) x.value plans.made);
    }

    pub plan_reaches : Reaches old.kv new.kv
    plan_reaches = begun_reaches old.kv new.kv plans.pinned

  -- one goes
  gone_turned : (x : JobView) → of_label old.beside.jobs j ≡ Some x → KeepsOthers old new j None → old.kv.number ≤ new.kv.number
      → KeepsMaps old.kv new.kv → IsPinnedOnceMore x.base new.kv old.kv → JobTurned old new j None
  gone_turned x there keeps later maps unpinned = record {
    keeps = keeps;
    later = later;
    maps = maps;
    pins = λ n.
        let fewer = unpinned n in
        let was : planned n (of_label old.beside.jobs j) ≡ planned n (Some x) = ap (planned n) there in
        omega (arith, fewer, was);
    based = λ y e. absurd (cc);
    formed = λ y e. absurd (cc);
  }

  -- one is put in place, or is stale
  module _ (x : JobView) (there : of_label old.beside.jobs j ≡ Some x) (a : Answer) (did : Puts old new j x a) where
    put_later : (b : Answer) → IsJobPut x old.kv new.kv b → old.kv.number ≤ new.kv.number
    put_later (Answer.Installed n) put = let next = put.next in let number = put.number in omega (arith, next, number)
    put_later (Answer.Stale b n) put = let number = put.number in omega (arith, number)
    put_later b put = absurd put

    pub put_turned : JobTurned old new j None
    put_turned = gone_turned x there did.keeps (put_later a did.put) did.maps did.unpinned

    pub put_reaches : Reaches old.kv new.kv
    put_reaches = ended_reaches old.kv old.kv new.kv x.base (λ n. refl) did.unpinned

  -- one is dropped
  module _ (x : JobView) (there : of_label old.beside.jobs j ≡ Some x) (a : Answer) (did : DropsJob old new j x a) where
    drop_number : new.kv.number ≡ old.kv.number
    drop_number = ap (λ (s : Store Key Value). s.number) did.kv

    pub drop_turned : JobTurned old new j None
    drop_turned = gone_turned x there did.keeps (let number = drop_number in omega (arith, number))
        (λ n le. ap (λ (s : Store Key Value). metadata_at s n) did.kv) did.unpinned

    pub drop_reaches : Reaches old.kv new.kv
    drop_reaches = ended_reaches old.kv old.kv new.kv x.base (λ n. refl) did.unpinned

-- ---- what is named
module _ (P : List Place → Bool) (Q : Slice → Bool) (old new : TablesView) (j : ℕ) (sound : AreSound old) where
  job_bytes : (now : Option JobView) → JobTurned old new j now → Reaches old.kv new.kv → TablesBytes P Q old → MapBytes P Q (metadata_now new.kv)
      → ((x : JobView) → now ≡ Some x → MaybeBytes P Q x.value) → TablesBytes P Q new
  job_bytes now turned reach h map own = record {
    live = live_along P Q old new sound turned.maps reach h map;
    each = λ c x is.
        let was : of_client old.clients c ≡ Some x = ap (λ l. of_client l c) (sym turned.keeps.clients) ∙ is in
        txn_along P Q old.kv new.kv x (turned.maps x.at.base (sound.each c x was).based) (h.each c x was);
    planned = λ l x is. ⊎_elim
        (λ same. own x (sym turned.keeps.jobs.is ∙ ap (of_label new.beside.jobs) (sym same) ∙ is))
        (λ other. h.planned l x (sym (turned.keeps.jobs.others l other) ∙ is))
        (number_cases l j);
  }

  pub plan_bytes : (kind : JobKind) (p : List ℕ) (r : ℕ) (x : JobView) → of_label old.beside.jobs j ≡ None → Plans old new j kind p r x
      → TablesBytes P Q old → MaybeBytes P Q x.value → TablesBytes P Q new
  plan_bytes kind p r x none plans h own =
      job_bytes (Some x) (plan_turned old new j sound kind p r x none plans) (plan_reaches old new j sound kind p r x none plans) h
      (now_along P Q old.kv new.kv (plan_number old new j sound kind p r x none plans)
      (plan_turned old new j sound kind p r x none plans).maps (now_bytes P Q old h))
      (λ y e. subst (λ (v : JobView). MaybeBytes P Q v.value) (let same : x ≡ y = cc in same) own)

  pub puts_bytes : (x : JobView) (a : Answer) → of_label old.beside.jobs j ≡ Some x → Puts old new j x a → P [] ≡ true → TablesBytes P Q old
      → TablesBytes P Q new
  puts_bytes x a there did hole h =
      job_bytes None (put_turned old new j sound x there a did) (put_reaches old new j sound x there a did) h
      (put_bytes P Q hole a x old.kv new.kv did.put (now_bytes P Q old h) (h.planned j x there)) (λ y e. absurd (cc))

  pub drops_bytes : (x : JobView) (a : Answer) → of_label old.beside.jobs j ≡ Some x → DropsJob old new j x a → TablesBytes P Q old → TablesBytes P Q new
  drops_bytes x a there did h = job_bytes None (drop_turned old new j sound x there a did) (drop_reaches old new j sound x there a did) h
      (now_along P Q old.kv new.kv (drop_number old new j sound x there a did) (drop_turned old new j sound x there a did).maps (now_bytes P Q old h))
      (λ y e. absurd (cc))
