-- A run over a sink that had taken something is one over a sink that had taken nothing.
use Rattle.std.proofs.Common.{◌≡◌, ◌≢◌, ◌++◌, ◌⊎◌, ℕ, Bool, true, false, List, [], Option, Some, refl, sym, ◌∙◌, ap, subst, arith, inl, inr}
use Rattle.std.proofs.lemmas.List.{append-nil, append_cancel_left}
use Rattle.wtf_base.specs.declared.settings.Settings.{Settings}
use Rattle.wtf_dev.specs.Store.{StoreKind}
use Rattle.wtf_dev.specs.Streams.{SourceView, SinkView}
use Rattle.wtf_model.specs.declared.answer.Answer.{Answer}
use Rattle.wtf_image.specs.declared.error.LoadError.{LoadError}
use Rattle.wtf_serve.specs.Endings.{Devices, IsServedStatus, IsUnstarted, Served}
use Rattle.wtf_serve.specs.Logs.{Log, output}
use Rattle.wtf_serve.specs.Openings.{Opening}
use Rattle.wtf_serve.specs.Spared.{RunSpares}
use Rattle.wtf_serve.specs.Stocks.{Stock}
use Rattle.wtf_serve.specs.Traces.{HasWritten}
use Rattle.wtf_serve.specs.Unopened.{IsRunWith, IsWhy, Refuses, refusal_line}
use Rattle.wtf_serve.proofs.Serving.{opened_by}
use Rattle.wtf_serve.proofs.Telling.{some_same}

abbrev pub sink_at : ℕ → Option (List ℕ) → SinkView
sink_at faults taken = record { faults = faults; taken = taken }

abbrev pub at : {S : Type 0} → SourceView → ℕ → Option (List ℕ) → Stock S → Devices S
at source faults taken stock = record { source = source; sink = sink_at faults taken; stock = stock }

none_taken : (text : List ℕ) → Some [] ≡ Some text → [] ≡ text
none_taken text same = some_same [] text same

-- what was added is nothing, where no more was taken
none_added : (p text : List ℕ) → Some (p ++ text) ≡ Some p → text ≡ []
none_added p text same = append_cancel_left p text [] (some_same (p ++ text) p same ∙ sym (append-nil p))

-- a sink that is the same had nothing added
same_bare : (g f : ℕ) (p text : List ℕ) (taken' : Option (List ℕ)) → taken' ≡ Some (p ++ text) → sink_at f taken' ≡ sink_at g (Some p)
    → sink_at f (Some text) ≡ sink_at g (Some [])
same_bare g f p text taken' added same =
    ap (λ (n : ℕ). sink_at n (Some text)) (ap (λ (s : SinkView). s.faults) same)
    ∙ ap (λ (t : List ℕ). sink_at g (Some t)) (none_added p text (sym added ∙ ap (λ (s : SinkView). s.taken) same))

-- ---- what was written

four : (n : ℕ) → IsServedStatus n → (n ≡ 4) ⊎ (n ≢ 4)
four n (inl (inl d)) = inr (λ e. omega (arith, d, e))
four n (inl (inr d)) = inr (λ e. omega (arith, d, e))
four n (inr (inl d)) = inr (λ e. omega (arith, d, e))
four n (inr (inr (inl d))) = inr (λ e. omega (arith, d, e))
four n (inr (inr (inr (inl d)))) = inl d
four n (inr (inr (inr (inr (inl d))))) = inr (λ e. omega (arith, d, e))
four n (inr (inr (inr (inr (inr d))))) = inr (λ e. omega (arith, d, e))

bare_written : (opening : Opening) (started : Bool) (status : ℕ) (answers : List Answer) (p : List ℕ) (taken' : Option (List ℕ))
    → (status ≡ 4) ⊎ (status ≢ 4) → HasWritten opening started status answers p taken'
    → (text : List ℕ) × (taken' ≡ Some (p ++ text)) × HasWritten opening started status answers [] (Some text)
bare_written opening true status answers p taken' (inr not) w = (
  output opening answers,
  w.whole refl not,
  record {
    whole = λ s n. refl;
    cut = λ s e. absurd (not e);
    cut_first = λ s e. absurd (not e);
    nothing = λ s n. absurd (cc);
  },
)
bare_written opening true status answers p taken' (inl is) w = elim (w.cut refl is) [
  | inl cut ↦ (
    output opening cut.earlier ++ cut.front,
    cut.new_is,
    record {
      whole = λ s n. absurd (n is);
      cut = λ s e. inl (record {
        earlier = cut.earlier;
        last = cut.last;
        front = cut.front;
        back = cut.back;
        all = cut.all;
        text = cut.text;
        new_is = refl;
      });
      cut_first = λ s e. absurd (cc);
      nothing = λ s n. absurd (n is);
    },
  )
  | inr all ↦ (
    output opening answers,
    all,
    record {
      whole = λ s n. absurd (n is);
      cut = λ s e. inr refl;
      cut_first = λ s e. absurd (cc);
      nothing = λ s n. absurd (n is);
    },
  )
]
bare_written opening false status answers p taken' (inr not) w = (
  [],
  w.nothing refl not ∙ ap (λ (t : List ℕ). Some t) (sym (append-nil p)),
  record {
    whole = λ s n. absurd (cc);
    cut = λ s e. absurd (not e);
    cut_first = λ s e. absurd (not e);
    nothing = λ s n. refl;
  },
)
bare_written opening false status answers p taken' (inl is) w = let front = w.cut_first refl is in (
  front.0,
  front.3,
  record {
    whole = λ s n. absurd (n is);
    cut = λ s e. absurd (cc);
    cut_first = λ s e. (front.0, front.1, front.2, refl);
    nothing = λ s n. absurd (n is);
  },
)

-- ---- a run that was not opened

bare_refuses : (why : LoadError) (status : ℕ) (g f : ℕ) (p : List ℕ) (taken' : Option (List ℕ)) → Refuses why status (sink_at g (Some p)) (sink_at f taken')
    → (text : List ℕ) × (taken' ≡ Some (p ++ text)) × Refuses why status (sink_at g (Some [])) (sink_at f (Some text))
bare_refuses why status g f p taken' r = elim r.status_is [
  | inl e ↦ (
    refusal_line why,
    r.wrote e p refl,
    record {
      status_is = inl e;
      wrote = λ d t is. ap (λ (x : List ℕ). Some (x ++ refusal_line why)) (none_taken t is);
      cut = λ d. absurd (omega (arith, d, e));
      cause = r.cause;
      still = r.still;
    },
  )
  | inr e ↦ let front = r.cut e p refl in (
    front.0,
    front.3,
    record {
      status_is = inr e;
      wrote = λ d. absurd (omega (arith, d, e));
      cut = λ d t is. (front.0, front.1, front.2, ap (λ (x : List ℕ). Some (x ++ front.0)) (none_taken t is));
      cause = r.cause;
      still = r.still;
    },
  )
]

bare_same : (g f : ℕ) (p : List ℕ) (taken' : Option (List ℕ)) → sink_at f taken' ≡ sink_at g (Some p) → taken' ≡ Some (p ++ [])
bare_same g f p taken' same = ap (λ (s : SinkView). s.taken) same ∙ ap (λ (t : List ℕ). Some t) (sym (append-nil p))

bare_why : {S : Type 0} (kind : StoreKind S) (status : ℕ) (source source' : SourceView) (stock stock' : Stock S) (g f : ℕ) (p : List ℕ)
    (taken' : Option (List ℕ))
    → IsWhy kind status (at source g (Some p) stock) (at source' f taken' stock')
    → (text : List ℕ) × (taken' ≡ Some (p ++ text)) × IsWhy kind status (at source g (Some []) stock) (at source' f (Some text) stock')
bare_why kind status source source' stock stock' g f p taken' (inl (e, same)) =
    let added = bare_same g f p taken' same in ([], added, inl (e, same_bare g f p [] taken' added same))
bare_why kind status source source' stock stock' g f p taken' (inr (inl (e, same, rose))) =
    let added = bare_same g f p taken' same in ([], added, inr (inl (e, same_bare g f p [] taken' added same, rose)))
bare_why kind status source source' stock stock' g f p taken' (inr (inr refused)) =
    let told = bare_refuses refused.why status g f p taken' refused.told in (
      told.0,
      told.1,
      inr (inr (record {
        bytes = refused.bytes;
        given = refused.given;
        why = refused.why;
        refused = refused.refused;
        told = told.2;
      })),
    )

-- ---- a run that was opened

bare_unstarted : {S : Type 0} (handed : List (List ℕ) → Type 0) (status : ℕ) (lines : List (List ℕ)) (source source' : SourceView) (stock stock' : Stock S)
    (g f : ℕ) (p text : List ℕ) (taken' : Option (List ℕ))
    → taken' ≡ Some (p ++ text) → IsUnstarted handed status lines (at source g (Some p) stock) (at source' f taken' stock')
    → IsUnstarted handed status lines (at source g (Some []) stock) (at source' f (Some text) stock')
bare_unstarted handed status lines source source' stock stock' g f p text taken' added u = record {
  status_is = u.status_is;
  none = u.none;
  source_is = u.source_is;
  shelf_is = u.shelf_is;
  kept = u.kept;
  sink_is = λ n. same_bare g f p text taken' added (u.sink_is n);
}

bare_served : {S : Type 0} (kind : StoreKind S) (handed : List (List ℕ) → Type 0) (opening : Opening) (status : ℕ) (source source' : SourceView)
    (stock stock' : Stock S) (g f : ℕ) (p : List ℕ) (taken' : Option (List ℕ))
    → Served kind handed opening status (at source g (Some p) stock) (at source' f taken' stock')
    → (text : List ℕ) × (taken' ≡ Some (p ++ text)) × Served kind handed opening status (at source g (Some []) stock) (at source' f (Some text) stock')
bare_served kind handed opening status source source' stock stock' g f p taken' s =
    let w = bare_written opening s.started status s.log.answers p taken' (four status s.statuses) (s.wrote p refl) in (
      w.0,
      w.1,
      record {
        log = s.log;
        started = s.started;
        taken = s.taken;
        mid = s.mid;
        ran = s.ran;
        rest = s.rest;
        rest_none = s.rest_none;
        rest_line = s.rest_line;
        rest_follows = s.rest_follows;
        at_end = s.at_end;
        rest_adds = s.rest_adds;
        unstarted = λ un. bare_unstarted handed status s.log.lines source source' stock stock' g f p w.0 taken' w.1 (s.unstarted un);
        sound = s.sound;
        read = s.read;
        wrote = λ t is. subst (λ (x : List ℕ). HasWritten opening s.started status s.log.answers x (Some w.0)) (none_taken t is) w.2;
        given = s.given;
        limit = s.limit;
        counted = s.counted;
        statuses = s.statuses;
        ended = s.ended;
        few_stores = s.few_stores;
        unread = s.unread;
        source_cause = s.source_cause;
        sink_cause = s.sink_cause;
        save_cause = s.save_cause;
        source_faults = s.source_faults;
        sink_faults = s.sink_faults;
        sink_still = s.sink_still;
        faults = s.faults;
        faults_of_run = s.faults_of_run;
        follows_on = s.follows_on;
        complete = λ enough still.
            s.complete enough (record { source_is = still.source_is; sink_is = still.sink_is; stores = still.stores; keeper = still.keeper });
        left = s.left;
        left_within = s.left_within;
        next = s.next;
        quiet = s.quiet;
      },
    )

-- ---- what its lines left alone
bare_spares : {S : Type 0} (kind : StoreKind S) (handed : List (List ℕ) → Type 0) (status : ℕ) (log : Log) (mid : List S) (source source' : SourceView)
    (stock stock' : Stock S) (g f : ℕ) (p text : List ℕ) (taken' : Option (List ℕ))
    → RunSpares kind handed status log mid (at source g (Some p) stock) (at source' f taken' stock')
    → RunSpares kind handed status log mid (at source g (Some []) stock) (at source' f (Some text) stock')
bare_spares kind handed status log mid source source' stock stock' g f p text taken' s = record {
  along = s.along;
  down = s.down;
  images = s.images;
  last = s.last;
  handed_are = s.handed_are;
  each = s.each;
  saved = s.saved;
  failed = s.failed;
  early = s.early;
  memory = s.memory;
}

pub bare_run : {S : Type 0} (kind : StoreKind S) (handed : List (List ℕ) → Type 0) (settings : Settings) (status : ℕ) (source source' : SourceView)
    (stock stock' : Stock S) (g f : ℕ) (p : List ℕ) (taken' : Option (List ℕ))
    → IsRunWith kind handed settings status (at source g (Some p) stock) (at source' f taken' stock')
    → (text : List ℕ) × (taken' ≡ Some (p ++ text)) × IsRunWith kind handed settings status (at source g (Some []) stock) (at source' f (Some text) stock')
unfolding bare_served
bare_run kind handed settings status source source' stock stock' g f p taken' (inl u) =
    let w = bare_why kind status source source' stock stock' g f p taken' u.why in
    (w.0, w.1, inl (record { why = w.2; source_is = u.source_is; shelf_is = u.shelf_is; kept = u.kept }))
bare_run kind handed settings status source source' stock stock' g f p taken' (inr o) =
    let w = bare_served kind handed o.opening status source source' stock stock' g f p taken' o.served in (
      w.0,
      w.1,
      inr (opened_by kind handed settings o.opening (at source g (Some []) stock) (at source' f (Some w.0) stock') o.opens o.given o.served.log o.served.mid
          status (w.2, refl, refl)
          (bare_spares kind handed status o.served.log o.served.mid.shelf source source' stock stock' g f p w.0 taken' o.spares) o.past),
    )
