-- The run of a generated script, by the run over the sink that sums it up.
use Rattle.std.proofs.Common.{◌≡◌, ◌≢◌, ◌++◌, ℕ, List, [], Some, refl, ◌∙◌, ap, subst, arith, inl, inr}
use Rattle.std.proofs.lemmas.List.{append-nil}
use Rattle.wtf_base.specs.declared.settings.Settings.{Settings}
use Rattle.wtf_words.specs.declared.Recipe.{Recipe}
use Rattle.wtf_dev.specs.Store.{StoreKind}
use Rattle.wtf_dev.specs.Streams.{SourceView, SinkView}
use Rattle.wtf_summary.specs.Summaries.{shown_text}
use Rattle.wtf_summary.specs.Traces.{mark, numbers_of}
use Rattle.wtf_summary.specs.States.{SinkStands, told}
use Rattle.wtf_summary.specs.declared.state.State.{State}
use Rattle.wtf_summary.proofs.Ends.{goes_on, shows_all}
use Rattle.wtf_serve.specs.Endings.{Devices}
use Rattle.wtf_serve.specs.Generated.{IsGeneratedRun, Shows, script_of}
use Rattle.wtf_serve.specs.Stocks.{Stock}
use Rattle.wtf_serve.specs.Unopened.{IsRunWith, IsWhy}
use Rattle.wtf_serve.proofs.Bared.{at, bare_run}
use Rattle.wtf_serve.proofs.Telling.{some_same}

-- what a sink that sums up told before it took a byte
marked : (name : ℕ) (state : State) (lines : ℕ) (real : SinkView) → state.lines ≡ lines → state.trace.first.numbers ≡ numbers_of real
    → state.trace.text.numbers ≡ []
    → told name state ≡ mark name lines (numbers_of real)
marked name state lines real lines_is first text =
    ap (λ (t : List ℕ). mark name state.lines state.trace.first.numbers ++ t) text ∙ append-nil (mark name state.lines state.trace.first.numbers)
    ∙ ap (λ (n : ℕ). mark name n state.trace.first.numbers) lines_is ∙ ap (λ (f : List ℕ). mark name lines f) first

-- with another status than 4 no write failed
why_still : {S : Type 0} (kind : StoreKind S) (status : ℕ) (old new : Devices S) → IsWhy kind status old new → status ≢ 4 → new.sink.faults ≡ old.sink.faults
why_still kind status old new (inl is) not_4 = ap (λ (s : SinkView). s.faults) is.1
why_still kind status old new (inr (inl is)) not_4 = ap (λ (s : SinkView). s.faults) is.1
why_still kind status old new (inr (inr refused)) not_4 = refused.told.still not_4

run_still : {S : Type 0} (kind : StoreKind S) (handed : List (List ℕ) → Type 0) (settings : Settings) (status : ℕ) (old new : Devices S)
    → IsRunWith kind handed settings status old new → status ≢ 4 → new.sink.faults ≡ old.sink.faults
run_still kind handed settings status old new (inl unopened) not_4 = why_still kind status old new unopened.why not_4
run_still kind handed settings status old new (inr opened) not_4 = opened.served.sink_still not_4

-- The sink went on as it began, and what it shows on has what is shown of the text that was written.
pub generated_run : {S : Type 0} (kind : StoreKind S) (handed : List (List ℕ) → Type 0) (settings : Settings) (recipe : Recipe) (status : ℕ)
    (source script script' : SourceView) (real real' : SinkView) (stock stock' : Stock S) (name name' : ℕ) (state state' : State)
    → script ≡ record { faults = 0; given = 0; rest = Some (script_of recipe) } → script'.faults ≡ 0 → state.faults ≡ 0 → state.lines ≡ recipe.lines
    → state.trace.first.numbers ≡ numbers_of real → state.trace.text.numbers ≡ [] → SinkStands real' state'
    → IsRunWith kind handed settings status (at script state.faults (Some (told name state)) stock) (at script' state'.faults (Some (told name' state')) stock')
    → (name' ≡ name) × IsGeneratedRun kind handed settings recipe status (record { source = source; sink = real; stock = stock })
    (record { source = source; sink = real'; stock = stock' })
generated_run kind handed settings recipe status source script script' real real' stock stock' name name' state state' script_is sound_script faults lines first
    text sound run =
    let bare = bare_run kind handed settings status script script' stock stock' state.faults state'.faults (told name state) (Some (told name' state')) run in
    let written = bare.0 in
    let on = goes_on name recipe.lines (numbers_of real) written name' state'
    (some_same (told name' state') (told name state ++ written) bare.1
    ∙ ap (λ (l : List ℕ). l ++ written) (marked name state recipe.lines real lines first text)) in
    let shows : Shows recipe.lines written state'.faults real real' = record {
      whole = λ z before h. shows_all real real' state' recipe.lines written before sound on.lines on.first on.text z h;
      cut = λ n before h. record {
        feed = state'.trace.more.numbers;
        feed_is = sound.ended;
        front = state'.trace.seen.numbers;
        back = state'.trace.rest.numbers;
        all = sound.shows ∙ ap (λ (k : ℕ). shown_text k (state'.trace.text.numbers ++ state'.trace.more.numbers)) on.lines
            ∙ ap (λ (t : List ℕ). shown_text recipe.lines (t ++ state'.trace.more.numbers)) on.text;
        new_is = sound.added real before on.first h;
      };
      cause = λ n. sound.rose real on.first (omega (arith, n));
      still = λ z. sound.still real on.first z;
      faults_rise = sound.counted real on.first;
    } in (
      on.name,
      record {
        unread = refl;
        left = script';
        unfailed = sound_script;
        faults = state'.faults;
        whole = λ not_4. run_still kind handed settings status (at script state.faults (Some (told name state)) stock)
            (at script' state'.faults (Some (told name' state')) stock') run not_4 ∙ faults;
        text = written;
        run = subst (λ (v : SourceView). IsRunWith kind handed settings status (at v 0 (Some []) stock)
            (at script' state'.faults (Some written) stock')) script_is
            (subst (λ (n : ℕ). IsRunWith kind handed settings status (at script n (Some []) stock)
            (at script' state'.faults (Some written) stock')) faults bare.2);
        shows = shows;
      },
    )
