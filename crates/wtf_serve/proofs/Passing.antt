-- A line of too many bytes is a line, that asks nothing; and a pass whose line was not written whole.
use Rattle.std.proofs.Common.{◌≡◌, ◌⊎◌, ◌<◌, ◌+◌, ℕ, Bool, false, List, [], length, Option, Some, None, Result, Err, Ok, refl, sym, ◌∙◌, ap}
use Rattle.std.proofs.Common.{subst, arith, inl, inr}
use Rattle.std.specs.Prelude.{replicate, is_err}
use Rattle.std.proofs.lemmas.List.{length-replicate}
use Rattle.wtf_dev.specs.Store.{KindLaws}
use Rattle.wtf_dev.proofs.Each.{each_same}
use Rattle.wtf_model.specs.declared.answer.Answer.TheVariants as answer
use Rattle.wtf_model.specs.declared.answer.Kind.TheVariants as kind
use Rattle.wtf_script.specs.declared.limits.TheConstants.{LINE_BYTES}
use Rattle.wtf_script.specs.declared.lines.Line.{Line}
use Rattle.wtf_script.specs.declared.lines.Line.TheVariants as line
use Rattle.wtf_script.specs.declared.error.ReadError.{ReadError}
use Rattle.wtf_script.specs.Reading.{Reads, ReadsLine, IsLine, work}
use Rattle.wtf_model.specs.Lines.{Line as AskedLine}
use Rattle.wtf_serve.specs.declared.service.Stop.{Stop}
use Rattle.wtf_serve.specs.declared.service.Stop.TheVariants as stop
use Rattle.wtf_serve.specs.Engines.{Engine, Step, span_of}
use Rattle.wtf_serve.specs.Passes.{Input, HasLine, CameLine, CameShort, CameStop, Hand, hand, step_of, IsLeftOut, PassCame, ShortSpares, PassSpares}
use Rattle.wtf_serve.specs.Scripts.{line_of}
use Rattle.wtf_serve.specs.Sparing.{LineSpares}
use Rattle.wtf_serve.specs.Turns.{IsLeftAlone, IsUnwritten, answer_for, TurnDoes}
use Rattle.wtf_serve.proofs.Keeping.{keeper_same}
use Rattle.wtf_serve.proofs.ScriptLaws.{line_of-long}
use Rattle.wtf_serve.proofs.Sparing.{stores_spared}

some_same : (a b : List ℕ) → Some a ≡ Some b → a ≡ b
some_same a b e = cc

-- where the source tells its bytes the line is one of them, and else it is any
long_of : (i i' : Input) (o : Option (List ℕ)) → i.source.rest ≡ o
    → ((rest : List ℕ) → i.source.rest ≡ Some rest → (bytes : List ℕ) × (LINE_BYTES < length bytes) × ReadsLine bytes i.held rest i'.held i'.source.rest)
    → work i'.held < work i.held → HasLine i i' (Err (answer.Bad kind.Long))
long_of i i' None is told less = record {
  line = replicate (LINE_BYTES + 1) 0;
  came = λ rest e. absurd (cc);
  asks = line_of-long (replicate (LINE_BYTES + 1) 0) (omega (arith, length-replicate {A = ℕ} (LINE_BYTES + 1) 0));
  less = less;
}
long_of i i' (Some r) is told less =
    let (bytes, long, reads) = told r is in
    record {
      line = bytes;
      came = λ rest e. subst (λ x. ReadsLine bytes i.held x i'.held i'.source.rest) (some_same r rest (sym is ∙ e)) reads;
      asks = line_of-long bytes long;
      less = less;
    }

pub line_long : (i i' : Input) (r : Result (Option Line) ReadError) → r ≡ Ok (Some line.Long)
    → ((rest : List ℕ) → i.source.rest ≡ Some rest → Reads i.held rest i'.held i'.source.rest r)
    → (IsLine r → work i'.held < work i.held) → HasLine i i' (Err (answer.Bad kind.Long))
line_long i i' r is told less =
    long_of i i' i.source.rest refl (λ rest e. subst (λ x. Reads i.held rest i'.held i'.source.rest x) is (told rest e))
    (less (subst (λ x. IsLine x) (sym is) tt))

-- no memory was found behind a line that was read
pub short_line : (i i' : Input) (bytes : List ℕ) (r : Result (Option Line) ReadError) → r ≡ Ok (Some (line.Whole bytes))
    → ((rest : List ℕ) → i.source.rest ≡ Some rest → Reads i.held rest i'.held i'.source.rest r) → CameShort i i'
short_line i i' bytes r is told = inr (bytes, λ rest e. (subst (λ x. Reads i.held rest i'.held i'.source.rest x) is (told rest e)).1)

-- ---- a line was read, and it was not answered, or its answer was not written whole
module _ {S State : Type 0} (engine : Engine S State) (handed : List (List ℕ) → Type 0) (h h' : Hand S State) where
  abbrev t : Step S State
  t = step_of h h'

  -- what came of it, with what it left alone
  abbrev StopsBy : Stop → Type 0
  StopsBy why = (came : PassCame engine h h' (Err why)) × PassSpares engine handed h h' (Err why) came

  short_by : (bytes : List ℕ) → CameLine h.input h'.input bytes → (kept : IsLeftAlone engine t ⊎ IsUnwritten engine t (line_of bytes))
      → LineSpares engine.kind handed (engine.settings h.state).servers (span_of engine t) (line_of bytes) (answer_for engine t (line_of bytes) kept)
      → (out : IsLeftAlone engine t ⊎ IsLeftOut engine h h') × ShortSpares engine handed h h' out
  short_by bytes came (inl alone) spares = (inl alone, (spares.stores, spares.past, subst handed spares.hands spares.handed_are))
  short_by bytes came (inr out) spares = (inr (record { line = bytes; came = came; out = out }), spares)

  stops_by : (bytes : List ℕ) (why : Stop) → CameLine h.input h'.input bytes → TurnDoes engine handed t (line_of bytes) h.sink h'.sink (Err why) → StopsBy why
  stops_by bytes stop.Unwritten came turn = (record { line = bytes; came = came; cut = turn.is }, turn.spares)
  stops_by bytes stop.Memory came turn =
      let (kept, spares) = short_by bytes came turn.is.1 turn.spares in
      (record { came = inr (bytes, came); sink = turn.is.0; kept = kept }, spares)
  stops_by bytes why came turn = absurd turn.is

  pub pass_stops : (asked : AskedLine) (why : Stop) → HasLine h.input h'.input asked → TurnDoes engine handed t asked h.sink h'.sink (Err why) → StopsBy why
  pass_stops asked why read turn = stops_by read.line why read.came
      (subst (λ (l : AskedLine). TurnDoes engine handed t l h.sink h'.sink (Err why)) (sym read.asks) turn)

  -- its answer was written whole
  pub pass_done : (asked : AskedLine) (bad : Bool) → is_err asked ≡ bad → HasLine h.input h'.input asked
      → TurnDoes engine handed t asked h.sink h'.sink (Ok tt)
      → (came : PassCame engine h h' (Ok (Some bad))) × PassSpares engine handed h h' (Ok (Some bad)) came
  pass_done asked bad is read turn =
      let did = subst (λ (l : AskedLine). TurnDoes engine handed t l h.sink h'.sink (Ok tt)) (sym read.asks) turn in
      (record { line = read.line; bad_is = ap is_err read.asks ∙ is; came = read.came; done = did.is; less = read.less }, did.spares)

-- ---- no line was read
module _ {S State : Type 0} (engine : Engine S State) (laws : KindLaws engine.kind) (handed : List (List ℕ) → Type 0) (h : Hand S State) (i' : Input)
    (nothing : handed []) where
  abbrev same : Hand S State
  same = hand i' h.sink h.stock h.state

  pub pass_unread : (why : Stop) → CameStop h.input i' why → (came : PassCame engine h same (Err why)) × PassSpares engine handed h same (Err why) came
  pass_unread stop.Unread why = ((why, record { stock = refl; state = refl; sink = refl }), nothing)
  pass_unread stop.TooMuch why = ((why, record { stock = refl; state = refl; sink = refl }), nothing)
  pass_unread stop.Unwritten why = absurd why
  pass_unread stop.Memory why = (
    record {
      came = why;
      sink = refl;
      kept = inl (record { keeper = keeper_same h.stock.keeper h.stock.keeper refl; follows = each_same laws h.stock.shelf });
    },
    (stores_spared engine.kind (engine.down h.state) false h.stock.shelf, λ k d there. refl, nothing),
  )
