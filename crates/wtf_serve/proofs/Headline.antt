-- The headline of a run over devices that tell what they hold.
use Rattle.std.proofs.Common.{◌≡◌, ◌≤◌, ◌^◌, ℕ, Bool, true, false, List, [], Some, refl, sym, ◌∙◌, subst, arith, inl, inr}
use Rattle.wtf_base.specs.declared.settings.Settings.{Settings}
use Rattle.wtf_dev.specs.Store.{StoreKind}
use Rattle.wtf_dev.specs.Sums.{TellsAll}
use Rattle.wtf_replica.specs.Bytes.{byte_at}
use Rattle.wtf_model.specs.Tree.{Tree, root_alone}
use Rattle.wtf_image.specs.Rules.{size_in}
use Rattle.wtf_words.specs.declared.Recipe.{Recipe}
use Rattle.wtf_summary.specs.Summaries.{shown_text}
use Rattle.wtf_serve.specs.Endings.{Devices, Served, IsUnstarted, IsTold}
use Rattle.wtf_serve.specs.Generated.{IsGeneratedRun, IsToldOf, script_of, with_script, with_text}
use Rattle.wtf_serve.specs.Logs.{output}
use Rattle.wtf_serve.specs.Openings.{Opening, new_opening, Opens, StartsFrom}
use Rattle.wtf_serve.specs.Scripts.{IsEndStatus}
use Rattle.wtf_serve.specs.Stocks.{IsTelling}
use Rattle.wtf_serve.specs.Unopened.{IsRunWith}
use Rattle.wtf_serve.proofs.Refusing.{unopened_status}
use Rattle.wtf_serve.proofs.Telling.{some_same}

-- a run that read its script to its end has written its first line
pub began : {S : Type 0} (handed : List (List ℕ) → Type 0) (status : ℕ) (lines : List (List ℕ)) (old new : Devices S) (started : Bool)
    → (started ≡ false → IsUnstarted handed status lines old new) → IsEndStatus status → started ≡ true
began handed status lines old new true unstarted end = refl
began handed status lines old new false unstarted end =
    let which = (unstarted refl).status_is in absurd (omega (arith, end, which))

pub told_run : {S : Type 0} (kind : StoreKind S) (handed : List (List ℕ) → Type 0) (opening : Opening) (status : ℕ) (old new : Devices S)
    (script text kept : List ℕ) (t : Tree)
    → Served kind handed opening status old new → TellsAll kind old.stock.shelf → IsTelling old.stock.keeper opening.bytes
    → opening.number ≤ 2 ^ 61 → opening.next_tx ≤ 2 ^ 61 → StartsFrom (byte_at kind old.stock.shelf) opening.bytes t
    → old.source.rest ≡ Some script → old.sink.taken ≡ Some []
    → new.sink.taken ≡ Some text → new.stock.keeper.held ≡ Some kept → IsEndStatus status
    → IsTold (byte_at kind new.stock.shelf) (size_in kind new.stock.shelf) opening t script text kept
told_run kind handed opening status old new script text kept t served tells telling number next_tx from rest taken now held end =
    let started = began handed status served.log.lines old new served.started served.unstarted end in
    record {
      log = served.log;
      lines_are = ((served.read script rest).whole (inl end)).0;
      accepts = served.ran.accepts tells t from;
      accepted = served.ran.accepted tells t from;
      wrote = some_same text (output opening served.log.answers) (sym now ∙ (served.wrote [] taken).whole started (λ is. absurd (omega (arith, end, is))));
      saved = (served.left started tells telling number next_tx t from kept held).saved end;
      next = (served.next started tells telling number next_tx t from kept held).saved end;
    }

-- a run whose keeper held nothing began with the root alone, under the settings that were asked for
pub told_new : {S : Type 0} (kind : StoreKind S) (handed : List (List ℕ) → Type 0) (settings : Settings) (status : ℕ) (old new : Devices S)
    (script text kept : List ℕ)
    → IsRunWith kind handed settings status old new → TellsAll kind old.stock.shelf → IsTelling old.stock.keeper []
    → old.source.rest ≡ Some script → old.sink.taken ≡ Some [] → new.sink.taken ≡ Some text → new.stock.keeper.held ≡ Some kept → IsEndStatus status
    → IsTold (byte_at kind new.stock.shelf) (size_in kind new.stock.shelf) (new_opening settings) root_alone script text kept
told_new kind handed settings status old new script text kept (inl unopened) tells telling rest taken now held end =
    let (few, most) = unopened_status kind status old new unopened.why in absurd (omega (arith, end, few))
told_new kind handed settings status old new script text kept (inr opened) tells telling rest taken now held end =
    let opens : Opens settings [] opened.opening = subst (λ (b : List ℕ). Opens settings b opened.opening) (opened.given [] telling.held) opened.opens in
    let served : Served kind handed (new_opening settings) status old new = subst (λ (o : Opening). Served kind handed o status old new) opens opened.served
    in told_run kind handed (new_opening settings) status old new script text kept root_alone served tells telling (omega arith)
    (omega arith) refl rest taken now held end

-- the same of a generated script
pub told_generated : {S : Type 0} (kind : StoreKind S) (handed : List (List ℕ) → Type 0) (settings : Settings) (recipe : Recipe) (status : ℕ)
    (old new : Devices S) (written kept : List ℕ)
    → IsGeneratedRun kind handed settings recipe status old new → TellsAll kind old.stock.shelf → IsTelling old.stock.keeper []
    → old.sink.taken ≡ Some [] → new.sink.taken ≡ Some written → new.stock.keeper.held ≡ Some kept → IsEndStatus status
    → IsToldOf (byte_at kind new.stock.shelf) (size_in kind new.stock.shelf) (new_opening settings) root_alone recipe written kept
told_generated kind handed settings recipe status old new written kept run tells telling taken now held end = record {
  text = run.text;
  told_is = told_new kind handed settings status (with_script recipe old) (with_text run.left run.faults run.text new)
      (script_of recipe) run.text kept run.run tells telling
      refl refl refl held end;
  wrote = some_same written (shown_text recipe.lines run.text)
      (sym now ∙ run.shows.whole (run.whole (λ e. omega (arith, e, end))) [] taken);
}
