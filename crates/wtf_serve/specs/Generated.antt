-- A run of a script that is made from a number, of whose answers only a summary is shown.
use Rattle.std.specs.Prelude.{◌≡◌, ◌≢◌, ◌⊎◌, ◌≤◌, ℕ, List, [], ◌∷◌, ◌++◌, Option, Some}
use Rattle.wtf_base.specs.declared.settings.Settings.{Settings}
use Rattle.wtf_words.specs.declared.Recipe.{Recipe}
use Rattle.wtf_dev.specs.Counts.{Rose}
use Rattle.wtf_dev.specs.Store.{StoreKind}
use Rattle.wtf_dev.specs.Streams.{SourceView, SinkView}
use Rattle.wtf_model.specs.Tree.{Tree}
use Rattle.wtf_meta.specs.Contents.{Told}
use Rattle.wtf_gen.specs.Lines.{generated_script}
use Rattle.wtf_script.specs.ScriptLines.{line_feed}
use Rattle.wtf_summary.specs.Summaries.{shown_text}
use Rattle.wtf_serve.specs.Endings.{Devices, IsTold}
use Rattle.wtf_serve.specs.Openings.{Opening}
use Rattle.wtf_serve.specs.Unopened.{IsRunWith}

-- the script of a recipe
abbrev pub script_of : Recipe → List ℕ
script_of recipe = generated_script recipe.number recipe.lines

-- the devices before a run of a generated script: its source has that script, and its sink took nothing yet
abbrev pub with_script : {S : Type 0} → Recipe → Devices S → Devices S
with_script recipe old = record {
  source = record { faults = 0; given = 0; rest = Some (script_of recipe) };
  sink = record { faults = 0; taken = Some [] };
  stock = old.stock;
}

-- the devices behind it: what is left of the script, and the text that was written, with the faults of that
abbrev pub with_text : {S : Type 0} → SourceView → ℕ → List ℕ → Devices S → Devices S
with_text left faults text new = record { source = left; sink = record { faults = faults; taken = Some text }; stock = new.stock }

-- a front was written of what is shown of a text, to which the line feed of its last line may have been added
pub record IsFrontShown (lines : ℕ) (text before : List ℕ) (new : Option (List ℕ)) : Type 0 where
  pub feed : List ℕ
  pub feed_is : (feed ≡ []) ⊎ (feed ≡ line_feed ∷ [])
  pub front : List ℕ
  pub back : List ℕ
  pub all : front ++ back ≡ shown_text lines (text ++ feed)
  pub new_is : new ≡ Some (before ++ front)

-- A sink has what is shown of a text, its first line and a summary of so many lines behind it: all of it where no write
-- failed, and else a front
pub record Shows (lines : ℕ) (text : List ℕ) (faults : ℕ) (old new : SinkView) : Type 0 where
  pub whole : faults ≡ 0 → (before : List ℕ) → old.taken ≡ Some before → new.taken ≡ Some (before ++ shown_text lines text)
  pub cut : faults ≢ 0 → (before : List ℕ) → old.taken ≡ Some before → IsFrontShown lines text before new.taken
  pub cause : faults ≢ 0 → Rose old.faults new.faults
  pub still : faults ≡ 0 → new.faults ≡ old.faults
  pub faults_rise : old.faults ≤ new.faults

-- A run of a generated script: that of a script which is read, but for what is shown of its text; and no other script is
-- read. The generated one does not fail. Unless the run ends as the sink failed, all that is shown was written: the tree is
-- saved behind the summary, or not at all.
pub record IsGeneratedRun {S : Type 0} (kind : StoreKind S) (handed : List (List ℕ) → Type 0) (settings : Settings)
    (recipe : Recipe) (status : ℕ) (old new : Devices S) : Type 0 where
  pub unread : new.source ≡ old.source
  pub left : SourceView
  pub unfailed : left.faults ≡ 0
  pub faults : ℕ
  pub whole : status ≢ 4 → faults ≡ 0
  pub text : List ℕ
  pub run : IsRunWith kind handed settings status (with_script recipe old) (with_text left faults text new)
  pub shows : Shows recipe.lines text faults old.sink new.sink

-- The headline of a run of a generated script that was answered to its end: that of a script which is read, whose text is
-- shown by its first line and the summary of the others.
pub record IsToldOf (told : Told) (size : ℕ → ℕ → ℕ) (opening : Opening) (t : Tree) (recipe : Recipe) (written kept : List ℕ) : Type 0 where
  pub text : List ℕ
  pub told_is : IsTold told size opening t (script_of recipe) text kept
  pub wrote : written ≡ shown_text recipe.lines text
