-- What the program promises of its run, by the words that it is given.
use Rattle.std.specs.Prelude.{◌≡◌, ◌≢◌, ◌⊎◌, ◌↔◌, ◌<◌, ℕ, List, Option, Some, None, [], ◌∷◌, ⊤}
use Rattle.wtf_base.specs.declared.settings.Settings.{Settings}
use Rattle.wtf_words.specs.Words.{Numbers, numbers, Request}
use Rattle.wtf_words.specs.declared.Script.{Script}
use Rattle.wtf_words.specs.declared.Script.TheVariants as script
use Rattle.wtf_dev.specs.Store.{StoreKind}
use Rattle.wtf_image.specs.Rows.{ImageRows}
use Rattle.wtf_image.specs.Images.{HasText}
use Rattle.wtf_image.specs.Rules.{AreGoodSettings}
use Rattle.wtf_serve.specs.Endings.{Devices}
use Rattle.wtf_serve.specs.Generated.{IsGeneratedRun}
use Rattle.wtf_serve.specs.Unopened.{IsRunWith, IsRunStatus, IsRefusedImage}

-- a whole run of a script, by where that comes from, over the devices before and after it
abbrev pub IsScriptRun : {S : Type 0} → StoreKind S → (List (List ℕ) → Type 0) → Settings → Script → ℕ → Devices S × Devices S → Type 0
IsScriptRun kind handed settings script.Read status (old, new) = IsRunWith kind handed settings status old new
IsScriptRun kind handed settings (script.Generated recipe) status (old, new) = IsGeneratedRun kind handed settings recipe status old new

-- a whole run over the servers and copies, and of the script, that were asked for
pub record IsRunOf {S : Type 0} (kind : StoreKind S) (handed : List (List ℕ) → Type 0) (asked : Request) (status : ℕ)
    (old new : Devices S) : Type 0 where
  pub settings : Settings
  pub asked_is : numbers settings ≡ asked.numbers
  pub run : IsScriptRun kind handed settings asked.script status (old, new)

-- no device was touched, and nothing was handed to the keeper
abbrev pub IsUntouched : {S : Type 0} → (List (List ℕ) → Type 0) → Devices S → Devices S → Type 0
IsUntouched handed old new = (new ≡ old) × handed []

-- a run of the program by what its words ask for: words that are refused touch nothing, nor does a want of memory that
-- comes before they are read
abbrev pub IsProgramRun : {S : Type 0} → StoreKind S → (List (List ℕ) → Type 0) → Option Request → ℕ → Devices S → Devices S → Type 0
IsProgramRun kind handed None status old new = ((status ≡ 2) ⊎ (status ≡ 7)) × IsUntouched handed old new
IsProgramRun kind handed (Some asked) status old new =
    ((status ≡ 7) × IsUntouched handed old new) ⊎ IsRunOf kind handed asked status old new

-- an image whose settings have more servers than there are stores
pub record HasManyServers (bytes : List ℕ) (stores : ℕ) : Type 0 where
  pub rows : ImageRows
  pub text : HasText rows bytes
  pub good : AreGoodSettings rows
  pub few : stores < rows.header.servers

-- so many stores are too few for what the words ask for, or for the image that is held
abbrev pub IsFew : Numbers → List ℕ → ℕ → Type 0
IsFew asked [] stores = stores < asked.servers
IsFew asked (b ∷ bytes) stores = HasManyServers (b ∷ bytes) stores

-- The words are refused, or so many stores cannot serve what they ask for, where the keeper holds these bytes
abbrev pub AreWordsRefused : Option Request → List ℕ → ℕ → Type 0
AreWordsRefused None held stores = ⊤
AreWordsRefused (Some asked) held stores = IsFew asked.numbers held stores

-- What a status says, by what the words ask for, and by what the keeper holds, where that is seen: it is one of a run's; words that are refused end
-- with 2, or for want of memory with 7; and 2 and 6 stand for just what is refused, but where memory, the keeper or the sink ended the run first.
pub record IsStatusOf (size : ℕ → ℕ → ℕ) (stores : ℕ) (asked : Option Request) (held : Option (List ℕ)) (status : ℕ) : Type 0 where
  pub known : IsRunStatus status
  pub words : asked ≡ None → (status ≡ 2) ⊎ (status ≡ 7)
  pub refused : (bytes : List ℕ) → held ≡ Some bytes → (status ≡ 2) ↔ ((status ≢ 7) × (status ≢ 8) × AreWordsRefused asked bytes stores)
  pub image : (bytes : List ℕ) → held ≡ Some bytes
      → (status ≡ 6) ↔ ((status ≢ 2) × (status ≢ 4) × (status ≢ 7) × (status ≢ 8) × IsRefusedImage size stores bytes)

-- The script, the output and the stores are as they were, each given before and after, and so is the keeper.
pub record LeavesAll {I O S : Type 0} (script : I × I) (out : O × O) (shelf : S × S) (kept : Type 0) : Type 0 where
  pub unread : script.1 ≡ script.0
  pub unwritten : out.1 ≡ out.0
  pub untouched : shelf.1 ≡ shelf.0
  pub unkept : kept
