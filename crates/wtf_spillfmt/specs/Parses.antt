-- What a reading function answers.
use Rattle.std.specs.Prelude.{◌≡◌, Option, Some, None, Result, Ok, Err, ⊤}
use Rattle.wtf_overlay.specs.declared.error.NotCompact.{NotCompact}
use Rattle.wtf_overlay.specs.declared.error.NotCompact.TheVariants as cause
use Rattle.wtf_spillfmt.specs.declared.error.ListError.{ListError}
use Rattle.wtf_spillfmt.specs.declared.error.ListError.TheVariants as error

-- it is refused where nothing is read, unless memory ran out
abbrev pub IsNoneOr : {B : Type 0} → Option B → ListError → Type 0
IsNoneOr read error.NotAList = read ≡ None
IsNoneOr read error.Memory = ⊤

-- what it answered, seen by view, is what reading gives
abbrev pub Parses : {A B : Type 0} → (A → B) → Result A ListError → Option B → Type 0
Parses view (Ok x) read = read ≡ Some (view x)
Parses view (Err why) read = IsNoneOr read why

-- entries that are not compact are no list
abbrev pub no_list_by : NotCompact → ListError
no_list_by cause.Memory = error.Memory
no_list_by cause.Zeros = error.NotAList
no_list_by cause.Order = error.NotAList
no_list_by cause.Joins = error.NotAList
no_list_by cause.Past = error.NotAList
