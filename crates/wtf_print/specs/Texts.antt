-- The one text of each answer, and of the settings. Numbers are decimal without leading zeros, bytes are lower-case hexadecimal digits.
use Rattle.std.specs.Prelude.{ℕ, nat_le, if◌then◌else◌, List, [], ◌∷◌, ◌++◌, codes, decimal, Some, None}
use Rattle.std.specs.List.{flat_map}
use Rattle.hex.specs.Hex.{encode_lower}
use Rattle.wtf_base.specs.declared.settings.Settings.{Settings}
use Rattle.wtf_model.specs.declared.answer.Word.{Word}
use Rattle.wtf_model.specs.declared.answer.Word.TheVariants as word
use Rattle.wtf_model.specs.declared.answer.Kind.{Kind}
use Rattle.wtf_model.specs.declared.answer.Kind.TheVariants as kind
use Rattle.wtf_model.specs.declared.event.Holder.{Holder}
use Rattle.wtf_model.specs.declared.event.Holder.TheVariants as holder
use Rattle.wtf_model.specs.declared.lists.Row.{Row}
use Rattle.wtf_model.specs.declared.answer.Answer.{Answer, Aborted'}
use Rattle.wtf_model.specs.declared.answer.Answer.TheVariants as answer

unfoldable pub word_text : Word → List ℕ
word_text word.Exists = codes "exists"
word_text word.NoParent = codes "noparent"
word_text word.NoEnt = codes "noent"
word_text word.NotDir = codes "notdir"
word_text word.Root = codes "root"
word_text word.NotEmpty = codes "notempty"
word_text word.IsDir = codes "isdir"
word_text word.Busy = codes "busy"
word_text word.InUse = codes "inuse"
word_text word.NoHandle = codes "nohandle"
word_text word.Range = codes "range"
word_text word.TooBig = codes "toobig"
word_text word.NoSlice = codes "noslice"
word_text word.Replaying = codes "replaying"
word_text word.Full = codes "full"
word_text word.InTx = codes "intx"
word_text word.NoTx = codes "notx"
word_text word.NoJob = codes "nojob"
word_text word.JobInUse = codes "jobinuse"
word_text word.NoRegion = codes "noregion"
word_text word.NoServer = codes "noserver"
word_text word.ScanBusy = codes "scanbusy"
word_text word.NoScan = codes "noscan"
word_text word.Live = codes "live"
word_text word.Long = codes "long"

unfoldable pub kind_text : Kind → List ℕ
kind_text kind.Long = codes "long"
kind_text kind.Empty = codes "empty"
kind_text kind.Byte = codes "byte"
kind_text kind.Space = codes "space"
kind_text kind.Actor = codes "actor"
kind_text kind.Verb = codes "verb"
kind_text kind.Count = codes "count"
kind_text kind.Handle = codes "handle"
kind_text kind.Slice = codes "slice"
kind_text kind.Job = codes "job"
kind_text kind.Number = codes "number"
kind_text kind.Limit = codes "limit"
kind_text (kind.Path n) = codes "path " ++ decimal n
kind_text kind.DataForm = codes "data"
kind_text kind.Word = codes "word"

-- a name of a list, behind a space
abbrev pub name_text : List ℕ → List ℕ
name_text name = 32 ∷ name

-- a row of a shown tree, behind a space
unfoldable pub row_text : Row → List ℕ
row_text r = elim r.len [ None ↦ codes " d:" ++ r.path | Some n ↦ codes " f:" ++ r.path ++ codes ":" ++ decimal n ]

unfoldable pub holder_text : Holder → List ℕ
holder_text (holder.Client c) = codes "c" ++ decimal c
holder_text (holder.Job j) = codes "j" ++ decimal j

-- how many paths a file has, where it has more than one
unfoldable pub links_text : ℕ → List ℕ
links_text n = if nat_le 2 n then codes " links " ++ decimal n else []

unfoldable pub text_of : Answer → List ℕ
text_of answer.Okay = codes "ok"
text_of (answer.Begun n) = codes "begun " ++ decimal n
text_of (answer.Shown bytes) = codes "data x:" ++ encode_lower bytes
text_of (answer.At n) = codes "at " ++ decimal n
text_of (answer.Len n) = codes "len " ++ decimal n
text_of answer.Dir = codes "dir"
text_of (answer.File n links) = codes "file " ++ decimal n ++ links_text links
text_of (answer.Names names) = codes "names" ++ flat_map name_text names
text_of (answer.Committed n) = codes "committed " ++ decimal n
text_of (answer.Retry base now) = codes "retry " ++ decimal base ++ codes " " ++ decimal now
text_of (answer.Replayed i) = codes "replayed " ++ decimal i
text_of (Aborted' i box a) = codes "aborted " ++ decimal i ++ codes " " ++ text_of a
text_of answer.Planned = codes "planned"
text_of (answer.Installed n) = codes "installed " ++ decimal n
text_of (answer.Stale base now) = codes "stale " ++ decimal base ++ codes " " ++ decimal now
text_of answer.Scanning = codes "scanning 64"
text_of (answer.Held h) = codes "held " ++ holder_text h
text_of (answer.More n) = codes "more " ++ decimal n
text_of answer.Done = codes "done"
text_of (answer.Collected n) = codes "collected " ++ decimal n
text_of (answer.Saved n) = codes "saved " ++ decimal n
text_of (answer.Tree rows) = codes "tree" ++ flat_map row_text rows
text_of (answer.Refused w) = codes "refused " ++ word_text w
text_of (answer.FaultRead k) = codes "fault read " ++ decimal k
text_of answer.FaultWrite = codes "fault write"
text_of (answer.FaultPunch k) = codes "fault punch " ++ decimal k
text_of answer.FaultSave = codes "fault save"
text_of (answer.Damaged k) = codes "damaged " ++ decimal k
text_of (answer.Bad k) = codes "bad " ++ kind_text k

-- the settings, and the number of installs so far
unfoldable pub settings_text : Settings → ℕ → List ℕ
settings_text s number =
    codes "wtf servers " ++ decimal s.servers ++ codes " replicas " ++ decimal s.replicas ++ codes " region " ++ decimal s.region
    ++ codes " number " ++ decimal number
