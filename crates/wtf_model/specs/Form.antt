-- Events in form: what a line of a script can say. A client, a label, a number, a path or a count outside its limits
-- stands in no event that a line gives. The definitions speak of events in form, and each call that is lent one asks
-- for it. The limits are this store's own.
use Rattle.std.specs.Prelude.{◌≤◌, ◌<◌, ℕ, List, length, All}
use Rattle.wtf_base.specs.declared.kept.Kept.{Kept}
use Rattle.wtf_path.specs.Grammar.{IsPath}
use Rattle.wtf_model.specs.declared.limits.TheConstants.{MAX_CLIENTS, MAX_HANDLES, MAX_SLICES, MAX_JOBS, MAX_SHOWN, MAX_WRITTEN, MAX_NUMBER, MAX_SOURCES, SCAN_PARTS}
use Rattle.wtf_model.specs.declared.op.Op.{Op}
use Rattle.wtf_model.specs.declared.op.Op.TheVariants as op
use Rattle.wtf_model.specs.declared.op.Seek.{Seek}
use Rattle.wtf_model.specs.declared.op.Seek.TheVariants as to
use Rattle.wtf_model.specs.declared.event.Verb.{Verb}
use Rattle.wtf_model.specs.declared.event.Verb.TheVariants as verb
use Rattle.wtf_model.specs.declared.event.Event.{Event}
use Rattle.wtf_model.specs.declared.event.Event.TheVariants as event

-- labels of handles and of slices
abbrev pub IsHandle : ℕ → Type 0
IsHandle f = f < MAX_HANDLES

abbrev pub IsSlice : ℕ → Type 0
IsSlice s = s < MAX_SLICES

abbrev pub IsJob : ℕ → Type 0
IsJob j = j < MAX_JOBS

-- a number of a line, and one of bytes that are to be shown
abbrev pub IsNumber : ℕ → Type 0
IsNumber n = n ≤ MAX_NUMBER

abbrev pub IsShowable : ℕ → Type 0
IsShowable n = n ≤ MAX_SHOWN

-- bytes that a line hands in, and what a log keeps of them
abbrev pub IsData : List ℕ → Type 0
IsData bytes = length bytes ≤ MAX_WRITTEN

abbrev pub IsKeptData : Kept → Type 0
IsKeptData kept = kept.len ≤ MAX_WRITTEN

-- where a seek leads
abbrev pub IsFormSeek : Seek → Type 0
IsFormSeek (to.Set n) = IsNumber n
IsFormSeek (to.Fwd n) = IsNumber n
IsFormSeek (to.Back n) = IsNumber n
IsFormSeek to.End = Unit {0}

-- paths of files that are put together
abbrev pub AreSources : List (List ℕ) → Type 0
AreSources paths = (1 ≤ length paths) × (length paths ≤ MAX_SOURCES) × All IsPath paths

-- a call whose written data, if it has some, is as asked
abbrev pub IsFormOp : {D : Type 0} → (D → Type 0) → Op D → Type 0
IsFormOp data_is (op.Mkdir p) = IsPath p
IsFormOp data_is (op.Rmdir p) = IsPath p
IsFormOp data_is (op.Create p) = IsPath p
IsFormOp data_is (op.Unlink p) = IsPath p
IsFormOp data_is (op.Rename p q) = IsPath p × IsPath q
IsFormOp data_is (op.Link p q) = IsPath p × IsPath q
IsFormOp data_is (op.List p) = IsPath p
IsFormOp data_is (op.Stat p) = IsPath p
IsFormOp data_is (op.Open f p) = IsHandle f × IsPath p
IsFormOp data_is (op.Close f) = IsHandle f
IsFormOp data_is (op.Seek f place) = IsHandle f × IsFormSeek place
IsFormOp data_is (op.Tell f) = IsHandle f
IsFormOp data_is (op.Read f n) = IsHandle f × IsShowable n
IsFormOp data_is (op.Write f bytes) = IsHandle f × data_is bytes
IsFormOp data_is (op.Append f bytes) = IsHandle f × data_is bytes
IsFormOp data_is (op.Truncate f n) = IsHandle f × IsNumber n
IsFormOp data_is (op.Punch f n) = IsHandle f × IsNumber n
IsFormOp data_is (op.Yank f n s) = IsHandle f × IsNumber n × IsSlice s
IsFormOp data_is (op.Peek s off len) = IsSlice s × IsNumber off × IsShowable len
IsFormOp data_is (op.Cut s off len to) = IsSlice s × IsNumber off × IsNumber len × IsSlice to
IsFormOp data_is (op.Paste f s) = IsHandle f × IsSlice s
IsFormOp data_is (op.Glue f s) = IsHandle f × IsSlice s
IsFormOp data_is (op.Concat q paths) = IsPath q × AreSources paths
IsFormOp data_is (op.Copy p q) = IsPath p × IsPath q

abbrev pub IsFormVerb : Verb → Type 0
IsFormVerb (verb.Call o) = IsFormOp IsData o
IsFormVerb v = Unit {0}

abbrev pub IsFormEvent : Event → Type 0
IsFormEvent (event.Client c v) = (c < MAX_CLIENTS) × IsFormVerb v
IsFormEvent (event.Plan job kind path region) = IsJob job × IsPath path × IsNumber region
IsFormEvent (event.Put job) = IsJob job
IsFormEvent (event.DropJob job) = IsJob job
IsFormEvent event.Scan = Unit {0}
IsFormEvent (event.Piece k) = (1 ≤ k) × (k ≤ SCAN_PARTS)
IsFormEvent (event.Collect k) = IsNumber k
IsFormEvent (event.Down k) = IsNumber k
IsFormEvent (event.Up k) = IsNumber k
IsFormEvent event.Save = Unit {0}
IsFormEvent (event.Dump path) = IsPath path
IsFormEvent event.Tree = Unit {0}
