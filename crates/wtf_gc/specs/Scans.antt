-- What the calls of a scan do.
use Rattle.std.specs.Prelude.{◌≡◌, ℕ, ◌+◌, ◌-◌, ◌≤◌, ◌^◌, ◌||◌, min, cond, nat_eq, count_by, List, [], Option, None, Some, IsTrue}
use Rattle.std.specs.List.{list_any}
use Rattle.wtf_base.specs.declared.fault.Fault.{Fault}
use Rattle.wtf_base.specs.Places.{Place}
use Rattle.wtf_dev.specs.Store.{StoreKind}
use Rattle.wtf_kv.specs.Seen.{kept_versions}
use Rattle.wtf_kv.specs.Stores.{Store, is_live, times_pinned, versions_of, map_at, AllAscend}
use Rattle.wtf_values.specs.declared.key.Key.{Key}
use Rattle.wtf_values.specs.declared.value.Value.{Value}
use Rattle.wtf_values.specs.Keys.{key_cmp}
use Rattle.wtf_region.specs.declared.dev.Dev.{Dev}
use Rattle.wtf_gc.specs.declared.extent.Extent.{Extent}
use Rattle.wtf_gc.specs.declared.parts.Parts.{Parts}
use Rattle.wtf_gc.specs.Extents.{extents_cover}
use Rattle.wtf_gc.specs.Pinning.{IsPinnedFor}
use Rattle.wtf_gc.specs.Reading.{PartsRead, IsPartsFault}
use Rattle.wtf_gc.specs.Views.{ScanView, RunView, GcView, mark_of, length_in}

-- A scan starts: it notes the lengths, has found nothing, and has pinned just the numbers that may be read.
pub record StartsScan {S : Type 0} (kind : StoreKind S) (shelf : List S) (kv kv' : Store Key Value) (old new : GcView) : Type 0 where
  pub run : RunView
  pub is : new ≡ record old { running = Some run }
  pub mark : (k f : ℕ) → mark_of run.scan k f ≡ length_in kind shelf k f
  pub found : run.scan.found ≡ []
  pub left : run.left ≡ 64
  pub seen : (n : ℕ) → list_any (nat_eq n) run.seen ≡ is_live kv n
  pub pins : IsPinnedFor run.seen kv kv'

-- each number is pinned as often as the scan that runs has pinned it, or more
abbrev pub AreHeld : Option RunView → Store Key Value → Type 0
AreHeld None kv = Unit {0}
AreHeld (Some r) kv = (n : ℕ) → count_by (nat_eq n) r.seen ≤ times_pinned kv n

-- What is not kept is dropped, and what may be read stays. The versions of each key ascend, so each that is kept is one that is read.
pub record IsPrunedFrom (old new : Store Key Value) : Type 0 where
  pub order : AllAscend key_cmp old
  pub ascends : AllAscend key_cmp new
  pub number : new.number ≡ old.number
  pub kept : (q : Key) → versions_of key_cmp new q ≡ kept_versions old.pins (versions_of key_cmp old q)
  pub maps : (n : ℕ) → IsTrue (is_live old n) → map_at key_cmp new n ≡ map_at key_cmp old n

-- the next parts, and at most so many
abbrev pub next_parts : ℕ → ℕ → Parts
next_parts left n = record { first = 64 - left; end = (64 - left) + min left n }

-- the scan that runs, once parts are done
abbrev pub run_on : RunView → ℕ → List Extent → RunView
run_on r n found = record { scan = record { marks = r.scan.marks; found = found }; seen = r.seen; left = r.left - n }

-- a collector where no part is left: that scan has finished
abbrev pub with_finished : GcView → ScanView → GcView
with_finished g s = record { running = None; finished = min (g.finished + 1) (2 ^ 64 - 1); older = g.newer; newer = s; freed = g.freed }

abbrev pub with_run : GcView → RunView → GcView
with_run g r = cond (nat_eq r.left 0) (with_finished g r.scan) (record g { running = Some r })

-- how often the pins of a number are undone: once for each time that the scan has pinned it, as soon as no part is left
abbrev pub undone : RunView → ℕ → ℕ
undone r n = cond (nat_eq r.left 0) (count_by (nat_eq n) r.seen) 0

-- The next parts of the scan that runs are done.
pub record DoesParts {S : Type 0} (kind : StoreKind S) (dev dev' : Dev S) (kv kv' : Store Key Value) (old new : GcView) (n left : ℕ) : Type 0 where
  pub run : RunView
  pub was : old.running ≡ Some run
  pub found : List Extent
  pub reads : PartsRead kind dev dev' kv' (next_parts run.left n) (extents_cover run.scan.found) (extents_cover found)
  pub is : new ≡ with_run old (run_on run n found)
  pub left_is : left ≡ run.left - n
  pub pins : (m : ℕ) → times_pinned kv' m + undone (run_on run n found) m ≡ times_pinned kv m

-- why the next parts were not done
abbrev pub IsPieceFault : {S : Type 0} → StoreKind S → (dev dev' : Dev S) → Store Key Value → Option RunView → ℕ → Fault → Type 0
IsPieceFault kind dev dev' kv None n why = ⊥
IsPieceFault kind dev dev' kv (Some r) n why = IsPartsFault kind dev dev' kv (next_parts r.left n) why

-- the extents that parts have found were taken, and with no part left the scan has finished
pub record Advances (kv kv' : Store Key Value) (old new : GcView) (done left : ℕ) (more : List Extent) : Type 0 where
  pub run : RunView
  pub was : old.running ≡ Some run
  pub found : List Extent
  pub adds : (p : Place) → extents_cover found p ≡ (extents_cover run.scan.found p || extents_cover more p)
  pub is : new ≡ with_run old (run_on run done found)
  pub left_is : left ≡ run.left - done
  pub pins : (m : ℕ) → times_pinned kv' m + undone (run_on run done found) m ≡ times_pinned kv m
  pub number : kv'.number ≡ kv.number
  pub cells : kv'.cells ≡ kv.cells
