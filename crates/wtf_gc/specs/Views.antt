-- What contracts see of a collector.
use Rattle.std.specs.Prelude.{◌≡◌, ℕ, ◌+◌, ◌*◌, ◌<◌, ◌≤◌, Bool, ◌&&◌, ◌||◌, not, cond, nat_lt, List, [], length, Option, None, Some, slice_index_or}
use Rattle.wtf_base.specs.Places.{Place}
use Rattle.wtf_dev.specs.Store.{StoreKind}
use Rattle.wtf_replica.specs.Inside.{size_in}
use Rattle.wtf_gc.specs.declared.extent.Extent.{Extent}
use Rattle.wtf_gc.specs.declared.gc.Scan.{Scan}
use Rattle.wtf_gc.specs.declared.gc.Running.{Running}
use Rattle.wtf_gc.specs.Extents.{extents_cover}

-- a scan: the lengths of the files at its start, and the extents that it found
pub record ScanView : Type 0 where
  pub marks : List ℕ
  pub found : List Extent

-- one that runs: the numbers that it has pinned, and the parts that are left
pub record RunView : Type 0 where
  pub scan : ScanView
  pub seen : List ℕ
  pub left : ℕ

-- the scan that runs, how many have finished, the last two of these, and the extents that were freed
pub record GcView : Type 0 where
  pub running : Option RunView
  pub finished : ℕ
  pub older : ScanView
  pub newer : ScanView
  pub freed : List Extent

-- the marks as they are kept, a server's after those of the one before it
abbrev pub mark_in : List ℕ → ℕ → ℕ → ℕ
mark_in marks k f = cond (nat_lt f 8) (slice_index_or marks (k * 8 + f) 0) 0

-- a scan's mark of a file
abbrev pub mark_of : ScanView → ℕ → ℕ → ℕ
mark_of s k f = mark_in s.marks k f

-- A byte is garbage where it lies below the mark of the first of the last two scans, neither of them found it, and it was not
-- freed. Before two have finished there is none.
abbrev pub is_garbage : GcView → Place → Bool
is_garbage g p = nat_lt p.at (mark_of g.older p.server p.file)
    && not (extents_cover g.older.found p || (extents_cover g.newer.found p || extents_cover g.freed p))

-- the length of one of the eight files of a server
abbrev pub length_in : {S : Type 0} → StoreKind S → List S → ℕ → ℕ → ℕ
length_in kind shelf k f = cond (nat_lt f 8) (size_in kind shelf k f) 0

-- so many lengths were noted
pub record MarksUpto {S : Type 0} (kind : StoreKind S) (shelf : List S) (n : ℕ) (marks : List ℕ) : Type 0 where
  pub len : length marks ≡ n
  pub are : (k f : ℕ) → f < 8 → k * 8 + f < n → slice_index_or marks (k * 8 + f) 0 ≡ size_in kind shelf k f

abbrev pub scan_view : Scan → ScanView
scan_view s = record { marks = s.marks.items; found = s.found }

abbrev pub run_view : Running → RunView
run_view r = record { scan = scan_view r.scan; seen = r.seen.items; left = r.left }

-- at most all parts are left of the scan that runs
abbrev pub HasPartsLeft : Option Running → Type 0
HasPartsLeft None = Unit {0}
HasPartsLeft (Some r) = r.left ≤ 64

-- a scan that has found nothing, of files of no length
abbrev pub empty_scan : ScanView
empty_scan = record { marks = []; found = [] }

-- no scan runs, none has finished, and nothing was freed
abbrev pub new_gc : GcView
new_gc = record { running = None; finished = 0; older = empty_scan; newer = empty_scan; freed = [] }
