-- What contracts see of a disk over real files: its counts and lengths and what was asked of each file, and nothing of what the
-- files hold.
use Rattle.std.specs.Prelude.{ℕ, ◌-◌, ◌^◌, min, false, List, [], Option, None, slice_index_or, ⊤}
use Rattle.wtf_dev.specs.Disk.{DiskView, DiskKind, DiskLaws}
use Rattle.wtf_real.specs.Asked.{FileOp, Call}

pub record DiskFolder : Type 0 where
  pub faults : ℕ
  -- how long each file is to its adapter, in bytes
  pub lengths : List ℕ
  -- what was asked of each file so far, where the file tells it
  pub asked : List (Option (List (Call FileOp)))
  -- the path of the folder that holds the files, no byte where they stand in none
  pub folder : List ℕ

-- A file is never longer than 2^61 - 1 bytes: `min` says so of each state that can be written down.
abbrev pub dir_disk_view : DiskFolder → DiskView
dir_disk_view s = record {
  faults = s.faults;
  moment = 0;
  size = λ f. min (slice_index_or s.lengths f 0) (2 ^ 61 - 1);
  tells = false;
  file = λ f. record { seen = []; told = λ i. None; least = 0; most = 0 };
}

abbrev pub dir_disk : DiskKind DiskFolder
dir_disk = record { view = dir_disk_view; left_since = λ d t c. ⊤ }

-- Such a disk keeps to the laws of disks, which ask nothing of one that does not tell. The `impl` gives this proof, so it stands
-- beside the definitions.
pub dir_disk_laws : DiskLaws dir_disk
dir_disk_laws = record {
  counts_now = λ d t c tells. absurd (cc (tells));
  only_now = λ d c tells. absurd (cc (tells));
  reads = λ d tells. absurd (cc (tells));
  lengths = λ d f tells. absurd (cc (tells));
}
