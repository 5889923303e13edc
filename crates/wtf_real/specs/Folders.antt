-- What contracts see of a store over real files: its counts and lengths and what was asked of each file, and nothing of what
-- the files hold.
use Rattle.std.specs.Prelude.{ℕ, ◌-◌, ◌^◌, min, false, List, ◌++◌, Option, None, slice_index_or, codes, decimal}
use Rattle.std.proofs.Common.{arith}
use Rattle.wtf_dev.specs.Store.{StoreView, Kept, StoreKind, KindLaws}
use Rattle.wtf_real.specs.Asked.{FileOp, Call}
use Rattle.wtf_dev.specs.MemoryLaws.{kept_same, kept_on}

pub record FolderState : Type 0 where
  pub faults : ℕ
  pub syncs : ℕ
  -- how long each file is to its adapter, in bytes
  pub lengths : List ℕ
  -- what was asked of each file so far, where the file tells it
  pub asked : List (Option (List (Call FileOp)))
  -- the path of the folder that holds the files, no byte where they stand in none
  pub folder : List ℕ

-- the folder of a server's files in a folder of this path
abbrev pub folder_of : List ℕ → ℕ → List ℕ
folder_of dir server = dir ++ codes "/s" ++ decimal server

-- A file is never longer than 2^61 - 1 bytes: `min` says so of each state that can be written down.
abbrev pub folder_view : FolderState → StoreView
folder_view s = record {
  faults = s.faults;
  syncs = s.syncs;
  size = λ f. min (slice_index_or s.lengths f 0) (2 ^ 61 - 1);
  told = λ f i. None;
  shown = λ f i. None;
  tells = false;
}

abbrev pub folder_store : StoreKind FolderState
folder_store = record { view = folder_view; follows = λ old new punched. Kept (folder_view old) (folder_view new) punched }

-- Such a store keeps to the laws of devices. The `impl` gives this proof, so it stands beside the definitions.
pub folder_laws : KindLaws folder_store
folder_laws = record {
  follows_itself = λ s. kept_same (folder_view s);
  follows_on = λ a b c xs ys p q. kept_on (folder_view a) (folder_view b) (folder_view c) xs ys p q;
  keeps = λ a b xs f. f;
  fits = λ s f. omega arith;
  within = λ s f i b shown. absurd (cc);
  shows = λ s f i b told. absurd (cc);
}
