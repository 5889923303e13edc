-- Calls that make a file.
use Rattle.std.specs.Prelude.{◌≡◌, ◌+◌}
use Rattle.wtf_base.specs.declared.ids.InodeId.{InodeId}
use Rattle.wtf_meta.specs.Calls.{Caller}

-- the inode of the caller's next call
pub record IsNewFor (x : Caller) (new : InodeId) : Type 0 where
  pub tx : new.tx.0 ≡ x.tx
  pub index : new.index ≡ x.calls + 1
