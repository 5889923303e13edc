use Rattle.std.proofs.Common.{refl}
use Rattle.wtf_values.proofs.examples.orders_keys.Goals as goal

pub returns : goal.returns
returns c = record {
  path_dir = λ p q. refl;
  dir_inode = λ p i. refl;
  inode_region = λ i j r. refl;
  region_links = λ i j r. refl;
  paths = λ p q. refl;
  dirs = λ p q. refl;
  inodes = λ i j. refl;
  regions = λ i j r s. refl;
}
