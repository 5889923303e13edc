-- What a run with status 0 did for the tree that was left of its image.
use Rattle.std.specs.Prelude.{◌≡◌, ℕ, ◌+◌, ◌*◌, ◌++◌, List, nat_lt, if◌then◌else◌, Some}
use Rattle.wtf_dev.specs.Store.{StoreKind}
use Rattle.wtf_dev.specs.Sums.{all_stored}
use Rattle.wtf_model.specs.Tree.{Tree}
use Rattle.wtf_replica.specs.Bytes.{byte_at}
use Rattle.wtf_replica.specs.Outs.{HasRisen}
use Rattle.wtf_image.specs.Images.{HasText}
use Rattle.wtf_image.specs.Rows.{ImageRows}
use Rattle.wtf_image.specs.Rules.{size_in}
use Rattle.wtf_healer.specs.Ends.{RunSpan, SinkSpan}
use Rattle.wtf_healer.specs.Lines.{done_lines}
use Rattle.wtf_healer.specs.Runs.{AreToHeal, IsHealedImage}
use Rattle.wtf_healer.specs.Words.{is_server_in}

-- An image whose tree without the lost servers is t became one that is healed, which the keeper holds. What was to be healed is what the
-- two lines say, and where no store failed all stores together grew by just that, once for each copy.
pub record Heals {S O : Type 0} (kind : StoreKind S) (ks : List ℕ) (run : RunSpan S) (out : SinkSpan O) (t : Tree) (bytes : List ℕ) : Type 0 where
  pub kept : List ℕ
  pub held : run.keeper_now.held ≡ Some kept
  pub image : IsHealedImage (byte_at kind run.new) (size_in kind run.new) (is_server_in ks) t bytes kept
  pub regions : ℕ
  pub anew : ℕ
  pub counted : AreToHeal (byte_at kind run.old) (is_server_in ks) bytes regions anew
  pub wrote : (text : List ℕ) → (out.view out.old).taken ≡ Some text → (out.view out.new).taken ≡ Some (text ++ done_lines regions anew)
  -- all regions were healed in one install, and where none was there is none
  pub installs : (x y : ImageRows) → HasText x bytes → HasText y kept → y.header.installs ≡ x.header.installs + (if nat_lt 0 regions then 1 else 0)
  pub grew : ((k : ℕ) → HasRisen kind run.old run.new k → ⊥) → (x : ImageRows) → HasText x bytes
      → all_stored kind run.new ≡ all_stored kind run.old + x.header.replicas * anew
