-- Which servers a store can do without.
use Rattle.std.specs.Prelude.{◌≡◌, ℕ, zero, suc, ◌+◌, ◌<◌, ◌≤◌, Bool, if◌then◌else◌, List}
use Rattle.std.specs.List.{All}
use Rattle.wtf_base.specs.declared.settings.Settings.{Settings}
use Rattle.wtf_image.specs.Rules.{is_lost}
use Rattle.wtf_healer.specs.declared.lost.Lost.{Lost}
use Rattle.wtf_healer.specs.Words.{is_server_in}

-- how many of the first n servers are left
abbrev pub left_of : (ℕ → Bool) → ℕ → ℕ
left_of lost zero = 0
left_of lost (suc n) = left_of lost n + (if lost n then 0 else 1)

-- Each of the lost servers is one of the settings; as many are left as a slice has copies; and each server has a store, of which
-- there are so many.
pub record AreSpared (ks : List ℕ) (settings : Settings) (stores : ℕ) : Type 0 where
  pub known : All (λ k. k < settings.servers) ks
  pub left : settings.replicas ≤ left_of (is_server_in ks) settings.servers
  pub stores_are : settings.servers ≤ stores

-- a mask has the bits of these servers, and each of them is below `above`
pub record IsLostOf (ks : List ℕ) (lost : Lost) : Type 0 where
  pub has : (k : ℕ) → is_lost lost.mask k ≡ is_server_in ks k
  pub above : (n : ℕ) → lost.above ≤ n → All (λ k. k < n) ks
  pub least : (n : ℕ) → All (λ k. k < n) ks → lost.above ≤ n
