-- Where no device failed, and what the closing save counts.
use Rattle.std.proofs.Common.{◌≡◌, ◌≢◌, ◌⊎◌, ◌<◌, ◌≤◌, ◌+◌, ◌-◌, ◌^◌, ◌==◌, ◌&&◌, ℕ, Bool, true, false, List, [], length, Ok, refl, sym, ◌∙◌, subst, arith}
use Rattle.std.proofs.Common.{get_or, inl, inr}
use Rattle.std.proofs.lemmas.Bool.{eqb-true}
use Rattle.wtf_base.specs.declared.settings.Settings.{Settings}
use Rattle.wtf_dev.specs.Counts.{Rose}
use Rattle.wtf_dev.specs.Store.{Range, StoreKind, KindLaws}
use Rattle.wtf_dev.specs.Each.{EachFollows}
use Rattle.wtf_dev.specs.Sums.{all_faults}
use Rattle.wtf_dev.proofs.Sums.{sum_grows, all_faults-grows}
use Rattle.wtf_replica.specs.Spans.{span}
use Rattle.wtf_model.specs.declared.answer.Answer.{Answer}
use Rattle.wtf_model.specs.declared.answer.Answer.TheVariants as answer
use Rattle.wtf_model.specs.declared.event.Event.TheVariants as event
use Rattle.wtf_model.specs.Servers.{is_device_fault}
use Rattle.wtf_serve.specs.Beginnings.{Closes}
use Rattle.wtf_serve.specs.Endings.{Devices, AreStill, IsServedStatus, closing_faults}
use Rattle.wtf_serve.specs.Engines.{Engine, Step, LinePunches, IsAnswer}
use Rattle.wtf_serve.specs.Runs.{IsStill}
use Rattle.wtf_serve.specs.Scripts.{IsEndStatus, end_status}
use Rattle.wtf_serve.specs.Stocks.{Stock, RoseBy, IsSaveFault, KeeperGoesOn}
use Rattle.wtf_serve.proofs.RanLaws.{rose_more, still_back}
use Rattle.wtf_serve.proofs.Rising.{faults_grow, rose_or_still, no_save}

both_true : (a b : Bool) → (a && b) ≡ true → (a ≡ true) × (b ≡ true)
both_true true true e = (refl, refl)
both_true true false e = absurd (cc)
both_true false b e = absurd (cc)

-- the faults of the lines, and then that of the closing save
pub closing_rose : {S : Type 0} {kind : StoreKind S} → KindLaws kind → (settings : Settings) (status : ℕ) (down : ℕ → Bool) (before mid new : Stock S) (n : ℕ)
    → {ranges : List (ℕ × Range)} → EachFollows kind mid.shelf new.shelf ranges → KeeperGoesOn mid.keeper new.keeper
    → (status ≡ 5 → IsSaveFault kind (span down mid.shelf new.shelf) settings.servers mid.keeper new.keeper)
    → RoseBy kind before mid n → RoseBy kind before new (n + closing_faults settings status down)
closing_rose {kind = kind} laws settings status down before mid new n e keeper why early =
    rose_more kind before mid new e.same_length (faults_grow laws e) keeper.faults (omega (arith, all_faults-grows laws e, keeper.faults)) n
    ((status == 5) && is_device_fault settings down answer.FaultSave) early
    (λ low both.
    let (failed, fault) = both_true (status == 5) (is_device_fault settings down answer.FaultSave) both in
    elim (rose_or_still laws mid new e keeper.faults low) [
      | inl more ↦ more
      | inr (none, steady) ↦
          let not_one : is_device_fault settings down answer.FaultSave ≡ false
          = no_save kind (span down mid.shelf new.shelf) none settings mid.keeper new.keeper steady (why (eqb-true status 5 failed)) in
          absurd (cc)
    ])

-- no fault is counted where no count of faults rose
pub still_count : {S : Type 0} {kind : StoreKind S} → KindLaws kind → (start end : Devices S) (mid : Stock S) (n : ℕ) → RoseBy kind start.stock mid n
    → {early late : List (ℕ × Range)} → EachFollows kind start.stock.shelf mid.shelf early → EachFollows kind mid.shelf end.stock.shelf late
    → KeeperGoesOn mid.keeper end.stock.keeper
    → AreStill kind start end → n ≡ 0
still_count {kind = kind} laws start end mid n rose front back keeper still =
    let low : (k : ℕ) (d : _) → k < length mid.shelf → (kind.view (get_or mid.shelf k d)).faults < 2 ^ 64 - 1
    = λ k d h. omega (arith, faults_grow laws back k d h, (still.stores k d (omega (arith, h, back.same_length))).1) in
    let less : all_faults kind end.stock.shelf ≤ all_faults kind start.stock.shelf
    = sum_grows (λ s. (kind.view s).faults) end.stock.shelf start.stock.shelf (sym (back.same_length ∙ front.same_length))
    (λ k d h. omega (arith, (still.stores k d h).0)) in
    omega (arith, rose (low, omega (arith, keeper.faults, still.keeper.0, still.keeper.1)), all_faults-grows laws back, less, keeper.faults, still.keeper.0)

-- then no save fails while all servers are up
pub still_save : {S : Type 0} {kind : StoreKind S} → KindLaws kind → (start end : Devices S) (mid : Stock S) (down : ℕ → Bool) (servers : ℕ)
    → {early late : List (ℕ × Range)} → EachFollows kind start.stock.shelf mid.shelf early → EachFollows kind mid.shelf end.stock.shelf late
    → KeeperGoesOn start.stock.keeper mid.keeper → AreStill kind start end → ((k : ℕ) → down k ≡ false)
    → IsSaveFault kind (span down mid.shelf end.stock.shelf) servers mid.keeper end.stock.keeper → ⊥
still_save laws start end mid down servers front back keeper still up (inl (k, below, inl is)) = absurd (let never : true ≡ false = sym is ∙ up k in cc)
still_save {kind = kind} laws start end mid down servers front back keeper still up (inl (k, below, inr risen)) =
    still_back kind start.stock.shelf mid.shelf end.stock.shelf front.same_length back.same_length (faults_grow laws front) still.stores k risen
still_save laws start end mid down servers front back keeper still up (inr rose) =
    omega (arith, rose still.keeper.1, still.keeper.0, keeper.faults)

-- the counts that did not rise, and the statuses that are left then
pub still_status : (status a a' b b' : ℕ) → IsServedStatus status → status ≢ 2
    → (status ≡ 3 → Rose a a') → (status ≡ 4 → Rose b b') → (status ≡ 5 → ⊥) → IsStill a a' → IsStill b b' → IsEndStatus status ⊎ (status ≡ 7) ⊎ (status ≡ 9)
still_status status a a' b b' (inl (inl e)) not_2 three four five still_a still_b = inl e
still_status status a a' b b' (inl (inr e)) not_2 three four five still_a still_b = absurd (five e)
still_status status a a' b b' (inr (inl e)) not_2 three four five still_a still_b = absurd (not_2 e)
still_status status a a' b b' (inr (inr (inl e))) not_2 three four five still_a still_b = absurd (omega (arith, three e still_a.1, still_a.0))
still_status status a a' b b' (inr (inr (inr (inl e)))) not_2 three four five still_a still_b = absurd (omega (arith, four e still_b.1, still_b.0))
still_status status a a' b b' (inr (inr (inr (inr (inl e))))) not_2 three four five still_a still_b = inr (inl e)
still_status status a a' b b' (inr (inr (inr (inr (inr e))))) not_2 three four five still_a still_b = inr (inr e)

-- ---- what comes of the closing save, by its answer

-- it punches nothing
pub save_follows : {S State : Type 0} (engine : Engine S State) (t : Step S State) (a : Answer) → LinePunches engine t (Ok event.Save) a
    → EachFollows engine.kind t.before.shelf t.after.shelf []
save_follows engine t a h = subst (λ (ranges : List (ℕ × Range)). EachFollows engine.kind t.before.shelf t.after.shelf ranges) h.are.0 h.follows

pub closes_saved : {S State : Type 0} (engine : Engine S State) (t : Step S State) (bad : Bool) (a : Answer) (n : ℕ) → a ≡ answer.Saved n
    → IsAnswer engine t (Ok event.Save) a
    → Closes engine t bad (end_status bad)
closes_saved engine t bad a n saved is = inl (n, refl, subst (λ (x : Answer). IsAnswer engine t (Ok event.Save) x) saved is)

pub closes_failed : {S State : Type 0} (engine : Engine S State) (t : Step S State) (bad : Bool) (a : Answer) → ((n : ℕ) → a ≢ answer.Saved n)
    → IsAnswer engine t (Ok event.Save) a
    → Closes engine t bad 5
closes_failed engine t bad (answer.Saved n) other is = absurd (other n refl)
closes_failed engine t bad answer.FaultSave other is = inr (inl (refl, is))
closes_failed engine t bad a other is = absurd is.kept
