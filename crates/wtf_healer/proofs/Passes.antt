-- What was done while stores were lent is what was done to the stores.
use Rattle.std.specs.Prelude.{◌≡◌, ℕ, List, []}
use Rattle.std.proofs.Common.{refl, ◌∙◌, ap, subst}
use Rattle.wtf_base.specs.declared.settings.Settings.{Settings}
use Rattle.wtf_dev.specs.Each.{EachFollows}
use Rattle.wtf_dev.specs.Store.{StoreKind, KindLaws}
use Rattle.wtf_replica.specs.declared.replicas.Replicas.{Replicas}
use Rattle.wtf_replica.proofs.Spans.{each_kept, risen_since}
use Rattle.wtf_replica.specs.Outs.{HasRisen}
use Rattle.wtf_region.specs.declared.dev.Dev.{Dev}
use Rattle.wtf_region.specs.Devs.{stores, GoesOn, between}
use Rattle.wtf_healer.specs.Restored.{OnlyStored}
use Rattle.wtf_healer.specs.Steps.{Passed}

pub passed : {S : Type 0} {Did : Dev S → Dev S → Type 0} (kind : StoreKind S) (replicas : Replicas) (settings : Settings) {before after : Dev S} {new : List S}
    → stores after ≡ new → before.replicas.now ≡ replicas → before.settings ≡ settings → OnlyStored kind (between before after) → GoesOn kind before after []
    → Did before after → Passed kind replicas settings (stores before) new Did
passed kind replicas settings {before} {after} is same like stored goes did = record {
  before = before;
  before_is = record { stores_are = refl; replicas_are = same; settings_are = like };
  after = after;
  after_is = record { stores_are = is; replicas_are = ap (λ r. r.now) goes.replicas ∙ same; settings_are = goes.settings ∙ like };
  stored = stored;
  goes = goes;
  did = did;
}

-- each store follows what it was
pub passed_follows : {S : Type 0} {Did : Dev S → Dev S → Type 0} (kind : StoreKind S) (replicas : Replicas) (settings : Settings) (old new : List S)
    → Passed kind replicas settings old new Did → EachFollows kind old new []
passed_follows kind replicas settings old new p =
    subst (λ (a : List _). EachFollows kind old a []) p.after_is.stores_are
    (subst (λ (b : List _). EachFollows kind b (stores p.after) []) p.before_is.stores_are p.goes.each)

-- a store that failed behind that failed in the whole
pub rose_behind : {S : Type 0} {kind : StoreKind S} → KindLaws kind → {Did : Dev S → Dev S → Type 0} (replicas : Replicas) (settings : Settings)
    (old mid new : List S) → Passed kind replicas settings old mid Did → (k : ℕ) → HasRisen kind mid new k → HasRisen kind old new k
rose_behind {kind = kind} laws replicas settings old mid new p =
    let each : EachFollows kind old mid [] = passed_follows kind replicas settings old mid p in
    risen_since kind old mid new each.same_length (each_kept laws each)
