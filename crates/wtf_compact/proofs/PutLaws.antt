-- What a put makes of the map.
use Rattle.std.proofs.Common.{◌≡◌, ℕ, Bool, true, List, [], Option, None, Some, refl, sym, ap, ◌∙◌, subst}
use Rattle.wtf_base.specs.declared.slice.Slice.{Slice}
use Rattle.wtf_kv.specs.Seen.{last_seen, value_seen}
use Rattle.wtf_kv.specs.Stores.{Store, versions_of}
use Rattle.wtf_overlay.specs.Origin.{Place}
use Rattle.wtf_model.specs.Tree.{Tree}
use Rattle.wtf_model.specs.declared.answer.Answer.{Answer}
use Rattle.wtf_model.specs.declared.answer.Answer.TheVariants as answer
use Rattle.wtf_values.specs.declared.key.Key.{Key}
use Rattle.wtf_values.specs.declared.key.Key.TheVariants.{Region}
use Rattle.wtf_values.specs.declared.value.Value.{Value}
use Rattle.wtf_values.specs.declared.region.RegionValue.{RegionValue}
use Rattle.wtf_values.specs.Keys.{key_cmp}
use Rattle.wtf_meta.specs.Maps.{Map, metadata_at, with}
use Rattle.wtf_meta.specs.Bytes.{MapBytes, MaybeBytes, EditsBytes}
use Rattle.wtf_meta.specs.Contents.{Told}
use Rattle.wtf_meta.specs.FileEdits.{edits_of, region_of}
use Rattle.wtf_meta.specs.Trees.{Stands}
use Rattle.wtf_meta.proofs.MapBytes.{with_bytes}
use Rattle.wtf_meta.proofs.Putting.{stands-put}
use Rattle.wtf_compact.specs.Jobs.{JobView, puts, job_edits, target_region}
use Rattle.wtf_compact.specs.Planned.{KeepsRegion}
use Rattle.wtf_compact.specs.Putting.{IsJobPut}

-- stores with the same versions have the same maps
maps_same : (old new : Store Key Value) → ((q : Key) → versions_of key_cmp new q ≡ versions_of key_cmp old q) → (n : ℕ) → metadata_at new n ≡ metadata_at old n
maps_same old new same n = λ k q. value_seen (last_seen n (same q k))

-- a put, where the store was only unpinned then
pub put_along : (a : Answer) (job : JobView) (old mid new : Store Key Value) → new.number ≡ mid.number → ((n : ℕ) → metadata_at new n ≡ metadata_at mid n)
    → ((q : Key) → versions_of key_cmp new q ≡ versions_of key_cmp mid q) → IsJobPut job old mid a → IsJobPut job old new a
put_along (answer.Installed n) job old mid new number map versions h = record {
  path = h.path;
  region = h.region;
  agree = h.agree;
  next = h.next;
  number = number ∙ h.number;
  map = map n ∙ h.map;
  versions = λ q. versions q ∙ h.versions q;
}
put_along (answer.Stale b n) job old mid new number map versions h = record {
  moved = h.moved;
  base = h.base;
  now = h.now;
  later = h.later;
  number = number ∙ h.number;
  versions = λ q. versions q ∙ h.versions q;
}
put_along a job old mid new number map versions h = absurd h

-- the map of the next number
abbrev last_map : Store Key Value → Map
last_map kv = metadata_at kv kv.number

installed_map : (job : JobView) (old new : Store Key Value) (n : ℕ) → IsJobPut job old new (answer.Installed n)
    → last_map new ≡ with (job_edits job) (last_map old)
installed_map job old new n h = ap (metadata_at new) h.number ∙ h.map

stale_map : (job : JobView) (old new : Store Key Value) (b n : ℕ) → IsJobPut job old new (answer.Stale b n) → last_map new ≡ last_map old
stale_map job old new b n h = ap (metadata_at new) h.number ∙ maps_same old new h.versions old.number

module _ (b : ℕ) (told : Told) (tx k : ℕ) (t : Tree) where
  stands_edits : (w base : Map) (job : JobView) (was value : Option RegionValue) → target_region base job.target ≡ was → job.value ≡ value
      → w (Region job.target.inode job.target.region) ≡ base (Region job.target.inode job.target.region)
      → KeepsRegion b told was value → Stands b told tx k w t → Stands b told tx k (with (edits_of job.target.inode (puts job.target.region value)) w) t
  stands_edits w base job None None is put same keeps stands = stands
  stands_edits w base job None (Some x) is put same keeps stands = absurd keeps
  stands_edits w base job (Some v) None is put same keeps stands = absurd keeps
  stands_edits w base job (Some v) (Some x) is put same keeps stands =
      stands-put b told tx k w t job.target.inode job.target.region v x stands (ap region_of same ∙ is) keeps.same keeps.named

  -- the map stands for the same tree
  pub put_stands : (a : Answer) (job : JobView) (old new : Store Key Value) → IsJobPut job old new a
      → KeepsRegion b told (target_region (metadata_at old job.base) job.target) job.value → Stands b told tx k (last_map old) t
      → Stands b told tx k (last_map new) t
  put_stands (answer.Installed n) job old new h keeps stands =
      subst (λ (w : Map). Stands b told tx k w t) (sym (installed_map job old new n h))
      (stands_edits (last_map old) (metadata_at old job.base) job (target_region (metadata_at old job.base) job.target) job.value refl refl h.agree.1.0 keeps
      stands)
  put_stands (answer.Stale c n) job old new h keeps stands = subst (λ (w : Map). Stands b told tx k w t) (sym (stale_map job old new c n h)) stands
  put_stands a job old new h keeps stands = absurd h

module _ (P : List Place → Bool) (Q : Slice → Bool) (hole : P [] ≡ true) where
  edits_bytes : (job : JobView) (value : Option RegionValue) → MaybeBytes P Q value → EditsBytes P Q (edits_of job.target.inode (puts job.target.region value))
  edits_bytes job None h = tt
  edits_bytes job (Some x) h = (h, tt)

  -- and names only bytes that it named, and those of the job
  pub put_bytes : (a : Answer) (job : JobView) (old new : Store Key Value) → IsJobPut job old new a → MapBytes P Q (last_map old)
      → MaybeBytes P Q job.value → MapBytes P Q (last_map new)
  put_bytes (answer.Installed n) job old new h named own =
      subst (MapBytes P Q) (sym (installed_map job old new n h)) (with_bytes P Q hole (job_edits job) (last_map old) named (edits_bytes job job.value own))
  put_bytes (answer.Stale c n) job old new h named own = subst (MapBytes P Q) (sym (stale_map job old new c n h)) named
  put_bytes a job old new h named own = absurd h
