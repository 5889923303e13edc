-- What a plan leaves of the stores, from what is known of its parts.
use Rattle.std.proofs.Common.{◌≡◌, ◌⊎◌, ℕ, ◌+◌, ◌*◌, ◌/◌, ◌≤◌, List, [], Option, length, true, inl, inr, refl, sym, ap, ◌∙◌, subst, arith}
use Rattle.std.proofs.lemmas.Bool.{cases_lt}
use Rattle.std.proofs.lemmas.List.{get_or_past}
use Rattle.wtf_base.specs.declared.ids.InodeId.{InodeId}
use Rattle.wtf_base.specs.declared.settings.Settings.{Settings}
use Rattle.wtf_dev.specs.Store.{StoreKind, KindLaws}
use Rattle.wtf_ring.specs.Orders.{IsOrder}
use Rattle.wtf_ring.specs.Points.{PlaceView, place_of}
use Rattle.wtf_overlay.specs.Compact.{IsCompact}
use Rattle.wtf_overlay.specs.Spilled.{encoded}
use Rattle.wtf_overlay.specs.declared.part.Entry.{Entry}
use Rattle.wtf_replica.specs.Copies.{GrowsOnce}
use Rattle.wtf_replica.specs.Downs.{is_down}
use Rattle.wtf_replica.specs.Outs.{IsLeftDown, OtherFilesStay, SameLengths, SameSyncs}
use Rattle.wtf_replica.proofs.Spans.{each_kept, risen_since}
use Rattle.wtf_meta.specs.Files.{end_of}
use Rattle.wtf_values.specs.declared.key.Key.TheVariants.{Path}
use Rattle.wtf_values.specs.declared.region.RegionValue.{RegionValue}
use Rattle.wtf_model.specs.declared.op.JobKind.{JobKind}
use Rattle.wtf_meta.specs.Maps.{Map}
use Rattle.wtf_meta.specs.Trees.{LeadsTo}
use Rattle.wtf_meta.proofs.Standing.{one_leads}
use Rattle.wtf_region.specs.declared.dev.Dev.{Dev}
use Rattle.wtf_region.specs.Devs.{GoesOn, stores, between, place_in}
use Rattle.wtf_region.specs.Showing.{OnlyRead}
use Rattle.wtf_compact.specs.declared.target.Target.{Target}
use Rattle.wtf_compact.specs.Jobs.{job_target, region_in_map}
use Rattle.wtf_compact.specs.Planned.{SparesStores, spills}

-- other files stay behind reads too
others_since : {S : Type 0} (kind : StoreKind S) (old mid new : List S) (file : ℕ) → length mid ≡ length old → SameLengths kind old mid
    → OtherFilesStay kind mid new file → OtherFilesStay kind old new file
others_since {S} kind old mid new file same lengths stays k f d ne = stays k f d ne ∙ elim (cases_lt k (length old)) [
  | inl below ↦ lengths k d below f
  | inr past ↦ ap (λ (s : S). (kind.view s).size f) (get_or_past mid k d (omega (arith, past, same)) ∙ sym (get_or_past old k d past))
]

-- a place is the same a while later
place_same : {S : Type 0} {kind : StoreKind S} (old mid : Dev S) → GoesOn kind old mid [] → (t : Target)
    → place_in mid t.inode (t.region * mid.settings.region) ≡ place_in old t.inode (t.region * old.settings.region)
place_same old mid goes t =
    ap (λ (d : Settings). place_of mid.ring.now.points t.inode (t.region * d.region / d.region)) goes.settings
    ∙ ap (λ r. place_of r.now.points t.inode (t.region * old.settings.region / old.settings.region)) goes.ring

-- bytes that are stored behind reads are the only ones by which a store grows in both
grows_since : {S : Type 0} {kind : StoreKind S} → KindLaws kind → {old mid new : Dev S} → GoesOn kind old mid [] → GoesOn kind mid new []
    → OnlyRead kind (between old mid) → (place : PlaceView) (n : ℕ) → IsOrder mid.settings.servers place.servers → GrowsOnce kind (between mid new) place n
    → GrowsOnce kind (between old new) place n
grows_since {kind = kind} laws {old = old} {mid = mid} {new = new} goes next reads place n order grows = record {
  others = others_since kind (stores old) (stores mid) (stores new) place.file goes.each.same_length reads.lengths grows.others;
  beside = λ k d none.
      let far : mid.settings.servers ≤ k = elim (cases_lt k mid.settings.servers) [
        | inl below ↦ absurd (none (order.each k below))
        | inr past ↦ past
      ] in
      next.past k d far ∙ goes.past k d (subst (λ (st : Settings). st.servers ≤ k) goes.settings far);
  once = λ k d there.
      let same = reads.lengths k d there place.file in
      elim (grows.once k d (omega (arith, there, goes.each.same_length))) [
        | inl rise ↦ inl (risen_since kind (stores old) (stores mid) (stores new) goes.each.same_length (each_kept laws goes.each) k rise)
        | inr size ↦ inr (elim size [
          | inl stays ↦ inl (stays ∙ same)
          | inr more ↦ inr (more ∙ ap (λ m. m + n) same)
        ])
      ];
}

-- the stores were only read
pub spares_read : {S : Type 0} (kind : StoreKind S) (old new : Dev S) (t : Target) (now : Option RegionValue) → OnlyRead kind (between old new)
    → SparesStores kind old new t now
spares_read kind old new t now reads = record { down = reads.down; syncs = reads.syncs; grows = inl reads.lengths }

-- or not lent
pub spares_all : {S : Type 0} (kind : StoreKind S) (dev : Dev S) (t : Target) (now : Option RegionValue) → SparesStores kind dev dev t now
spares_all kind dev t now = record { down = λ k d low. refl; syncs = λ k d there. refl; grows = inl (λ k d there f. refl) }

-- or a list was stored behind reads
module _ {S : Type 0} {kind : StoreKind S} (laws : KindLaws kind) {old mid new : Dev S} (goes : GoesOn kind old mid []) (next : GoesOn kind mid new [])
    (reads : OnlyRead kind (between old mid)) (t : Target) where
  abbrev place : PlaceView
  place = place_in mid t.inode (t.region * mid.settings.region)

  pub spares_stored : (now : Option RegionValue) (es : List Entry) → spills t.kind (end_of now) ≡ true → IsCompact es → IsLeftDown (between mid new)
      → GrowsOnce kind (between mid new) place (length (encoded es)) → (stores new ≡ stores mid) ⊎ IsOrder mid.settings.servers place.servers
      → SameSyncs kind (stores mid) (stores new) → SparesStores kind old new t now
  spares_stored now es is compact down grows order syncs = record {
    down = λ k d low. down k d (ap (λ r. is_down r.now k) goes.replicas ∙ low) ∙ reads.down k d low;
    syncs = λ k d there. syncs k d (omega (arith, there, goes.each.same_length)) ∙ reads.syncs k d there;
    grows = elim order [
      | inl same ↦ inl (subst (SameLengths kind (stores old)) (sym same) reads.lengths)
      | inr each ↦ inr (record {
        spilled = is;
        list = es;
        compact = compact;
        grows = subst (λ (p : PlaceView). GrowsOnce kind (between old new) p (length (encoded es))) (place_same old mid goes t)
            (grows_since laws goes next reads place (length (encoded es)) each grows);
      })
    ];
  }

-- a path leads to one file
pub its_spares : {S : Type 0} (kind : StoreKind S) (old new : Dev S) (w : Map) (p : List ℕ) (r : ℕ) (jk : JobKind) (i : InodeId) → LeadsTo w p i
    → SparesStores kind old new (job_target i r jk) (region_in_map w i r) → (j : InodeId) → LeadsTo w p j
    → SparesStores kind old new (job_target j r jk) (region_in_map w j r)
its_spares kind old new w p r jk i leads h j other =
    subst (λ k. SparesStores kind old new (job_target k r jk) (region_in_map w k r)) (one_leads (w (Path p)) i j leads other) h
