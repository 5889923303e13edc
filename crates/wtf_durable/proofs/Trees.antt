-- The tree that is found where a journal gives an image, over the bytes that stores were left with.
use Rattle.std.proofs.Common.{◌≡◌, ◌∙◌, ◌<◌, ◌≤◌, ℕ, List, [], ◌∷◌, Option, None, Some, refl, sym, ap, subst, arith}
use Rattle.std.specs.Prelude.{IsSome}
use Rattle.std.specs.Option.{option_map}
use Rattle.wtf_base.specs.declared.ids.InodeId.{InodeId}
use Rattle.wtf_base.specs.declared.settings.Settings.{Settings}
use Rattle.wtf_dev.specs.Disk.{DiskKind}
use Rattle.wtf_journal.specs.Follows.{SyncedState, synced_kind}
use Rattle.wtf_imagefmt.specs.Images.{HasText}
use Rattle.wtf_imagefmt.specs.Lookups.{plain}
use Rattle.wtf_imagefmt.specs.Rows.{ImageRows}
use Rattle.wtf_imagefmt.specs.Shown.{shown}
use Rattle.wtf_imagefmt.specs.Texts.{image_text}
use Rattle.wtf_image.specs.Pictured.{IsImageOfTree}
use Rattle.wtf_image.proofs.SaveMap.{says_all}
use Rattle.wtf_changes.specs.Law.{IsPictureOf}
use Rattle.wtf_kv.specs.Stores.{Store}
use Rattle.wtf_values.specs.declared.key.Key.{Key}
use Rattle.wtf_values.specs.declared.key.Key.TheVariants.{Inode}
use Rattle.wtf_values.specs.declared.value.Value.{Value}
use Rattle.wtf_model.specs.Machines.{Machine}
use Rattle.wtf_model.specs.Tree.{Tree}
use Rattle.wtf_meta.specs.Bytes.{any_slice}
use Rattle.wtf_meta.specs.Contents.{Told}
use Rattle.wtf_meta.specs.Maps.{Map}
use Rattle.wtf_meta.specs.Trees.{Stands}
use Rattle.wtf_region.specs.Inside.{is_inside}
use Rattle.wtf_clients.specs.Views.{metadata_now}
use Rattle.wtf_clients.proofs.Lives.{now_bytes}
use Rattle.wtf_core.specs.Named.{IsInside}
use Rattle.wtf_core.specs.Standing.{StandsFor}
use Rattle.wtf_core.specs.Views.{CoreView}
use Rattle.wtf_serve.specs.Openings.{StartsFrom}
use Rattle.wtf_serve.proofs.Keeping.{text_some}
use Rattle.wtf_durable.specs.Stops.{FindsTree, Leftover, LeavesStore, left_at}
use Rattle.wtf_durable.proofs.Left.{image_left}
use Rattle.wtf_durable.proofs.Pictures.{GivesPicture}

no_inode : (o : Option Value) → (IsSome (option_map plain o) → ⊥) → o ≡ None
no_inode None off = refl
no_inode (Some v) off = absurd (off refl)

-- a map whose inodes are all of earlier transactions stands for its tree for each one to come
stands_later_on : (b : ℕ) (told : Told) (tx later : ℕ) (w : Map) (t : Tree)
    → ((i : InodeId) → IsSome (option_map plain (w (Inode i))) → i.tx.0 < later) → Stands b told tx 0 w t → Stands b told later 0 w t
stands_later_on b told tx later w t before st = record {
  tree_is = st.tree_is;
  nodes = st.nodes;
  names = st.names;
  led = st.led;
  regions = st.regions;
  counted = st.counted;
  bytes = st.bytes;
  fresh = λ i of past. no_inode (w (Inode i)) (λ some. let lt = before i some in omega (arith, lt, of));
  few = st.few;
}

-- an image has bytes
starts_with : (told : Told) (rows : ImageRows) (bytes : List ℕ) (t : Tree) → HasText rows bytes → IsImageOfTree told bytes t → StartsFrom told bytes t
starts_with told rows [] t text is = absurd (text_some rows [] text refl)
starts_with told rows (b ∷ bytes) t text is = is

-- an image of a map that stands for a tree stands for it
module _ (kv : Store Key Value) (s : Settings) (told : Told) (tx : ℕ) (t : Tree) (stands : Stands s.region told tx 0 (metadata_now kv) t) where
  pub picture_starts : (next : ℕ) (rows : ImageRows) → IsPictureOf (shown kv) s kv.number next rows → StartsFrom told (image_text rows) t
  picture_starts next rows is =
      let text : HasText rows (image_text rows) = record { shape = is.shape; text = refl } in
      let region : rows.header.region ≡ s.region = ap (λ h. h.region) is.header in
      let next_is : rows.header.next_tx ≡ next = ap (λ h. h.next_tx) is.header in
      starts_with told rows (image_text rows) t text (record {
        rows = rows;
        map = metadata_now kv;
        text = text;
        says = λ q. sym (says_all s.region next (shown kv) is.savable rows is.shape is.says q);
        stands = λ later le.
            subst (λ b. Stands b told later 0 (metadata_now kv) t) (sym region)
            (stands_later_on s.region told tx later (metadata_now kv) t (λ i some. let lt = is.savable.before i some in omega (arith, lt, le, next_is)) stands);
      })

-- A store to go on with is left where the journal gives an image of a core that stands for a machine, over stores that were left what it names.
module _ {S : Type 0} (stores : DiskKind S) (shelf : List (SyncedState S)) (told : Told) (core : CoreView) (m : Machine) (left : Leftover) (next : ℕ) where
  pub store_left : IsInside (synced_kind stores) shelf core → StandsFor told core m
      → Stands core.settings.region (left_at left.stores) core.tables.next_tx 0 (metadata_now core.tables.kv) m.now → core.tables.next_tx ≤ next
      → GivesPicture core.tables.kv core.settings core.tables.next_tx (left.journal 0) → LeavesStore left m next
  store_left inside is stands more gives =
      let x : ImageRows = gives.rows in
      let text : HasText x (image_text x) = record { shape = gives.picture.shape; text = refl } in
      let servers : x.header.servers ≡ core.settings.servers = ap (λ h. h.servers) gives.picture.header in
      let replicas : x.header.replicas ≡ core.settings.replicas = ap (λ h. h.replicas) gives.picture.header in
      let region : x.header.region ≡ core.settings.region = ap (λ h. h.region) gives.picture.header in
      let next_is : x.header.next_tx ≡ gives.next = ap (λ h. h.next_tx) gives.picture.header in
      record {
        tree = record {
          held = Some x;
          gives = gives.gives;
          image = image_text x;
          text = text;
          tree = picture_starts core.tables.kv core.settings (left_at left.stores) core.tables.next_tx m.now stands gives.next x gives.picture;
        };
        rows = x;
        taken = record {
          text = text;
          good = gives.good;
          tree = gives.tree;
          inside = image_left stores shelf core.settings left.stores (metadata_now core.tables.kv) _
              (now_bytes (is_inside (synced_kind stores) shelf core.settings) any_slice core.tables inside.tables) stands.bytes x gives.picture.shape
              gives.picture.says servers;
        };
        settings = record {
          servers = ap (λ s. s.servers) is.settings ∙ sym servers;
          replicas = ap (λ s. s.replicas) is.settings ∙ sym replicas;
          region = ap (λ s. s.region) is.settings ∙ sym region;
        };
        number = ap (λ h. h.installs) gives.picture.header ∙ sym is.tables.number;
        next_tx = let begun = gives.begun in omega (arith, next_is, begun, more);
      }

-- up to a later transaction
pub store_later : (left : Leftover) (m : Machine) (next later : ℕ) → next ≤ later → LeavesStore left m next → LeavesStore left m later
store_later left m next later more is = record {
  tree = is.tree;
  rows = is.rows;
  taken = is.taken;
  settings = is.settings;
  number = is.number;
  next_tx = let begun = is.next_tx in omega (arith, begun, more);
}

-- a tree is found where a journal gives an image of a map that stands for it
pub tree_found : (kv : Store Key Value) (s : Settings) (c : List ℕ) (told : Told) (tx : ℕ) (t : Tree) → GivesPicture kv s tx c
    → Stands s.region told tx 0 (metadata_now kv) t → FindsTree told c t
tree_found kv s c told tx t is stands = record {
  held = Some is.rows;
  gives = is.gives;
  image = image_text is.rows;
  text = record { shape = is.picture.shape; text = refl };
  tree = picture_starts kv s told tx t stands is.next is.rows is.picture;
}
