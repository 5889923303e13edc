-- A pass that ended well healed the image: what was kept stands for the tree that was left of it.
use Rattle.std.proofs.Common.{◌≡◌, ℕ, ◌+◌, ◌*◌, ◌<◌, ◌≤◌, ◌^◌, ◌++◌, Bool, true, false, nat_lt, List, [], length, map, Some, sym, ap, ◌∙◌, subst, arith}
use Rattle.std.specs.Prelude.{IsSome, if◌then◌else◌}
use Rattle.std.specs.Option.{option_map}
use Rattle.wtf_base.specs.declared.ids.InodeId.{InodeId}
use Rattle.wtf_base.specs.declared.settings.Settings.{Settings}
use Rattle.wtf_dev.specs.Each.{EachFollows}
use Rattle.wtf_dev.specs.Store.{StoreKind, KindLaws}
use Rattle.wtf_dev.specs.Sums.{all_stored}
use Rattle.wtf_model.specs.Tree.{Tree}
use Rattle.wtf_replica.specs.Bytes.{byte_at}
use Rattle.wtf_replica.specs.Downs.{is_down}
use Rattle.wtf_replica.specs.Inside.{size_in}
use Rattle.wtf_replica.specs.Outs.{HasRisen, SameLengths}
use Rattle.wtf_replica.specs.declared.replicas.Replicas.{Replicas}
use Rattle.wtf_kv.specs.Stores.{Store}
use Rattle.wtf_values.specs.declared.key.Key.{Key}
use Rattle.wtf_values.specs.declared.key.Key.TheVariants.{Inode, Region}
use Rattle.wtf_values.specs.declared.value.Value.{Value}
use Rattle.wtf_meta.specs.Bytes.{ValueBytes, any_slice}
use Rattle.wtf_meta.specs.Contents.{Told}
use Rattle.wtf_meta.specs.Maps.{Map, metadata_at, with}
use Rattle.wtf_meta.specs.Trees.{Stands}
use Rattle.wtf_meta.proofs.Telling.{TellsOn}
use Rattle.wtf_image.specs.declared.loads.Loaded.{Loaded}
use Rattle.wtf_image.specs.Images.{HasText}
use Rattle.wtf_image.specs.Kept.{IsKept}
use Rattle.wtf_image.specs.Lookups.{plain, row_at}
use Rattle.wtf_image.specs.Outcome.{IsLoadWithout}
use Rattle.wtf_image.specs.Pictured.{IsImageOfTree}
use Rattle.wtf_image.specs.Rows.{ImageRows}
use Rattle.wtf_image.specs.Rules.{are_inside}
use Rattle.wtf_image.specs.Savable.{IsSavable, AreBefore}
use Rattle.wtf_image.specs.Tables.{shown}
use Rattle.wtf_image.proofs.Said.{loaded_before}
use Rattle.wtf_image.proofs.StandsLaws.{stands_savable}
use Rattle.wtf_region.specs.declared.dev.Dev.{Dev}
use Rattle.wtf_region.specs.Devs.{stores, is_down_in, told_in}
use Rattle.wtf_healer.specs.Ends.{RunSpan, SinkSpan, WasWhole, WasHealed}
use Rattle.wtf_healer.specs.Heals.{Heals}
use Rattle.wtf_healer.specs.Live.{IsLiveMap, IsLiveTree}
use Rattle.wtf_healer.specs.Regions.{AreHealed, CanHeal, change_of}
use Rattle.wtf_healer.specs.Restored.{TellUp}
use Rattle.wtf_healer.specs.Runs.{SameSettings, IsHealedImage, IsWholeImage, IsWholeRegion, AreToHeal, HasNextNumber, AreTelling}
use Rattle.wtf_healer.specs.Steps.{CanHealOver}
use Rattle.wtf_healer.specs.Words.{is_server_in}
use Rattle.wtf_healer.specs.declared.regions.Healed.{Healed}
use Rattle.wtf_healer.proofs.Mended.{later_on, mended, region_inside, to_heal, healed_grew}
use Rattle.wtf_healer.proofs.Mending.{AreMended, inode_aside, mended_live, mended_stands, mended_live_stands, mended_whole}
use Rattle.wtf_image.proofs.Pointing.{are_in, rows_inside}
use Rattle.wtf_healer.proofs.Inside.{can_heal}
use Rattle.wtf_healer.proofs.Loads.{same_rows, IsLiveLoad, live_load}

module _ {S : Type 0} {kind : StoreKind S} (laws : KindLaws kind) (replicas : Replicas) (l : Loaded) (run : RunSpan S) (lines : List ℕ)
    (p : WasWhole kind replicas l run lines) where
  abbrev made : Healed
  made = p.made.healed

  abbrev image : List ℕ
  image = p.image

  abbrev kv : Store Key Value
  kv = p.made.kv

  abbrev new : List S
  new = run.new

  abbrev before : Dev S
  before = p.made.passed.before

  abbrev after : Dev S
  after = p.made.passed.after

  abbrev w : Map
  w = metadata_at l.kv l.kv.number

  abbrev v : Map
  v = metadata_at kv kv.number

  abbrev b : ℕ
  b = before.settings.region

  abbrev n : ℕ
  n = before.settings.replicas

  abbrev lost : ℕ → Bool
  lost = is_down_in before

  abbrev told : Told
  told = told_in kind before

  abbrev later : Told
  later = byte_at kind new

  abbrev healed : AreHealed kind before after w made
  healed = p.made.passed.did

  follows : EachFollows kind (stores after) new []
  follows = subst (λ shelf. EachFollows kind shelf run.new []) (sym p.made.passed.after_is.stores_are) p.follows

  lengths : SameLengths kind (stores after) new
  lengths = subst (λ shelf. SameLengths kind shelf run.new) (sym p.made.passed.after_is.stores_are) p.lengths

  region_is : before.settings.region ≡ l.settings.region
  region_is = ap (λ (s : Settings). s.region) p.made.passed.before_is.settings_are

  copies_is : before.settings.replicas ≡ l.settings.replicas
  copies_is = ap (λ (s : Settings). s.replicas) p.made.passed.before_is.settings_are

  servers_is : before.settings.servers ≡ l.settings.servers
  servers_is = ap (λ (s : Settings). s.servers) p.made.passed.before_is.settings_are

  -- the map that was kept has what was put
  map_is : v ≡ with (map change_of healed.puts) w
  map_is = p.made.put.map ∙ ap (λ cs. with cs w) healed.changes

  module _ (tells : TellUp kind lost (stores before)) (can : CanHeal kind before w) (out : ℕ → Bool) (size : ℕ → ℕ → ℕ) (bytes : List ℕ)
      (load : IsLoadWithout out size bytes l) (room : HasNextNumber bytes) (t : Tree) (tree : IsLiveTree told lost bytes t) where
    live : IsLiveLoad told lost l t
    live = live_load told lost out size bytes l t load tree

    left : IsLiveMap b told lost w live.live
    left = subst (λ r. IsLiveMap r told lost w live.live) (sym region_is) live.is_live

    left_stands : (tx : ℕ) → l.next_tx ≤ tx → Stands b told tx 0 live.live t
    left_stands tx le = subst (λ r. Stands r told tx 0 live.live t) (sym region_is) (live.stands tx le)

    abbrev are_mended : AreMended b n told later lost w healed.puts
    are_mended = mended laws before after new p.made.passed.goes follows w made healed tells

    abbrev on : TellsOn told later
    on = later_on laws before after new p.made.passed.goes follows w made healed

    stands : (tx : ℕ) → l.next_tx ≤ tx → Stands b later tx 0 v t
    stands tx le = subst (λ m. Stands b later tx 0 m t) (sym map_is)
        (mended_stands b n told later lost on w live.live healed.puts are_mended left tx 0 t (left_stands tx le))

    -- ---- the image

    next_is : l.next_tx ≡ load.rows.header.next_tx
    next_is = load.next_tx

    number_is : kv.number ≡ load.rows.header.installs + (if nat_lt 0 (length made.changes) then 1 else 0)
    number_is = p.made.put.number ∙ ap (λ k. k + (if nat_lt 0 (length made.changes) then 1 else 0)) load.store.number

    one_more : (x : Bool) → (if x then 1 else 0) ≤ 1
    one_more true = omega arith
    one_more false = omega arith

    number_fits : kv.number ≤ 2 ^ 62
    number_fits =
        let few = room load.rows load.taken.text in
        let most = one_more (nat_lt 0 (length made.changes)) in
        let is = number_is in
        omega (arith, few, most, is)

    all_before : AreBefore l.next_tx v
    all_before i some =
        let same : v (Inode i) ≡ w (Inode i) = ap (λ (m : Map). m (Inode i)) map_is
        ∙ inode_aside b n told later lost on w live.live healed.puts are_mended left i (w (Inode i)) in
        loaded_before out size bytes l load i (subst IsSome same some)

    savable : IsSavable l.settings.region l.next_tx (shown kv)
    savable =
        let begun : 0 < l.next_tx = let some = load.taken.good.some in let e = next_is in omega (arith, some, e) in
        subst (λ r. IsSavable r l.next_tx (shown kv)) region_is
        (stands_savable b later l.next_tx 0 v t (stands l.next_tx (omega arith)) l.next_tx begun all_before)

    kept : IsKept kv l.settings l.next_tx image
    kept = p.made.kept number_fits (let fits = load.taken.good.next_tx in let e = next_is in omega (arith, fits, e)) savable

    kept_region : kept.rows.header.region ≡ b
    kept_region = ap (λ h. h.region) kept.header ∙ sym region_is

    kept_copies : kept.rows.header.replicas ≡ n
    kept_copies = ap (λ h. h.replicas) kept.header ∙ sym copies_is

    kept_servers : kept.rows.header.servers ≡ before.settings.servers
    kept_servers = ap (λ h. h.servers) kept.header ∙ sym servers_is

    kept_next : kept.rows.header.next_tx ≡ l.next_tx
    kept_next = ap (λ h. h.next_tx) kept.header

    said : (q : Key) → option_map plain (v q) ≡ row_at kept.rows q
    said q = sym (kept.map q)

    same_settings : SameSettings bytes image
    same_settings = record {
      was = load.rows;
      was_text = load.taken.text;
      is = kept.rows;
      is_text = kept.text;
      servers = kept_servers ∙ servers_is ∙ load.settings.servers;
      replicas = kept_copies ∙ copies_is ∙ load.settings.replicas;
      region = kept_region ∙ region_is ∙ load.settings.region;
      next_tx = kept_next ∙ load.next_tx;
    }

    pointers : are_inside (size_in kind new) kept.rows ≡ true
    pointers =
        let same : p.made.saved.rows ≡ kept.rows = same_rows p.made.saved.rows kept.rows image p.made.saved.text kept.text in
        let servers : p.made.saved.rows.header.servers ≡ before.settings.servers =
        ap (λ h. h.servers) p.made.saved.header ∙ sym servers_is in
        let all : (i : InodeId) (r : ℕ) → ValueBytes (are_in before.settings.servers (size_in kind new)) any_slice (v (Region i r)) = λ i r.
        subst (λ (m : Map). ValueBytes (are_in before.settings.servers (size_in kind new)) any_slice (m (Region i r))) (sym map_is)
        (region_inside laws before after new p.made.passed.goes follows w made healed can i r) in
        subst (λ (x : ImageRows). are_inside (size_in kind new) x ≡ true) same
        (rows_inside before.settings.servers (size_in kind new) v all p.made.saved.rows p.made.saved.text.shape p.made.saved.says servers)

    image_tree : IsImageOfTree later image t
    image_tree = record {
      rows = kept.rows;
      map = v;
      text = kept.text;
      says = said;
      stands = λ tx le. subst (λ r. Stands r later tx 0 v t) (sym kept_region) (stands tx (subst (λ k. k ≤ tx) kept_next le));
    }

    image_live : IsLiveTree later lost image t
    image_live = record {
      rows = kept.rows;
      map = v;
      live = with (map change_of healed.puts) live.live;
      text = kept.text;
      says = said;
      is_live = subst (λ r. IsLiveMap r later lost v (with (map change_of healed.puts) live.live)) (sym kept_region)
          (subst (λ (m : Map). IsLiveMap b later lost m (with (map change_of healed.puts) live.live)) (sym map_is)
          (mended_live b n told later lost on w live.live healed.puts are_mended left));
      stands = λ tx le. subst (λ r. Stands r later tx 0 (with (map change_of healed.puts) live.live) t) (sym kept_region)
          (mended_live_stands b n told later lost on w live.live healed.puts are_mended left tx 0 t (left_stands tx (subst (λ k. k ≤ tx) kept_next le)));
    }

    image_whole : IsWholeImage later lost image
    image_whole = record {
      rows = kept.rows;
      map = v;
      text = kept.text;
      says = said;
      whole = λ i r x is.
          subst (λ c. IsWholeRegion kept.rows.header.region c later lost x) (sym kept_copies)
          (subst (λ c. IsWholeRegion c n later lost x) (sym kept_region)
          (mended_whole b n told later lost on w live.live healed.puts are_mended left i r x (sym (ap (λ (m : Map). m (Region i r)) map_is) ∙ is)));
    }

    pub healed_image : IsHealedImage later (size_in kind new) lost t bytes image
    healed_image = record {
      settings = same_settings;
      rows = kept.rows;
      taken = record { text = kept.text; good = kept.good; tree = kept.tree; inside = pointers };
      tree = image_tree;
      live = image_live;
      whole = image_whole;
    }

    pub healed_counted : AreToHeal told lost bytes (length made.changes) made.bytes
    healed_counted = to_heal laws before after new p.made.passed.goes follows w made healed live.live left tells bytes load.rows load.taken.text load.store.map
        (sym load.settings.region ∙ sym region_is) (sym load.settings.replicas ∙ sym copies_is)

    pub healed_installs : (x y : ImageRows) → HasText x bytes → HasText y image
        → y.header.installs ≡ x.header.installs + (if nat_lt 0 (length made.changes) then 1 else 0)
    healed_installs x y was is =
        ap (λ (r : ImageRows). r.header.installs) (same_rows y kept.rows image is kept.text) ∙ ap (λ h. h.installs) kept.header ∙ number_is
        ∙ ap (λ (r : ImageRows). r.header.installs + (if nat_lt 0 (length made.changes) then 1 else 0)) (same_rows load.rows x bytes load.taken.text was)

    pub healed_growth : ((k : ℕ) → HasRisen kind run.old new k → ⊥) → (x : ImageRows) → HasText x bytes
        → all_stored kind new ≡ all_stored kind run.old + x.header.replicas * made.bytes
    healed_growth none x text =
        let rows = same_rows load.rows x bytes load.taken.text text in
        let copies : n ≡ x.header.replicas = copies_is ∙ load.settings.replicas ∙ ap (λ (r : ImageRows). r.header.replicas) rows in
        let shelf = p.made.passed.before_is.stores_are in
        healed_grew laws before after new p.made.passed.goes follows w made healed lengths
        (subst (λ sh. (k : ℕ) → HasRisen kind sh new k → ⊥) (sym shelf) none)
        ∙ ap (λ sh. all_stored kind sh + n * made.bytes) shelf ∙ ap (λ c. all_stored kind run.old + c * made.bytes) copies

-- what a run promises that ended with status 0
pub heals : {S O : Type 0} {kind : StoreKind S} → KindLaws kind → (ks bytes : List ℕ) (run : RunSpan S) (out : SinkSpan O) (lines : List ℕ)
    → WasHealed kind ks bytes run lines → AreTelling kind ks run.old run.keeper bytes → HasNextNumber bytes → (t : Tree)
    → IsLiveTree (byte_at kind run.old) (is_server_in ks) bytes t
    → ((text : List ℕ) → (out.view out.old).taken ≡ Some text → (out.view out.new).taken ≡ Some (text ++ lines)) → Heals kind ks run out t bytes
heals {S = S} {kind = kind} laws ks bytes run out lines done telling room t tree wrote =
    let replicas : Replicas = done.began.replicas in
    let l : Loaded = done.began.loaded in
    let load = done.began.is_loaded.load in
    let p = done.kept.whole in
    let passed = p.made.passed in
    let before : Dev S = passed.before in
    let later : Told = byte_at kind run.new in
    let lost : ℕ → Bool = is_down_in before in
    let shelf : stores before ≡ run.old = passed.before_is.stores_are in
    let same : lost ≡ is_server_in ks = λ i k. (ap (λ (r : Replicas). is_down r k) passed.before_is.replicas_are ∙ done.began.down k) i in
    let tells : TellUp kind lost (stores before) = subst (λ (f : ℕ → Bool). TellUp kind f (stores before)) (sym same)
    (subst (λ sh. TellUp kind (is_server_in ks) sh) (sym shelf) telling.stores_tell) in
    let here : IsLiveTree (told_in kind before) lost bytes t = subst (λ (f : ℕ → Bool). IsLiveTree (told_in kind before) f bytes t) (sym same)
    (subst (λ sh. IsLiveTree (byte_at kind sh) (is_server_in ks) bytes t) (sym shelf) tree) in
    let can : CanHealOver kind run.old replicas l.settings (metadata_at l.kv l.kv.number) =
    can_heal kind run.old replicas (is_server_in ks) bytes l (λ k below. done.began.down k) load in
    let able = can before passed.before_is in
    let size : ℕ → ℕ → ℕ = size_in kind run.old in
    record {
      kept = p.image;
      held = done.kept.held telling.keeper_tells;
      image = subst (λ (f : ℕ → Bool). IsHealedImage later (size_in kind run.new) f t bytes p.image) same
          (healed_image laws replicas l run lines p tells able (is_server_in ks) size bytes load room t here);
      regions = length p.made.healed.changes;
      anew = p.made.healed.bytes;
      counted = subst (λ (f : ℕ → Bool). AreToHeal (byte_at kind run.old) f bytes (length p.made.healed.changes) p.made.healed.bytes) same
          (subst (λ sh. AreToHeal (byte_at kind sh) lost bytes (length p.made.healed.changes) p.made.healed.bytes) shelf
          (healed_counted laws replicas l run lines p tells able (is_server_in ks) size bytes load room t here));
      wrote = λ text taken. wrote text taken ∙ ap (λ (line : List ℕ). Some (text ++ line)) p.made.lines_are;
      installs = healed_installs laws replicas l run lines p tells able (is_server_in ks) size bytes load room t here;
      grew = healed_growth laws replicas l run lines p tells able (is_server_in ks) size bytes load room t here;
    }
