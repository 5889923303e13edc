-- A core that was loaded of an image: what it stands for, and that the keeper holds its image.
use Rattle.wtf_core.proofs.Common.{get-empty, Contains, nat_cmp, append-nil, Contains-push, Contains-push_cases, is_down, cases_Bool, eqb-true, IsTrue}
use Rattle.wtf_core.proofs.Common.{StoreKind, CacheInside, is_inside, Store, is_pinned, count-any, count-push, Key, RegionValue, Spill, Value, start, Tree}
use Rattle.wtf_core.proofs.Common.{is_down-start, Told, BaseBytes, RegionBytes, any_slice, Map, Stands, Loaded, AreSettingsOf, IsLoadOf, shown, RegionRow}
use Rattle.wtf_core.proofs.Common.{ImageRows, base_row, HasText, plain, plain_region, row_at, Says, AreBefore, image_text, one_image, same_optional}
use Rattle.wtf_core.proofs.Common.{says_itself, before_of, BesideView, unsaved, TablesView, of_client, of_label, metadata_now, CoreView, IsImageTree}
use Rattle.wtf_core.proofs.Common.{StandsForSlot, StandsForLabel, StandsFor, any_byte, no_slice, IsInside, IsBareCore, IsCoreOf, only_image, all_owned}
use Rattle.wtf_core.proofs.Common.{all_kept, AreSound, any_entries, bytes_alone, IsHeldBy, IsImageOfTree, IsBareImage, ◌≡◌, ◌≤◌, ℕ, false, cond, nat_eq, List}
use Rattle.wtf_core.proofs.Common.{[], ◌∷◌, Option, None, Some, refl, sym, ap, subst, ◌∙◌, true≢false, ⊎_elim, arith, inl, inr}
use Rattle.wtf_image.proofs.MapSaid.{map_said}
use Rattle.wtf_image.specs.Rules.{size_in}
use Rattle.wtf_core.proofs.{Fetched.image_inside, Aged.kinds_of, Started.nothing_in, Started.none_of, Started.idle_of, Started.lie_first, Started.scans_first}

-- bytes are one image at most
same_rows : (x y : ImageRows) (bytes : List ℕ) → HasText x bytes → HasText y bytes → x ≡ y
same_rows x y bytes one two = (one_image x y [] one.shape two.shape (sym two.text ∙ one.text ∙ sym (append-nil (image_text x)))).0

-- one number alone
only_one : (n m : ℕ) → Contains (m ∷ []) n → n ≡ m
only_one n m here = elim (Contains-push_cases [] m n here) [ inl never ↦ absurd (let below = never.1 in omega (arith, below)) | inr same ↦ sym same ]

-- the core over the tables of what was loaded
pub core_of : (size : ℕ → ℕ → ℕ) (bytes : List ℕ) (l : Loaded) (tables : TablesView) (core : CoreView) → IsLoadOf size bytes l → core.settings ≡ l.settings
    → core.tables ≡ tables
    → tables.kv ≡ record l.kv { pins = l.kv.number ∷ [] } → tables.next_tx ≡ l.next_tx → tables.clients ≡ [] → tables.beside ≡ only_image unsaved l.kv.number →
    core.lists ≡ [] → IsCoreOf size bytes core
core_of size bytes l tables core load settings same kv next clients saved lists =
    let is_kv : core.tables.kv ≡ record l.kv { pins = l.kv.number ∷ [] } = ap (λ (t : TablesView). t.kv) same ∙ kv in
    let number : core.tables.kv.number ≡ l.kv.number = ap (λ (s : Store Key Value). s.number) is_kv in
    record {
      rows = load.rows;
      taken = load.taken;
      settings = subst (λ s. AreSettingsOf load.rows s) (sym settings) load.settings;
      number = number ∙ load.store.number;
      next_tx = ap (λ (t : TablesView). t.next_tx) same ∙ next ∙ load.next_tx;
      map = λ q. ap (λ (s : Store Key Value). shown s q) is_kv ∙ load.store.map q;
      clients = ap (λ (t : TablesView). t.clients) same ∙ clients;
      beside = ap (λ (t : TablesView). t.beside) same ∙ saved ∙ ap (only_image unsaved) (sym number);
      lists = lists;
    }

-- the number alone is pinned
pub pinned_alone : (core : CoreView) → AreSound core.tables → core.tables.clients ≡ [] → core.tables.beside ≡ only_image unsaved core.tables.kv.number → (n : ℕ)
    → IsTrue (is_pinned core.tables.kv n) → n ≡ core.tables.kv.number
pinned_alone core sound clients saved n pinned =
    let number : ℕ = core.tables.kv.number in
    let some = count-any n core.tables.kv.pins pinned in
    let owned : all_owned n core.tables.clients ≡ 0 = ap (λ l. all_owned n l) clients in
    let kept : all_kept n core.tables.beside ≡ all_kept n (only_image unsaved number) = ap (all_kept n) saved in
    let one = count-push n number [] in
    ⊎_elim
    (λ here. eqb-true n number here)
    (λ other. let none : ◌≡◌ {A = ℕ} (cond (nat_eq n number) 1 0) 0 = ap (λ b. cond b 1 0) other in absurd
    (omega (arith, some, sound.pins n, owned, kept, one, none)))
    (cases_Bool (nat_eq n number))

module _ (size : ℕ → ℕ → ℕ) (bytes : List ℕ) (core : CoreView) (of_it : IsCoreOf size bytes core) where
  abbrev now : Map
  now = metadata_now core.tables.kv

  pub before_now : AreBefore core.tables.next_tx now
  before_now = subst (λ n. AreBefore n now) (sym of_it.next_tx) (before_of of_it.rows now of_it.taken.good of_it.map)

  -- the map now is that of the image
  pub stands_now : (told : Told) (t : Tree) → IsImageOfTree told bytes t → (tx : ℕ) → core.tables.next_tx ≤ tx → Stands core.settings.region told tx 0 now t
  stands_now told t image tx le =
      let same : image.rows ≡ of_it.rows = same_rows image.rows of_it.rows bytes image.text of_it.taken.text in
      let each : (q : Key) → image.map q ≡ now q = λ q. same_optional (image.map q) (now q)
      (image.says q ∙ ap (λ (x : ImageRows). row_at x q) same ∙ sym (of_it.map q)) in
      let region : image.rows.header.region ≡ core.settings.region = ap (λ (x : ImageRows). x.header.region) same ∙ sym of_it.settings.region in
      let next : image.rows.header.next_tx ≡ core.tables.next_tx = ap (λ (x : ImageRows). x.header.next_tx) same ∙ sym of_it.next_tx in
      subst (λ w. Stands core.settings.region told tx 0 w t) (λ i q. each q i)
      (subst (λ b. Stands b told tx 0 image.map t) region (image.stands tx (omega (arith, le, next))))

  -- the core stands for the machine that starts with the tree of the image
  pub stands_loaded : AreSound core.tables → ((k : ℕ) → is_down core.replicas k ≡ false) → (told : Told) (t : Tree) → IsImageOfTree told bytes t
      → StandsFor told core (start core.settings core.tables.kv.number t)
  stands_loaded sound up told t image = record {
    settings = refl;
    tables = record {
      number = refl;
      each = λ c. subst (λ o. StandsForSlot core.settings.region told core.tables.kv t (of_client core.tables.clients c) o) (sym (get-empty nat_cmp c))
          (subst (λ s. StandsForSlot core.settings.region told core.tables.kv t s None) (sym (none_of core.tables.clients c of_it.clients)) tt);
      jobs = λ j. subst (λ o. StandsForLabel core.settings.region told core.tables.kv (of_label core.tables.beside.jobs j) o) (sym (get-empty nat_cmp j))
          (subst (λ s. StandsForLabel core.settings.region told core.tables.kv s None)
          (sym (idle_of core.tables.beside j (ap (λ (b : BesideView). b.jobs) of_it.beside))) tt);
      later = stands_now told t image;
      before = before_now;
      none = λ is. absurd (true≢false (sym is ∙ ap (λ (s : BesideView). s.none) of_it.beside));
      images = λ n here. subst (λ m. IsImageTree core.settings.region told core.tables m (t ∷ []))
          (sym (only_one n core.tables.kv.number (subst (λ (s : BesideView). Contains s.images n) of_it.beside here))) (record {
            tree = t;
            listed = Contains-push [] t;
            before = before_now;
            stands = stands_now told t image;
          });
    };
    down = λ k. up k ∙ sym (is_down-start core.settings core.tables.kv.number t k);
    scans = scans_first core.settings core.tables.kv.number t core.tables (ap (λ (b : BesideView). b.gc) of_it.beside)
        (ap (λ (b : BesideView). b.scan_tx) of_it.beside) (λ c. none_of core.tables.clients c of_it.clients)
        (λ j. idle_of core.tables.beside j (ap (λ (b : BesideView). b.jobs) of_it.beside)) (pinned_alone core sound of_it.clients of_it.beside)
        (kinds_of core.settings.region told core.tables.next_tx 0 now t (stands_now told t image core.tables.next_tx (omega arith)));
  }

  -- the bytes are the image that the core knows of
  pub held_loaded : IsHeldBy core.tables core.settings bytes
  held_loaded = inr (
    core.tables.kv.number,
    subst (λ (s : BesideView). Contains s.images core.tables.kv.number) (sym of_it.beside) (Contains-push [] core.tables.kv.number),
    record {
      rows = of_it.rows;
      text = of_it.taken.text;
      next = core.tables.next_tx;
      begun = omega arith;
      header = λ j. record {
        servers = sym of_it.settings.servers j;
        replicas = sym of_it.settings.replicas j;
        region = sym of_it.settings.region j;
        installs = sym of_it.number j;
        next_tx = sym of_it.next_tx j;
      };
      says = subst (λ m. Says m of_it.rows) (λ j q. sym (of_it.map q) j) (says_itself of_it.rows of_it.taken.text.shape of_it.taken.tree);
    },
  )

-- what it names lies inside the stores, as the image's pointers do
pub inside_loaded : {S : Type 0} (kind : StoreKind S) (shelf : List S) (bytes : List ℕ) (core : CoreView) → AreSound core.tables
    → IsCoreOf (size_in kind shelf) bytes core → IsInside kind shelf core
inside_loaded kind shelf bytes core sound of_it = record {
  tables = bytes_alone (is_inside kind shelf core.settings) any_slice core.tables (λ c. none_of core.tables.clients c of_it.clients)
      (λ j. idle_of core.tables.beside j (ap (λ (b : BesideView). b.jobs) of_it.beside))
      (pinned_alone core sound of_it.clients of_it.beside)
      (image_inside kind shelf core.settings of_it.rows (metadata_now core.tables.kv) (sym of_it.settings.servers) of_it.taken.inside of_it.map);
  lists = subst (CacheInside (is_inside kind shelf core.settings)) (sym of_it.lists) (λ e there. absurd (nothing_in e there));
  scans = lie_first core.tables.beside.gc (size_in kind shelf) (ap (λ (b : BesideView). b.gc) of_it.beside);
}

-- and no region has a base, where none of the image has
base_none : (base : Option Spill) → base_row base ≡ None → BaseBytes any_byte no_slice base
base_none None is = tt
base_none (Some s) is = absurd (cc)

region_bare : (v : RegionValue) (row : RegionRow) → plain (Value.Region v) ≡ plain_region row → row.base ≡ None → RegionBytes any_byte no_slice v
region_bare v row is none =
    let same : base_row v.base ≡ row.base = cc in
    record { base = base_none v.base (same ∙ none); entries = any_entries v.list }

pub bare_loaded : (size : ℕ → ℕ → ℕ) (bytes : List ℕ) (core : CoreView) → AreSound core.tables → IsCoreOf size bytes core → IsBareImage bytes → IsBareCore core
bare_loaded size bytes core sound of_it bare =
    bytes_alone any_byte no_slice core.tables (λ c. none_of core.tables.clients c of_it.clients)
    (λ j. idle_of core.tables.beside j (ap (λ (b : BesideView). b.jobs) of_it.beside)) (pinned_alone core sound of_it.clients of_it.beside)
    (map_said any_byte no_slice of_it.rows (metadata_now core.tables.kv) of_it.map (λ i r v row at same. region_bare v row same
    (bare of_it.rows of_it.taken.text i r row at)))
