-- With which core a run begins, and why it does not.
use Rattle.std.proofs.Common.{◌≡◌, ◌≢◌, ◌<◌, ◌≤◌, ℕ, Bool, false, List, [], ◌∷◌, length, refl, sym, ◌∙◌, ap, subst, arith, inl}
use Rattle.std.proofs.lemmas.List.{append-nil}
use Rattle.std.proofs.Math.Path.{fun_ext}
use Rattle.wtf_base.specs.declared.settings.Settings.{Settings}
use Rattle.wtf_base.specs.declared.slice.Slice.{Slice}
use Rattle.wtf_dev.specs.Store.{StoreKind}
use Rattle.wtf_dev.specs.Sums.{TellsAll}
use Rattle.wtf_overlay.specs.Origin.{Place}
use Rattle.wtf_region.specs.Inside.{is_inside}
use Rattle.wtf_replica.specs.Bytes.{byte_at}
use Rattle.wtf_replica.specs.Downs.{is_down}
use Rattle.wtf_model.specs.Machines.{start}
use Rattle.wtf_model.specs.Tree.{Tree, root_alone}
use Rattle.wtf_meta.specs.Bytes.{any_slice}
use Rattle.wtf_meta.specs.Contents.{Told}
use Rattle.wtf_image.specs.declared.error.LoadError.{LoadError}
use Rattle.wtf_image.specs.declared.error.LoadError.TheVariants as error
use Rattle.wtf_image.specs.Rows.{ImageRows}
use Rattle.wtf_image.specs.Images.{HasText}
use Rattle.wtf_image.specs.Rules.{AreGoodSettings, size_in}
use Rattle.wtf_image.specs.Texts.{image_text}
use Rattle.wtf_image.specs.Loading.{IsChecked, IsCheckRefusal, IsLoadRefusal}
use Rattle.wtf_image.proofs.Forms.{one_image}
use Rattle.wtf_gc.specs.Extents.{extents_cover}
use Rattle.wtf_gc.specs.Views.{GcView, new_gc}
use Rattle.wtf_core.specs.Views.{BesideView, CoreView, unsaved}
use Rattle.wtf_core.specs.Tables.{AreSound}
use Rattle.wtf_core.specs.Standing.{StandsFor}
use Rattle.wtf_core.specs.Telling.{TellsCore, IsWithin, stores_of}
use Rattle.wtf_core.specs.Keeping.{IsHeldBy}
use Rattle.wtf_core.proofs.Started.{lie_first}
use Rattle.wtf_core.proofs.Telling.{told_first}
use Rattle.wtf_core.specs.Named.{CoreBytes, IsInside, IsBareCore, any_byte, no_slice}
use Rattle.wtf_core.specs.Loading.{IsCoreOf}
use Rattle.wtf_core.specs.Pictured.{IsImageOfTree, IsBareImage}
use Rattle.wtf_serve.specs.declared.opening.NotOpened.TheVariants.{Image}
use Rattle.wtf_serve.specs.Beginnings.{IsOpenedBy, IsFewFor, IsUnopenedBy}
use Rattle.wtf_serve.specs.Cores.{engine}
use Rattle.wtf_serve.specs.Openings.{new_opening, first}
use Rattle.wtf_serve.specs.Unopened.{HasServers}

-- bytes are the text of one image
pub same_rows : (x y : ImageRows) (bytes : List ℕ) → HasText x bytes → HasText y bytes → x ≡ y
same_rows x y bytes first second = (one_image x y [] first.shape second.shape (sym second.text ∙ first.text ∙ sym (append-nil (image_text x)))).0

-- nothing was freed yet
none_freed : (gc : GcView) → gc ≡ new_gc → (p : Place) → extents_cover gc.freed p ≡ false
none_freed gc new p = ap (λ (g : GcView). extents_cover g.freed p) new

-- ---- the core of a keeper that holds nothing

pub new_opened : {S : Type 0} (kind : StoreKind S) (shelf : List S) (settings : Settings) (core : CoreView) → settings.servers ≤ length shelf
    → core.settings ≡ settings → core.closed ≡ false → core.tables.kv.number ≡ 0 → core.tables.next_tx ≡ 1 → AreSound core.tables
    → ((told : Told) → StandsFor told core (start settings 0 root_alone)) → ((P : List Place → Bool) (Q : Slice → Bool) → CoreBytes P Q core)
    → ((k : ℕ) → is_down core.replicas k ≡ false) → core.lists ≡ [] → core.tables.beside ≡ unsaved
    → IsOpenedBy (engine kind) settings [] shelf core
new_opened kind shelf settings core enough settings_is not_closed number next_tx sound stands names up none_known beside = record {
  opening = new_opening settings;
  bytes_are = refl;
  opens = refl;
  ready = record {
    sound = record {
      not_closed = not_closed;
      tables = sound;
      unwatched = ap (λ (b : BesideView). b.watched) beside;
      servers = omega (arith, ap (λ (s : Settings). s.servers) settings_is, enough);
      inside = record {
        tables = (names (is_inside kind shelf core.settings) any_slice).tables;
        lists = (names (is_inside kind shelf core.settings) any_slice).lists;
        scans = lie_first core.tables.beside.gc (size_in kind shelf) (ap (λ (b : BesideView). b.gc) beside);
      };
    };
    settings = settings_is;
    number = number;
    next_tx = next_tx;
    up = fun_ext up;
    unfreed = none_freed core.tables.beside.gc (ap (λ (b : BesideView). b.gc) beside);
    kept = λ k held. ([], held, inl (refl, ap (λ (b : BesideView). b.none) beside));
    given = record { full = λ free empty. (names _ no_slice).tables; bare = λ free none. (names any_byte no_slice).tables };
    told = λ all.
        let (tells, wide, within) = told_first kind shelf core names none_known all in
        record { tells = λ t from. tells; wide = λ empty. wide; within = λ t from none. within; within_from = λ t from. within };
    stands = λ t is. subst (λ (x : Tree). StandsFor (byte_at kind shelf) core (start settings 0 x)) (sym is) (stands (byte_at kind shelf));
    enough = enough;
    taken = tt;
  };
}

pub new_few : {S : Type 0} (shelf : List S) (settings : Settings) → length shelf < settings.servers → IsFewFor settings [] (length shelf)
new_few shelf settings few = record { opening = new_opening settings; bytes_are = refl; opens = refl; few = few }

-- ---- the core of an image

-- the settings of the image are those that stores are there for
enough_for : (size : ℕ → ℕ → ℕ) (image : List ℕ) (core : CoreView) (stores : ℕ) → IsCoreOf size image core → HasServers image stores
    → core.settings.servers ≤ stores
enough_for size image core stores is servers = omega (arith, is.settings.servers, servers is.rows is.taken.text is.taken.good)

pub loaded_opened : {S : Type 0} (kind : StoreKind S) (shelf : List S) (asked : Settings) (image : List ℕ) (core : CoreView) → image ≢ []
    → HasServers image (length shelf) → IsCoreOf (size_in kind shelf) image core → core.closed ≡ false → AreSound core.tables →
    ((k : ℕ) → is_down core.replicas k ≡ false) → IsInside kind shelf core → (IsBareImage image → IsBareCore core)
    → ((told : Told) (t : Tree) → IsImageOfTree told image t → StandsFor told core (start core.settings core.tables.kv.number t))
    → (TellsAll kind shelf → (t : Tree) → IsImageOfTree (byte_at kind shelf) image t → TellsCore kind shelf core)
    → (IsBareImage image → IsWithin kind shelf core)
    → ((t : Tree) → IsImageOfTree (byte_at kind (stores_of core.settings shelf)) image t → IsWithin kind shelf core)
    → IsHeldBy core.tables core.settings image
    → IsOpenedBy (engine kind) asked image shelf core
loaded_opened kind shelf asked [] core some servers is not_closed sound up inside bare stands tells within from_first held = absurd (some refl)
loaded_opened kind shelf asked (b ∷ image) core some servers is not_closed sound up inside bare stands tells within from_first held = record {
  opening = record { bytes = b ∷ image; settings = core.settings; number = core.tables.kv.number; next_tx = core.tables.next_tx };
  bytes_are = refl;
  opens = record { rows = is.rows; text = is.taken.text; good = is.taken.good; settings = is.settings; number = is.number; next_tx = is.next_tx };
  ready = record {
    sound = record {
      not_closed = not_closed;
      tables = sound;
      unwatched = ap (λ (b : BesideView). b.watched) is.beside;
      servers = enough_for (size_in kind shelf) (b ∷ image) core (length shelf) is servers;
      inside = inside;
    };
    settings = refl;
    number = refl;
    next_tx = refl;
    up = fun_ext up;
    unfreed = none_freed core.tables.beside.gc (ap (λ (b : BesideView). b.gc) is.beside);
    kept = λ k there. (b ∷ image, there, held);
    given = record { full = λ free empty. cc; bare = λ free. bare };
    told = λ all. record {
      tells = λ t from. tells all t from;
      wide = λ empty. cc;
      within = λ t from none. within none;
      within_from = λ t from. from_first t from;
    };
    stands = λ t from. stands (byte_at kind shelf) t from;
    enough = enough_for (size_in kind shelf) (b ∷ image) core (length shelf) is servers;
    taken = (is.rows, is.taken);
  };
}

-- the servers of an image, by the settings that a check gave
pub checked_servers : (image : List ℕ) (settings : Settings) (stores : ℕ) → IsChecked image settings → settings.servers ≤ stores → HasServers image stores
checked_servers image settings stores checked enough = λ x text good.
    omega (arith, ap (λ (r : ImageRows). r.header.servers) (same_rows x checked.rows image text checked.text), checked.settings.servers, enough)

pub image_few : {S : Type 0} (shelf : List S) (asked settings : Settings) (image : List ℕ) → image ≢ [] → IsChecked image settings
    → length shelf < settings.servers
    → IsFewFor asked image (length shelf)
image_few shelf asked settings [] some checked few = absurd (some refl)
image_few shelf asked settings (b ∷ image) some checked few = record {
  opening = record { bytes = b ∷ image; settings = settings; number = checked.rows.header.installs; next_tx = checked.rows.header.next_tx };
  bytes_are = refl;
  opens = record { rows = checked.rows; text = checked.text; good = checked.good; settings = checked.settings; number = refl; next_tx = refl };
  few = few;
}

pub check_refused : {S : Type 0} (kind : StoreKind S) (shelf : List S) (asked : Settings) (image : List ℕ) (why : LoadError) → image ≢ []
    → IsCheckRefusal image why
    → IsUnopenedBy kind asked image shelf (Image why)
check_refused kind shelf asked image error.NotAnImage some refusal =
    record { some = some; refusal = refusal; not_memory = λ e. cc; enough = λ x text good. absurd (refusal x text) }
check_refused kind shelf asked image error.BadSettings some refusal = record {
  some = some;
  refusal = refusal;
  not_memory = λ e. cc;
  enough = λ x text good. absurd (refusal.bad (subst (λ (r : ImageRows). AreGoodSettings r) (same_rows x refusal.rows image text refusal.text) good));
}
check_refused kind shelf asked image error.BadTree some refusal = absurd refusal
check_refused kind shelf asked image error.PointerOutside some refusal = absurd refusal
check_refused kind shelf asked image error.Memory some refusal = tt

pub load_refused : {S : Type 0} (kind : StoreKind S) (shelf : List S) (asked : Settings) (image : List ℕ) (why : LoadError) → image ≢ []
    → HasServers image (length shelf)
    → IsLoadRefusal (size_in kind shelf) image why → IsUnopenedBy kind asked image shelf (Image why)
load_refused kind shelf asked image error.NotAnImage some enough refusal = record { some = some; refusal = refusal; not_memory = λ e. cc; enough = enough }
load_refused kind shelf asked image error.BadSettings some enough refusal = record { some = some; refusal = refusal; not_memory = λ e. cc; enough = enough }
load_refused kind shelf asked image error.BadTree some enough refusal = record { some = some; refusal = refusal; not_memory = λ e. cc; enough = enough }
load_refused kind shelf asked image error.PointerOutside some enough refusal = record { some = some; refusal = refusal; not_memory = λ e. cc; enough = enough }
load_refused kind shelf asked image error.Memory some enough refusal = tt
