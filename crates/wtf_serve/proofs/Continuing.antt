-- A run goes on where the last one ended.
use Rattle.std.proofs.Common.{◌≡◌, ◌≢◌, ◌<◌, ◌≤◌, ◌+◌, ℕ, true, List, [], ◌∷◌, length, take, refl, sym, ◌∙◌, ap, subst, arith, inl, inr}
use Rattle.std.proofs.lemmas.Bool.{cases_lt}
use Rattle.wtf_base.specs.declared.settings.Settings.{Settings}
use Rattle.wtf_words.specs.Words.{Numbers, numbers}
use Rattle.wtf_dev.specs.Store.{StoreKind}
use Rattle.wtf_replica.specs.Bytes.{byte_at}
use Rattle.wtf_model.specs.Machines.{Machine}
use Rattle.wtf_model.specs.Tree.{Tree}
use Rattle.wtf_meta.specs.Contents.{Told}
use Rattle.wtf_image.specs.Rows.{ImageRows}
use Rattle.wtf_image.specs.Rules.{size_in}
use Rattle.wtf_core.specs.Pictured.{IsImageOfTree, IsImageWith}
use Rattle.wtf_core.specs.Telling.{stores_of}
use Rattle.wtf_serve.specs.Endings.{Devices}
use Rattle.wtf_serve.specs.Continued.{IsWholeRun, BeginsBehind, GoesOnFrom}
use Rattle.wtf_serve.specs.Logs.{last}
use Rattle.wtf_serve.specs.Openings.{Opening, Opens, IsTakenOver, StartsFrom}
use Rattle.wtf_serve.specs.Program.{IsFew}
use Rattle.wtf_serve.specs.Unopened.{IsOpened, IsRunWith}
use Rattle.wtf_serve.proofs.Headline.{began}
use Rattle.wtf_serve.proofs.Keeping.{text_some}
use Rattle.wtf_serve.proofs.Refusing.{refused_taken, run_image, run_refused}
use Rattle.wtf_serve.proofs.Starting.{same_rows}

-- ---- an image with these settings and numbers opens a run with them

-- it has bytes
image_some : (size : ℕ → ℕ → ℕ) (settings : Settings) (n next : ℕ) → IsImageWith size settings n next [] → ⊥
image_some size settings n next is = text_some is.rows [] is.taken.text refl

image_taken : (size : ℕ → ℕ → ℕ) (settings : Settings) (n next : ℕ) (bytes : List ℕ) → IsImageWith size settings n next bytes → IsTakenOver size bytes
image_taken size settings n next [] is = tt
image_taken size settings n next (b ∷ bytes) is = (is.rows, is.taken)

image_opens : (size : ℕ → ℕ → ℕ) (settings asked : Settings) (n next : ℕ) (bytes : List ℕ) (o : Opening) → IsImageWith size settings n next bytes
    → Opens asked bytes o
    → (numbers o.settings ≡ numbers settings) × (o.number ≡ n) × (o.next_tx ≡ next)
image_opens size settings asked n next [] o is opens = absurd (image_some size settings n next is)
image_opens size settings asked n next (b ∷ bytes) o is opens =
    let same : opens.rows ≡ is.rows = same_rows opens.rows is.rows (b ∷ bytes) opens.text is.taken.text in (
      λ j. record {
        servers = (opens.settings.servers ∙ ap (λ (x : ImageRows). x.header.servers) same ∙ sym is.settings_are.servers) j;
        replicas = (opens.settings.replicas ∙ ap (λ (x : ImageRows). x.header.replicas) same ∙ sym is.settings_are.replicas) j;
        region = (opens.settings.region ∙ ap (λ (x : ImageRows). x.header.region) same ∙ sym is.settings_are.region) j;
      },
      opens.number ∙ ap (λ (x : ImageRows). x.header.installs) same ∙ is.installs,
      opens.next_tx ∙ ap (λ (x : ImageRows). x.header.next_tx) same ∙ is.next_tx,
    )

-- it starts from the tree of its bytes
starts_of : (told : Told) (size : ℕ → ℕ → ℕ) (settings : Settings) (n next : ℕ) (bytes : List ℕ) (t : Tree) → IsImageWith size settings n next bytes
    → IsImageOfTree told bytes t → StartsFrom told bytes t
starts_of told size settings n next [] t is image = absurd (image_some size settings n next is)
starts_of told size settings n next (b ∷ bytes) t is image = image

-- it asks for no more servers than there are stores
image_enough : (size : ℕ → ℕ → ℕ) (settings : Settings) (asked : Numbers) (n next : ℕ) (bytes : List ℕ) (stores : ℕ) → IsImageWith size settings n next bytes
    → settings.servers ≤ stores → IsFew asked bytes stores → ⊥
image_enough size settings asked n next [] stores is enough few = image_some size settings n next is
image_enough size settings asked n next (b ∷ bytes) stores is enough few =
    let same : few.rows ≡ is.rows = same_rows few.rows is.rows (b ∷ bytes) few.text is.taken.text in
    omega (arith, few.few, ap (λ (x : ImageRows). x.header.servers) same, is.settings_are.servers, enough)

module _ {S : Type 0} (kind : StoreKind S) (handed handed' : List (List ℕ) → Type 0) (asked asked' : Settings) (status status' : ℕ)
    (old new old' new' : Devices S)
    (whole : IsWholeRun kind handed asked status old new) (behind : BeginsBehind new old' whole.kept) where
  abbrev machine : Machine
  machine = last whole.opened.opening whole.tree whole.opened.served.log

  started : whole.opened.served.started ≡ true
  started = began handed status whole.opened.served.log.lines old new whole.opened.served.started whole.opened.served.unstarted whole.end

  -- what the first run left, over the stores of the second
  there : (next : ℕ) × (next ≤ whole.opened.opening.next_tx + length whole.opened.served.log.lines)
      × IsImageWith (size_in kind old'.stock.shelf) whole.opened.opening.settings machine.number next whole.kept
  there =
      let left = whole.opened.served.next started whole.tells whole.telling whole.number whole.next_tx whole.tree whole.from whole.kept whole.held in
      let (next, few, is) = left.saved whole.end in
      (next, few, subst (λ (s : List S). IsImageWith (size_in kind s) whole.opened.opening.settings machine.number next whole.kept) (sym behind.shelf) is)

  -- there were stores enough, and are
  enough : whole.opened.opening.settings.servers ≤ length old'.stock.shelf
  enough =
      let few = whole.opened.served.few_stores.1 in
      let end = whole.end in
      let never : length old.stock.shelf ≡ length old'.stock.shelf = sym whole.opened.served.follows_on.same_length
      ∙ sym (ap (λ (s : List S). length s) behind.shelf) in
      at_least _ _ (λ less. omega (arith, end, few (omega (arith, less, never))))
    where
      at_least : (n m : ℕ) → ((m < n) → ⊥) → n ≤ m
      at_least n m not_less = elim (cases_lt m n) [ inl less ↦ absurd (not_less less) | inr le ↦ le ]

  pub begins_again : IsRunWith kind handed' asked' status' old' new' → (status' ≢ 6) × (status' ≢ 2)
  begins_again run =
      let (next, few, is) = there in (
        λ e. (
            let (why, refused) = (run_image kind handed' asked' status' old' new' whole.kept behind.held run).0 e in
            refused_taken (size_in kind old'.stock.shelf) (length old'.stock.shelf) whole.kept why refused
            (image_taken (size_in kind old'.stock.shelf) whole.opened.opening.settings machine.number next whole.kept is)),
        λ e. image_enough (size_in kind old'.stock.shelf) whole.opened.opening.settings (numbers asked') machine.number next whole.kept
            (length old'.stock.shelf) is enough
            ((run_refused kind handed' asked' status' old' new' whole.kept behind.held run).0 e).2,
      )

  -- over what is told that its image stands over
  goes_on_over : (told : Told) → IsImageOfTree told whole.kept machine.now → (o : IsOpened kind handed' asked' status' old' new')
      → GoesOnFrom told whole.opened.opening whole.tree whole.opened.served.log o.opening
  goes_on_over told image o =
      let (next, few, is) = there in
      let bytes : o.opening.bytes ≡ whole.kept = o.given whole.kept behind.held in
      let opens = subst (λ (b : List ℕ). Opens asked' b o.opening) bytes o.opens in
      let (settings, number, next_tx) = image_opens (size_in kind old'.stock.shelf) whole.opened.opening.settings asked' machine.number next whole.kept
      o.opening is opens in
      record {
        settings = settings;
        number = number;
        next_tx = omega (arith, next_tx, few);
        starts = subst (λ (b : List ℕ). StartsFrom told b machine.now) (sym bytes)
            (starts_of told (size_in kind old'.stock.shelf) whole.opened.opening.settings machine.number next whole.kept machine.now is image);
      }

  pub goes_on_again : (o : IsOpened kind handed' asked' status' old' new')
      → GoesOnFrom (byte_at kind old'.stock.shelf) whole.opened.opening whole.tree whole.opened.served.log o.opening
  goes_on_again o =
      let left = whole.opened.served.left started whole.tells whole.telling whole.number whole.next_tx whole.tree whole.from whole.kept whole.held
      in goes_on_over (byte_at kind old'.stock.shelf)
      (subst (λ (s : List S). IsImageOfTree (byte_at kind s) whole.kept machine.now) (sym behind.shelf) (left.saved whole.end)) o

  -- and over the stores of the settings' servers by themselves
  pub goes_on_within : StartsFrom (byte_at kind (stores_of whole.opened.opening.settings old.stock.shelf)) whole.opened.opening.bytes whole.tree
      → (o : IsOpened kind handed' asked' status' old' new')
      → GoesOnFrom (byte_at kind (stores_of o.opening.settings old'.stock.shelf)) whole.opened.opening whole.tree whole.opened.served.log o.opening
  goes_on_within from o =
      let left = whole.opened.served.left_within started whole.tells whole.telling whole.number whole.next_tx whole.tree from whole.kept whole.held in
      let servers : o.opening.settings.servers ≡ whole.opened.opening.settings.servers = ap (λ (n : Numbers). n.servers) (goes_on_again o).settings in
      goes_on_over (byte_at kind (stores_of o.opening.settings old'.stock.shelf))
      (subst (λ (n : ℕ). IsImageOfTree (byte_at kind (take n old'.stock.shelf)) whole.kept machine.now) (sym servers)
      (subst (λ (s : List S). IsImageOfTree (byte_at kind (stores_of whole.opened.opening.settings s)) whole.kept machine.now) (sym behind.shelf)
      (left.saved whole.end))) o
