-- When a run of the program is one of refused words or few stores.
use Rattle.std.proofs.Common.{◌≡◌, ◌≢◌, ◌↔◌, ◌⊎◌, ◌<◌, ◌≤◌, ℕ, Bool, true, false, List, [], ◌∷◌, length, Option, Some, None, refl, sym, ◌∙◌, ap, subst, arith}
use Rattle.std.proofs.Common.{inl, inr}
use Rattle.wtf_base.specs.declared.settings.Settings.{Settings}
use Rattle.wtf_dev.specs.Store.{StoreKind}
use Rattle.wtf_words.specs.Words.{Numbers, numbers, Request}
use Rattle.wtf_words.specs.declared.Script.{Script}
use Rattle.wtf_words.specs.declared.Script.TheVariants as script
use Rattle.wtf_image.specs.declared.error.LoadError.{LoadError}
use Rattle.wtf_image.specs.declared.error.LoadError.TheVariants as error
use Rattle.wtf_image.specs.Rows.{ImageRows}
use Rattle.wtf_image.specs.Rules.{AreGoodSettings, IsGoodTree, size_in, are_inside}
use Rattle.wtf_serve.specs.Endings.{Devices, IsServedStatus, IsUnstarted}
use Rattle.wtf_serve.specs.Openings.{Opening, Opens, IsTakenOver}
use Rattle.wtf_serve.specs.Generated.{with_script, with_text}
use Rattle.wtf_serve.specs.Program.{IsProgramRun, IsScriptRun, IsFew, AreWordsRefused, IsStatusOf}
use Rattle.wtf_serve.specs.Unopened.{HasServers, IsRefusedBy, IsRefusedImage, IsRunWith, IsRunStatus, IsWhy}
use Rattle.wtf_serve.proofs.Starting.{same_rows}

-- ---- the statuses

served_status : (status : ℕ) → IsServedStatus status → status ≤ 9
served_status status (inl (inl e)) = omega (arith, e)
served_status status (inl (inr e)) = omega (arith, e)
served_status status (inr (inl e)) = omega (arith, e)
served_status status (inr (inr (inl e))) = omega (arith, e)
served_status status (inr (inr (inr (inl e)))) = omega (arith, e)
served_status status (inr (inr (inr (inr (inl e))))) = omega (arith, e)
served_status status (inr (inr (inr (inr (inr e))))) = omega (arith, e)

-- none of them is that of a script that was read to its end
pub unopened_status : {S : Type 0} (kind : StoreKind S) (status : ℕ) (old new : Devices S) → IsWhy kind status old new → (4 ≤ status) × (status ≤ 9)
unopened_status kind status old new (inl (e, same)) = (omega (arith, e), omega (arith, e))
unopened_status kind status old new (inr (inl (e, same, rose))) = (omega (arith, e), omega (arith, e))
unopened_status kind status old new (inr (inr refused)) = elim refused.told.status_is [
  | inl e ↦ (omega (arith, e), omega (arith, e))
  | inr e ↦ (omega (arith, e), omega (arith, e))
]

run_status : {S : Type 0} (kind : StoreKind S) (handed : List (List ℕ) → Type 0) (settings : Settings) (status : ℕ) (old new : Devices S)
    → IsRunWith kind handed settings status old new → status ≤ 9
run_status kind handed settings status old new (inl unopened) = (unopened_status kind status old new unopened.why).1
run_status kind handed settings status old new (inr opened) = served_status status opened.served.statuses

script_status : {S : Type 0} (kind : StoreKind S) (handed : List (List ℕ) → Type 0) (settings : Settings) (s : Script) (status : ℕ) (old new : Devices S)
    → IsScriptRun kind handed settings s status (old, new) → status ≤ 9
script_status kind handed settings script.Read status old new run = run_status kind handed settings status old new run
script_status kind handed settings (script.Generated recipe) status old new run =
    run_status kind handed settings status (with_script recipe old) (with_text run.left run.faults run.text new) run.run

pub program_status : {S : Type 0} (kind : StoreKind S) (handed : List (List ℕ) → Type 0) (asked : Option Request) (status : ℕ) (old new : Devices S)
    → IsProgramRun kind handed asked status old new → IsRunStatus status
program_status kind handed None status old new run = elim run.0 [ inl e ↦ omega (arith, e) | inr e ↦ omega (arith, e) ]
program_status kind handed (Some asked) status old new (inl (e, untouched)) = omega (arith, e)
program_status kind handed (Some asked) status old new (inr run) = script_status kind handed run.settings asked.script status old new run.run

pub words_status : {S : Type 0} (kind : StoreKind S) (handed : List (List ℕ) → Type 0) (asked : Option Request) (status : ℕ) (old new : Devices S)
    → IsProgramRun kind handed asked status old new → asked ≡ None → (status ≡ 2) ⊎ (status ≡ 7)
words_status kind handed None status old new run none = run.0
words_status kind handed (Some asked) status old new run none = cc

-- ---- few stores

-- what was opened asks for more servers than there are, exactly where the words or the image do
few_of : (settings : Settings) (bytes : List ℕ) (o : Opening) (stores : ℕ) → Opens settings bytes o → stores < o.settings.servers
    → IsFew (numbers settings) bytes stores
few_of settings [] o stores opens few = omega (arith, ap (λ (x : Opening). x.settings.servers) opens, few)
few_of settings (b ∷ bytes) o stores opens few = record {
  rows = opens.rows;
  text = opens.text;
  good = opens.good;
  few = omega (arith, opens.settings.servers, few);
}

of_few : (settings : Settings) (bytes : List ℕ) (o : Opening) (stores : ℕ) → Opens settings bytes o → IsFew (numbers settings) bytes stores
    → stores < o.settings.servers
of_few settings [] o stores opens few = omega (arith, ap (λ (x : Opening). x.settings.servers) opens, few)
of_few settings (b ∷ bytes) o stores opens few =
    omega (arith, opens.settings.servers, ap (λ (x : ImageRows). x.header.servers) (same_rows opens.rows few.rows (b ∷ bytes) opens.text few.text), few.few)

-- an image that is refused is refused over stores enough
not_few : (settings : Settings) (bytes : List ℕ) (stores : ℕ) → bytes ≢ [] → HasServers bytes stores → IsFew (numbers settings) bytes stores → ⊥
not_few settings [] stores some servers few = some refl
not_few settings (b ∷ bytes) stores some servers few = omega (arith, servers few.rows few.text few.good, few.few)

pub run_refused : {S : Type 0} (kind : StoreKind S) (handed : List (List ℕ) → Type 0) (settings : Settings) (status : ℕ) (old new : Devices S) (held : List ℕ)
    → old.stock.keeper.held ≡ Some held → IsRunWith kind handed settings status old new
    → (status ≡ 2) ↔ ((status ≢ 7) × (status ≢ 8) × IsFew (numbers settings) held (length old.stock.shelf))
run_refused kind handed settings status old new held held_is (inl unopened) = (
  λ e. absurd (omega (arith, e, (unopened_status kind status old new unopened.why).0)),
  λ all. elim unopened.why [
    | inl is ↦ absurd (all.0 is.0)
    | inr (inl is) ↦ absurd (all.1 is.0)
    | inr (inr refused) ↦ absurd (not_few settings held (length old.stock.shelf)
        (λ none. refused.refused.some (refused.given held held_is ∙ none))
        (subst (λ (b : List ℕ). HasServers b (length old.stock.shelf)) (refused.given held held_is) refused.refused.enough) all.2)
  ],
)
run_refused kind handed settings status old new held held_is (inr opened) =
    let opens : Opens settings held opened.opening = subst (λ (b : List ℕ). Opens settings b opened.opening) (opened.given held held_is) opened.opens in (
      λ e. (
        λ d. omega (arith, d, e),
        λ d. omega (arith, d, e),
        few_of settings held opened.opening (length old.stock.shelf) opens (opened.served.few_stores.0 e),
      ),
      λ all. opened.served.few_stores.1 (of_few settings held opened.opening (length old.stock.shelf) opens all.2),
    )

script_refused : {S : Type 0} (kind : StoreKind S) (handed : List (List ℕ) → Type 0) (settings : Settings) (s : Script) (status : ℕ) (old new : Devices S)
    (held : List ℕ)
    → old.stock.keeper.held ≡ Some held → IsScriptRun kind handed settings s status (old, new)
    → (status ≡ 2) ↔ ((status ≢ 7) × (status ≢ 8) × IsFew (numbers settings) held (length old.stock.shelf))
script_refused kind handed settings script.Read status old new held held_is run = run_refused kind handed settings status old new held held_is run
script_refused kind handed settings (script.Generated recipe) status old new held held_is run =
    run_refused kind handed settings status (with_script recipe old) (with_text run.left run.faults run.text new) held held_is run.run

pub program_refused : {S : Type 0} (kind : StoreKind S) (handed : List (List ℕ) → Type 0) (asked : Option Request) (status : ℕ) (old new : Devices S)
    (held : List ℕ)
    → old.stock.keeper.held ≡ Some held → IsProgramRun kind handed asked status old new
    → (status ≡ 2) ↔ ((status ≢ 7) × (status ≢ 8) × AreWordsRefused asked held (length old.stock.shelf))
program_refused kind handed None status old new held held_is run = (
  λ e. (λ d. omega (arith, d, e), λ d. omega (arith, d, e), tt),
  λ all. elim run.0 [ inl e ↦ e | inr e ↦ absurd (all.0 e) ],
)
program_refused kind handed (Some asked) status old new held held_is (inl (e, untouched)) = (λ d. absurd (omega (arith, d, e)), λ all. absurd (all.0 e))
program_refused kind handed (Some asked) status old new held held_is (inr run) =
    subst (λ (n : Numbers). (status ≡ 2) ↔ ((status ≢ 7) × (status ≢ 8) × IsFew n held (length old.stock.shelf))) run.asked_is
    (script_refused kind handed run.settings asked.script status old new held held_is run.run)

-- ---- a refused image

-- an image that is refused is not taken
pub refused_taken : (size : ℕ → ℕ → ℕ) (stores : ℕ) (bytes : List ℕ) (why : LoadError) → IsRefusedBy size stores bytes why → IsTakenOver size bytes → ⊥
refused_taken size stores [] why refused taken = refused.some refl
refused_taken size stores (b ∷ bytes) error.NotAnImage refused (x, taken) = refused.refusal x taken.text
refused_taken size stores (b ∷ bytes) error.BadSettings refused (x, taken) =
    refused.refusal.bad (subst (λ (r : ImageRows). AreGoodSettings r) (same_rows x refused.refusal.rows (b ∷ bytes) taken.text refused.refusal.text) taken.good)
refused_taken size stores (b ∷ bytes) error.BadTree refused (x, taken) =
    refused.refusal.bad (subst (λ (r : ImageRows). IsGoodTree r) (same_rows x refused.refusal.rows (b ∷ bytes) taken.text refused.refusal.text) taken.tree)
refused_taken size stores (b ∷ bytes) error.PointerOutside refused (x, taken) =
    let inside : are_inside size refused.refusal.rows ≡ true
    = ap (λ (r : ImageRows). are_inside size r) (same_rows refused.refusal.rows x (b ∷ bytes) refused.refusal.text taken.text) ∙ taken.inside in
    let never : true ≡ false = sym inside ∙ refused.refusal.outside in
    cc
refused_taken size stores (b ∷ bytes) error.Memory refused taken = refused.not_memory refl

-- and it asks for no more servers than there are stores
refused_few : (settings : Settings) (bytes : List ℕ) (o : Opening) (size : ℕ → ℕ → ℕ) (stores : ℕ) (why : LoadError) → IsRefusedBy size stores bytes why
    → Opens settings bytes o
    → stores < o.settings.servers → ⊥
refused_few settings bytes o size stores why refused opens few = not_few settings bytes stores refused.some refused.enough
    (few_of settings bytes o stores opens few)

-- so it ends no run that was opened but for want of memory, or of a sink
opened_refused : {S : Type 0} (kind : StoreKind S) (handed : List (List ℕ) → Type 0) (settings : Settings) (status : ℕ) (old new : Devices S)
    (opening : Opening) (started : Bool) (lines : List (List ℕ)) (why : LoadError)
    → Opens settings opening.bytes opening → IsRefusedBy (size_in kind old.stock.shelf) (length old.stock.shelf) opening.bytes why
    → ((started ≡ true) ⊎ (status ≡ 4) → IsTakenOver (size_in kind old.stock.shelf) opening.bytes) → (started ≡ false → IsUnstarted handed status lines old new)
    → ((status ≡ 2) ↔ (length old.stock.shelf < opening.settings.servers)) → (status ≡ 4) ⊎ (status ≡ 7)
opened_refused kind handed settings status old new opening true lines why opens refused taken unstarted few =
    absurd (refused_taken (size_in kind old.stock.shelf) (length old.stock.shelf) opening.bytes why refused (taken (inl refl)))
opened_refused kind handed settings status old new opening false lines why opens refused taken unstarted few = elim (unstarted refl).status_is [
  | inl e ↦ absurd (refused_few settings opening.bytes opening (size_in kind old.stock.shelf) (length old.stock.shelf) why refused opens (few.0 e))
  | inr rest ↦ rest
]

pub run_image : {S : Type 0} (kind : StoreKind S) (handed : List (List ℕ) → Type 0) (settings : Settings) (status : ℕ) (old new : Devices S) (held : List ℕ)
    → old.stock.keeper.held ≡ Some held → IsRunWith kind handed settings status old new
    → (status ≡ 6 → IsRefusedImage (size_in kind old.stock.shelf) (length old.stock.shelf) held)
    × (IsRefusedImage (size_in kind old.stock.shelf) (length old.stock.shelf) held → status ≢ 4 → status ≢ 7 → status ≢ 8 → status ≡ 6)
run_image kind handed settings status old new held held_is (inl unopened) = (
  λ e. elim unopened.why [
    | inl is ↦ absurd (omega (arith, e, is.0))
    | inr (inl is) ↦ absurd (omega (arith, e, is.0))
    | inr (inr refused) ↦ (
      refused.why,
      subst (λ (b : List ℕ). IsRefusedBy (size_in kind old.stock.shelf) (length old.stock.shelf) b refused.why)
          (refused.given held held_is) refused.refused,
    )
  ],
  λ image not_4 not_7 not_8. elim unopened.why [
    | inl is ↦ absurd (not_7 is.0)
    | inr (inl is) ↦ absurd (not_8 is.0)
    | inr (inr refused) ↦ elim refused.told.status_is [ inl e ↦ e | inr e ↦ absurd (not_4 e) ]
  ],
)
run_image kind handed settings status old new held held_is (inr opened) = (
  λ e. absurd (not_6 status opened.served.statuses e),
  λ image not_4 not_7 not_8.
      let refused = subst (λ (b : List ℕ). IsRefusedBy (size_in kind old.stock.shelf) (length old.stock.shelf) b image.0)
      (sym (opened.given held held_is)) image.1 in
      elim (opened_refused kind handed settings status old new opened.opening opened.served.started opened.served.log.lines image.0 opened.opens refused
      opened.served.sound
      opened.served.unstarted opened.served.few_stores) [ inl e ↦ absurd (not_4 e) | inr e ↦ absurd (not_7 e) ],
)
  where
    not_6 : (n : ℕ) → IsServedStatus n → n ≡ 6 → ⊥
    not_6 n (inl (inl d)) e = omega (arith, d, e)
    not_6 n (inl (inr d)) e = omega (arith, d, e)
    not_6 n (inr (inl d)) e = omega (arith, d, e)
    not_6 n (inr (inr (inl d))) e = omega (arith, d, e)
    not_6 n (inr (inr (inr (inl d)))) e = omega (arith, d, e)
    not_6 n (inr (inr (inr (inr (inl d))))) e = omega (arith, d, e)
    not_6 n (inr (inr (inr (inr (inr d))))) e = omega (arith, d, e)

script_image : {S : Type 0} (kind : StoreKind S) (handed : List (List ℕ) → Type 0) (settings : Settings) (s : Script) (status : ℕ) (old new : Devices S)
    (held : List ℕ)
    → old.stock.keeper.held ≡ Some held → IsScriptRun kind handed settings s status (old, new)
    → (status ≡ 6 → IsRefusedImage (size_in kind old.stock.shelf) (length old.stock.shelf) held)
    × (IsRefusedImage (size_in kind old.stock.shelf) (length old.stock.shelf) held → status ≢ 4 → status ≢ 7 → status ≢ 8 → status ≡ 6)
script_image kind handed settings script.Read status old new held held_is run = run_image kind handed settings status old new held held_is run
script_image kind handed settings (script.Generated recipe) status old new held held_is run =
    run_image kind handed settings status (with_script recipe old) (with_text run.left run.faults run.text new) held held_is run.run

-- status 6 comes exactly where an image is refused
pub program_image : {S : Type 0} (kind : StoreKind S) (handed : List (List ℕ) → Type 0) (asked : Option Request) (status : ℕ) (old new : Devices S)
    (held : List ℕ)
    → old.stock.keeper.held ≡ Some held → IsProgramRun kind handed asked status old new
    → (status ≡ 6) ↔ ((status ≢ 2) × (status ≢ 4) × (status ≢ 7) × (status ≢ 8) × IsRefusedImage (size_in kind old.stock.shelf) (length old.stock.shelf) held)
program_image kind handed None status old new held held_is run = (
  λ e. absurd (elim run.0 [ inl d ↦ omega (arith, d, e) | inr d ↦ omega (arith, d, e) ]),
  λ all. absurd (elim run.0 [ inl d ↦ all.0 d | inr d ↦ all.2 d ]),
)
program_image kind handed (Some asked) status old new held held_is (inl (d, untouched)) = (λ e. absurd (omega (arith, d, e)), λ all. absurd (all.2 d))
program_image kind handed (Some asked) status old new held held_is (inr run) =
    let (only, due) = script_image kind handed run.settings asked.script status old new held held_is run.run in (
      λ e. (λ d. omega (arith, d, e), λ d. omega (arith, d, e), λ d. omega (arith, d, e), λ d. omega (arith, d, e), only e),
      λ all. due all.4 all.1 all.2 all.3,
    )

-- ---- all that a status says
pub status_says : {S : Type 0} (kind : StoreKind S) (handed : List (List ℕ) → Type 0) (asked : Option Request) (status : ℕ) (old new : Devices S)
    → IsProgramRun kind handed asked status old new
    → IsStatusOf (size_in kind old.stock.shelf) (length old.stock.shelf) asked old.stock.keeper.held status
status_says kind handed asked status old new run = record {
  known = program_status kind handed asked status old new run;
  words = words_status kind handed asked status old new run;
  refused = λ bytes held. program_refused kind handed asked status old new bytes held run;
  image = λ bytes held. program_image kind handed asked status old new bytes held run;
}
