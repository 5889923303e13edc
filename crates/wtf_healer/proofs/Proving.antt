-- What a run promises, by what its status tells.
use Rattle.std.proofs.Common.{◌≡◌, ◌≢◌, ◌↔◌, ℕ, ◌++◌, ◌<◌, Bool, true, List, [], ◌∷◌, length, Option, Some, None, Result, Ok, Err, refl, sym, ap, ◌∙◌, subst}
use Rattle.std.proofs.Common.{arith, inl, inr}
use Rattle.std.proofs.lemmas.Bool.{false≢true}
use Rattle.std.proofs.lemmas.List.{append-nil}
use Rattle.wtf_base.specs.declared.fault.Fault.{Fault}
use Rattle.wtf_base.specs.declared.settings.Settings.{Settings}
use Rattle.wtf_dev.specs.Counts.{Rose}
use Rattle.wtf_dev.specs.Store.{StoreKind, KindLaws}
use Rattle.wtf_replica.specs.declared.replicas.Replicas.{Replicas}
use Rattle.wtf_replica.specs.Downs.{is_down}
use Rattle.wtf_replica.specs.Outs.{SameSyncs}
use Rattle.wtf_meta.specs.Maps.{metadata_at}
use Rattle.wtf_image.specs.declared.error.LoadError.{LoadError}
use Rattle.wtf_image.specs.declared.error.LoadError.TheVariants as error
use Rattle.wtf_image.specs.declared.loads.Loaded.{Loaded}
use Rattle.wtf_image.specs.Images.{HasText}
use Rattle.wtf_image.specs.Loading.{AreSettingsOf, IsRefusalWithout}
use Rattle.wtf_image.specs.Outcome.{IsLoadWithout}
use Rattle.wtf_image.specs.Rows.{ImageRows}
use Rattle.wtf_image.specs.Rules.{AreGoodSettings, IsGoodTree, are_inside_without, size_in}
use Rattle.wtf_image.specs.Texts.{image_text}
use Rattle.wtf_image.proofs.Forms.{one_image}
use Rattle.wtf_region.specs.declared.dev.Dev.{Dev}
use Rattle.wtf_region.specs.Devs.{stores}
use Rattle.wtf_healer.specs.declared.ends.Stop.{Stop}
use Rattle.wtf_healer.specs.declared.ends.Stop.TheVariants as stop
use Rattle.wtf_healer.specs.Ends.{RunSpan, Began, WasHealed, WasStopped, IsGiven, IsEnd, IsUndone, IsUntouchedIn, SinkSpan, IsEndTold, IsHealOver}
use Rattle.wtf_healer.specs.Lines.{done_lines, fault_line}
use Rattle.wtf_healer.specs.Runs.{SaysText, AreNotSpared, AreRefused, IsRefusedImage, IsSaveFault, AreSynced, HasFault}
use Rattle.wtf_healer.specs.Steps.{Passed}
use Rattle.wtf_healer.specs.Words.{is_server_in}
use Rattle.wtf_healer.proofs.Ending.{At, at}
use Rattle.wtf_healer.proofs.Passes.{rose_behind}

-- bytes are the text of one image
pub same_rows : (x y : ImageRows) (bytes : List ℕ) → HasText x bytes → HasText y bytes → x ≡ y
same_rows x y bytes first second = (one_image x y [] first.shape second.shape (sym second.text ∙ first.text ∙ sym (append-nil (image_text x)))).0

-- what was loaded breaks no rule
not_refused : (lost : ℕ → Bool) (size : ℕ → ℕ → ℕ) (bytes : List ℕ) (l : Loaded) → IsLoadWithout lost size bytes l → (why : LoadError) → why ≢ error.Memory
    → IsRefusalWithout lost size bytes why → ⊥
not_refused lost size bytes l h error.NotAnImage known none = none h.rows h.taken.text
not_refused lost size bytes l h error.BadSettings known bad =
    bad.bad (subst AreGoodSettings (same_rows h.rows bad.rows bytes h.taken.text bad.text) h.taken.good)
not_refused lost size bytes l h error.BadTree known bad = bad.bad (subst IsGoodTree (same_rows h.rows bad.rows bytes h.taken.text bad.text) h.taken.tree)
not_refused lost size bytes l h error.PointerOutside known bad =
    false≢true (sym bad.outside ∙ subst (λ (x : ImageRows). are_inside_without lost size x ≡ true)
    (same_rows h.rows bad.rows bytes h.taken.text bad.text) h.taken.inside)
not_refused lost size bytes l h error.Memory known bad = known refl

-- the syncs of stores over a pass
passed_syncs : {S : Type 0} {Did : Dev S → Dev S → Type 0} (kind : StoreKind S) (replicas : Replicas) (settings : Settings) (old new : List S)
    → Passed kind replicas settings old new Did → SameSyncs kind old new
passed_syncs kind replicas settings old new p =
    subst (λ (a : List _). SameSyncs kind old a) p.after_is.stores_are
    (subst (λ (b : List _). SameSyncs kind b (stores p.after)) p.before_is.stores_are p.stored.syncs)

some_refused : (ks image : List ℕ) (n : ℕ) → image ≢ [] → AreRefused (Some ks) image n → AreNotSpared ks image n
some_refused ks [] n some h = absurd (some refl)
some_refused ks (b ∷ bytes) n some h = h

refused_some : (ks image : List ℕ) (n : ℕ) → image ≢ [] → AreNotSpared ks image n → AreRefused (Some ks) image n
refused_some ks [] n some h = absurd (some refl)
refused_some ks (b ∷ bytes) n some h = h

one_named : (names : Option (List ℕ)) (a b : List ℕ) → names ≡ Some a → names ≡ Some b → a ≡ b
one_named names a b x y = cc

module _ {S O : Type 0} (kind : StoreKind S) (names : Option (List ℕ)) (t : RunSpan S) (s : SinkSpan O) where
  abbrev Ended : ℕ → Type 0
  Ended status = IsHealOver kind names t s status

  abbrev IsSo : ℕ → Result (List ℕ) Stop → Type 0
  IsSo status r = IsEndTold kind names t s status r

  abbrev AtEnd : ℕ → Type 0
  AtEnd status = At kind names t s status

  here : (n status : ℕ) → Ended status → status ≡ n → AtEnd n
  here n status h is = subst AtEnd is (at kind names t s status h)

  not_said : (text : List ℕ) (wanted n status : ℕ) → SaysText text wanted status (s.view s.old) (s.view s.new) → wanted ≢ n → 4 ≢ n → status ≢ n
  not_said text wanted n status h one other is = elim h.status_is [ inl same ↦ one (sym same ∙ is) | inr failed ↦ other (sym failed ∙ is) ]

  -- ---- words
  unnamed_end : (status : ℕ) (r : Result (List ℕ) Stop) → IsSo status r → names ≡ None → status ≡ 2
  unnamed_end status (Ok lines) h none = let named = h.0.2.named in absurd (cc)
  unnamed_end status (Err stop.Words) h none = h.1.0
  unnamed_end status (Err stop.Load) h none = let named = h.0.1.1 in absurd (cc)
  unnamed_end status (Err (stop.Refused why)) h none = let named = h.0.given.named in absurd (cc)
  unnamed_end status (Err (stop.Unhealed why)) h none = let named = h.0.given.named in absurd (cc)
  unnamed_end status (Err stop.Save) h none = let named = h.0.given.named in absurd (cc)
  unnamed_end status (Err stop.Memory) (inl end, told) none = let named = end.1.1 in absurd (cc)
  unnamed_end status (Err stop.Memory) (inr end, told) none = let named = end.given.named in absurd (cc)

  pub unnamed : (status : ℕ) → Ended status → names ≡ None → status ≡ 2
  unnamed status h none = unnamed_end status h.ended h.told none

  -- ---- what began
  not_words : (ks image : List ℕ) → Began kind ks image t.old → AreNotSpared ks image (length t.old) → ⊥
  not_words ks image b n =
      let l = b.is_loaded.load in
      n.bad b.loaded.settings (subst (λ (x : ImageRows). AreSettingsOf x b.loaded.settings) (same_rows l.rows n.rows image l.taken.text n.text) l.settings)
      b.is_loaded.spared

  module _ (held : List ℕ) (holds : t.keeper.held ≡ Some held) where
    -- what was refused is what the keeper held
    given_refused : (ks image : List ℕ) → IsGiven names ks t.keeper image → AreRefused names held (length t.old) → AreRefused (Some ks) image (length t.old)
    given_refused ks image g h =
        subst (λ (b : List ℕ). AreRefused (Some ks) b (length t.old)) (sym (g.held held holds)) (subst (λ o. AreRefused o held (length t.old)) g.named h)

    refused_given : (ks image : List ℕ) → IsGiven names ks t.keeper image → AreRefused (Some ks) image (length t.old) → AreRefused names held (length t.old)
    refused_given ks image g h =
        subst (λ o. AreRefused o held (length t.old)) (sym g.named) (subst (λ (b : List ℕ). AreRefused (Some ks) b (length t.old)) (g.held held holds) h)

    began_spared : (ks image : List ℕ) → IsGiven names ks t.keeper image → image ≢ [] → Began kind ks image t.old → AreRefused names held (length t.old) → ⊥
    began_spared ks image g some b h = not_words ks image b (some_refused ks image (length t.old) some (given_refused ks image g h))

    refused_end : (status : ℕ) (r : Result (List ℕ) Stop) → IsSo status r → status ≢ 7 → status ≢ 8 → AreRefused names held (length t.old) → status ≡ 2
    refused_end status (Ok lines) ((ks, image, g, inl none), says) ne7 ne8 h =
        absurd (subst (λ (b : List ℕ). AreRefused (Some ks) b (length t.old)) none.0 (given_refused ks image g h))
    refused_end status (Ok lines) ((ks, image, g, inr some), says) ne7 ne8 h = absurd (began_spared ks image g some.0 some.1.began h)
    refused_end status (Err stop.Words) so ne7 ne8 h = so.1.0
    refused_end status (Err stop.Load) so ne7 ne8 h = absurd (ne8 so.1.0)
    refused_end status (Err (stop.Refused why)) (e, told) ne7 ne8 h =
        absurd (e.cause.1.not_words (some_refused e.ks e.image (length t.old) e.some (given_refused e.ks e.image e.given h)))
    refused_end status (Err (stop.Unhealed why)) (e, told) ne7 ne8 h = absurd (began_spared e.ks e.image e.given e.some e.cause.began h)
    refused_end status (Err stop.Save) (e, told) ne7 ne8 h = absurd (began_spared e.ks e.image e.given e.some e.cause.began h)
    refused_end status (Err stop.Memory) so ne7 ne8 h = absurd (ne7 so.1.0)

    words_refused : IsEnd kind names t stop.Words → AreRefused names held (length t.old)
    words_refused (same, inl none) = subst (λ o. AreRefused o held (length t.old)) (sym none) tt
    words_refused (same, inr e) = refused_given e.ks e.image e.given (refused_some e.ks e.image (length t.old) e.some e.cause.1)

    pub refused : (status : ℕ) → Ended status → (status ≡ 2) ↔ ((status ≢ 7) × (status ≢ 8) × AreRefused names held (length t.old))
    refused status h = (
      λ two. (λ seven. absurd (omega (arith, two, seven)), λ eight. absurd (omega (arith, two, eight)), words_refused (here 2 status h two).0),
      λ all. refused_end status h.ended h.told all.0 all.1 all.2,
    )

    -- ---- images
    module _ (ks : List ℕ) (named : names ≡ Some ks) where
      given_is : (js image : List ℕ) → IsGiven names js t.keeper image → (P : List ℕ → List ℕ → Type 0) → P js image → P ks held
      given_is js image g P h =
          subst (λ (x : List ℕ). P x held) (one_named names js ks g.named named) (subst (λ (b : List ℕ). P js b) (g.held held holds) h)

      is_given : (js image : List ℕ) → IsGiven names js t.keeper image → (P : List ℕ → List ℕ → Type 0) → P ks held → P js image
      is_given js image g P h =
          subst (λ (b : List ℕ). P js b) (sym (g.held held holds)) (subst (λ (x : List ℕ). P x held) (sym (one_named names js ks g.named named)) h)

      abbrev Bad : List ℕ → List ℕ → Type 0
      Bad js image = IsRefusedImage js (size_in kind t.old) image

      began_good : (js image : List ℕ) → IsGiven names js t.keeper image → Began kind js image t.old → Bad ks held → ⊥
      began_good js image g b h =
          let bad : Bad js image = is_given js image g Bad h in
          not_refused (is_server_in js) (size_in kind t.old) image b.loaded b.is_loaded.load bad.why bad.not_memory bad.refusal

      image_end : (status : ℕ) (r : Result (List ℕ) Stop) → IsSo status r → status ≢ 2 → status ≢ 4 → status ≢ 7 → status ≢ 8 → Bad ks held → status ≡ 6
      image_end status (Ok lines) ((js, image, g, inl none), says) ne2 ne4 ne7 ne8 bad = absurd (bad.some (sym (g.held held holds) ∙ none.0))
      image_end status (Ok lines) ((js, image, g, inr some), says) ne2 ne4 ne7 ne8 bad = absurd (began_good js image g some.1.began bad)
      image_end status (Err stop.Words) so ne2 ne4 ne7 ne8 bad = absurd (ne2 so.1.0)
      image_end status (Err stop.Load) so ne2 ne4 ne7 ne8 bad = absurd (ne8 so.1.0)
      image_end status (Err (stop.Refused why)) (e, told) ne2 ne4 ne7 ne8 bad = elim told.status_is [ inl six ↦ six | inr four ↦ absurd (ne4 four) ]
      image_end status (Err (stop.Unhealed why)) (e, told) ne2 ne4 ne7 ne8 bad = absurd (began_good e.ks e.image e.given e.cause.began bad)
      image_end status (Err stop.Save) (e, told) ne2 ne4 ne7 ne8 bad = absurd (began_good e.ks e.image e.given e.cause.began bad)
      image_end status (Err stop.Memory) so ne2 ne4 ne7 ne8 bad = absurd (ne7 so.1.0)

      refused_image : (why : LoadError) → IsUndone kind names t (stop.Refused why) → Bad ks held
      refused_image why e = given_is e.ks e.image e.given Bad (record {
        some = e.some;
        why = why;
        refusal = e.cause.1.refusal;
        not_memory = e.cause.1.not_memory;
      })

      pub image : (status : ℕ) → Ended status
          → (status ≡ 6) ↔ ((status ≢ 2) × (status ≢ 4) × (status ≢ 7) × (status ≢ 8) × IsRefusedImage ks (size_in kind t.old) held)
      image status h = (
        λ six. (
          λ two. absurd (omega (arith, six, two)),
          λ four. absurd (omega (arith, six, four)),
          λ seven. absurd (omega (arith, six, seven)),
          λ eight. absurd (omega (arith, six, eight)),
          (let d = here 6 status h six in refused_image d.0 d.1),
        ),
        λ all. image_end status h.ended h.told all.0 all.1 all.2 all.3 all.4,
      )

      -- ---- syncs
      synced_over : (js bytes lines : List ℕ) → WasHealed kind js bytes t lines → AreSynced kind js t.old t.new bytes
      synced_over js bytes lines h x text k below up =
          let b = h.began in
          let l = b.is_loaded.load in
          let there : k < l.rows.header.servers = subst (λ (y : ImageRows). k < y.header.servers) (same_rows x l.rows bytes text l.taken.text) below in
          let known : k < b.loaded.settings.servers = omega (arith, there, l.settings.servers) in
          let last = h.kept.synced k (subst (λ (s : Settings). k < s.servers) (sym b.settings) known) (b.down k ∙ up) in
          let enough : k < length t.old = omega (arith, known, b.is_loaded.spared.stores_are) in
          let whole = h.kept.whole in
          let still = passed_syncs kind b.replicas b.loaded.settings t.old whole.middle whole.made.passed in
          (enough, λ d low. omega (arith, last.1 d low, still k d enough))

      pub synced : (status : ℕ) → Ended status → held ≢ [] → status ≡ 0 → AreSynced kind ks t.old t.new held
      synced status h some zero = by (here 0 status h zero)
        where
          by : AtEnd 0 → AreSynced kind ks t.old t.new held
          by (lines, (js, bytes, g, inl none), says) = absurd (some (sym (g.held held holds) ∙ none.0))
          by (lines, (js, bytes, g, inr done), says) = given_is js bytes g (λ xs b. AreSynced kind xs t.old t.new b) (synced_over js bytes lines done.1)

      -- ---- faults
      fault_of : (js bytes : List ℕ) (why : Fault) → WasStopped kind js bytes t (stop.Unhealed why) → HasFault kind js t.old t.new bytes why
      fault_of js bytes why h =
          let b = h.began in
          let l = b.is_loaded.load in
          let p = h.cause.2 in
          record {
            rows = l.rows;
            map = metadata_at b.loaded.kv b.loaded.kv.number;
            text = l.taken.text;
            says = l.store.map;
            settings = b.loaded.settings;
            settings_are = l.settings;
            spared = b.is_loaded.spared;
            before = p.before;
            before_is = record {
              stores_are = p.before_is.stores_are;
              settings_are = p.before_is.settings_are;
              down = λ k. ap (λ (r : Replicas). is_down r k) p.before_is.replicas_are ∙ b.down k;
            };
            after = p.after;
            after_is = record {
              stores_are = p.after_is.stores_are;
              settings_are = p.after_is.settings_are;
              down = λ k. ap (λ (r : Replicas). is_down r k) p.after_is.replicas_are ∙ b.down k;
            };
            cause = p.did;
          }

      pub fault_cause : (status : ℕ) → Ended status → status ≡ 11 → (text : List ℕ) → (s.view s.old).taken ≡ Some text
          → (why : Fault) × ((s.view s.new).taken ≡ Some (text ++ fault_line why)) × HasFault kind ks t.old t.new held why
      fault_cause status h eleven text taken =
          let d = here 11 status h eleven in (
            d.0,
            d.2.whole refl text taken,
            given_is d.1.ks d.1.image d.1.given (λ xs b. HasFault kind xs t.old t.new b d.0) (fault_of d.1.ks d.1.image d.0 d.1.cause),
          )

  -- ---- where the keeper holds nothing
  module _ (holds : t.keeper.held ≡ Some []) where
    abbrev Nothing : ℕ → Type 0
    Nothing status = (status ≢ 5) × (status ≢ 6) × (status ≢ 11) × (t.new ≡ t.old) × t.handed []

    lies : (js bytes : List ℕ) → IsGiven names js t.keeper bytes → bytes ≢ [] → ⊥
    lies js bytes g some = some (g.held [] holds)

    nothing_by : (n status : ℕ) → status ≡ n → n ≢ 5 → n ≢ 6 → n ≢ 11 → IsUntouchedIn t → Nothing status
    nothing_by n status is five six eleven h = (λ e. five (sym is ∙ e), λ e. six (sym is ∙ e), λ e. eleven (sym is ∙ e), h.stores, h.keeper)

    empty_end : (status : ℕ) (r : Result (List ℕ) Stop) → IsSo status r → Nothing status
    empty_end status (Ok lines) ((js, bytes, g, inl none), says) = (
      not_said lines 0 5 status says (λ e. absurd (omega (arith, e))) (λ e. absurd (omega (arith, e))),
      not_said lines 0 6 status says (λ e. absurd (omega (arith, e))) (λ e. absurd (omega (arith, e))),
      not_said lines 0 11 status says (λ e. absurd (omega (arith, e))) (λ e. absurd (omega (arith, e))),
      none.1.stores,
      none.1.keeper,
    )
    empty_end status (Ok lines) ((js, bytes, g, inr some), says) = absurd (lies js bytes g some.0)
    empty_end status (Err stop.Words) so =
        nothing_by 2 status so.1.0 (λ e. absurd (omega (arith, e))) (λ e. absurd (omega (arith, e))) (λ e. absurd (omega (arith, e))) so.0.0
    empty_end status (Err stop.Load) so =
        nothing_by 8 status so.1.0 (λ e. absurd (omega (arith, e))) (λ e. absurd (omega (arith, e))) (λ e. absurd (omega (arith, e))) so.0.0
    empty_end status (Err (stop.Refused why)) (e, told) = absurd (lies e.ks e.image e.given e.some)
    empty_end status (Err (stop.Unhealed why)) (e, told) = absurd (lies e.ks e.image e.given e.some)
    empty_end status (Err stop.Save) (e, told) = absurd (lies e.ks e.image e.given e.some)
    empty_end status (Err stop.Memory) (inl end, told) =
        nothing_by 7 status told.0 (λ e. absurd (omega (arith, e))) (λ e. absurd (omega (arith, e))) (λ e. absurd (omega (arith, e))) end.0
    empty_end status (Err stop.Memory) (inr e, told) = absurd (lies e.ks e.image e.given e.some)

    pub empty : (status : ℕ) → Ended status → Nothing status
    empty status h = empty_end status h.ended h.told

    pub nothing : (status : ℕ) → Ended status → status ≡ 0 → (text : List ℕ) → (s.view s.old).taken ≡ Some text
        → (s.view s.new).taken ≡ Some (text ++ done_lines 0 0)
    nothing status h zero text taken = by (here 0 status h zero)
      where
        by : AtEnd 0 → (s.view s.new).taken ≡ Some (text ++ done_lines 0 0)
        by (lines, (js, bytes, g, inl none), says) = says.whole refl text taken ∙ ap (λ (l : List ℕ). Some (text ++ l)) none.2
        by (lines, (js, bytes, g, inr some), says) = absurd (lies js bytes g some.0)

  -- ---- causes
  pub sink_cause : (status : ℕ) → Ended status → status ≡ 4 → Rose (s.view s.old).faults (s.view s.new).faults
  sink_cause status h four = here 4 status h four

  pub keeper_cause : (status : ℕ) → Ended status → status ≡ 8 → Rose t.keeper.faults t.keeper_now.faults
  keeper_cause status h eight = (here 8 status h eight).0.2

  unsaved : KindLaws kind → (ks image : List ℕ) → WasStopped kind ks image t stop.Save
      → IsSaveFault kind t.handed ks t.old t.new (t.keeper, t.keeper_now)
  unsaved laws ks bytes h = elim h.cause.cause [
    | inl store ↦ (let (k, known, up, rise) = store.0 in let whole = h.cause.whole in inl (
      k,
      sym (h.began.down k) ∙ up,
      rose_behind laws h.began.replicas h.began.loaded.settings t.old whole.middle t.new whole.made.passed k rise,
      store.1,
    ))
    | inr keeper ↦ inr keeper.2
  ]

  pub save_cause : KindLaws kind → (status : ℕ) → Ended status → status ≡ 5
      → (ks : List ℕ) × (names ≡ Some ks) × IsSaveFault kind t.handed ks t.old t.new (t.keeper, t.keeper_now)
  save_cause laws status h five = let e = (here 5 status h five).0 in (e.ks, e.given.named, unsaved laws e.ks e.image e.cause)
