-- How the parts of a run end, over the whole of it.
use Rattle.std.proofs.Common.{◌≡◌, ◌≢◌, ◌⊎◌, ℕ, ◌<◌, ◌≤◌, ◌^◌, ◌++◌, Bool, true, false, nat_eq, List, [], ◌∷◌, length, get_or, Option, Some, refl, sym, ap, ◌∙◌}
use Rattle.std.proofs.Common.{subst, arith, inl, inr}
use Rattle.std.specs.Prelude.{◌==◌, MatchBool}
use Rattle.std.specs.List.{All}
use Rattle.std.proofs.lemmas.Bool.{cases_lt, eq-eqb, ne_eqb, or_from, false≢true}
use Rattle.std.proofs.lemmas.List.Elements.{All-head, All-tail}
use Rattle.wtf_base.specs.declared.fault.Fault.{Fault}
use Rattle.wtf_base.specs.declared.fault.Fault.TheVariants as fault
use Rattle.wtf_base.specs.declared.settings.Settings.{Settings}
use Rattle.wtf_dev.specs.Counts.{Rose}
use Rattle.wtf_dev.specs.Each.{EachFollows}
use Rattle.wtf_dev.specs.Keep.{KeeperView, KeeperKept}
use Rattle.wtf_dev.specs.Store.{StoreKind, KindLaws}
use Rattle.wtf_dev.proofs.Each.{each_on, each_same}
use Rattle.wtf_replica.specs.declared.replicas.Replicas.{Replicas}
use Rattle.wtf_replica.specs.Downs.{is_down, during}
use Rattle.wtf_replica.specs.Outs.{IsLeftDown}
use Rattle.wtf_meta.specs.Maps.{metadata_at}
use Rattle.wtf_image.specs.declared.error.LoadError.{LoadError}
use Rattle.wtf_image.specs.declared.error.LoadError.TheVariants as error
use Rattle.wtf_image.specs.declared.loads.Loaded.{Loaded}
use Rattle.wtf_image.specs.Images.{HasText}
use Rattle.wtf_image.specs.Kept.{IsKept}
use Rattle.wtf_image.specs.Loading.{AreSettingsOf, IsChecked, IsCheckRefusal, IsRefusalWithout}
use Rattle.wtf_image.specs.Outcome.{IsLoadWithout}
use Rattle.wtf_image.specs.Rows.{ImageRows}
use Rattle.wtf_image.specs.Rules.{AreGoodSettings, is_lost, size_in}
use Rattle.wtf_image.specs.Savable.{IsSavable}
use Rattle.wtf_image.specs.Saving.{IsSaveOf}
use Rattle.wtf_image.specs.Tables.{shown}
use Rattle.wtf_region.specs.declared.dev.Dev.{Dev}
use Rattle.wtf_region.specs.Devs.{stores}
use Rattle.wtf_healer.specs.declared.ends.Stop.{Stop}
use Rattle.wtf_healer.specs.declared.ends.Stop.TheVariants as stop
use Rattle.wtf_healer.specs.declared.lost.Lost.{Lost}
use Rattle.wtf_healer.specs.declared.regions.Healed.{Healed}
use Rattle.wtf_healer.specs.Ends.{RunSpan, OnlyHealed, WasMade, IsMakeStop, WasWhole, IsUnsaved, IsPassStop, AreLostSame, IsLoadedFor, IsLoadStop, Began}
use Rattle.wtf_healer.specs.Ends.{WasHealed, IsUntouchedIn, IsStop, run_span, IsGiven, HasHealed, IsUndone, IsEarly, IsEnd, GoesBy}
use Rattle.wtf_healer.specs.Lines.{done_lines}
use Rattle.wtf_healer.specs.Regions.{AreHealed, IsHealFault}
use Rattle.wtf_healer.specs.Runs.{AreNotSpared}
use Rattle.wtf_healer.specs.Spared.{AreSpared, IsLostOf, left_of}
use Rattle.wtf_healer.specs.Steps.{IsPutIn, IsKeepFault, CanHealOver, Passed}
use Rattle.wtf_healer.specs.Words.{is_server_in}
use Rattle.wtf_healer.proofs.Inside.{can_heal}
use Rattle.wtf_healer.proofs.Passes.{passed_follows}
use Rattle.wtf_healer.proofs.Proving.{same_rows}

-- ---- a pass

module _ {S : Type 0} {Did : Dev S → Dev S → Type 0} (kind : StoreKind S) (replicas : Replicas) (settings : Settings) (old new : List S)
    (p : Passed kind replicas settings old new Did) where
  -- none of a server that is down was touched
  pub passed_down : IsLeftDown (during replicas old new)
  passed_down k d down =
      let out : is_down p.before.replicas.now k ≡ true = ap (λ (r : Replicas). is_down r k) p.before_is.replicas_are ∙ down in
      ap (λ (a : List S). get_or a k d) (sym p.after_is.stores_are) ∙ p.stored.down k d out ∙ ap (λ (b : List S). get_or b k d) p.before_is.stores_are

-- what a pass did, whole or not
abbrev pub IsUnhealed : {S : Type 0} → StoreKind S → Replicas → Loaded → (old new : List S) → Fault → Type 0
IsUnhealed kind replicas l old new why = ((why ≡ fault.Memory) × (new ≡ old))
    ⊎ Passed kind replicas l.settings old new (λ before after. IsHealFault kind before after (metadata_at l.kv l.kv.number) why)

pub passed_only : {S : Type 0} {Did : Dev S → Dev S → Type 0} (kind : StoreKind S) (replicas : Replicas) (settings : Settings) (old new : List S)
    → Passed kind replicas settings old new Did → OnlyHealed kind replicas old new
passed_only kind replicas settings old new p =
    record { down = passed_down kind replicas settings old new p; follows = passed_follows kind replicas settings old new p }

pub fault_only : {S : Type 0} {kind : StoreKind S} → KindLaws kind → (replicas : Replicas) (l : Loaded) (old new : List S) (why : Fault)
    → IsUnhealed kind replicas l old new why → OnlyHealed kind replicas old new
fault_only {kind = kind} laws replicas l old new why (inl none) = record {
  down = λ k d down. ap (λ s. get_or s k d) none.1;
  follows = subst (λ s. EachFollows kind old s []) (sym none.1) (each_same laws old);
}
fault_only {kind = kind} laws replicas l old new why (inr p) = passed_only kind replicas l.settings old new p

-- two spans join
pub only_on : {S : Type 0} {kind : StoreKind S} → KindLaws kind → (replicas : Replicas) (old mid new : List S) → OnlyHealed kind replicas old mid
    → IsLeftDown (during replicas mid new) → EachFollows kind mid new [] → OnlyHealed kind replicas old new
only_on laws replicas old mid new one down follows = record {
  down = λ k d is. down k d is ∙ one.down k d is;
  follows = each_on laws one.follows follows;
}

-- why a pass was not whole
pub make_stop : {S : Type 0} (kind : StoreKind S) (replicas : Replicas) (l : Loaded) (old new : List S) (why : Fault) (told : Stop)
    → (why ≡ fault.Memory → told ≡ stop.Memory) → (why ≢ fault.Memory → told ≡ stop.Unhealed why)
    → IsUnhealed kind replicas l old new why → IsMakeStop kind replicas l old new told
make_stop kind replicas l old new why told memory other h = by why memory other h
  where
    known : (f : Fault) → f ≢ fault.Memory → (f ≢ fault.Memory → told ≡ stop.Unhealed f)
        → Passed kind replicas l.settings old new (λ before after. IsHealFault kind before after (metadata_at l.kv l.kv.number) f)
        → IsMakeStop kind replicas l old new told
    known f ne other h = subst (IsMakeStop kind replicas l old new) (sym (other ne)) (ne, h)

    by : (f : Fault) → (f ≡ fault.Memory → told ≡ stop.Memory) → (f ≢ fault.Memory → told ≡ stop.Unhealed f) → IsUnhealed kind replicas l old new f
        → IsMakeStop kind replicas l old new told
    by fault.Memory memory other h = subst (IsMakeStop kind replicas l old new) (sym (memory refl)) tt
    by (fault.Read k) memory other (inl none) = absurd (cc)
    by (fault.Read k) memory other (inr h) = known (fault.Read k) (λ e. absurd (cc)) other h
    by (fault.Damaged k) memory other (inl none) = absurd (cc)
    by (fault.Damaged k) memory other (inr h) = known (fault.Damaged k) (λ e. absurd (cc)) other h
    by fault.Write memory other (inl none) = absurd (cc)
    by fault.Write memory other (inr h) = known fault.Write (λ e. absurd (cc)) other h
    by (fault.Punch k) memory other (inl none) = absurd (cc)
    by (fault.Punch k) memory other (inr h) = known (fault.Punch k) (λ e. absurd (cc)) other h

-- what was not made was not handed over
pub pass_stop : {S : Type 0} (kind : StoreKind S) (replicas : Replicas) (l : Loaded) (t : RunSpan S) → t.handed [] → (why : Stop)
    → IsMakeStop kind replicas l t.old t.new why → IsPassStop kind replicas l t why
pass_stop kind replicas l t handed stop.Words h = absurd h
pass_stop kind replicas l t handed stop.Load h = absurd h
pass_stop kind replicas l t handed (stop.Refused why) h = absurd h
pass_stop kind replicas l t handed (stop.Unhealed why) h = (h.0, handed, h.1)
pass_stop kind replicas l t handed stop.Save h = absurd h
pass_stop kind replicas l t handed stop.Memory h = handed

-- a pass that was whole
pub was_made : {S : Type 0} (kind : StoreKind S) (replicas : Replicas) (l new : Loaded) (old middle : List S) (healed : Healed) (image lines : List ℕ)
    → Passed kind replicas l.settings old middle (λ before after. AreHealed kind before after (metadata_at l.kv l.kv.number) healed)
    → IsPutIn healed.changes l.kv new.kv → new.settings ≡ l.settings → new.next_tx ≡ l.next_tx → IsSaveOf new.kv new.settings new.next_tx image
    → (new.kv.number ≤ 2 ^ 62 → new.next_tx ≤ 2 ^ 62 → IsSavable new.settings.region new.next_tx (shown new.kv) → IsKept new.kv new.settings new.next_tx image)
    → lines ≡ done_lines (length healed.changes) healed.bytes → WasMade kind replicas l old middle image lines
was_made kind replicas l new old middle healed image lines passed put settings next saved kept lines_are = record {
  healed = healed;
  passed = passed;
  kv = new.kv;
  put = put;
  saved = subst (λ s. IsSaveOf new.kv s l.next_tx image) settings (subst (λ n. IsSaveOf new.kv new.settings n image) next saved);
  kept = λ few begun savable.
      subst (λ s. IsKept new.kv s l.next_tx image) settings
      (subst (λ n. IsKept new.kv new.settings n image) next
      (kept few (subst (λ n. n ≤ 2 ^ 62) (sym next) begun)
      (subst (λ (s : Settings). IsSavable s.region new.next_tx (shown new.kv)) (sym settings)
      (subst (λ n. IsSavable l.settings.region n (shown new.kv)) (sym next) savable))));
  lines_are = lines_are;
}

-- and why that was not kept
pub keep_stop : {S K : Type 0} (kind : StoreKind S) (view : K → KeeperView) (follows : K → K → List (List ℕ) → Type 0) (replicas : Replicas) (l : Loaded)
    (old new : List S) (held holds : K) (lines : List ℕ)
    → (w : WasWhole kind replicas l (run_span view follows (old, held) (new, holds)) lines) → follows held held []
    → IsKeepFault kind view follows replicas w.image (w.middle, held) (new, holds)
    → IsUnsaved kind replicas l (run_span view follows (old, held) (new, holds))
keep_stop kind view follows replicas l old new held holds lines w itself h = record {
  lines = lines;
  whole = w;
  cause = elim h [ inl store ↦ inl (store.0, subst (λ k. follows held k []) (sym store.1) itself) | inr keeper ↦ inr keeper ];
}

-- a pass that began does not end so early
pub not_early : {S : Type 0} (kind : StoreKind S) (replicas : Replicas) (l : Loaded) (t : RunSpan S) {A : Type 0} (why : Stop)
    → IsPassStop kind replicas l t why → IsEarly why → A
not_early kind replicas l t stop.Words h early = absurd h
not_early kind replicas l t stop.Load h early = absurd h
not_early kind replicas l t (stop.Refused why) h early = absurd h
not_early kind replicas l t (stop.Unhealed why) h early = absurd early
not_early kind replicas l t stop.Save h early = absurd early
not_early kind replicas l t stop.Memory h early = absurd early

-- ---- loading

-- what a test says where it is so, and where it is not
pub where_so : (P Q : Type 0) (b : Bool) → b ≡ true → MatchBool b P Q → P
where_so P Q true is h = h
where_so P Q false is h = absurd (false≢true is)

-- the same servers can be done without, where the numbers are the same
same_spared : (ks : List ℕ) (a b : Settings) (stores : ℕ) → a.servers ≡ b.servers → a.replicas ≡ b.replicas → AreSpared ks a stores → AreSpared ks b stores
same_spared ks a b stores servers replicas h = record {
  known = subst (λ n. All (λ k. k < n) ks) servers h.known;
  left = subst (λ n. n ≤ left_of (is_server_in ks) b.servers) replicas (subst (λ n. a.replicas ≤ left_of (is_server_in ks) n) servers h.left);
  stores_are = subst (λ n. n ≤ stores) servers h.stores_are;
}

module _ (ks : List ℕ) (lost : Lost) (of : IsLostOf ks lost) where
  -- the mask says which servers are lost
  pub mask_is : is_lost lost.mask ≡ is_server_in ks
  mask_is = λ i k. of.has k i

  module _ {S : Type 0} (kind : StoreKind S) (image : List ℕ) (shelf : List S) (settings : Settings) (checked : IsChecked image settings) where
    rows_are : (x : ImageRows) → HasText x image → x ≡ checked.rows
    rows_are x text = same_rows x checked.rows image text checked.text

    settings_for : (x : ImageRows) → HasText x image → AreSettingsOf x settings
    settings_for x text = subst (λ (y : ImageRows). AreSettingsOf y settings) (sym (rows_are x text)) checked.settings

    -- the image of these settings has a store for each server
    pub enough : AreSpared ks settings (length shelf) → (x : ImageRows) → HasText x image → AreGoodSettings x → x.header.servers ≤ length shelf
    enough spared x text good = omega (arith, (settings_for x text).servers, spared.stores_are)

    spared_by : (s : Settings) (x : ImageRows) → HasText x image → AreSettingsOf x s → AreSpared ks settings (length shelf) → AreSpared ks s (length shelf)
    spared_by s x text are spared =
        let was = settings_for x text in same_spared ks settings s (length shelf) (was.servers ∙ sym are.servers) (was.replicas ∙ sym are.replicas) spared

    pub not_spared : (AreSpared ks settings (length shelf) → ⊥) → AreNotSpared ks image (length shelf)
    not_spared bad = record {
      rows = checked.rows;
      text = checked.text;
      good = checked.good;
      bad = λ s are spared. bad (same_spared ks s settings (length shelf) (are.servers ∙ sym checked.settings.servers)
          (are.replicas ∙ sym checked.settings.replicas) spared);
    }

    pub loaded_for : (l : Loaded) → AreSpared ks settings (length shelf) → IsLoadWithout (is_lost lost.mask) (size_in kind shelf) image l
        → IsLoadedFor kind ks image shelf l
    loaded_for l spared h = record {
      load = subst (λ f. IsLoadWithout f (size_in kind shelf) image l) mask_is h;
      spared = spared_by l.settings h.rows h.taken.text h.settings spared;
    }

    -- why an image that can do without the lost servers was not loaded
    pub load_stop : (why : LoadError) (told : Stop) → (why ≡ error.Memory → told ≡ stop.Memory) → (why ≢ error.Memory → told ≡ stop.Refused why)
        → AreSpared ks settings (length shelf) → IsRefusalWithout (is_lost lost.mask) (size_in kind shelf) image why → IsLoadStop kind ks image shelf told
    load_stop why told memory other spared h = by why memory other h
      where
        known : (e : LoadError) → e ≢ error.Memory → (e ≢ error.Memory → told ≡ stop.Refused e)
            → IsRefusalWithout (is_lost lost.mask) (size_in kind shelf) image e → IsLoadStop kind ks image shelf told
        known e ne other h = subst (IsLoadStop kind ks image shelf) (sym (other ne)) (record {
          not_memory = ne;
          refusal = subst (λ f. IsRefusalWithout f (size_in kind shelf) image e) mask_is h;
          not_words = λ n. n.bad settings (settings_for n.rows n.text) spared;
        })

        by : (e : LoadError) → (e ≡ error.Memory → told ≡ stop.Memory) → (e ≢ error.Memory → told ≡ stop.Refused e)
            → IsRefusalWithout (is_lost lost.mask) (size_in kind shelf) image e → IsLoadStop kind ks image shelf told
        by error.Memory memory other h = subst (IsLoadStop kind ks image shelf) (sym (memory refl)) tt
        by error.NotAnImage memory other h = known error.NotAnImage (λ e. absurd (cc)) other h
        by error.BadTree memory other h = known error.BadTree (λ e. absurd (cc)) other h
        by error.PointerOutside memory other h = known error.PointerOutside (λ e. absurd (cc)) other h
        by error.BadSettings memory other h = known error.BadSettings (λ e. absurd (cc)) other h

-- why bytes were refused before any server was counted
pub check_stop : {S : Type 0} (kind : StoreKind S) (ks image : List ℕ) (shelf : List S) (why : LoadError) (told : Stop)
    → (why ≡ error.Memory → told ≡ stop.Memory) → (why ≢ error.Memory → told ≡ stop.Refused why) → IsCheckRefusal image why
    → IsLoadStop kind ks image shelf told
check_stop kind ks image shelf error.Memory told memory other h = subst (IsLoadStop kind ks image shelf) (sym (memory refl)) tt
check_stop kind ks image shelf error.NotAnImage told memory other h = subst (IsLoadStop kind ks image shelf) (sym (other (λ e. absurd (cc)))) (record {
  not_memory = λ e. absurd (cc);
  refusal = h;
  not_words = λ n. h n.rows n.text;
})
check_stop kind ks image shelf error.BadSettings told memory other h = subst (IsLoadStop kind ks image shelf) (sym (other (λ e. absurd (cc)))) (record {
  not_memory = λ e. absurd (cc);
  refusal = h;
  not_words = λ n. h.bad (subst AreGoodSettings (same_rows n.rows h.rows image n.text h.text) n.good);
})
check_stop kind ks image shelf error.BadTree told memory other h = absurd h
check_stop kind ks image shelf error.PointerOutside told memory other h = absurd h

-- ---- an image

-- the servers that are down are the lost ones
pub down_is : (ks : List ℕ) (lost : Lost) → IsLostOf ks lost → (settings : Settings) (stores : ℕ) → AreSpared ks settings stores → (replicas : Replicas)
    → ((k : ℕ) → k < settings.servers → is_down replicas k ≡ is_lost lost.mask k) → ((k : ℕ) → settings.servers ≤ k → is_down replicas k ≡ false)
    → (k : ℕ) → is_down replicas k ≡ is_server_in ks k
down_is ks lost of settings stores spared replicas below past k = elim (cases_lt k settings.servers) [
  | inl lt ↦ below k lt ∙ of.has k
  | inr le ↦ past k le ∙ sym (past_all le ks spared.known)
]
  where
    past_all : settings.servers ≤ k → (js : List ℕ) → All (λ j. j < settings.servers) js → is_server_in js k ≡ false
    past_all le [] all = refl
    past_all le (j ∷ js) all =
        let first : j < settings.servers = All-head (λ j. j < settings.servers) j js all in
        or_from (nat_eq k j) (is_server_in js k) (ne_eqb k j (λ e. absurd (omega (arith, e, first, le))))
        (past_all le js (All-tail (λ j. j < settings.servers) j js all))

-- what was loaded and then stopped
pub stop_over : {S : Type 0} (kind : StoreKind S) (ks image : List ℕ) (t : RunSpan S) → (b : Began kind ks image t.old) (why : Stop)
    → IsPassStop kind b.replicas b.loaded t why → IsStop kind ks image t why
stop_over kind ks image t b stop.Words h = absurd h
stop_over kind ks image t b stop.Load h = absurd h
stop_over kind ks image t b (stop.Refused why) h = absurd h
stop_over kind ks image t b (stop.Unhealed why) h = record { began = b; cause = h }
stop_over kind ks image t b stop.Save h = record { began = b; cause = h }
stop_over kind ks image t b stop.Memory h = h

-- what was not loaded
pub stop_before : {S : Type 0} (kind : StoreKind S) (ks image : List ℕ) (t : RunSpan S) → IsUntouchedIn t → (why : Stop) → IsLoadStop kind ks image t.old why
    → IsStop kind ks image t why
stop_before kind ks image t same stop.Words h = (same, h)
stop_before kind ks image t same stop.Load h = absurd h
stop_before kind ks image t same (stop.Refused why) h = (same, h)
stop_before kind ks image t same (stop.Unhealed why) h = absurd h
stop_before kind ks image t same stop.Save h = absurd h
stop_before kind ks image t same stop.Memory h = same.keeper

-- ---- from the image on
module _ {S : Type 0} (kind : StoreKind S) (ks : List ℕ) (lost : Lost) (of : IsLostOf ks lost) (image : List ℕ) (shelf : List S) (loaded : Loaded)
    (h : IsLoadedFor kind ks image shelf loaded) (replicas : Replicas) (settings : replicas.settings ≡ loaded.settings)
    (below : (k : ℕ) → k < loaded.settings.servers → is_down replicas k ≡ is_lost lost.mask k)
    (past : (k : ℕ) → loaded.settings.servers ≤ k → is_down replicas k ≡ false) where
  abbrev pub began : Began kind ks image shelf
  began = record {
    loaded = loaded;
    is_loaded = h;
    replicas = replicas;
    settings = settings;
    down = down_is ks lost of loaded.settings (length shelf) h.spared replicas below past;
  }

  pub can : CanHealOver kind shelf replicas loaded.settings (metadata_at loaded.kv loaded.kv.number)
  can = can_heal kind shelf replicas (is_server_in ks) image loaded (λ k lt. began.down k) h.load

  -- the stores of lost servers stay
  pub lost_stay : (new : List S) → OnlyHealed kind replicas shelf new → AreLostSame ks shelf new
  lost_stay new only k d among = only.down k d (began.down k ∙ among)

-- ---- from the keeper on

pub some_bytes : (bytes : List ℕ) (n : ℕ) → (n == 0) ≡ false → length bytes ≡ n → bytes ≢ []
some_bytes bytes n test len e = false≢true (sym test ∙ eq-eqb n 0 (sym len ∙ ap length e))

-- where nothing was touched
pub goes_untouched : {S : Type 0} {kind : StoreKind S} → KindLaws kind → (names : Option (List ℕ)) (t : RunSpan S) → t.new ≡ t.old → GoesBy kind names t
goes_untouched {kind = kind} laws names t same = record {
  lost = λ ks named k d among. ap (λ s. get_or s k d) same;
  follows = subst (λ s. EachFollows kind t.old s []) (sym same) (each_same laws t.old);
}

-- where only what is left was healed
pub goes_healed : {S : Type 0} (kind : StoreKind S) (ks : List ℕ) (t : RunSpan S) (replicas : Replicas) → OnlyHealed kind replicas t.old t.new
    → AreLostSame ks t.old t.new → GoesBy kind (Some ks) t
goes_healed kind ks t replicas only lost = record {
  lost = λ js named. subst (λ l. AreLostSame l t.old t.new) (one_of named) lost;
  follows = only.follows;
}
  where
    one_of : {js : List ℕ} → Some ks ≡ Some js → ks ≡ js
    one_of e = cc

-- a keeper that gave its bytes as b, which follows a, and is c behind a run
module _ {S K : Type 0} (kind : StoreKind S) (view : K → KeeperView) (follows : K → K → List (List ℕ) → Type 0)
    (on : (x y z : K) (xs ys : List (List ℕ)) → follows x y xs → follows y z ys → follows x z (xs ++ ys)) (a b c : K) (first : follows a b [])
    (kept : KeeperKept (view a) (view b) []) (old new : List S) where
  abbrev Late : RunSpan S
  Late = run_span view follows (old, b) (new, c)

  abbrev Whole : RunSpan S
  Whole = run_span view follows (old, a) (new, c)

  handed_late : (images : List (List ℕ)) → follows b c images → follows a c images
  handed_late images h = on a b c [] images first h

  pub goes_late : (names : Option (List ℕ)) (ks : List ℕ) → names ≡ Some ks → GoesBy kind (Some ks) Late → GoesBy kind names Whole
  goes_late names ks named h = record {
    lost = λ js is. h.lost js (sym named ∙ is);
    follows = h.follows;
  }

  abbrev whole_late : (replicas : Replicas) (l : Loaded) (lines : List ℕ) → WasWhole kind replicas l Late lines → WasWhole kind replicas l Whole lines
  whole_late replicas l lines h = record { middle = h.middle; image = h.image; made = h.made; follows = h.follows; lengths = h.lengths }

  -- what was healed behind that
  pub healed_late : (ks image lines : List ℕ) → WasHealed kind ks image Late lines → WasHealed kind ks image Whole lines
  healed_late ks image lines h =
      let k = h.kept in
      record {
        began = h.began;
        kept = record {
          whole = whole_late h.began.replicas h.began.loaded lines k.whole;
          synced = k.synced;
          handed = handed_late (k.whole.image ∷ []) k.handed;
          held = λ tells. k.held (kept.tells ∙ tells);
        };
      }

  untouched_late : IsUntouchedIn Late → IsUntouchedIn Whole
  untouched_late h = record { stores = h.stores; keeper = handed_late [] h.keeper }

  rose_late : Rose (view b).faults (view c).faults → Rose (view a).faults (view c).faults
  rose_late rose low = let later = rose low in let less = kept.faults in omega (arith, later, less)

  unsaved_late : (replicas : Replicas) (l : Loaded) → IsUnsaved kind replicas l Late → IsUnsaved kind replicas l Whole
  unsaved_late replicas l h = record {
    lines = h.lines;
    whole = whole_late replicas l h.lines h.whole;
    cause = elim h.cause [
      | inl store ↦ inl (store.0, handed_late [] store.1)
      | inr keeper ↦ inr (keeper.0, handed_late (h.whole.image ∷ []) keeper.1, rose_late keeper.2)
    ];
  }

  -- and why it was not
  pub stop_late : (ks image : List ℕ) (why : Stop) → IsStop kind ks image Late why → IsStop kind ks image Whole why
  stop_late ks image stop.Words h = (untouched_late h.0, h.1)
  stop_late ks image stop.Load h = absurd h
  stop_late ks image (stop.Refused why) h = (untouched_late h.0, h.1)
  stop_late ks image (stop.Unhealed why) h =
      record { began = h.began; cause = (h.cause.0, handed_late [] h.cause.1, h.cause.2) }
  stop_late ks image stop.Save h = record { began = h.began; cause = unsaved_late h.began.replicas h.began.loaded h.cause }
  stop_late ks image stop.Memory h = handed_late [] h

  -- with what the words and the keeper give
  module _ (names : Option (List ℕ)) (ks image : List ℕ) (given : IsGiven names ks (view a) image) (some : image ≢ []) where
    pub done_late : (lines : List ℕ) → WasHealed kind ks image Late lines → HasHealed kind names Whole lines
    done_late lines h = (ks, image, given, inr (some, healed_late ks image lines h))

    undone : (why : Stop) → IsStop kind ks image Late why → IsUndone kind names Whole why
    undone why h = record { ks = ks; image = image; given = given; some = some; cause = stop_late ks image why h }

    pub end_late : (why : Stop) → IsStop kind ks image Late why → IsEnd kind names Whole why
    end_late stop.Words h = (untouched_late h.0, inr (undone stop.Words h))
    end_late stop.Load h = absurd h
    end_late (stop.Refused why) h = undone (stop.Refused why) h
    end_late (stop.Unhealed why) h = undone (stop.Unhealed why) h
    end_late stop.Save h = undone stop.Save h
    end_late stop.Memory h = inr (undone stop.Memory h)
