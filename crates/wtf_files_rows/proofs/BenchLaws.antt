-- What a bench holds goes on holding.
use Rattle.std.proofs.Common.{◌≡◌, ℕ, ◌+◌, ◌≤◌, ◌<◌, nat_eq, nat_le, cond, Bool, true, false, List, [], ◌∷◌, ◌++◌, length, Option, Some, None, refl, sym, ap}
use Rattle.std.proofs.Common.{◌∙◌, subst, ⊎_elim, arith}
use Rattle.std.specs.Prelude.{IsTrue, IfSome, OnOk, OnErr, Result, Ok, Err, if◌then◌else◌}
use Rattle.std.specs.Set.{remove_key}
use Rattle.std.specs.BTreeMap.{is_at}
use Rattle.std.proofs.lemmas.Bool.{cases_Bool, eqb-true, eq-eqb}
use Rattle.std.proofs.lemmas.List.Elements.{All-nil}
use Rattle.wtf_base.specs.declared.fault.Fault.{Fault}
use Rattle.wtf_base.specs.declared.settings.Settings.{Settings}
use Rattle.wtf_base.specs.declared.slice.Slice.{Slice}
use Rattle.wtf_dev.specs.Memory.{StoreState, mem_store}
use Rattle.wtf_dev.specs.MemoryLaws.{mem_store_laws}
use Rattle.wtf_kv.specs.Seen.{last_seen, value_seen}
use Rattle.wtf_kv.specs.Stores.{Store, is_pinned, times_pinned, versions_of, IsPinnedOnceMore}
use Rattle.wtf_kv.proofs.PinLaws.{any-count, count-any}
use Rattle.wtf_overlay.specs.Origin.{Place, part_origin}
use Rattle.wtf_overlay.specs.declared.part.Part.TheVariants.{Held}
use Rattle.wtf_model.specs.declared.answer.Answer.{Answer}
use Rattle.wtf_model.specs.declared.answer.Answer.TheVariants as answer
use Rattle.wtf_model.specs.declared.answer.Word.{Word}
use Rattle.wtf_values.specs.declared.key.Key.{Key}
use Rattle.wtf_values.specs.declared.value.Value.{Value}
use Rattle.wtf_values.specs.Keys.{key_cmp}
use Rattle.wtf_meta.specs.Bytes.{SliceBytes, ValueBytes, MapBytes, any_slice}
use Rattle.wtf_meta.specs.Maps.{Map, AllFit, metadata_at}
use Rattle.wtf_meta.proofs.MapBytes.{with_bytes}
use Rattle.wtf_meta.proofs.Nothing.{nothing_kept}
use Rattle.wtf_region.specs.declared.dev.Dev.{Dev}
use Rattle.wtf_region.specs.Devs.{GoesOn, stores, remembered, inside_of}
use Rattle.wtf_region.specs.Cached.{AreFrom, CacheInside}
use Rattle.wtf_region.specs.Inside.{is_inside, IsStoredInside}
use Rattle.wtf_region.proofs.InsideLaws.{inside_stays}
use Rattle.wtf_replay.specs.Views.{TxnView, begun}
use Rattle.wtf_replay.specs.Fits.{IsFit}
use Rattle.wtf_replay.specs.Insides.{IsInsideTxn}
use Rattle.wtf_replay.specs.Refusals.{try_refusal}
use Rattle.wtf_replay.specs.Replays.{IsTxnOver}
use Rattle.wtf_replay.specs.Tried.{KeepsMaps, KeepsPins, IsAttempted}
use Rattle.wtf_replay.proofs.Insiding.{map_later}
use Rattle.wtf_files_rows.specs.Benches.{IsTxnLent, IsTxnHeld}

-- a first value of a key brings no byte but its own
module _ (P : List Place → Bool) (Q : Slice → Bool) (v : Value) (m n : ℕ) where
  one_bytes : (b : Bool) → ValueBytes P Q (Some v) → ValueBytes P Q (value_seen (cond b (Some (m, Some v)) None))
  one_bytes true here = here
  one_bytes false here = tt

  which_bytes : (b : Bool) (vs : List (ℕ × Option Value)) → ValueBytes P Q (Some v) → ValueBytes P Q (value_seen (last_seen n vs))
      → ValueBytes P Q (value_seen (last_seen n (cond b ((m, Some v) ∷ []) vs)))
  which_bytes true vs here rest = one_bytes (nat_le m n) here
  which_bytes false vs here rest = rest

pub seeded_bytes : (P : List Place → Bool) (Q : Slice → Bool) (old new : Store Key Value) (k : Key) (v : Value) (n : ℕ)
    → ((q : Key) → versions_of key_cmp new q ≡ cond (is_at (key_cmp k) q) ((old.number, Some v) ∷ []) (versions_of key_cmp old q))
    → ValueBytes P Q (Some v) → MapBytes P Q (metadata_at old n) → MapBytes P Q (metadata_at new n)
seeded_bytes P Q old new k v n are here map q =
    subst (λ vs. ValueBytes P Q (value_seen (last_seen n vs))) (sym (are q))
    (which_bytes P Q v old.number n (is_at (key_cmp k) q) (versions_of key_cmp old q) here (map q))

-- what is lent goes on
pub lent_on : (old new : Dev StoreState) → IsTxnLent (stores old) old.replicas.now old.ring.now old.cache.now old.settings → GoesOn mem_store old new []
    → IsTxnLent (stores new) old.replicas.now old.ring.now new.cache.now old.settings
lent_on old new was on = record {
  replicas_are = was.replicas_are;
  ring_is = was.ring_is;
  enough = subst (λ (s : Settings). s.servers ≤ length (stores new)) on.settings on.sound.shelf;
  places_are = subst (λ r. AreFrom r.now new.cache.now.places) on.ring on.sound.cache;
  lists_are = subst (λ (s : Settings). CacheInside (is_inside mem_store (stores new) s) (remembered new)) on.settings on.sound.lists;
}

-- and a map that lay inside the stores does
pub now_on : (old new : Dev StoreState) (w : Map) → old.settings.servers ≤ length (stores old) → GoesOn mem_store old new []
    → IsStoredInside mem_store (stores old) old.settings w → IsStoredInside mem_store (stores new) old.settings w
now_on old new w enough on here = map_later mem_store_laws on.each old.settings enough w here

-- and a slice whose bytes did
pub slice_on : (old new : Dev StoreState) (s : Slice) → old.settings.servers ≤ length (stores old) → GoesOn mem_store old new []
    → SliceBytes (inside_of mem_store old) s → SliceBytes (inside_of mem_store new) s
slice_on old new s enough on here = λ i below.
    let places = part_origin (Held s) i in
    subst (λ (x : Settings). is_inside mem_store (stores new) x places ≡ true) (sym on.settings)
    (inside_stays mem_store_laws on.each old.settings enough places (here i below))

-- a number that was pinned once more is pinned, where a pin was taken that was there before
pub still_pinned : (kv mid left after : Store Key Value) (n b : ℕ) → IsPinnedOnceMore n kv mid → KeepsPins mid left → IsPinnedOnceMore b after left
    → IsTrue (is_pinned kv b) → IsTrue (is_pinned after n)
still_pinned kv mid left after n b more keeps fewer pinned =
    let some = count-any b kv.pins pinned in
    let up : times_pinned mid n ≡ times_pinned kv n + 1 = more n ∙ ap (λ q. times_pinned kv n + (if q then 1 else 0)) (eq-eqb n n refl) in
    let same : times_pinned left n ≡ times_pinned mid n = keeps n in
    ⊎_elim
    (λ here.
    let down : times_pinned left n ≡ times_pinned after n + 1 = fewer n ∙ ap (λ q. times_pinned after n + (if q then 1 else 0)) here in
    let one : 0 < times_pinned kv n = subst (λ m. 0 < times_pinned kv m) (sym (eqb-true n b here)) some in
    any-count n after.pins (omega (arith, up, same, down, one)))
    (λ other.
    let down : times_pinned left n ≡ times_pinned after n + 0 = fewer n ∙ ap (λ q. times_pinned after n + (if q then 1 else 0)) other in
    any-count n after.pins (omega (arith, up, same, down)))
    (cases_Bool (nat_eq n b))

-- a commit leaves the base
pub base_stays : (r : Result Answer Fault) (old new : TxnView) → OnOk r (IsTxnOver old new) → OnErr r (new ≡ old) → new.at.base ≡ old.at.base
base_stays (Ok a) old new over err = over.base
base_stays (Err why) old new over err = ap (λ (x : TxnView). x.at.base) err

module _ (shelf : List StoreState) (settings : Settings) where
  abbrev IsIn : Map → Type 0
  IsIn w = IsStoredInside mem_store shelf settings w

  -- a transaction that has only begun is held by a store that it fits
  pub held_begun : (kv : Store Key Value) (x : TxnView) (tx n : ℕ) → x ≡ begun tx n → IsFit kv x → IsIn (metadata_at kv n) → IsIn (metadata_at kv kv.number)
      → IsTxnHeld shelf settings kv x
  held_begun kv x tx n is fit base now = record {
    fit = fit;
    inside = subst (λ (y : TxnView). IsInsideTxn mem_store shelf settings kv y) (sym is) (record {
      hand = record { base = base; changes = tt; slices = nothing_kept (is_inside mem_store shelf settings) };
      log = All-nil _;
    });
    now = now;
  }

  -- One that has begun is held where another one has ended since: kv as it was, mid with the pin of its base, left by the
  -- commit of the other one, and after that one's pin was taken.
  pub held_next : (kv mid left after : Store Key Value) (x : TxnView) (tx b : ℕ) → x ≡ begun tx kv.number → mid ≡ record kv { pins = kv.pins ++ kv.number ∷ [] }
      → IsPinnedOnceMore kv.number kv mid → IsFit mid x
      → KeepsMaps mid left → KeepsPins mid left → after ≡ record left { pins = remove_key (nat_eq b) left.pins } → IsPinnedOnceMore b after left
      → IsTrue (is_pinned kv b)
      → IsIn (metadata_at kv kv.number) → IsIn (metadata_at left left.number) → IsTxnHeld shelf settings after x
  held_next kv mid left after x tx b is mid_is more fit maps pins after_is fewer pinned base now =
      let n = kv.number in
      let up : mid.number ≡ n = ap (λ (s : Store Key Value). s.number) mid_is in
      let from_mid : metadata_at after n ≡ metadata_at mid n = ap (λ (s : Store Key Value). metadata_at s n) after_is ∙ maps n (omega (arith, up)) in
      let from_kv : metadata_at mid n ≡ metadata_at kv n = ap (λ (s : Store Key Value). metadata_at s n) mid_is in
      let base_is : x.at.base ≡ n = ap (λ (y : TxnView). y.at.base) is in
      let there : IsTrue (is_pinned after n) = still_pinned kv mid left after n b more pins fewer pinned in
      held_begun after x tx n is
      (record {
        pinned = subst (λ m. IsTrue (is_pinned after m)) (sym base_is) there;
        fits = subst (λ (y : TxnView). AllFit y.at.changes (metadata_at after y.at.base)) (sym is) refl;
        log = fit.log;
        most = fit.most;
      })
      (subst IsIn (sym (from_mid ∙ from_kv)) base)
      (subst (λ (s : Store Key Value). IsIn (metadata_at s s.number)) (sym after_is) now)

  -- and one that was tried, by what came of it
  module _ (kv after : Store Key Value) (x y : TxnView) (held : IsTxnHeld shelf settings kv x) (maps : KeepsMaps kv after) (fit : IsFit after y)
      (below : x.at.base ≤ kv.number) where
    held_attempted : (a : Answer) → IsAttempted kv after x y a → IsTxnHeld shelf settings after y
    held_attempted (answer.Committed n) did = record {
      fit = fit;
      inside = subst (λ (z : TxnView). IsInsideTxn mem_store shelf settings after z) (sym did.is) (record {
        hand = record {
          base = subst IsIn (sym (maps x.at.base below)) held.inside.hand.base;
          changes = held.inside.hand.changes;
          slices = held.inside.hand.slices;
        };
        log = held.inside.log;
      });
      now = subst (λ m. IsIn (metadata_at after m)) (sym did.installed.number)
          (subst IsIn (sym did.installed.map) (with_bytes (is_inside mem_store shelf settings) any_slice refl x.at.changes
          (metadata_at kv kv.number) held.now held.inside.hand.changes));
    }
    held_attempted (answer.Retry b n) did =
        let here : IsIn (metadata_at after kv.number) = subst IsIn (sym (maps kv.number (omega arith))) held.now in
        record {
          fit = fit;
          inside = subst (λ (z : TxnView). IsInsideTxn mem_store shelf settings after z) (sym did.is) (record {
            hand = record {
              base = subst (λ m. IsIn (metadata_at after m)) (sym did.number_is) here;
              changes = tt;
              slices = nothing_kept (is_inside mem_store shelf settings);
            };
            log = held.inside.log;
          });
          now = subst (λ m. IsIn (metadata_at after m)) (sym did.number) here;
        }
    held_attempted a did = absurd did

    held_by : (A : Word → Type 0) (o : Option Word) (a : Answer) → IfSome o (λ w. A w × (y ≡ x) × (after ≡ kv)) → (o ≡ None → IsAttempted kv after x y a)
        → IsTxnHeld shelf settings after y
    held_by A None a refused tried = held_attempted a (tried refl)
    held_by A (Some w) a refused tried = subst (λ (z : TxnView). IsTxnHeld shelf settings after z) (sym refused.1)
        (subst (λ (s : Store Key Value). IsTxnHeld shelf settings s x) (sym refused.2) held)

    pub held_tried : (A : Word → Type 0) (a : Answer) → IfSome (try_refusal x) (λ w. A w × (y ≡ x) × (after ≡ kv))
        → (try_refusal x ≡ None → IsAttempted kv after x y a) → IsTxnHeld shelf settings after y
    held_tried A a refused tried = held_by A (try_refusal x) a refused tried
