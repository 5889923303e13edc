-- What the calls of a collector ask for holds after each of them.
use Rattle.std.proofs.Common.{
  ◌≡◌,
  ℕ,
  ◌+◌,
  ◌≤◌,
  nat_eq,
  nat_lt,
  count_by,
  cond,
  Bool,
  true,
  false,
  List,
  [],
  ◌∷◌,
  ◌++◌,
  length,
  Option,
  Some,
  None,
  IsTrue,
  refl,
  sym,
  ap,
  ◌∙◌,
  subst,
  ⊎_elim,
  arith,
}
use Rattle.std.specs.Prelude.{is_some, if◌then◌else◌, slice_index_or, ◌*◌}
use Rattle.std.specs.List.{list_any}
use Rattle.std.specs.Option.{option_map, unwrap_or}
use Rattle.std.proofs.lemmas.Bool.{or_left, or_right, or_cases, eqb-true, eq-eqb, cases_lt, cases_Bool, both_ways}
use Rattle.std.proofs.lemmas.Option.{slice_get_past}
use Rattle.wtf_base.proofs.Elements.{element}
use Rattle.wtf_base.specs.declared.fault.Fault.{Fault}
use Rattle.wtf_base.specs.declared.fault.Fault.TheVariants as fault
use Rattle.wtf_base.specs.declared.settings.Settings.{Settings}
use Rattle.wtf_dev.specs.Each.{EachFollows}
use Rattle.wtf_dev.specs.Memory.{StoreState, mem_store}
use Rattle.wtf_dev.specs.MemoryLaws.{mem_store_laws}
use Rattle.wtf_dev.specs.Store.{Range}
use Rattle.wtf_kv.specs.Seen.{upto, last_seen, value_seen}
use Rattle.wtf_kv.specs.declared.changes.Change.{Change}
use Rattle.wtf_kv.specs.Stores.{Store, is_pinned, is_live, times_pinned, versions_in, IsPinnedOnceMore}
use Rattle.wtf_kv.proofs.PinLaws.{any-count, count-any}
use Rattle.wtf_overlay.specs.Origin.{Place}
use Rattle.wtf_replica.specs.Downs.{settings_of}
use Rattle.wtf_replica.specs.Inside.{size_in}
use Rattle.wtf_replica.proofs.InsideLaws.{size_in-at}
use Rattle.wtf_values.specs.declared.key.Key.{Key}
use Rattle.wtf_ring.specs.Points.{RingView}
use Rattle.wtf_values.specs.declared.value.Value.{Value}
use Rattle.wtf_values.specs.declared.value.Delta.{Delta}
use Rattle.wtf_values.specs.Keys.{key_cmp}
use Rattle.wtf_meta.specs.Bytes.{MapBytes, EditBytes, EditsBytes, any_slice}
use Rattle.wtf_meta.specs.Maps.{Map, Edits, with, metadata_at}
use Rattle.wtf_meta.proofs.MapBytes.{with_bytes}
use Rattle.wtf_meta.proofs.Weaker.{map_stays}
use Rattle.wtf_region.specs.declared.dev.Dev.{Dev}
use Rattle.wtf_region.specs.Cached.{CacheView, AreFrom, CacheInside}
use Rattle.wtf_region.specs.Devs.{GoesOn, IsSoundDev, stores, remembered, inside_of}
use Rattle.wtf_region.specs.Inside.{is_inside, IsStoredInside}
use Rattle.wtf_region.proofs.InsideLaws.{inside_stays}
use Rattle.wtf_gc.specs.Frees.{CountsFreed, FreesSome, IsCollectFault, tried_on}
use Rattle.wtf_gc.specs.Scans.{StartsScan, AreHeld, IsPrunedFrom, DoesParts, run_on, with_finished}
use Rattle.wtf_gc.specs.Views.{ScanView, RunView, GcView, new_gc, empty_scan}
use Rattle.wtf_gc_rows.specs.Ready.{Marks, RunMarks, AreMarks, AllLie, IsGcReady, IsSameLent}

-- ---- the device goes on
-- no file of a store gets shorter
sizes_grow : {old new : List StoreState} {punched : List (ℕ × Range)} → EachFollows mem_store old new punched → (k f : ℕ)
    → size_in mem_store old k f ≤ size_in mem_store new k f
sizes_grow {old = old} {new = new} e k f = ⊎_elim
    (λ below.
    let d = element old k below in
    let was = size_in-at mem_store old k f d below in
    let is = size_in-at mem_store new k f d (omega (arith, below, e.same_length)) in
    let more = (mem_store_laws.keeps _ _ _ (e.each k d below)).size f in
    omega (arith, was, is, more))
    (λ past.
    let none : size_in mem_store old k f ≡ 0 = ap (λ (o : Option StoreState). unwrap_or (option_map (λ s. (mem_store.view s).size f) o) 0)
    (slice_get_past old k past) in
    omega (arith, none))
    (cases_lt k (length old))

module _ (old new : List StoreState) (more : (k f : ℕ) → size_in mem_store old k f ≤ size_in mem_store new k f) where
  scan_grows : (s : ScanView) → Marks old s → Marks new s
  scan_grows s h k f = let was = h k f in let grows = more k f in omega (arith, was, grows)

  run_grows : (o : Option RunView) → RunMarks old o → RunMarks new o
  run_grows None h = tt
  run_grows (Some r) h = scan_grows r.scan h

  marks_grow : (g : GcView) → AreMarks old g → AreMarks new g
  marks_grow g h = record { older = scan_grows g.older h.older; newer = scan_grows g.newer h.newer; running = run_grows g.running h.running }

pub goes : (old new : Dev StoreState) (punched : List (ℕ × Range)) (kv : Store Key Value) (g : GcView) → GoesOn mem_store old new punched → IsGcReady old kv g
    → IsGcReady new kv g
goes old new punched kv g on h = record {
  sound = on.sound;
  held = h.held;
  lie = λ n live. subst (λ (s : Settings). IsStoredInside mem_store (stores new) s (metadata_at kv n)) (sym on.settings)
      (map_stays (is_inside mem_store (stores old) old.settings) (is_inside mem_store (stores new) old.settings)
      (inside_stays mem_store_laws on.each old.settings h.sound.shelf) any_slice any_slice (λ s is. is) (metadata_at kv n) (h.lie n live));
  marks = marks_grow (stores old) (stores new) (sizes_grow on.each) g h.marks;
}

-- ---- the store of versions does
same_maps : (old new : Store Key Value) → new.number ≡ old.number → new.cells ≡ old.cells → (n : ℕ) → metadata_at new n ≡ metadata_at old n
same_maps old new number cells n = λ i q. value_seen (last_seen n (upto (number i) (versions_in key_cmp (cells i) q)))

live_back : (old new : Store Key Value) → new.number ≡ old.number → ((n : ℕ) → IsTrue (is_pinned new n) → IsTrue (is_live old n)) → (n : ℕ)
    → IsTrue (is_live new n) → IsTrue (is_live old n)
live_back old new number pins n live = ⊎_elim
    (λ here. or_left (nat_eq n old.number) (is_pinned old n) (sym (ap (nat_eq n) number) ∙ here))
    (λ pinned. pins n pinned)
    (or_cases (nat_eq n new.number) (is_pinned new n) live)

-- with fewer pins no other number may be read
fewer_live : (old new : Store Key Value) → ((n : ℕ) → times_pinned new n ≤ times_pinned old n) → (n : ℕ) → IsTrue (is_pinned new n) → IsTrue (is_live old n)
fewer_live old new fewer n pinned =
    let some = count-any n new.pins pinned in
    let less = fewer n in
    or_right (nat_eq n old.number) (is_pinned old n) (any-count n old.pins (omega (arith, some, less)))

other_pins : (dev : Dev StoreState) (old new : Store Key Value) → new.number ≡ old.number → new.cells ≡ old.cells
    → ((n : ℕ) → IsTrue (is_pinned new n) → IsTrue (is_live old n)) → AllLie dev old → AllLie dev new
other_pins dev old new number cells pins lie n live =
    subst (IsStoredInside mem_store (stores dev) dev.settings) (sym (same_maps old new number cells n)) (lie n (live_back old new number pins n live))

-- ---- a scan begins
cond_le : (b : Bool) (n : ℕ) → cond b n 0 ≤ n
cond_le true n = omega arith
cond_le false n = omega arith

pub begun : (dev : Dev StoreState) (kv kv' : Store Key Value) (g g' : GcView) → IsGcReady dev kv g → StartsScan mem_store (stores dev) kv kv' g g'
    → IsGcReady dev kv' g'
begun dev kv kv' g g' h s =
    let pins : (n : ℕ) → IsTrue (is_pinned kv' n) → IsTrue (is_live kv n) = λ n pinned.
    let some = count-any n kv'.pins pinned in
    let is = s.pins.pins n in
    ⊎_elim
    (λ lt. or_right (nat_eq n kv.number) (is_pinned kv n) (any-count n kv.pins lt))
    (λ none. sym (s.seen n) ∙ any-count n s.run.seen (omega (arith, some, is, none)))
    (cases_lt 0 (times_pinned kv n)) in
    subst (IsGcReady dev kv') (sym s.is) (record {
      sound = h.sound;
      held = λ n. let is = s.pins.pins n in omega (arith, is);
      lie = other_pins dev kv kv' s.pins.number s.pins.cells pins h.lie;
      marks = record {
        older = h.marks.older;
        newer = h.marks.newer;
        running = λ k f. subst (λ m. m ≤ size_in mem_store (stores dev) k f) (sym (s.mark k f)) (cond_le (nat_lt f 8) (size_in mem_store (stores dev) k f));
      };
    })

-- ---- parts are done
held_over : (g : GcView) (r : RunView) (kv kv' : Store Key Value) (b : Bool)
    → ((m : ℕ) → times_pinned kv' m + cond b (count_by (nat_eq m) r.seen) 0 ≡ times_pinned kv m)
    → ((m : ℕ) → count_by (nat_eq m) r.seen ≤ times_pinned kv m) → AreHeld (cond b (with_finished g r.scan) (record g { running = Some r })).running kv'
held_over g r kv kv' true pins enough = tt
held_over g r kv kv' false pins enough = λ m. let is = pins m in let was = enough m in omega (arith, is, was)

marks_over : (shelf : List StoreState) (g : GcView) (r : RunView) (b : Bool) → AreMarks shelf g → Marks shelf r.scan
    → AreMarks shelf (cond b (with_finished g r.scan) (record g { running = Some r }))
marks_over shelf g r true h here = record { older = h.newer; newer = here; running = tt }
marks_over shelf g r false h here = record { older = h.older; newer = h.newer; running = here }

pub pieced : (old new : Dev StoreState) (kv kv' : Store Key Value) (g g' : GcView) (n left : ℕ) → IsGcReady old kv g → GoesOn mem_store old new []
    → IsPrunedFrom kv kv'
    → DoesParts mem_store old new kv kv' g g' n left → IsGcReady new kv' g'
pieced old new kv kv' g g' n left h on pruned does =
    let ready = goes old new [] kv g on h in
    let r = run_on does.run n does.found in
    let fewer : (m : ℕ) → times_pinned kv' m ≤ times_pinned kv m = λ m. let is = does.pins m in omega (arith, is) in
    let was_held : AreHeld (Some does.run) kv = subst (λ (o : Option RunView). AreHeld o kv) does.was h.held in
    let marks : RunMarks (stores new) (Some does.run) = subst (RunMarks (stores new)) does.was ready.marks.running in
    subst (IsGcReady new kv') (sym does.is) (record {
      sound = on.sound;
      held = held_over g r kv kv' (nat_eq r.left 0) does.pins was_held;
      lie = λ m live.
          let was = live_back kv kv' pruned.number (fewer_live kv kv' fewer) m live in
          subst (IsStoredInside mem_store (stores new) new.settings) (sym (pruned.maps m was)) (ready.lie m was);
      marks = marks_over (stores new) g r (nat_eq r.left 0) ready.marks marks;
    })

-- ---- ranges count as freed
pub freed : (dev : Dev StoreState) (kv : Store Key Value) (g g' : GcView) (ranges : List (ℕ × Range)) → CountsFreed g g' ranges → IsGcReady dev kv g
    → IsGcReady dev kv g'
freed dev kv g g' ranges c h = record {
  sound = h.sound;
  held = subst (λ (o : Option RunView). AreHeld o kv) (sym c.running) h.held;
  lie = h.lie;
  marks = record {
    older = subst (Marks (stores dev)) (sym c.older) h.marks.older;
    newer = subst (Marks (stores dev)) (sym c.newer) h.marks.newer;
    running = subst (RunMarks (stores dev)) (sym c.running) h.marks.running;
  };
}

stopped : {old new : Dev StoreState} {kv : Store Key Value} {g g' : GcView} {k : ℕ} {why : Fault} → FreesSome mem_store k old new g g' why → IsGcReady old kv g
    → IsGcReady new kv g'
stopped {old = old} {new = new} {kv = kv} {g = g} {g' = g'} {k = k} h ready =
    freed new kv g g' h.ranges h.counts (goes h.mid new (tried_on h.mid (k, h.tried)) kv g h.last (goes old h.mid h.ranges kv g h.goes ready))

-- or they do not, but those before one that was not
pub failed : (old new : Dev StoreState) (kv : Store Key Value) (g g' : GcView) (k : ℕ) (why : Fault) → IsCollectFault mem_store k old new g g' why
    → IsGcReady old kv g
    → IsGcReady new kv g'
failed old new kv g g' k fault.Memory h ready = subst (IsGcReady new kv) (sym h.1) (goes old new [] kv g h.0 ready)
failed old new kv g g' k (fault.Punch j) h ready = stopped h ready
failed old new kv g g' k (fault.Read j) h ready = stopped h ready
failed old new kv g g' k (fault.Damaged j) h ready = stopped h ready
failed old new kv g g' k fault.Write h ready = stopped h ready

-- ---- the same is lent
pub on_lent : (old new : Dev StoreState) (punched : List (ℕ × Range)) → GoesOn mem_store old new punched → IsSameLent old new
on_lent old new punched on = record { shelf = on.shelf; cache = on.cache; ring = on.ring; settings = on.settings }

stopped_lent : {old new : Dev StoreState} {g g' : GcView} {k : ℕ} {why : Fault} → FreesSome mem_store k old new g g' why → IsSameLent old new
stopped_lent {k = k} h =
    let a = on_lent _ h.mid h.ranges h.goes in
    let b = on_lent h.mid _ (tried_on h.mid (k, h.tried)) h.last in
    record { shelf = b.shelf ∙ a.shelf; cache = b.cache ∙ a.cache; ring = b.ring ∙ a.ring; settings = b.settings ∙ a.settings }

pub failed_lent : (old new : Dev StoreState) (g g' : GcView) (k : ℕ) (why : Fault) → IsCollectFault mem_store k old new g g' why → IsSameLent old new
failed_lent old new g g' k fault.Memory h = on_lent old new [] h.0
failed_lent old new g g' k (fault.Punch j) h = stopped_lent h
failed_lent old new g g' k (fault.Read j) h = stopped_lent h
failed_lent old new g g' k (fault.Damaged j) h = stopped_lent h
failed_lent old new g g' k fault.Write h = stopped_lent h

-- ---- other servers are down
pub other_servers : (old new : Dev StoreState) (kv : Store Key Value) (g : GcView) → stores new ≡ stores old → new.cache.now ≡ old.cache.now
    → new.ring.now ≡ old.ring.now → new.settings ≡ old.settings → settings_of new.replicas.now ≡ new.settings → IsGcReady old kv g → IsGcReady new kv g
other_servers old new kv g shelf cache ring settings replicas h =
    let inside : inside_of mem_store new ≡ inside_of mem_store old = λ i. is_inside mem_store (shelf i) (settings i) in
    record {
      sound = record {
        replicas = replicas;
        ring = ap (λ (r : RingView). r.servers) ring ∙ h.sound.ring ∙ ap (λ (s : Settings). s.servers) (sym settings);
        shelf = subst (λ (s : Settings). s.servers ≤ length (stores new)) (sym settings)
            (subst (λ (l : List StoreState). old.settings.servers ≤ length l) (sym shelf) h.sound.shelf);
        cache = subst (λ (v : CacheView). AreFrom new.ring.now v.places) (sym cache)
            (subst (λ (r : RingView). AreFrom r old.cache.now.places) (sym ring) h.sound.cache);
        lists = subst (λ (v : CacheView). CacheInside (inside_of mem_store new) v.lists) (sym cache)
            (subst (λ (P : List Place → Bool). CacheInside P (remembered old)) (sym inside) h.sound.lists);
      };
      held = h.held;
      lie = λ n live. subst (λ (P : List Place → Bool). MapBytes P any_slice (metadata_at kv n)) (sym inside) (h.lie n live);
      marks = subst (λ (l : List StoreState). AreMarks l g) (sym shelf) h.marks;
    }

-- ---- pins
held_more : (o : Option RunView) (kv kv' : Store Key Value) → ((m : ℕ) → times_pinned kv m ≤ times_pinned kv' m) → AreHeld o kv → AreHeld o kv'
held_more None kv kv' more h = tt
held_more (Some r) kv kv' more h = λ m. let was = h m in let is = more m in omega (arith, was, is)

pub pinned : (dev : Dev StoreState) (kv kv' : Store Key Value) (g : GcView) (n : ℕ) (pins : List ℕ) → kv' ≡ record kv { pins = pins }
    → IsPinnedOnceMore n kv kv' → IsTrue (is_live kv n)
    → IsGcReady dev kv g → IsGcReady dev kv' g
pinned dev kv kv' g n pins is once live h =
    let back : (m : ℕ) → IsTrue (is_pinned kv' m) → IsTrue (is_live kv m) = λ m there.
    let some = count-any m kv'.pins there in
    ⊎_elim
    (λ here. subst (λ i. IsTrue (is_live kv i)) (sym (eqb-true m n here)) live)
    (λ other.
    let less : times_pinned kv' m ≡ times_pinned kv m + 0 = once m ∙ ap (λ q. times_pinned kv m + (if q then 1 else 0)) other in
    or_right (nat_eq m kv.number) (is_pinned kv m) (any-count m kv.pins (omega (arith, some, less))))
    (cases_Bool (nat_eq m n)) in
    record {
      sound = h.sound;
      held = held_more g.running kv kv' (λ m. let e = once m in omega (arith, e)) h.held;
      lie = other_pins dev kv kv' (ap (λ (s : Store Key Value). s.number) is) (ap (λ (s : Store Key Value). s.cells) is) back h.lie;
      marks = h.marks;
    }

held_none : (o : Option RunView) (kv : Store Key Value) → is_some o ≡ false → AreHeld o kv
held_none None kv none = tt
held_none (Some r) kv none = absurd (both_ways true none refl)

pub unpinned : (dev : Dev StoreState) (kv kv' : Store Key Value) (g : GcView) (n : ℕ) (pins : List ℕ) → kv' ≡ record kv { pins = pins }
    → IsPinnedOnceMore n kv' kv → is_some g.running ≡ false
    → IsGcReady dev kv g → IsGcReady dev kv' g
unpinned dev kv kv' g n pins is once none h = record {
  sound = h.sound;
  held = held_none g.running kv' none;
  lie = other_pins dev kv kv' (ap (λ (s : Store Key Value). s.number) is) (ap (λ (s : Store Key Value). s.cells) is)
      (fewer_live kv kv' (λ m. let e = once m in omega (arith, e))) h.lie;
  marks = h.marks;
}

-- ---- changes are installed that bring no byte but such as lie inside the stores
pub installed : (dev : Dev StoreState) (kv mid kv' : Store Key Value) (g : GcView) (cs : Edits) → mid.number ≡ kv.number → mid.pins ≡ kv.pins
    → ((n : ℕ) → metadata_at mid n ≡ metadata_at kv n)
    → kv'.pins ≡ mid.pins → metadata_at kv' kv'.number ≡ with cs (metadata_at mid mid.number)
    → ((n : ℕ) → n ≤ mid.number → metadata_at kv' n ≡ metadata_at mid n)
    → ((p : ℕ) → IsTrue (is_pinned kv p) → p ≤ kv.number) → EditsBytes (inside_of mem_store dev) any_slice cs
    → IsGcReady dev kv g → IsGcReady dev kv' g
installed dev kv mid kv' g cs number pins same pins' map maps bound lie h =
    let Lies : Map → Type 0 = IsStoredInside mem_store (stores dev) dev.settings in
    let all : kv'.pins ≡ kv.pins = pins' ∙ pins in
    let last : Lies (metadata_at mid mid.number) =
    subst (λ n. Lies (metadata_at mid n)) (sym number)
    (subst Lies (sym (same kv.number))
    (h.lie kv.number (or_left (nat_eq kv.number kv.number) (is_pinned kv kv.number) (eq-eqb kv.number kv.number refl)))) in
    let now : Lies (metadata_at kv' kv'.number) =
    subst Lies (sym map) (with_bytes (inside_of mem_store dev) any_slice refl cs (metadata_at mid mid.number) last lie) in
    record {
      sound = h.sound;
      held = subst (λ (ps : List ℕ). AreHeld g.running (record kv' { pins = ps })) (sym all)
          (held_more g.running kv (record kv' { pins = kv.pins }) (λ m. omega arith) h.held);
      lie = λ n live. ⊎_elim
          (λ here. subst (λ m. Lies (metadata_at kv' m)) (sym (eqb-true n kv'.number here)) now)
          (λ there.
          let was : IsTrue (is_pinned kv n) = subst (λ (ps : List ℕ). IsTrue (list_any (nat_eq n) ps)) all there in
          let upto = bound n was in
          subst Lies (sym (maps n (omega (arith, number, upto)) ∙ same n)) (h.lie n (or_right (nat_eq n kv.number) (is_pinned kv n) was)))
          (or_cases (nat_eq n kv'.number) (is_pinned kv' n) live);
      marks = h.marks;
    }

-- one change
pub one_edit : (P : List Place → Bool) (cs old : Edits) (c : Change Key Delta) → old ≡ [] → cs ≡ old ++ c ∷ [] → EditBytes P any_slice c
    → EditsBytes P any_slice cs
one_edit P cs old c none is lies = subst (EditsBytes P any_slice) (sym (is ∙ ap (λ (l : Edits). l ++ c ∷ []) none)) (lies, tt)

-- ---- the first moment
no_mark : (b : Bool) (i m : ℕ) → cond b (slice_index_or [] i 0) 0 ≤ m
no_mark true i m = omega arith
no_mark false i m = omega arith

pub ready_new : (dev : Dev StoreState) (kv : Store Key Value) (g : GcView) → kv ≡ record { number = 0; pins = []; cells = [] } → g ≡ new_gc
    → IsSoundDev mem_store dev
    → IsGcReady dev kv g
ready_new dev kv g empty is sound =
    let none : Marks (stores dev) empty_scan = λ k f. no_mark (nat_lt f 8) (k * 8 + f) (size_in mem_store (stores dev) k f) in
    let lie : AllLie dev kv = λ n live. subst (λ (s : Store Key Value). MapBytes (inside_of mem_store dev) any_slice (metadata_at s n)) (sym empty)
    (λ q. tt {0}) in
    subst (IsGcReady dev kv) (sym is) (record { sound = sound; held = tt; lie = lie; marks = record { older = none; newer = none; running = tt } })
