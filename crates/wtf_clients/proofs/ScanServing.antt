-- What pieces of scans, and collections, made of the bytes that the tables name, and of the stores.
use Rattle.wtf_clients.proofs.Common.{and_from, and_parts, or_left, or_right, eq-eqb, le-leb, lt-ltb, list_any-append, Fault, EachFollows, Range, StoreKind}
use Rattle.wtf_clients.proofs.Common.{SameFrom, Settings, ◌≤◌, KindLaws, each_on, Place, IsRing, is_down, IsPunchFault, IsOut, SameLengths, span, Answer, Event}
use Rattle.wtf_clients.proofs.Common.{any_slice, Dev, lies_in}
use Rattle.wtf_clients.proofs.Common.{IsSoundDev, GoesOn, stores, between, is_inside, inside_stays, fault_answer, AreApart, FreesSome, IsCollectFault, lie_in}
use Rattle.wtf_clients.proofs.Common.{GcView, is_garbage, BesideView, TablesView, of_label, any_byte, no_slice, has_copies, Frees, AddsBytes, HasCause}
use Rattle.wtf_clients.proofs.Common.{LacksPunch, line_asked, lent_by, HasFailed, NamesTables, AreBased, AreFull, ServesLine, ◌≡◌, ℕ, ◌+◌, ◌<◌, Bool, true}
use Rattle.wtf_clients.proofs.Common.{◌&&◌, nat_eq, nat_le, nat_lt, List, [], ◌∷◌, ◌++◌, length, Some, refl, sym, ap, ◌∙◌, subst, inl, inr, arith}
use Rattle.wtf_clients.proofs.{Lives.AreInside, Lacking.memory_none, Known.lent_to, ToldLaws.tables_stay}

-- other scans name nothing else
pub gc_names : (old : TablesView) (beside : BesideView) → beside.jobs ≡ old.beside.jobs → NamesTables old (record old { beside = beside })
gc_names old beside jobs P Q hole h = record { live = h.live; each = h.each; planned = λ j x is. h.planned j x (ap (λ l. of_label l j) (sym jobs) ∙ is) }

-- the servers that are out in a later part of a span are out in it, whatever is punched
out_after : {S : Type 0} {kind : StoreKind S} → KindLaws kind → (down : ℕ → Bool) (old mid new : List S) (ranges : List (ℕ × Range))
    → EachFollows kind old mid ranges → (k : ℕ) → IsOut kind (span down mid new) k → IsOut kind (span down old new) k
out_after laws down old mid new ranges e k (inl is_down) = inl is_down
out_after laws down old mid new ranges e k (inr rise) =
    let same = e.same_length in
    let there = rise.0 in
    let below : k < length old = omega (arith, same, there) in
    inr (
      below,
      λ d low.
          let kept = (laws.keeps _ _ _ (e.each k d below)).faults in
          let later = rise.1 d in
          omega (arith, kept, later low),
    )

-- a range that has a byte has its first one
first_of : (k : ℕ) (r : Range) → 0 < r.len → lies_in (record { server = k; file = r.file; at = r.at }) (k, r) ≡ true
first_of k r some =
    and_from (nat_eq k k) (nat_eq r.file r.file && (nat_le r.at r.at && nat_lt r.at (r.at + r.len))) (eq-eqb k k refl)
    (and_from (nat_eq r.file r.file) (nat_le r.at r.at && nat_lt r.at (r.at + r.len)) (eq-eqb r.file r.file refl)
    (and_from (nat_le r.at r.at) (nat_lt r.at (r.at + r.len)) (le-leb r.at r.at (omega arith)) (lt-ltb r.at (r.at + r.len) (omega (arith, some)))))

-- and so has one of ranges that lie apart
range_after : (before : List (ℕ × Range)) (r : ℕ × Range) (rest : List (ℕ × Range)) → AreApart (before ++ r ∷ rest) → 0 < r.1.len
range_after [] r rest apart = apart.0
range_after (b ∷ bs) r rest apart = range_after bs r rest apart.2

module _ {S : Type 0} {kind : StoreKind S} (laws : KindLaws kind) (old new : Dev S) (lent : IsSoundDev kind old)
    (ring : IsRing old.settings.servers old.ring.now.points) (before : TablesView) (inside : AreInside kind old before)
    (lengths : SameLengths kind (stores old) (stores new)) (k : ℕ) (beside : BesideView) (jobs : beside.jobs ≡ before.beside.jobs) where
  abbrev after : TablesView
  after = record before { beside = beside }

  serves_by : (ranges : List (ℕ × Range)) → EachFollows kind (stores old) (stores new) ranges → (a : Answer)
      → AddsBytes kind (between old new) old.settings (Frees k) a → HasCause kind (between old new) old.settings ⊥ (AreBased before)
      (AreFull old.settings before) (Frees k) a → HasFailed (line_asked kind (between old new) (lent_by old new) before (Event.Collect k)).fails a
      → ServesLine kind (between old new) (lent_by old new) before after (Event.Collect k) a
  serves_by ranges each a adds caused failed = record {
    inside = gc_names before beside jobs (is_inside kind (stores new) old.settings) any_slice refl
        (tables_stay (is_inside kind (stores old) old.settings) (is_inside kind (stores new) old.settings)
        (inside_stays laws each old.settings lent.shelf) any_slice any_slice (λ s is. is) before inside);
    bare = λ free. gc_names before beside jobs any_byte no_slice refl;
    full = λ free. gc_names before beside jobs (has_copies old.settings.replicas) no_slice refl;
    adds = adds;
    caused = caused;
    placed = tt;
    failed = failed;
  }

  -- what was freed
  pub collected : (ranges : List (ℕ × Range)) → GoesOn kind old new ranges → (n : ℕ)
      → ServesLine kind (between old new) (lent_by old new) before after (Event.Collect k) (Answer.Collected n)
  collected ranges goes n = serves_by ranges goes.each (Answer.Collected n) lengths tt tt

  -- the server has garbage, and is out
  lacks : (later : GcView) (why : Fault) → FreesSome kind k old new before.beside.gc later why → IsPunchFault kind (between old new) k why
      → LacksPunch kind old new before k why
  lacks later why f cause =
      let first : Place = record { server = k; file = f.tried.file; at = f.tried.at } in
      let some = range_after f.ranges (k, f.tried) f.rest f.are.apart in
      let there : lie_in (f.ranges ++ (k, f.tried) ∷ f.rest) first ≡ true =
      list_any-append (λ r. lies_in first r) f.ranges ((k, f.tried) ∷ f.rest)
      ∙ or_right (lie_in f.ranges first) (lie_in ((k, f.tried) ∷ f.rest) first)
      (or_left (lies_in first (k, f.tried)) (lie_in f.rest first) (first_of k f.tried some)) in
      record {
        place = first;
        server = refl;
        garbage = (and_parts (nat_eq k k) (is_garbage before.beside.gc first) (sym (f.are.exact first) ∙ there)).1;
        cause = cause;
      }

  -- or the server failed
  pub collect_failed : (later : GcView) (why : Fault) (a : Answer) → fault_answer why ≡ Some a → IsCollectFault kind k old new before.beside.gc later why
      → ServesLine kind (between old new) (lent_by old new) before after (Event.Collect k) a
  collect_failed later Fault.Memory a is f = absurd (memory_none Fault.Memory a is refl)
  collect_failed later (Fault.Read j) a is f = absurd f.cause
  collect_failed later Fault.Write a is f = absurd f.cause
  collect_failed later (Fault.Damaged j) a is f = absurd f.cause
  collect_failed later (Fault.Punch j) a is f =
      let same : Answer.FaultPunch j.0 ≡ a = cc in
      let out : IsOut kind (between old new) k = out_after laws (is_down old.replicas.now) (stores old) (stores f.mid) (stores new) f.ranges f.goes.each k
      (subst (λ r. IsOut kind (span (is_down r.now) (stores f.mid) (stores new)) k) f.goes.replicas f.cause.1) in
      let server = f.cause.0 in
      subst (λ (b : Answer). ServesLine kind (between old new) (lent_by old new) before after (Event.Collect k) b) same
      (serves_by _ (each_on laws f.goes.each f.last.each) (Answer.FaultPunch j.0) lengths (server, subst (λ m. IsOut kind (between old new) m) (sym server) out)
      (Fault.Punch j, refl, (old, new, lent_to old new ring, lacks later (Fault.Punch j) f (server, out))))

-- stores of no server of the settings are as they were, whatever failed
pub collect_past : {S : Type 0} (kind : StoreKind S) (k : ℕ) (old new : Dev S) (g later : GcView) (why : Fault) → IsCollectFault kind k old new g later why
    → SameFrom old.settings.servers (stores old) (stores new)
collect_past kind k old new g later Fault.Memory f = f.0.past
collect_past kind k old new g later e f =
    λ i d high. f.last.past i d (subst (λ (st : Settings). st.servers ≤ i) (sym f.goes.settings) high) ∙ f.goes.past i d high

-- a scan that runs goes on, whatever failed
pub still_runs : {S : Type 0} (kind : StoreKind S) (k : ℕ) (old new : Dev S) (g later : GcView) (why : Fault) → IsCollectFault kind k old new g later why
    → later.running ≡ g.running
still_runs kind k old new g later Fault.Memory f = ap (λ (x : GcView). x.running) f.1
still_runs kind k old new g later e f = f.counts.running
