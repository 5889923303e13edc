-- What the loop of `create` has done so far, and its steps.
use Rattle.std.proofs.Common.{◌≡◌, ◌≢◌, ◌⊎◌, ◌↔◌, ℕ, ◌+◌, ◌*◌, ◌<◌, ◌≤◌, Bool, true, cond, List, Some, [], ◌∷◌, ◌++◌, length, take, get_or, refl, sym, ◌∙◌, ap, subst, arith, inl, inr, length-append}
use Rattle.std.specs.Prelude.{◌==◌, ◌&&◌, slice_get}
use Rattle.std.specs.List.{All, Contains}
use Rattle.std.proofs.lemmas.Bool.{cases_eq, eq-eqb, ne_eqb}
use Rattle.std.proofs.lemmas.List.{get_or-map, get_or-take, length-map, length-take, take_more, take_all}
use Rattle.std.proofs.lemmas.Bool.Decides.{Decides-eqb}
use Rattle.std.proofs.lemmas.Option.{get_or_from_slice_get}
use Rattle.std.proofs.lemmas.Map.Made.{AllPairs-from_IsDistinct}
use Rattle.std.proofs.lemmas.List.Elements.{All-nil, Contains-append_left, Contains-append_cases, Contains-push}
use Rattle.wtf_base.specs.declared.pointer.Pointer.{Pointer}
use Rattle.wtf_base.specs.declared.slice.Slice.{Slice}
use Rattle.wtf_base.specs.Slices.{pointers_of}
use Rattle.wtf_base.proofs.Elements.{contains_cons, none_in}
use Rattle.wtf_dev.specs.Store.{Holds, StoreKind, KindLaws}
use Rattle.wtf_dev.specs.Each.{EachFollows}
use Rattle.wtf_dev.specs.Sums.{all_stored}
use Rattle.wtf_ring.specs.Points.{PlaceView}
use Rattle.wtf_ring.specs.Orders.{IsOrder}
use Rattle.wtf_replica.specs.Spans.{Span, span}
use Rattle.wtf_replica.specs.Outs.{HasRisen, IsOut, IsLeftDown, LeavesOut, SameSyncs}
use Rattle.wtf_replica.specs.Copies.{bytes_in, IsNewCopy, IsCopyInside, IsStored, GrowsOnce}
use Rattle.wtf_replica.specs.Faults.{AreTooFew}
use Rattle.wtf_replica.specs.Placed.{placed}
use Rattle.wtf_dev.proofs.Each.{each_same, each_on}
use Rattle.wtf_replica.proofs.Spans.{each_kept, lows_on, out_on, out_since, risen_on, risen_since, same_syncs_on}
use Rattle.wtf_replica.proofs.Writing.{is_fresh, leaves_or_out, IsLow, len_of_first, leaves_weaker, leaves_skip, leaves_take, leaves_member, length-placed, All-placed, servers, placed_cases, placed_has, bytes_in-placed, Ascends, ascends_placed, once_in}

one_more : (n m k : ℕ) → m ≡ n + 1 → m * k ≡ n * k + k
one_more n m k e = ap (λ (x : ℕ). x * k) e ∙ grind arith

only_one : (k j : ℕ) → Contains (k ∷ []) j → k ≡ j
only_one k j c = elim (contains_cons k [] j c) [ inl e ↦ e | inr m ↦ absurd (none_in j m) ]

-- a copy stays one while its store stays
copy_on : {S : Type 0} (kind : StoreKind S) (down : ℕ → Bool) (old mid new : List S) (file : ℕ) (bytes : List ℕ) (p : Pointer)
    → ((d : S) → get_or new p.server.0 d ≡ get_or mid p.server.0 d) → IsNewCopy kind (span down old mid) file bytes p → IsNewCopy kind (span down old new) file bytes p
copy_on {S} kind down old mid new file bytes p same c = record {
  server = c.server;
  up = c.up;
  file = c.file;
  len = c.len;
  at = c.at;
  low = c.low;
  size = λ d. ap (λ (s : S). (kind.view s).size file) (same d) ∙ c.size d;
  others = λ d f ne. ap (λ (s : S). (kind.view s).size f) (same d) ∙ c.others d f ne;
  holds = λ d told. subst (λ (s : S). Holds (kind.view s) file p.at bytes) (sym (same d)) (c.holds d told);
}

-- a copy on a store that was as it had been
copy_since : {S : Type 0} (kind : StoreKind S) (down : ℕ → Bool) (old mid new : List S) (file : ℕ) (bytes : List ℕ) (p : Pointer)
    → length mid ≡ length old → ((d : S) → get_or mid p.server.0 d ≡ get_or old p.server.0 d) → IsNewCopy kind (span down mid new) file bytes p → IsNewCopy kind (span down old new) file bytes p
copy_since {S} kind down old mid new file bytes p len same c = record {
  server = omega (arith, c.server, len);
  up = c.up;
  file = c.file;
  len = c.len;
  low = c.low;
  size = c.size;
  at = λ d. c.at d ∙ ap (λ (s : S). (kind.view s).size file) (same d);
  others = λ d f ne. c.others d f ne ∙ ap (λ (s : S). (kind.view s).size f) (same d);
  holds = λ d told. c.holds d (ap (λ (s : S). (kind.view s).tells) (same d) ∙ told);
}

-- The copies that were made on the servers before place i of the order, and what is left of the stores.
pub record Going {S : Type 0} (kind : StoreKind S) (t : Span S) (place : PlaceView) (i : ℕ)
    (bytes : List ℕ) (found : List Pointer) : Type 0 where
  pub each : EachFollows kind t.before t.after []
  pub syncs : SameSyncs kind t.before t.after
  pub lows : IsLeftDown t
  pub others : (k f : ℕ) (d : S) → f ≢ place.file → (kind.view (get_or t.after k d)).size f ≡ (kind.view (get_or t.before k d)).size f
  pub took : List ℕ
  pub took_len : length took ≡ length found
  pub written : LeavesOut (IsOut kind t) (take i place.servers) took
  pub has : (k : ℕ) → Contains (servers found) k ↔ Contains took k
  pub copies : All (IsNewCopy kind t place.file bytes) found
  pub ascends : Ascends found
  pub untouched : (k : ℕ) (d : S) → (Contains (take i place.servers) k → ⊥) → get_or t.after k d ≡ get_or t.before k d
  pub grew : (k f : ℕ) (d : S) → k < length t.before → HasRisen kind t.before t.after k
      ⊎ ((kind.view (get_or t.after k d)).size f ≡ (kind.view (get_or t.before k d)).size f + bytes_in found k f)
  pub total : ((k : ℕ) → HasRisen kind t.before t.after k → ⊥) → all_stored kind t.after ≡ all_stored kind t.before + length found * length bytes

-- what is known of the try of server k, at place i of an order of n servers, whatever came of it
pub record Tried {S : Type 0} (kind : StoreKind S) (t : Span S) (place : PlaceView) (n i k : ℕ) : Type 0 where
  pub order : IsOrder n place.servers
  pub below : i < n
  pub at : slice_get place.servers i ≡ Some k
  pub each : EachFollows kind t.before t.after []
  pub others : (f : ℕ) (d : S) → f ≢ place.file → (kind.view (get_or t.after k d)).size f ≡ (kind.view (get_or t.before k d)).size f
  pub elsewhere : (j : ℕ) (d : S) → j ≢ k → get_or t.after j d ≡ get_or t.before j d
  pub same : t.down k ≡ true → t.after ≡ t.before
  pub syncs : SameSyncs kind t.before t.after

module _ {S : Type 0} {kind : StoreKind S} (laws : KindLaws kind) {down : ℕ → Bool} {old mid new : List S}
    {place : PlaceView} {n i k : ℕ} {bytes : List ℕ} {found : List Pointer}
    (was : Going kind (span down old mid) place i bytes found) (tried : Tried kind (span down mid new) place n i k) where
  is_here : get_or place.servers i 0 ≡ k
  is_here = get_or_from_slice_get place.servers i k 0 tried.at

  next : take (i + 1) place.servers ≡ take i place.servers ++ k ∷ []
  next = take_more place.servers i 0 (omega (arith, tried.below, tried.order.len)) ∙ ap (λ (x : ℕ). take i place.servers ++ x ∷ []) is_here

  -- it was not tried before
  fresh : Contains (take i place.servers) k → ⊥
  fresh = subst (λ (x : ℕ). Contains (take i place.servers) x → ⊥) is_here
      (is_fresh place.servers i (AllPairs-from_IsDistinct Decides-eqb place.servers tried.order.once) (omega (arith, tried.below, tried.order.len)))

  each_now : EachFollows kind old new []
  each_now = each_on laws was.each tried.each

  syncs_now : SameSyncs kind old new
  syncs_now = same_syncs_on kind old mid new was.each.same_length was.syncs tried.syncs

  lows_now : IsLeftDown (span down old new)
  lows_now = lows_on down old mid new k was.lows tried.same tried.elsewhere

  others_now : (j f : ℕ) (d : S) → f ≢ place.file → (kind.view (get_or new j d)).size f ≡ (kind.view (get_or old j d)).size f
  others_now j f d other = elim (cases_eq j k) [
    | inl is ↦ subst (λ (n : ℕ). (kind.view (get_or new n d)).size f ≡ (kind.view (get_or mid n d)).size f) (sym is) (tried.others f d other) ∙ was.others j f d other
    | inr ne ↦ ap (λ (s : S). (kind.view s).size f) (tried.elsewhere j d ne) ∙ was.others j f d other
  ]

  -- what rose or is out before this try, or in it, is so in both
  rose_before : (j : ℕ) → HasRisen kind old mid j → HasRisen kind old new j
  rose_before = risen_on kind old mid new was.each.same_length (each_kept laws tried.each)

  rose_here : (j : ℕ) → HasRisen kind mid new j → HasRisen kind old new j
  rose_here = risen_since kind old mid new was.each.same_length (each_kept laws was.each)

  out_before : (j : ℕ) → IsOut kind (span down old mid) j → IsOut kind (span down old new) j
  out_before = out_on kind down old mid new was.each.same_length (each_kept laws tried.each)

  out_here : (j : ℕ) → IsOut kind (span down mid new) j → IsOut kind (span down old new) j
  out_here = out_since kind down old mid new was.each.same_length (each_kept laws was.each)

  written_on : LeavesOut (IsOut kind (span down old new)) (take i place.servers) was.took
  written_on = leaves_weaker (IsOut kind (span down old mid)) (IsOut kind (span down old new)) out_before (take i place.servers) was.took was.written

  -- no copy is on this server yet
  no_copy : Contains (servers found) k → ⊥
  no_copy c = fresh (leaves_member (IsOut kind (span down old mid)) (take i place.servers) was.took k was.written ((was.has k).0 c))

  copies_on : All (IsNewCopy kind (span down old new) place.file bytes) found
  copies_on = λ j d h.
      let p : Pointer = get_or found j d in
      let here : Contains (servers found) p.server.0 =
      (j, omega (arith, h, length-map found (λ (q : Pointer). q.server.0)), get_or-map (λ (q : Pointer). q.server.0) found j d p.server.0 h) in
      let ne : p.server.0 ≢ k = λ e. no_copy (subst (λ (n : ℕ). Contains (servers found) n) e here) in
      copy_on kind down old mid new place.file bytes p (λ x. tried.elsewhere p.server.0 x ne) (was.copies j d h)

  untouched_now : (j : ℕ) (d : S) → (Contains (take (i + 1) place.servers) j → ⊥) → get_or new j d ≡ get_or old j d
  untouched_now j d none =
      let none' : Contains (take i place.servers ++ k ∷ []) j → ⊥ = subst (λ (t : List ℕ). Contains t j → ⊥) next none in
      let ne : j ≢ k = λ e. none' (subst (λ (n : ℕ). Contains (take i place.servers ++ k ∷ []) n) (sym e) (Contains-push (take i place.servers) k)) in
      tried.elsewhere j d ne ∙ was.untouched j d (λ c. none' (Contains-append_left (take i place.servers) (k ∷ []) j c))

  -- the server is out
  skip : IsOut kind (span down mid new) k → Going kind (span down old new) place (i + 1) bytes found
  skip out = record {
    each = each_now;
    syncs = syncs_now;
    lows = lows_now;
    others = others_now;
    took = was.took;
    took_len = was.took_len;
    has = was.has;
    copies = copies_on;
    ascends = was.ascends;
    untouched = untouched_now;
    written = subst (λ (t : List ℕ). LeavesOut (IsOut kind (span down old new)) t was.took) (sym next)
        (leaves_skip (IsOut kind (span down old new)) (take i place.servers) was.took k written_on (out_here k out));
    grew = λ j f d h. elim (was.grew j f d h) [
      | inl r ↦ inl (rose_before j r)
      | inr e ↦ elim (cases_eq j k) [
        | inr ne ↦ inr (ap (λ (s : S). (kind.view s).size f) (tried.elsewhere j d ne) ∙ e)
        | inl is ↦ elim out [
          | inl low ↦ inr (ap (λ (xs : List S). (kind.view (get_or xs j d)).size f) (tried.same low) ∙ e)
          | inr r ↦ inl (subst (λ (n : ℕ). HasRisen kind old new n) (sym is) (rose_here k r))
        ]
      ]
    ];
    total = λ none. elim out [
      | inl low ↦ ap (λ (xs : List S). all_stored kind xs) (tried.same low) ∙ was.total (λ j r. none j (rose_before j r))
      | inr r ↦ absurd (none k (rose_here k r))
    ];
  }

  pub going_skip : (items : List Pointer) → items ≡ found → IsOut kind (span down mid new) k → Going kind (span down old new) place (i + 1) bytes items
  going_skip items is out = subst (λ (ps : List Pointer). Going kind (span down old new) place (i + 1) bytes ps) (sym is) (skip out)

  -- the server took a copy
  module _ (p : Pointer) (here : p.server.0 ≡ k) (made : IsNewCopy kind (span down mid new) place.file bytes p)
      (stored : all_stored kind new ≡ all_stored kind mid + length bytes) where
    same_before : (d : S) → get_or mid p.server.0 d ≡ get_or old p.server.0 d
    same_before d = was.untouched p.server.0 d (λ c. fresh (subst (λ (n : ℕ). Contains (take i place.servers) n) here c))

    made_now : IsNewCopy kind (span down old new) place.file bytes p
    made_now = copy_since kind down old mid new place.file bytes p was.each.same_length same_before made

    has_now : (j : ℕ) → Contains (servers (placed p found)) j ↔ Contains (was.took ++ k ∷ []) j
    has_now j = (
      λ c. elim (placed_cases p found j c) [
        | inl e ↦ subst (λ (n : ℕ). Contains (was.took ++ k ∷ []) n) (sym here ∙ e) (Contains-push was.took k)
        | inr m ↦ Contains-append_left was.took (k ∷ []) j ((was.has j).0 m)
      ],
      λ c. placed_has p found j (elim (Contains-append_cases was.took (k ∷ []) j c) [
        | inl m ↦ inr ((was.has j).1 m)
        | inr m ↦ inl (here ∙ only_one k j m)
      ]),
    )

    grew_here : (f : ℕ) (d : S) → (kind.view (get_or mid p.server.0 d)).size f ≡ (kind.view (get_or old p.server.0 d)).size f + bytes_in found p.server.0 f
        → (kind.view (get_or new p.server.0 d)).size f ≡ (kind.view (get_or old p.server.0 d)).size f + bytes_in (placed p found) p.server.0 f
    grew_here f d e = elim (cases_eq f place.file) [
      | inl is ↦
          let own : cond (p.server.0 == p.server.0 && p.file == f) p.len 0 ≡ p.len =
          ap (λ b. cond (b && p.file == f) p.len 0) (eq-eqb p.server.0 p.server.0 refl) ∙ ap (λ b. cond b p.len 0) (eq-eqb p.file f (made.file ∙ sym is)) in
          let size : (kind.view (get_or new p.server.0 d)).size f ≡ (kind.view (get_or mid p.server.0 d)).size f + length bytes =
          subst (λ (n : ℕ). (kind.view (get_or new p.server.0 d)).size n ≡ (kind.view (get_or mid p.server.0 d)).size n + length bytes) (sym is) (omega (arith, made.size d, made.at d)) in
          omega (arith, size, e, own, made.len, bytes_in-placed p found p.server.0 f)
      | inr ne ↦
          let own : cond (p.server.0 == p.server.0 && p.file == f) p.len 0 ≡ 0 =
          ap (λ b. cond (b && p.file == f) p.len 0) (eq-eqb p.server.0 p.server.0 refl) ∙ ap (λ b. cond b p.len 0) (ne_eqb p.file f (λ is. ne (sym is ∙ made.file))) in
          omega (arith, made.others d f ne, e, own, bytes_in-placed p found p.server.0 f)
    ]

    grew_elsewhere : (j f : ℕ) (d : S) → j ≢ p.server.0 → (kind.view (get_or mid j d)).size f ≡ (kind.view (get_or old j d)).size f + bytes_in found j f
        → (kind.view (get_or new j d)).size f ≡ (kind.view (get_or old j d)).size f + bytes_in (placed p found) j f
    grew_elsewhere j f d ne e =
        let own : cond (p.server.0 == j && p.file == f) p.len 0 ≡ 0 = ap (λ b. cond (b && p.file == f) p.len 0) (ne_eqb p.server.0 j (λ is. ne (sym is))) in
        let same : (kind.view (get_or new j d)).size f ≡ (kind.view (get_or mid j d)).size f = ap (λ (s : S). (kind.view s).size f) (tried.elsewhere j d (λ is. ne (is ∙ sym here))) in
        omega (arith, same, e, own, bytes_in-placed p found j f)

    take_it : Going kind (span down old new) place (i + 1) bytes (placed p found)
    take_it = record {
      each = each_now;
      syncs = syncs_now;
      lows = lows_now;
      others = others_now;
      took = was.took ++ k ∷ [];
      has = has_now;
      untouched = untouched_now;
      took_len = omega (arith, length-append was.took (k ∷ []), was.took_len, length-placed p found);
      copies = All-placed (IsNewCopy kind (span down old new) place.file bytes) p found made_now copies_on;
      ascends = ascends_placed p found (λ c. no_copy (subst (λ (n : ℕ). Contains (servers found) n) here c)) was.ascends;
      written = subst (λ (t : List ℕ). LeavesOut (IsOut kind (span down old new)) t (was.took ++ k ∷ [])) (sym next)
          (leaves_take (IsOut kind (span down old new)) (take i place.servers) was.took k written_on);
      grew = λ j f d h. elim (was.grew j f d h) [
        | inl r ↦ inl (rose_before j r)
        | inr e ↦ elim (cases_eq j p.server.0) [
          | inl is ↦ inr (subst (λ (n : ℕ). (kind.view (get_or new n d)).size f ≡ (kind.view (get_or old n d)).size f + bytes_in (placed p found) n f) (sym is)
              (grew_here f d (subst (λ (n : ℕ). (kind.view (get_or mid n d)).size f ≡ (kind.view (get_or old n d)).size f + bytes_in found n f) is e)))
          | inr ne ↦ inr (grew_elsewhere j f d ne e)
        ]
      ];
      total = λ none.
          let before : all_stored kind mid ≡ all_stored kind old + length found * length bytes = was.total (λ j r. none j (rose_before j r)) in
          let more : length (placed p found) * length bytes ≡ length found * length bytes + length bytes = one_more (length found) (length (placed p found)) (length bytes) (length-placed p found) in
          omega (arith, stored, before, more);
    }

  pub going_take : (items : List Pointer) (p : Pointer) (file : ℕ) → items ≡ placed p found → p.server.0 ≡ k → file ≡ place.file → IsNewCopy kind (span down mid new) file bytes p
      → all_stored kind new ≡ all_stored kind mid + length bytes → Going kind (span down old new) place (i + 1) bytes items
  going_take items p file is here is_file made stored = subst (λ (ps : List Pointer). Going kind (span down old new) place (i + 1) bytes ps) (sym is)
      (take_it p here (subst (λ (f : ℕ). IsNewCopy kind (span down mid new) f bytes p) is_file made) stored)

-- before the first try
pub going_none : {S : Type 0} {kind : StoreKind S} → KindLaws kind → (down : ℕ → Bool) (xs : List S) (place : PlaceView) (bytes : List ℕ)
    → Going kind (span down xs xs) place 0 bytes []
going_none {kind = kind} laws down xs place bytes = record {
  each = each_same laws xs;
  syncs = λ k d h. refl;
  lows = λ k d low. refl;
  others = λ k f d other. refl;
  took = [];
  took_len = refl;
  written = tt;
  has = λ k. (λ c. c, λ c. c);
  copies = All-nil (IsNewCopy kind (span down xs xs) place.file bytes);
  ascends = tt;
  untouched = λ k d none. refl;
  grew = λ k f d h. inr (omega arith);
  total = λ none. omega arith;
}

-- the server that is tried is on the shelf
pub on_shelf : {S : Type 0} {kind : StoreKind S} {old mid : List S} (servers : List ℕ) (n i k : ℕ)
    → IsOrder n servers → n ≤ length old → EachFollows kind old mid [] → i < n → slice_get servers i ≡ Some k → k < length mid
on_shelf servers n i k order room each h at =
    let below : i < length servers = omega (arith, h, order.len) in
    omega (arith, order.known i 0 below, get_or_from_slice_get servers i k 0 at, room, each.same_length)

pub low_copies : {S : Type 0} {kind : StoreKind S} {t : Span S} (file : ℕ) (bytes : List ℕ) (ps : List Pointer)
    → All (IsNewCopy kind t file bytes) ps → All (IsLow (length bytes)) ps
low_copies file bytes ps copies = λ j d h. record { len = (copies j d h).len; low = (copies j d h).low }

-- the slice of these copies
pub stored_by : {S : Type 0} {kind : StoreKind S} {t : Span S} {place : PlaceView} {i : ℕ} {bytes : List ℕ} (replicas : ℕ) (s : Slice)
    → Going kind t place i bytes (pointers_of s) → length (pointers_of s) ≡ replicas → 0 < replicas → IsStored kind t replicas place bytes s
stored_by {kind = kind} {t = t} {place = place} {i = i} {bytes = bytes} replicas s was width some = record {
  width = width;
  tried = i;
  took = was.took;
  took_len = was.took_len ∙ width;
  len = len_of_first s (pointers_of s) (length bytes) refl (omega (arith, width, some)) (low_copies place.file bytes (pointers_of s) was.copies);
  written = was.written;
  servers = was.has;
  copies = was.copies;
  untouched = was.untouched;
  grew = was.grew;
  total = λ none. was.total none ∙ ap (λ (n : ℕ). all_stored kind t.before + n * length bytes) width;
}

-- and it lies inside the stores
pub inside_by : {S : Type 0} {kind : StoreKind S} {t : Span S} {place : PlaceView} {i : ℕ} {bytes : List ℕ} {ps : List Pointer}
    → place.file < 8 → Going kind t place i bytes ps → All (IsCopyInside kind t.after) ps
inside_by {kind = kind} {t = t} {ps = ps} file was = λ j d h.
    let p : Pointer = get_or ps j d in
    let c = was.copies j d h in (
      omega (arith, c.server, was.each.same_length),
      omega (arith, c.file, file),
      λ x. subst (λ (f : ℕ). p.at + p.len ≤ (kind.view (get_or t.after p.server.0 x)).size f) (sym c.file) (omega (arith, c.size x, c.len)),
    )

-- each store grew by nothing or by these bytes, in the file of the place
pub grown_by : {S : Type 0} {kind : StoreKind S} {t : Span S} {place : PlaceView} {i : ℕ} {bytes : List ℕ} {found : List Pointer}
    → Going kind t place i bytes found → GrowsOnce kind t place (length bytes)
grown_by {kind = kind} {t = t} {place = place} {i = i} {bytes = bytes} {found = found} was = record {
  others = was.others;
  beside = λ k d none. was.untouched k d (λ c. none (taken k c));
  once = λ k d h. elim (was.grew k place.file d h) [
    | inl r ↦ inl r
    | inr e ↦ inr (elim (once_in (length bytes) k place.file found was.ascends (λ j x below. (was.copies j x below).len)) [
      | inl none ↦ inl (omega (arith, e, none))
      | inr one ↦ inr (e ∙ ap (λ (n : ℕ). (kind.view (get_or t.before k d)).size place.file + n) one)
    ])
  ];
}
  where
    taken : (k : ℕ) → Contains (take i place.servers) k → Contains place.servers k
    taken k c =
        let here : c.0 < i = omega (arith, c.1, length-take i place.servers) in
        (c.0, omega (arith, c.1, length-take i place.servers), sym (get_or-take i place.servers c.0 k here) ∙ c.2)

-- all servers were tried, and too few took a copy
pub too_few : {S : Type 0} {kind : StoreKind S} {t : Span S} {place : PlaceView} {i : ℕ} {bytes : List ℕ} {found : List Pointer} (n replicas : ℕ)
    → IsOrder n place.servers → n ≤ i → Going kind t place i bytes found → length found < replicas → AreTooFew kind t n replicas
too_few {kind = kind} {t = t} {place = place} {i = i} n replicas order past was few =
    let all : take i place.servers ≡ place.servers = take_all i place.servers (omega (arith, order.len, past)) in
    record {
      rest = was.took;
      few = omega (arith, was.took_len, few);
      out = λ k h. leaves_or_out (IsOut kind t) place.servers was.took k
          (subst (λ (x : List ℕ). LeavesOut (IsOut kind t) x was.took) all was.written) (order.each k h);
    }
