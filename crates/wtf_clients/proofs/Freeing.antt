-- What a collection freed: ranges of garbage, in their files, also where the server failed before it was done.
-- NSDI 2016, section 2.8 (garbage collection in two scans).
use Rattle.wtf_clients.proofs.Common.{not, slice_index_or, All, and_parts, and_from, or_left, or_right, or_cases, or_from, not-true, both_ways, cases_Bool}
use Rattle.wtf_clients.proofs.Common.{true≢false, eqb-true, eq-eqb, ltb-true, lt-ltb, le-leb, All-nil, All-cons, All-head, All-tail, list_any-append, Settings}
use Rattle.wtf_clients.proofs.Common.{EachFollows, Range, StoreKind, KindLaws, each_same, Place, punched_on, Answer, NoServer, NoScan, Dev, lies_in, lies_apart}
use Rattle.wtf_clients.proofs.Common.{are_apart, with_ranges, CacheTrue, GoesOn, stores, remembered, is_down_in, shown_in, goes_on, Extent, extents_cover}
use Rattle.wtf_clients.proofs.Common.{LiesOn, AreApart, CountsFreed, lie_in, tried_on, ScanView, GcView, mark_of, is_garbage, TablesView, with_gc, off}
use Rattle.wtf_clients.proofs.Common.{is_below, AreUpto, KeepsStore, CollectsAll, CollectsSome, CollectTurn, ◌≡◌, ℕ, ◌+◌, ◌-◌, ◌*◌, ◌<◌, Bool, true, false}
use Rattle.wtf_clients.proofs.Common.{◌&&◌, ◌||◌, cond, nat_eq, nat_le, nat_lt, List, [], ◌∷◌, ◌++◌, refl, sym, ap, ◌∙◌, subst, ⊎_elim, arith}
use Rattle.wtf_clients.proofs.Punched.{tried_among}

-- ---- ranges of garbage
-- what lies apart from them lies in none
out_of : (ranges : List (ℕ × Range)) (p : Place) → lies_apart ranges p ≡ true → lie_in ranges p ≡ false
out_of [] p h = refl
out_of (r ∷ rs) p h =
    let both = and_parts (not (lies_in p r)) (lies_apart rs p) h in
    or_from (lies_in p r) (lie_in rs p) (not-true (lies_in p r) both.0) (out_of rs p both.1)

-- so what lies off a set and apart from the ranges lies off both
pub off_both : (X Y : Place → Bool) (ranges : List (ℕ × Range)) → ((p : Place) → Y p ≡ true → (X p || lie_in ranges p) ≡ true) → (qs : List Place)
    → off X qs ≡ true → are_apart ranges qs ≡ true → off Y qs ≡ true
off_both X Y ranges only [] h apart = refl
off_both X Y ranges only (q ∷ qs) h apart =
    let was = and_parts (not (X q)) (off X qs) h in
    let is = and_parts (lies_apart ranges q) (are_apart ranges qs) apart in
    and_from (not (Y q)) (off Y qs) (⊎_elim
    (λ here. absurd (both_ways (X q || lie_in ranges q) (or_from (X q) (lie_in ranges q) (not-true (X q) was.0) (out_of ranges q is.0)) (only q here)))
    (λ none. ap not none)
    (cases_Bool (Y q))) (off_both X Y ranges only qs was.1 is.1)

-- the first of ranges that share no byte, with one behind them that was tried, share none
pub front_apart : (rs rest : List (ℕ × Range)) (down : Bool) (k : ℕ) (r : Range) → AreApart (rs ++ (k, r) ∷ rest) → AreApart (rs ++ punched_on down k r)
front_apart [] rest true k r h = tt
front_apart [] rest false k r h = (h.0, λ p here. refl, tt)
front_apart (q ∷ rs) rest down k r h = (
  h.0,
  λ p here. ⊎_elim
      (λ there. absurd (both_ways (lie_in (rs ++ (k, r) ∷ rest) p) (h.1 p here) (tried_among down rs rest k r p there)))
      (λ none. none)
      (cases_Bool (lie_in (rs ++ punched_on down k r) p)),
  front_apart rs rest down k r h.2,
)

-- what lies in a set or in the first of ranges lies in it or in all of these
pub more_behind : (b : Bool) (rs qs : List (ℕ × Range)) (p : Place) → (b || lie_in rs p) ≡ true → (b || lie_in (rs ++ qs) p) ≡ true
more_behind b rs qs p h = ⊎_elim
    (λ was. or_left b (lie_in (rs ++ qs) p) was)
    (λ there. or_right b (lie_in (rs ++ qs) p)
    (list_any-append (λ r. lies_in p r) rs qs ∙ or_left (lie_in rs p) (lie_in qs p) there)) (or_cases b (lie_in rs p) h)

-- ---- what a collection did
-- other extents were freed, and all else of the tables is as it was
abbrev pub with_freed : TablesView → List Extent → TablesView
with_freed old freed = record old { beside = with_gc old.beside (record old.beside.gc { freed = freed }) }

-- Ranges were punched that share no byte, all of them garbage, on servers that are there; the lists that are remembered are true, but of slices
-- of which a byte was punched. No byte counts as freed but those that did and those of the ranges.
pub record Freed {S : Type 0} (kind : StoreKind S) (before after : Dev S) (old new : TablesView) : Type 0 where
  pub ranges : List (ℕ × Range)
  pub apart : AreApart ranges
  pub garbage : (p : Place) → lie_in ranges p ≡ true → is_garbage old.beside.gc p ≡ true
  pub server : (p : Place) → lie_in ranges p ≡ true → p.server < before.settings.servers
  pub follows : EachFollows kind (stores before) (stores after) ranges
  pub lists : (already : List (ℕ × Range)) → CacheTrue (shown_in kind before) before.settings.region already (remembered before)
      → CacheTrue (shown_in kind after) before.settings.region (with_ranges already ranges) (remembered after)
  pub is : new ≡ with_freed old new.beside.gc.freed
  pub only : (p : Place) → extents_cover new.beside.gc.freed p ≡ true → (extents_cover old.beside.gc.freed p || lie_in ranges p) ≡ true

kept_freed : (old new : TablesView) (ranges : List (ℕ × Range)) → KeepsStore old new → CountsFreed old.beside.gc new.beside.gc ranges
    → new ≡ with_freed old new.beside.gc.freed
kept_freed old new ranges keeps c =
    let gc : new.beside.gc ≡ record old.beside.gc { freed = new.beside.gc.freed } =
    λ i. record { running = c.running i; finished = c.finished i; older = c.older i; newer = c.newer i; freed = new.beside.gc.freed } in
    let beside : new.beside ≡ with_gc old.beside (record old.beside.gc { freed = new.beside.gc.freed }) = keeps.keeps.beside ∙ ap (with_gc old.beside) gc in
    λ i. record { kv = keeps.kv i; next_tx = keeps.keeps.next_tx i; clients = keeps.keeps.clients i; beside = beside i }

module _ {S : Type 0} {kind : StoreKind S} (laws : KindLaws kind) (before after : Dev S) (old new : TablesView) (k : ℕ) where
  -- ranges that were garbage of server k
  freed_by : (ranges : List (ℕ × Range)) → AreApart ranges → ((p : Place) → lie_in ranges p ≡ true → (nat_eq p.server k && is_garbage old.beside.gc p) ≡ true)
      → k < before.settings.servers → GoesOn kind before after ranges → new ≡ with_freed old new.beside.gc.freed
      → ((p : Place) → extents_cover new.beside.gc.freed p ≡ true → (extents_cover old.beside.gc.freed p || lie_in ranges p) ≡ true)
      → Freed kind before after old new
  freed_by ranges apart are known goes is only = record {
    ranges = ranges;
    apart = apart;
    garbage = λ p here. (and_parts (nat_eq p.server k) (is_garbage old.beside.gc p) (are p here)).1;
    server = λ p here.
        let same = eqb-true p.server k (and_parts (nat_eq p.server k) (is_garbage old.beside.gc p) (are p here)).0 in
        omega (arith, same, known);
    follows = goes.each;
    lists = λ already h.
        subst (λ (st : Settings). CacheTrue (shown_in kind after) st.region (with_ranges already ranges) (remembered after)) goes.settings
        (goes.lists already h);
    is = is;
    only = only;
  }

  pub all_freed : (n : ℕ) → k < before.settings.servers → CollectsAll kind before after old new k n → Freed kind before after old new
  all_freed n known h =
      let f = h.frees in
      freed_by f.ranges f.are.apart (λ p here. sym (f.are.exact p) ∙ here) known f.goes (kept_freed old new f.ranges h.keeps f.counts)
      (λ p here. sym (f.counts.freed p) ∙ here)

  -- where the server failed, the last range may be punched though it does not count
  pub some_freed : (j : ℕ) → k < before.settings.servers → CollectsSome kind before after old new k j → Freed kind before after old new
  some_freed j known h =
      let f = h.frees in
      let down : Bool = is_down_in f.mid k in
      freed_by (f.ranges ++ tried_on f.mid (k, f.tried)) (front_apart f.ranges f.rest down k f.tried f.are.apart)
      (λ p here. sym (f.are.exact p) ∙ tried_among down f.ranges f.rest k f.tried p here) known (goes_on laws f.goes f.last)
      (kept_freed old new f.ranges h.keeps f.counts)
      (λ p here. more_behind (extents_cover old.beside.gc.freed p) f.ranges (tried_on f.mid (k, f.tried)) p (sym (f.counts.freed p) ∙ here))

  none_freed : new ≡ old → after ≡ before → Freed kind before after old new
  none_freed same stays = record {
    ranges = [];
    apart = tt;
    garbage = λ p here. absurd (true≢false (sym here));
    server = λ p here. absurd (true≢false (sym here));
    follows = subst (λ (dev : Dev S). EachFollows kind (stores before) (stores dev) []) (sym stays) (each_same laws (stores before));
    lists = λ already h.
        subst (λ (dev : Dev S). CacheTrue (shown_in kind dev) before.settings.region already (remembered dev)) (sym stays) h;
    is = subst (λ (t : TablesView). t ≡ with_freed old t.beside.gc.freed) (sym same) refl;
    only = λ p here. or_left (extents_cover old.beside.gc.freed p) false (ap (λ (t : TablesView). extents_cover t.beside.gc.freed p) (sym same) ∙ here);
  }

  pub collect_freed : (a : Answer) → CollectTurn kind before after old new k a → Freed kind before after old new
  collect_freed (Answer.Refused NoServer) h = none_freed h.0 h.1
  collect_freed (Answer.Refused NoScan) h = none_freed h.0 h.1
  collect_freed (Answer.Collected n) h = all_freed n h.0 h.1
  collect_freed (Answer.FaultPunch j) h = some_freed j h.0 h.1
  collect_freed a h = absurd h

-- ---- where ranges lie
-- a range that has a byte has its last one
last_of : (k : ℕ) (r : Range) → 0 < r.len → lies_in (record { server = k; file = r.file; at = r.at + (r.len - 1) }) (k, r) ≡ true
last_of k r some =
    and_from (nat_eq k k) (nat_eq r.file r.file && (nat_le r.at (r.at + (r.len - 1)) && nat_lt (r.at + (r.len - 1)) (r.at + r.len))) (eq-eqb k k refl)
    (and_from (nat_eq r.file r.file) (nat_le r.at (r.at + (r.len - 1)) && nat_lt (r.at + (r.len - 1)) (r.at + r.len)) (eq-eqb r.file r.file refl)
    (and_from (nat_le r.at (r.at + (r.len - 1))) (nat_lt (r.at + (r.len - 1)) (r.at + r.len)) (le-leb r.at (r.at + (r.len - 1)) (omega arith))
    (lt-ltb (r.at + (r.len - 1)) (r.at + r.len) (omega (arith, some)))))

-- only the eight files of a server have marks
file_of_mark : (s : ScanView) (k f x : ℕ) → x < mark_of s k f → f < 8
file_of_mark s k f x lt = ⊎_elim
    (λ here. ltb-true f 8 here)
    (λ past. let none : mark_of s k f ≡ 0 = ap (λ b. cond b (slice_index_or s.marks (k * 8 + f) 0) 0) past in absurd (omega (arith, lt, none)))
    (cases_Bool (nat_lt f 8))

-- garbage lies below the marks of the first of the last two scans
pub freed_low : (old : TablesView) (ranges : List (ℕ × Range)) → ((p : Place) → lie_in ranges p ≡ true → is_garbage old.beside.gc p ≡ true) → (p : Place)
    → lie_in ranges p ≡ true → p.at < mark_of old.beside.gc.older p.server p.file
freed_low old ranges are p there =
    let g : GcView = old.beside.gc in
    ltb-true p.at (mark_of g.older p.server p.file)
    (and_parts (is_below g.older p) (not (extents_cover g.older.found p || (extents_cover g.newer.found p || extents_cover g.freed p))) (are p there)).0

-- ranges below a scan's marks lie in their files
pub ranges_lie : (size : ℕ → ℕ → ℕ) (servers : ℕ) (s : ScanView) → AreUpto s size → (ranges : List (ℕ × Range)) → AreApart ranges
    → ((p : Place) → lie_in ranges p ≡ true → (p.server < servers) × (p.at < mark_of s p.server p.file)) → All (LiesOn size servers) ranges
ranges_lie size servers s upto [] apart low = All-nil (LiesOn size servers)
ranges_lie size servers s upto (r ∷ rs) apart low =
    let some = apart.0 in
    let p : Place = record { server = r.0; file = r.1.file; at = r.1.at + (r.1.len - 1) } in
    let here = low p (or_left (lies_in p r) (lie_in rs p) (last_of r.0 r.1 some)) in
    let lt : r.1.at + (r.1.len - 1) < mark_of s r.0 r.1.file = here.1 in
    let le = upto r.0 r.1.file in
    All-cons (LiesOn size servers) r rs (here.0, file_of_mark s r.0 r.1.file (r.1.at + (r.1.len - 1)) lt, omega (arith, lt, le, some))
    (ranges_lie size servers s upto rs apart.2 (λ q there. low q (or_right (lies_in q r) (lie_in rs q) there)))

-- and so do those that were punched before, with these
pub with_all : (P : ℕ × Range → Type 0) (before ranges : List (ℕ × Range)) → All P before → All P ranges → All P (with_ranges before ranges)
with_all P before [] h here = h
with_all P before (r ∷ rs) h here = with_all P (r ∷ before) rs (All-cons P r before (All-head P r rs here) h) (All-tail P r rs here)
