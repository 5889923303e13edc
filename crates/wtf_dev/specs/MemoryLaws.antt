-- The devices in memory keep to the laws of devices. Their `impl`s give these proofs, so they stand beside the definitions.
use Rattle.std.specs.Prelude.{◌≡◌, ℕ, ◌<◌, ◌&&◌, nat_lt, if◌then◌else◌, Bool, true, false, Option, Some, None, List, [], ◌∷◌, ◌++◌, slice_get, refl}
use Rattle.std.proofs.Common.{arith, ◌∙◌, inl, inr}
use Rattle.std.proofs.lemmas.Bool.{and_parts, ltb-true}
use Rattle.std.proofs.lemmas.List.Elements.{Contains-append_left, Contains-append_right}
use Rattle.wtf_dev.specs.Store.{Range, StoreView, Outside, Kept, KindLaws}
use Rattle.wtf_dev.specs.Keep.{KeeperView, KeeperKept}
use Rattle.wtf_dev.specs.Calls.{CallCounts, CallsGoOn}
use Rattle.wtf_dev.specs.Memory.{StoreState, file_bytes, file_size, file_told, store_view, StoreFollows, mem_store, KeeperState, keeper_view, KeeperFollows}

pub outside_parts : (f i : ℕ) (xs ys : List Range) → Outside f i (xs ++ ys) → Outside f i xs × Outside f i ys
outside_parts f i [] ys h = (tt, h)
outside_parts f i (x ∷ xs) ys h = let p = outside_parts f i xs ys h.1 in ((h.0, p.0), p.1)

-- a state keeps all of itself
pub kept_same : (a : StoreView) → Kept a a []
kept_same a = record { faults = omega arith; syncs = omega arith; size = λ f. omega arith; bytes = λ f i b out told. told; shown = λ f i b out told. told; unshown = λ f i out below none. none; tells = refl }

-- two spans join
pub kept_on : (a b c : StoreView) (xs ys : List Range) → Kept a b xs → Kept b c ys → Kept a c (xs ++ ys)
kept_on a b c xs ys p q = record {
  faults = omega (arith, p.faults, q.faults);
  syncs = omega (arith, p.syncs, q.syncs);
  size = λ f. omega (arith, p.size f, q.size f);
  bytes = λ f i v out told. let parts = outside_parts f i xs ys out in q.bytes f i v parts.1 (p.bytes f i v parts.0 told);
  shown = λ f i v out told. let parts = outside_parts f i xs ys out in q.shown f i v parts.1 (p.shown f i v parts.0 told);
  unshown = λ f i out below none.
      let parts = outside_parts f i xs ys out in let grows = p.size f in
      q.unshown f i parts.1 (omega (arith, below, grows)) (p.unshown f i parts.0 below none);
  tells = q.tells ∙ p.tells;
}

-- a keeper keeps all of itself
pub keeper_kept_same : (a : KeeperView) → KeeperKept a a []
keeper_kept_same a = record { faults = omega arith; bytes = λ b told. inl told; tells = refl }

-- two spans join
pub keeper_kept_on : (a b c : KeeperView) (xs ys : List (List ℕ)) → KeeperKept a b xs → KeeperKept b c ys → KeeperKept a c (xs ++ ys)
keeper_kept_on a b c xs ys p q = record {
  faults = omega (arith, p.faults, q.faults);
  tells = q.tells ∙ p.tells;
  bytes = λ v told. elim (p.bytes v told) [
    | inl same ↦ elim (q.bytes v same) [
      | inl still ↦ inl still
      | inr new ↦ inr (new.0, Contains-append_right xs ys new.0 new.1, new.2)
    ]
    | inr first ↦ elim (q.bytes first.0 first.2) [
      | inl still ↦ inr (first.0, Contains-append_left xs ys first.0 first.1, still)
      | inr new ↦ inr (new.0, Contains-append_right xs ys new.0 new.1, new.2)
    ]
  ];
}

guarded : (test : Bool) (o : Option ℕ) (b : ℕ) → (if test then o else None) ≡ Some b → (test ≡ true) × (o ≡ Some b)
guarded true o b h = (refl, h)
guarded false o b h = absurd (cc)

-- a byte that is told is one of the file's, below its length
pub told_parts : (s : StoreState) (f i b : ℕ) → file_told s f i ≡ Some b → ((f < 8) × (i < file_size s f)) × (slice_get (file_bytes s f) i ≡ Some b)
told_parts s f i b told =
    let here = guarded (nat_lt f 8 && nat_lt i (file_size s f)) (slice_get (file_bytes s f) i) b told in
    let both = and_parts (nat_lt f 8) (nat_lt i (file_size s f)) here.0 in
    ((ltb-true f 8 both.0, ltb-true i (file_size s f) both.1), here.1)

calls_same : (c : CallCounts) → CallsGoOn c c
calls_same c = record { fails = refl; calls = omega arith; short = omega arith }

calls_on : (a b c : CallCounts) → CallsGoOn a b → CallsGoOn b c → CallsGoOn a c
calls_on a b c p q = record { fails = q.fails ∙ p.fails; calls = omega (arith, p.calls, q.calls); short = omega (arith, p.short, q.short) }

store_on : (a b c : StoreState) (xs ys : List Range) → StoreFollows a b xs → StoreFollows b c ys → StoreFollows a c (xs ++ ys)
store_on a b c xs ys p q = record {
  kept = kept_on (store_view a) (store_view b) (store_view c) xs ys p.kept q.kept;
  calls = calls_on a.calls b.calls c.calls p.calls q.calls;
}

pub mem_store_laws : KindLaws mem_store
mem_store_laws = record {
  follows_itself = λ s. record { kept = kept_same (store_view s); calls = calls_same s.calls };
  follows_on = store_on;
  keeps = λ a b xs f. f.kept;
  fits = λ s f. omega arith;
  within = λ s f i b told. (told_parts s f i b told).0;
  shows = λ s f i b told. told;
}

pub keeper_same : (s : KeeperState) → KeeperFollows s s []
keeper_same s = record { kept = keeper_kept_same (keeper_view s); calls = calls_same s.calls }

pub keeper_on : (a b c : KeeperState) (xs ys : List (List ℕ)) → KeeperFollows a b xs → KeeperFollows b c ys → KeeperFollows a c (xs ++ ys)
keeper_on a b c xs ys p q = record {
  kept = keeper_kept_on (keeper_view a) (keeper_view b) (keeper_view c) xs ys p.kept q.kept;
  calls = calls_on a.calls b.calls c.calls p.calls q.calls;
}
