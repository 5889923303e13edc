-- Spans of what is lent.
use Rattle.std.proofs.Common.{◌≡◌, ℕ, ◌≤◌, ◌⊎◌, List, [], ◌∷◌, ◌++◌, ◌∙◌, refl, sym, ap, subst, arith, inl, inr}
use Rattle.std.specs.List.{Contains}
use Rattle.std.specs.Borrow.{MutBor}
use Rattle.wtf_base.specs.declared.settings.Settings.{Settings}
use Rattle.wtf_base.specs.declared.slice.Slice.{Slice}
use Rattle.wtf_dev.specs.Store.{Range, StoreKind, KindLaws}
use Rattle.wtf_dev.specs.Each.{EachFollows}
use Rattle.wtf_dev.proofs.Each.{each_on, each_same}
use Rattle.wtf_overlay.specs.declared.part.Entry.{Entry}
use Rattle.wtf_replica.specs.Downs.{settings_of}
use Rattle.wtf_replica.specs.Outs.{SameFrom}
use Rattle.wtf_region.specs.declared.dev.Dev.{Dev}
use Rattle.wtf_region.specs.Apart.{with_ranges}
use Rattle.wtf_region.specs.Cached.{CacheView, AreFrom, CacheInside, CacheTrue}
use Rattle.wtf_region.specs.Inside.{is_inside}
use Rattle.wtf_region.specs.Devs.{GoesOn, IsSoundDev, RemembersTrue, remembered, shown_in}
use Rattle.wtf_region.specs.Reads.{IsTrueList}
use Rattle.wtf_region.proofs.Frames.{CacheInside-on, CacheTrue-on}

-- nothing is done
pub goes_nowhere : {S : Type 0} {kind : StoreKind S} → KindLaws kind → (dev : Dev S) → IsSoundDev kind dev → GoesOn kind dev dev []
goes_nowhere laws dev sound = record {
  shelf = refl;
  cache = refl;
  replicas = refl;
  ring = refl;
  settings = refl;
  each = each_same laws dev.shelf.now;
  past = λ k d low. refl;
  sound = sound;
  lists = λ ranges h. h;
}

with_ranges-append : (before p q : List (ℕ × Range)) → with_ranges (with_ranges before p) q ≡ with_ranges before (p ++ q)
with_ranges-append before [] q = refl
with_ranges-append before (r ∷ rs) q = with_ranges-append (r ∷ before) rs q

-- two spans join
pub goes_on : {S : Type 0} {kind : StoreKind S} → KindLaws kind → {old mid new : Dev S} {p q : List (ℕ × Range)}
    → GoesOn kind old mid p → GoesOn kind mid new q → GoesOn kind old new (p ++ q)
goes_on {kind = kind} laws {new = new} {p = p} {q = q} f g = record {
  shelf = g.shelf ∙ f.shelf;
  cache = g.cache ∙ f.cache;
  replicas = g.replicas ∙ f.replicas;
  ring = g.ring ∙ f.ring;
  settings = g.settings ∙ f.settings;
  each = each_on laws f.each g.each;
  past = λ k d low. g.past k d (subst (λ (s : Settings). s.servers ≤ k) (sym f.settings) low) ∙ f.past k d low;
  sound = g.sound;
  lists = λ ranges h. subst (RemembersTrue kind new) (with_ranges-append ranges p q)
      (g.lists (with_ranges ranges p) (f.lists ranges h));
}

-- A call that leaves the lists in the cache, whatever it appends or punches: no more is asked of it than that the stores follow, and that those of no
-- server of the settings are as they were.
pub goes_by : {S : Type 0} {kind : StoreKind S} → KindLaws kind → (old new : Dev S) (p : List (ℕ × Range)) → IsSoundDev kind old
    → new.shelf.ghost_name ≡ old.shelf.ghost_name → new.cache.ghost_name ≡ old.cache.ghost_name → remembered new ≡ remembered old
    → AreFrom new.ring.now new.cache.now.places
    → new.replicas ≡ old.replicas → new.ring ≡ old.ring → new.settings ≡ old.settings → EachFollows kind old.shelf.now new.shelf.now p
    → SameFrom old.settings.servers old.shelf.now new.shelf.now → GoesOn kind old new p
goes_by {kind = kind} laws old new p sound shelf cache same from replicas ring settings each past = record {
  shelf = shelf;
  cache = cache;
  replicas = replicas;
  ring = ring;
  settings = settings;
  each = each;
  past = past;
  sound = record {
    replicas = ap (λ r. settings_of r.now) replicas ∙ sound.replicas ∙ sym settings;
    ring = ap (λ r. r.now.servers) ring ∙ sound.ring ∙ sym (ap (λ (s : Settings). s.servers) settings);
    shelf = let few = ap (λ (s : Settings). s.servers) settings in omega (arith, sound.shelf, each.same_length, few);
    cache = from;
    lists = subst (λ (s : Settings). CacheInside (is_inside kind new.shelf.now s) (remembered new)) (sym settings)
        (subst (CacheInside (is_inside kind new.shelf.now old.settings)) (sym same)
        (CacheInside-on laws each old.settings sound.shelf (remembered old) sound.lists));
  };
  lists = λ ranges h. subst (λ (s : Settings). CacheTrue (shown_in kind new) s.region (with_ranges ranges p) (remembered new)) (sym settings)
      (subst (CacheTrue (shown_in kind new) old.settings.region (with_ranges ranges p)) (sym same)
      (CacheTrue-on laws each old.settings sound.shelf old.settings.region ranges (remembered old) sound.lists h));
}

-- the same with another cache
abbrev pub with_cache : {S : Type 0} → Dev S → MutBor CacheView → Dev S
with_cache dev cache = record { shelf = dev.shelf; replicas = dev.replicas; ring = dev.ring; cache = cache; settings = dev.settings }

-- A call that leaves the stores: each list that is remembered now was, or may be.
pub goes_cached : {S : Type 0} {kind : StoreKind S} → KindLaws kind → (old : Dev S) (cache : MutBor CacheView) → cache.ghost_name ≡ old.cache.ghost_name
    → IsSoundDev kind old
    → cache.now.places ≡ old.cache.now.places
    → ((e : Slice × List Entry) → Contains cache.now.lists e → Contains (remembered old) e ⊎ IsTrueList kind old e.0 e.1)
    → GoesOn kind old (with_cache old cache) []
goes_cached laws old cache name sound places from = record {
  shelf = refl;
  cache = name;
  replicas = refl;
  ring = refl;
  settings = refl;
  each = each_same laws old.shelf.now;
  past = λ k d low. refl;
  sound = record {
    replicas = sound.replicas;
    ring = sound.ring;
    shelf = sound.shelf;
    cache = subst (AreFrom old.ring.now) (sym places) sound.cache;
    lists = λ e there. elim (from e there) [ inl was ↦ sound.lists e was | inr is ↦ (is.lies, is.inside) ];
  };
  lists = λ ranges h e there apart bytes tells. elim (from e there) [
    | inl was ↦ h e was apart bytes tells
    | inr is ↦ is.decodes bytes tells
  ];
}
