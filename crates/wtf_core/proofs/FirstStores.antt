-- What the stores of the settings' servers tell by themselves: where all that a core names lies inside them, what is kept for it stands over them.
use Rattle.wtf_core.proofs.Common.{⊤, slice_get, and_parts, ltb-true, length-take, Settings, EachFollows, KeeperView, StoreKind, KindLaws, told_by, byte_at}
use Rattle.wtf_core.proofs.Common.{span, byte_at-within, Machine, Tree, metadata_at, TellsOn, is_place_inside, tells_on, HoldsKept, TellsWhere, AreSound}
use Rattle.wtf_core.proofs.Common.{kept_pinned, pinned_live, stands_where, HoldsTree, StandsFor, IsWithin, KeepsImages, stores_of, CoreView, ◌≡◌, ◌<◌, ◌&&◌, ℕ}
use Rattle.wtf_core.proofs.Common.{zero, suc, nat_lt, false, List, [], ◌∷◌, take, Option, refl, ap, ◌∙◌, arith}
use Rattle.wtf_overlay.specs.Origin.{Place}
use Rattle.wtf_region.specs.Inside.{size_in}
use Rattle.wtf_core.proofs.{Picturing.kept_tree, Telling.first_on}

-- a store of the first n is there, at its index
first_store : {S : Type 0} (n : ℕ) (xs : List S) (k : ℕ) → k < n → slice_get (take n xs) k ≡ slice_get xs k
first_store zero xs k below = absurd (omega (arith, below))
first_store (suc n) [] k below = refl
first_store (suc n) (x ∷ xs) zero below = refl
first_store (suc n) (x ∷ xs) (suc k) below = first_store n xs k (omega (arith, below))

-- on the settings' servers they tell what all stores tell
same_there : {S : Type 0} (kind : StoreKind S) (shelf : List S) (settings : Settings) (p : Place) → p.server < settings.servers
    → byte_at kind (stores_of settings shelf) p ≡ byte_at kind shelf p
same_there {S} kind shelf settings p below = ap (λ (s : Option S). told_by kind s p) (first_store settings.servers shelf p.server below)

tells_inside : {S : Type 0} (kind : StoreKind S) (shelf : List S) (settings : Settings)
    → TellsWhere (is_place_inside kind shelf settings) (byte_at kind shelf) (byte_at kind (stores_of settings shelf))
tells_inside kind shelf settings p byte inside is =
    let both = and_parts (nat_lt p.server settings.servers) (nat_lt p.file 8 && nat_lt p.at (size_in kind (slice_get shelf p.server) p.file)) inside
    in same_there kind shelf settings p (ltb-true p.server settings.servers both.0) ∙ is

-- where stores go on, so do they
pub first_later : {S : Type 0} {kind : StoreKind S} → KindLaws kind → (settings : Settings) {old new : List S} → EachFollows kind old new []
    → TellsOn (byte_at kind (stores_of settings old)) (byte_at kind (stores_of settings new))
first_later {kind = kind} laws settings {old} {new} follows p byte is =
    let below : p.server < settings.servers =
    omega (arith, byte_at-within kind (take settings.servers old) p byte is, length-take settings.servers old) in
    same_there kind new settings p below ∙ tells_on laws follows p byte (first_on laws old settings p byte is)

module _ {S : Type 0} (kind : StoreKind S) (shelf : List S) (core : CoreView) (sound : AreSound core.tables) (within : IsWithin kind shelf core) where
  -- the tree of each image that may be on the keeper stands over them
  images_within : KeepsImages kind (span (λ k. false) shelf (stores_of core.settings shelf)) core core
  images_within n there still tx tree stands =
      stands_where (is_place_inside kind shelf core.settings) (byte_at kind shelf) (byte_at kind (stores_of core.settings shelf))
      (tells_inside kind shelf core.settings) core.settings.region tx 0 (metadata_at core.tables.kv n) tree
      (within.live n (pinned_live core.tables.kv n (kept_pinned core.tables n sound there))) stands

  -- and so does that of what the keeper holds
  pub kept_within : (m : Machine) (v : KeeperView) (may : List Tree) → StandsFor (byte_at kind shelf) core m → HoldsKept v core.settings core.tables
      → HoldsTree v (byte_at kind shelf) may → HoldsTree v (byte_at kind (stores_of core.settings shelf)) may
  kept_within m v may st kept held =
      kept_tree kind (span (λ k. false) shelf (stores_of core.settings shelf)) core core m sound st.tables images_within
      (record { maps = λ n live. refl; more = omega arith; saved = (refl, refl) })
      (record { before = v; after = v; handed = λ images. ⊥; refused = ⊤; untouched = ⊤ })
      (record { kept = λ images never. absurd never; same = λ untouched. refl }) may may (λ t there. there) tt kept held
