-- What a core that stands for a machine has in its map, and what a line keeps of it.
use Rattle.std.proofs.Common.{◌≡◌, ◌∙◌, ℕ, List, Some, nat_eq, sym, ap, subst, arith}
use Rattle.std.specs.List.{list_any}
use Rattle.std.specs.Prelude.{IsTrue}
use Rattle.wtf_dev.specs.Store.{StoreKind}
use Rattle.wtf_imagefmt.specs.Savable.{IsSavable}
use Rattle.wtf_imagefmt.specs.Shown.{shown}
use Rattle.wtf_image.proofs.StandsLaws.{stands_savable}
use Rattle.wtf_kv.specs.Stores.{is_live, is_pinned}
use Rattle.wtf_replica.specs.Spans.{Span}
use Rattle.wtf_model.specs.declared.answer.Answer.{Answer}
use Rattle.wtf_model.specs.declared.event.Event.{Event}
use Rattle.wtf_model.specs.Machines.{Machine}
use Rattle.wtf_meta.specs.Contents.{Told}
use Rattle.wtf_meta.specs.Maps.{metadata_at}
use Rattle.wtf_meta.specs.Trees.{Stands}
use Rattle.wtf_clients.specs.Sounds.{AreSound}
use Rattle.wtf_clients.specs.Views.{metadata_now}
use Rattle.wtf_clients.proofs.Lives.{number_live, pinned_live}
use Rattle.wtf_core.specs.Standing.{StandsFor}
use Rattle.wtf_core.specs.Turns.{IsLine}
use Rattle.wtf_core.specs.Views.{CoreView}
use Rattle.wtf_core.proofs.Moves.{line_moves}
use Rattle.wtf_core.proofs.Watching.{line_watched, watched_pinned}

-- the tree of the map now
pub now_stands : (told : Told) (core : CoreView) (m : Machine) → StandsFor told core m
    → Stands core.settings.region told core.tables.next_tx 0 (metadata_now core.tables.kv) m.now
now_stands told core m st = st.tables.later core.tables.next_tx (omega arith)

-- the map can be saved
pub now_savable : (told : Told) (core : CoreView) (m : Machine) → AreSound core.tables → StandsFor told core m
    → IsSavable core.settings.region core.tables.next_tx (shown core.tables.kv)
now_savable told core m sound st =
    stands_savable core.settings.region told core.tables.next_tx 0 (metadata_now core.tables.kv) m.now (now_stands told core m st) core.tables.next_tx
    sound.begun st.tables.before

-- the map at the number that is watched stays
pub watched_map : {S : Type 0} (kind : StoreKind S) (t : Span S) (old mid : CoreView) (e : Event) (a : Answer) (n : ℕ) → AreSound old.tables
    → AreSound mid.tables → IsLine kind t old mid e a → old.tables.beside.watched ≡ Some n → IsTrue (is_live old.tables.kv n)
    → metadata_at mid.tables.kv n ≡ metadata_at old.tables.kv n
watched_map kind t old mid e a n sound then line watched live =
    let pinned : IsTrue (is_pinned mid.tables.kv n) = watched_pinned mid.tables n then (line_watched kind t old mid sound e a line ∙ watched) in
    let was : IsTrue (is_pinned line.answered.tables.kv n) = subst (λ (ps : List ℕ). IsTrue (list_any (nat_eq n) ps)) line.tidied.pins pinned in
    line.tidied.maps n (pinned_live line.answered.tables.kv n was) ∙ (line_moves kind t old line.answered sound a e line.turn).maps n live

-- and the map now, where nothing is installed
pub same_map : {S : Type 0} (kind : StoreKind S) (t : Span S) (old mid : CoreView) (e : Event) (a : Answer) → AreSound old.tables → IsLine kind t old mid e a
    → mid.tables.kv.number ≡ old.tables.kv.number → metadata_now mid.tables.kv ≡ metadata_now old.tables.kv
same_map kind t old mid e a sound line number =
    let n : ℕ = line.answered.tables.kv.number in
    let same : n ≡ old.tables.kv.number = sym line.tidied.number ∙ number in
    ap (metadata_at mid.tables.kv) line.tidied.number ∙ line.tidied.maps n (number_live line.answered.tables.kv)
    ∙ ap (metadata_at line.answered.tables.kv) same
    ∙ (line_moves kind t old line.answered sound a e line.turn).maps old.tables.kv.number (number_live old.tables.kv)
