use Rattle.wtf_clients.proofs.Common.{Store, times_pinned, IsPinnedOnceMore, Key, Value, all_watched, TablesView, watching, ◌≡◌, ◌+◌, ℕ, Option, refl, ap, ◌∙◌}
use Rattle.wtf_clients.proofs.Common.{subst}
use Rattle.wtf_clients.proofs.{Pinning.watches_one, Soundness.watched_sound, Lives.tables_of}
use Rattle.wtf_clients.proofs.tables.Tables.watch.Goals as goal

pub invariant_of-self-2 : goal.invariant_of-self-2
invariant_of-self-2 c =
    let old = tables_of c.self.inside in
    let new : TablesView = record old { kv = c.unpin_and_mark.new.kv; beside = c.watch-before.new.self } in
    watched_sound old new c.self.invariant
    (watches_one old new refl refl
    (c.unpin_and_mark.ensures.rest ∙ ap (λ (s : Store Key Value). record s { pins = c.unpin_and_mark.new.kv.pins }) c.in_ok-pin.ensures.ok)
    c.pin.new.self (subst (λ (n : ℕ). IsPinnedOnceMore n old.kv c.pin.new.self) c.number-number.ensures.number c.in_ok-pin.ensures.once)
    (λ n.
    subst (λ (o : Option ℕ). times_pinned c.unpin_and_mark.new.kv n + all_watched n o ≡ times_pinned c.pin.new.self n) c.watch-before.ensures.before
    (c.unpin_and_mark.ensures.pins n)) (c.watch-before.ensures.is ∙ ap (watching old.beside) c.number-number.ensures.number))
