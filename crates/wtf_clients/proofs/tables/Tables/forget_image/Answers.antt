use Rattle.wtf_clients.proofs.Common.{IsPinnedOnceMore, HasImage, TablesView, ℕ, refl, sym, subst}
use Rattle.wtf_clients.proofs.{Pinning.any_pins, Pinning.drops_one, Pinning.one_dropped, Soundness.forgot_sound, Lives.tables_of}
use Rattle.wtf_clients.proofs.tables.Tables.forget_image.Goals as goal

pub invariant_of-self : goal.invariant_of-self
invariant_of-self c =
    let old = tables_of c.self.inside in
    let new : TablesView = record old { kv = c.unpin.new.self; beside = c.drop_last.new.self } in
    let last : HasImage old = subst HasImage (sym c.self.view_is) c.requires.last in
    forgot_sound old new last.0 c.self.invariant last.1 (drops_one old new refl refl (any_pins old.kv c.unpin.new.self _ c.unpin.ensures.rest) last.0 last.1
    (subst (λ (n : ℕ). IsPinnedOnceMore n c.unpin.new.self old.kv) c.number-number.ensures.number c.unpin.ensures.once)
    (one_dropped old.beside c.drop_last.new.self last.0 old.kv.number last.1 c.drop_last.ensures))
