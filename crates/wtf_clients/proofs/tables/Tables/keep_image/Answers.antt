use Rattle.wtf_clients.proofs.Common.{Store, IsPinnedOnceMore, Key, Value, with_image, AreSound, BesideView, TablesView, ◌≡◌, ℕ, refl, sym, ap, ◌∙◌, subst}
use Rattle.wtf_clients.proofs.{Pinning.any_pins, Pinning.adds_one, Pinning.one_dropped, Soundness.image_sound, Lives.tables_of}
use Rattle.wtf_clients.proofs.tables.Tables.keep_image.Goals as goal

pub invariant_of-self-in_default : goal.invariant_of-self-in_default
invariant_of-self-in_default c =
    let old = tables_of c.self.inside in
    let new : TablesView = record old { kv = c.pin.new.self; beside = c.add.new.self } in
    let number : c.number-number.result ≡ old.kv.number = c.number-number.ensures.number in
    image_sound old new c.self.invariant (adds_one old new refl refl (any_pins old.kv c.pin.new.self _ c.in_default.ensures.ok)
    (subst (λ (n : ℕ). IsPinnedOnceMore n old.kv c.pin.new.self) number c.in_default.ensures.once) (c.in_ok-add.ensures.ok ∙ ap (with_image old.beside) number))

-- the number was not pinned: the image goes again
pub invariant_of-self-in-Err : goal.invariant_of-self-in-Err
invariant_of-self-in-Err c =
    let at = c.self.inside in
    subst (λ (b : BesideView). AreSound (record (tables_of c.self.inside) { kv = c.pin.new.self; beside = b }))
    (sym (one_dropped c.add.new.self c.drop_last.new.self at.beside c.number-number.result c.in_ok-add.ensures.ok c.drop_last.ensures))
    (subst (λ (s : Store Key Value). AreSound (record (tables_of c.self.inside) { kv = s; beside = at.beside })) (sym c.in-Err.ensures.err) c.self.invariant)

pub invariant_of-self : goal.invariant_of-self
invariant_of-self c = subst (λ (b : BesideView). AreSound (record (tables_of c.self.inside) { beside = b })) (sym c.in_err-add.ensures.err) c.self.invariant
