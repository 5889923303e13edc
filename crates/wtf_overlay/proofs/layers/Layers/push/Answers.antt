use Rattle.std.proofs.Common.{◌≡◌, ◌++◌, ◌+◌, ◌∷◌, [], max, subst, sym, rules}
use Rattle.wtf_overlay.specs.Clips.{Within}
use Rattle.wtf_overlay.specs.Stacks.{StandFor}
use Rattle.wtf_overlay.proofs.Clipping.{Within-push}
use Rattle.wtf_overlay.proofs.Standing.{StandFor-push}
use Rattle.wtf_overlay.proofs.layers.Layers.push.Goals as goal

pub invariant_of-self-2 : goal.invariant_of-self-2
invariant_of-self-2 c =
    let e = c.args.e in
    let old = c.self.inside in
    let list : c.push.new.self ≡ old.entries ++ e ∷ [] = c.in_ok-push.ensures.ok in
    let tail : c.push-room.new.self.items ≡ old.tail.items ++ e ∷ [] = search rules in
    let reach : c.max-self-inside.result ≡ max old.reach (e.off + e.len) = search rules in (
      subst (λ es. StandFor es old.runs.items c.push-room.new.self.items) (sym list)
          (subst (λ l. StandFor (old.entries ++ e ∷ []) old.runs.items l) (sym tail)
          (StandFor-push old.entries old.tail.items e old.runs.items c.self.invariant.0)),
      subst (λ es. Within c.max-self-inside.result es) (sym list)
          (subst (λ m. Within m (old.entries ++ e ∷ [])) (sym reach) (Within-push old.reach old.entries e c.self.invariant.1)),
    )
