use Rattle.std.proofs.Common.{sym, ap, ◌∙◌, ◌≡◌, ◌+◌, nat_eq, count_by, cond, true}
use Rattle.std.specs.List.{list_any}
use Rattle.wtf_kv.specs.Stores.{is_pinned}
use Rattle.wtf_kv.proofs.Prune.{any-remove_key}
use Rattle.wtf_kv.proofs.PinLaws.{count-remove_key}
use Rattle.wtf_kv.proofs.store.Kv.unpin.Goals as goal

pub invariant_of-self : goal.invariant_of-self
invariant_of-self g c = λ p pinned. c.self.invariant p (any-remove_key (nat_eq c.args.n) (nat_eq p) c.self.inside.pins.items (sym (ap (list_any (nat_eq p)) c.remove_one.ensures) ∙ pinned))

pub returns-clause-once : goal.returns-clause-once
returns-clause-once g c =
    let pins = c.self.inside.pins.items in
    let pinned : list_any (nat_eq c.args.n) pins ≡ true = ap (λ s. is_pinned s c.args.n) c.self.view_is ∙ c.requires in
    rw (← c.self.view_is) (λ m. count-remove_key m c.args.n pins pinned ∙ ap (λ ps. count_by (nat_eq m) ps + cond (nat_eq m c.args.n) 1 0) (sym c.remove_one.ensures))
