use Rattle.std.proofs.Common.{◌≡◌, Some, sym, subst, ap, ◌∙◌}
use Rattle.wtf_overlay.specs.Compact.{IsCompact}
use Rattle.wtf_overlay.specs.Spilled.{only_compact}
use Rattle.wtf_spillfmt.specs.Parses.{IsNoneOr}
use Rattle.wtf_spillfmt.proofs.Lists.{compact_only, refused}
use Rattle.wtf_spillfmt.proofs.decoding.list_of.Goals as goal

pub returns-in-Ok : goal.returns-in-Ok
returns-in-Ok c =
    let es = c.args.entries.items in
    let is : c.in-Ok.list ≡ es = c.in-Ok.ensures.list in
    compact_only es (subst (λ l. IsCompact l) is c.in-Ok.ensures.compact) ∙ ap (λ l. Some l) (sym is)

pub returns-in-Err : goal.returns-in-Err
returns-in-Err c =
    let es = c.args.entries.items in
    subst (λ e. IsNoneOr (only_compact es) e) (sym c.no_list.ensures) (refused c.args.region es c.in-Err.why c.requires c.in-Err.ensures.cause)
