use Rattle.std.proofs.Common.{Some, ap, sym, ◌∙◌}
use Rattle.wtf_overlay.proofs.SameEntries.{slice_exact}
use Rattle.wtf_gc.proofs.listing.is_again.Goals as goal

pub returns : goal.returns
returns c same = c.in-Some.is ∙ ap Some (slice_exact c.in-Some.last c.args.slice.now (sym c.eq.ensures ∙ same))
