use Rattle.std.proofs.Common.{sym, subst, ◌∙◌}
use Rattle.wtf_kv.specs.Seen.{ascends}
use Rattle.wtf_kv.proofs.Prune.{ascends-upto}
use Rattle.wtf_kv.proofs.rows.stage_in.Goals as goal

pub has_value-requires : goal.has_value-requires
has_value-requires g c = subst ascends (sym (c.as_slice.ensures.value ∙ c.keep_upto.ensures)) (ascends-upto c.args.number c.args.versions.now.items c.requires.order)
