use Rattle.std.proofs.Common.{◌≡◌, take, count_by}
use Rattle.wtf_base.specs.declared.ids.InodeId.{InodeId}
use Rattle.wtf_imagefmt.specs.Lookups.{is_name_of}
use Rattle.wtf_image.specs.Tables.{count_in}
use Rattle.wtf_image.proofs.counts.counts_of.Given as goal

abbrev pub invariant-loop-record : goal.invariant-loop-record
invariant-loop-record l = (i : InodeId) → count_in l.counts.entries i ≡ count_by (λ r. is_name_of i r.node) (take l.record-index l.paths)
