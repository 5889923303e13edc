use Rattle.std.proofs.Common.{subst}
use Rattle.wtf_occ.specs.Attempts.{Attempted}
use Rattle.wtf_values.specs.declared.key.Key.{Key}
use Rattle.wtf_values.specs.declared.value.Delta.{Delta}
use Rattle.wtf_meta.specs.Maps.{seen}
use Rattle.wtf_meta.specs.FileEdits.{file_of}
use Rattle.wtf_meta.specs.Appends.{length_keys}
use Rattle.wtf_region.specs.Edited.{Recorded}
use Rattle.wtf_region.proofs.reading.file_len.Goals as goal

pub returns-clause-recorded : goal.returns-clause-recorded
returns-clause-recorded c =
    let i = c.args.inode in
    let v = file_of i (seen c.args.kv.now c.args.at.now) in
    subst (λ (a : Attempted Key Delta). Recorded i (length_keys v) a c.record_length.new.at) c.file_end-end.ensures.same
    (c.in_ok-record_length.ensures.recorded v c.file_end-end.ensures.end)
