use Rattle.wtf_files_rows.proofs.BenchLaws.{slice_on}
use Rattle.wtf_files_rows.proofs.spilled.list_stored.Goals as goal

pub returns-then-before-clause-bytes : goal.returns-then-before-clause-bytes
returns-then-before-clause-bytes c =
    let made = c.in_ok-slice.ensures in
    slice_on c.stored.new.dev c.list_came.new.dev c.in_ok-slice.slice made.dev.sound.shelf c.in_ok-_list.ensures made.bytes
